-- The blends of two runs, place by place. Assumes nothing.
use Rattle.std.proofs.Common.{◌≡◌, ℕ, ◌+◌, ◌<◌, ◌≤◌, min, List, ◌++◌, length, get_or, set, drop, sym, ap, ap₂, ◌∙◌, arith}
use Rattle.std.proofs.lemmas.List.{append-nil, drop_all}
use lib.Ieee.{Float, nan}
use Rattle.answer.specs.Faults.{Fault, first_fault}
use Rattle.answer.proofs.Orders.{first_same}
use Rattle.layout.specs.Layout.{tabulate}
use Rattle.layout.proofs.Layouts.{length-tabulate, get_d_tabulate, tabulate-step}
use Rattle.blend.specs.Blend.{blended}
use Rattle.blend.specs.Scaffolding.{blends}
use Rattle.checks.specs.Numbers.{results_fault, result_fault}

abbrev pub run_at : Float → List Float → List Float → ℕ → Float
run_at f low high i = blended (get_or low i nan) (get_or high i nan) f

abbrev pub run_fault : Float → List Float → List Float → ℕ → Fault
run_fault f low high i = result_fault i (run_at f low high i)

-- 12 of the blends is 12 of the first n places, as the code goes
pub results_blends : (f : Float) (low high : List Float) (n : ℕ) → n ≡ min (length low) (length high)
    → first_fault (run_fault f low high) 0 n ≡ results_fault (blends f low high)
unfolding results_fault blends
results_blends f low high n e =
    ap (first_fault (run_fault f low high) 0) e
    ∙ sym
    (ap (first_fault (λ i. result_fault i (get_or (tabulate (min (length low) (length high)) (run_at f low high)) i nan)) 0) (length-tabulate (min (length low) (length high)) (run_at f low high))
    ∙ first_same _ _ 0 (min (length low) (length high)) (λ j a b. ap (result_fault j) (get_d_tabulate (min (length low) (length high)) j (run_at f low high) nan (omega arith))))

-- ---- a run written over, place by place
module _ (h : ℕ → Float) (xs w : List Float) (i : ℕ) (e : w ≡ tabulate i h ++ drop i xs) where
  pub run_step : (b : Float) → i < length xs → b ≡ h i → set w i b ≡ tabulate (i + 1) h ++ drop (i + 1) xs
  run_step b l q = ap₂ (λ (x : List Float) (y : Float). set x i y) e q ∙ tabulate-step i h xs l

  pub run_done : i ≤ length xs → length xs ≤ i → w ≡ tabulate (length xs) h
  run_done u l =
      let here : i ≡ length xs = omega arith in
      e ∙ ap (λ (r : List Float). tabulate i h ++ r) (drop_all i xs l) ∙ append-nil (tabulate i h) ∙ ap (λ (k : ℕ). tabulate k h) here
