-- The row of a range, where it is passed. Assumes nothing.
use mathlib.Core.Path.{◌≡◌, ◌∙◌}
use mathlib.Core.Bool.{true, false}
use mathlib.Core.List.{List}
use Prim.Native.Nat.{ℕ, ◌-◌}
use lib.ListN.{length}
use lib.Ieee.{Float, lt}
use Rattle.answer.specs.Faults.{refusal, no_fault, when, good}
use Rattle.answer.proofs.Orders as orders
use Rattle.checks.specs.Nodes.{node}
use Rattle.checks.specs.Numbers.{range_fault}

module _ (axis : ℕ) (nodes : List Float) (p : Float) where
  abbrev first : Float
  first = node nodes 0

  abbrev last : Float
  last = node nodes (length nodes - 1)

  pub range_inside : lt p first ≡ false → lt last p ≡ false → no_fault ≡ range_fault axis nodes p
  unfolding range_fault
  range_inside h k = orders.row_passed (lt last p) 10 axis 1 k ∙ orders.row_goes_on (lt p first) 10 axis 0 (when (lt last p) (refusal 11 axis 1)) h

  -- and what a passed range says
  pub range_low : good (range_fault axis nodes p) ≡ true → lt p first ≡ false
  unfolding range_fault
  range_low h = orders.row_good (lt p first) 10 axis 0 (orders.first-passed (when (lt p first) (refusal 11 axis 0)) (when (lt last p) (refusal 11 axis 1)) h)

  pub range_high : good (range_fault axis nodes p) ≡ true → lt last p ≡ false
  unfolding range_fault
  range_high h = orders.row_good (lt last p) 10 axis 1 (orders.second_passed (when (lt p first) (refusal 11 axis 0)) (when (lt last p) (refusal 11 axis 1)) h)
