-- A loop that judges place by place, for any row of a place: what is left of the order, and what a turn makes of it. Assumes nothing.
use mathlib.Core.Path.{◌≡◌, sym, ◌∙◌}
use mathlib.Core.Bool.{true}
use Prim.Native.Nat.{ℕ, ◌+◌, ◌-◌, ◌≤◌, ◌<◌}
use native.Mathlib.Omega.{arith}
use Rattle.std.proofs.Common.{Result, Ok, Err}
use Rattle.answer.specs.Faults.{no_fault, good, first_fault}
use Rattle.answer.specs.Faults.{Fault}
use Rattle.answer.specs.Rows.{said}
use Rattle.answer.specs.declared.Refusal.{Refusal}
use Rattle.answer.proofs.Checks as checks
use Rattle.answer.proofs.Checks.{Handed}
use Rattle.answer.proofs.Orders.{first_begin, first_step, first_stop, first_end, first_skip}

-- of the places `from` up to `end`, whose first fault is `whole`, those from i on are left
pub record Left (f : ℕ → Fault) (whole : Fault) (from end i : ℕ) : Type 0 where
  pub begun : from ≤ i
  pub on : i ≤ end
  pub order : whole ≡ first_fault f i (end - i)

module _ (f : ℕ → Fault) where
  -- the k places from `from` on
  pub begin : (from k end : ℕ) → from + k ≡ end → Left f (first_fault f from k) from end from
  begin from k end e = record { begun = omega arith; on = omega arith; order = first_begin f from k end e }

  module _ (whole : Fault) (from end i : ℕ) (l : Left f whole from end i) where
    -- what the rest gives is what all give
    pub rest : (r : Fault) → r ≡ first_fault f i (end - i) → r ≡ whole
    rest r e = e ∙ sym l.order

    pub done : {A : Type 0} (x : A) → end ≤ i → said (Ok x) ≡ whole
    unfolding said
    done x h = rest no_fault (sym (first_end f i end h))

    -- several places that have no fault
    pub skip : (n : ℕ) → i + n ≤ end → ((j : ℕ) → j < n → good (f (i + j)) ≡ true) → Left f whole from end (i + n)
    skip n h g = record { begun = omega (arith, l.begun); on = h; order = l.order ∙ first_skip f i n end h g }

    -- one place: what its check said, where it refused and where it passed
    module _ (here : i < end) where
      pub stop : (A : Type 0) (e : Refusal) → said {A = A} (Err e) ≡ f i → {B : Type 0} (r : Result B Refusal) → Handed r e → said r ≡ whole
      stop A e s r h = rest (said r) (checks.hands A e (f i) s r h ∙ sym (first_stop f i end here (checks.fails A e (f i) s)))

      pub again : {A : Type 0} (x : A) → said (Ok x) ≡ f i → Left f whole from end (i + 1)
      again x s = record { begun = omega (arith, l.begun); on = omega arith; order = l.order ∙ first_step f i end here (checks.passes x (f i) s) }
