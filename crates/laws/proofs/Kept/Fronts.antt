-- Laws of the rows that stand in front of a primitive: which test gives which fault. They hold as they did; no proof stands on them.
use mathlib.Core.Path.{◌≡◌, ap, ap₂}
use mathlib.Core.Bool.{Bool, true, false, not, ◌||◌}
use mathlib.Core.List.{List}
use Prim.Native.Nat.{ℕ, ◌-◌, ◌≤◌, ◌<◌}
use borrow.Author.Tests.{lt-ltb, le-ltb}
use lib.Dec.{ltb}
use lib.ListN.{length}
use lib.Ieee.{Float}
use lib.Ieee.Scale.{finite}
use Rattle.answer.specs.Faults.{Fault, refusal, no_fault, when}
use Rattle.answer.proofs.Orders as orders
use Rattle.answer.proofs.Tests.{or_right}
use Rattle.utils.specs.Calls.{lower_fault}

-- ---- 2, place 1
module _ (nodes : List Float) (lower : ℕ) where
  abbrev past : Bool
  past = not (ltb lower (length nodes - 1))

  pub lower_out : length nodes - 1 ≤ lower → refusal 2 0 1 ≡ lower_fault nodes lower
  unfolding lower_fault
  lower_out h = orders.row_met past 1 0 1 (ap not (le-ltb lower (length nodes - 1) h))

  pub lower_in : lower < length nodes - 1 → no_fault ≡ lower_fault nodes lower
  unfolding lower_fault
  lower_in h = orders.row_passed past 1 0 1 (ap not (lt-ltb lower (length nodes - 1) h))

-- ---- 8 of a lent step or tolerance: not finite, or out of its bound
module _ (x : Float) (out : Bool) where
  abbrev lent_row : Fault
  lent_row = when (not (finite x) || out) (refusal 8 0 0)

  pub lent_wild : finite x ≡ false → refusal 8 0 0 ≡ lent_row
  lent_wild h = orders.row_met (not (finite x) || out) 7 0 0 (ap (λ (b : Bool). not b || out) h)

  pub lent_out : out ≡ true → refusal 8 0 0 ≡ lent_row
  lent_out h = orders.row_met (not (finite x) || out) 7 0 0 (or_right (not (finite x)) out h)

  pub lent_fine : finite x ≡ true → out ≡ false → no_fault ≡ lent_row
  lent_fine h k = orders.row_passed (not (finite x) || out) 7 0 0 (ap₂ (λ (p q : Bool). not p || q) h k)
