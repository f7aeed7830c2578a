-- The rows of an axis to slice, on plain values: where a row is passed, and what is known then. Assumes nothing.
use mathlib.Core.Path.{◌≡◌, ap₂}
use mathlib.Core.Bool.{Bool, true, not, ◌||◌}
use Prim.Native.Nat.{ℕ, ◌<◌}
use borrow.Author.Tests.{eq-eqb, eqb-true, lt-ltb, ltb-true, lt-leb, leb-false}
use lib.Dec.{eqb, leb, ltb}
use Rattle.answer.specs.Faults.{Fault, refusal, no_fault, good, when}
use Rattle.answer.proofs.Orders as orders
use Rattle.answer.proofs.Tests.{not_false, neither_left, neither_right}
use Rattle.checks.specs.Numbers.{no_axis_fault, not_first_fault}

-- ---- 16, whichever axis it asks for
module _ (axes : ℕ) (right : Bool) where
  abbrev barred : Bool
  barred = leb axes 1 || not right

  abbrev sixteen : Fault
  sixteen = when barred (refusal 16 0 0)

  there : 1 < axes → right ≡ true → no_fault ≡ sixteen
  there h k = orders.row_passed barred 15 0 0 (ap₂ (λ (p q : Bool). p || not q) (lt-leb axes 1 h) k)

  module _ (h : good sixteen ≡ true) where
    many : 1 < axes
    many = leb-false axes 1 (neither_left (leb axes 1) (not right) (orders.row_good barred 15 0 0 h))

    asked : right ≡ true
    asked = not_false right (neither_right (leb axes 1) (not right) (orders.row_good barred 15 0 0 h))

module _ (axes axis : ℕ) where
  pub axis_there : 1 < axes → axis < axes → no_fault ≡ no_axis_fault axes axis
  unfolding no_axis_fault
  axis_there h k = there axes (ltb axis axes) h (lt-ltb axis axes k)

  pub axis_many : good (no_axis_fault axes axis) ≡ true → 1 < axes
  unfolding no_axis_fault
  axis_many = many axes (ltb axis axes)

  pub axis_in : good (no_axis_fault axes axis) ≡ true → axis < axes
  unfolding no_axis_fault
  axis_in h = ltb-true axis axes (asked axes (ltb axis axes) h)

  -- of the two linears
  pub first_there : 1 < axes → axis ≡ 0 → no_fault ≡ not_first_fault axes axis
  unfolding not_first_fault
  first_there h k = there axes (eqb axis 0) h (eq-eqb axis 0 k)

  pub first_many : good (not_first_fault axes axis) ≡ true → 1 < axes
  unfolding not_first_fault
  first_many = many axes (eqb axis 0)

  pub first-axis : good (not_first_fault axes axis) ≡ true → axis ≡ 0
  unfolding not_first_fault
  first-axis h = eqb-true axis 0 (asked axes (eqb axis 0) h)
