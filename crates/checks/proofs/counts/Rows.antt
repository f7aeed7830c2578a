-- The rows that judge whole numbers, on plain values: where a row is passed, and what is known then. Assumes nothing.
use mathlib.Core.Path.{◌≡◌, ap, ap₂}
use mathlib.Core.Bool.{Bool, true, false, not, ◌&&◌}
use Prim.Native.Nat.{ℕ, ◌≤◌}
use borrow.Author.Tests.{le-leb, leb-true}
use lib.Dec.{leb}
use Rattle.answer.specs.Faults.{no_fault, good}
use Rattle.answer.proofs.Orders as orders
use Rattle.answer.proofs.Tests.{and_left, and_right, not_false}
use Rattle.checks.specs.Numbers.{axes_count_fault, count_fault}

-- ---- a number outside a range
module _ (from to x : ℕ) where
  abbrev outside : Bool
  outside = not (leb from x && leb x to)

  between : from ≤ x → x ≤ to → outside ≡ false
  between h k = ap not (ap₂ ◌&&◌ (le-leb from x h) (le-leb x to k))

  inside_low : outside ≡ false → from ≤ x
  inside_low h = leb-true from x (and_left (leb from x) (leb x to) (not_false (leb from x && leb x to) h))

  inside_high : outside ≡ false → x ≤ to
  inside_high h = leb-true x to (and_right (leb from x) (leb x to) (not_false (leb from x && leb x to) h))

-- ---- 1
module _ (axes : ℕ) where
  pub axes_right : 1 ≤ axes → axes ≤ 4 → no_fault ≡ axes_count_fault axes
  unfolding axes_count_fault
  axes_right h k = orders.row_passed (outside 1 4 axes) 0 0 0 (between 1 4 axes h k)

  module _ (h : good (axes_count_fault axes) ≡ true) where
    counted : outside 1 4 axes ≡ false
    unfolding axes_count_fault
    counted = orders.row_good (outside 1 4 axes) 0 0 0 h

    pub axes_some : 1 ≤ axes
    axes_some = inside_low 1 4 axes counted

    pub axes_four : axes ≤ 4
    axes_four = inside_high 1 4 axes counted

-- ---- 2
module _ (axis count : ℕ) where
  pub count-fine : 2 ≤ count → count ≤ 64 → no_fault ≡ count_fault axis count
  unfolding count_fault
  count-fine h k = orders.row_passed (outside 2 64 count) 1 axis 0 (between 2 64 count h k)

  fits : good (count_fault axis count) ≡ true → outside 2 64 count ≡ false
  unfolding count_fault
  fits h = orders.row_good (outside 2 64 count) 1 axis 0 h

  pub count_enough : good (count_fault axis count) ≡ true → 2 ≤ count
  count_enough h = inside_low 2 64 count (fits h)

  pub count_few : good (count_fault axis count) ≡ true → count ≤ 64
  count_few h = inside_high 2 64 count (fits h)
