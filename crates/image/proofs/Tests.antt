-- The rows that judge an image, on plain values: which test gives which fault. Assumes nothing.
use mathlib.Core.Path.{◌≡◌, sym, ap, ap₂}
use mathlib.Core.Bool.{Bool, true, not, ◌&&◌, cond}
use mathlib.Core.List.{List}
use Prim.Native.Nat.{ℕ, ◌+◌, ◌*◌, ◌%◌, ◌≤◌, ◌<◌}
use borrow.Author.Tests.{eqb-true, eq-eqb, lt-ltb, le-ltb, le-leb}
use lib.Dec.{eqb, leb, ltb}
use Rattle.answer.specs.Faults.{no_fault, good}
use Rattle.answer.proofs.Orders.{row_passed, row_good}
use Rattle.checks.specs.Numbers.{count_fault, field_fault, short_fault, stated_fault, area_fault}
use Rattle.answer.proofs.Tests.{not_false}
use Rattle.image.specs.Fields.{axes_field, count_field}
use Rattle.image.specs.Head.{count_row}

-- ---- 13
module _ (place wanted x : ℕ) where
  pub field_right : x ≡ wanted → no_fault ≡ field_fault place wanted x
  unfolding field_fault
  field_right h = row_passed (not (eqb x wanted)) 12 0 place (ap not (eq-eqb x wanted h))

  pub field_is : good (field_fault place wanted x) ≡ true → x ≡ wanted
  unfolding field_fault
  field_is h = eqb-true x wanted (not_false (eqb x wanted) (row_good (not (eqb x wanted)) 12 0 place h))

pub short_right : (len : ℕ) → 40 ≤ len → no_fault ≡ short_fault len
unfolding short_fault
short_right len h = row_passed (ltb len 40) 12 0 0 (le-ltb len 40 h)

module _ (stated len : ℕ) where
  abbrev unfit : Bool
  unfit = not (eqb stated len && (leb 40 stated && leb stated 36864))

  pub stated_right : stated ≡ len → 40 ≤ stated → stated ≤ 36864 → no_fault ≡ stated_fault stated len
  unfolding stated_fault
  stated_right e h k =
      row_passed unfit 12 0 4 (ap₂ (λ (p q : Bool). not (p && q)) (eq-eqb stated len e) (ap₂ (λ (p q : Bool). p && q) (le-leb 40 stated h) (le-leb stated 36864 k)))

-- ---- 14
module _ (len axis offset n : ℕ) where
  abbrev astray : Bool
  astray = not (leb 40 offset && (eqb (offset % 8) 0 && leb (offset + 8 * n) len))

  pub area_right : 40 ≤ offset → offset % 8 ≡ 0 → offset + 8 * n ≤ len → no_fault ≡ area_fault len axis offset n
  unfolding area_fault
  area_right h e k =
      row_passed astray 13 axis 0 (ap₂ (λ (p q : Bool). not (p && q)) (le-leb 40 offset h) (ap₂ (λ (p q : Bool). p && q) (eq-eqb (offset % 8) 0 e) (le-leb (offset + 8 * n) len k)))

-- ---- a count that is used, and one that is not
module _ (img : List ℕ) (a : ℕ) where
  pub count_used : a < axes_field img → count_fault a (count_field img a) ≡ count_row img a
  unfolding count_row
  count_used h = sym (ap (λ (b : Bool). cond b (count_fault a (count_field img a)) (field_fault (8 + 2 * a) 0 (count_field img a))) (lt-ltb a (axes_field img) h))

  pub count_unused : axes_field img ≤ a → field_fault (8 + 2 * a) 0 (count_field img a) ≡ count_row img a
  unfolding count_row
  count_unused h = sym (ap (λ (b : Bool). cond b (count_fault a (count_field img a)) (field_fault (8 + 2 * a) 0 (count_field img a))) (le-ltb a (axes_field img) h))
