-- The header: what its checks say once they are passed. Assumes nothing.
use mathlib.Core.Path.{◌≡◌, ap, ◌∙◌}
use mathlib.Core.Bool.{true, not, ◌&&◌}
use mathlib.Core.List.{List}
use Prim.Native.Nat.{ℕ, ◌+◌, ◌*◌, ◌≤◌, ◌<◌}
use native.Mathlib.Omega.{arith}
use borrow.Author.Tests.{leb-true, eqb-true}
use lib.Dec.{leb, eqb}
use lib.ListN.{length, get_or}
use Rattle.answer.specs.Faults.{good, first_fault}
use Rattle.std.proofs.Common.{Ok}
use Rattle.answer.specs.Rows.{said}
use Rattle.answer.proofs.Orders as orders
use Rattle.answer.proofs.Checks.{passes}
use Rattle.checks.specs.Numbers.{axes_count_fault, count_fault, product_fault, field_fault, short_fault, stated_fault}
use Rattle.checks.proofs.counts.Rows.{axes_four}
use Rattle.answer.proofs.Tests.{not_false, and_left, and_right}
use Rattle.layout.specs.Layout.{tabulate}
use Rattle.checks.specs.Shapes.{shape_fault}
use Rattle.checks.specs.Scaffolding.{sums_of}
use Rattle.checks.specs.declared.shapes.Holding.{Holding}
use Rattle.layout.specs.declared.Shape.{Shape}
use Rattle.layout.proofs.Layouts.{get_d_tabulate}
use Rattle.little_endian.specs.Words.{word_at}
use Rattle.image.specs.Fields.{axes_field, count_field, shape_of}
use Rattle.image.specs.Head.{start_fault, count_row, head_fault}
use Rattle.image.specs.Scaffolding.{ShapeJudged, Held}
use Rattle.image.proofs.Tests.{field_is, count_used, count_unused}

module _ (img : List ℕ) where
  pub start_axes : good (start_fault img) ≡ true → good (axes_count_fault (axes_field img)) ≡ true
  unfolding start_fault
  start_axes h = orders.first-passed (axes_count_fault (axes_field img)) _ (orders.second_passed (field_fault 0 1 (word_at 1 img 0)) _ (orders.second_passed (short_fault (length img)) _ h))

  module _ (h : good (axes_count_fault (axes_field img)) ≡ true) where
    -- 1 and the counts are told before: what is left of the shape's faults is the product
    module _ (g : good (first_fault (count_row img) 0 4) ≡ true) where
      each : (a : ℕ) → 0 ≤ a → a < 0 + axes_field img → good (count_fault a (get_or (tabulate 4 (count_field img)) a 0)) ≡ true
      each a l m =
          let four : a < 4 = omega (arith, axes_four (axes_field img) h) in
          ap good (ap (count_fault a) (get_d_tabulate 4 a (count_field img) 0 four) ∙ count_used img a (omega (arith, m)))
          ∙ orders.all_passed (count_row img) 0 4 g a (omega arith) (omega (arith, four))

      pub product_only : shape_fault (shape_of img) ≡ product_fault (shape_of img)
      unfolding shape_fault product_fault shape_of
      product_only =
          orders.or_good (axes_count_fault (axes_field img)) _ h
          ∙ orders.or_good (first_fault (λ a. count_fault a (get_or (tabulate 4 (count_field img)) a 0)) 0 (axes_field img)) _
          (ap good (orders.none_good (λ a. count_fault a (get_or (tabulate 4 (count_field img)) a 0)) 0 (axes_field img) each) ∙ orders.good-no_fault)

-- the same where the code has asked them, and what the shape holds then
module _ (img : List ℕ) (s : Shape) (e : s ≡ shape_of img) where
  pub head_product : {A : Type 0} (x : A) → said (Ok x) ≡ start_fault img → {B : Type 0} (y : B) → said (Ok y) ≡ first_fault (count_row img) 0 4 → shape_fault s ≡ product_fault (shape_of img)
  head_product x p y q = ap shape_fault e ∙ product_only img (start_axes img (passes x _ p)) (passes y _ q)

  pub head_held : (held : Holding) → said (Ok held) ≡ shape_fault s → held ≡ sums_of s → Held img held
  head_held held p q = record { judged = passes held _ (p ∙ ap shape_fault e); is = q ∙ ap sums_of e }

-- where the whole header passes, so does its shape
pub head_shape : (img : List ℕ) → good (head_fault img) ≡ true → ShapeJudged img
unfolding head_fault
head_shape img h =
    let h1 = orders.second_passed (start_fault img) _ h in
    let s : good (start_fault img) ≡ true = orders.first-passed (start_fault img) _ h in
    let c : good (first_fault (count_row img) 0 4) ≡ true = orders.first-passed (first_fault (count_row img) 0 4) _ h1 in
    let p : good (product_fault (shape_of img)) ≡ true = orders.first-passed (product_fault (shape_of img)) _ (orders.second_passed (first_fault (count_row img) 0 4) _ h1) in
    ap good (product_only img (start_axes img s) c) ∙ p

-- its unused counts are zero
pub unused_zero : (img : List ℕ) → good (head_fault img) ≡ true → (a : ℕ) → a < 4 → axes_field img ≤ a → count_field img a ≡ 0
unfolding head_fault
unused_zero img h a m l =
    let c : good (first_fault (count_row img) 0 4) ≡ true = orders.first-passed (first_fault (count_row img) 0 4) _ (orders.second_passed (start_fault img) _ h) in
    field_is (8 + 2 * a) 0 (count_field img a) (ap good (count_unused img a l) ∙ orders.all_passed (count_row img) 0 4 c a (omega arith) (omega (arith, m)))

-- it is as long as it states, and no longer than an image may be
module _ (img : List ℕ) (h : good (head_fault img) ≡ true) where
  starts : good (start_fault img) ≡ true
  unfolding head_fault
  starts = orders.first-passed (start_fault img) _ h

  row : eqb (word_at 4 img 4) (length img) && (leb 40 (word_at 4 img 4) && leb (word_at 4 img 4) 36864) ≡ true
  unfolding start_fault stated_fault
  row =
      let h1 = orders.second_passed (short_fault (length img)) _ starts in
      let h2 = orders.second_passed (field_fault 0 1 (word_at 1 img 0)) _ h1 in
      let h3 = orders.second_passed (axes_count_fault (axes_field img)) _ h2 in
      let h4 = orders.second_passed (field_fault 2 0 (word_at 2 img 2)) (stated_fault (word_at 4 img 4) (length img)) h3 in
      not_false (eqb (word_at 4 img 4) (length img) && (leb 40 (word_at 4 img 4) && leb (word_at 4 img 4) 36864))
      (orders.row_good (not (eqb (word_at 4 img 4) (length img) && (leb 40 (word_at 4 img 4) && leb (word_at 4 img 4) 36864))) 12 0 4 h4)

  pub stated_length : (word_at 4 img 4 ≡ length img) × ((40 ≤ word_at 4 img 4) × (word_at 4 img 4 ≤ 36864))
  stated_length =
      let both = and_right (eqb (word_at 4 img 4) (length img)) (leb 40 (word_at 4 img 4) && leb (word_at 4 img 4) 36864) row in (
        eqb-true (word_at 4 img 4) (length img) (and_left (eqb (word_at 4 img 4) (length img)) (leb 40 (word_at 4 img 4) && leb (word_at 4 img 4) 36864) row),
        (
          leb-true 40 (word_at 4 img 4) (and_left (leb 40 (word_at 4 img 4)) (leb (word_at 4 img 4) 36864) both),
          leb-true (word_at 4 img 4) 36864 (and_right (leb 40 (word_at 4 img 4)) (leb (word_at 4 img 4) 36864) both),
        ),
      )
