-- The header of a judged shape: its counts and offsets, one axis after the other. Assumes nothing.
use mathlib.Core.Path.{◌≡◌, refl, sym, ap, ap₂, ◌∙◌}
use mathlib.Core.Bool.{Bool, true, false, cond}
use mathlib.Core.List.{List, [], ◌∷◌}
use Prim.Native.Nat.{ℕ, zero, suc, ◌+◌, ◌*◌, ◌%◌, ◌≤◌, ◌<◌, zero-le}
use native.Mathlib.Omega.{arith}
use lib.ListN.{length, take, get_or, length-take, get_or-eq_default}
use borrow.Author.Tests.{ltb-true, ltb-false}
use lib.Dec.{ltb}
use lib.Seq.{get_or-take, take_all, ext_get_or}
use Rattle.std.proofs.Common.{Result, Ok, Err}
use Rattle.std.specs.Result.{IsOk}
use Rattle.answer.specs.Faults.{Fault, good}
use Rattle.answer.specs.Rows.{said}
use Rattle.answer.specs.declared.Refusal.{Refusal}
use Rattle.answer.proofs.Checks.{fails}
use Rattle.answer.proofs.Orders.{clash}
use Rattle.layout.specs.Shape.{counts_of, size, total}
use Rattle.layout.specs.Layout.{tabulate}
use Rattle.checks.specs.Shapes.{shape_fault}
use Rattle.layout.specs.declared.Shape.{Shape}
use Rattle.checks.specs.Scaffolding.{sums_of}
use Rattle.checks.specs.declared.shapes.Holding.{Holding}
use Rattle.checks.proofs.shapes.Frames.{shape_four, shape_few, shape_size, holds_nodes, holds_values}
use Rattle.layout.proofs.Layouts.{get_d_tabulate, length-tabulate}
use Rattle.image.proofs.Floats.{total_small}
use Rattle.writer.specs.Made.{axis_at, values_at, image_length, count_in, offset_in, header_fields}
use Rattle.writer.specs.Write.{plain}
use Rattle.writer.specs.Scaffolding.{Holds}

-- ---- a judged shape is not refused, and what it holds is few
is_ok : {A : Type 0} (r : Result A Refusal) (f : Fault) → said r ≡ f → good f ≡ true → IsOk r
is_ok (Ok x) f e g = refl
is_ok {A} (Err e) f q g = clash (good f) g (fails A e f q)

module _ (s : Shape) (h : good (shape_fault s) ≡ true) where
  pub sizes_told : (r : Result Holding Refusal) → said r ≡ shape_fault s → IsOk r
  sizes_told r e = is_ok r (shape_fault s) e h

  pub holds : (r : Holding) → r ≡ sums_of s → Holds s r
  holds r e = record {
    nodes = holds_nodes s r e;
    values = holds_values s r e;
    few_nodes = omega (arith, holds_nodes s r e, total_small s h);
    few_values = omega (arith, holds_values s r e, shape_size s h);
  }

-- ---- the nodes before an axis, and its own
total-next : (cs : List ℕ) (a : ℕ) → total (take (suc a) cs) ≡ total (take a cs) + get_or cs a 0
unfolding total
total-next [] zero = refl
total-next [] (suc a) = refl
total-next (c ∷ cs) zero = omega arith
total-next (c ∷ cs) (suc a) = omega (arith, total-next cs a)

total_before : (cs : List ℕ) (a : ℕ) → total (take a cs) ≤ total cs
unfolding total
total_before cs zero = zero-le
total_before [] (suc a) = omega arith
total_before (c ∷ cs) (suc a) = omega (arith, total_before cs a)

module _ (s : Shape) where
  pub first-at : 40 ≡ axis_at s 0
  unfolding axis_at total
  first-at = refl

  pub next-at : (a n at : ℕ) → n ≡ get_or (counts_of s) a 0 → at ≡ axis_at s a → at + 8 * n ≡ axis_at s (suc a)
  unfolding axis_at
  next-at a n at e f = omega (arith, e, f, total-next (counts_of s) a)

  pub at_before : (a : ℕ) → axis_at s a ≤ values_at s
  unfolding axis_at values_at
  at_before a = omega (arith, total_before (counts_of s) a)

  pub axis_after : (a : ℕ) → (40 ≤ axis_at s a) × (axis_at s a % 8 ≡ 0)
  unfolding axis_at
  axis_after a = (omega arith, omega arith)

  pub values_end : values_at s + 8 * size (counts_of s) ≡ image_length s
  unfolding image_length
  values_end = refl

  pub values_before : values_at s ≤ image_length s
  unfolding image_length
  values_before = omega arith

  module _ (h : good (shape_fault s) ≡ true) where
    few : length (counts_of s) ≤ 4
    few = omega (arith, length-take s.axes s.counts, shape_four s h)

    -- past the last axis are the values
    pub values_from : axis_at s s.axes ≡ values_at s
    unfolding axis_at values_at
    values_from = ap (λ (l : List ℕ). 40 + 8 * total l) (take_all s.axes (counts_of s) (omega (arith, length-take s.axes s.counts)))

    pub values_after : axis_at s 4 ≡ values_at s
    unfolding axis_at values_at
    values_after = ap (λ (l : List ℕ). 40 + 8 * total l) (take_all 4 (counts_of s) few)

    -- a count that the header has
    pub count_in_few : (a : ℕ) → count_in s a ≤ 64
    unfolding count_in
    count_in_few a = go (ltb a s.axes) (ltb-true a s.axes) (ltb-false a s.axes)
      where
        go : (b : Bool) → (b ≡ true → a < s.axes) → (b ≡ false → s.axes ≤ a) → get_or (counts_of s) a 0 ≤ 64
        go true t f = omega (arith, get_or-take s.axes s.counts a 0 (t refl), shape_few s h a (t refl))
        go false t f = omega (arith, get_or-eq_default (counts_of s) 0 {n = a} (omega (arith, length-take s.axes s.counts, f refl)))

    -- the shape that the header has holds the same counts
    pub count_in_lem : length s.counts ≡ 4 → counts_of (plain s) ≡ counts_of s
    unfolding plain count_in
    count_in_lem four = ext_get_or 0 (take s.axes (tabulate 4 (count_in s))) (counts_of s) same each
      where
        same : length (take s.axes (tabulate 4 (count_in s))) ≡ length (counts_of s)
        same = omega (arith, length-take s.axes (tabulate 4 (count_in s)), length-tabulate 4 (count_in s), length-take s.axes s.counts, four)

        each : (i : ℕ) → i < length (take s.axes (tabulate 4 (count_in s))) → get_or (take s.axes (tabulate 4 (count_in s))) i 0 ≡ get_or (counts_of s) i 0
        each i l =
            let m : i < s.axes = omega (arith, l, length-take s.axes (tabulate 4 (count_in s))) in
            get_or-take s.axes (tabulate 4 (count_in s)) i 0 m ∙ get_d_tabulate 4 i (count_in s) 0 (omega (arith, m, shape_four s h))

    pub count_used : (a : ℕ) → a < s.axes → (n : ℕ) → n ≡ get_or s.counts a 0 → (n ≡ get_or (counts_of s) a 0) × (n ≤ 64)
    count_used a l n e = (e ∙ sym (get_or-take s.axes s.counts a 0 l), omega (arith, e, shape_few s h a l))

    pub count_unused : (a : ℕ) → s.axes ≤ a → 0 ≡ get_or (counts_of s) a 0
    count_unused a l = sym (get_or-eq_default (counts_of s) 0 (omega (arith, length-take s.axes s.counts)))

    pub length_small : image_length s ≤ 36864
    unfolding image_length values_at
    length_small = omega (arith, total_small s h, shape_size s h)

    -- all fourteen fields
    module _ (c0 c1 c2 c3 : ℕ) (e0 : c0 ≡ get_or (counts_of s) 0 0) (e1 : c1 ≡ get_or (counts_of s) 1 0) (e2 : c2 ≡ get_or (counts_of s) 2 0) (e3 : c3 ≡ get_or (counts_of s) 3 0) where
      at1 : 40 + 8 * c0 ≡ axis_at s 1
      at1 = next-at 0 c0 40 e0 first-at

      at2 : 40 + 8 * c0 + 8 * c1 ≡ axis_at s 2
      at2 = next-at 1 c1 (40 + 8 * c0) e1 at1

      at3 : 40 + 8 * c0 + 8 * c1 + 8 * c2 ≡ axis_at s 3
      at3 = next-at 2 c2 (40 + 8 * c0 + 8 * c1) e2 at2

      end : 40 + 8 * c0 + 8 * c1 + 8 * c2 + 8 * c3 ≡ values_at s
      end = next-at 3 c3 (40 + 8 * c0 + 8 * c1 + 8 * c2) e3 at3 ∙ values_after

      whole : (v : ℕ) → v ≡ size (counts_of s) → 40 + 8 * c0 + 8 * c1 + 8 * c2 + 8 * c3 + 8 * v ≡ image_length s
      unfolding image_length
      whole v e = ap₂ (λ (x y : ℕ). x + 8 * y) end e

      offset : (a k o : ℕ) → k ≡ axis_at s a → o ≡ cond (ltb a s.axes) k 0 → o ≡ offset_in s a
      unfolding offset_in
      offset a k o e f = f ∙ ap (λ (x : ℕ). cond (ltb a s.axes) x 0) e

      cons : {x y : ℕ} {xs ys : List ℕ} → x ≡ y → xs ≡ ys → x ∷ xs ≡ y ∷ ys
      cons p q = ap₂ (λ (x : ℕ) (xs : List ℕ). x ∷ xs) p q

      pub fields_made : (v o0 o1 o2 o3 : ℕ) → v ≡ size (counts_of s) → o0 ≡ cond (ltb 0 s.axes) 40 0 → o1 ≡ cond (ltb 1 s.axes) (40 + 8 * c0) 0
          → o2 ≡ cond (ltb 2 s.axes) (40 + 8 * c0 + 8 * c1) 0 → o3 ≡ cond (ltb 3 s.axes) (40 + 8 * c0 + 8 * c1 + 8 * c2) 0
          → (1, 1) ∷ (1, s.axes) ∷ (2, 0) ∷ (4, 40 + 8 * c0 + 8 * c1 + 8 * c2 + 8 * c3 + 8 * v) ∷ (2, c0) ∷ (2, c1) ∷ (2, c2) ∷ (2, c3)
          ∷ (4, o0) ∷ (4, o1) ∷ (4, o2) ∷ (4, o3) ∷ (4, 40 + 8 * c0 + 8 * c1 + 8 * c2 + 8 * c3) ∷ (4, 0) ∷ [] ≡ header_fields s
      unfolding count_in
      fields_made v o0 o1 o2 o3 ev f0 f1 f2 f3 =
          let p0 = offset 0 40 o0 first-at f0 in
          let p1 = offset 1 (40 + 8 * c0) o1 at1 f1 in
          let p2 = offset 2 (40 + 8 * c0 + 8 * c1) o2 at2 f2 in
          let p3 = offset 3 (40 + 8 * c0 + 8 * c1 + 8 * c2) o3 at3 f3 in
          rw (whole v ev, end, p0, p1, p2, p3, e0, e1, e2, e3)
