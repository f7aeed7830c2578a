-- The image of a judged table, read: its fields, its shape, its nodes and values. Assumes nothing.
use mathlib.Core.Path.{◌≡◌, refl, sym, ap, ap₂, ◌∙◌}
use mathlib.Core.Bool.{Bool, true, false, cond}
use mathlib.Core.List.{List, [], ◌∷◌, ◌++◌, append_assoc, append-nil}
use Prim.Native.Nat.{ℕ, zero, suc, ◌+◌, ◌*◌, ◌≤◌, ◌<◌}
use native.Mathlib.Omega.{arith}
use borrow.Author.Tests.{lt-ltb, le-ltb}
use lib.Dec.{ltb}
use lib.ListN.{get_or-eq_default, length, drop, get_or, length-take, length-append, drop_of_length-le}
use lib.Seq.{drop-cons}
use lib.Ieee.{Float}
use Rattle.layout.specs.Shape.{counts_of, size, total}
use Rattle.layout.specs.Layout.{tabulate}
use Rattle.layout.specs.declared.Shape.{Shape}
use Rattle.checks.proofs.shapes.Frames.{shape_four}
use Rattle.image.specs.Image.{floats_at, nodes_from, nodes_in, values_in}
use Rattle.image.specs.Fields.{axes_field, count_field, offset_field, values_field, shape_of}
use Rattle.little_endian.specs.Words.{word_at}
use Rattle.writer.specs.Made.{axis_at, values_at, image_length, count_in, offset_in, header_fields, field_bytes, float_bytes, image_of}
use Rattle.writer.specs.Write.{plain}
use Rattle.writer.specs.Scaffolding.{Framed}
use Rattle.writer.proofs.Headers.{count_in_lem, next-at, length_small, at_before, values_before, count_in_few}
use Rattle.writer.proofs.Images.{length_header, length_floats}
use Rattle.binary64.proofs.Held.{Held}
use Rattle.writer.proofs.Back.{Fit, Fields, fields_back, floats_back, floats_add}

pub count_some_of : (s : Shape) (a : ℕ) → count_in s a ≡ get_or (counts_of s) a 0
unfolding count_in
count_some_of s a = refl

pub count_none_of : (s : Shape) (a : ℕ) → s.axes ≤ a → count_in s a ≡ 0
unfolding count_in
count_none_of s a l = get_or-eq_default (counts_of s) 0 (omega (arith, length-take s.axes s.counts))

module _ (s : Shape) (four : length s.counts ≡ 4) (nodes values : List Float) (w : Framed s nodes values) where
  abbrev img : List ℕ
  img = image_of s nodes values

  offset_small : (a : ℕ) → offset_in s a < 4294967296
  unfolding offset_in
  offset_small a = go (ltb a s.axes)
    where
      go : (b : Bool) → cond b (axis_at s a) 0 < 4294967296
      go true = omega (arith, at_before s a, values_before s, length_small s w.judged)
      go false = omega arith

  fit : Fit (header_fields s)
  fit = omega (arith, shape_four s w.judged, length_small s w.judged, values_before s, count_in_few s w.judged 0, count_in_few s w.judged 1, count_in_few s w.judged 2, count_in_few s w.judged 3, offset_small 0, offset_small 1, offset_small 2, offset_small 3)

  pub heads : Fields (header_fields s) img 0
  unfolding image_of
  heads = fields_back (header_fields s) [] (float_bytes nodes ++ float_bytes values) 0 refl fit

  pub axes_back : axes_field img ≡ s.axes
  unfolding axes_field
  axes_back = heads.1.0

  pub length_back : word_at 4 img 4 ≡ image_length s
  length_back = heads.1.1.1.0

  pub count_back : (a : ℕ) → a < 4 → count_field img a ≡ count_in s a
  unfolding count_field
  count_back zero l = heads.1.1.1.1.0
  count_back (suc zero) l = heads.1.1.1.1.1.0
  count_back (suc (suc zero)) l = heads.1.1.1.1.1.1.0
  count_back (suc (suc (suc zero))) l = heads.1.1.1.1.1.1.1.0
  count_back (suc (suc (suc (suc a)))) l = absurd (omega arith)

  pub offset_back : (a : ℕ) → a < 4 → offset_field img a ≡ offset_in s a
  unfolding offset_field
  offset_back zero l = heads.1.1.1.1.1.1.1.1.0
  offset_back (suc zero) l = heads.1.1.1.1.1.1.1.1.1.0
  offset_back (suc (suc zero)) l = heads.1.1.1.1.1.1.1.1.1.1.0
  offset_back (suc (suc (suc zero))) l = heads.1.1.1.1.1.1.1.1.1.1.1.0
  offset_back (suc (suc (suc (suc a)))) l = absurd (omega arith)

  pub values_field_lem : values_field img ≡ values_at s
  unfolding values_field
  values_field_lem = heads.1.1.1.1.1.1.1.1.1.1.1.1.0

  pub end_back : word_at 4 img 36 ≡ 0
  end_back = heads.1.1.1.1.1.1.1.1.1.1.1.1.1.0

  pub used_back : (a : ℕ) → a < s.axes → offset_field img a ≡ axis_at s a
  unfolding offset_in
  used_back a l = offset_back a (omega (arith, shape_four s w.judged)) ∙ ap (λ (b : Bool). cond b (axis_at s a) 0) (lt-ltb a s.axes l)

  pub count_some : (a : ℕ) → count_in s a ≡ get_or (counts_of s) a 0
  count_some = count_some_of s

  -- ---- what is not used is zero
  pub count_none : (a : ℕ) → s.axes ≤ a → count_in s a ≡ 0
  count_none = count_none_of s

  pub offset_none : (a : ℕ) → s.axes ≤ a → offset_in s a ≡ 0
  unfolding offset_in
  offset_none a l = ap (λ (b : Bool). cond b (axis_at s a) 0) (le-ltb a s.axes l)

  -- ---- the shape
  pub shape_back : shape_of img ≡ plain s
  unfolding shape_of plain
  shape_back =
      ap (λ (n : ℕ). record { axes = n; counts = tabulate 4 (count_field img) }) axes_back
      ∙ ap₂ (λ (x y : ℕ). record { axes = s.axes; counts = x ∷ y ∷ count_field img 2 ∷ count_field img 3 ∷ [] }) (count_back 0 (omega arith)) (count_back 1 (omega arith))
      ∙ ap₂ (λ (x y : ℕ). record { axes = s.axes; counts = count_in s 0 ∷ count_in s 1 ∷ x ∷ y ∷ [] }) (count_back 2 (omega arith)) (count_back 3 (omega arith))

  -- ---- the nodes and the values
  area_at : Held nodes → floats_at img 40 (length nodes) ≡ nodes
  unfolding image_of
  area_at held = floats_back nodes (field_bytes (header_fields s)) (float_bytes values) 40 (length_header s) held

  axes_long : length (counts_of s) ≡ s.axes
  axes_long = omega (arith, length-take s.axes s.counts, four, shape_four s w.judged)

  from : (k a : ℕ) → a + k ≡ s.axes → nodes_from img a k ≡ floats_at img (axis_at s a) (total (drop a (counts_of s)))
  unfolding nodes_from count_in total floats_at
  from zero a e =
      let past : length (counts_of s) ≤ a = omega (arith, axes_long, e) in
      sym (ap (λ (l : List ℕ). floats_at img (axis_at s a) (total l)) (drop_of_length-le (counts_of s) past))
  from (suc k) a e =
      let l : a < s.axes = omega (arith, e) in
      let c = get_or (counts_of s) a 0 in
      let t = total (drop (suc a) (counts_of s)) in
      ap₂ (λ (x y : List Float). x ++ y)
      (ap₂ (floats_at img) (used_back a l) (count_back a (omega (arith, shape_four s w.judged))))
      (from k (suc a) (omega (arith, e)) ∙ ap (λ (j : ℕ). floats_at img j t) (sym (next-at s a c (axis_at s a) refl refl)))
      ∙ sym (floats_add img c t (axis_at s a))
      ∙ ap (λ (l : List ℕ). floats_at img (axis_at s a) (total l)) (sym (drop-cons (counts_of s) a 0 (omega (arith, axes_long, l))))

  pub nodes_back : Held nodes → nodes_in img ≡ nodes
  unfolding nodes_in axis_at total
  nodes_back held =
      ap (nodes_from img 0) axes_back
      ∙ from s.axes 0 (omega arith)
      ∙ ap (floats_at img 40) (sym w.nodes_long)
      ∙ area_at held

  pub counts_back : counts_of (shape_of img) ≡ counts_of s
  counts_back = ap counts_of shape_back ∙ count_in_lem s w.judged four

  pub values_back : Held values → values_in img ≡ values
  unfolding values_in image_of values_at
  values_back held =
      let p = field_bytes (header_fields s) ++ float_bytes nodes in
      let at : length p ≡ 40 + 8 * total (counts_of s) = length-append (field_bytes (header_fields s)) (float_bytes nodes) ∙ omega (arith, length_header s, length_floats nodes, w.nodes_long) in
      ap₂ (floats_at img) values_field_lem (ap size counts_back ∙ sym w.values_long)
      ∙ ap (λ (l : List ℕ). floats_at l (40 + 8 * total (counts_of s)) (length values)) (sym (append_assoc (field_bytes (header_fields s)) (float_bytes nodes) (float_bytes values)) ∙ ap (λ (l : List ℕ). p ++ l) (sym (append-nil (float_bytes values))))
      ∙ floats_back values p [] (40 + 8 * total (counts_of s)) at held
