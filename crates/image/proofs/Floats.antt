-- What lies in the areas, read float by float and axis by axis. Assumes nothing.
use mathlib.Core.Path.{◌≡◌, refl, sym, ap, ap₂, ◌∙◌}
use mathlib.Core.Bool.{true}
use mathlib.Core.List.{List, [], ◌∷◌, ◌++◌}
use Prim.Native.Nat.{ℕ, zero, suc, ◌+◌, ◌-◌, ◌*◌, ◌≤◌, ◌<◌}
use native.Mathlib.Nat.{add-zero}
use native.Mathlib.Omega.{arith}
use lib.ListN.{length, take, drop, get_or, set, length-append, length-take}
use lib.Seq.{sets, get_or-take}
use lib.Ieee.{Float}
use Rattle.std.proofs.Common.{append_assoc, length-drop}
use Rattle.std.proofs.lemmas.List.{append-nil, take_all}
use Rattle.std.proofs.lemmas.Slice.{take-put_mid}
use borrow.Rule.Slice.PartMut.{put_mid}
use Rattle.answer.specs.Faults.{good, ◌or◌}
use Rattle.answer.specs.Answer.{plus_zero}
use Rattle.layout.specs.Shape.{counts_of, size, total}
use Rattle.layout.specs.Layout.{tabulate}
use Rattle.checks.specs.Shapes.{shape_fault}
use Rattle.checks.specs.Numbers.{room_fault}
use Rattle.checks.specs.declared.shapes.Holding.{Holding}
use Rattle.layout.specs.declared.Shape.{Shape}
use Rattle.layout.proofs.Layouts.{tabulate_same}
use Rattle.checks.proofs.shapes.Frames.{shape_four, shape_few, shape_size}
use Rattle.little_endian.specs.Words.{float_at}
use Rattle.image.specs.Image.{floats_at, nodes_from, nodes_in, values_in}
use Rattle.image.specs.Fields.{axes_field, count_field, offset_field, shape_of}
use Rattle.image.specs.Load.{rooms_fault}
use Rattle.image.specs.Scaffolding.{ShapeJudged, Held}

-- ---- a judged shape's nodes are few
total_few : (cs : List ℕ) → ((a : ℕ) → a < length cs → get_or cs a 0 ≤ 64) → total cs ≤ 64 * length cs
unfolding total
total_few [] h = omega arith
total_few (c ∷ cs) h = let x : c ≤ 64 = h 0 (omega arith) in omega (arith, x, total_few cs (λ a l. h (suc a) (omega arith)))

module _ (s : Shape) (h : good (shape_fault s) ≡ true) where
  pub total_small : total (counts_of s) ≤ 256
  total_small =
      let n : length (counts_of s) ≤ 4 = omega (arith, length-take s.axes s.counts, shape_four s h) in
      omega (arith, total_few (counts_of s) each, n)
    where
      each : (a : ℕ) → a < length (counts_of s) → get_or (counts_of s) a 0 ≤ 64
      each a l =
          let m : a < s.axes = omega (arith, length-take s.axes s.counts, l) in
          omega (arith, get_or-take s.axes s.counts a 0 m, shape_few s h a m)

-- ---- floats
pub length_floats : (img : List ℕ) (at n : ℕ) → length (floats_at img at n) ≡ n
unfolding floats_at
length_floats img at zero = refl
length_floats img at (suc n) = ap suc (length_floats img (at + 8) n)

pub sets_append : {A : Type 0} (a b l : List A) (i : ℕ) → sets l i (a ++ b) ≡ sets (sets l i a) (i + length a) b
sets_append [] b l i = ap (λ (k : ℕ). sets l k b) (sym (add-zero i))
sets_append (x ∷ a) b l i =
    let e : suc i + length a ≡ i + suc (length a) = omega arith in
    sets_append a b (set l i x) (suc i) ∙ ap (λ (k : ℕ). sets (sets (set l i x) (suc i) a) k b) e

-- floats that were read one by one
pub floats_all : (img : List ℕ) (at : ℕ) (out : List Float) → ((k : ℕ) → k < length out → get_or out k plus_zero ≡ float_at img (at + 8 * k)) → out ≡ floats_at img at (length out)
unfolding floats_at
floats_all img at [] h = refl
floats_all img at (x ∷ out) h =
    ap₂ (λ (y : Float) (r : List Float). y ∷ r) (h 0 (omega arith) ∙ ap (float_at img) (omega arith))
    (floats_all img (at + 8) out (λ k l. h (suc k) (omega arith) ∙ ap (float_at img) (omega arith)))

-- ---- nodes, axis after axis
module _ (img : List ℕ) (axes a : ℕ) (h : a < axes) where
  rest_is : axes - a ≡ suc (axes - (a + 1))
  rest_is = omega arith

  next_is : suc a ≡ a + 1
  next_is = omega arith

  pub nodes_open : nodes_from img a (axes - a) ≡ floats_at img (offset_field img a) (count_field img a) ++ nodes_from img (a + 1) (axes - (a + 1))
  unfolding nodes_from
  nodes_open = ap (nodes_from img a) rest_is ∙ ap (λ (k : ℕ). floats_at img (offset_field img a) (count_field img a) ++ nodes_from img k (axes - (a + 1))) next_is

  pub nodes_length : length (nodes_from img a (axes - a)) ≡ count_field img a + length (nodes_from img (a + 1) (axes - (a + 1)))
  nodes_length =
      ap length nodes_open
      ∙ length-append (floats_at img (offset_field img a) (count_field img a)) (nodes_from img (a + 1) (axes - (a + 1)))
      ∙ ap (λ (k : ℕ). k + length (nodes_from img (a + 1) (axes - (a + 1)))) (length_floats img (offset_field img a) (count_field img a))

-- what is read so far: the nodes of the axes from a on are left, and go from `to` on
pub record Reading (img : List ℕ) (axes : ℕ) (out : List Float) (to a : ℕ) : Type 0 where
  pub fits : to + length (nodes_from img a (axes - a)) ≡ length out
  pub left : take to out ++ nodes_from img a (axes - a) ≡ nodes_from img 0 axes

module _ (img : List ℕ) (axes : ℕ) (out : List Float) (to a : ℕ) (r : Reading img axes out to a) where
  pub read_room : a < axes → to + count_field img a ≤ length out
  read_room h = omega (arith, r.fits, nodes_length img axes a h)

  -- the floats of one axis, read into their part
  pub read_more : a < axes → (n k : ℕ) → n ≡ count_field img a → k ≡ n → (fs : List Float) → fs ≡ floats_at img (offset_field img a) n → Reading img axes (put_mid to k out fs) (to + n) (a + 1)
  read_more h n k e m fs f =
      let long : length fs ≡ n = ap length f ∙ length_floats img (offset_field img a) n in
      let rest = nodes_from img (a + 1) (axes - (a + 1)) in
      let room : to + n ≤ length out = omega (arith, e, read_room h) in
      record {
        fits = omega (arith, r.fits, nodes_length img axes a h, e, m, long, room, length-append (take to out) (fs ++ drop k (drop to out)), length-append fs (drop k (drop to out)), length-take to out, length-drop k (drop to out), length-drop to out);
        left =
            ap (λ (l : List Float). l ++ rest) (take-put_mid to k out fs (to + n) (omega (arith, long)) (omega (arith, room)))
            ∙ append_assoc (take to out) fs rest
            ∙ ap (λ (l : List Float). take to out ++ (l ++ rest)) (f ∙ ap (floats_at img (offset_field img a)) e)
            ∙ ap (λ (l : List Float). take to out ++ l) (sym (nodes_open img axes a h))
            ∙ r.left;
      }

  pub read_all : axes ≤ a → out ≡ nodes_from img 0 axes
  unfolding nodes_from
  read_all h =
      let none : axes - a ≡ 0 = omega arith in
      let left : take to out ++ [] ≡ nodes_from img 0 axes = ap (λ (k : ℕ). take to out ++ nodes_from img a k) (sym none) ∙ r.left in
      let full : length out ≤ to = omega (arith, r.fits, ap (λ (k : ℕ). length (nodes_from img a k)) none) in
      sym (take_all to out full) ∙ sym (append-nil (take to out)) ∙ left

-- how many nodes: what the shape says
from_total : (img : List ℕ) (a k : ℕ) → length (nodes_from img a k) ≡ total (tabulate k (λ i. count_field img (a + i)))
unfolding nodes_from total
from_total img a zero = refl
from_total img a (suc k) =
    length-append (floats_at img (offset_field img a) (count_field img a)) (nodes_from img (suc a) k)
    ∙ ap₂ (λ (x y : ℕ). x + y) (length_floats img (offset_field img a) (count_field img a) ∙ ap (count_field img) (sym (add-zero a))) (from_total img (suc a) k ∙ ap total (shifted k))
  where
    shifted : (n : ℕ) → tabulate n (λ i. count_field img (suc a + i)) ≡ tabulate n (λ i. count_field img (a + suc i))
    shifted n = tabulate_same n (λ i. count_field img (suc a + i)) (λ i. count_field img (a + suc i)) (λ i l. ap (count_field img) (omega arith))

take_front_lem : (n m : ℕ) (h : ℕ → ℕ) → n ≤ m → take n (tabulate m h) ≡ tabulate n h
take_front_lem zero m h l = refl
take_front_lem (suc n) zero h l = absurd (omega arith)
take_front_lem (suc n) (suc m) h l = ap (λ (r : List ℕ). h 0 ∷ r) (take_front_lem n m (λ k. h (suc k)) (omega arith))

module _ (img : List ℕ) (h : ShapeJudged img) where
  pub axes_four : axes_field img ≤ 4
  unfolding shape_of
  axes_four = shape_four (shape_of img) h

  pub nodes_total : length (nodes_in img) ≡ total (counts_of (shape_of img))
  unfolding nodes_in shape_of
  nodes_total = from_total img 0 (axes_field img) ∙ ap total (same ∙ sym (take_front_lem (axes_field img) 4 (count_field img) axes_four))
    where
      same : tabulate (axes_field img) (λ i. count_field img (0 + i)) ≡ tabulate (axes_field img) (count_field img)
      same = tabulate_same (axes_field img) (λ i. count_field img (0 + i)) (count_field img) (λ i l. ap (count_field img) (omega arith))

  pub size_small : size (counts_of (shape_of img)) ≤ 4096
  size_small = shape_size (shape_of img) h

pub values_size : (img : List ℕ) → length (values_in img) ≡ size (counts_of (shape_of img))
unfolding values_in
values_size img = length_floats img _ (size (counts_of (shape_of img)))

pub read_none : (img : List ℕ) (out : List Float) → ShapeJudged img → length out ≡ total (counts_of (shape_of img)) → Reading img (axes_field img) out 0 0
unfolding nodes_in
read_none img out h e =
    let all : axes_field img - 0 ≡ axes_field img = omega arith in
    record {
      fits = omega (arith, e, nodes_total img h, ap (λ (k : ℕ). length (nodes_from img 0 k)) all);
      left = ap (nodes_from img 0) all;
    }

-- what a judged image holds
module _ (img : List ℕ) (held : Holding) (h : Held img held) where
  pub nodes_held : held.nodes ≡ total (counts_of (shape_of img))
  nodes_held = ap (λ (x : Holding). x.nodes) h.is

  pub values_held : held.values ≡ size (counts_of (shape_of img))
  values_held = ap (λ (x : Holding). x.values) h.is

  -- and the room that it asks for
  pub rooms_held : (nodes values : ℕ) → (room_fault 0 held.nodes nodes or room_fault 1 held.values values) ≡ rooms_fault (shape_of img) nodes values
  unfolding rooms_fault
  rooms_held nodes values = ap₂ (λ (n v : ℕ). room_fault 0 n nodes or room_fault 1 v values) nodes_held values_held

  pub nodes_few : held.nodes ≤ 256
  nodes_few = omega (arith, nodes_held, total_small (shape_of img) h.judged)

  pub values_few : held.values ≤ 4096
  values_few = omega (arith, values_held, size_small img h.judged)

-- what was read, in front of what lies beyond it
module _ (img : List ℕ) (held : Holding) (h : Held img held) (xs out : List Float) where
  pub nodes_front : xs ≡ nodes_in img → xs ++ drop held.nodes out ≡ nodes_in img ++ drop (length (nodes_in img)) out
  nodes_front e = ap₂ (λ (l : List Float) (n : ℕ). l ++ drop n out) e (nodes_held img held h ∙ sym (nodes_total img h.judged))

  pub values_front : xs ≡ values_in img → xs ++ drop held.values out ≡ values_in img ++ drop (length (values_in img)) out
  values_front e = ap₂ (λ (l : List Float) (n : ℕ). l ++ drop n out) e (values_held img held h ∙ sym (values_size img))
