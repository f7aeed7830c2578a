-- "Writing and loading returns the table; loading and writing gives an image that loads the same." Assumes nothing.
use mathlib.Core.Path.{◌≡◌, refl, sym, ap, ap₂, ◌∙◌}
use mathlib.Core.Bool.{Bool, true, false}
use mathlib.Core.List.{List, ◌++◌}
use mathlib.Core.Logic.{◌⊎◌, inl, inr}
use Prim.Native.Nat.{ℕ, zero, suc, ◌+◌, ◌-◌, ◌*◌, ◌%◌, ◌≤◌, ◌<◌}
use native.Mathlib.Nat.{eq-or-lt_of_le}
use native.Mathlib.Omega.{arith}
use borrow.Author.Tests.{ltb-true, ltb-false, le-ltb}
use lib.Dec.{ltb}
use lib.ListN.{length, take, drop, get_or}
use lib.Seq.{get_or-take, take_at}
use lib.Ieee.{Float, binary64}
use lib.Ieee.Fits.{nan-fits}
use Rattle.answer.specs.Faults.{Fault, no_fault, good, ◌or◌, first_fault, given, filled_into}
use Rattle.answer.specs.Answer.{fine, ◌then◌}
use Rattle.answer.specs.declared.Answer.{Answer}
use Rattle.answer.proofs.Orders as orders
use Rattle.answer.proofs.Answers.{then_good}
use Rattle.checks.proofs.counts.Rows.{axes_right, count-fine}
use Rattle.checks.proofs.lent.Rows.{room_enough, length_same}
use Rattle.layout.specs.Shape.{counts_of, size, total, no_shape}
use Rattle.layout.specs.Layout.{tabulate}
use Rattle.checks.specs.Shapes.{shape_fault, frame_fault}
use Rattle.checks.specs.Numbers.{product_fault, axes_count_fault, length_fault, room_fault, axes_fault, value_fault, values_fault, field_fault, short_fault}
use Rattle.layout.specs.declared.Shape.{Shape}
use Rattle.layout.proofs.Layouts.{get_d_tabulate, tabulate_same}
use Rattle.checks.proofs.shapes.Frames.{shape_some, shape_four, shape_enough, shape_few, shape_size}
use Rattle.little_endian.specs.Words.{word_at}
use Rattle.image.specs.Image.{floats_at, nodes_from, nodes_in, values_in}
use Rattle.image.specs.Fields.{axes_field, count_field, offset_field, values_field, shape_of, area_of}
use Rattle.image.specs.Shared.{area_end, InTurn}
use Rattle.image.specs.Load.{area_row, areas_fault, pairs_fault, rooms_fault, contents_fault, load_fault, load_answer, Loadable}
use Rattle.image.specs.Head.{start_fault, count_row, offset_row, head_fault}
use Rattle.image.proofs.Floats.{nodes_total, values_size}
use Rattle.image.proofs.Heads.{unused_zero}
use Rattle.image.proofs.Sharing.{axis_begins, axis_holds, values_begin, values_hold}
use Rattle.image.proofs.Pairs.{pairs_none, turns_apart}
use Rattle.image.proofs.Laws.{load_means, loaded_shape}
use Rattle.image.proofs.Tests.{field_right, short_right, stated_right, area_right, count_used, count_unused}
use Rattle.writer.specs.Made.{axis_at, image_length, count_in, image_of}
use Rattle.writer.specs.Write.{write_fault, write_answer, plain}
use Rattle.writer.specs.Scaffolding.{Framed}
use Rattle.writer.proofs.Headers.{first-at, next-at, axis_after, at_before, values_from, values_end, values_before, length_small, count_in_lem}
use Rattle.writer.proofs.Images.{length_image}
use Rattle.writer.proofs.Laws.{write_means}
use Rattle.writer.proofs.Writes.{written_frame}
use Rattle.binary64.proofs.Held.{Held}
use Rattle.writer.proofs.Back.{floats_held, held-append}
use Rattle.writer.proofs.Made as made

-- the image that was written: the output's first bytes, as many as the answer says
abbrev pub written : Shape → List Float → List Float → List ℕ → List ℕ
written s nodes values out =
    take (write_answer s nodes values (length out)).length (filled_into (write_fault s nodes values (length out)) (image_of s nodes values) out)

-- ---- the image of a judged table passes the checks of the header and of the areas
module _ (s : Shape) (four : length s.counts ≡ 4) (nodes values : List Float) (w : Framed s nodes values) where
  abbrev img : List ℕ
  img = image_of s nodes values

  long : length img ≡ image_length s
  long = length_image s nodes values w.nodes_long w.values_long

  forty : 40 ≤ image_length s
  forty = omega (arith, first-at s, at_before s 0, values_before s)

  axes_is : axes_field img ≡ s.axes
  axes_is = made.axes_back s four nodes values w

  starts : good (start_fault img) ≡ true
  unfolding start_fault
  starts =
      orders.both_passed (short_fault (length img)) _ (orders.passed-no_fault _ (short_right (length img) (omega (arith, long, forty))))
      (orders.both_passed (field_fault 0 1 (word_at 1 img 0)) _ (orders.passed-no_fault _ (field_right 0 1 (word_at 1 img 0) (made.heads s four nodes values w).0))
      (orders.both_passed (axes_count_fault (axes_field img)) _ (orders.passed-no_fault _ (axes_right (axes_field img) (omega (arith, axes_is, shape_some s w.judged)) (omega (arith, axes_is, shape_four s w.judged))))
      (orders.both_passed (field_fault 2 0 (word_at 2 img 2)) _ (orders.passed-no_fault _ (field_right 2 0 (word_at 2 img 2) (made.heads s four nodes values w).1.1.0))
      (orders.passed-no_fault _ (stated_right (word_at 4 img 4) (length img) (stated ∙ sym long) (omega (arith, stated, forty)) (omega (arith, stated, length_small s w.judged)))))))
    where
      stated : word_at 4 img 4 ≡ image_length s
      stated = made.length_back s four nodes values w

  counts : good (first_fault (count_row img) 0 4) ≡ true
  counts = ap good (orders.none_good (count_row img) 0 4 (λ a l m. each a (omega (arith, m)) (ltb a s.axes) (ltb-true a s.axes) (ltb-false a s.axes))) ∙ orders.good-no_fault
    where
      each : (a : ℕ) → a < 4 → (b : Bool) → (b ≡ true → a < s.axes) → (b ≡ false → s.axes ≤ a) → good (count_row img a) ≡ true
      each a m true t f =
          let l = t refl in
          let c : count_field img a ≡ get_or s.counts a 0 = made.count_back s four nodes values w a m ∙ made.count_some s four nodes values w a ∙ get_or-take s.axes s.counts a 0 l in
          orders.passed-no_fault _ (count-fine a (count_field img a) (omega (arith, c, shape_enough s w.judged a l)) (omega (arith, c, shape_few s w.judged a l)) ∙ count_used img a (omega (arith, axes_is, l)))
      each a m false t f =
          orders.passed-no_fault _ (field_right (8 + 2 * a) 0 (count_field img a) (made.count_back s four nodes values w a m ∙ made.count_none s four nodes values w a (f refl)) ∙ count_unused img a (omega (arith, axes_is, f refl)))

  same : counts_of (shape_of img) ≡ counts_of s
  same = made.counts_back s four nodes values w

  product : good (product_fault (shape_of img)) ≡ true
  unfolding product_fault
  product = orders.good-when (ltb 4096 (size (counts_of (shape_of img)))) _ (le-ltb 4096 (size (counts_of (shape_of img))) (omega (arith, ap size same, shape_size s w.judged)))

  offsets : good (first_fault (offset_row img) (axes_field img) (4 - axes_field img)) ≡ true
  unfolding offset_row
  offsets = ap good (orders.none_good (offset_row img) (axes_field img) (4 - axes_field img) each) ∙ orders.good-no_fault
    where
      each : (a : ℕ) → axes_field img ≤ a → a < axes_field img + (4 - axes_field img) → good (offset_row img a) ≡ true
      each a l m =
          let n : a < 4 = omega (arith, axes_is, shape_four s w.judged, m) in
          orders.passed-no_fault _ (field_right (16 + 4 * a) 0 (offset_field img a) (made.offset_back s four nodes values w a n ∙ made.offset_none s four nodes values w a (omega (arith, axes_is, l))))

  pub made_head : good (head_fault img) ≡ true
  unfolding head_fault
  made_head =
      orders.both_passed (start_fault img) _ starts
      (orders.both_passed (first_fault (count_row img) 0 4) _ counts
      (orders.both_passed (product_fault (shape_of img)) _ product
      (orders.both_passed (first_fault (offset_row img) (axes_field img) (4 - axes_field img)) _ offsets
      (orders.passed-no_fault _ (field_right 36 0 (word_at 4 img 36) (made.end_back s four nodes values w))))))

  -- the areas lie one after the other: each begins where the one before it ends
  area_from : (k : ℕ) → k ≤ s.axes → (area_of img k).at ≡ axis_at s k
  area_from k l = go (eq-or-lt_of_le l)
    where
      go : (k ≡ s.axes) ⊎ (k < s.axes) → (area_of img k).at ≡ axis_at s k
      go (inl e) =
          values_begin img k (omega (arith, axes_is, e))
          ∙ made.values_field_lem s four nodes values w
          ∙ sym (values_from s w.judged)
          ∙ ap (axis_at s) (sym e)
      go (inr m) = axis_begins img k (omega (arith, axes_is, m)) ∙ made.used_back s four nodes values w k m

  area_ends : (k : ℕ) → k < s.axes → area_end img k ≡ axis_at s (suc k)
  area_ends k l =
      let n : (area_of img k).floats ≡ get_or (counts_of s) k 0 =
      axis_holds img k (omega (arith, axes_is, l))
      ∙ made.count_back s four nodes values w k (omega (arith, l, shape_four s w.judged))
      ∙ made.count_some s four nodes values w k in
      ap (λ (x : ℕ). (area_of img k).at + 8 * x) n ∙ next-at s k (get_or (counts_of s) k 0) (area_of img k).at refl (area_from k (omega arith))

  values_area_ends : area_end img s.axes ≡ image_length s
  values_area_ends =
      let n : (area_of img s.axes).floats ≡ size (counts_of s) = values_hold img s.axes (omega (arith, axes_is)) ∙ ap size same in
      omega (arith, n, area_from s.axes (omega arith), values_from s w.judged, values_end s)

  pub made_areas : good (areas_fault img) ≡ true
  unfolding areas_fault
  made_areas = ap good (orders.none_good (area_row img) 0 (axes_field img + 1) (λ k l m. each k (omega (arith, axes_is, m)))) ∙ orders.good-no_fault
    where
      inside : (k : ℕ) → (k ≡ s.axes) ⊎ (k < s.axes) → area_end img k ≤ length img
      inside k (inl e) = omega (arith, ap (area_end img) e, values_area_ends, long)
      inside k (inr l) = omega (arith, area_ends k l, at_before s (suc k), values_before s, long)

      each : (k : ℕ) → k ≤ s.axes → good (area_row img k) ≡ true
      each k l =
          let o = area_from k l in
          orders.passed-no_fault _ (area_right (length img) k (area_of img k).at (area_of img k).floats (omega (arith, o, (axis_after s k).0)) (ap (λ (j : ℕ). j % 8) o ∙ (axis_after s k).1) (inside k (eq-or-lt_of_le l)))

  pub made_turns : InTurn img
  made_turns = record {
    turn = λ t. t;
    each = λ i l. (i, (l, refl));
    after = λ t l. omega (arith, area_ends t (omega (arith, axes_is, l)), area_from (suc t) (omega (arith, axes_is, l)));
  }

  pub made_pairs : good (pairs_fault img) ≡ true
  made_pairs = ap good (pairs_none img (turns_apart img made_turns)) ∙ orders.good-no_fault

-- ---- writing, then loading

-- an image whose header passes, each area alone and each two of them, answers by its shape, its nodes and its values alone
judged : (img : List ℕ) (n v : ℕ) → good (head_fault img) ≡ true → good (areas_fault img) ≡ true → good (pairs_fault img) ≡ true
    → load_fault img n v ≡ (rooms_fault (shape_of img) n v or axes_fault (counts_of (shape_of img)) (nodes_in img) or values_fault (values_in img))
unfolding load_fault contents_fault
judged img n v g k p = orders.or_good (head_fault img) _ g ∙ orders.or_good (areas_fault img) _ k ∙ orders.or_good (pairs_fault img) _ p

stored-fine : (values : List Float) → good (values_fault values) ≡ true → values_fault values ≡ no_fault
unfolding values_fault
stored-fine values g = orders.none_good (value_fault values) 0 (length values) (λ j l m. orders.all_passed (value_fault values) 0 (length values) g j l m)

rooms_passed : (s : Shape) (n v : ℕ) → total (counts_of s) ≤ n → size (counts_of s) ≤ v → good (rooms_fault s n v) ≡ true
unfolding rooms_fault
rooms_passed s n v p q = orders.both_passed _ _ (orders.passed-no_fault _ (room_enough 0 (total (counts_of s)) n p)) (orders.passed-no_fault _ (room_enough 1 (size (counts_of s)) v q))

rooms_fine : (s : Shape) (n v : ℕ) → good (rooms_fault s n v) ≡ true → rooms_fault s n v ≡ no_fault
unfolding rooms_fault room_fault
rooms_fine s n v g =
    orders.or_good (room_fault 0 (total (counts_of s)) n) (room_fault 1 (size (counts_of s)) v) (orders.first-passed (room_fault 0 (total (counts_of s)) n) _ g)
    ∙ orders.when_false (ltb v (size (counts_of s))) _ (orders.row_good (ltb v (size (counts_of s))) 14 0 1 (orders.second_passed (room_fault 0 (total (counts_of s)) n) (room_fault 1 (size (counts_of s)) v) g))

rooms_or : (s : Shape) (n v : ℕ) → (rooms_fault s n v or no_fault) ≡ rooms_fault s n v
rooms_or s n v = go (good (rooms_fault s n v)) refl
  where
    go : (b : Bool) → good (rooms_fault s n v) ≡ b → (rooms_fault s n v or no_fault) ≡ rooms_fault s n v
    go true e = orders.or_good (rooms_fault s n v) no_fault e ∙ sym (rooms_fine s n v e)
    go false e = orders.or_bad (rooms_fault s n v) no_fault e

-- a table that the writer accepts; its output had room for it
module _ (s : Shape) (four : length s.counts ≡ 4) (nodes values : List Float) (held : Held nodes) (kept : Held values) (out : List ℕ) (g : good (write_fault s nodes values (length out)) ≡ true) where
  w : Framed s nodes values
  w = written_frame s nodes values (length out) g

  abbrev image : List ℕ
  image = written s nodes values out

  pub image_is : image ≡ image_of s nodes values
  unfolding write_answer filled_into
  image_is =
      ap₂ take (orders.given-good (write_fault s nodes values (length out)) (image_length s) 0 g) (orders.given-good (write_fault s nodes values (length out)) (image_of s nodes values ++ drop (length (image_of s nodes values)) out) out g)
      ∙ take_at (image_of s nodes values) (drop (length (image_of s nodes values)) out) (image_length s) (length_image s nodes values w.nodes_long w.values_long)

  pub written_shape_back : shape_of image ≡ plain s
  written_shape_back = ap shape_of image_is ∙ made.shape_back s four nodes values w

  pub written_nodes_back : nodes_in image ≡ nodes
  written_nodes_back = ap nodes_in image_is ∙ made.nodes_back s four nodes values w held

  pub written_values_back : values_in image ≡ values
  written_values_back = ap values_in image_is ∙ made.values_back s four nodes values w kept

  same_counts : counts_of (plain s) ≡ counts_of s
  same_counts = count_in_lem s w.judged four

  -- for every room: 15, or nothing is wrong
  pub written_judged : (n v : ℕ) → load_fault image n v ≡ rooms_fault (plain s) n v
  written_judged n v =
      ap (λ (l : List ℕ). load_fault l n v) image_is
      ∙ judged (image_of s nodes values) n v (made_head s four nodes values w) (made_areas s four nodes values w) (made_pairs s four nodes values w)
      ∙ ap (λ (t : Shape). rooms_fault t n v or axes_fault (counts_of t) (nodes_in (image_of s nodes values)) or values_fault (values_in (image_of s nodes values))) (made.shape_back s four nodes values w)
      ∙ ap (λ (t : Fault). rooms_fault (plain s) n v or t) contents
      ∙ right
    where
      contents : (axes_fault (counts_of (plain s)) (nodes_in (image_of s nodes values)) or values_fault (values_in (image_of s nodes values))) ≡ no_fault
      contents =
          ap₂ (λ (xs ys : List Float). axes_fault (counts_of (plain s)) xs or values_fault ys) (made.nodes_back s four nodes values w held) (made.values_back s four nodes values w kept)
          ∙ ap (λ (cs : List ℕ). axes_fault cs nodes or values_fault values) same_counts
          ∙ orders.or_good (axes_fault (counts_of s) nodes) _ (write_means s nodes values (length out) g).axes
          ∙ stored-fine values (write_means s nodes values (length out) g).stored

      right : (rooms_fault (plain s) n v or no_fault) ≡ rooms_fault (plain s) n v
      right = rooms_or (plain s) n v

  -- "Writing and loading returns the table", whatever the two outputs hold beyond
  module _ (ns vs : List Float) (ln : length nodes ≤ length ns) (lv : length values ≤ length vs) where
    nothing : load_fault image (length ns) (length vs) ≡ no_fault
    nothing =
        written_judged (length ns) (length vs)
        ∙ rooms_fine (plain s) (length ns) (length vs)
        (rooms_passed (plain s) (length ns) (length vs) (omega (arith, ap total same_counts, w.nodes_long, ln)) (omega (arith, ap size same_counts, w.values_long, lv)))

    passes : good (load_fault image (length ns) (length vs)) ≡ true
    passes = ap good nothing ∙ orders.good-no_fault

    pub answer_back : load_answer image (length ns) (length vs) ≡ record { answer = fine; shape = plain s }
    unfolding load_answer
    answer_back =
        ap₂ (λ (a : Answer) (t : Shape). record { answer = a; shape = t }) (then_good (load_fault image (length ns) (length vs)) fine passes)
        (orders.given-good (load_fault image (length ns) (length vs)) (shape_of image) no_shape passes ∙ written_shape_back)

    filled : (xs ys zs : List Float) → xs ≡ ys → filled_into (load_fault image (length ns) (length vs)) xs zs ≡ ys ++ drop (length ys) zs
    unfolding filled_into
    filled xs ys zs e = orders.given-good (load_fault image (length ns) (length vs)) (xs ++ drop (length xs) zs) zs passes ∙ ap (λ (l : List Float). l ++ drop (length l) zs) e

    pub nodes_returned : filled_into (load_fault image (length ns) (length vs)) (nodes_in image) ns ≡ nodes ++ drop (length nodes) ns
    nodes_returned = filled (nodes_in image) nodes ns written_nodes_back

    pub values_returned : filled_into (load_fault image (length ns) (length vs)) (values_in image) vs ≡ values ++ drop (length values) vs
    values_returned = filled (values_in image) values vs written_values_back

-- ---- loading, then writing
module _ (img : List ℕ) (n v : ℕ) (g : good (load_fault img n v) ≡ true) where
  l : Loadable img n v
  l = load_means img n v g

  s_good : good (shape_fault (shape_of img)) ≡ true
  s_good = loaded_shape img n v g

  four : length (shape_of img).counts ≡ 4
  unfolding shape_of
  four = refl

  pub loaded_held : Held (nodes_in img)
  unfolding nodes_in nodes_from
  loaded_held = from 0 (axes_field img)
    where
      from : (a k : ℕ) → Held (nodes_from img a k)
      from a zero i = nan-fits binary64
      from a (suc k) i = held-append (floats_at img (offset_field img a) (count_field img a)) (nodes_from img (suc a) k) (floats_held img (offset_field img a) (count_field img a)) (from (suc a) k) i

  pub loaded_kept : Held (values_in img)
  unfolding values_in
  loaded_kept = floats_held img (values_field img) (size (counts_of (shape_of img)))

  -- an image's unused counts are zero, so its shape is as an image has it
  pub loaded_plain : plain (shape_of img) ≡ shape_of img
  unfolding plain shape_of
  loaded_plain = ap (λ (cs : List ℕ). record { axes = axes_field img; counts = cs }) (tabulate_same 4 (count_in (shape_of img)) (count_field img) (λ a m. each a m (ltb a (axes_field img)) (ltb-true a (axes_field img)) (ltb-false a (axes_field img))))
    where
      each : (a : ℕ) → a < 4 → (b : Bool) → (b ≡ true → a < axes_field img) → (b ≡ false → axes_field img ≤ a) → count_in (shape_of img) a ≡ count_field img a
      each a m true t f = made.count_some_of (shape_of img) a ∙ get_or-take (axes_field img) (tabulate 4 (count_field img)) a 0 (t refl) ∙ get_d_tabulate 4 a (count_field img) 0 m
      each a m false t f = made.count_none_of (shape_of img) a (f refl) ∙ sym (unused_zero img l.head a m (f refl))

  -- what was loaded passes 1, 2, 3
  pub loaded_frame : good (frame_fault (shape_of img) (length (nodes_in img)) (length (values_in img))) ≡ true
  unfolding frame_fault
  loaded_frame =
      orders.both_passed (shape_fault (shape_of img)) _ s_good
      (orders.both_passed (length_fault 0 (total (counts_of (shape_of img))) (length (nodes_in img))) _ (orders.passed-no_fault _ (length_same 0 (total (counts_of (shape_of img))) (length (nodes_in img)) (nodes_total img s_good)))
      (orders.passed-no_fault _ (length_same 1 (size (counts_of (shape_of img))) (length (values_in img)) (values_size img))))

  module _ (out : List ℕ) (room : image_length (shape_of img) ≤ length out) where
    pub loaded_writes : good (write_fault (shape_of img) (nodes_in img) (values_in img) (length out)) ≡ true
    unfolding write_fault
    loaded_writes =
        orders.both_passed (frame_fault (shape_of img) (length (nodes_in img)) (length (values_in img))) _ loaded_frame
        (orders.both_passed (axes_fault (counts_of (shape_of img)) (nodes_in img)) _ l.axes
        (orders.both_passed (values_fault (values_in img)) _ l.stored (orders.passed-no_fault _ (room_enough 2 (image_length (shape_of img)) (length out) room))))

    abbrev again : List ℕ
    again = written (shape_of img) (nodes_in img) (values_in img) out

    -- "loading and writing gives an image that loads the same": the same answer and shape for every room, the same nodes and values
    pub again_nodes : nodes_in again ≡ nodes_in img
    again_nodes = written_nodes_back (shape_of img) four (nodes_in img) (values_in img) loaded_held loaded_kept out loaded_writes

    pub again_values : values_in again ≡ values_in img
    again_values = written_values_back (shape_of img) four (nodes_in img) (values_in img) loaded_held loaded_kept out loaded_writes

    pub again_fault : (n' v' : ℕ) → load_fault again n' v' ≡ load_fault img n' v'
    again_fault n' v' =
        written_judged (shape_of img) four (nodes_in img) (values_in img) loaded_held loaded_kept out loaded_writes n' v'
        ∙ ap (λ (t : Shape). rooms_fault t n' v') loaded_plain
        ∙ sym (judged img n' v' l.head l.areas l.pairs ∙ ap (λ (t : Fault). rooms_fault (shape_of img) n' v' or t) contents ∙ rooms_or (shape_of img) n' v')
      where
        contents : (axes_fault (counts_of (shape_of img)) (nodes_in img) or values_fault (values_in img)) ≡ no_fault
        contents = orders.or_good (axes_fault (counts_of (shape_of img)) (nodes_in img)) _ l.axes ∙ stored-fine (values_in img) l.stored

    pub again_answer : (n' v' : ℕ) → load_answer again n' v' ≡ load_answer img n' v'
    unfolding load_answer
    again_answer n' v' =
        ap₂ (λ (a : Fault) (t : Shape). record { answer = a then fine; shape = given a t no_shape }) (again_fault n' v')
        (written_shape_back (shape_of img) four (nodes_in img) (values_in img) loaded_held loaded_kept out loaded_writes ∙ loaded_plain)
