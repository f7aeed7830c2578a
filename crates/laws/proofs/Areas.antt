-- Request C-12 on the page: areas must not overlap. Assumes nothing.
use mathlib.Core.Path.{◌≡◌, refl, sym, ap, ap₂, ◌∙◌, subst}
use mathlib.Core.Bool.{Bool, true, false}
use mathlib.Core.List.{List, [], ◌∷◌}
use Prim.Native.Nat.{ℕ, ◌+◌, ◌*◌, ◌≤◌}
use native.Mathlib.Omega.{arith}
use borrow.Author.Tests.{eq-eqb, eqb-true}
use lib.ListN.{length}
use lib.Ieee.{Float}
use Rattle.answer.specs.Faults.{Fault, refusal, no_fault, good, filled_into}
use Rattle.answer.specs.Answer.{refused, answered, fine, ◌then◌, plus_zero}
use Rattle.answer.specs.declared.Answer.{Answer}
use Rattle.answer.proofs.Orders as orders
use Rattle.answer.proofs.Answers.{then_good, then_bad, then_number}
use Rattle.layout.specs.Shape.{counts_of, size, total, no_shape}
use Rattle.layout.specs.declared.Shape.{Shape}
use Rattle.image.specs.Fields.{axes_field, shape_of}
use Rattle.image.specs.Image.{nodes_in, values_in}
use Rattle.image.specs.Head.{head_fault}
use Rattle.image.specs.Load.{areas_fault, pairs_fault, load_fault, load_fault01, load_answer, answer_by}
use Rattle.image.specs.Shared.{Share, Pair, Apart, InTurn}
use Rattle.image.specs.declared.LoadAnswer.{LoadAnswer}
use Rattle.image.proofs.Laws.{load_accepts, load_means}
use Rattle.image.proofs.Fewer as fewer
use Rattle.image.proofs.Sharing.{axis_begins, axis_holds, values_begin, values_hold}
use Rattle.image.proofs.Pairs.{pairs-apart, pairs_lowest, turns_apart}
use Rattle.image.proofs.Examples.{overlapping, overlap_was, overlap_is, overlap_begins, overlap_axes, crossing, crossing_axes, crossing_is, crossing_upper, crossing_lower}
use Rattle.writer.specs.Made.{values_at, image_length}
use Rattle.writer.specs.Write.{write_fault, write_answer}
use Rattle.writer.proofs.Trip as trip
use Rattle.writer.proofs.Writes.{written_frame}
use Rattle.laws.specs.Calls.{Table, counts, on, load, write}
use Rattle.laws.specs.Promises.{Loaded}
use Rattle.laws.specs.Areas.{load01, written, Named, Technician's, Crossed, Areas}
use Rattle.laws.proofs.Judging.{loaded_shape_is, loaded_nodes_are, loaded_values_are}

-- ---- a load, by its fault: what it answers and leaves
abbrev made : List ℕ → List Float → List Float → Fault → LoadAnswer × (List Float × List Float)
made img ns vs fault = (answer_by fault img, (filled_into fault (nodes_in img) ns, filled_into fault (values_in img) vs))

-- the number that is answered is the fault's
then_is : (f : Fault) → (f then fine).number ≡ f.number
unfolding fine answered refused good
then_is f = go (good f) refl
  where
    go : (b : Bool) → good f ≡ b → (f then fine).number ≡ f.number
    go true e = ap (λ (a : Answer). a.number) (then_good f fine e) ∙ sym (eqb-true f.number 0 e)
    go false e = ap (λ (a : Answer). a.number) (then_bad f fine e)

number-18 : (i j : ℕ) → (refusal 18 i j).number ≡ 18
unfolding refusal
number-18 i j = refl

-- no shape, and both outputs as they were
made_refused : (img : List ℕ) (ns vs : List Float) (i j : ℕ) → made img ns vs (refusal 18 i j) ≡ (record { answer = refused (refusal 18 i j); shape = no_shape }, (ns, vs))
unfolding filled_into
made_refused img ns vs i j =
    ap₂ (λ (r : LoadAnswer) (o : List Float × List Float). (r, o))
    (ap₂ (λ (a : Answer) (s : Shape). record { answer = a; shape = s }) (then_bad (refusal 18 i j) fine bad) (orders.given_bad (refusal 18 i j) (shape_of img) no_shape bad))
    (ap₂ (λ (x y : List Float). (x, y)) (orders.given_bad (refusal 18 i j) _ ns bad) (orders.given_bad (refusal 18 i j) _ vs bad))
  where
    bad : good (refusal 18 i j) ≡ false
    bad = orders.bad_refused 17 i j

module _ (img : List ℕ) (ns vs : List Float) where
  abbrev fault : Fault
  fault = load_fault img (length ns) (length vs)

  abbrev fault01 : Fault
  fault01 = load_fault01 img (length ns) (length vs)

  load_by : (f : Fault) → fault ≡ f → load img ns vs ≡ made img ns vs f
  unfolding load_answer
  load_by f e = ap (made img ns vs) e

  number_is : (load img ns vs).0.answer.number ≡ fault.number
  unfolding load_answer
  number_is = then_is fault

  load-good : (load img ns vs).0.answer.number ≡ 0 → good fault ≡ true
  unfolding good
  load-good h = eq-eqb fault.number 0 (sym number_is ∙ h)

  good-load : good fault ≡ true → (load img ns vs).0.answer.number ≡ 0
  unfolding good
  good-load g = number_is ∙ eqb-true fault.number 0 g

  apart : (load img ns vs).0.answer.number ≡ 0 → Apart img
  apart h = pairs-apart img (load_means img (length ns) (length vs) (load-good h)).pairs

  unchanged : ((load img ns vs).0.answer.number ≡ 18 → ⊥) → load img ns vs ≡ load01 img ns vs
  unchanged h = load_by fault01 (fewer.load_unchanged img (length ns) (length vs) (λ e. h (number_is ∙ e)))

  still : Apart img → load img ns vs ≡ load01 img ns vs
  still h = load_by fault01 (fewer.load_apart img (length ns) (length vs) h)

  named : (load img ns vs).0.answer.number ≡ 18 → Named img (load img ns vs).0.answer
  named h =
      let t = fewer.load_told img (length ns) (length vs) (sym number_is ∙ h) in
      let r = load_by (refusal 18 t.one t.other) t.is ∙ made_refused img ns vs t.one t.other in
      record {
        one = t.one;
        other = t.other;
        lowest = t.lowest;
        told = ap (λ (x : LoadAnswer × (List Float × List Float)). x.0.answer) r;
        header = t.head;
        after-14 = t.areas;
      }

  not_named : Apart img → (load img ns vs).0.answer.number ≡ 18 → ⊥
  not_named h e = let n = named e in h n.one n.other n.lowest.pair n.lowest.share

  shared_is : (i j : ℕ) → good (head_fault img) ≡ true → good (areas_fault img) ≡ true → Pair img i j → Share img i j → (load img ns vs).0.answer.number ≡ 18
  shared_is i j g k p s = go (good (pairs_fault img)) refl
    where
      go : (b : Bool) → good (pairs_fault img) ≡ b → (load img ns vs).0.answer.number ≡ 18
      go true e = absurd (pairs-apart img e i j p s)
      go false e =
          let l = pairs_lowest img e in
          number_is ∙ ap (λ (f : Fault). f.number) (fewer.load_eighteen img (length ns) (length vs) g k l.0 l.1.0 l.1.1) ∙ number-18 l.0 l.1.0

-- ---- the witnesses
technicians : Technician's
technicians = record {
  img = overlapping;
  ns = plus_zero ∷ plus_zero ∷ [];
  vs = plus_zero ∷ plus_zero ∷ [];
  one-axis = overlap_axes;
  begins = overlap_begins;
  was = ap (λ (f : Fault). f then fine) overlap_was ∙ then_good no_fault fine orders.good-no_fault;
  is =
      ap (λ (x : LoadAnswer × (List Float × List Float)). x.0.answer)
      (load_by overlapping (plus_zero ∷ plus_zero ∷ []) (plus_zero ∷ plus_zero ∷ []) (refusal 18 0 1) overlap_is ∙ made_refused overlapping (plus_zero ∷ plus_zero ∷ []) (plus_zero ∷ plus_zero ∷ []) 0 1);
}

crossings : Crossed
crossings = record {
  img = crossing;
  three_axes = crossing_axes;
  upper = crossing_upper;
  lower = crossing_lower;
  told = ap (λ (x : LoadAnswer × (List Float × List Float)). x.0.answer) (load_by crossing [] [] (refusal 18 0 3) crossing_is ∙ made_refused crossing [] [] 0 3);
}

-- ---- what was written
module _ (t : Table) (out : List ℕ) (h : (write t out).0.answer.number ≡ 0) where
  write-good : good (write_fault t.shape t.nodes.list t.values.list (length out)) ≡ true
  unfolding write_answer
  write-good = then_number _ fine h

  turns : InTurn (written t out)
  turns =
      subst InTurn (sym (trip.image_is t.shape t.four t.nodes.list t.values.list t.nodes.held t.values.held out write-good))
      (trip.made_turns t.shape t.four t.nodes.list t.values.list (written_frame t.shape t.nodes.list t.values.list (length out) write-good))

-- ---- loaded, and written again
module _ (img : List ℕ) (ns vs : List Float) (t : Table) (out : List ℕ) (h : (load img ns vs).0.answer.number ≡ 0) (l : Loaded (load img ns vs) t)
    (r : 40 + 8 * total (counts t) + 8 * size (counts t) ≤ length out) where
  g : good (load_fault img (length ns) (length vs)) ≡ true
  g = load-good img ns vs h

  shape_is : t.shape ≡ shape_of img
  shape_is = loaded_shape_is img ns vs t h l

  room : image_length (shape_of img) ≤ length out
  unfolding image_length values_at
  room = subst (λ (s : Shape). 40 + 8 * total (counts_of s) + 8 * size (counts_of s) ≤ length out) shape_is r

  -- the table is what the image has, and so is what is written of it
  by : {A : Type 0} (f : Shape → List Float → List Float → A) → on t f ≡ f (shape_of img) (nodes_in img) (values_in img)
  by f = ap (λ (s : Shape). f s t.nodes.list t.values.list) shape_is ∙ ap₂ (f (shape_of img)) (loaded_nodes_are img ns vs t h l) (loaded_values_are img ns vs t h l)

  again_written : (write t out).0.answer ≡ fine
  unfolding write_answer
  again_written = then_good _ fine (by (λ s xs ys. good (write_fault s xs ys (length out))) ∙ trip.loaded_writes img (length ns) (length vs) g out room)

  again : (ns' vs' : List Float) → load (written t out) ns' vs' ≡ load img ns' vs'
  again ns' vs' =
      ap (λ (x : List ℕ). load x ns' vs') (by (λ s xs ys. trip.written s xs ys out))
      ∙ ap₂ (λ (a : LoadAnswer) (o : List Float × List Float). (a, o)) (trip.again_answer img (length ns) (length vs) g out room (length ns') (length vs'))
      (ap₂ (λ (x y : List Float). (x, y))
      (ap₂ (λ (f : Fault) (xs : List Float). filled_into f xs ns') faults (trip.again_nodes img (length ns) (length vs) g out room))
      (ap₂ (λ (f : Fault) (xs : List Float). filled_into f xs vs') faults (trip.again_values img (length ns) (length vs) g out room)))
    where
      faults : load_fault (trip.written (shape_of img) (nodes_in img) (values_in img) out) (length ns') (length vs') ≡ load_fault img (length ns') (length vs')
      faults = trip.again_fault img (length ns) (length vs) g out room (length ns') (length vs')

pub areas : Areas
areas = record {
  axis_areas = λ img a l. (axis_begins img a l, axis_holds img a l);
  values_area = λ img. (values_begin img (axes_field img) (omega arith), values_hold img (axes_field img) (omega arith));
  areas-of-01 = fewer.areas_before;
  loads = λ img ns vs l. good-load img ns vs (load_accepts img (length ns) (length vs) l);
  loads_only = λ img ns vs h. load_means img (length ns) (length vs) (load-good img ns vs h);
  loaded_apart = apart;
  shared_refused = shared_is;
  shared_named = named;
  apart-not-18 = not_named;
  crossed = crossings;
  before-15 = λ img ns vs i j g k s. load_by img ns vs (refusal 18 i j) (fewer.load_eighteen img (length ns) (length vs) g k i j s) ∙ made_refused img ns vs i j;
  technician's = technicians;
  was_accepted = λ img ns vs h. still img ns vs (apart img ns vs h);
  still_accepted = λ img ns vs h a. (ap (λ (x : LoadAnswer × (List Float × List Float)). x.0.answer.number) (still img ns vs a) ∙ h, still img ns vs a);
  else_unchanged = unchanged;
  in_turn_apart = turns_apart;
  written_in_turn = turns;
  image_again = λ img ns vs t out h l r. (again_written img ns vs t out h l r, again img ns vs t out h l r);
}
