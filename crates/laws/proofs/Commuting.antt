-- Demand 3 of the page of promises: two slices, one after the other, in either order. Assumes nothing.
use mathlib.Core.Path.{◌≡◌, refl, sym, ap, ap₂, ◌∙◌}
use mathlib.Core.Bool.{Bool, true, false, not, ◌||◌}
use mathlib.Core.List.{List}
use Prim.Native.Nat.{ℕ, suc, ◌-◌, ◌≤◌, ◌<◌}
use native.Mathlib.Omega.{arith}
use borrow.Author.Tests.{lt-ltb, le-leb}
use lib.Dec.{leb}
use lib.ListN.{length}
use lib.Ieee.{Float}
use lib.Ieee.Scale.{finite}
use Rattle.answer.specs.Faults.{Fault, good, refusal, when, ◌or◌, given, filled_into}
use Rattle.answer.specs.Answer.{refused, fine, ◌then◌}
use Rattle.answer.proofs.Orders as orders
use Rattle.answer.proofs.Answers.{then_bad}
use Rattle.layout.specs.Shape.{counts_of, size, no_shape}
use Rattle.layout.specs.Layout.{without, nodes_without, axis_of}
use Rattle.layout.specs.declared.Shape.{Shape}
use Rattle.layout.proofs.Removals.{get_d_without, get_d_without_below}
use Rattle.checks.specs.Numbers.{length_fault, axes_fault, values_fault, directions_fault, reading_fault, range_fault, room_fault, no_axis_fault}
use Rattle.checks.specs.Shapes.{frame_fault}
use Rattle.checks.proofs.numbers.Rows.{reading_fine}
use Rattle.orders.specs.Orders.{nearest_front, step_front, point_fault, nearest_slice_fault, step_slice_fault}
use Rattle.axis.specs.Picks.{nearest_rule, step_rule}
use Rattle.slices.specs.Slices.{shape_without, slice_answer, rule_slice, nearest_slice, nearest_sliced, step_slice, step_sliced}
use Rattle.slices.specs.declared.SliceAnswer.{SliceAnswer}
use Rattle.ninterp.proofs.Demands.{Accepted}
use Rattle.laws.specs.Calls.{Table, axes, counts, slice_nearest, slice_step}
use Rattle.laws.specs.Promises.{After, Commute}
use Rattle.laws.proofs.SliceLaw as law
use Rattle.laws.proofs.SliceLaw.{Made}
use Rattle.laws.proofs.Commutes as two
use Rattle.laws.proofs.Slicing.{slice_good, left_is}

-- ---- of an accepted table and a reading in range, only the axis (16) and the room (15) are left to refuse
module _ (s : Shape) (nodes values : List Float) (t : Accepted s nodes values) (k : ℕ) (q : Float) (room : ℕ) (fq : finite q ≡ true) (r : good (range_fault k (axis_of s nodes k) q) ≡ true) where
  abbrev rest : Fault
  rest = room_fault 1 (size (without k (counts_of s))) room

  point_room : point_fault s nodes k q room ≡ rest
  unfolding point_fault
  point_room = orders.or_good (reading_fault k q) _ (orders.passed-no_fault _ (reading_fine k q fq)) ∙ orders.or_good (range_fault k (axis_of s nodes k) q) _ r

  -- what stands after 16 and before the point was passed
  after_axis : (f : Fault) → good f ≡ true → ((no_axis_fault s.axes k or f) or point_fault s nodes k q room) ≡ (no_axis_fault s.axes k or rest)
  after_axis f g = orders.or_assoc (no_axis_fault s.axes k) f (point_fault s nodes k q room) ∙ ap (λ (x : Fault). no_axis_fault s.axes k or x) (orders.or_good f (point_fault s nodes k q room) g ∙ point_room)

  pub nearest_fault : nearest_slice_fault s nodes values k q room ≡ (no_axis_fault s.axes k or rest)
  unfolding nearest_slice_fault nearest_front
  nearest_fault =
      ap (λ (x : Fault). x or point_fault s nodes k q room) (orders.or_good (frame_fault s (length nodes) (length values)) _ t.frame)
      ∙ after_axis (axes_fault (counts_of s) nodes or values_fault values) (orders.both_passed _ _ t.axes t.stored)

  pub step_fault_lem : (ds : List ℕ) → good (length_fault 3 s.axes (length ds)) ≡ true → good (directions_fault ds) ≡ true → step_slice_fault s nodes values ds k q room ≡ (no_axis_fault s.axes k or rest)
  unfolding step_slice_fault step_front
  step_fault_lem ds l d =
      ap (λ (x : Fault). x or point_fault s nodes k q room)
      (orders.or_good (frame_fault s (length nodes) (length values)) _ t.frame ∙ orders.or_good (length_fault 3 s.axes (length ds)) _ l)
      ∙ after_axis (axes_fault (counts_of s) nodes or values_fault values or directions_fault ds) (orders.both_passed _ _ t.axes (orders.both_passed _ _ t.stored d))

-- 16 of an axis that is there: of a table of one axis
axis_there : (n k : ℕ) → k < n → no_axis_fault n k ≡ when (leb n 1) (refusal 16 0 0)
unfolding no_axis_fault
axis_there n k l = ap (λ (b : Bool). when b (refusal 16 0 0)) (ap (λ (b : Bool). leb n 1 || not b) (lt-ltb k n l) ∙ alone (leb n 1))
  where
    alone : (b : Bool) → (b || false) ≡ b
    alone true = refl
    alone false = refl

-- ---- what a second slice answers and leaves, by its fault, the shape that is left and its values
abbrev outcome : Fault → Shape → List Float → List Float → SliceAnswer × List Float
outcome f z xs out = (record { answer = f then fine; shape = given f z no_shape }, filled_into f xs out)

same_outcome : (f f' : Fault) (z z' : Shape) (xs xs' out : List Float) → f ≡ f' → z ≡ z' → xs ≡ xs' → outcome f z xs out ≡ outcome f' z' xs' out
same_outcome f f' z z' xs xs' out e u v = ap (λ (x : Fault). outcome x z xs out) e ∙ ap₂ (λ (w : Shape) (ys : List Float). outcome f' w ys out) u v

module _ {s : Shape} {nodes values : List Float} {k m : ℕ} (km : k ≤ m) {p q : Float} {rule : ℕ → List Float → Float → ℕ} (one : Made s nodes values k p rule) (other : Made s nodes values (suc m) q rule) (room : ℕ) where
  abbrev left : Fault
  left = when (leb (s.axes - 1) 1) (refusal 16 0 0) or room_fault 1 (size (without m (counts_of (shape_without s k)))) room

  -- the two second slices are judged alike
  pub after_one : (no_axis_fault (shape_without s k).axes m or room_fault 1 (size (without m (counts_of (shape_without s k)))) room) ≡ left
  unfolding shape_without
  after_one = ap (λ (x : Fault). x or room_fault 1 (size (without m (counts_of (shape_without s k)))) room) (axis_there (s.axes - 1) m (two.there_m km one other))

  pub after_other : (no_axis_fault (shape_without s (suc m)).axes k or room_fault 1 (size (without k (counts_of (shape_without s (suc m))))) room) ≡ left
  unfolding shape_without
  after_other =
      ap₂ (λ (x y : Fault). x or y) (axis_there (s.axes - 1) k (two.there_k km one other))
      (ap (λ (ns : List ℕ). room_fault 1 (size ns) room) (sym (two.counts_commute km one other)))

  -- on a table of two axes, 16
  pub left_sixteen : s.axes ≡ 2 → left ≡ refusal 16 0 0
  left_sixteen e =
      ap (λ (x : Fault). x or room_fault 1 (size (without m (counts_of (shape_without s k)))) room) (orders.when_true (leb (s.axes - 1) 1) (refusal 16 0 0) (le-leb (s.axes - 1) 1 (omega (arith, e))))
      ∙ orders.or_bad (refusal 16 0 0) (room_fault 1 (size (without m (counts_of (shape_without s k)))) room) (orders.bad_refused 15 0 0)

refused_sixteen : (f : Fault) → f ≡ refusal 16 0 0 → (f then fine) ≡ refused (refusal 16 0 0)
refused_sixteen f e = ap (λ (x : Fault). x then fine) e ∙ then_bad (refusal 16 0 0) fine (orders.bad_refused 15 0 0)

-- ---- a table of which both first slices are made, each lent as a table afterwards
module _ (t one other : Table) (k m : ℕ) (km : k ≤ m) (p q : Float) (rule : ℕ → List Float → Float → ℕ) (made : Made t.shape t.nodes.list t.values.list k p rule) (made' : Made t.shape t.nodes.list t.values.list (suc m) q rule)
    (f f' : Fault) (g : good f ≡ true) (g' : good f' ≡ true) (out out' again : List Float)
    (after : After t k (slice_answer f t.shape k, filled_into f (rule_slice rule t.shape t.nodes.list t.values.list k p) out) one)
    (after' : After t (suc m) (slice_answer f' t.shape (suc m), filled_into f' (rule_slice rule t.shape t.nodes.list t.values.list (suc m) q) out') other)
    (rule_k rule_m : ℕ → List Float → Float → ℕ) (above : rule_k m ≡ rule (suc m)) (below : rule_m k ≡ rule k) where
  abbrev s₁ : Shape
  s₁ = shape_without t.shape k

  abbrev n₁ : List Float
  n₁ = nodes_without k (counts t) t.nodes.list

  abbrev v₁ : List Float
  v₁ = rule_slice rule t.shape t.nodes.list t.values.list k p

  abbrev s₂ : Shape
  s₂ = shape_without t.shape (suc m)

  abbrev n₂ : List Float
  n₂ = nodes_without (suc m) (counts t) t.nodes.list

  abbrev v₂ : List Float
  v₂ = rule_slice rule t.shape t.nodes.list t.values.list (suc m) q

  at_one : {A : Type 0} (h : Shape → List Float → List Float → A) → h one.shape one.nodes.list one.values.list ≡ h s₁ n₁ v₁
  unfolding rule_slice
  at_one h = left_is (law.cut made) f out g after h

  at_other : {A : Type 0} (h : Shape → List Float → List Float → A) → h other.shape other.nodes.list other.values.list ≡ h s₂ n₂ v₂
  unfolding rule_slice
  at_other h = left_is (law.cut made') f' out' g' after' h

  pub nodes_same : nodes_without m (counts one) one.nodes.list ≡ nodes_without k (counts other) other.nodes.list
  nodes_same =
      at_one (λ s ns vs. nodes_without m (counts_of s) ns)
      ∙ two.nodes_commute km made made'
      ∙ sym (at_other (λ s ns vs. nodes_without k (counts_of s) ns))

  -- any two second slices that are judged by the axis and the room alone
  module _ (judge judge' : Shape → List Float → List Float → Fault) (first : judge s₁ n₁ v₁ ≡ (no_axis_fault s₁.axes m or room_fault 1 (size (without m (counts_of s₁))) (length again)))
      (second : judge' s₂ n₂ v₂ ≡ (no_axis_fault s₂.axes k or room_fault 1 (size (without k (counts_of s₂))) (length again))) where
    abbrev then_one : Shape → List Float → List Float → SliceAnswer × List Float
    then_one s ns vs = outcome (judge s ns vs) (shape_without s m) (rule_slice rule_k s ns vs m q) again

    abbrev then_other : Shape → List Float → List Float → SliceAnswer × List Float
    then_other s ns vs = outcome (judge' s ns vs) (shape_without s k) (rule_slice rule_m s ns vs k p) again

    pub both_same : then_one one.shape one.nodes.list one.values.list ≡ then_other other.shape other.nodes.list other.values.list
    both_same =
        at_one then_one
        ∙ same_outcome (judge s₁ n₁ v₁) (judge' s₂ n₂ v₂) (shape_without s₁ m) (shape_without s₂ k) (rule_slice rule_k s₁ n₁ v₁ m q) (rule_slice rule_m s₂ n₂ v₂ k p) again
        (first ∙ after_one km made made' (length again) ∙ sym (second ∙ after_other km made made' (length again))) (two.shapes_commute km made made') (two.commute km made made' rule_k rule_m above below)
        ∙ sym (at_other then_other)

    pub one_sixteen : axes t ≡ 2 → (then_one one.shape one.nodes.list one.values.list).0.answer ≡ refused (refusal 16 0 0)
    one_sixteen e = ap (λ (x : SliceAnswer × List Float). x.0.answer) (at_one then_one) ∙ refused_sixteen (judge s₁ n₁ v₁) (first ∙ after_one km made made' (length again) ∙ left_sixteen km made made' (length again) e)

-- ---- Nearest, and Step with the directions of the axes that are left
pub nearest_commute : Commute slice_nearest (λ k. slice_nearest)
unfolding nearest_slice nearest_sliced slice_answer rule_slice
nearest_commute t one other k m p q out out' again km h h' after after' =
    let g : good (nearest_slice_fault t.shape t.nodes.list t.values.list k p (length out)) ≡ true = slice_good _ t.shape k h in
    let g' : good (nearest_slice_fault t.shape t.nodes.list t.values.list (suc m) q (length out')) ≡ true = slice_good _ t.shape (suc m) h' in
    let made = law.nearest_made t.shape t.nodes.list t.values.list k p (length out) g in
    let made' = law.nearest_made t.shape t.nodes.list t.values.list (suc m) q (length out') g' in
    let first = nearest_fault _ _ _ (law.slice_accepted made) m q (length again) made'.finite_point (two.range_after km made made') in
    let second = nearest_fault _ _ _ (law.slice_accepted made') k p (length again) made.finite_point (two.range_before km made made') in (
      both_same t one other k m km p q nearest_rule made made' _ _ g g' out out' again after after' nearest_rule nearest_rule refl refl (λ s ns vs. nearest_slice_fault s ns vs m q (length again)) (λ s ns vs. nearest_slice_fault s ns vs k p (length again)) first second,
      (
        nodes_same t one other k m km p q nearest_rule made made' _ _ g g' out out' again after after' nearest_rule nearest_rule refl refl,
        one_sixteen t one other k m km p q nearest_rule made made' _ _ g g' out out' again after after' nearest_rule nearest_rule refl refl (λ s ns vs. nearest_slice_fault s ns vs m q (length again)) (λ s ns vs. nearest_slice_fault s ns vs k p (length again)) first second,
      ),
    )

pub step_commute : (ds : List ℕ) → Commute (slice_step ds) (λ k. slice_step (without k ds))
unfolding step_slice step_sliced slice_answer rule_slice
step_commute ds t one other k m p q out out' again km h h' after after' =
    let g : good (step_slice_fault t.shape t.nodes.list t.values.list ds k p (length out)) ≡ true = slice_good _ t.shape k h in
    let g' : good (step_slice_fault t.shape t.nodes.list t.values.list ds (suc m) q (length out')) ≡ true = slice_good _ t.shape (suc m) h' in
    let made = law.step_made t.shape t.nodes.list t.values.list ds k p (length out) g in
    let made' = law.step_made t.shape t.nodes.list t.values.list ds (suc m) q (length out') g' in
    let above = law.step_same (get_d_without k m ds 0 km) in
    let below = law.step_same (get_d_without_below k (suc m) ds 0 (omega (arith, km))) in
    let first = step_fault_lem _ _ _ (law.slice_accepted made) m q (length again) made'.finite_point (two.range_after km made made') (without k ds)
    (law.left_lent t.shape t.nodes.list t.values.list ds k p (length out) g) (law.left_good t.shape t.nodes.list t.values.list ds k p (length out) g) in
    let second = step_fault_lem _ _ _ (law.slice_accepted made') k p (length again) made.finite_point (two.range_before km made made') (without (suc m) ds)
    (law.left_lent t.shape t.nodes.list t.values.list ds (suc m) q (length out') g') (law.left_good t.shape t.nodes.list t.values.list ds (suc m) q (length out') g') in (
      both_same t one other k m km p q (step_rule ds) made made' _ _ g g' out out' again after after' (step_rule (without k ds)) (step_rule (without (suc m) ds)) above below
          (λ s ns vs. step_slice_fault s ns vs (without k ds) m q (length again)) (λ s ns vs. step_slice_fault s ns vs (without (suc m) ds) k p (length again)) first second,
      (
        nodes_same t one other k m km p q (step_rule ds) made made' _ _ g g' out out' again after after' (step_rule (without k ds)) (step_rule (without (suc m) ds)) above below,
        one_sixteen t one other k m km p q (step_rule ds) made made' _ _ g g' out out' again after after' (step_rule (without k ds)) (step_rule (without (suc m) ds)) above below
            (λ s ns vs. step_slice_fault s ns vs (without k ds) m q (length again)) (λ s ns vs. step_slice_fault s ns vs (without (suc m) ds) k p (length again)) first second,
      ),
    )
