-- Demand 3 for Nearest and Step: a slice that is made answers every remaining reading as the whole table does. Assumes nothing.
use mathlib.Core.Path.{◌≡◌, refl, sym, ap, ap₂, ◌∙◌, subst}
use mathlib.Core.Bool.{Bool, true, false}
use mathlib.Core.List.{List, []}
use Prim.Native.Nat.{ℕ, suc, ◌≤◌, ◌<◌}
use native.Mathlib.Omega.{arith}
use borrow.Author.Tests.{ltb-true, ltb-false}
use lib.Dec.{ltb}
use lib.ListN.{length, get_or}
use lib.Ieee.{Float, nan}
use lib.Ieee.Scale.{finite}
use Rattle.answer.specs.Faults.{Fault, good}
use Rattle.answer.specs.Answer.{answered, ◌then◌}
use Rattle.answer.proofs.Orders as orders
use Rattle.checks.specs.Passed.{Axis}
use Rattle.checks.specs.Numbers.{direction_fault, length_fault, value_fault, values_fault, directions_fault, range_fault}
use Rattle.checks.proofs.lent.Rows.{direction_fine, length_same}
use Rattle.layout.specs.Shape.{counts_of, size}
use Rattle.layout.specs.Layout.{axes_of, place, table, indices_at, tabulate, Inside, insert, without, slice_values, nodes_without, axis_of}
use Rattle.layout.specs.declared.Shape.{Shape}
use Rattle.layout.proofs.Walks.{length-axes}
use Rattle.checks.proofs.values.Rows.{value_good}
use Rattle.layout.proofs.Layouts.{get_d_tabulate, place_below, indices_inside}
use Rattle.layout.proofs.Removals.{length_without, get_d_without, get_d_without_below, length_slice, insert_inside, get_d_insert_below, get_d_insert_above, tabulate-insert, slice_law}
use Rattle.checks.proofs.table.Grids.{length-axis}
use Rattle.axis.specs.Steps.{step_index}
use Rattle.orders.specs.Orders.{nearest_front, step_front, point_fault, nearest_slice_fault, step_slice_fault}
use Rattle.axis.specs.Picks.{nearest_rule, step_rule}
use Rattle.ninterp.specs.Tables.{indices, picked, nearest_answer, step_answer}
use Rattle.slices.specs.Slices.{shape_without, rule_slice}
use Rattle.slices.specs.Scaffolding.{Ready}
use Rattle.laws.specs.Lowered.{lowered}
use Rattle.axis.proofs.picks.Picks.{step_fits, nearest_fits}
use Rattle.ninterp.proofs.Picks.{list_inside}
use Rattle.slices.proofs.Sliced.{Fronted, nearest_fronted, nearest_ready, step_fronted, step_ready, step_lent, step_directions, point_taken, point_range}
use Rattle.laws.proofs.Lowered as low
use Rattle.ninterp.proofs.Demands.{Accepted}
use Rattle.laws.proofs.Left as over
use Rattle.laws.proofs.Left.{Cut, core, front_accepted, lookup_asked, step_asked}

-- ---- what is known of a slice that was made
pub record Made (s : Shape) (nodes values : List Float) (k : ℕ) (p : Float) (rule : ℕ → List Float → Float → ℕ) : Type 0 where
  pub ready : Ready s nodes values k
  pub whole : Accepted s nodes values
  pub finite_point : finite p ≡ true
  pub in_range : good (range_fault k (axis_of s nodes k) p) ≡ true
  pub index_in : rule k (axis_of s nodes k) p < get_or (counts_of s) k 0

module _ {s : Shape} {nodes values : List Float} {k : ℕ} {p : Float} {rule : ℕ → List Float → Float → ℕ} (made : Made s nodes values k p rule) where
  abbrev i : ℕ
  i = rule k (axis_of s nodes k) p

  abbrev cs : List ℕ
  cs = counts_of s

  abbrev left : List ℕ
  left = without k (counts_of s)

  abbrev values' : List Float
  values' = slice_values k i (counts_of s) values

  abbrev nodes' : List Float
  nodes' = nodes_without k (counts_of s) nodes

  abbrev grid : List (List Float)
  grid = axes_of (counts_of s) nodes

  in_cs : k < length cs
  in_cs = omega (arith, made.ready.count, made.ready.within)

  slice_finite : (j : ℕ) → j < size left → finite (get_or values' j nan) ≡ true
  unfolding slice_values table
  slice_finite j l =
      subst (λ (x : Float). finite x ≡ true) (sym (get_d_tabulate (size left) j (λ u. get_or values (place cs (insert k i (indices_at left u))) nan) nan l))
      (made.ready.finites (place cs (insert k i (indices_at left j))) (omega (arith, inside, made.ready.stored)))
    where
      inside : place cs (insert k i (indices_at left j)) < size cs
      inside = place_below (insert k i (indices_at left j)) cs (insert_inside k i (indices_at left j) cs in_cs made.index_in (indices_inside left j l))

  values_good : good (values_fault values') ≡ true
  unfolding values_fault
  values_good = ap good (orders.none_good (value_fault values') 0 (length values') (λ j l m. value_good values' j (slice_finite j (omega (arith, length_slice k i cs values))))) ∙ orders.good-no_fault

  pub cut : Cut s nodes values k p (slice_values k (rule k (axis_of s nodes k) p) (counts_of s) values)
  cut = record {
    ready = made.ready;
    whole = made.whole;
    finite_point = made.finite_point;
    in_range = made.in_range;
    long = length_slice k i cs values;
    stored = values_good;
  }

  -- a made slice is an accepted table
  pub slice_accepted : Accepted (shape_without s k) (nodes_without k (counts_of s) nodes) (slice_values k (rule k (axis_of s nodes k) p) (counts_of s) values)
  slice_accepted = over.slice_accepted cut

  -- ---- the same reading of the slice and of the whole table
  module _ (ps : List Float) (rule' : ℕ → List Float → Float → ℕ) (below : (a : ℕ) → a < k → rule a ≡ rule' a) (above : (a : ℕ) → k ≤ a → rule (suc a) ≡ rule' a)
      (fits : (a : ℕ) (xs : List Float) (q : Float) → Axis xs → finite q ≡ true → rule' a xs q < length xs) where
    abbrev all : List Float
    all = insert k p ps

    module _ (n : length ps ≡ length left) where
      k_in : k ≤ length ps
      k_in = over.k_in cut ps n

      -- the index list of the whole reading is the slice's with the index put in
      indices_all : indices rule grid all ≡ insert k i (indices rule' (axes_of left nodes') ps)
      unfolding indices
      indices_all =
          ap (λ (m : ℕ). tabulate m (λ a. rule a (get_or grid a []) (get_or all a nan))) (length-axes cs nodes ∙ length_without k cs in_cs)
          ∙ tabulate-insert (length left) k (λ a. rule a (get_or grid a []) (get_or all a nan)) (λ a. rule' a (get_or (axes_of left nodes') a []) (get_or ps a nan)) (omega (arith, k_in))
          (λ a l. ap (λ r. r (get_or grid a []) (get_or all a nan)) (below a l) ∙ ap₂ (rule' a) (sym (over.axis_below cut a l)) (get_d_insert_below k a p ps nan l k_in))
          (λ a l m. ap (λ r. r (get_or grid (suc a) []) (get_or all (suc a) nan)) (above a l) ∙ ap₂ (rule' a) (sym (over.axis_above cut a l)) (get_d_insert_above k a p ps nan l k_in))
          ∙ ap₂ (λ (x m : ℕ). insert k x (tabulate m (λ a. rule' a (get_or (axes_of left nodes') a []) (get_or ps a nan)))) (ap (rule k (get_or grid k [])) (over.at_k cut ps n)) (sym (length-axes left nodes'))

      same_value : ((a : ℕ) → a < length ps → finite (get_or ps a nan) ≡ true) → picked rule cs nodes values all ≡ picked rule' left nodes' values' ps
      unfolding picked
      same_value g =
          ap (table cs values) indices_all
          ∙ sym (slice_law k i cs (indices rule' (axes_of left nodes') ps) values within)
        where
          within : Inside (indices rule' (axes_of left nodes') ps) left
          within = list_inside rule' left nodes' ps (over.flat_left cut) (λ a l. fits a (get_or (axes_of left nodes') a []) (get_or ps a nan) (over.axis_left cut a l) (g a (omega arith)))

    pub core_left : lowered k (core s nodes (insert k p ps) (answered (picked rule (counts_of s) nodes values (insert k p ps))))
        ≡ core (shape_without s k) (nodes_without k (counts_of s) nodes) ps
        (answered (picked rule' (counts_of (shape_without s k)) (nodes_without k (counts_of s) nodes) (slice_values k (rule k (axis_of s nodes k) p) (counts_of s) values) ps))
    core_left =
        over.core_left cut ps (answered (picked rule cs nodes values all)) (answered (picked rule' left nodes' values' ps)) (λ n g. low.lowered-answered k (picked rule cs nodes values all) ∙ ap answered (same_value n g))
        ∙ ap (λ (ms : List ℕ). core (shape_without s k) nodes' ps (answered (picked rule' ms nodes' values' ps))) (sym (over.counts_left cut))

-- ---- what a lookup comes to on an accepted table
module _ {s : Shape} {nodes values : List Float} (t : Accepted s nodes values) (readings : List Float) where
  pub nearest_core : nearest_answer s nodes values readings ≡ core s nodes readings (answered (picked nearest_rule (counts_of s) nodes values readings))
  unfolding nearest_answer
  nearest_core = ap (λ (f : Fault). f then answered (picked nearest_rule (counts_of s) nodes values readings)) (lookup_asked t readings)

  pub step_core : (directions : List ℕ) → good (length_fault 3 s.axes (length directions)) ≡ true → good (directions_fault directions) ≡ true
      → step_answer s nodes values readings directions ≡ core s nodes readings (answered (picked (step_rule directions) (counts_of s) nodes values readings))
  unfolding step_answer
  step_core directions l d = ap (λ (f : Fault). f then answered (picked (step_rule directions) (counts_of s) nodes values readings)) (step_asked t readings directions l d)

-- ---- a slice is made, where its front and its one reading were passed, by any rule whose indices lie on their axes
made_of : (s : Shape) (nodes values : List Float) (k : ℕ) (p : Float) (room : ℕ) (rule : ℕ → List Float → Float → ℕ)
    → Fronted s nodes values → Ready s nodes values k → good (point_fault s nodes k p room) ≡ true
    → (Axis (axis_of s nodes k) → finite p ≡ true → rule k (axis_of s nodes k) p < length (axis_of s nodes k)) → Made s nodes values k p rule
made_of s nodes values k p room rule f r point fits = record {
  ready = r;
  whole = front_accepted f;
  finite_point = fine;
  in_range = point_range s nodes k p room point;
  index_in = let l : rule k (axis_of s nodes k) p < length (axis_of s nodes k) = fits (r.grid.axes k in_cs) fine in omega (arith, length-axis (counts_of s) nodes r.grid.flat k in_cs);
}
  where
    in_cs : k < length (counts_of s)
    in_cs = omega (arith, r.count, r.within)

    fine : finite p ≡ true
    fine = (point_taken s nodes k p room point).finite_point

-- ---- demand 3 for Nearest, on any axis
module _ (s : Shape) (nodes values : List Float) (k : ℕ) (p : Float) (room : ℕ) (h : good (nearest_slice_fault s nodes values k p room) ≡ true) where
  pub nearest_made : Made s nodes values k p nearest_rule
  unfolding nearest_slice_fault
  nearest_made =
      let front : good (nearest_front s nodes values k) ≡ true = orders.first-passed _ _ h in
      made_of s nodes values k p room nearest_rule (nearest_fronted s nodes values k front) (nearest_ready s nodes values k front) (orders.second_passed _ _ h)
      (λ ax f. nearest_fits (axis_of s nodes k) p ax f)

  pub nearest_slice_law : (ps : List Float) → nearest_answer (shape_without s k) (nodes_without k (counts_of s) nodes) (rule_slice nearest_rule s nodes values k p) ps ≡ lowered k (nearest_answer s nodes values (insert k p ps))
  unfolding rule_slice
  nearest_slice_law ps =
      nearest_core (slice_accepted nearest_made) ps
      ∙ sym
      (ap (lowered k) (nearest_core nearest_made.whole (insert k p ps))
      ∙ core_left nearest_made ps nearest_rule (λ a l. refl) (λ a l. refl) (λ a xs q ax f. nearest_fits xs q ax f))

pub step_same : {d e : ℕ} → d ≡ e → ◌≡◌ {A = List Float → Float → ℕ} (λ xs q. step_index d xs q) (λ xs q. step_index e xs q)
step_same h = ap {B = List Float → Float → ℕ} (λ (d : ℕ). λ xs q. step_index d xs q) h

-- ---- the directions of the other axes
directions_all : (directions : List ℕ) → ((a : ℕ) → a < length directions → get_or directions a 0 < 2) → good (directions_fault directions) ≡ true
unfolding directions_fault
directions_all directions two =
    ap good (orders.none_good (λ a. direction_fault a (get_or directions a 0)) 0 (length directions)
    (λ a l m. orders.passed-no_fault (direction_fault a (get_or directions a 0)) (direction_fine a (get_or directions a 0) (let q : get_or directions a 0 < 2 = two a (omega arith) in omega arith))))
    ∙ orders.good-no_fault

directions_left : (k : ℕ) (directions : List ℕ) → k < length directions → ((a : ℕ) → a < length directions → get_or directions a 0 < 2) → good (directions_fault (without k directions)) ≡ true
directions_left k directions h two = directions_all (without k directions) each
  where
    each : (a : ℕ) → a < length (without k directions) → get_or (without k directions) a 0 < 2
    each a l = go (ltb a k) (ltb-true a k) (ltb-false a k)
      where
        go : (x : Bool) → (x ≡ true → a < k) → (x ≡ false → k ≤ a) → get_or (without k directions) a 0 < 2
        go true u v = subst (λ (d : ℕ). d < 2) (sym (get_d_without_below a k directions 0 (u refl))) (two a (omega (arith, length_without k directions h)))
        go false u v = subst (λ (d : ℕ). d < 2) (sym (get_d_without k a directions 0 (v refl))) (two (suc a) (omega (arith, length_without k directions h)))

left_directions : (s : Shape) (k : ℕ) (directions : List ℕ) → length directions ≡ s.axes → k < s.axes → length (without k directions) ≡ (shape_without s k).axes
unfolding shape_without
left_directions s k directions e h = omega (arith, length_without k directions (omega arith))

lent_good : (axes : ℕ) (directions : List ℕ) → length directions ≡ axes → good (length_fault 3 axes (length directions)) ≡ true
lent_good axes directions e = orders.passed-no_fault (length_fault 3 axes (length directions)) (length_same 3 axes (length directions) e)

-- ---- demand 3 for Step, on any axis: the slice's lookups take the directions of the other axes
module _ (s : Shape) (nodes values : List Float) (directions : List ℕ) (k : ℕ) (p : Float) (room : ℕ) (h : good (step_slice_fault s nodes values directions k p room) ≡ true) where
  step_front_lem : good (step_front s nodes values directions k) ≡ true
  unfolding step_slice_fault
  step_front_lem = orders.first-passed _ _ h

  pub step_made : Made s nodes values k p (step_rule directions)
  unfolding step_slice_fault
  step_made =
      made_of s nodes values k p room (step_rule directions) (step_fronted s nodes values k directions step_front_lem) (step_ready s nodes values k directions step_front_lem) (orders.second_passed _ _ h)
      (λ ax f. step_fits (axis_of s nodes k) p ax f (get_or directions k 0))

  lent : length directions ≡ s.axes
  lent = step_lent s nodes values k directions step_front_lem

  twos : (a : ℕ) → a < length directions → get_or directions a 0 < 2
  twos a l = step_directions s nodes values k directions step_front_lem a l

  -- the directions of the other axes are those of the slice
  pub left_lent : good (length_fault 3 (shape_without s k).axes (length (without k directions))) ≡ true
  left_lent = lent_good (shape_without s k).axes (without k directions) (left_directions s k directions lent step_made.ready.within)

  pub left_good : good (directions_fault (without k directions)) ≡ true
  left_good = directions_left k directions (omega (arith, lent, step_made.ready.within)) twos

  pub step_slice_law : (ps : List Float) → step_answer (shape_without s k) (nodes_without k (counts_of s) nodes) (rule_slice (step_rule directions) s nodes values k p) ps (without k directions) ≡ lowered k (step_answer s nodes values (insert k p ps) directions)
  unfolding rule_slice
  step_slice_law ps =
      step_core (slice_accepted step_made) ps (without k directions) left_lent left_good
      ∙ sym
      (ap (lowered k) (step_core step_made.whole (insert k p ps) directions (lent_good s.axes directions lent) (directions_all directions twos))
      ∙ core_left step_made ps (step_rule (without k directions))
      (λ a l. step_same (sym (get_d_without_below a k directions 0 l))) (λ a l. step_same (sym (get_d_without k a directions 0 l)))
      (λ a xs q ax f. step_fits xs q ax f (get_or (without k directions) a 0)))
