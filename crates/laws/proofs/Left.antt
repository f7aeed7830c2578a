-- The table that a slice leaves is an accepted one, and its orders of checks are the whole table's, lowered, for any rule. Assumes nothing.
use mathlib.Core.Path.{◌≡◌, refl, sym, ap, ap₂, ◌∙◌, subst}
use mathlib.Core.Bool.{Bool, true, false, not}
use mathlib.Core.List.{List, []}
use Prim.Native.Nat.{ℕ, suc, ◌-◌, ◌*◌, ◌≤◌, ◌<◌, min}
use native.Mathlib.Nat.{mul-le-mul_right, mul-le-mul_left, one-mul}
use native.Mathlib.Omega.{arith}
use borrow.Author.Tests.{eq-eqb, ne_eqb, eqb-true, eqb-false, ltb-true, ltb-false}
use lib.Dec.{eqb, ltb}
use lib.ListN.{length, take, drop, get_or, length-take}
use lib.Seq.{get_or-take, ext_get_or}
use lib.Ieee.{Float, nan, lt}
use lib.Ieee.Scale.{finite}
use Rattle.answer.specs.Faults.{Fault, refusal, good, when, ◌or◌, first_fault}
use Rattle.answer.specs.Answer.{◌then◌}
use Rattle.answer.specs.declared.Answer.{Answer}
use Rattle.answer.proofs.Orders as orders
use Rattle.checks.specs.Nodes.{node}
use Rattle.checks.specs.Passed.{Axis}
use Rattle.checks.specs.Numbers.{length_fault, reading_fault, ranges_fault, values_fault, readings_fault, range_fault, directions_fault, axes_uniform_fault}
use Rattle.checks.proofs.lent.Rows.{length-passed}
use Rattle.checks.proofs.numbers.Rows.{reading_fine}
use Rattle.layout.specs.Shape.{counts_of, size, total}
use Rattle.layout.specs.Layout.{axes_of, tabulate, insert, without, nodes_without, axis_of}
use Rattle.layout.specs.declared.Shape.{Shape}
use Rattle.layout.proofs.Layouts.{length-tabulate, get_d_tabulate}
use Rattle.layout.proofs.Removals.{size_split, size-without, length_without, get_d_without, get_d_without_below, axes-without, total-without, length-insert, get_d_insert, get_d_insert_below, get_d_insert_above}
use Rattle.checks.proofs.table.Grids.{length-axis}
use Rattle.checks.proofs.lists.Rows.{readings_finite}
use Rattle.orders.specs.Orders.{lookup_fault, step_fault, linear_uniform_fault}
use Rattle.slices.specs.Slices.{shape_without}
use Rattle.laws.specs.Lowered.{lowered, lowered_fault}
use Rattle.slices.specs.Scaffolding.{Ready}
use Rattle.slices.proofs.Sliced.{Fronted}
use Rattle.laws.proofs.Lowered as low
use Rattle.ninterp.proofs.Demands.{Accepted}
use Rattle.laws.proofs.Accepts.{accepts}

-- ---- 10 and 11 of one axis, under the number that it has in what is left
reading_lowered : (k a b : ℕ) (q : Float) → lowered_fault k (refusal 10 a 0) ≡ refusal 10 b 0 → lowered_fault k (reading_fault a q) ≡ reading_fault b q
unfolding reading_fault
reading_lowered k a b q e = low.lowered-when k (not (finite q)) (refusal 10 a 0) (refusal 10 b 0) e

range_lowered : (k a b : ℕ) (xs : List Float) (q : Float) → ((place : ℕ) → lowered_fault k (refusal 11 a place) ≡ refusal 11 b place) → lowered_fault k (range_fault a xs q) ≡ range_fault b xs q
unfolding range_fault
range_lowered k a b xs q e =
    low.lowered_or k _ _ _ _ (low.lowered-when k (lt q (node xs 0)) (refusal 11 a 0) (refusal 11 b 0) (e 0))
    (λ g. low.lowered-when k (lt (node xs (length xs - 1)) q) (refusal 11 a 1) (refusal 11 b 1) (e 1))

pub range_moves : (k a : ℕ) (xs : List Float) (q : Float) → k ≤ a → lowered_fault k (range_fault (suc a) xs q) ≡ range_fault a xs q
range_moves k a xs q l = range_lowered k (suc a) a xs q (λ place. low.lowered_high k 11 a place refl l)

-- ---- a table that a slice's front passes is an accepted one
pub front_accepted : {s : Shape} {nodes values : List Float} → Fronted s nodes values → Accepted s nodes values
front_accepted f = record { frame = f.frame; axes = f.axes; stored = f.stored }

-- ---- what is asked of a reading, and what follows it
abbrev pub asked : Shape → List Float → List Float → Fault
asked s nodes readings = length_fault 2 s.axes (length readings) or readings_fault readings or ranges_fault (counts_of s) nodes readings

abbrev pub core : Shape → List Float → List Float → Answer → Answer
core s nodes readings v = asked s nodes readings then v

-- ---- what is known of a slice that was made, with its values
pub record Cut (s : Shape) (nodes values : List Float) (k : ℕ) (p : Float) (values' : List Float) : Type 0 where
  pub ready : Ready s nodes values k
  pub whole : Accepted s nodes values
  pub finite_point : finite p ≡ true
  pub in_range : good (range_fault k (axis_of s nodes k) p) ≡ true
  pub long : length values' ≡ size (without k (counts_of s))
  pub stored : good (values_fault values') ≡ true

-- ---- the table that is left
module _ {s : Shape} {nodes values : List Float} {k : ℕ} {p : Float} {values' : List Float} (cut : Cut s nodes values k p values') where
  t : Ready s nodes values k
  t = cut.ready

  abbrev cs : List ℕ
  cs = counts_of s

  abbrev left : List ℕ
  left = without k (counts_of s)

  abbrev nodes' : List Float
  nodes' = nodes_without k (counts_of s) nodes

  abbrev s' : Shape
  s' = shape_without s k

  pub in_cs : k < length (counts_of s)
  in_cs = omega (arith, t.count, t.within)

  pub count_left : s.axes ≡ suc (length (without k (counts_of s)))
  count_left = sym t.count ∙ length_without k cs in_cs

  axes' : s'.axes ≡ length left
  unfolding shape_without
  axes' = omega (arith, count_left)

  pub counts_left : counts_of (shape_without s k) ≡ without k (counts_of s)
  unfolding shape_without
  counts_left = ext_get_or 0 (take (s.axes - 1) (tabulate 4 (λ a. get_or left a 0))) left (length-take (s.axes - 1) (tabulate 4 (λ a. get_or left a 0)) ∙ long) at
    where
      long : min (s.axes - 1) (length (tabulate 4 (λ a. get_or left a 0))) ≡ length left
      long = let q : s.axes ≤ 4 = t.four in omega (arith, count_left, length-tabulate 4 (λ a. get_or left a 0))

      at : (a : ℕ) → a < length (take (s.axes - 1) (tabulate 4 (λ a. get_or left a 0))) → get_or (take (s.axes - 1) (tabulate 4 (λ a. get_or left a 0))) a 0 ≡ get_or left a 0
      at a l =
          let m : a < s.axes - 1 = omega (arith, length-take (s.axes - 1) (tabulate 4 (λ b. get_or left b 0))) in
          let q : s.axes ≤ 4 = t.four in
          get_or-take (s.axes - 1) (tabulate 4 (λ b. get_or left b 0)) a 0 m ∙ get_d_tabulate 4 a (λ b. get_or left b 0) 0 (omega arith)

  abbrev grid : List (List Float)
  grid = axes_of (counts_of s) nodes

  axes_left : axes_of left nodes' ≡ without k grid
  axes_left = axes-without k cs nodes in_cs t.grid.flat

  pub axis_below : (a : ℕ) → a < k → get_or (axes_of (without k (counts_of s)) (nodes_without k (counts_of s) nodes)) a [] ≡ get_or (axes_of (counts_of s) nodes) a []
  axis_below a l = ap (λ xs. get_or xs a []) axes_left ∙ get_d_without_below a k grid [] l

  pub axis_above : (a : ℕ) → k ≤ a → get_or (axes_of (without k (counts_of s)) (nodes_without k (counts_of s) nodes)) a [] ≡ get_or (axes_of (counts_of s) nodes) (suc a) []
  axis_above a l = ap (λ xs. get_or xs a []) axes_left ∙ get_d_without k a grid [] l

  either : (a : ℕ) → (P : Type 0) → (a < k → P) → (k ≤ a → P) → P
  either a P f g = go (ltb a k) (ltb-true a k) (ltb-false a k)
    where
      go : (x : Bool) → (x ≡ true → a < k) → (x ≡ false → k ≤ a) → P
      go true u v = f (u refl)
      go false u v = g (v refl)

  pub axis_left : (a : ℕ) → a < length (without k (counts_of s)) → Axis (get_or (axes_of (without k (counts_of s)) (nodes_without k (counts_of s) nodes)) a [])
  axis_left a l =
      either a (Axis (get_or (axes_of left nodes') a []))
      (λ h. subst Axis (sym (axis_below a h)) (t.grid.axes a (omega (arith, t.count, count_left))))
      (λ h. subst Axis (sym (axis_above a h)) (t.grid.axes (suc a) (omega (arith, t.count, count_left))))

  pub flat_left : length (nodes_without k (counts_of s) nodes) ≡ total (without k (counts_of s))
  flat_left = total-without k cs nodes in_cs t.grid.flat

  small : size left ≤ 4096
  small =
      let c : 1 ≤ get_or cs k 0 = let x : 2 ≤ length (get_or (axes_of (counts_of s) nodes) k []) = (t.grid.axes k in_cs).enough in omega (arith, length-axis cs nodes t.grid.flat k in_cs) in
      let a : size (take k cs) * (1 * size (drop (suc k) cs)) ≤ size (take k cs) * (get_or cs k 0 * size (drop (suc k) cs)) = mul-le-mul_left (size (take k cs)) (mul-le-mul_right (size (drop (suc k) cs)) c) in
      omega (arith, size_split k cs in_cs, size-without k cs in_cs, t.grid.small, ap (λ (x : ℕ). size (take k cs) * x) (one-mul (size (drop (suc k) cs))))

  -- a made slice is an accepted table
  pub slice_accepted : Accepted (shape_without s k) (nodes_without k (counts_of s) nodes) values'
  slice_accepted =
      let low : 1 ≤ s'.axes = let m : 1 < s.axes = t.many in omega (arith, axes', count_left) in
      let high : s'.axes ≤ 4 = let q : s.axes ≤ 4 = t.four in omega (arith, axes', count_left) in
      accepts s' nodes' values' (ap length counts_left ∙ sym axes') low high (flat_left ∙ ap total (sym counts_left)) (subst (λ (ms : List ℕ). size ms ≤ 4096) (sym counts_left) small)
      (cut.long ∙ ap size (sym counts_left)) (λ a l. subst (λ (ms : List ℕ). Axis (get_or (axes_of ms nodes') a [])) (sym counts_left) (axis_left a (omega (arith, axes')))) cut.stored

  -- ---- the same reading of the slice and of the whole table
  module _ (ps : List Float) where
    abbrev all : List Float
    all = insert k p ps

    lengths : eqb (length all) s.axes ≡ eqb (length ps) s'.axes
    lengths = go (eqb (length ps) s'.axes) (eqb-true (length ps) s'.axes) (eqb-false (length ps) s'.axes)
      where
        go : (x : Bool) → (x ≡ true → length ps ≡ s'.axes) → (x ≡ false → length ps ≡ s'.axes → ⊥) → eqb (length all) s.axes ≡ x
        go true u v = let h : length ps ≡ s'.axes = u refl in eq-eqb (length all) s.axes (omega (arith, length-insert k p ps, axes', count_left))
        go false u v = ne_eqb (length all) s.axes (λ e. v refl (omega (arith, length-insert k p ps, axes', count_left)))

    length-lowered : lowered_fault k (length_fault 2 s.axes (length all)) ≡ length_fault 2 s'.axes (length ps)
    unfolding length_fault
    length-lowered = low.lowered-when k (not (eqb (length all) s.axes)) (refusal 3 0 2) (refusal 3 0 2) (low.lowered_low k 3 0 2 (omega arith)) ∙ ap (λ (b : Bool). when (not b) (refusal 3 0 2)) lengths

    module _ (n : length ps ≡ length left) where
      pub k_in : k ≤ length ps
      k_in = omega (arith, count_left, t.within)

      pub at_k : get_or (insert k p ps) k nan ≡ p
      at_k = get_d_insert k p ps nan k_in

      reading_low : (a : ℕ) → a < k → lowered_fault k (reading_fault a (get_or all a nan)) ≡ reading_fault a (get_or ps a nan)
      reading_low a l = reading_lowered k a a (get_or all a nan) (low.lowered_low k 10 a 0 (omega arith)) ∙ ap (reading_fault a) (get_d_insert_below k a p ps nan l k_in)

      reading_high : (a : ℕ) → k ≤ a → a < length ps → lowered_fault k (reading_fault (suc a) (get_or all (suc a) nan)) ≡ reading_fault a (get_or ps a nan)
      reading_high a l m = reading_lowered k (suc a) a (get_or all (suc a) nan) (low.lowered_high k 10 a 0 refl l) ∙ ap (reading_fault a) (get_d_insert_above k a p ps nan l k_in)

      readings_lowered : lowered_fault k (readings_fault all) ≡ readings_fault ps
      unfolding readings_fault
      readings_lowered =
          ap (λ (m : ℕ). lowered_fault k (first_fault (λ a. reading_fault a (get_or all a nan)) 0 m)) (length-insert k p ps)
          ∙ low.left_out k (λ a. reading_fault a (get_or all a nan)) (λ a. reading_fault a (get_or ps a nan)) (length ps)
          (orders.passed-no_fault (reading_fault k (get_or all k nan)) (reading_fine k (get_or all k nan) (ap finite at_k ∙ cut.finite_point))) reading_low reading_high k_in

      range_low : (a : ℕ) → a < k → lowered_fault k (range_fault a (get_or grid a []) (get_or all a nan)) ≡ range_fault a (get_or (axes_of left nodes') a []) (get_or ps a nan)
      range_low a l =
          range_lowered k a a (get_or grid a []) (get_or all a nan) (λ place. low.lowered_low k 11 a place (omega arith))
          ∙ ap₂ (range_fault a) (sym (axis_below a l)) (get_d_insert_below k a p ps nan l k_in)

      range_high : (a : ℕ) → k ≤ a → a < length left → lowered_fault k (range_fault (suc a) (get_or grid (suc a) []) (get_or all (suc a) nan)) ≡ range_fault a (get_or (axes_of left nodes') a []) (get_or ps a nan)
      range_high a l m = range_moves k a (get_or grid (suc a) []) (get_or all (suc a) nan) l ∙ ap₂ (range_fault a) (sym (axis_above a l)) (get_d_insert_above k a p ps nan l k_in)

      ranges_lowered : lowered_fault k (ranges_fault cs nodes all) ≡ ranges_fault left nodes' ps
      unfolding ranges_fault
      ranges_lowered =
          ap (λ (m : ℕ). lowered_fault k (first_fault (λ a. range_fault a (get_or grid a []) (get_or all a nan)) 0 m)) (t.count ∙ count_left)
          ∙ low.left_out k (λ a. range_fault a (get_or grid a []) (get_or all a nan)) (λ a. range_fault a (get_or (axes_of left nodes') a []) (get_or ps a nan)) (length left)
          (subst (λ (x : Float). good (range_fault k (get_or grid k []) x) ≡ true) (sym at_k) cut.in_range) range_low range_high (omega (arith, k_in))

    -- ---- fault for fault
    right_length : good (length_fault 2 s.axes (length all)) ≡ true → length ps ≡ length left
    right_length g = let e : length all ≡ s.axes = length-passed 2 s.axes (length all) g in omega (arith, length-insert k p ps, count_left)

    asked_left : lowered_fault k (asked s nodes all) ≡ (length_fault 2 s'.axes (length ps) or readings_fault ps or ranges_fault left nodes' ps)
    asked_left = low.lowered_or k _ _ _ _ length-lowered (λ g. low.lowered_or k _ _ _ _ (readings_lowered (right_length g)) (λ r. ranges_lowered (right_length g)))

    -- ---- answer for answer, whatever follows the two orders
    module _ (v v' : Answer) (same : length ps ≡ length left → ((a : ℕ) → a < length ps → finite (get_or ps a nan) ≡ true) → lowered k v ≡ v') where
      pub core_left : lowered k (core s nodes (insert k p ps) v) ≡ core (shape_without s k) (nodes_without k (counts_of s) nodes) ps v'
      core_left =
          low.lowered_then k _ _ v v' asked_left passed
          ∙ ap (λ (ms : List ℕ). length_fault 2 s'.axes (length ps) or readings_fault ps or ranges_fault ms nodes' ps then v') (sym counts_left)
        where
          passed : good (asked s nodes all) ≡ true → lowered k v ≡ v'
          passed g =
              let n = right_length (orders.first-passed _ _ g) in
              let r = orders.first-passed (readings_fault all) _ (orders.second_passed (length_fault 2 s.axes (length all)) _ g) in
              same n (readings_finite ps (sym (ap good (readings_lowered n)) ∙ low.lowered-good k (readings_fault all) ∙ r))

-- ---- what a lookup comes to on an accepted table
pub skip : (a b c : Fault) → good a ≡ true → b ≡ c → (a or b) ≡ c
skip a b c g e = orders.or_good a b g ∙ e

module _ {s : Shape} {nodes values : List Float} (t : Accepted s nodes values) (readings : List Float) where
  abbrev len : Fault
  len = length_fault 2 s.axes (length readings)

  pub lookup_asked : lookup_fault s nodes values readings ≡ asked s nodes readings
  unfolding lookup_fault
  lookup_asked = skip _ _ _ t.frame (ap (λ (x : Fault). len or x) (skip _ _ _ t.axes (skip _ _ _ t.stored refl)))

  pub uniform_asked : good (axes_uniform_fault (counts_of s) nodes) ≡ true → linear_uniform_fault s nodes values readings ≡ asked s nodes readings
  unfolding linear_uniform_fault
  uniform_asked u = skip _ _ _ t.frame (ap (λ (x : Fault). len or x) (skip _ _ _ t.axes (skip _ _ _ t.stored (skip _ _ _ u refl))))

  pub step_asked : (directions : List ℕ) → good (length_fault 3 s.axes (length directions)) ≡ true → good (directions_fault directions) ≡ true
      → step_fault s nodes values readings directions ≡ asked s nodes readings
  unfolding step_fault
  step_asked directions l d = skip _ _ _ t.frame (ap (λ (x : Fault). len or x) (skip _ _ _ l (skip _ _ _ t.axes (skip _ _ _ t.stored (skip _ _ _ d refl)))))
