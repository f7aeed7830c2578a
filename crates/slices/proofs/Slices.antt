-- A slice on one axis of a table that can be sliced there: its runs in the values, and the node it is taken at. Assumes nothing.
use mathlib.Core.Path.{◌≡◌, sym, ap, ap₂, ◌∙◌, subst}
use mathlib.Core.Bool.{Bool, true}
use mathlib.Core.List.{List, [], ◌∷◌, ◌++◌}
use Prim.Native.Nat.{ℕ, zero, suc, ◌+◌, ◌*◌, ◌/◌, ◌%◌, ◌≤◌, ◌<◌}
use native.Mathlib.Nat.{mod-lt, div-add-mod', div-lt_iff_lt-mul, mul-div_cancel, mul-le-mul_right, one-mul, zero-mul}
use native.Mathlib.Omega.{arith}
use lib.ListN.{length, take, drop, get_or}
use lib.Seq.{get_or-take}
use lib.Ieee.{Float, nan}
use lib.Ieee.Scale.{finite}
use Rattle.checks.specs.Passed.{Axis}
use Rattle.layout.specs.Shape.{counts_of, size}
use Rattle.layout.specs.Layout.{axes_of, axis_of, place, table, indices_at, insert, without, slice_values}
use Rattle.layout.specs.declared.Shape.{Shape}
use Rattle.checks.proofs.table.Grids.{length-axis}
use Rattle.layout.proofs.Layouts.{size_suffix, size-cons, size_nil, tabulate_same}
use Rattle.layout.proofs.Removals.{size_split, size-without, source}
use Rattle.checks.specs.Scaffolding.{Few}
use Rattle.rust.specs.declared.AxisLocation.{AxisLocation}
use Rattle.axis.specs.Scaffolding.{location_by, location_found, upper_of, pick_index, pick_found}
use Rattle.axis.proofs.Located.{location_fits, location_found_lem}
use Rattle.axis.proofs.picks.Picks.{pick_found_lem, pick_fits}
use Rattle.slices.specs.Scaffolding.{Ready, Runs, run_place, run_values}

first_factor : (a b : ℕ) → 0 < a * b → 0 < a
first_factor zero b h = absurd (omega (arith, zero-mul b))
first_factor (suc a) b h = omega arith

last_factor : (p q : ℕ) → p * q ≤ 4096 → 0 < p → q ≤ 4096
last_factor p q h a = omega (arith, mul-le-mul_right q a, one-mul q)

size_positive : (cs : List ℕ) → ((a : ℕ) → a < length cs → 0 < get_or cs a 0) → 0 < size cs
size_positive [] h = omega (arith, size_nil)
size_positive (c ∷ cs) h =
    let a : 0 < c = h 0 (omega arith) in
    let b : 0 < size cs = size_positive cs (λ k l. h (suc k) (omega arith)) in
    omega (arith, size-cons c cs, mul-le-mul_right (size cs) a, one-mul (size cs))

-- ---- the slice on axis k of a table that can be sliced there
module _ {s : Shape} {nodes values : List Float} {k : ℕ} (r : Ready s nodes values k) where
  abbrev cs : List ℕ
  cs = counts_of s

  abbrev left : List ℕ
  left = without k (counts_of s)

  abbrev inner : ℕ
  inner = size (drop (suc k) (counts_of s))

  abbrev n : ℕ
  n = get_or s.counts k 0

  in_cs : k < length cs
  in_cs = omega (arith, r.count, r.within)

  same_count : get_or cs k 0 ≡ n
  same_count = get_or-take s.axes s.counts k 0 r.within

  length_at : (a : ℕ) → a < s.axes → length (get_or (axes_of cs nodes) a []) ≡ get_or s.counts a 0
  length_at a l = length-axis cs nodes r.grid.flat a (omega (arith, r.count)) ∙ get_or-take s.axes s.counts a 0 l

  pub few_at : (a : ℕ) → a < s.axes → get_or s.counts a 0 ≤ 64
  few_at a l = let q : length (get_or (axes_of cs nodes) a []) ≤ 64 = (r.grid.axes a (omega (arith, r.count))).few in omega (arith, length_at a l)

  pub few_counts : Few s
  few_counts = record { axes = r.four; each = few_at }

  some_at : 2 ≤ n
  some_at = let q : 2 ≤ length (get_or (axes_of cs nodes) k []) = (r.grid.axes k in_cs).enough in omega (arith, length_at k r.within)

  -- ---- how many values
  split : size cs ≡ size (take k cs) * (n * inner)
  split = size_split k cs in_cs ∙ ap (λ (x : ℕ). size (take k cs) * (x * inner)) same_count

  some_values : 0 < size cs
  some_values = size_positive cs (λ a l. let q : 2 ≤ length (get_or (axes_of cs nodes) a []) = (r.grid.axes a l).enough in omega (arith, length-axis cs nodes r.grid.flat a l))

  inner_some : 0 < inner
  inner_some = size_suffix cs (suc k) some_values

  all_few : n * inner ≤ 4096
  all_few =
      last_factor (size (take k cs)) (n * inner) (subst (λ (x : ℕ). x ≤ 4096) split r.grid.small)
      (first_factor (size (take k cs)) (n * inner) (subst (λ (x : ℕ). 0 < x) split some_values))

  pub few_values : length values ≤ 4096
  few_values = omega (arith, r.stored, r.grid.small)

  -- ---- the run and the place of each value of the slice
  module _ (t : ℕ) (l : t < size left) where
    run : t / inner < size (take k cs)
    run = (div-lt_iff_lt-mul {k = inner} inner_some).1 (omega (arith, size-without k cs in_cs))

    spot : t % inner < inner
    spot = mod-lt t inner_some

    slice_from : (i : ℕ) → place cs (insert k i (indices_at left t)) ≡ run_place n inner i t
    slice_from i =
        ap (λ (x : ℕ). place cs (insert k i (indices_at left x))) (sym (div-add-mod' t inner))
        ∙ source k i cs (t / inner) (t % inner) in_cs run spot
        ∙ ap (λ (x : ℕ). (t / inner * x + i) * inner + t % inner) same_count

  slice_written : (i : ℕ) → run_values values n inner i (size left) ≡ slice_values k i cs values
  unfolding slice_values table
  slice_written i =
      tabulate_same (size left) (λ t. get_or values (run_place n inner i t) nan) (λ t. get_or values (place cs (insert k i (indices_at left t))) nan)
      (λ t l. ap (λ (x : ℕ). get_or values x nan) (sym (slice_from t l i)))

  -- ---- by the nodes of the axis, as the code has them
  module _ (grid : List Float) (is : grid ≡ axis_of s nodes k) where
    grid_axis : Axis grid
    grid_axis = subst Axis (sym is) (r.grid.axes k in_cs)

    grid_count : length grid ≡ get_or s.counts k 0
    grid_count = ap length is ∙ length_at k r.within

    pub grid_some : 2 ≤ length grid
    grid_some = grid_axis.enough

    pub slice_count : length values / length grid ≡ size (without k (counts_of s))
    slice_count =
        ap (λ (x : ℕ). length values / x) grid_count
        ∙ ap (λ (x : ℕ). x / n) (r.stored ∙ split ∙ regroup (size (take k cs)) n inner)
        ∙ mul-div_cancel (size (take k cs) * inner) (omega (arith, some_at))
        ∙ sym (size-without k cs in_cs)
      where
        regroup : (p m q : ℕ) → p * (m * q) ≡ p * q * m
        regroup p m q = omega arith

    -- a reading that was judged: where it lies, and the node that is picked
    module _ (p : Float) (fin : finite p ≡ true) where
      module _ (uniform : Bool) (l : AxisLocation) (e : l ≡ location_found uniform grid p) where
        by_rule : l ≡ location_by uniform grid p
        by_rule = e ∙ location_found_lem grid p grid_axis fin uniform

        pub place_found : l ≡ location_by uniform (axis_of s nodes k) p
        place_found = by_rule ∙ ap (λ xs. location_by uniform xs p) is

        pub place_fits : upper_of l < length grid
        place_fits = subst (λ (q : AxisLocation). upper_of q < length grid) (sym by_rule) (location_fits grid p grid_axis fin uniform)

      module _ (pick i : ℕ) (e : i ≡ pick_found pick grid p) where
        by_pick : i ≡ pick_index pick grid p
        by_pick = e ∙ pick_found_lem grid p grid_axis fin pick

        pub pick_is : i ≡ pick_index pick (axis_of s nodes k) p
        pick_is = by_pick ∙ ap (λ xs. pick_index pick xs p) is

        pub pick_within : i < length grid
        pick_within = omega (arith, by_pick, pick_fits grid p grid_axis fin pick)

    -- `by` is how long its runs are
    module _ (by : ℕ) (is-inner : by ≡ size (drop (suc k) (counts_of s))) where
      together : length grid * by ≡ n * inner
      together = ap₂ (λ (x y : ℕ). x * y) grid_count is-inner

      pub runs_there : (i : ℕ) → i < length grid → (room : ℕ) → size (without k (counts_of s)) ≤ room → Runs values (length grid) by i room
      runs_there i il room h = record {
        some = omega (arith, is-inner, inner_some);
        in_axis = il;
        times = size (take k cs);
        whole = r.stored ∙ split ∙ ap (λ (x : ℕ). size (take k cs) * x) (sym together);
        few = omega (arith, together, all_few);
        enough = omega (arith, ap (λ (x : ℕ). size (take k cs) * x) is-inner, size-without k cs in_cs);
      }

      pub runs_written : (i j : ℕ) → i ≡ j → (out after : List Float) → after ≡ run_values values (length grid) by i (length values / length grid) ++ drop (length values / length grid) out
          → after ≡ slice_values k j (counts_of s) values ++ drop (size (without k (counts_of s))) out
      runs_written i j e out after h =
          h
          ∙ ap₂ (λ (x m : ℕ). run_values values x by i m ++ drop m out) grid_count slice_count
          ∙ ap (λ (x : ℕ). run_values values n x i (size left) ++ drop (size left) out) is-inner
          ∙ ap (λ (xs : List Float). xs ++ drop (size left) out) (slice_written i ∙ ap (λ (x : ℕ). slice_values k x cs values) e)
