-- The slices of the two linears along the first axis: the run at a node, and two runs blended. Assumes nothing.
use mathlib.Core.Path.{◌≡◌, refl, sym, ap, ap₂, ◌∙◌, subst}
use mathlib.Core.Bool.{true, not}
use mathlib.Core.List.{List, [], ◌∷◌, ◌++◌}
use Prim.Native.Nat.{ℕ, ◌+◌, ◌-◌, ◌*◌, ◌/◌, ◌≤◌, ◌<◌, min}
use native.Mathlib.Nat.{add-mul, one-mul, mul-le-mul_right, suc-mul}
use native.Mathlib.Omega.{arith}
use lib.ListN.{length, take, drop, get_or, length-drop}
use lib.Seq.{get_or-take, get_or-drop, length-take-le, take-take, drop-drop}
use lib.Ieee.{Float, nan}
use lib.Ieee.Scale.{finite}
use Rattle.answer.specs.Faults.{Fault, no_fault, good}
use Rattle.answer.specs.Rows.{said}
use Rattle.answer.proofs.Checks.{said-ok}
use Rattle.answer.proofs.Orders.{none_good, passed-no_fault, row_passed}
use Rattle.std.proofs.Common.{Ok}
use Rattle.std.proofs.lemmas.Slice.{between_is}
use Rattle.checks.proofs.table.Grids.{length-axis}
use Rattle.layout.specs.Shape.{counts_of, size}
use Rattle.layout.specs.Layout.{place, table, tabulate, indices_at, without, slice_values, axis_of}
use Rattle.layout.specs.declared.Shape.{Shape}
use Rattle.layout.proofs.Layouts.{length-tabulate, get_d_tabulate, tabulate_same, size-cons, place-cons, place_below, indices-place, indices_inside}
use Rattle.axis.specs.Locations.{location_index}
use Rattle.blend.specs.Blend.{blended, sliced}
use Rattle.blend.specs.Scaffolding.{blends, blended_into}
use Rattle.checks.specs.Numbers.{results_fault, result_fault}
use Rattle.rust.specs.declared.AxisLocation.{AxisLocation}
use Rattle.rust.specs.declared.AxisLocation.TheVariants.{Exact, Between}
use Rattle.slices.specs.LinearSlices.{along_first, linear_values}
use Rattle.slices.specs.Scaffolding.{Ready, Results, Runs, Neighbours, run_values, blended_runs}
use Rattle.slices.proofs.Slices.{few_values, slice_count, runs_there, runs_written}
use Rattle.slices.proofs.Sliced.{written}

pub length-along : (l : AxisLocation) (counts : List ℕ) (values : List Float) → length (along_first l counts values) ≡ size (without 0 counts)
unfolding along_first
length-along l counts values = length-tabulate (size (without 0 counts)) (λ t. sliced l (table counts values) (indices_at (without 0 counts) t))

without-first : (cs : List ℕ) → without 0 cs ≡ drop 1 cs
without-first [] = refl
without-first (c ∷ cs) = refl

-- ---- at a node

-- a location that lies between no two nodes is the node that it names
pub at_node : {l found : AxisLocation} {m n : ℕ} → l ≡ Exact m → n ≡ location_index l → l ≡ found → Exact n ≡ found
at_node e q s = ap Exact (q ∙ ap location_index e) ∙ sym e ∙ s

along-exact : (node : ℕ) (counts : List ℕ) (values : List Float) → along_first (Exact node) counts values ≡ slice_values 0 node counts values
unfolding along_first slice_values
along-exact node counts values = refl

-- ---- between two: a value of the run, and of the next one
module _ (c : ℕ) (cs : List ℕ) (values : List Float) where
  run_value : (l t : ℕ) → t < size cs → get_or (take (size cs) (drop (l * size cs) values)) t nan ≡ table (c ∷ cs) values (l ∷ indices_at cs t)
  unfolding table
  run_value l t b =
      get_or-take (size cs) (drop (l * size cs) values) t nan b
      ∙ get_or-drop (l * size cs) values t nan
      ∙ ap (λ (k : ℕ). get_or values k nan) (sym (place-cons c cs l (indices_at cs t) ∙ ap (λ (k : ℕ). l * size cs + k) (indices-place cs t b)))

  run_next : (l t : ℕ) → t < size cs → get_or (take (size cs) (drop (l * size cs + size cs) values)) t nan ≡ table (c ∷ cs) values ((l + 1) ∷ indices_at cs t)
  run_next l t b =
      let e : l * size cs + size cs ≡ (l + 1) * size cs = omega (arith, add-mul l 1 (size cs), one-mul (size cs)) in
      ap (λ (k : ℕ). get_or (take (size cs) (drop k values)) t nan) e ∙ run_value (l + 1) t b

  run_length : (k : ℕ) → k + size cs ≤ length values → length (take (size cs) (drop k values)) ≡ size cs
  run_length k h = length-take-le (size cs) (drop k values) (omega (arith, length-drop k values, h))

  along-cons : (l : ℕ) (f : Float) → l * size cs + size cs + size cs ≤ length values
      → blended_runs f l (size cs) values ≡ along_first (Between l f) (c ∷ cs) values
  unfolding blends along_first
  along-cons l f h =
      let low : length (take (size cs) (drop (l * size cs) values)) ≡ size cs = run_length (l * size cs) (omega (arith, h)) in
      let high : length (take (size cs) (drop (l * size cs + size cs) values)) ≡ size cs = run_length (l * size cs + size cs) h in
      let n : min (length (take (size cs) (drop (l * size cs) values))) (length (take (size cs) (drop (l * size cs + size cs) values))) ≡ size cs = omega (arith, low, high) in
      ap (λ (k : ℕ). tabulate k (λ i. blended (get_or (take (size cs) (drop (l * size cs) values)) i nan) (get_or (take (size cs) (drop (l * size cs + size cs) values)) i nan) f)) n
      ∙ tabulate_same (size cs) _ _ (λ t b. ap₂ (λ (x y : Float). blended x y f) (run_value l t b) (run_next l t b))

along_between : (counts : List ℕ) (values : List Float) (rest l : ℕ) (f : Float) → 0 < length counts → rest ≡ size (without 0 counts) → l * rest + rest + rest ≤ length values
    → blended_runs f l rest values ≡ along_first (Between l f) counts values
along_between [] values rest l f n e h = absurd (omega arith)
along_between (c ∷ cs) values rest l f n e h =
    ap (λ (r : ℕ). blended_runs f l r values) e
    ∙ along-cons c cs values l f (subst (λ (r : ℕ). l * r + r + r ≤ length values) e h)

-- both runs lie in the table
runs_within : (c r l m : ℕ) → l + 1 < c → m ≡ c * r → l * r + r + r ≤ m
runs_within c r l m h e = omega (arith, e, mul-le-mul_right r h, suc-mul (l + 1) r, add-mul l 1 r, one-mul r)

-- stored values are finite, so a slice at a node is never refused
stored_finite : (node : ℕ) (counts : List ℕ) (values : List Float) → length values ≡ size counts → node < get_or counts 0 0
    → ((t : ℕ) → t < length values → finite (get_or values t nan) ≡ true) → no_fault ≡ results_fault (along_first (Exact node) counts values)
unfolding results_fault result_fault along_first table
stored_finite node [] values e l h = absurd (omega arith)
stored_finite node (c ∷ cs) values e l h =
    sym (none_good (λ i. result_fault i (get_or (along_first (Exact node) (c ∷ cs) values) i nan)) 0 (length (along_first (Exact node) (c ∷ cs) values)) each)
  where
    at : (t : ℕ) → t < size cs → finite (get_or (along_first (Exact node) (c ∷ cs) values) t nan) ≡ true
    at t b =
        let inside : place (c ∷ cs) (node ∷ indices_at cs t) < size (c ∷ cs) = place_below (node ∷ indices_at cs t) (c ∷ cs) (l, indices_inside cs t b) in
        ap finite (get_d_tabulate (size cs) t (λ k. table (c ∷ cs) values (node ∷ indices_at cs k)) nan b) ∙ h (place (c ∷ cs) (node ∷ indices_at cs t)) (omega (arith, inside, e))

    each : (j : ℕ) → 0 ≤ j → j < 0 + length (along_first (Exact node) (c ∷ cs) values) → good (result_fault j (get_or (along_first (Exact node) (c ∷ cs) values) j nan)) ≡ true
    each j a b = passed-no_fault _ (row_passed _ _ _ _ (ap not (at j (omega (arith, b, length-along (Exact node) (c ∷ cs) values)))))

-- ---- the two runs, cut out together and split
module _ (values : List Float) (from rest : ℕ) where
  pub low_run : (low : List Float) → low ≡ take rest (take (from + 2 * rest - from) (drop from values)) → low ≡ take rest (drop from values)
  low_run low e = e ∙ take-take rest (from + 2 * rest - from) (drop from values) (omega arith)

  pub high_run : (high : List Float) → high ≡ drop rest (take (from + 2 * rest - from) (drop from values)) → high ≡ take rest (drop (from + rest) values)
  high_run high e =
      let cut : from + 2 * rest - from - rest ≡ rest = omega arith in
      e ∙ sym (between_is (drop from values) rest (from + 2 * rest - from)) ∙ ap₂ (λ (k : ℕ) (xs : List Float). take k xs) cut (drop-drop rest from values)

  pub long_run : (k : ℕ) → k + rest ≤ length values → length (take rest (drop k values)) ≡ rest
  long_run k h = length-take-le rest (drop k values) (omega (arith, length-drop k values, h))

-- with room for all of them, the blends are written and the rest stays
pub into_blends : (f : Float) (low high out : List Float) (r : ℕ) → length low ≡ r → length high ≡ r → r ≤ length out → blended_into f low high out ≡ blends f low high ++ drop r out
unfolding blended_into blends
into_blends f low high out r a b l =
    let n : min (min (length low) (length high)) (length out) ≡ min (length low) (length high) = omega (arith, a, b, l) in
    let m : min (min (length low) (length high)) (length out) ≡ r = omega (arith, a, b, l) in
    ap₂ (λ (j k : ℕ). tabulate j (λ i. blended (get_or low i nan) (get_or high i nan) f) ++ drop k out) n m

pub length-blends : (f : Float) (low high : List Float) (r : ℕ) → length low ≡ r → length high ≡ r → length (blends f low high) ≡ r
unfolding blends
length-blends f low high r a b = length-tabulate (min (length low) (length high)) (λ i. blended (get_or low i nan) (get_or high i nan) f) ∙ omega (arith, a, b)

size-first : (cs : List ℕ) → 0 < length cs → size cs ≡ get_or cs 0 0 * size (without 0 cs)
size-first [] h = absurd (omega arith)
size-first (c ∷ cs) h = size-cons c cs

-- ---- by the nodes of the first axis, as the code has them
module _ {s : Shape} {nodes values : List Float} (r : Ready s nodes values 0) (grid : List Float) (is : grid ≡ axis_of s nodes 0) where
  abbrev cs : List ℕ
  cs = counts_of s

  -- how many values the other axes have
  abbrev rest : ℕ
  rest = length values / length grid

  rest_is : rest ≡ size (without 0 cs)
  rest_is = slice_count r grid is

  inner_is : rest ≡ size (drop 1 cs)
  inner_is = rest_is ∙ ap size (without-first cs)

  first_count : get_or cs 0 0 ≡ length grid
  first_count = sym (ap length is ∙ length-axis cs nodes r.grid.flat 0 (omega (arith, r.count, r.within)))

  -- on a node
  module _ (node : ℕ) (fits : node < length grid) where
    pub node_runs : (room : ℕ) → size (without 0 (counts_of s)) ≤ room → Runs values (length grid) (length values / length grid) node room
    node_runs room h = runs_there r grid is rest inner_is node fits room h

    abbrev xs : List Float
    xs = along_first (Exact node) cs values

    node-written : {A : Type 0} (y : A) (out after : List Float) → after ≡ run_values values (length grid) rest node rest ++ drop rest out → Results xs out (said (Ok y)) after
    node-written y out after w =
        written y (results_fault xs) (said-ok y ∙ stored_finite node cs values r.stored (omega (arith, fits, first_count)) r.finites) xs out y
        (size (without 0 cs)) (sym (length-along (Exact node) cs values)) after
        (runs_written r grid is rest inner_is node node refl out after w ∙ ap (λ (ys : List Float). ys ++ drop (size (without 0 cs)) out) (sym (along-exact node cs values)))

  -- between two: both runs lie in the table
  module _ (lower : ℕ) (frac : Float) (fits : lower + 1 < length grid) where
    pub runs_beside : (room : ℕ) → size (without 0 (counts_of s)) ≤ room → Neighbours values lower (length values / length grid) room
    runs_beside room h = record {
      reach =
          runs_within (length grid) rest lower (length values) fits
          (r.stored ∙ size-first cs (omega (arith, r.count, r.within)) ∙ ap₂ (λ (x y : ℕ). x * y) first_count (sym rest_is));
      stored = few_values r;
      enough = omega (arith, rest_is);
    }

    beside_along : blended_runs frac lower rest values ≡ along_first (Between lower frac) cs values
    beside_along = along_between cs values rest lower frac (omega (arith, r.count, r.within)) rest_is (runs_beside (size (without 0 cs)) (omega arith)).reach

  -- .. by a rule
  module _ (rule : List Float → Float → AxisLocation) (p : Float) where
    along_rule : {m : AxisLocation} → m ≡ rule (axis_of s nodes 0) p → {f : Fault} {out after : List Float} → Results (along_first m cs values) out f after → Results (linear_values rule s nodes values p) out f after
    unfolding linear_values
    along_rule found {f = f} {out = out} {after = after} w = subst (λ (q : AxisLocation). Results (along_first q cs values) out f after) found w

    pub node_results : (node : ℕ) → Exact node ≡ rule (axis_of s nodes 0) p → node < length grid → {A : Type 0} (y : A) (out after : List Float)
        → after ≡ run_values values (length grid) (length values / length grid) node (length values / length grid) ++ drop (length values / length grid) out
        → Results (linear_values rule s nodes values p) out (said (Ok y)) after
    node_results node found fits y out after w = along_rule found (node-written node fits y out after w)

    pub between_results : (lower : ℕ) (frac : Float) → Between lower frac ≡ rule (axis_of s nodes 0) p → lower + 1 < length grid → {f : Fault} {out after : List Float}
        → Results (blended_runs frac lower (length values / length grid) values) out f after → Results (linear_values rule s nodes values p) out f after
    between_results lower frac found fits {f = f} {out = out} {after = after} w = along_rule found (subst (λ (xs : List Float). Results xs out f after) (beside_along lower frac fits) w)
