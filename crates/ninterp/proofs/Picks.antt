-- The index that a pick gives on each axis, and the place of the index list. Assumes nothing.
use mathlib.Core.Path.{◌≡◌, refl, sym, ap, ap₂, ◌∙◌, subst}
use mathlib.Core.List.{List, []}
use Prim.Native.Nat.{ℕ, ◌+◌, ◌-◌, ◌*◌, ◌≤◌, ◌<◌, min}
use native.Mathlib.Omega.{arith}
use lib.ListN.{length, take, drop, get_or, length-take, length-drop}
use lib.Seq.{length-take-le, get_or-take}
use lib.Ieee.{Float, nan}
use Rattle.checks.specs.Passed.{Axis}
use Rattle.layout.specs.Shape.{counts_of, size, total}
use Rattle.layout.specs.declared.Shape.{Shape}
use Rattle.layout.specs.Layout.{axes_of, place, Inside}
use Rattle.layout.proofs.Walks.{length-axes, Walk, walk_here, walk_axis, walk_on}
use Rattle.layout.proofs.Layouts.{length-tabulate, get_d_tabulate, place_start, place_below, place-step, place_fits, place_done, inside_tabulate}
use Rattle.checks.proofs.table.Grids.{length-axis}
use Rattle.ninterp.specs.Tables.{indices}
use Rattle.ninterp.specs.Scaffolding.{ReadableTable, PickedAt, pick_by}
use Rattle.axis.specs.declared.picks.Pick.{Pick}
use Rattle.axis.specs.declared.picks.Pick.TheVariants.{Nearest}
use Rattle.std.proofs.Common.{cond, below_more}
use borrow.Author.Tests.{eq-eqb, ne_eqb}
use lib.Dec.{eqb}
use Rattle.axis.specs.Scaffolding.{code_of, pick_index, pick_found}
use Rattle.axis.proofs.picks.Picks.{pick_fits, pick_found_lem}

-- ---- the index list lies in the table, for any rule whose indexes are of their axes
module _ (rule : ℕ → List Float → Float → ℕ) (counts : List ℕ) (nodes readings : List Float) (flat : length nodes ≡ total counts)
    (fits : (a : ℕ) → a < length counts → rule a (get_or (axes_of counts nodes) a []) (get_or readings a nan) < length (get_or (axes_of counts nodes) a [])) where
  pub list_inside : Inside (indices rule (axes_of counts nodes) readings) counts
  unfolding indices
  list_inside =
      inside_tabulate counts (length (axes_of counts nodes)) (λ a. rule a (get_or (axes_of counts nodes) a []) (get_or readings a nan)) (length-axes counts nodes)
      (λ a l.
      let m : a < length counts = omega (arith, length-axes counts nodes) in
      omega (arith, fits a m, length-axis counts nodes flat a m))

pub length-indices : (rule : ℕ → List Float → Float → ℕ) (counts : List ℕ) (nodes readings : List Float) → length (indices rule (axes_of counts nodes) readings) ≡ length counts
unfolding indices
length-indices rule counts nodes readings = length-tabulate (length (axes_of counts nodes)) (λ a. rule a (get_or (axes_of counts nodes) a []) (get_or readings a nan)) ∙ length-axes counts nodes

pub index_at : (rule : ℕ → List Float → Float → ℕ) (counts : List ℕ) (nodes readings : List Float) (a : ℕ) → a < length counts
    → get_or (indices rule (axes_of counts nodes) readings) a 0 ≡ rule a (get_or (axes_of counts nodes) a []) (get_or readings a nan)
unfolding indices
index_at rule counts nodes readings a l =
    get_d_tabulate (length (axes_of counts nodes)) a (λ b. rule b (get_or (axes_of counts nodes) b []) (get_or readings b nan)) 0 (omega (arith, length-axes counts nodes))

-- ---- the loop over the axes: axis a is next, and it starts at `at`
pub record Walking (s : Shape) (nodes : List Float) (a at : ℕ) : Type 0 where
  pub walk : Walk (counts_of s) nodes a at

module _ {s : Shape} {nodes readings : List Float} (t : ReadableTable s nodes readings) where
  pub count_axes : length (counts_of s) ≡ s.axes
  count_axes = length-take-le s.axes s.counts t.long

  pub walk_begin : Walking s nodes 0 0
  walk_begin = record { walk = refl }

  module _ {a at : ℕ} (w : Walking s nodes a at) (l : a < s.axes) where
    here : a < length (counts_of s)
    here = omega (arith, count_axes)

    same_count : get_or (counts_of s) a 0 ≡ get_or s.counts a 0
    same_count = get_or-take s.axes s.counts a 0 l

    -- the axis lies within the nodes
    pub axis_within : at + get_or s.counts a 0 ≤ length nodes
    axis_within =
        let long : length (get_or (axes_of (counts_of s) nodes) a []) ≡ get_or (counts_of s) a 0 = length-axis (counts_of s) nodes t.grid.flat a here in
        let e : length (take (get_or (counts_of s) a 0) (drop at nodes)) ≡ get_or (counts_of s) a 0 = ap length (sym (walk_here (counts_of s) nodes a at here w.walk)) ∙ long in
        let n : 2 ≤ length (get_or (axes_of (counts_of s) nodes) a []) = (t.grid.axes a here).enough in
        omega (arith, same_count, length-take (get_or (counts_of s) a 0) (drop at nodes), length-drop at nodes, long)

    cut : at + get_or s.counts a 0 ≡ at + min (get_or s.counts a 0) (length nodes - at)
    cut = omega (arith, axis_within)

    pub axis_read : take (at + get_or s.counts a 0 - at) (drop at nodes) ≡ get_or (axes_of (counts_of s) nodes) a []
    axis_read = walk_axis s.counts s.axes nodes a at (at + get_or s.counts a 0) t.long l w.walk cut

    pub axis-next : Walking s nodes (a + 1) (at + get_or s.counts a 0)
    axis-next = record { walk = walk_on s.counts s.axes nodes a at (at + get_or s.counts a 0) t.long l w.walk cut }

    pub axis-good : Axis (take (at + get_or s.counts a 0 - at) (drop at nodes))
    axis-good = subst Axis (sym axis_read) (t.grid.axes a here)

-- ---- the loop that picks a node on each axis
-- the place of what is picked, with the axes before a done
pub record Placing (picks : ℕ → Pick) (s : Shape) (nodes readings : List Float) (a at flat : ℕ) : Type 0 where
  pub walking : Walking s nodes a at
  pub order : flat * size (drop a (counts_of s)) + place (drop a (counts_of s)) (drop a (indices (pick_by picks) (axes_of (counts_of s) nodes) readings))
      ≡ place (counts_of s) (indices (pick_by picks) (axes_of (counts_of s) nodes) readings)

module _ (picks : ℕ → Pick) {s : Shape} {nodes readings : List Float} (t : ReadableTable s nodes readings) where
  abbrev is : List ℕ
  is = indices (pick_by picks) (axes_of (counts_of s) nodes) readings

  count_is : length is ≡ s.axes
  count_is = length-indices (pick_by picks) (counts_of s) nodes readings ∙ count_axes t

  picks_inside : Inside is (counts_of s)
  picks_inside =
      list_inside (pick_by picks) (counts_of s) nodes readings t.grid.flat
      (λ a l. pick_fits (get_or (axes_of (counts_of s) nodes) a []) (get_or readings a nan) (t.grid.axes a l) (t.finites a (omega (arith, count_axes t, l))) (code_of (picks a)))

  pub full_below : place (counts_of s) is < size (counts_of s)
  full_below = place_below is (counts_of s) picks_inside

  pub place_begin : Placing picks s nodes readings 0 0 0
  place_begin = record { walking = walk_begin t; order = place_start (counts_of s) is }

  module _ {a at flat : ℕ} (p : Placing picks s nodes readings a at flat) where
    pub place_found : s.axes ≤ a → flat ≡ place (counts_of s) is
    place_found h = place_done (counts_of s) is flat (place (counts_of s) is) a p.order (omega (arith, count_axes t)) (omega (arith, count_is))

    module _ (l : a < s.axes) {i : ℕ} (pick : Pick) (k : picks a ≡ pick) (e : i ≡ pick_found (code_of pick) (take (at + get_or s.counts a 0 - at) (drop at nodes)) (get_or readings a nan)) where
      within : a < length (counts_of s)
      within = omega (arith, count_axes t)

      same_index : get_or is a 0 ≡ i
      same_index =
          index_at (pick_by picks) (counts_of s) nodes readings a within
          ∙ ap (λ (q : Pick). pick_index (code_of q) (get_or (axes_of (counts_of s) nodes) a []) (get_or readings a nan)) k
          ∙ sym (e ∙ pick_found_lem (take (at + get_or s.counts a 0 - at) (drop at nodes)) (get_or readings a nan) (axis-good t p.walking l) (t.finites a l) (code_of pick) ∙ ap (λ xs. pick_index (code_of pick) xs (get_or readings a nan)) (axis_read t p.walking l))

      same : flat * get_or (counts_of s) a 0 + get_or is a 0 ≡ flat * get_or s.counts a 0 + i
      same = ap₂ (λ (n j : ℕ). flat * n + j) (get_or-take s.axes s.counts a 0 l) same_index

      pub place_fits_lem : flat * get_or s.counts a 0 + i ≤ 4096
      place_fits_lem =
          let b : flat * get_or (counts_of s) a 0 + get_or is a 0 ≤ place (counts_of s) is = place_fits (counts_of s) is flat (place (counts_of s) is) a p.order within (omega (arith, count_is)) (omega (arith, full_below)) in
          omega (arith, b, same, full_below, t.grid.small)

      pub place_next : Placing picks s nodes readings (a + 1) (at + get_or s.counts a 0) (flat * get_or s.counts a 0 + i)
      place_next = record {
        walking = axis-next t p.walking l;
        order =
            ap (λ (f : ℕ). f * size (drop (a + 1) (counts_of s)) + place (drop (a + 1) (counts_of s)) (drop (a + 1) is)) (sym same)
            ∙ place-step (counts_of s) is flat (place (counts_of s) is) a p.order within (omega (arith, count_is));
      }

-- what the closure gave for the axes before a, and the place by any picks that go on from these
pub record Picking (post : ℕ → Pick → Type 0) (s : Shape) (nodes readings : List Float) (a at flat : ℕ) : Type 0 where
  pub picks : ℕ → Pick
  pub told : (k : ℕ) → k < a → post k (picks k)
  pub placing : (q : ℕ → Pick) → ((k : ℕ) → k < a → q k ≡ picks k) → Placing q s nodes readings a at flat

pub picking_walks : {post : ℕ → Pick → Type 0} {s : Shape} {nodes readings : List Float} {a at flat : ℕ} → Picking post s nodes readings a at flat → Walking s nodes a at
picking_walks g = (g.placing g.picks (λ k l. refl)).walking

module _ (post : ℕ → Pick → Type 0) {s : Shape} {nodes readings : List Float} (t : ReadableTable s nodes readings) where
  pub picking_begin : Picking post s nodes readings 0 0 0
  picking_begin = record { picks = λ _. Nearest; told = λ k l. absurd (omega arith); placing = λ q h. place_begin q t }

  module _ {a at flat : ℕ} (g : Picking post s nodes readings a at flat) where
    pub picking_done : s.axes ≤ a → PickedAt post s nodes readings flat
    picking_done h = record {
      picks = g.picks;
      told = λ k l. g.told k (omega (arith, l, h));
      same = e;
      below = omega (arith, full_below g.picks t, e);
    }
      where
        e : flat ≡ place (counts_of s) (indices (pick_by g.picks) (axes_of (counts_of s) nodes) readings)
        e = place_found g.picks t (g.placing g.picks (λ k l. refl)) h

    module _ (l : a < s.axes) {i : ℕ} (pick : Pick) (p : post a pick) (e : i ≡ pick_found (code_of pick) (take (at + get_or s.counts a 0 - at) (drop at nodes)) (get_or readings a nan)) where
      more : ℕ → Pick
      more k = cond (eqb k a) pick (g.picks k)

      more_here : more a ≡ pick
      unfolding more
      more_here = simp (eq-eqb a a refl)

      more_before : (k : ℕ) → k < a → more k ≡ g.picks k
      unfolding more
      more_before k b = simp (ne_eqb k a (λ (q : k ≡ a). omega (arith, q, b)))

      now : Placing more s nodes readings a at flat
      now = g.placing more more_before

      pub picking_fits : flat * get_or s.counts a 0 + i ≤ 4096
      picking_fits = place_fits_lem more t now l pick more_here e

      pub picking_next : Picking post s nodes readings (a + 1) (at + get_or s.counts a 0) (flat * get_or s.counts a 0 + i)
      picking_next = record {
        picks = more;
        told = below_more (λ k. post k (more k)) a (λ k b. subst (post k) (sym (more_before k b)) (g.told k b)) (subst (post a) (sym more_here) p);
        placing = λ q h. place_next q t (g.placing q (λ k b. h k (omega (arith, b)) ∙ more_before k b)) l pick (h a (omega arith) ∙ more_here) e;
      }
