-- The location of each reading on its axis: the loop over the axes. Assumes nothing.
use Rattle.std.proofs.Common.{◌≡◌, refl, sym, ap, ◌∙◌, subst, Bool, ℕ, ◌+◌, ◌-◌, ◌≤◌, ◌<◌, List, [], ◌∷◌, length, take, drop, get_or, set, arith, length-set}
use lib.Seq.{length-take-le}
use lib.Ieee.{Float, nan}
use Rattle.layout.specs.Shape.{counts_of}
use Rattle.layout.specs.Layout.{axes_of, tabulate}
use Rattle.layout.specs.declared.Shape.{Shape}
use Rattle.layout.proofs.Walks.{length-axes}
use Rattle.rust.specs.declared.AxisLocation.{AxisLocation}
use Rattle.rust.specs.declared.AxisLocation.TheVariants.{Exact}
use Rattle.axis.specs.Scaffolding.{location_by, location_found}
use Rattle.axis.proofs.Located.{location_fits, location_found_lem}
use Rattle.ninterp.specs.Linears.{locations}
use Rattle.ninterp.specs.Scaffolding.{AllWithin, ReadableTable, Located}
use Rattle.ninterp.proofs.Corners.{put_step}
use Rattle.ninterp.proofs.Located.{take_filled, locations_within}
use Rattle.ninterp.proofs.Picks.{Walking, walk_begin, count_axes, axis_read, axis-next, axis-good}

-- axis a is next and starts at `at`; the locations on those before it are found
pub record Locating (uniform : Bool) (s : Shape) (nodes readings : List Float) (found : List AxisLocation) (a at : ℕ) : Type 0 where
  pub walking : Walking s nodes a at
  pub four : length found ≡ 4
  pub filled : (k : ℕ) → k < a → get_or found k (Exact 0) ≡ location_by uniform (get_or (axes_of (counts_of s) nodes) k []) (get_or readings k nan)

module _ (uniform : Bool) {s : Shape} {nodes readings : List Float} (t : ReadableTable s nodes readings) where
  pub locate_begin : (found : List AxisLocation) → length found ≡ 4 → Locating uniform s nodes readings found 0 0
  locate_begin found four = record { walking = walk_begin t; four = four; filled = λ k b. absurd (omega arith) }

  module _ {found : List AxisLocation} {a at : ℕ} (g : Locating uniform s nodes readings found a at) where
    pub locate_again : (l : a < s.axes) {p : AxisLocation} → p ≡ location_found uniform (take (at + get_or s.counts a 0 - at) (drop at nodes)) (get_or readings a nan)
        → Locating uniform s nodes readings (set found a p) (a + 1) (at + get_or s.counts a 0)
    locate_again l {p} e = record {
      walking = axis-next t g.walking l;
      four = length-set found a p ∙ g.four;
      filled =
          put_step found a p (Exact 0) (λ k. location_by uniform (get_or (axes_of (counts_of s) nodes) k []) (get_or readings k nan)) (omega (arith, g.four, t.four, l)) g.filled
          (e
          ∙ location_found_lem (take (at + get_or s.counts a 0 - at) (drop at nodes)) (get_or readings a nan) (axis-good t g.walking l) (t.finites a l) uniform
          ∙ ap (λ xs. location_by uniform xs (get_or readings a nan)) (axis_read t g.walking l));
    }

    pub locate_done : s.axes ≤ a → Located (location_by uniform) s nodes readings found
    unfolding locations
    locate_done h = record {
      long = omega (arith, g.four, t.four);
      same = filled;
      within = subst (λ ps. AllWithin ps (counts_of s)) (sym filled)
          (locations_within (location_by uniform) (counts_of s) nodes readings t.grid.flat
          (λ k l. location_fits (get_or (axes_of (counts_of s) nodes) k []) (get_or readings k nan) (t.grid.axes k l) (t.finites k (omega (arith, count_axes t, l))) uniform));
    }
      where
        many : s.axes ≡ length (axes_of (counts_of s) nodes)
        many = sym (length-axes (counts_of s) nodes ∙ count_axes t)

        filled : take s.axes found ≡ locations (location_by uniform) (axes_of (counts_of s) nodes) readings
        filled =
            take_filled found s.axes (Exact 0) (λ k. location_by uniform (get_or (axes_of (counts_of s) nodes) k []) (get_or readings k nan)) (omega (arith, g.four, t.four)) (λ k b. g.filled k (omega (arith, b, h)))
            ∙ ap (λ (m : ℕ). tabulate m (λ k. location_by uniform (get_or (axes_of (counts_of s) nodes) k []) (get_or readings k nan))) many
