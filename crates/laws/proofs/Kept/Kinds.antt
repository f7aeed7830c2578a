-- Laws of what a record's kind picks and finds, with a pick for each of four axes, each way through tests that the code no longer makes. They hold as
-- they did; no proof stands on them.
use mathlib.Core.Path.{◌≡◌, ap}
use mathlib.Core.Bool.{cond}
use mathlib.Core.List.{List, []}
use Prim.Native.Nat.{ℕ, ◌-◌, ◌≤◌, ◌<◌}
use native.Mathlib.Omega.{arith}
use borrow.Author.Tests.{eq-eqb, ne_eqb, lt-ltb, le-ltb}
use lib.Dec.{eqb, ltb}
use lib.ListN.{length, get_or}
use lib.Ieee.{Float, nan}
use Rattle.answer.specs.Answer.{answered}
use Rattle.answer.specs.declared.Answer.{Answer}
use Rattle.layout.specs.Shape.{counts_of}
use Rattle.layout.specs.Layout.{axes_of, table}
use Rattle.layout.specs.declared.Shape.{Shape}
use Rattle.layout.proofs.Layouts.{tabulate_same}
use Rattle.layout.proofs.Walks.{length-axes}
use Rattle.axis.specs.Scaffolding.{location_by, pick_index, pick_rule}
use Rattle.ninterp.specs.Tables.{indices, picked}
use Rattle.blend.specs.Blend.{computed}
use Rattle.ninterp.specs.Linears.{interpolated}
use Rattle.ninterp.specs.Scaffolding.{pick_of, four_of}
use Rattle.ninterp.specs.Scaffolding as scaffolding
use Rattle.laws.proofs.Kept.{four_at_lem}

pub kind_nearest : (kind : ℕ) → kind ≡ 2 → 2 ≡ pick_of kind
kind_nearest kind e = rw (eq-eqb kind 2 e)

pub kind_step : (kind : ℕ) → (kind ≡ 2 → ⊥) → kind - 3 ≡ pick_of kind
kind_step kind n = rw (ne_eqb kind 2 n)

-- what is left where nothing was refused before 12, with a pick for each of four axes
unfoldable pub kind_found : ℕ → Shape → List Float → List Float → List Float → Answer
kind_found kind s nodes values readings =
    cond (ltb kind 2) (computed (interpolated (location_by (eqb kind 1)) (counts_of s) nodes values readings))
    (answered (picked (pick_rule (four_of (pick_of kind))) (counts_of s) nodes values readings))

module _ (kind : ℕ) (s : Shape) (nodes values readings : List Float) where
  pub found_linear : kind < 2 → computed (interpolated (location_by (eqb kind 1)) (counts_of s) nodes values readings) ≡ kind_found kind s nodes values readings
  unfolding kind_found
  found_linear l = rw (lt-ltb kind 2 l)

  pub found_pick : (pick : ℕ) → 2 ≤ kind → pick ≡ pick_of kind → answered (picked (pick_rule (four_of pick)) (counts_of s) nodes values readings) ≡ kind_found kind s nodes values readings
  unfolding kind_found
  found_pick pick l e = rw (le-ltb kind 2 l, e)

  -- of a table of at most four axes it is what the code gives
  pub found_same : length (counts_of s) ≤ 4 → kind_found kind s nodes values readings ≡ scaffolding.kind_found kind s nodes values readings
  unfolding kind_found scaffolding.kind_found picked indices
  found_same four = ap (λ (x : Answer). cond (ltb kind 2) (computed (interpolated (location_by (eqb kind 1)) (counts_of s) nodes values readings)) x) (ap (λ (is : List ℕ). answered (table (counts_of s) values is)) same)
    where
      same : indices (pick_rule (four_of (pick_of kind))) (axes_of (counts_of s) nodes) readings ≡ indices (λ a. pick_index (pick_of kind)) (axes_of (counts_of s) nodes) readings
      same =
          tabulate_same (length (axes_of (counts_of s) nodes)) (λ a. pick_rule (four_of (pick_of kind)) a (get_or (axes_of (counts_of s) nodes) a []) (get_or readings a nan))
          (λ a. pick_index (pick_of kind) (get_or (axes_of (counts_of s) nodes) a []) (get_or readings a nan))
          (λ a l. ap (λ (k : ℕ). pick_index k (get_or (axes_of (counts_of s) nodes) a []) (get_or readings a nan)) (four_at_lem (pick_of kind) a (omega (arith, length-axes (counts_of s) nodes))))
