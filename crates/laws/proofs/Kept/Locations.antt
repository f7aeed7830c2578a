-- Laws of the location of a reading, each way through tests that the code no longer makes. They hold as they did; no proof stands on them.
use Rattle.std.proofs.Common.{◌≡◌, ℕ, ◌<◌, ◌≤◌, Bool, cond, List, length, sym, ap, ◌∙◌, le-ltb, lt-ltb, Option, Some, None}
use lib.Ieee.{Float}
use Rattle.answer.specs.Answer.{plus_zero}
use Rattle.rust.specs.declared.AxisLocation.{AxisLocation}
use Rattle.rust.specs.declared.AxisLocation.TheVariants.{Exact, Between}
use Rattle.axis.specs.Cells.{lower_index}
use Rattle.axis.specs.Exact.{exact_node}
use Rattle.axis.specs.Locations.{fraction, axis_location, location_at}
use Rattle.axis.specs.Scaffolding.{location_by, location_found}

-- ---- of any list at all
module _ (uniform : Bool) (xs : List Float) (p : Float) where
  pub location_none : length xs < 2 → Between 0 plus_zero ≡ location_found uniform xs p
  unfolding location_found
  location_none h = sym (ap (λ (b : Bool). cond b (Between 0 plus_zero) (location_by uniform xs p)) (lt-ltb (length xs) 2 h))

  pub location_some : 2 ≤ length xs → (given : Bool) → uniform ≡ given → (l : AxisLocation) → l ≡ location_by given xs p → l ≡ location_found uniform xs p
  unfolding location_found
  location_some n given e l q =
      q ∙ sym (ap (λ (b : Bool). cond b (Between 0 plus_zero) (location_by uniform xs p)) (le-ltb (length xs) 2 n) ∙ ap (λ (b : Bool). location_by b xs p) e)

-- ---- the location that the exact node gives
module _ (nodes : List Float) (p : Float) (l : ℕ) (e : l ≡ lower_index nodes p) (r : Option ℕ) (q : r ≡ exact_node nodes l p) where
  located : axis_location nodes p ≡ location_at nodes l p
  unfolding axis_location
  located = ap (λ (k : ℕ). location_at nodes k p) (sym e)

  pub location_exact : (i : ℕ) → r ≡ Some i → Exact i ≡ axis_location nodes p
  location_exact i h = sym (located ∙ rw (← q, h))

  pub location_between : r ≡ None → Between l (fraction nodes l p) ≡ axis_location nodes p
  location_between h = sym (located ∙ rw (← q, h))
