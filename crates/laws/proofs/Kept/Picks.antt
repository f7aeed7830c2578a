-- Laws of the node that a pick takes, each way through tests that the code no longer makes. They hold as they did; no proof stands on them.
use Rattle.std.proofs.Common.{◌≡◌, ℕ, ◌+◌, ◌-◌, ◌<◌, ◌≤◌, true, false, List, length, ap, ◌∙◌, eq-eqb, ne_eqb, lt-ltb, le-ltb}
use lib.Ieee.{Float, binary64, lt, eq, sub}
use Rattle.rust.specs.Utils.{lower_by, upper_by}
use Rattle.checks.specs.Nodes.{node}
use Rattle.axis.specs.Cells.{lower_index}
use Rattle.axis.specs.Picks.{nearer, nearest_index}
use Rattle.axis.specs.Scaffolding.{rust_step, pick_found}

-- ---- of any list at all
module _ (pick : ℕ) (xs : List Float) (p : Float) where
  pub pick_none : length xs < 2 → 0 ≡ pick_found pick xs p
  unfolding pick_found
  pick_none h = simp (lt-ltb (length xs) 2 h)

  pub pick_step : 2 ≤ length xs → pick < 2 → rust_step pick xs p ≡ pick_found pick xs p
  unfolding pick_found
  pick_step n h = simp (le-ltb (length xs) 2 n, lt-ltb pick 2 h)

  pub pick_nearest : 2 ≤ length xs → 2 ≤ pick → nearest_index xs p ≡ pick_found pick xs p
  unfolding pick_found
  pick_nearest n h = simp (le-ltb (length xs) 2 n, le-ltb pick 2 h)

-- ---- the nearest node of one axis, from the lower index
module _ (nodes : List Float) (p : Float) (l : ℕ) (e : l ≡ lower_index nodes p) where
  at_index : nearer nodes l p ≡ nearest_index nodes p
  unfolding nearest_index
  at_index = ap (λ (k : ℕ). nearer nodes k p) e

  pub nearest_lower : lt (sub binary64 p (node nodes l)) (sub binary64 (node nodes (l + 1)) p) ≡ true → l ≡ nearest_index nodes p
  nearest_lower h = closer ∙ at_index
    where
      closer : l ≡ nearer nodes l p
      closer = simp h

  pub nearest_upper : lt (sub binary64 p (node nodes l)) (sub binary64 (node nodes (l + 1)) p) ≡ false → l + 1 ≡ nearest_index nodes p
  nearest_upper h = closer ∙ at_index
    where
      closer : l + 1 ≡ nearer nodes l p
      closer = simp h

-- ---- the Rust's expressions for Step, of an index that is the lower index
module _ (xs : List Float) (p : Float) (r l : ℕ) (e : r ≡ l) where
  pub by_last : eq p (node xs (length xs - 1)) ≡ true → length xs - 1 ≡ lower_by xs l p
  by_last h = simp h

  pub by_upper : eq p (node xs (length xs - 1)) ≡ false → eq p (node xs (r + 1)) ≡ true → r + 1 ≡ lower_by xs l p
  by_upper h k = there ∙ ap (λ (n : ℕ). lower_by xs n p) e
    where
      there : r + 1 ≡ lower_by xs r p
      there = simp (h, k)

  pub by_lower : eq p (node xs (length xs - 1)) ≡ false → eq p (node xs (r + 1)) ≡ false → r ≡ lower_by xs l p
  by_lower h k = there ∙ ap (λ (n : ℕ). lower_by xs n p) e
    where
      there : r ≡ lower_by xs r p
      there = simp (h, k)

  pub by_next : eq p (node xs 0) ≡ false → r + 1 ≡ upper_by xs l p
  by_next h = there ∙ ap (λ (n : ℕ). upper_by xs n p) e
    where
      there : r + 1 ≡ upper_by xs r p
      there = simp h

pub by_first : (xs : List Float) (p : Float) (l : ℕ) → eq p (node xs 0) ≡ true → 0 ≡ upper_by xs l p
by_first xs p l h = simp h

module _ (direction : ℕ) (xs : List Float) (p : Float) (r : ℕ) where
  pub rust_lower : direction ≡ 0 → r ≡ lower_by xs (lower_index xs p) p → r ≡ rust_step direction xs p
  unfolding rust_step
  rust_lower h e = e ∙ simp (eq-eqb direction 0 h)

  pub rust_upper : (direction ≡ 0 → ⊥) → r ≡ upper_by xs (lower_index xs p) p → r ≡ rust_step direction xs p
  unfolding rust_step
  rust_upper h e = e ∙ simp (ne_eqb direction 0 h)
