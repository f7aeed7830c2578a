-- The index that a pick gives is one of its axis. Assumes nothing.
use Rattle.std.proofs.Common.{◌≡◌, ℕ, suc, ◌+◌, ◌-◌, ◌<◌, ◌≤◌, Bool, true, false, cond, eqb, ltb, List, [], ◌∷◌, length, sym, refl, ap, ◌∙◌, arith, le-ltb, lt-ltb}
use lib.Ieee.{Float, lt, le, sub, binary64}
use lib.Ieee.Scale.{finite}
use Rattle.checks.specs.Nodes.{node}
use Rattle.checks.specs.Passed.{Axis}
use Rattle.axis.specs.Steps.{by_range, lower_step, upper_step, step_index}
use Rattle.axis.specs.Cells.{how_many, count_below, lower_index}
use Rattle.axis.specs.Picks.{nearest_index}
use Rattle.axis.specs.Scaffolding.{rust_step, pick_index, pick_found}
use Rattle.axis.proofs.picks.Nodes.{step_rust}
use Rattle.axis.proofs.cells.Cells.{cell_inside}
use Rattle.axis.proofs.picks.Laws.{few}

-- ---- each index is one of its axis
many : (test : Float → Bool) (xs : List Float) → how_many test xs ≤ length xs
unfolding how_many
many test [] = omega arith
many test (x ∷ xs) = go (test x) (many test xs)
  where
    go : (b : Bool) → how_many test xs ≤ length xs → cond b 1 0 + how_many test xs ≤ suc (length xs)
    go true h = omega arith
    go false h = omega arith

module _ (xs : List Float) (p : Float) (ax : Axis xs) (fp : finite p ≡ true) where
  enough : 2 ≤ length xs
  enough = ax.enough

  by_range_lem : (a b c : ℕ) → a < length xs → b < length xs → (lt p (node xs 0) ≡ false → lt (node xs (length xs - 1)) p ≡ false → c < length xs) → by_range xs p a b c < length xs
  by_range_lem a b c la lb lc = go (lt p (node xs 0)) (lt (node xs (length xs - 1)) p) refl refl
    where
      go : (s t : Bool) → lt p (node xs 0) ≡ s → lt (node xs (length xs - 1)) p ≡ t → cond s a (cond t b c) < length xs
      go true t u v = la
      go false true u v = lb
      go false false u v = lc u v

  pub step_fits : (direction : ℕ) → step_index direction xs p < length xs
  unfolding step_index lower_step upper_step
  step_fits direction = go (eqb direction 0)
    where
      go : (b : Bool) → cond b (by_range xs p 0 (length xs - 2) (how_many (λ x. le x p) xs - 1)) (by_range xs p 1 (length xs - 1) (count_below xs p)) < length xs
      go true = by_range_lem 0 (length xs - 2) (how_many (λ x. le x p) xs - 1) (omega (arith, enough)) (omega (arith, enough)) (λ u v. omega (arith, enough, many (λ x. le x p) xs))
      go false = by_range_lem 1 (length xs - 1) (count_below xs p) (omega (arith, enough)) (omega (arith, enough)) (λ u v. few xs p ax fp u v)

  pub nearest_fits : nearest_index xs p < length xs
  unfolding nearest_index
  nearest_fits = go (lt (sub binary64 p (node xs (lower_index xs p))) (sub binary64 (node xs (lower_index xs p + 1)) p))
    where
      go : (b : Bool) → cond b (lower_index xs p) (lower_index xs p + 1) < length xs
      go true = omega (arith, cell_inside xs p enough)
      go false = cell_inside xs p enough

  pub pick_fits : (pick : ℕ) → pick_index pick xs p < length xs
  unfolding pick_index
  pick_fits pick = go (ltb pick 2)
    where
      go : (b : Bool) → cond b (step_index pick xs p) (nearest_index xs p) < length xs
      go true = step_fits pick
      go false = nearest_fits

  -- what `pick_index` gives, of any list at all, is the index on a good axis
  pub pick_found_lem : (pick : ℕ) → pick_found pick xs p ≡ pick_index pick xs p
  unfolding pick_found pick_index
  pick_found_lem pick = enough_of (ltb (length xs) 2) (le-ltb (length xs) 2 enough) ∙ go (ltb pick 2)
    where
      found : ℕ
      found = cond (ltb pick 2) (rust_step pick xs p) (nearest_index xs p)

      enough_of : (b : Bool) → b ≡ false → cond b 0 found ≡ found
      enough_of b h = ap (λ (c : Bool). cond c 0 found) h

      go : (b : Bool) → cond b (rust_step pick xs p) (nearest_index xs p) ≡ cond b (step_index pick xs p) (nearest_index xs p)
      go true = sym (step_rust xs p ax fp pick)
      go false = refl

  pub step_found : (pick : ℕ) → pick < 2 → pick_found pick xs p ≡ step_index pick xs p
  unfolding pick_index
  step_found pick h = pick_found_lem pick ∙ simp (lt-ltb pick 2 h)

-- ---- a pick is a rule's index
pub is_step : (pick : ℕ) (xs : List Float) (p : Float) → pick < 2 → pick_index pick xs p ≡ step_index pick xs p
unfolding pick_index
is_step pick xs p h = simp (lt-ltb pick 2 h)

pub is_nearest : (pick : ℕ) (xs : List Float) (p : Float) → 2 ≤ pick → pick_index pick xs p ≡ nearest_index xs p
unfolding pick_index
is_nearest pick xs p h = simp (le-ltb pick 2 h)
