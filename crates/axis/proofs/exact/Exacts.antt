-- The node of a cell that equals the reading. Assumes nothing.
use Rattle.std.proofs.Common.{◌≡◌, ℕ, zero, suc, ◌+◌, ◌≤◌, true, false, List, [], ◌∷◌, length, refl, ap, ◌∙◌, arith, Some, None}
use lib.Ieee.{Float, nan, inf, fin, eq}
use Rattle.checks.specs.Nodes.{node}
use Rattle.axis.specs.Exact.{exact_node}

-- ---- the node of a cell that equals the reading
module _ (nodes : List Float) (lower : ℕ) (p : Float) where
  pub exact_lower : eq (node nodes lower) p ≡ true → Some lower ≡ exact_node nodes lower p
  unfolding exact_node
  exact_lower h = simp h

  pub exact_upper : eq (node nodes lower) p ≡ false → eq (node nodes (lower + 1)) p ≡ true → Some (lower + 1) ≡ exact_node nodes lower p
  unfolding exact_node
  exact_upper h k = simp (h, k)

  pub exact_none : eq (node nodes lower) p ≡ false → eq (node nodes (lower + 1)) p ≡ false → None ≡ exact_node nodes lower p
  unfolding exact_node
  exact_none h k = simp (h, k)

-- ---- a node past the end equals nothing
node_past : (nodes : List Float) (i : ℕ) → length nodes ≤ i → node nodes i ≡ nan
node_past [] i h = refl
node_past (x ∷ xs) zero h = absurd (omega arith)
node_past (x ∷ xs) (suc i) h = node_past xs i (omega arith)

nothing_equal : (p : Float) → eq nan p ≡ false
unfolding eq
nothing_equal nan = refl
nothing_equal (inf s) = refl
nothing_equal (fin s m e) = refl

module _ (nodes : List Float) (lower : ℕ) (p : Float) where
  past : (i : ℕ) → length nodes ≤ i → eq (node nodes i) p ≡ false
  past i h = ap (λ (x : Float). eq x p) (node_past nodes i h) ∙ nothing_equal p

  pub exact_past : length nodes ≤ lower → None ≡ exact_node nodes lower p
  exact_past h = exact_none nodes lower p (past lower h) (past (lower + 1) (omega arith))

  pub exact_last : eq (node nodes lower) p ≡ false → length nodes ≤ lower + 1 → None ≡ exact_node nodes lower p
  exact_last k h = exact_none nodes lower p k (past (lower + 1) h)
