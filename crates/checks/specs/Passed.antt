-- What is known of an axis that passed its checks.
use Rattle.std.specs.Prelude.{◌≡◌, true, List, ℕ, ◌+◌, ◌≤◌, ◌<◌, length, Float}
use Rattle.std.specs.Float.Ieee.{lt}
use Rattle.std.specs.Float.Ieee.Scale.{finite}
use Rattle.checks.specs.Nodes.{node, gap}

-- what an axis is that passes 2, 4, 5 and 6; `axis_of_lem` and `axis-fine` show that it is exactly that
pub record Axis (nodes : List Float) : Type 0 where
  pub enough : 2 ≤ length nodes
  pub few : length nodes ≤ 64
  pub finites : (i : ℕ) → i < length nodes → finite (node nodes i) ≡ true
  pub rises : (i : ℕ) → i + 1 < length nodes → lt (node nodes i) (node nodes (i + 1)) ≡ true
  pub gaps : (i : ℕ) → i + 1 < length nodes → finite (gap nodes i) ≡ true
