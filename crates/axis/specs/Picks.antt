-- The node of an axis that Nearest or Step takes.
use Rattle.std.specs.Prelude.{ℕ, ◌+◌, cond, List, slice_index, Float}
use Rattle.std.specs.Float.{binary64}
use Rattle.std.specs.Float.Ieee.{lt, sub}
use Rattle.checks.specs.Nodes.{node}
use Rattle.axis.specs.Steps.{step_index}
use Rattle.axis.specs.Cells.{lower_index}

-- "the lower node if (p - lower) is less than (upper - p) as rounded, else the upper"
abbrev pub nearer : List Float → ℕ → Float → ℕ
nearer nodes lower p = cond (lt (sub binary64 p (node nodes lower)) (sub binary64 (node nodes (lower + 1)) p)) lower (lower + 1)

unfoldable pub nearest_index : List Float → Float → ℕ
nearest_index nodes p = nearer nodes (lower_index nodes p) p

-- "Nearest: per axis"
abbrev pub nearest_rule : ℕ → List Float → Float → ℕ
nearest_rule a nodes p = nearest_index nodes p

-- "Step: per axis, the step index; each axis has its own direction."
abbrev pub step_rule : List ℕ → ℕ → List Float → Float → ℕ
step_rule directions a nodes p = step_index (slice_index directions a) nodes p
