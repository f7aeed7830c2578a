-- "The axis rules (utils.rs)": the exact node, as it is on a good axis.
use Rattle.std.specs.Prelude.{ℕ, ◌+◌, cond, List, Float, Option, Some, None}
use Rattle.std.specs.Float.Ieee.{eq}
use Rattle.checks.specs.Nodes.{node}

-- "lower if that node equals the reading, else lower+1 if that one does, else none"
unfoldable pub exact_node : List Float → ℕ → Float → Option ℕ
exact_node nodes lower p = cond (eq (node nodes lower) p) (Some lower) (cond (eq (node nodes (lower + 1)) p) (Some (lower + 1)) None)
