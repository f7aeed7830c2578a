-- A node of an axis, and how far it lies from the next.
use Rattle.std.specs.Prelude.{List, ℕ, ◌+◌, get_or, Float}
use Rattle.std.specs.Float.{nan, binary64}
use Rattle.std.specs.Float.Ieee.{sub}

-- a node of an axis; past the last, a NaN
abbrev pub node : List Float → ℕ → Float
node nodes i = get_or nodes i nan

-- the rounded difference of a node's upper neighbour and the node
unfoldable pub gap : List Float → ℕ → Float
gap nodes i = sub binary64 (node nodes (i + 1)) (node nodes i)
