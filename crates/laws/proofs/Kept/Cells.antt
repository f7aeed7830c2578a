-- A law of an axis of fewer than two nodes, which the code no longer tests before it looks for a cell. It holds as it did; no proof stands on
-- it.
use mathlib.Core.Path.{◌≡◌}
use mathlib.Core.List.{List}
use Prim.Native.Nat.{◌<◌}
use native.Mathlib.Omega.{arith}
use lib.ListN.{length}
use lib.Ieee.{Float}
use Rattle.axis.specs.Cells.{lower_index}

-- fewer than two nodes have no cell
pub cell_none : (nodes : List Float) (p : Float) → length nodes < 2 → 0 ≡ lower_index nodes p
unfolding lower_index
cell_none nodes p few = omega (arith, few)
