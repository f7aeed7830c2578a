-- "The axis rules (utils.rs)": what Step gives on a good axis.
use Rattle.std.specs.Prelude.{ℕ, ◌-◌, cond, List, length, ◌==◌, Float}
use Rattle.std.specs.Float.Ieee.{lt, le}
use Rattle.checks.specs.Nodes.{node}
use Rattle.axis.specs.Cells.{how_many, count_below}

-- one of three, as a reading lies below the range, above it or inside
abbrev pub by_range : List Float → Float → ℕ → ℕ → ℕ → ℕ
by_range nodes p below above inside = cond (lt p (node nodes 0)) below (cond (lt (node nodes (length nodes - 1)) p) above inside)

-- "inside the range, Lower gives the last node at or below p": on rising nodes those are the first so many (`lower_is_last`).
-- "Below the range .. 0 ..; above it n-2"
unfoldable pub lower_step : List Float → Float → ℕ
lower_step nodes p = by_range nodes p 0 (length nodes - 2) (how_many (λ x. le x p) nodes - 1)

-- "Upper the first node at or above": on rising nodes those before it are the nodes below p (`upper_is_first`). "Below the range .. 1; above it .. n-1"
unfoldable pub upper_step : List Float → Float → ℕ
upper_step nodes p = by_range nodes p 1 (length nodes - 1) (count_below nodes p)

-- "0 lower, 1 upper"
unfoldable pub step_index : ℕ → List Float → Float → ℕ
step_index direction nodes p = cond (direction == 0) (lower_step nodes p) (upper_step nodes p)
