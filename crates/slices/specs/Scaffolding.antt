-- Not for the reader of the promises: what the functions below the calls ask for and give one another.
-- The checker holds the code to it, and no promise cites it.
use Rattle.std.specs.Prelude.{◌≡◌, true, List, ℕ, ◌+◌, ◌*◌, ◌/◌, ◌%◌, ◌≤◌, ◌<◌, length, get_or, take, drop, Float}
use Rattle.std.specs.Float.{nan}
use Rattle.std.specs.Float.Ieee.Scale.{finite}
use Rattle.answer.specs.Faults.{Fault, filled_into}
use Rattle.layout.specs.Shape.{counts_of, size}
use Rattle.layout.specs.Layout.{without, slice_values, axis_of, tabulate}
use Rattle.layout.specs.declared.Shape.{Shape}
use Rattle.checks.specs.Scaffolding.{Grid}
use Rattle.checks.specs.Numbers.{results_fault}
use Rattle.axis.specs.Scaffolding.{pick_index}
use Rattle.blend.specs.Scaffolding.{blends}

-- an axis that a shape has
pub record AxisOf (s : Shape) (axis : ℕ) : Type 0 where
  pub within : axis < s.axes
  pub four : s.axes ≤ 4

-- a table that can be sliced on an axis: what is known where the checks before a slice were passed (`nearest_ready` ..)
pub record Ready (s : Shape) (nodes values : List Float) (axis : ℕ) : Type 0 where
  pub grid : Grid (counts_of s) nodes
  pub four : s.axes ≤ 4
  pub count : length (counts_of s) ≡ s.axes
  pub within : axis < s.axes
  pub many : 1 < s.axes
  pub stored : length values ≡ size (counts_of s)
  pub finites : (t : ℕ) → t < length values → finite (get_or values t nan) ≡ true

-- .. and what is known of its reading and of the room, where they were passed (`point_taken`)
pub record Taken (s : Shape) (axis : ℕ) (p : Float) (room : ℕ) : Type 0 where
  pub finite_point : finite p ≡ true
  pub enough : size (without axis (counts_of s)) ≤ room

-- what was judged, and the output with it: filled, or as it was
pub record JudgedOutput (fault : Fault) (xs before : List Float) (r : Fault) (after : List Float) : Type 0 where
  pub judged : r ≡ fault
  pub output : after ≡ filled_into fault xs before

-- .. where 12 alone is judged
abbrev pub Results : List Float → List Float → Fault → List Float → Type 0
Results xs before r after = JudgedOutput (results_fault xs) xs before r after

-- the slice at the node that a pick takes
abbrev pub pick_slice : ℕ → Shape → List Float → List Float → ℕ → Float → List Float
pick_slice pick s nodes values axis p = slice_values axis (pick_index pick (axis_of s nodes axis) p) (counts_of s) values

-- ---- values in runs

-- where value t of the slice at node i of an axis with n nodes stands: in runs of `inner` values that lie n runs apart
abbrev pub run_place : ℕ → ℕ → ℕ → ℕ → ℕ
run_place n inner i t = (t / inner * n + i) * inner + t % inner

abbrev pub run_values : List Float → ℕ → ℕ → ℕ → ℕ → List Float
run_values values n inner i count = tabulate count (λ t. get_or values (run_place n inner i t) nan)

-- values that are so many times n runs, with room for one run of each n
pub record Runs (values : List Float) (n inner i room : ℕ) : Type 0 where
  pub some : 0 < inner
  pub in_axis : i < n
  pub times : ℕ
  pub whole : length values ≡ times * (n * inner)
  pub few : n * inner ≤ 4096
  pub enough : times * inner ≤ room

-- two neighbouring runs of `rest` values, blended
abbrev pub blended_runs : Float → ℕ → ℕ → List Float → List Float
blended_runs f lower rest values = blends f (take rest (drop (lower * rest) values)) (take rest (drop (lower * rest + rest) values))

-- .. that lie in the values, with room for one
pub record Neighbours (values : List Float) (lower rest room : ℕ) : Type 0 where
  pub reach : lower * rest + rest + rest ≤ length values
  pub stored : length values ≤ 4096
  pub enough : rest ≤ room
