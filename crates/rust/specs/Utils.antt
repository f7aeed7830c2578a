-- The Rust's strategy/utils.rs, each definition under the lines that it is taken from. `a >= b` is `le b a`, and `a > b` is `lt b a`.
use Rattle.std.specs.Prelude.{true, false, ◌&&◌, cond, List, ℕ, zero, suc, ◌+◌, ◌-◌, ◌/◌, ◌^◌, min, ltb, eqb, pos, negsuc, length, get_or, Float, Option, Some, None}
use Rattle.std.specs.Float.{nan, inf, fin, binary64}
use Rattle.std.specs.Float.Ieee.{lt, le, eq, add, sub, mul, div, to_unsigned}
use Rattle.rust.specs.declared.AxisLocation.{AxisLocation}
use Rattle.rust.specs.declared.AxisLocation.TheVariants.{Exact, Between}

-- `T::zero()`
abbrev pub nought : Float
nought = fin false 0 (pos 0)

-- `T::one()`
abbrev pub one : Float
one = fin false 1 (pos 0)

-- `grid[i]`; past the end, where the Rust stops, a NaN
abbrev pub at : List Float → ℕ → Float
at grid i = get_or grid i nan

-- `grid.first().unwrap()`
abbrev pub first : List Float → Float
first grid = at grid 0

-- `grid.last().unwrap()`
abbrev pub last : List Float → Float
last grid = at grid (length grid - 1)

-- ---- locate_lower_index
-- `while low < high { .. }`, in at most so many turns; each halves what lies between low and high
unfoldable pub bisected : ℕ → List Float → Float → ℕ → ℕ → ℕ
bisected zero grid point low high = low
bisected (suc turns) grid point low high =
    -- `let mid = low + (high - low) / 2;`
    let mid = low + (high - low) / 2 in
    -- `if &grid[mid] >= point { high = mid; } else { low = mid + 1; }`
    let down = le point (at grid mid) in
    cond (ltb low high) (bisected turns grid point (cond down low (mid + 1)) (cond down mid high)) low

-- `if low > 0 && &grid[low] >= point { low - 1 } else { low }`
abbrev pub lower_of : List Float → Float → ℕ → ℕ
lower_of grid point low = cond (ltb 0 low && le point (at grid low)) (low - 1) low

unfoldable pub locate_lower_index : List Float → Float → ℕ
locate_lower_index grid point =
    -- `if point < grid.first().unwrap() { return 0; }`
    cond (lt point (first grid)) 0
    -- `if point >= grid.last().unwrap() { return grid.len() - 2; }`
    (cond (le (last grid) point) (length grid - 2)
    -- `let mut low = 0; let mut high = grid.len() - 1;`
    (lower_of grid point (bisected (length grid) grid point 0 (length grid - 1))))

-- ---- exact_index
-- `if grid[lower] == *point { Some(lower) } else if grid[lower + 1] == *point { Some(lower + 1) } else { None }`
unfoldable pub exact_index : List Float → ℕ → Float → Option ℕ
exact_index grid lower point = cond (eq (at grid lower) point) (Some lower) (cond (eq (at grid (lower + 1)) point) (Some (lower + 1)) None)

-- ---- locate_axis
-- `(*point - grid[lower]) / (grid[lower + 1] - grid[lower])`
abbrev pub frac_of : List Float → ℕ → Float → Float
frac_of grid lower point = div binary64 (sub binary64 point (at grid lower)) (sub binary64 (at grid (lower + 1)) (at grid lower))

-- `Some(idx) => AxisLocation::Exact(idx)`, `None => { .. AxisLocation::Between { lower, frac } }`
abbrev pub matched : Option ℕ → ℕ → Float → AxisLocation
matched (Some idx) lower frac = Exact idx
matched None lower frac = Between lower frac

-- `let lower = locate_lower_index(grid, point); match exact_index(grid, lower, point) { .. }`
unfoldable pub locate_axis : List Float → Float → AxisLocation
locate_axis grid point =
    let lower = locate_lower_index grid point in
    matched (exact_index grid lower point) lower (frac_of grid lower point)

-- ---- locate_step_index
-- StepDirection::Lower, `let x_l = locate_lower_index(grid, point);`:
-- `if point == grid.last().unwrap() { grid.len() - 1 } else if *point == grid[x_l + 1] { x_l + 1 } else { x_l }`
abbrev pub lower_by : List Float → ℕ → Float → ℕ
lower_by grid x_l point = cond (eq point (last grid)) (length grid - 1) (cond (eq point (at grid (x_l + 1))) (x_l + 1) x_l)

-- StepDirection::Upper, with x_l for its `locate_lower_index(grid, point)`:
-- `if point == grid.first().unwrap() { 0 } else { locate_lower_index(grid, point) + 1 }`
abbrev pub upper_by : List Float → ℕ → Float → ℕ
upper_by grid x_l point = cond (eq point (first grid)) 0 (x_l + 1)

-- `match dir { .. }`: Lower is 0, Upper 1
unfoldable pub locate_step_index : ℕ → List Float → Float → ℕ
locate_step_index dir grid point = cond (eqb dir 0) (lower_by grid (locate_lower_index grid point) point) (upper_by grid (locate_lower_index grid point) point)

-- ---- locate_lower_index_uniform
-- `t.floor()`: m * 2 ^ e is whole where e is not below 0; a number below 0 goes down, so its amount goes up
unfoldable pub floor : Float → Float
floor nan = nan
floor (inf s) = inf s
floor (fin s m (pos e)) = fin s m (pos e)
floor (fin false m (negsuc k)) = fin false (m / 2 ^ suc k) (pos 0)
floor (fin true m (negsuc k)) = fin true ((m + 2 ^ suc k - 1) / 2 ^ suc k) (pos 0)

-- `.to_usize()`, on 64 bits: a whole part for what lies above -1 and below 2^64, and none for all else, a NaN among it
unfoldable pub to_usize : Float → Option ℕ
to_usize x = cond (lt (fin true 1 (pos 0)) x && lt x (fin false 1 (pos 64))) (Some (to_unsigned 64 x)) None

-- `.unwrap_or(other)`
abbrev pub unwrap_or : Option ℕ → ℕ → ℕ
unwrap_or (Some i) other = i
unwrap_or None other = other

-- `if t < T::zero() { 0 } else { t.floor().to_usize().unwrap_or(0).min(n - 2) }`
unfoldable pub cell_of : ℕ → Float → ℕ
cell_of n t = cond (lt t nought) 0 (min (unwrap_or (to_usize (floor t)) 0) (n - 2))

-- `let t = (point - grid0) / step;`
unfoldable pub locate_lower_index_uniform : Float → Float → ℕ → Float → ℕ
locate_lower_index_uniform grid0 step n point = cell_of n (div binary64 (sub binary64 point grid0) step)

-- ---- validate_uniform_grid
-- `Result<(), ValidateError>`: `Ok(())`, or `Err(ValidateError::NonUniform { dim, index })`
pub data Validated : Type 0 where
  ok : Validated
  non_uniform : ℕ → ℕ → Validated

-- `let spacing = grid[i + 1] - grid[i];`; at 0 it is `let step = grid[1] - grid[0];`
abbrev pub spacing_at : List Float → ℕ → Float
spacing_at grid i = sub binary64 (at grid (i + 1)) (at grid i)

-- `let diff = if spacing > step { spacing - step } else { step - spacing };`
abbrev pub diff_of : Float → Float → Float
diff_of spacing step = cond (lt step spacing) (sub binary64 spacing step) (sub binary64 step spacing)

-- `if diff > tolerance { return Err(ValidateError::NonUniform { dim, index: i }); }`, from i on with so many turns left
unfoldable pub gaps_from : List Float → ℕ → Float → ℕ → ℕ → Validated
gaps_from grid dim tolerance i zero = ok
gaps_from grid dim tolerance i (suc turns) =
    cond (lt tolerance (diff_of (spacing_at grid i) (spacing_at grid 0))) (non_uniform dim i) (gaps_from grid dim tolerance (suc i) turns)

-- `for i in 1..grid.len() - 1`
unfoldable pub validate_uniform_grid : List Float → ℕ → Float → Validated
validate_uniform_grid grid dim tolerance = gaps_from grid dim tolerance 1 (length grid - 1 - 1)

-- ---- validate_uniform_grid_epsilon
-- `for _ in 0..10 { tol = tol + tol; }`, with so many turns
abbrev pub doubled : ℕ → Float → Float
doubled zero tol = tol
doubled (suc turns) tol = doubled turns (add binary64 tol tol)

-- `step.abs()`
unfoldable pub abs : Float → Float
abs nan = nan
abs (inf s) = inf false
abs (fin s m e) = fin false m e

-- `T::epsilon()`, 2^-52
abbrev pub epsilon : Float
epsilon = fin false 1 (negsuc 51)

-- `let mut tol = T::epsilon();`, `step.abs() * tol`
unfoldable pub tolerance_of : List Float → Float
tolerance_of grid = mul binary64 (abs (spacing_at grid 0)) (doubled 10 epsilon)

-- with `None` for the tolerance: `let tolerance = tolerance.unwrap_or_else(|| { .. });`
unfoldable pub validate_uniform_grid_epsilon : List Float → ℕ → Validated
validate_uniform_grid_epsilon grid dim = validate_uniform_grid grid dim (tolerance_of grid)
