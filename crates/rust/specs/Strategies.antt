-- The Rust's n/strategies.rs, its first four strategies, each definition under the lines that it is taken from. `data` is its grid, a list of
-- axes, and its values, a shape and a function of the index list.
use Rattle.std.specs.Prelude.{cond, List, [], ◌∷◌, ℕ, zero, suc, ◌+◌, ◌-◌, ◌/◌, ◌%◌, ◌^◌, eqb, length, get_or, set, Float, Option, Some, None}
use Rattle.std.specs.Float.{binary64}
use Rattle.std.specs.Float.Ieee.{lt, add, sub, mul, div}
use Rattle.layout.specs.Shape.{size}
use Rattle.layout.specs.Layout.{tabulate, insert, without}
use Rattle.rust.specs.Utils.{one, at, frac_of, locate_lower_index, exact_index, locate_step_index, locate_lower_index_uniform, spacing_at, Validated, ok, non_uniform, validate_uniform_grid_epsilon}

-- ---- Linear: exact axes removed
-- `point`, `grid` and `values_view`, which has a shape and an element at each index list
pub record Reduced : Type 0 where
  pub point : List Float
  pub grid : List (List Float)
  pub shape : List ℕ
  pub values : List ℕ → Float

-- `if let Some(pos) = pos { point.remove(dim); grid.remove(dim); values_view.index_axis_inplace(Axis(dim), pos); }`
abbrev pub removed : Option ℕ → ℕ → Reduced → Reduced
removed (Some pos) dim s = record {
  point = without dim s.point;
  grid = without dim s.grid;
  shape = without dim s.shape;
  values = λ is. s.values (insert dim pos is);
}
removed None dim s = s

-- `if grid[dim].is_empty() { continue; }`, then
-- `let lower = locate_lower_index(grid[dim].view(), &point[dim]); let pos = exact_index(grid[dim].view(), lower, &point[dim]);`
abbrev pub reduced_at : ℕ → Reduced → Reduced
reduced_at dim s =
    let grid_dim = get_or s.grid dim [] in
    let point_dim = at s.point dim in
    cond (eqb (length grid_dim) 0) s (removed (exact_index grid_dim (locate_lower_index grid_dim point_dim) point_dim) dim s)

-- `for dim in (0..n).rev()`
abbrev pub reduced : ℕ → Reduced → Reduced
reduced zero s = s
reduced (suc dim) s = reduced dim (reduced_at dim s)

-- ---- Linear and LinearUniform: corners by bit mask, and the butterfly
-- "Bit (n-1-d) of the mask = 1 selects the upper index in dimension d.", `for d in 0..n { idx[d] = lower_idxs[d] + ((mask >> (n - 1 - d)) & 1); }`
abbrev pub idx_of : ℕ → List ℕ → ℕ → List ℕ
idx_of n lower_idxs mask = tabulate n (λ d. get_or lower_idxs d 0 + mask / 2 ^ (n - 1 - d) % 2)

-- "Fill all 2^n corner values into a flat array indexed by bitmask.", `let size = 1usize << n;`,
-- `for (mask, val) in vals.iter_mut().enumerate() { .. *val = values_view[idx.as_slice()]; }`
unfoldable pub vals_of : ℕ → List ℕ → (List ℕ → Float) → List Float
vals_of n lower_idxs values = tabulate (2 ^ n) (λ mask. values (idx_of n lower_idxs mask))

-- `vals[i] * (D::Elem::one() - *diff) + vals[i + half] * *diff`
abbrev pub reduced_by : Float → ℕ → List Float → ℕ → Float
reduced_by diff half vals i = add binary64 (mul binary64 (at vals i) (sub binary64 one diff)) (mul binary64 (at vals (i + half)) diff)

-- `for i in 0..half { vals[i] = ..; }`, from i on with so many turns left
unfoldable pub passed_from : Float → ℕ → ℕ → ℕ → List Float → List Float
passed_from diff half i zero vals = vals
passed_from diff half i (suc turns) vals = passed_from diff half (suc i) turns (set vals i (reduced_by diff half vals i))

-- "Butterfly reduction: one pass per dimension.", `for (d, diff) in interp_diffs.iter().enumerate() { let half = 1 << (n - 1 - d); .. }`, from d on;
-- then `Ok(vals[0])`
unfoldable pub butterfly_from : ℕ → ℕ → List Float → List Float → Float
butterfly_from n d [] vals = at vals 0
butterfly_from n d (diff ∷ rest) vals =
    let half = 2 ^ (n - 1 - d) in
    butterfly_from n (suc d) rest (passed_from diff half 0 half vals)

-- ---- Linear
-- `lower_idxs` and `interp_diffs`, `for dim in 0..n`
abbrev pub lower_idxs : Reduced → List ℕ
lower_idxs s = tabulate (length s.shape) (λ dim. locate_lower_index (get_or s.grid dim []) (at s.point dim))

abbrev pub interp_diffs : Reduced → List Float
interp_diffs s =
    tabulate (length s.shape)
    (λ dim. frac_of (get_or s.grid dim []) (locate_lower_index (get_or s.grid dim []) (at s.point dim)) (at s.point dim))

-- `if values_view.len() == 1 { return Ok(values_view.first().copied().unwrap()); }`, else the blend, with `n = values_view.ndim();`
abbrev pub blended_from : Reduced → Float
blended_from s =
    let n = length s.shape in
    cond (eqb (size s.shape) 1) (s.values (tabulate n (λ dim. 0)))
    (butterfly_from n 0 (interp_diffs s) (vals_of n (lower_idxs s) s.values))

-- `let mut n = data.values.ndim();`
unfoldable pub linear_text : List ℕ → (List ℕ → Float) → List (List Float) → List Float → Float
linear_text shape values grid point = blended_from (reduced (length shape) (record { point = point; grid = grid; shape = shape; values = values }))

-- ---- LinearUniform
-- `?`: the first error is the answer
abbrev pub or_else : Validated → Validated → Validated
or_else ok next = next
or_else (non_uniform dim index) next = non_uniform dim index

-- its validate: `for (dim, grid) in data.grid.iter().enumerate() { validate_uniform_grid_epsilon(grid.view(), dim, None)?; }`, from dim on
unfoldable pub validate_from : ℕ → List (List Float) → Validated
validate_from dim [] = ok
validate_from dim (grid ∷ rest) = or_else (validate_uniform_grid_epsilon grid dim) (validate_from (suc dim) rest)

abbrev pub validate_linear_uniform : List (List Float) → Validated
validate_linear_uniform grid = validate_from 0 grid

-- its interpolate: `let step = grid_dim[1] - grid_dim[0]; let lower_idx = locate_lower_index_uniform(grid_dim[0], step, grid_dim.len(), point_dim);`
abbrev pub uniform_lower : List Float → Float → ℕ
uniform_lower grid_dim point_dim = locate_lower_index_uniform (at grid_dim 0) (spacing_at grid_dim 0) (length grid_dim) point_dim

-- `let diff = (point_dim - grid_dim[lower_idx]) / step;`
abbrev pub uniform_diff : List Float → Float → Float
uniform_diff grid_dim point_dim = div binary64 (sub binary64 point_dim (at grid_dim (uniform_lower grid_dim point_dim))) (spacing_at grid_dim 0)

-- `for (grid_dim, &point_dim) in data.grid.iter().zip(point.iter())`: what is pushed for each
abbrev pub zipped : {A : Type 0} → (List Float → Float → A) → List (List Float) → List Float → List A
zipped push [] point = []
zipped push (grid_dim ∷ grid) [] = []
zipped push (grid_dim ∷ grid) (point_dim ∷ point) = push grid_dim point_dim ∷ zipped push grid point

-- `let n = data.values.ndim();`, "Same bitmask/butterfly reduction as Linear ND"
unfoldable pub linear_uniform_text : List ℕ → (List ℕ → Float) → List (List Float) → List Float → Float
linear_uniform_text shape values grid point =
    let n = length shape in
    butterfly_from n 0 (zipped uniform_diff grid point) (vals_of n (zipped uniform_lower grid point) values)

-- ---- Nearest
-- `let lower_idx = locate_lower_index(data.grid[dim].view(), &point[dim]);`, then
-- `if point[dim] - data.grid[dim][lower_idx] < data.grid[dim][lower_idx + 1] - point[dim] { lower_idx } else { lower_idx + 1 }`
abbrev pub nearest_at : List Float → Float → ℕ
nearest_at grid_dim point_dim =
    let lower_idx = locate_lower_index grid_dim point_dim in
    cond (lt (sub binary64 point_dim (at grid_dim lower_idx)) (sub binary64 (at grid_dim (lower_idx + 1)) point_dim)) lower_idx (lower_idx + 1)

-- `for dim in 0..n { idx[dim] = .. }`, `Ok(data.values.view()[idx.as_slice()])`
unfoldable pub nearest_text : List ℕ → (List ℕ → Float) → List (List Float) → List Float → Float
nearest_text shape values grid point = values (tabulate (length shape) (λ dim. nearest_at (get_or grid dim []) (at point dim)))

-- ---- Step
-- `idx[dim] = locate_step_index(self.directions[dim], data.grid[dim].view(), &point[dim]);`
unfoldable pub step_text : List ℕ → List ℕ → (List ℕ → Float) → List (List Float) → List Float → Float
step_text directions shape values grid point = values (tabulate (length shape) (λ dim. locate_step_index (get_or directions dim 0) (get_or grid dim []) (at point dim)))
