-- Not for the reader of the promises: what the functions below the calls ask for and give one another.
-- The checker holds the code to it, and no promise cites it.
use Rattle.std.specs.Prelude.{◌≡◌, List, [], ℕ, ◌≤◌, ◌<◌, get_or, length, Float, Result}
use Rattle.std.specs.Borrow.{Bor}
use Rattle.answer.specs.Faults.{Fault, first_fault}
use Rattle.answer.specs.Rows.{said}
use Rattle.answer.specs.declared.Refusal.{Refusal}
use Rattle.layout.specs.Shape.{counts_of, size, total}
use Rattle.layout.specs.Layout.{axes_of}
use Rattle.layout.specs.declared.Shape.{Shape}
use Rattle.checks.specs.Passed.{Axis}
use Rattle.checks.specs.declared.shapes.Holding.{Holding}

-- ---- shapes

-- few counts of few nodes: what makes sums and products of them fit
pub record Few (s : Shape) : Type 0 where
  pub axes : s.axes ≤ 4
  pub each : (a : ℕ) → a < s.axes → get_or s.counts a 0 ≤ 64

-- how many nodes and values the counts make
abbrev pub sums_of : Shape → Holding
sums_of s = record { nodes = total (counts_of s); values = size (counts_of s) }

-- ---- axes and grids

-- what follows of passing 1 to 6 (`grid_of`)
pub record Grid (counts : List ℕ) (nodes : List Float) : Type 0 where
  pub few : length counts ≤ 4
  pub flat : length nodes ≡ total counts
  pub small : size counts ≤ 4096
  pub axes : (a : ℕ) → a < length counts → Axis (get_or (axes_of counts nodes) a [])

-- what judges an axis by its number and its nodes says this fault of each
abbrev pub Says : (ℕ → Bor (List Float) → Result (Unit {0}) Refusal → Type 0) → (ℕ → List Float → Fault) → Type 0
Says gives fault = (a : ℕ) (grid : Bor (List Float)) (r : Result (Unit {0}) Refusal) → gives a grid r → said r ≡ fault a grid.now

-- the same of all axes, one after the other
abbrev pub each_axis : (ℕ → List Float → Fault) → List ℕ → List Float → Fault
each_axis fault counts nodes = first_fault (λ a. fault a (get_or (axes_of counts nodes) a [])) 0 (length counts)
