-- Not for the reader of the promises: what the functions below the calls ask for and give one another.
-- The checker holds the code to it, and no promise cites it.
use Rattle.std.specs.Prelude.{◌≡◌, true, List, [], ◌∷◌, ℕ, ◌+◌, ◌≤◌, length, get_or, Float}
use Rattle.std.specs.List.{All}
use Rattle.answer.specs.Faults.{good}
use Rattle.layout.specs.Shape.{counts_of, size, total}
use Rattle.layout.specs.declared.Shape.{Shape}
use Rattle.checks.specs.Shapes.{shape_fault}
use Rattle.checks.specs.declared.shapes.Holding.{Holding}
use Rattle.writer.specs.Made.{image_length}

-- what a judged shape holds
pub record Holds (s : Shape) (held : Holding) : Type 0 where
  pub nodes : held.nodes ≡ total (counts_of s)
  pub values : held.values ≡ size (counts_of s)
  pub few_nodes : held.nodes ≤ 256
  pub few_values : held.values ≤ 4096

-- a table that passes 1, 2 and 3
pub record Framed (s : Shape) (nodes values : List Float) : Type 0 where
  pub judged : good (shape_fault s) ≡ true
  pub nodes_long : length nodes ≡ total (counts_of s)
  pub values_long : length values ≡ size (counts_of s)

-- and room for its image
pub record Roomy (s : Shape) (nodes values : List Float) (room : ℕ) : Type 0 where
  pub framed : Framed s nodes values
  pub room_enough : image_length s ≤ room

-- ---- the header's fields

-- how many bytes they take
abbrev pub widths : List (ℕ × ℕ) → ℕ
widths [] = 0
widths (f ∷ fs) = f.0 + widths fs

-- none wider than a number, and room for them
pub record Fitting (fields : List (ℕ × ℕ)) (room : ℕ) : Type 0 where
  pub narrow : All (λ f. f.0 ≤ 8) fields
  pub enough : widths fields ≤ room

-- an axis's count, 0 where there is no such axis
pub record Count (s : Shape) (axis r : ℕ) : Type 0 where
  pub is : r ≡ get_or (counts_of s) axis 0
  pub few : r ≤ 64

-- a judged shape, and room for its header
pub record HeaderRoom (s : Shape) (room : ℕ) : Type 0 where
  pub judged : good (shape_fault s) ≡ true
  pub enough : 40 ≤ room
