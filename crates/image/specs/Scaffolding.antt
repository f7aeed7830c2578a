-- Not for the reader of the promises: what the functions below the calls ask for and give one another.
-- The checker holds the code to it, and no promise cites it.
use Rattle.std.specs.Prelude.{◌≡◌, true, List, ℕ, ◌+◌, ◌-◌, ◌*◌, ◌≤◌, ◌<◌, length, get_or}
use Rattle.answer.specs.Faults.{Fault, good, first_fault}
use Rattle.layout.specs.Shape.{counts_of, size, total}
use Rattle.checks.specs.Shapes.{shape_fault}
use Rattle.checks.specs.Numbers.{area_fault, shared_fault}
use Rattle.checks.specs.Scaffolding.{sums_of}
use Rattle.checks.specs.declared.shapes.Holding.{Holding}
use Rattle.image.specs.Fields.{axes_field, shape_of, area_of}
use Rattle.image.specs.declared.areas.Area.{Area}

-- a number of the header, and how large it may be
pub record Number (x bound r : ℕ) : Type 0 where
  pub is : r ≡ x
  pub below : r < bound

-- an image whose shape passes 1 and 2
abbrev pub ShapeJudged : List ℕ → Type 0
ShapeJudged img = good (shape_fault (shape_of img)) ≡ true

-- the same, with how many nodes and values it has
pub record Held (img : List ℕ) (held : Holding) : Type 0 where
  pub judged : ShapeJudged img
  pub is : held ≡ sums_of (shape_of img)

-- an area, as large as the header can say
pub record Bounded (area : Area) : Type 0 where
  pub near : area.at < 4294967296
  pub few : area.floats < 65536

-- one of several areas; past the last an empty one
abbrev pub nth : List Area → ℕ → Area
nth areas k = get_or areas k (record { at = 0; floats = 0 })

abbrev pub AllBounded : List Area → Type 0
AllBounded areas = (k : ℕ) → k < length areas → Bounded (nth areas k)

-- an area of an image by its number, and five of them, of which the last are the values' again
pub record AreaIn (img : List ℕ) (k : ℕ) (area : Area) : Type 0 where
  pub is : area ≡ area_of img k
  pub bounded : Bounded area

pub record Areas (img : List ℕ) (areas : List Area) : Type 0 where
  pub five : length areas ≡ 5
  pub four : axes_field img ≤ 4
  pub each : (k : ℕ) → k ≤ 4 → AreaIn img k (nth areas k)

-- 14 of one of several areas, 18 of two of them, and 18 of one with each after it
abbrev pub alone_row : ℕ → List Area → ℕ → Fault
alone_row len areas k = area_fault len k (nth areas k).at (nth areas k).floats

abbrev pub shared_row : List Area → ℕ → ℕ → Fault
shared_row areas i j = shared_fault i j (nth areas i).at (8 * (nth areas i).floats) (nth areas j).at (8 * (nth areas j).floats)

abbrev pub later_row : List Area → ℕ → Fault
later_row areas i = first_fault (shared_row areas i) (i + 1) (length areas - (i + 1))

-- room for floats of an area
pub record FloatsRoom (at count : ℕ) : Type 0 where
  pub near : at < 4294967296
  pub few : count < 65536

-- room for all nodes, and for all nodes and all values
pub record NodesRoom (img : List ℕ) (nodes : ℕ) : Type 0 where
  pub judged : ShapeJudged img
  pub nodes_room : nodes ≡ total (counts_of (shape_of img))

pub record Rooms (img : List ℕ) (nodes values : ℕ) : Type 0 where
  pub judged : ShapeJudged img
  pub nodes_room : nodes ≡ total (counts_of (shape_of img))
  pub values_room : values ≡ size (counts_of (shape_of img))
