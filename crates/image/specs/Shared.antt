-- "No two of the axis and value areas may share a byte" (request C-12), said of bytes: what the check (`pairs_fault`, Load.antt) is held to.
use Rattle.std.specs.Prelude.{◌≡◌, List, ◌⊎◌, ℕ, suc, ◌+◌, ◌*◌, ◌≤◌, ◌<◌}
use Rattle.image.specs.Fields.{axes_field, area_of}

-- where an area ends: its floats have eight bytes each
abbrev pub area_end : List ℕ → ℕ → ℕ
area_end img i = (area_of img i).at + 8 * (area_of img i).floats

-- a byte of an area
pub record InArea (img : List ℕ) (i byte : ℕ) : Type 0 where
  pub from : (area_of img i).at ≤ byte
  pub before : byte < area_end img i

-- "share a byte"; where each area alone has passed 14, it is one of the image's
pub record Share (img : List ℕ) (i j : ℕ) : Type 0 where
  pub byte : ℕ
  pub in_one : InArea img i byte
  pub in_other : InArea img j byte

-- two of the areas by their numbers, "values counted last": their number is the number of axes
pub record Pair (img : List ℕ) (i j : ℕ) : Type 0 where
  pub ordered : i < j
  pub there : j ≤ axes_field img

-- no two of them share a byte
abbrev pub Apart : List ℕ → Type 0
Apart img = (i j : ℕ) → Pair img i j → Share img i j → ⊥

-- "lowest pair first", 0 1, 0 2, .., 1 2, ..: pair k l comes before pair i j
abbrev pub Lower : ℕ → ℕ → ℕ → ℕ → Type 0
Lower k l i j = (k < i) ⊎ ((k ≡ i) × (l < j))

pub record Lowest (img : List ℕ) (i j : ℕ) : Type 0 where
  pub pair : Pair img i j
  pub share : Share img i j
  pub none_lower : (k l : ℕ) → Pair img k l → Lower k l i j → Share img k l → ⊥

-- areas that lie one after the other, in any order: `turn t` is the area whose turn is t, and every area has a turn; each begins where the one before it ends,
-- as in a layout without gaps, or later
pub record InTurn (img : List ℕ) : Type 0 where
  pub turn : ℕ → ℕ
  pub each : (i : ℕ) → i ≤ axes_field img → (t : ℕ) × ((t ≤ axes_field img) × (turn t ≡ i))
  pub after : (t : ℕ) → t < axes_field img → area_end img (turn t) ≤ (area_of img (turn (suc t))).at
