-- "The image": the bytes that a table is written as.
use Rattle.std.specs.Prelude.{cond, List, [], ◌∷◌, ◌++◌, ℕ, ◌+◌, ◌*◌, ltb, take, get_or, Float}
use Rattle.std.specs.Float.{binary64}
use Rattle.std.specs.Float.Ieee.{to_bits}
use Rattle.layout.specs.Shape.{counts_of, size, total}
use Rattle.layout.specs.declared.Shape.{Shape}
use Rattle.little_endian.specs.Words.{to_bytes}

-- "The writer places the axes from byte 40 without gaps, then the values"
unfoldable pub axis_at : Shape → ℕ → ℕ
axis_at s a = 40 + 8 * total (take a (counts_of s))

-- ".. then the values"
unfoldable pub values_at : Shape → ℕ
values_at s = 40 + 8 * total (counts_of s)

-- where the image ends
unfoldable pub image_length : Shape → ℕ
image_length s = values_at s + 8 * size (counts_of s)

-- "Unused counts and offsets are zero."
unfoldable pub count_in : Shape → ℕ → ℕ
count_in s a = get_or (counts_of s) a 0

unfoldable pub offset_in : Shape → ℕ → ℕ
offset_in s a = cond (ltb a s.axes) (axis_at s a) 0

-- the fields of the header, each with its width in bytes: "Byte 0: 1. Byte 1: axes. Bytes 2-3: zero. 4-7: image length.
-- 8-15: four u16 node counts. 16-31: four u32 axis offsets. 32-35: value offset. 36-39: zero."
abbrev pub header_fields : Shape → List (ℕ × ℕ)
header_fields s =
    (1, 1) ∷ (1, s.axes) ∷ (2, 0) ∷ (4, image_length s)
    ∷ (2, count_in s 0) ∷ (2, count_in s 1) ∷ (2, count_in s 2) ∷ (2, count_in s 3)
    ∷ (4, offset_in s 0) ∷ (4, offset_in s 1) ∷ (4, offset_in s 2) ∷ (4, offset_in s 3)
    ∷ (4, values_at s) ∷ (4, 0) ∷ []

-- "Little-endian", one field after the other
abbrev pub field_bytes : List (ℕ × ℕ) → List ℕ
field_bytes [] = []
field_bytes (f ∷ fs) = to_bytes f.0 f.1 ++ field_bytes fs

-- "Nodes and values are f64 bits."
unfoldable pub float_bytes : List Float → List ℕ
float_bytes [] = []
float_bytes (x ∷ xs) = to_bytes 8 (to_bits binary64 x) ++ float_bytes xs

-- the whole image: the header, the axes, the values
unfoldable pub image_of : Shape → List Float → List Float → List ℕ
image_of s nodes values = field_bytes (header_fields s) ++ (float_bytes nodes ++ float_bytes values)
