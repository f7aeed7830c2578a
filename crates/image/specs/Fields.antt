-- "The image": the fields of the header, and the areas that they tell.
use Rattle.std.specs.Prelude.{cond, List, ℕ, ◌+◌, ◌*◌, ltb}
use Rattle.layout.specs.Layout.{tabulate}
use Rattle.layout.specs.Shape.{counts_of, size}
use Rattle.layout.specs.declared.Shape.{Shape}
use Rattle.little_endian.specs.Words.{word_at}
use Rattle.image.specs.declared.areas.Area.{Area}

-- "Byte 1: axes."
unfoldable pub axes_field : List ℕ → ℕ
axes_field img = word_at 1 img 1

-- "8-15: four u16 node counts."
unfoldable pub count_field : List ℕ → ℕ → ℕ
count_field img a = word_at 2 img (8 + 2 * a)

-- "16-31: four u32 axis offsets."
unfoldable pub offset_field : List ℕ → ℕ → ℕ
offset_field img a = word_at 4 img (16 + 4 * a)

-- "32-35: value offset."
unfoldable pub values_field : List ℕ → ℕ
values_field img = word_at 4 img 32

-- the shape that the header states
unfoldable pub shape_of : List ℕ → Shape
shape_of img = record { axes = axes_field img; counts = tabulate 4 (count_field img) }

-- the areas by their numbers, where each begins and how many floats it has: those of the axes, and, "values counted last", that of the values, whose
-- number is the number of axes; no greater number is asked for
unfoldable pub area_of : List ℕ → ℕ → Area
area_of img k =
    cond (ltb k (axes_field img))
    (record { at = offset_field img k; floats = count_field img k })
    (record { at = values_field img; floats = size (counts_of (shape_of img)) })
