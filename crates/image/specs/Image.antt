-- "The image": what lies in the areas.
use Rattle.std.specs.Prelude.{List, [], ◌∷◌, ◌++◌, ℕ, zero, suc, ◌+◌, Float}
use Rattle.layout.specs.Shape.{counts_of, size}
use Rattle.little_endian.specs.Words.{float_at}
use Rattle.image.specs.Fields.{axes_field, count_field, offset_field, values_field, shape_of}

-- n floats from a place on
unfoldable pub floats_at : List ℕ → ℕ → ℕ → List Float
floats_at img at zero = []
floats_at img at (suc n) = float_at img at ∷ floats_at img (at + 8) n

-- the nodes of the k axes from a on, "axis after axis"
unfoldable pub nodes_from : List ℕ → ℕ → ℕ → List Float
nodes_from img a zero = []
nodes_from img a (suc k) = floats_at img (offset_field img a) (count_field img a) ++ nodes_from img (suc a) k

-- the nodes of all axes
unfoldable pub nodes_in : List ℕ → List Float
nodes_in img = nodes_from img 0 (axes_field img)

-- the values, as many as the counts make
unfoldable pub values_in : List ℕ → List Float
values_in img = floats_at img (values_field img) (size (counts_of (shape_of img)))
