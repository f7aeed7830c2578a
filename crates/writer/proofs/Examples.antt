-- The image of the paper's example, written, and bits that are kept, by computation.
use mathlib.Core.Path.{◌≡◌, refl}
use mathlib.Core.Bool.{false, true}
use mathlib.Core.List.{[], ◌∷◌}
use lib.IntN.{pos, negsuc}
use lib.Ieee.{fin, to_bits}
use Rattle.layout.specs.Shape.{size, total}
use Rattle.layout.specs.declared.Shape.{Shape}
use Rattle.little_endian.specs.Words.{to_bytes}
use Rattle.image.proofs.Examples.{img}
use Rattle.writer.specs.Made.{axis_at, values_at, image_length, count_in, offset_in, float_bytes, image_of}

-- one axis of two nodes; what stands past the axis is not looked at
abbrev shape : Shape
shape = record { axes = 1; counts = 2 ∷ 7 ∷ 7 ∷ 7 ∷ [] }

pub example_written : image_of shape (fin false 0 (pos 0) ∷ fin false 1 (pos 1) ∷ []) (fin false 5 (pos 1) ∷ fin false 5 (pos 2) ∷ []) ≡ img
unfolding image_of float_bytes axis_at values_at image_length count_in offset_in size total to_bytes to_bits
example_written = refl

-- -0.0 keeps its sign
pub minus_zero_written : float_bytes (fin true 0 (pos 0) ∷ []) ≡ 0 ∷ 0 ∷ 0 ∷ 0 ∷ 0 ∷ 0 ∷ 0 ∷ 128 ∷ []
unfolding float_bytes to_bytes to_bits
minus_zero_written = refl

-- the least subnormal number keeps its bit
pub least_written : float_bytes (fin false 1 (negsuc 1073) ∷ []) ≡ 1 ∷ 0 ∷ 0 ∷ 0 ∷ 0 ∷ 0 ∷ 0 ∷ 0 ∷ []
unfolding float_bytes to_bytes to_bits
least_written = refl
