-- "Little-endian": numbers and floats in a list of bytes.
use Rattle.std.specs.Prelude.{List, [], ◌∷◌, ℕ, zero, suc, ◌+◌, ◌*◌, ◌/◌, ◌%◌, take, drop, Float}
use Rattle.std.specs.Float.{binary64}
use Rattle.std.specs.Float.Ieee.{of_bits}

-- the number that bytes stand for, the lowest first
unfoldable pub of_bytes : List ℕ → ℕ
of_bytes [] = 0
of_bytes (b ∷ bs) = b + 256 * of_bytes bs

-- the n lowest bytes of a number
unfoldable pub to_bytes : ℕ → ℕ → List ℕ
to_bytes zero x = []
to_bytes (suc n) x = x % 256 ∷ to_bytes n (x / 256)

-- the number of the n bytes at a place, or of those that are there
unfoldable pub word_at : ℕ → List ℕ → ℕ → ℕ
word_at n bytes at = of_bytes (take n (drop at bytes))

-- "Nodes and values are f64 bits."
unfoldable pub float_at : List ℕ → ℕ → Float
float_at bytes at = of_bits binary64 (word_at 8 bytes at)
