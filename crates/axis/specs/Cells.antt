-- "The axis rules (utils.rs)": the lower index, by counting, as it is on a good axis.
use Rattle.std.specs.Prelude.{ℕ, ◌+◌, ◌-◌, min, Bool, cond, List, [], ◌∷◌, length, Float}
use Rattle.std.specs.Float.Ieee.{lt}

-- how many nodes pass a test
unfoldable pub how_many : (Float → Bool) → List Float → ℕ
how_many test [] = 0
how_many test (x ∷ xs) = cond (test x) 1 0 + how_many test xs

-- "the count of nodes strictly below the reading"
abbrev pub count_below : List Float → Float → ℕ
count_below nodes p = how_many (λ x. lt x p) nodes

-- "less 1, held between 0 and n-2"
unfoldable pub lower_index : List Float → Float → ℕ
lower_index nodes p = min (count_below nodes p - 1) (length nodes - 2)
