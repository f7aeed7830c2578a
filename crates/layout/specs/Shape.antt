-- "Sizes": a shape's counts, and how many nodes and values it has.
use Rattle.std.specs.Prelude.{List, [], ◌∷◌, ℕ, ◌+◌, ◌*◌, take}
use Rattle.layout.specs.declared.Shape.{Shape}

-- "In a lent shape, counts past its axes are not looked at."
abbrev pub counts_of : Shape → List ℕ
counts_of s = take s.axes s.counts

-- "values (the product of the counts)"
unfoldable pub size : List ℕ → ℕ
size [] = 1
size (n ∷ ns) = n * size ns

-- how many nodes
unfoldable pub total : List ℕ → ℕ
total [] = 0
total (n ∷ ns) = n + total ns

-- "any .. shape it would give is zero"
abbrev pub no_shape : Shape
no_shape = record { axes = 0; counts = 0 ∷ 0 ∷ 0 ∷ 0 ∷ [] }
