-- "Sizes": where nodes and values lie.
use Rattle.std.specs.Prelude.{List, [], ◌∷◌, ◌++◌, ℕ, zero, suc, ◌+◌, ◌*◌, ◌/◌, ◌%◌, ◌<◌, take, drop, get_or, Float}
use Rattle.std.specs.Float.{nan}
use Rattle.layout.specs.Shape.{counts_of, size}
use Rattle.layout.specs.declared.Shape.{Shape}

-- "Nodes lie flat, axis after axis"
unfoldable pub axes_of : {A : Type 0} → List ℕ → List A → List (List A)
axes_of [] nodes = []
axes_of (n ∷ ns) nodes = take n nodes ∷ axes_of ns (drop n nodes)

-- the nodes of one axis
abbrev pub axis_of : {A : Type 0} → Shape → List A → ℕ → List A
axis_of s nodes axis = get_or (axes_of (counts_of s) nodes) axis []

-- "values lie flat, last axis fastest": the strides, and where an index list lies by them
unfoldable pub strides : List ℕ → List ℕ
strides [] = []
strides (n ∷ ns) = size ns ∷ strides ns

unfoldable pub place_by : List ℕ → List ℕ → ℕ
place_by [] is = 0
place_by (s ∷ ss) [] = 0
place_by (s ∷ ss) (i ∷ is) = i * s + place_by ss is

abbrev pub place : List ℕ → List ℕ → ℕ
place counts is = place_by (strides counts) is

-- a table is a function of the index list
unfoldable pub table : List ℕ → List Float → List ℕ → Float
table counts values is = get_or values (place counts is) nan

-- the index list that lies at a flat place
unfoldable pub indices_at : List ℕ → ℕ → List ℕ
indices_at [] t = []
indices_at (n ∷ ns) t = (t / size ns) ∷ indices_at ns (t % size ns)

-- the list of h 0, h 1, .., one for each number below n
abbrev pub tabulate : {A : Type 0} → ℕ → (ℕ → A) → List A
tabulate zero h = []
tabulate (suc n) h = h 0 ∷ tabulate n (λ k. h (suc k))

-- each index lies on its axis
abbrev pub Inside : List ℕ → List ℕ → Type 0
Inside [] [] = Unit
Inside [] (n ∷ ns) = ⊥
Inside (i ∷ is) [] = ⊥
Inside (i ∷ is) (n ∷ ns) = (i < n) × Inside is ns

-- an index list with i put in at axis k, and a list without what it has at axis k
abbrev pub insert : {A : Type 0} → ℕ → A → List A → List A
insert zero i is = i ∷ is
insert (suc k) i [] = i ∷ []
insert (suc k) i (j ∷ is) = j ∷ insert k i is

abbrev pub without : {A : Type 0} → ℕ → List A → List A
without k [] = []
without zero (x ∷ xs) = xs
without (suc k) (x ∷ xs) = x ∷ without k xs

-- "A slice removes one axis": at node i of axis k, the value at each index list of the other axes is the table's at that list with i put in
unfoldable pub slice_values : ℕ → ℕ → List ℕ → List Float → List Float
slice_values k i counts values = tabulate (size (without k counts)) (λ t. table counts values (insert k i (indices_at (without k counts) t)))

-- "the other axes and their nodes stay, in their order"
unfoldable pub nodes_without : {A : Type 0} → ℕ → List ℕ → List A → List A
nodes_without k [] nodes = nodes
nodes_without zero (n ∷ ns) nodes = drop n nodes
nodes_without (suc k) (n ∷ ns) nodes = take n nodes ++ nodes_without k ns (drop n nodes)
