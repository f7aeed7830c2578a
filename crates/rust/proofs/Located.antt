-- The two linears over the locations of all axes, list by list; that this is the text is shown in Linears.antt.
use mathlib.Core.List.{List, [], ◌∷◌}
use Prim.Native.Nat.{ℕ, ◌+◌, ◌/◌, ◌%◌, ◌^◌}
use lib.ListN.{length}
use lib.Ieee.{Float, nan}
use Rattle.layout.specs.Layout.{tabulate}
use Rattle.rust.specs.Scaffolding.{butterfly, diffs}
use Rattle.rust.specs.declared.AxisLocation.{AxisLocation}
use Rattle.rust.specs.declared.AxisLocation.TheVariants.{Exact, Between}

-- the index list of a corner: as many bits below an axis's own as axes come after it
abbrev pub corner : List ℕ → ℕ → List ℕ
corner [] mask = []
corner (lower ∷ ls) mask = (lower + mask / 2 ^ length ls % 2) ∷ corner ls mask

unfoldable pub corners : List ℕ → (List ℕ → Float) → List Float
corners ls g = tabulate (2 ^ length ls) (λ mask. g (corner ls mask))

-- the values over the axes that are left
abbrev pub view : List AxisLocation → (List ℕ → Float) → List ℕ → Float
view [] g is = g is
view (Exact pos ∷ ps) g is = view ps (λ js. g (pos ∷ js)) is
view (Between lower frac ∷ ps) g [] = nan
view (Between lower frac ∷ ps) g (j ∷ is) = view ps (λ js. g (j ∷ js)) is

-- `lower_idxs` of those axes
abbrev pub lowers : List AxisLocation → List ℕ
lowers [] = []
lowers (Exact pos ∷ ps) = lowers ps
lowers (Between lower frac ∷ ps) = lower ∷ lowers ps

-- the whole of it; that it is `linear`, axis by axis, is `rust_linear_lem` (blend/proofs/Bits.antt)
unfoldable pub rust_linear : List AxisLocation → (List ℕ → Float) → Float
rust_linear ps g = butterfly (diffs ps) (corners (lowers ps) (view ps g))
