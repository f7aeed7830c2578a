-- Not for the reader of the promises: what the functions below the calls ask for and give one another.
-- The checker holds the code to it, and no promise cites it.
use Rattle.std.specs.Prelude.{List, [], ◌∷◌, ℕ, ◌^◌, length, Float}
use Rattle.layout.specs.Layout.{tabulate}
use Rattle.rust.specs.Strategies.{reduced_by}
use Rattle.rust.specs.Utils.{at}
use Rattle.rust.specs.declared.AxisLocation.{AxisLocation}
use Rattle.rust.specs.declared.AxisLocation.TheVariants.{Exact, Between}

-- ---- the two linears over the locations of all axes, list by list; that this is the text is shown in rust/proofs

-- one pass: the first half, which alone is read again
unfoldable pub passed : Float → ℕ → List Float → List Float
passed diff half vals = tabulate half (reduced_by diff half vals)

-- all passes, one for each axis that is left
unfoldable pub butterfly : List Float → List Float → Float
butterfly [] vals = at vals 0
butterfly (diff ∷ rest) vals = butterfly rest (passed diff (2 ^ length rest) vals)

-- `interp_diffs` of the axes that are left
abbrev pub diffs : List AxisLocation → List Float
diffs [] = []
diffs (Exact pos ∷ ps) = diffs ps
diffs (Between lower frac ∷ ps) = frac ∷ diffs ps
