-- Not for the reader of the promises: what the functions below the calls ask for and give one another.
-- The checker holds the code to it, and no promise cites it.
use Rattle.std.specs.Prelude.{List, [], ◌∷◌, ◌++◌, ℕ, ◌+◌, ◌/◌, ◌%◌, ◌^◌, min, length, drop, get_or, Float}
use Rattle.std.specs.Float.{nan}
use Rattle.layout.specs.Layout.{place, tabulate}
use Rattle.rust.specs.Scaffolding.{diffs, passed}
use Rattle.rust.specs.declared.AxisLocation.{AxisLocation}
use Rattle.rust.specs.declared.AxisLocation.TheVariants.{Exact, Between}
use Rattle.blend.specs.Blend.{blended}

-- ---- corners

-- the index list of a corner, by its number: the node of an exact axis, the lower or the upper node of any other
abbrev pub corner_at : List AxisLocation → ℕ → List ℕ
corner_at [] mask = []
corner_at (Exact node ∷ ps) mask = node ∷ corner_at ps mask
corner_at (Between lower frac ∷ ps) mask = (lower + mask / 2 ^ length (diffs ps) % 2) ∷ corner_at ps mask

-- the flat place of the corner with a number
abbrev pub corner_place : List ℕ → List AxisLocation → ℕ → ℕ
corner_place counts ps mask = place counts (corner_at ps mask)

-- how many corners there are with one axis more: twice as many where it is blended. 16 places are the most, so that it takes any count
abbrev pub more_corners : AxisLocation → ℕ → ℕ
more_corners (Exact node) count = count
more_corners (Between lower frac) count = min (count + count) 16

-- ---- the fold

-- one pass of the butterfly in place: the first `half` blended with the next, the rest as it was
abbrev pub passed_over : Float → ℕ → List Float → List Float
passed_over f half vals = passed f half vals ++ drop half vals

-- the corners after one axis: an exact axis has fixed them already
abbrev pub merged : AxisLocation → ℕ → List Float → List Float
merged (Exact node) half vals = vals
merged (Between lower frac) half vals = passed_over frac half vals

-- how many corners are in use after an axis
abbrev pub half_of : AxisLocation → ℕ → ℕ
half_of (Exact node) count = count
half_of (Between lower frac) count = count / 2

-- how many there are before an axis that leaves so many
abbrev pub grown : AxisLocation → ℕ → ℕ
grown (Exact node) count = count
grown (Between lower frac) count = count + count

-- ---- runs of values

-- two runs of values blended, place by place
unfoldable pub blends : Float → List Float → List Float → List Float
blends f low high = tabulate (min (length low) (length high)) (λ i. blended (get_or low i nan) (get_or high i nan) f)

-- as many of the blends as there is room for, and the output's rest as it was
unfoldable pub blended_into : Float → List Float → List Float → List Float → List Float
blended_into f low high out =
    let count = min (min (length low) (length high)) (length out) in
    tabulate count (λ i. blended (get_or low i nan) (get_or high i nan) f) ++ drop count out
