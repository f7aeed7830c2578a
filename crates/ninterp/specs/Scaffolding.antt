-- Not for the reader of the promises: what the functions below the calls ask for and give one another.
-- The checker holds the code to it, and no promise cites it.
use Rattle.std.specs.Prelude.{◌≡◌, true, cond, List, [], ◌∷◌, ℕ, ◌+◌, ◌-◌, ◌*◌, ◌^◌, ◌≤◌, ◌<◌, eqb, ltb, length, get_or, take, drop, Float, Result, ⊤}
use Rattle.std.specs.Float.{nan}
use Rattle.std.specs.Float.Ieee.Scale.{finite}
use Rattle.answer.specs.Faults.{Fault, ◌or◌, when}
use Rattle.answer.specs.Rows.{said}
use Rattle.answer.specs.Answer.{answered}
use Rattle.answer.specs.declared.Refusal.{Refusal}
use Rattle.answer.specs.declared.Answer.{Answer}
use Rattle.layout.specs.Shape.{counts_of, size, total}
use Rattle.layout.specs.Layout.{axes_of, place}
use Rattle.layout.specs.declared.Shape.{Shape}
use Rattle.rust.specs.Scaffolding.{diffs}
use Rattle.rust.specs.declared.AxisLocation.{AxisLocation}
use Rattle.rust.specs.declared.AxisLocation.TheVariants.{Exact}
use Rattle.checks.specs.Scaffolding.{Grid}
use Rattle.checks.specs.Shapes.{frame_fault}
use Rattle.checks.specs.Numbers.{axes_fault, values_fault, unknown_kind_fault, axes_uniform_fault}
use Rattle.axis.specs.declared.picks.Pick.{Pick}
use Rattle.axis.specs.Scaffolding.{upper_of, code_of, pick_index, location_by}
use Rattle.axis.specs.Locations.{location_index}
use Rattle.blend.specs.Scaffolding.{corner_place}
use Rattle.blend.specs.Blend.{computed}
use Rattle.ninterp.specs.Linears.{locations, interpolated}
use Rattle.ninterp.specs.Tables.{indices, picked}

-- a table with as many nodes as its counts say, which are there for each axis
pub record FlatTable (s : Shape) (nodes : List Float) : Type 0 where
  pub four : s.axes ≤ 4
  pub long : s.axes ≤ length s.counts
  pub flat : length nodes ≡ total (counts_of s)

-- ---- locations and picks

-- a table, and a finite reading for each of its axes
pub record ReadableTable (s : Shape) (nodes readings : List Float) : Type 0 where
  pub grid : Grid (counts_of s) nodes
  pub four : s.axes ≤ 4
  pub long : s.axes ≤ length s.counts
  pub read : length readings ≡ s.axes
  pub finites : (a : ℕ) → a < s.axes → finite (get_or readings a nan) ≡ true

-- what follows of a table and a reading passing the checks before a lookup (`lookup_judged_lem`)
pub record LookupJudged (s : Shape) (nodes values readings : List Float) : Type 0 where
  pub readable : ReadableTable s nodes readings
  pub some : 1 ≤ s.axes
  pub stored : length values ≡ size (counts_of s)

-- each location lies on its axis
abbrev pub AllWithin : List AxisLocation → List ℕ → Type 0
AllWithin [] [] = Unit
AllWithin [] (n ∷ ns) = ⊥
AllWithin (p ∷ ps) [] = ⊥
AllWithin (p ∷ ps) (n ∷ ns) = (upper_of p < n) × AllWithin ps ns

-- the location of each reading on its axis
pub record Located (rule : List Float → Float → AxisLocation) (s : Shape) (nodes readings : List Float) (r : List AxisLocation) : Type 0 where
  pub long : s.axes ≤ length r
  pub same : take s.axes r ≡ locations rule (axes_of (counts_of s) nodes) readings
  pub within : AllWithin (take s.axes r) (counts_of s)

-- the rule of each axis, by its pick
abbrev pub pick_by : (ℕ → Pick) → ℕ → List Float → Float → ℕ
pick_by picks a nodes p = pick_index (code_of (picks a)) nodes p

-- the flat place that is picked, by what a closure gave for each axis
pub record PickedAt (post : ℕ → Pick → Type 0) (s : Shape) (nodes readings : List Float) (r : ℕ) : Type 0 where
  pub picks : ℕ → Pick
  pub told : (a : ℕ) → a < s.axes → post a (picks a)
  pub same : r ≡ place (counts_of s) (indices (pick_by picks) (axes_of (counts_of s) nodes) readings)
  pub below : r < size (counts_of s)

-- the value that is stored there
pub record Stored (post : ℕ → Pick → Type 0) (s : Shape) (nodes values readings : List Float) (r : Answer) : Type 0 where
  pub picks : ℕ → Pick
  pub told : (a : ℕ) → a < s.axes → post a (picks a)
  pub same : r ≡ answered (picked (pick_by picks) (counts_of s) nodes values readings)

-- ---- the corners of a reading

-- the first n counts, and locations that lie on their axes
pub record Placeable (counts : List ℕ) (locations : List AxisLocation) (n : ℕ) : Type 0 where
  pub some : 1 ≤ n
  pub few : n ≤ 4
  pub long_counts : n ≤ length counts
  pub long_locations : n ≤ length locations
  pub small : size (take n counts) ≤ 4096
  pub within : AllWithin (take n locations) (take n counts)

-- the same of a table's axes, and its values
pub record Cornered (s : Shape) (values : List Float) (locations : List AxisLocation) : Type 0 where
  pub placeable : Placeable s.counts locations s.axes
  pub stored : length values ≡ size (counts_of s)

-- sixteen places, the first of them 0
pub record Blank (places : List ℕ) : Type 0 where
  pub sixteen : length places ≡ 16
  pub zero_first : get_or places 0 0 ≡ 0

-- the flat place of each corner of the axes after the first, and what the lower and the upper node of the first add to it
pub record Placed (counts : List ℕ) (locations : List AxisLocation) (n : ℕ) (places : List ℕ) (count low high : ℕ) : Type 0 where
  pub corners : count ≡ 2 ^ length (diffs (drop 1 (take n locations)))
  pub lower : low ≡ location_index (get_or locations 0 (Exact 0)) * size (drop 1 (take n counts))
  pub upper : high ≡ upper_of (get_or locations 0 (Exact 0)) * size (drop 1 (take n counts))
  pub each : (i : ℕ) → i < 2 ^ length (diffs (drop 1 (take n locations))) → get_or places i 0 ≡ corner_place (drop 1 (take n counts)) (drop 1 (take n locations)) i

-- so many places with room for as many more, and what is added to them
pub record Spreadable (places : List ℕ) (count low high : ℕ) : Type 0 where
  pub room : count + count ≤ length places
  pub low_few : low ≤ 4096
  pub high_few : high ≤ 4096
  pub small : (i : ℕ) → i < count → get_or places i 0 ≤ 4096

-- the places with one axis more: as many under its lower node, then as many under its upper one
pub record Spread (before after : List ℕ) (count low high : ℕ) : Type 0 where
  pub both : (i : ℕ) → i < count → (get_or after i 0 ≡ get_or before i 0 + low) × (get_or after (i + count) 0 ≡ get_or before i 0 + high)

-- places whose values are there under either node
pub record Gatherable (values : List Float) (places : List ℕ) (low high : ℕ) : Type 0 where
  pub few : length places ≤ 8
  pub inside : (i : ℕ) → i < length places → (get_or places i 0 + low < length values) × (get_or places i 0 + high < length values)

-- the values under either node
pub record Gathered (values : List Float) (places : List ℕ) (low high : ℕ) (r : List Float) : Type 0 where
  pub both : (i : ℕ) → i < length places
      → (get_or r i nan ≡ get_or values (get_or places i 0 + low) nan) × (get_or r (i + length places) nan ≡ get_or values (get_or places i 0 + high) nan)

-- ---- a record's answer in the order in which the code finds it, with the table judged once for many records: `kind_order` says that it is the same

-- 1 to 7, the same for every record
abbrev pub table_fault : Shape → List Float → List Float → Fault
table_fault s nodes values = frame_fault s (length nodes) (length values) or axes_fault (counts_of s) nodes or values_fault values

-- what the table has; then 9 of an unknown kind, and 8 for LinearUniform
abbrev pub kind_fault : ℕ → Fault → Fault → Fault
kind_fault kind table uniform = table or unknown_kind_fault kind or when (eqb kind 1) uniform

-- the pick of Nearest, and of Step with one direction
abbrev pub pick_of : ℕ → ℕ
pick_of kind = cond (eqb kind 2) 2 (kind - 3)

abbrev pub four_of : ℕ → List ℕ
four_of x = x ∷ x ∷ x ∷ x ∷ []

-- what is left where nothing was refused before 12
unfoldable pub kind_found : ℕ → Shape → List Float → List Float → List Float → Answer
kind_found kind s nodes values readings =
    cond (ltb kind 2) (computed (interpolated (location_by (eqb kind 1)) (counts_of s) nodes values readings))
    (answered (picked (λ a. pick_index (pick_of kind)) (counts_of s) nodes values readings))

-- what 1 to 7 and what 8 gave of a table
pub record Known (s : Shape) (nodes values : List Float) (table uniform : Result ⊤ Refusal) : Type 0 where
  pub judged : said table ≡ table_fault s nodes values
  pub spaced : said uniform ≡ axes_uniform_fault (counts_of s) nodes
