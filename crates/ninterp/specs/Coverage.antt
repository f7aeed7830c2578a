-- C-11: "per axis and cell .. the accepted readings, and a count per refusal number", "worked from the records themselves": there is no tally in it.
use Rattle.std.specs.Prelude.{Bool, ◌&&◌, List, [], ◌∷◌, ℕ, zero, suc, ◌*◌, eqb, ltb, length, take, drop, get_or, Float}
use Rattle.std.specs.Float.{nan}
use Rattle.layout.specs.Layout.{axis_of}
use Rattle.layout.specs.declared.Shape.{Shape}
use Rattle.checks.specs.Numbers.{most_records}
use Rattle.axis.specs.Cells.{lower_index}
use Rattle.tally.specs.Counts.{how_many}
use Rattle.ninterp.specs.Records.{record_size, record_readings, record_answer}

-- "a recorded file of lookup records": each of so many bytes, a short last one too; at most m of them
unfoldable pub records_in : ℕ → ℕ → List ℕ → List (List ℕ)
records_in size zero input = []
records_in size (suc m) [] = []
records_in size (suc m) (b ∷ bs) = take size (b ∷ bs) ∷ records_in size m (drop size (b ∷ bs))

-- "(by `locate_lower_index`)": the cell of a record's reading on axis a
unfoldable pub record_cell : Shape → List Float → ℕ → List ℕ → ℕ
record_cell s nodes a rec = lower_index (axis_of s nodes a) (get_or (record_readings s rec) a nan)

-- "Only records answered 0 count in cells": whether a record counts in cell i of axis a, which is one of the table's
unfoldable pub fell_in : Shape → List Float → List Float → ℕ → ℕ → List ℕ → Bool
fell_in s nodes values a i rec = eqb (record_answer s nodes values rec).number 0 && (ltb a s.axes && eqb (record_cell s nodes a rec) i)

-- whether a record counts under the refusal number k, which is not 0
unfoldable pub refused_by : Shape → List Float → List Float → ℕ → List ℕ → Bool
refused_by s nodes values k rec = eqb (record_answer s nodes values rec).number k

-- "the report covers the first 1,000,000"
abbrev pub records_read : Shape → List ℕ → List (List ℕ)
records_read s input = records_in (record_size s) most_records input

-- "each count equals the number of such records in the file"
unfoldable pub cell_total : Shape → List Float → List Float → List ℕ → ℕ → ℕ → ℕ
cell_total s nodes values input a i = how_many (fell_in s nodes values a i) (records_read s input)

unfoldable pub number_total : Shape → List Float → List Float → List ℕ → ℕ → ℕ
number_total s nodes values input k = how_many (refused_by s nodes values k) (records_read s input)

-- "at any byte after record 1,000,000"
unfoldable pub goes_past : Shape → List ℕ → Bool
goes_past s input = ltb (most_records * record_size s) (length input)
