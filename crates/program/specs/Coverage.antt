-- C-11: "a coverage report over a recorded file of lookup records".
use Rattle.std.specs.Prelude.{Bool, not, List, ℕ, eqb, Float}
use Rattle.layout.specs.Shape.{counts_of}
use Rattle.layout.specs.declared.Shape.{Shape}
use Rattle.lines.specs.Report.{report_of, tally_report}
use Rattle.image.specs.Fields.{shape_of}
use Rattle.image.specs.Image.{nodes_in, values_in}
use Rattle.tally.specs.declared.Tally.{Tally}
use Rattle.ninterp.specs.Coverage.{cell_total, number_total, goes_past}
use Rattle.ninterp.specs.Counting.{counted_rest}
use Rattle.program.specs.Run.{run_by}

-- "prints `cell` axis, index, count for every cell, then `no` number, count for each number met, ascending"; "the report covers the first
-- 1,000,000, then prints `no 17 0 0`"
unfoldable pub coverage_report : Shape → List Float → List Float → List ℕ → List ℕ
coverage_report s nodes values records =
    report_of (counts_of s) (cell_total s nodes values records) (number_total s nodes values records) (goes_past s records)

-- of the records that follow an image
abbrev pub report_by : List ℕ → List ℕ → List ℕ
report_by img records = coverage_report (shape_of img) (nodes_in img) (values_in img) records

-- "It reads what `lookup` reads; a refused image prints its usual line."
abbrev pub coverage_of : List ℕ → List ℕ
coverage_of input = run_by report_by input

-- ---- the report of a tally: `report_counted` says that it is the report of the records that were counted

unfoldable pub report_on : Shape → Tally → Bool → List ℕ
report_on s t past = tally_report s.axes s.counts t.cells t.numbers past

-- at the input's end: what is left is counted, and where that is refused the input went past the limit
unfoldable pub last_report : Tally → Shape → List Float → List Float → List ℕ → List ℕ
last_report t s nodes values rest =
    report_on s (counted_rest t s nodes values rest).tally (not (eqb (counted_rest t s nodes values rest).answer.number 0))
