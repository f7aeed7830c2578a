-- C-11: what a run of `coverage` owes to the bytes that it counts.
use Rattle.std.specs.Prelude.{◌≡◌, List, ◌++◌, ℕ, ◌+◌, ◌*◌, length, Result}
use Rattle.image.specs.Fields.{shape_of}
use Rattle.checks.specs.Numbers.{most_records}
use Rattle.ninterp.specs.Records.{record_size}
use Rattle.program.specs.Coverage.{report_by, coverage_of}
use Rattle.program.specs.Whole.{Ran}
use Rattle.program.specs.declared.Counts.{Counts}
use Rattle.program.specs.declared.print.Unprinted.{Unprinted}

-- how many bytes after an image are enough
abbrev pub report_enough : List ℕ → ℕ
report_enough img = most_records * record_size (shape_of img) + 1

-- it prints the report of the records, and reads until the input ends or "at any byte after record 1,000,000"
abbrev pub Whole : List ℕ → Counts → Result (Unit {0}) Unprinted → Type 0
Whole img n r = Ran report_by (report_enough img) img n r

-- the text is the report of the image and of some records, of as many bytes as were read
pub record Reported (img : List ℕ) (read : ℕ) (text : List ℕ) : Type 0 where
  pub records : List ℕ
  pub all_read : length records ≡ read
  pub right : text ≡ coverage_of (img ++ records)
