-- "The program and one whole run": what a run of `lookup` owes to the bytes that it counts.
use Rattle.std.specs.Prelude.{List, ℕ, ◌*◌, Result}
use Rattle.checks.specs.Numbers.{most_records}
use Rattle.program.specs.Run.{rule_of, lines_by}
use Rattle.program.specs.Whole.{Ran}
use Rattle.program.specs.declared.Counts.{Counts}
use Rattle.program.specs.declared.print.Unprinted.{Unprinted}

-- how many bytes after an image are enough
abbrev pub lines_enough : List ℕ → ℕ
lines_enough img = most_records * (rule_of img).size

-- it prints a line for each record; "Of a longer input it answers the first 1,000,000 records and ends"
abbrev pub Whole : List ℕ → Counts → Result (Unit {0}) Unprinted → Type 0
Whole img n r = Ran lines_by (lines_enough img) img n r
