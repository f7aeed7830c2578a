-- "The program and one whole run": what a record is answered, for every table and every list of bytes.
use Rattle.std.specs.Prelude.{cond, List, ℕ, ◌+◌, ◌*◌, eqb, length, get_or, Float}
use Rattle.answer.specs.Faults.{Fault, refusal, ◌or◌}
use Rattle.answer.specs.Answer.{refused, ◌then◌}
use Rattle.answer.specs.declared.Answer.{Answer}
use Rattle.little_endian.specs.Words.{float_at}
use Rattle.lines.specs.Line.{line_of, longest}
use Rattle.lines.specs.Stream.{Rule}
use Rattle.layout.specs.Shape.{counts_of}
use Rattle.layout.specs.Layout.{tabulate}
use Rattle.layout.specs.declared.Shape.{Shape}
use Rattle.checks.specs.Numbers.{length_fault, axes_fault, values_fault}
use Rattle.checks.specs.Shapes.{frame_fault}
use Rattle.ninterp.specs.Tables.{nearest_answer, step_answer}
use Rattle.ninterp.specs.Linears.{linear_answer, linear_uniform_answer}

-- "all lower", "all upper": one direction for each axis
abbrev pub all_of : Shape → ℕ → List ℕ
all_of s direction = tabulate s.axes (λ a. direction)

-- "a kind byte (0 Linear, 1 LinearUniform, 2 Nearest, 3 Step all lower, 4 Step all upper)"; 9: "(program: unknown kind)", "(program: 0, 0)"
unfoldable pub kind_answer : ℕ → Shape → List Float → List Float → List Float → Answer
kind_answer kind s nodes values readings =
    cond (eqb kind 0) (linear_answer s nodes values readings)
    (cond (eqb kind 1) (linear_uniform_answer s nodes values readings)
    (cond (eqb kind 2) (nearest_answer s nodes values readings)
    (cond (eqb kind 3) (step_answer s nodes values readings (all_of s 0))
    (cond (eqb kind 4) (step_answer s nodes values readings (all_of s 1)) (refused (refusal 9 0 0))))))

-- "a kind byte .. and one f64 per axis"
abbrev pub record_size : Shape → ℕ
record_size s = 1 + 8 * s.axes

-- "one f64 per axis"
unfoldable pub record_readings : Shape → List ℕ → List Float
record_readings s rec = tabulate s.axes (λ a. float_at rec (1 + 8 * a))

-- "Order for a lookup: 1, 2, 3; then each axis node by node ..; 7": the record's length as that of its reading, place 2
unfoldable pub record_fault : Shape → List Float → List Float → List ℕ → Fault
record_fault s nodes values rec =
    frame_fault s (length nodes) (length values)
    or length_fault 2 (record_size s) (length rec)
    or axes_fault (counts_of s) nodes
    or values_fault values

-- what a record is answered: 9 of an unknown kind, or as the lookup of its kind
unfoldable pub record_answer : Shape → List Float → List Float → List ℕ → Answer
record_answer s nodes values rec = record_fault s nodes values rec then kind_answer (get_or rec 0 0) s nodes values (record_readings s rec)

-- what the program prints of the records of a table, by the laws of lines that come of records (lines/specs/Stream.antt); of a short last record it prints
-- `no 3 0 2` (`cut`)
abbrev pub record_rule : Shape → List Float → List Float → Rule
record_rule s nodes values = record { size = record_size s; line = λ rec. line_of (record_answer s nodes values rec); cut = line_of (refused (refusal 3 0 2)); longest = longest }
