-- "The program and one whole run": what the program prints of its input; and the same as a call, which puts it into an output.
use Rattle.std.specs.Prelude.{◌≡◌, cond, List, ℕ, length, drop}
use Rattle.answer.specs.Faults.{Fault, good, given, filled_into}
use Rattle.answer.specs.Answer.{refused, fine, ◌then◌}
use Rattle.checks.specs.Numbers.{most_records, room_fault}
use Rattle.lines.specs.Line.{line_of}
use Rattle.lines.specs.Stream.{Rule, lines_of}
use Rattle.program.specs.Input.{image_size, image_in}
use Rattle.program.specs.declared.run.RunAnswer.{RunAnswer}
use Rattle.image.specs.Image.{nodes_in, values_in}
use Rattle.image.specs.Fields.{shape_of}
use Rattle.image.specs.Load.{load_fault}
use Rattle.ninterp.specs.Records.{record_rule}

-- what is printed of the records that follow an image
abbrev pub rule_of : List ℕ → Rule
rule_of img = record_rule (shape_of img) (nodes_in img) (values_in img)

-- "A refused image prints one line and ends"; else a program prints a text of the image and of the records that follow it
unfoldable pub run_by : (List ℕ → List ℕ → List ℕ) → List ℕ → List ℕ
run_by text input =
    cond (good (load_fault (image_in input) 256 4096))
    (text (image_in input) (drop (image_size input) input))
    (line_of (refused (load_fault (image_in input) 256 4096)))

-- "then records until input ends"; "Of a longer input it answers the first 1,000,000 records and ends."
abbrev pub lines_by : List ℕ → List ℕ → List ℕ
lines_by img records = lines_of (rule_of img) most_records records

abbrev pub run_of : List ℕ → List ℕ
run_of input = run_by lines_by input

-- ---- a call that puts a text into an output

-- 15, "an output buffer too short": the one check of a text; place 2, an output of bytes as the image's is
unfoldable pub text_fault : List ℕ → ℕ → Fault
text_fault text room = room_fault 2 (length text) room

-- the answer with how many bytes were written, 0 on a refusal
unfoldable pub text_answer : List ℕ → ℕ → RunAnswer
text_answer text room = record { answer = text_fault text room then fine; written = given (text_fault text room) (length text) 0 }

-- what such a call leaves: its answer, and the output, filled from its front or untouched
pub record Texted (text out out' : List ℕ) (r : RunAnswer) : Type 0 where
  pub answer : r ≡ text_answer text (length out)
  pub text_out : out' ≡ filled_into (text_fault text (length out)) text out

-- of one whole run: 15 exactly where what is printed of the input has no room
abbrev pub run_fault : List ℕ → ℕ → Fault
run_fault input room = text_fault (run_of input) room

abbrev pub run_answer : List ℕ → ℕ → RunAnswer
run_answer input room = text_answer (run_of input) room
