-- What writing answers and writes, for every input.
use Rattle.std.specs.Prelude.{◌≡◌, List, ℕ, length, Float}
use Rattle.answer.specs.Faults.{Fault, ◌or◌, given, filled_into}
use Rattle.answer.specs.Answer.{fine, ◌then◌}
use Rattle.layout.specs.Shape.{counts_of}
use Rattle.layout.specs.Layout.{tabulate}
use Rattle.checks.specs.Shapes.{frame_fault}
use Rattle.checks.specs.Numbers.{axes_fault, values_fault, room_fault}
use Rattle.layout.specs.declared.Shape.{Shape}
use Rattle.writer.specs.Made.{image_length, count_in, image_of}
use Rattle.writer.specs.declared.WriteAnswer.{WriteAnswer}

-- "it checks 1 to 7, then 15": "place .. 2 image"
unfoldable pub write_fault : Shape → List Float → List Float → ℕ → Fault
write_fault s nodes values room =
    frame_fault s (length nodes) (length values)
    or axes_fault (counts_of s) nodes
    or values_fault values
    or room_fault 2 (image_length s) room

-- the answer with the image's length, 0 on a refusal
unfoldable pub write_answer : Shape → List Float → List Float → ℕ → WriteAnswer
write_answer s nodes values room =
    record { answer = write_fault s nodes values room then fine; length = given (write_fault s nodes values room) (image_length s) 0 }

-- what writing leaves: its answer, and the output, filled from its front or untouched
pub record Written (s : Shape) (nodes values : List Float) (img img' : List ℕ) (r : WriteAnswer) : Type 0 where
  pub answer : r ≡ write_answer s nodes values (length img)
  pub image_out : img' ≡ filled_into (write_fault s nodes values (length img)) (image_of s nodes values) img

-- the shape as an image has it: "counts past its axes are not looked at", and "Unused counts .. are zero"
unfoldable pub plain : Shape → Shape
plain s = record { axes = s.axes; counts = tabulate 4 (count_in s) }
