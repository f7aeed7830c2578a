-- Not for the reader of the promises: what the functions below the calls ask for and give one another.
-- The checker holds the code to it, and no promise cites it.
use Rattle.std.specs.Prelude.{◌≡◌, cond, List, [], ◌++◌, ℕ, ◌≤◌, eqb, Float, length, take, drop}
use Rattle.answer.specs.Faults.{refusal, given}
use Rattle.answer.specs.Answer.{refused, fine, ◌then◌}
use Rattle.answer.specs.declared.Answer.{Answer}
use Rattle.lines.specs.Line.{line_of}
use Rattle.lines.specs.Put.{put, room_for, all_into}
use Rattle.image.specs.Load.{load_fault}
use Rattle.program.specs.Input.{image_size, image_in, nothing_more}
use Rattle.program.specs.Whole.{TableOf}
use Rattle.program.specs.declared.front.Front.{Front}
use Rattle.program.specs.declared.run.RunAnswer.{RunAnswer}
use Rattle.checks.specs.Numbers.{room_fault}

-- The image at the front of an input was loaded into outputs that were left so. It is refused, or its table stands at their fronts, and
-- what follows it are the records.
pub record Loads (input : List ℕ) (nodes values : List Float) (f : Front) : Type 0 where
  pub image_is : take f.size input ≡ image_in input
  pub rest_is : drop f.size input ≡ drop (image_size input) input
  pub told : f.answer ≡ (load_fault (image_in input) 256 4096 then fine)
  pub table : f.answer.number ≡ 0 → TableOf (image_in input) f.shape (take f.nodes nodes) (take f.values values)

-- xs was put at a place of the output d, where all of it has room, which left it as e; r is the length of xs, put or not
pub record Placed (xs d : List ℕ) (at : ℕ) (e : List ℕ) (r : ℕ) : Type 0 where
  pub long : r ≡ length xs
  pub bytes : e ≡ all_into xs d at

-- the output d was left as e, with xs at its front where all of it has room; r is the length of xs
pub record Fronted (xs d e : List ℕ) (r : ℕ) : Type 0 where
  pub long : r ≡ length xs
  pub bytes : length xs ≤ length d → e ≡ put d 0 xs

-- what is said at the end of the records, where so many bytes are left and so many records may still come
unfoldable pub end_of : ℕ → ℕ → List ℕ
end_of rest left = cond (nothing_more rest left) [] (line_of (refused (refusal 3 0 2)))

-- what is answered of a text of so many bytes, for which there is so much room
unfoldable pub room_answer : ℕ → ℕ → RunAnswer
room_answer need room = record { answer = room_fault 2 need room then fine; written = given (room_fault 2 need room) need 0 }

-- the line of a load that was refused, else the text of the records that follow
unfoldable pub text_of : Answer → List ℕ → List ℕ
text_of a text = cond (eqb a.number 0) text (line_of a)

-- the n bytes at a place moved to the front, the rest as it was; where they are not all there, the buffer as it was
unfoldable pub shifted : List ℕ → ℕ → ℕ → List ℕ
shifted d from n = cond (room_for n d from) (take n (drop from d) ++ drop n d) d
