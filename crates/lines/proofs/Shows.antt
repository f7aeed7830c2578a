-- The laws of an answer's line.
use mathlib.Core.Path.{◌≡◌}
use mathlib.Core.Bool.{Bool, true, false, cond}
use mathlib.Core.List.{List}
use Prim.Native.Nat.{ℕ, ◌+◌, ◌^◌, ◌≤◌, ◌<◌}
use native.Mathlib.Omega.{arith}
use lib.Dec.{eqb}
use lib.Ieee.{Float}
use lib.ListN.{length, length-append}
use borrow.Author.Tests.{le-leb}
use Rattle.answer.specs.declared.Answer.{Answer}
use Rattle.lines.specs.Digit.{decimal}
use Rattle.lines.specs.Line.{ok_line, no_line, line_of, longest}
use Rattle.lines.specs.Put.{room_for, line_into, line_end}
use Rattle.lines.specs.Scaffolding.{Wrote}
use Rattle.lines.proofs.Digits.{digits-length, decimal_most}
use Rattle.lines.proofs.Fields.{no_is}

-- ---- how long a line is

pub ok_length : (value : Float) → length (ok_line value) ≡ 20
unfolding ok_line
ok_length value = simp (length-append, digits-length)

pub no_length : (number axis place : ℕ) → length (no_line number axis place) ≡ length (decimal number) + length (decimal axis) + length (decimal place) + 6
unfolding no_line
no_length number axis place = simp length-append (omega arith)

pub no_fits : (number axis place : ℕ) → number < 2 ^ 32 → axis < 2 ^ 64 → place < 2 ^ 64 → length (no_line number axis place) ≤ longest
no_fits number axis place l m n =
    omega (arith, no_length number axis place, decimal_most 9 number (omega arith), decimal_most 19 axis (omega arith), decimal_most 19 place (omega arith))

-- every line of an answer that the code can hold has room where a longest one has
pub line_fits : (a : Answer) → a.number < 2 ^ 32 → a.axis < 2 ^ 64 → a.place < 2 ^ 64 → length (line_of a) ≤ longest
unfolding line_of
line_fits a l m n = go (eqb a.number 0)
  where
    go : (t : Bool) → length (cond t (ok_line a.value) (no_line a.number a.axis a.place)) ≤ longest
    go true = omega (arith, ok_length a.value)
    go false = no_fits a.number a.axis a.place l m n

-- ---- the line put into a buffer, for a caller that saw to the room

pub line_wrote : (a : Answer) (d : List ℕ) (at : ℕ) {e : List ℕ} {r : ℕ} → at + longest ≤ length d → r ≡ line_end a d at → e ≡ line_into a d at → Wrote d at (line_of a) e r
unfolding line_end line_into room_for
line_wrote a d at h p q = let t = le-leb (at + longest) (length d) h in record { bytes = rw t at q; next = rw t at p }

-- what the proofs of the code look for
pub ruleset shows = (ok_length, no_fits, no_is)
