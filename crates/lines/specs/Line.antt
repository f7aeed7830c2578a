-- An answer's line: "Each line begins with `ok ` or `no ` and ends in a line feed", in ASCII.
use Rattle.std.specs.Prelude.{cond, List, [], ◌∷◌, ◌++◌, ℕ, Float, eqb}
use Rattle.std.specs.Float.{binary64}
use Rattle.std.specs.Float.Ieee.{to_bits}
use Rattle.answer.specs.declared.Answer.{Answer}
use Rattle.lines.specs.Digit.{digits, decimal}

-- "`ok` and 16 lower-case hex digits of the value's bits"
unfoldable pub ok_line : Float → List ℕ
ok_line value = (111 ∷ 107 ∷ 32 ∷ []) ++ digits 16 16 (to_bits binary64 value) ++ (10 ∷ [])

-- "or `no` and number, axis, place in decimal", with a blank between two
unfoldable pub no_line : ℕ → ℕ → ℕ → List ℕ
no_line number axis place = (110 ∷ 111 ∷ 32 ∷ []) ++ decimal number ++ (32 ∷ []) ++ decimal axis ++ (32 ∷ []) ++ decimal place ++ (10 ∷ [])

unfoldable pub line_of : Answer → List ℕ
line_of a = cond (eqb a.number 0) (ok_line a.value) (no_line a.number a.axis a.place)

-- the length of a longest line: of a number of 32 bits, and an axis and a place of 64
abbrev pub longest : ℕ
longest = 56
