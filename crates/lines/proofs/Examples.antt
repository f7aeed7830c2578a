-- Lines by computation.
use mathlib.Core.Path.{◌≡◌, refl}
use mathlib.Core.Bool.{false, cond}
use mathlib.Core.List.{[], ◌∷◌}
use lib.Dec.{eqb}
use lib.Ieee.{binary64, of_bits, to_bits}
use lib.ListN.{length}
use Rattle.answer.specs.Faults.{refusal}
use Rattle.answer.specs.Answer.{refused, answered}
use Rattle.lines.specs.Digit.{glyph_of, digits, places, decimal}
use Rattle.lines.specs.Line.{ok_line, no_line, line_of, longest}
use Rattle.lines.specs.Report.{cell_line, number_line, joined, report_of}

-- `ok 4029000000000000`, of 12.5
pub ok_line_lem : line_of (answered (of_bits binary64 0x4029_0000_0000_0000))
    ≡ 111 ∷ 107 ∷ 32 ∷ 52 ∷ 48 ∷ 50 ∷ 57 ∷ 48 ∷ 48 ∷ 48 ∷ 48 ∷ 48 ∷ 48 ∷ 48 ∷ 48 ∷ 48 ∷ 48 ∷ 48 ∷ 48 ∷ 10 ∷ []
unfolding line_of answered ok_line digits glyph_of of_bits to_bits
ok_line_lem = refl

-- `no 11 0 1`
pub no_line_lem : line_of (refused (refusal 11 0 1)) ≡ 110 ∷ 111 ∷ 32 ∷ 49 ∷ 49 ∷ 32 ∷ 48 ∷ 32 ∷ 49 ∷ 10 ∷ []
unfolding line_of refused refusal no_line decimal places digits glyph_of
no_line_lem = refl

-- a longest line is as long as is said
pub longest-line : length (line_of (refused (refusal 4294967295 18446744073709551615 18446744073709551615))) ≡ longest
unfolding line_of refused refusal no_line decimal places digits glyph_of
longest-line = refl

-- `cell 0 0 2` and `no 11 1`, of one axis of two nodes, two records in its cell and one refused by 11
pub report : report_of (2 ∷ []) (λ a i. 2) (λ k. cond (eqb k 11) 1 0) false
    ≡ 99 ∷ 101 ∷ 108 ∷ 108 ∷ 32 ∷ 48 ∷ 32 ∷ 48 ∷ 32 ∷ 50 ∷ 10 ∷ 110 ∷ 111 ∷ 32 ∷ 49 ∷ 49 ∷ 32 ∷ 49 ∷ 10 ∷ []
unfolding report_of joined cell_line number_line decimal places digits glyph_of
report = refl
