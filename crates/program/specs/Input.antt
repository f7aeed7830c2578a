-- "The program and one whole run": what the program does with the bytes of its input, of whatever table.
use Rattle.std.specs.Prelude.{Bool, false, ◌&&◌, ◌||◌, cond, List, ℕ, leb, eqb, take}
use Rattle.answer.specs.Faults.{refusal}
use Rattle.answer.specs.Answer.{refused}
use Rattle.little_endian.specs.Words.{word_at}
use Rattle.lines.specs.Put.{line_into, line_end}

-- "It reads 40 bytes, then up to the stated length where that is 40 to 36,864"
unfoldable pub image_size : List ℕ → ℕ
image_size input = cond (leb 40 (word_at 4 input 4) && leb (word_at 4 input 4) 36864) (word_at 4 input 4) 40

-- "and loads what it has"
abbrev pub image_in : List ℕ → List ℕ
image_in input = take (image_size input) input

-- whether the program reads on: its output stands, records may still come, and the buffer was filled or holds a whole record still
unfoldable pub goes_on : Bool → Bool → ℕ → Bool → Bool
goes_on ok full left whole = cond ok (cond (eqb left 0) false (full || whole)) false

-- "A short last record prints `no 3 0 2` and nothing more.": no bytes are no record, and once the last record of the limit is answered nothing is printed
unfoldable pub nothing_more : ℕ → ℕ → Bool
nothing_more rest left = eqb left 0 || eqb rest 0

unfoldable pub end_into : ℕ → ℕ → List ℕ → List ℕ
end_into rest left out = cond (nothing_more rest left) out (line_into (refused (refusal 3 0 2)) out 0)

unfoldable pub end_size : ℕ → ℕ → List ℕ → ℕ
end_size rest left out = cond (nothing_more rest left) 0 (line_end (refused (refusal 3 0 2)) out 0)
