-- A coverage report: each cell of each axis with its count, each number met with its count, and what is said of an input past the limit.
use Rattle.std.specs.Prelude.{Bool, cond, List, [], ◌∷◌, ◌++◌, map, ℕ, zero, suc, ◌+◌, ◌-◌, ◌*◌, min, eqb, length, take, get_or}
use Rattle.answer.specs.Faults.{refusal}
use Rattle.answer.specs.Answer.{refused}
use Rattle.lines.specs.Digit.{decimal}
use Rattle.lines.specs.Line.{line_of}
use Rattle.lines.specs.Put.{put, room_for}

-- "`cell` axis, index, count", in decimal, with a blank between two
unfoldable pub cell_line : ℕ → ℕ → ℕ → List ℕ
cell_line axis index count =
    (99 ∷ 101 ∷ 108 ∷ 108 ∷ 32 ∷ []) ++ decimal axis ++ (32 ∷ []) ++ decimal index ++ (32 ∷ []) ++ decimal count ++ (10 ∷ [])

-- "`no` number, count for each number met": nothing of a number that was not met
unfoldable pub number_line : ℕ → ℕ → List ℕ
number_line number count = cond (eqb count 0) [] ((110 ∷ 111 ∷ 32 ∷ []) ++ decimal number ++ (32 ∷ []) ++ decimal count ++ (10 ∷ []))

-- f 0 ++ .. ++ f (n - 1)
unfoldable pub joined : ℕ → (ℕ → List ℕ) → List ℕ
joined zero f = []
joined (suc n) f = joined n f ++ f n

-- "for every cell": an axis of n nodes has n - 1 of them; axes and cells ascending
abbrev pub cell_lines : List ℕ → (ℕ → ℕ → ℕ) → List ℕ
cell_lines counts cell = joined (length counts) (λ a. joined (get_or counts a 0 - 1) (λ i. cell_line a i (cell a i)))

-- "for each number met, ascending": of the numbers that a tally has a place for, 1 to 20
abbrev pub number_lines : (ℕ → ℕ) → List ℕ
number_lines number = joined 20 (λ k. number_line (suc k) (number (suc k)))

-- of the counts of nodes, the count of cell i of axis a, the count of number k, and whether the input went past the limit:
-- "the report covers the first 1,000,000, then prints `no 17 0 0`"
unfoldable pub report_of : List ℕ → (ℕ → ℕ → ℕ) → (ℕ → ℕ) → Bool → List ℕ
report_of counts cell number past = cell_lines counts cell ++ number_lines number ++ cond past (line_of (refused (refusal 17 0 0))) []

-- ---- the report of a tally, put into a buffer

-- counts of nodes, one above 64 read as 64: a table has no axis of more
unfoldable pub held : List ℕ → List ℕ
held counts = map (min 64) counts

-- the count of cell i of axis a, among those of four axes of 63 cells
abbrev pub cell_at : List ℕ → ℕ → ℕ → ℕ
cell_at cells a i = get_or cells (a * 63 + i) 0

unfoldable pub tally_report : ℕ → List ℕ → List ℕ → List ℕ → Bool → List ℕ
tally_report axes counts cells numbers past = report_of (held (take axes counts)) (cell_at cells) (λ k. get_or numbers k 0) past

-- no report of a tally has more bytes
abbrev pub report_most : ℕ
report_most = 8192

-- a report at the front of a buffer of at least so many bytes; a shorter one is as it was
unfoldable pub report_into : List ℕ → List ℕ → List ℕ
report_into report d = cond (room_for report_most d 0) (put d 0 report) d

-- how many bytes were written
unfoldable pub report_end : List ℕ → List ℕ → ℕ
report_end report d = cond (room_for report_most d 0) (length report) 0
