-- Bytes put into a buffer.
use Rattle.std.specs.Prelude.{Bool, cond, List, ◌++◌, ℕ, ◌+◌, leb, length, take, drop}
use Rattle.answer.specs.declared.Answer.{Answer}
use Rattle.lines.specs.Line.{line_of, longest}

-- the buffer d with xs at a place, the rest as it was
unfoldable pub put : List ℕ → ℕ → List ℕ → List ℕ
put d at xs = take at d ++ (xs ++ drop (at + length xs) d)

-- whether the buffer has n bytes at a place
unfoldable pub room_for : ℕ → List ℕ → ℕ → Bool
room_for n d at = leb (at + n) (length d)

-- an answer's line at a place where a longest one has room; where it has none, the buffer as it was
unfoldable pub line_into : Answer → List ℕ → ℕ → List ℕ
line_into a d at = cond (room_for longest d at) (put d at (line_of a)) d

-- the place past that line, or the place itself where nothing was written
unfoldable pub line_end : Answer → List ℕ → ℕ → ℕ
line_end a d at = cond (room_for longest d at) (at + length (line_of a)) at

-- xs at a place where all of it has room; where it has none, the buffer as it was
unfoldable pub all_into : List ℕ → List ℕ → ℕ → List ℕ
all_into xs d at = cond (room_for (length xs) d at) (put d at xs) d
