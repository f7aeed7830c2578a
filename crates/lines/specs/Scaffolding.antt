-- Not for the reader of the promises: what the functions below the calls ask for and give one another.
-- The checker holds the code to it, and no promise cites it.
use Rattle.std.specs.Prelude.{◌≡◌, List, [], ◌∷◌, ◌++◌, ℕ, ◌+◌, ◌≤◌, length, take}
use Rattle.lines.specs.Digit.{decimal}
use Rattle.lines.specs.Put.{put}
use Rattle.lines.specs.Stream.{Rule, lines_of}

-- a block was read into the buffer b after the bytes that are held, which left it as c, with r bytes
pub record Filled (held : ℕ) (b c : List ℕ) (r : ℕ) : Type 0 where
  pub block : List ℕ
  pub bytes : take r c ≡ take held b ++ block
  pub within : r ≤ length c

-- xs was put at a place into the buffer d, which left it as e, and r is the place past it
pub record Wrote (d : List ℕ) (at : ℕ) (xs e : List ℕ) (r : ℕ) : Type 0 where
  pub bytes : e ≡ put d at xs
  pub next : r ≡ at + length xs

-- further numbers in decimal, each after a blank
unfoldable pub fields : List ℕ → List ℕ
fields [] = []
fields (n ∷ ns) = (32 ∷ decimal n) ++ fields ns

-- a line of a word, such as a head and its first number, and further numbers
unfoldable pub fields_line : List ℕ → List ℕ → List ℕ
fields_line word ns = word ++ fields ns ++ (10 ∷ [])

-- Of the bytes `held`, with `most` records to come, xs is printed and `rest` is left, with `left` records to come. Whatever
-- bytes come next, xs and then what is printed of the rest and them is what is printed of them all.
pub record Turned (p : Rule) (most : ℕ) (held xs : List ℕ) (left : ℕ) (rest : List ℕ) : Type 0 where
  pub right : (more : List ℕ) → lines_of p most (held ++ more) ≡ xs ++ lines_of p left (rest ++ more)
