-- Lines that come of records: what is printed of an input, and of a block of it. Of any rule.
use Rattle.std.specs.Prelude.{◌≡◌, cond, List, [], ◌∷◌, ◌++◌, ℕ, zero, suc, ◌-◌, ltb, length, take, drop}
use Rattle.lines.specs.Put.{put}

-- how many bytes a record has, the line that a record's bytes give, what is said of a record that the input's end cuts short, and the length
-- of a longest line
pub record Rule : Type 0 where
  pub size : ℕ
  pub line : List ℕ → List ℕ
  pub cut : List ℕ
  pub longest : ℕ

-- the lines of the first k records of an input
unfoldable pub lines_first : Rule → ℕ → List ℕ → List ℕ
lines_first p zero input = []
lines_first p (suc k) input = p.line (take p.size input) ++ lines_first p k (drop p.size input)

-- "A short last record prints" its line "and nothing more"; no bytes are no record
unfoldable pub cut_line : Rule → List ℕ → List ℕ
cut_line p [] = []
cut_line p (b ∷ bs) = p.cut

-- what is printed of an input, "records until input ends", and "of a longer input" the first m
unfoldable pub lines_of : Rule → ℕ → List ℕ → List ℕ
lines_of p zero input = []
lines_of p (suc m) input =
    cond (ltb (length input) p.size)
    (cut_line p input)
    (p.line (take p.size input) ++ lines_of p m (drop p.size input))

-- ---- a block

-- how many records of an input are answered, in order, until `most` are, or no whole one is left, or a longest line has no room
unfoldable pub count_of : Rule → ℕ → List ℕ → ℕ → ℕ
count_of p zero input room = 0
count_of p (suc m) input room =
    cond (ltb (length input) p.size) 0
    (cond (ltb room p.longest) 0
    (suc (count_of p m (drop p.size input) (room - length (p.line (take p.size input))))))

-- what a block does: of the output d, left as e, how many records were answered and how many bytes were written
pub record Block (p : Rule) (most : ℕ) (input d e : List ℕ) (count written : ℕ) : Type 0 where
  pub many : count ≡ count_of p most input (length d)
  pub long : written ≡ length (lines_first p count input)
  pub bytes : e ≡ put d 0 (lines_first p count input)
