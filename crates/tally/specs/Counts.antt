-- C-11: the tally after many records, and what its counts say.
use Rattle.std.specs.Prelude.{◌≡◌, Bool, cond, List, [], ◌∷◌, ℕ, zero, suc, ◌+◌, ◌*◌, length, get_or, replicate}
use Rattle.tally.specs.declared.Tally.{Tally}
use Rattle.tally.specs.declared.Outcome.{Outcome}
use Rattle.tally.specs.Tally.{counted_of}

-- a tally in memory has 252 counts of cells and 21 of numbers
pub record Sized (t : Tally) : Type 0 where
  pub cells : length t.cells ≡ 252
  pub numbers : length t.numbers ≡ 21

-- no record was read
unfoldable pub none_read : Tally
none_read = record { records = 0; cells = replicate 252 0; numbers = replicate 21 0 }

-- "one reading at a time": the records counted one after the other
unfoldable pub count_all : Tally → List Outcome → Tally
count_all t [] = t
count_all t (o ∷ os) = count_all (counted_of t o).tally os

-- the count of cell i of axis a
abbrev pub cell_count : Tally → ℕ → ℕ → ℕ
cell_count t a i = get_or t.cells (a * 63 + i) 0

-- the count of the refusal number k
abbrev pub number_count : Tally → ℕ → ℕ
number_count t k = get_or t.numbers k 0

-- "the number of such records": how many of a list pass a test
unfoldable pub how_many : {A : Type 0} → (A → Bool) → List A → ℕ
how_many test [] = 0
how_many test (x ∷ xs) = cond (test x) 1 0 + how_many test xs

-- f 0 + .. + f (n - 1)
unfoldable pub sum_to : (ℕ → ℕ) → ℕ → ℕ
sum_to f zero = 0
sum_to f (suc n) = sum_to f n + f n
