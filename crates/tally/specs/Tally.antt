-- C-11: "The tally is .. changed .. one reading at a time": the tally after one record, from what became of that record.
use Rattle.std.specs.Prelude.{cond, List, [], ◌∷◌, ℕ, ◌+◌, ◌*◌, eqb, ltb, get_or, set, take}
use Rattle.answer.specs.Faults.{given}
use Rattle.answer.specs.Answer.{fine, ◌then◌}
use Rattle.checks.specs.Numbers.{limit_fault}
use Rattle.tally.specs.declared.Tally.{Tally}
use Rattle.tally.specs.declared.Outcome.{Outcome}
use Rattle.tally.specs.declared.TallyAnswer.{TallyAnswer}

-- one more; a largest u32 stays, which no count of at most 1,000,000 records is
unfoldable pub more : ℕ → ℕ
more n = cond (ltb n 4294967295) (n + 1) n

-- the k-th count one more
unfoldable pub more_at : List ℕ → ℕ → List ℕ
more_at counts k = set counts k (more (get_or counts k 0))

-- the count of cell i of axis a one more; an axis has at most 63 cells
unfoldable pub cell_more : List ℕ → ℕ → ℕ → List ℕ
cell_more counts a i = cond (ltb i 63) (more_at counts (a * 63 + i)) counts

-- "per axis and cell": one cell of each axis, from axis a on
unfoldable pub cells_more : List ℕ → ℕ → List ℕ → List ℕ
cells_more counts a [] = counts
cells_more counts a (i ∷ is) = cells_more (cell_more counts a i) (a + 1) is

-- "a count per refusal number"
unfoldable pub number_more : List ℕ → ℕ → List ℕ
number_more counts k = cond (ltb k 21) (more_at counts k) counts

-- "Only records answered 0 count in cells"
unfoldable pub tallied : Tally → Outcome → Tally
tallied t o = record {
  records = t.records + 1;
  cells = cond (eqb o.number 0) (cells_more t.cells 0 (take o.axes o.cells)) t.cells;
  numbers = cond (eqb o.number 0) t.numbers (number_more t.numbers o.number);
}

-- "Counting a record that the lookup refuses is a success of the counting call; that call's own 17 leaves the tally as it was"
unfoldable pub counted_of : Tally → Outcome → TallyAnswer
counted_of t o = record { answer = limit_fault t.records then fine; tally = given (limit_fault t.records) (tallied t o) t }
