-- C-11: what a counting call gives, of one record and of a block of them.
use Rattle.std.specs.Prelude.{cond, List, [], ◌∷◌, map, ℕ, zero, suc, ◌-◌, ◌*◌, eqb, ltb, length, drop, Float}
use Rattle.answer.specs.Answer.{fine}
use Rattle.layout.specs.Layout.{tabulate}
use Rattle.layout.specs.declared.Shape.{Shape}
use Rattle.checks.specs.Numbers.{most_records}
use Rattle.tally.specs.declared.Tally.{Tally}
use Rattle.tally.specs.declared.Outcome.{Outcome}
use Rattle.tally.specs.declared.TallyAnswer.{TallyAnswer}
use Rattle.tally.specs.Tally.{counted_of}
use Rattle.tally.specs.Counts.{count_all}
use Rattle.ninterp.specs.declared.records.count.BlockTally.{BlockTally}
use Rattle.ninterp.specs.Records.{record_size, record_answer}
use Rattle.ninterp.specs.Coverage.{records_in, record_cell}

-- what became of a record: the number that it is answered, and where that is 0 its cell on each axis
unfoldable pub outcome_of : Shape → List Float → List Float → List ℕ → Outcome
outcome_of s nodes values rec =
    cond (eqb (record_answer s nodes values rec).number 0)
    (record { number = 0; axes = s.axes; cells = tabulate 4 (λ a. cond (ltb a s.axes) (record_cell s nodes a rec) 0) })
    (record { number = (record_answer s nodes values rec).number; axes = 0; cells = 0 ∷ 0 ∷ 0 ∷ 0 ∷ [] })

-- "one reading at a time": a record of a lent table counted
unfoldable pub counted_record : Tally → Shape → List Float → List Float → List ℕ → TallyAnswer
counted_record t s nodes values rec = counted_of t (outcome_of s nodes values rec)

-- ---- a block

-- how many whole records an input has, at most m
unfoldable pub whole_records : ℕ → ℕ → List ℕ → ℕ
whole_records size zero input = 0
whole_records size (suc m) input = cond (ltb (length input) size) 0 (suc (whole_records size m (drop size input)))

-- how many records of a block are counted: the whole ones, as many as may still come
abbrev pub block_count : Tally → Shape → List ℕ → ℕ
block_count t s input = whole_records (record_size s) (most_records - t.records) input

-- the tally after them, and how many bytes they have
unfoldable pub block_tally : Tally → Shape → List Float → List Float → List ℕ → BlockTally
block_tally t s nodes values input = record {
  tally = count_all t (map (outcome_of s nodes values) (records_in (record_size s) (block_count t s input) input));
  used = block_count t s input * record_size s;
}

-- ---- the input's end

-- nothing is left, or what is left is counted as one record more: "A short last record counts under 3"; 17 "at any byte after record 1,000,000"
unfoldable pub counted_rest : Tally → Shape → List Float → List Float → List ℕ → TallyAnswer
counted_rest t s nodes values rest = cond (eqb (length rest) 0) (record { answer = fine; tally = t }) (counted_record t s nodes values rest)
