-- The contracts of a record and of a block of records, as they stand in the source (`Post`), allow one outcome.
use mathlib.Core.Path.{◌≡◌, ap₂}
use mathlib.Core.List.{List}
use Prim.Native.Nat.{ℕ}
use Rattle.answer.proofs.Outcome.{one_outcome}
use Rattle.answer.specs.declared.Answer.{Answer}
use Rattle.ninterp.proofs.records.record_answer.Reads as record-answer
use Rattle.ninterp.proofs.records.block.answer_block.Reads as answer-block
use Rattle.ninterp.proofs.records.count.counted_record.Reads as counted-record
use Rattle.ninterp.proofs.records.count.count_block.Reads as count-block
use Rattle.ninterp.proofs.records.count.counted_rest.Reads as counted-rest
use Rattle.ninterp.specs.declared.records.block.Done.{Done}
use Rattle.ninterp.specs.declared.records.count.BlockTally.{BlockTally}
use Rattle.tally.specs.declared.TallyAnswer.{TallyAnswer}
use Rattle.lines.proofs.Unique.{block_count_lem, block_written, block_bytes}

pub record_answer_unique : (κs : _) (a : _) (r s : Answer) (x y : _) → record-answer.Post κs a r x → record-answer.Post κs a s y → r ≡ s
record_answer_unique κs a r s x y p q = one_outcome r s _ p q

pub answer_block_unique : (κs : _) (a : _) (r s : Done) (x y : _) → answer-block.Post κs a r x → answer-block.Post κs a s y → r ≡ s
answer_block_unique κs a r s x y p q = ap₂ (λ (m n : ℕ). record { count = m; written = n }) (block_count_lem p q) (block_written p q)

pub answer_block_output : (κs : _) (a : _) (r s : Done) (x y : _) → answer-block.Post κs a r x → answer-block.Post κs a s y → ◌≡◌ {A = List ℕ} x.1.1.1.1.1.0.now y.1.1.1.1.1.0.now
answer_block_output κs a r s x y p q = block_bytes p q

pub counted_record_unique : (κs : _) (a : _) (r s : TallyAnswer) (x y : _) → counted-record.Post κs a r x → counted-record.Post κs a s y → r ≡ s
counted_record_unique κs a r s x y p q = one_outcome r s _ p q

pub count_block_unique : (κs : _) (a : _) (r s : BlockTally) (x y : _) → count-block.Post κs a r x → count-block.Post κs a s y → r ≡ s
count_block_unique κs a r s x y p q = one_outcome r s _ p q

pub counted_rest_unique : (κs : _) (a : _) (r s : TallyAnswer) (x y : _) → counted-rest.Post κs a r x → counted-rest.Post κs a s y → r ≡ s
counted_rest_unique κs a r s x y p q = one_outcome r s _ p q
