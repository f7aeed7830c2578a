use mathlib.Core.Path.{ap, ◌∙◌}
use Rattle.answer.specs.declared.Answer.{Answer}
use Rattle.tally.specs.Tally.{counted_of}
use Rattle.ninterp.specs.Counting.{counted_record}
use Rattle.ninterp.proofs.records.count.counted_record.Goals as goal

pub outcome-o-requires : goal.outcome-o-requires
outcome-o-requires c = ap (λ (a : Answer). a.number) c.record_answer-a.ensures

pub returns : goal.returns
unfolding counted_record
returns c =
    c.counted.ensures ∙ ap (counted_of _) c.outcome-o.ensures
