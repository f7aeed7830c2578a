use mathlib.Core.Path.{ap, ◌∙◌}
use Rattle.answer.specs.declared.Answer.{Answer}
use Rattle.tally.specs.declared.Outcome.{Outcome}
use Rattle.tally.specs.Tally.{counted_of}
use Rattle.ninterp.specs.Counting.{counted_record}
use Rattle.ninterp.proofs.records.count.count_record.Goals as goal

pub outcome-o-requires : goal.outcome-o-requires
outcome-o-requires c = ap (λ (a : Answer). a.number) c.record_answer-a.ensures

pub returns : goal.returns
unfolding counted_record counted_of
returns c = record {
  value = c.limit_answer-answer.ensures;
  tally_after = c.count_here-t.ensures ∙ ap (λ (o : Outcome). (counted_of c.args.t.now o).tally) c.outcome-o.ensures;
}
