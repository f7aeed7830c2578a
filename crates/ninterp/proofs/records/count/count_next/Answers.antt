use mathlib.Core.Path.{ap, ◌∙◌}
use Rattle.answer.specs.declared.Answer.{Answer}
use Rattle.tally.specs.declared.Outcome.{Outcome}
use Rattle.tally.specs.Tally.{counted_of}
use Rattle.tally.specs.Scaffolding.{tally_of}
use Rattle.ninterp.proofs.records.count.count_next.Goals as goal

pub outcome-o-requires : goal.outcome-o-requires
outcome-o-requires c = ap (λ (a : Answer). a.number) c.whole_answer-a.ensures

pub returns : goal.returns
returns c =
    let a = c.args in
    c.count_here.ensures
    ∙ ap (λ (x : Outcome). (counted_of (tally_of a.read a.cells.now a.numbers.now) x).tally) c.outcome-o.ensures
