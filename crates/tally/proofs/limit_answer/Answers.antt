use Rattle.answer.specs.Answer.{fine}
use Rattle.answer.proofs.Checks.{then_stops}
use Rattle.tally.proofs.limit_answer.Goals as goal

pub returns-in-Err : goal.returns-in-Err
returns-in-Err c = then_stops _ _ _ c.in-Err.ensures _ fine c.from.ensures
