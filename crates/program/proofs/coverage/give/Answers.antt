use mathlib.Core.Path.{refl}
use Rattle.program.proofs.run.Gives.{give_all}
use Rattle.program.proofs.coverage.give.Goals as goal

pub returns : goal.returns
returns c =
    give_all _ _ refl refl c.room_answer-done.ensures c.put_all.ensures
