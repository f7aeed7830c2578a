use mathlib.Core.Path.{refl, ◌∙◌}
use Rattle.program.proofs.run.Gives.{room_refused, room_given}
use Rattle.program.proofs.run.room_answer.Goals as goal

pub returns-in-Ok : goal.returns-in-Ok
returns-in-Ok c = room_given c.args.need c.args.room c.in-Ok.ensures _ c.pass.ensures

pub returns-in-Err : goal.returns-in-Err
returns-in-Err c = c.from.ensures ∙ room_refused c.args.need c.args.room _ c.in-Err.ensures _ refl
