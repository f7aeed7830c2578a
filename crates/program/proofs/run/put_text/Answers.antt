use Rattle.program.proofs.run.Places.{fronted}
use Rattle.program.proofs.run.Gives.{line_fronted, text_fronted}
use Rattle.program.proofs.run.put_text.Goals as goal

pub returns-then-loaded-ne0 : goal.returns-then-loaded-ne0
returns-then-loaded-ne0 c =
    line_fronted _ _ c.if-loaded-ne0.true (fronted c.put_answer.ensures)

pub returns : goal.returns
returns c =
    text_fronted _ _ c.if-loaded-ne0.false c.put_records.ensures
