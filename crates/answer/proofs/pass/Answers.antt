use lib.Ieee.{of_bits}
use Rattle.answer.specs.Answer.{fine}
use Rattle.answer.proofs.pass.Goals as goal

pub returns : goal.returns
unfolding fine of_bits
returns c = c.from.ensures
