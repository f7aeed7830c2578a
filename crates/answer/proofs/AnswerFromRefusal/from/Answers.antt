use lib.Ieee.{of_bits}
use Rattle.answer.specs.Rows.{fault_of}
use Rattle.answer.specs.Faults.{refusal}
use Rattle.answer.specs.Answer.{refused}
use Rattle.answer.proofs.AnswerFromRefusal.from.Goals as goal

pub returns : goal.returns
unfolding refused fault_of refusal of_bits
returns c = cc
