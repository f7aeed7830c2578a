use native.Mathlib.Omega.{arith}
use Rattle.writer.proofs.Laws.{told_inside}
use Rattle.test_damaged.proofs.write_again.Goals as goal

pub returns : goal.returns
returns c =
    omega (arith, told_inside _ _ _ _ _ c.write-made.ensures.answer, c.write-made.auto.img)
