use mathlib.Core.Path.{◌∙◌}
use native.Mathlib.Omega.{arith}
use Rattle.program.proofs.turns.Shifts.{shift_there, shift_left}
use Rattle.program.proofs.turns.shift.Goals as goal
use Rattle.program.proofs.turns.shift.Goals.{else-from-buf-via-then-from-buf+else-n-buf, else-from-buf-via-else-from-buf}

pub returns-then-n-buf : goal.returns-then-n-buf
returns-then-n-buf c = let a = c.args in c.copy_within.ensures.after ∙ shift_there a.buf.now a.from a.n c.if-from-buf.true c.if-n-buf.true

pub returns-else-from-buf : goal.returns-else-from-buf
returns-else-from-buf c =
    let a = c.args in
    shift_left a.buf.now a.from a.n (elim c.else-from-buf.branch [
      | else-from-buf-via-then-from-buf+else-n-buf w ↦ omega (arith, w.if-from-buf.true, w.if-n-buf.false)
      | else-from-buf-via-else-from-buf w ↦ omega (arith, w.if-from-buf.false)
    ])
