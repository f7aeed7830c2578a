use native.Mathlib.Omega.{arith}
use Rattle.lines.specs.Line.{ok_line}
use Rattle.lines.proofs.Puts.{then}
use Rattle.lines.proofs.put_ok.Goals as goal

pub returns : goal.returns
unfolding ok_line
returns c =
    then (then c.put_bytes-a.ensures (omega arith) (rw c.bits_of_float.ensures at c.put_digits-b.ensures.wrote)) (omega arith) c.put_byte.ensures
