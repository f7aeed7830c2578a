use native.Mathlib.Omega.{arith}
use mathlib.Core.List.{◌++◌}
use Rattle.lines.specs.Digit.{decimal}
use Rattle.lines.proofs.Puts.{then}
use Rattle.lines.proofs.Fields.{fields_start, fields_step, fields_end}
use Rattle.lines.proofs.text.put_fields.Goals as goal

pub loop-n-init : goal.loop-n-init
loop-n-init c =
    fields_start (c.args.head.now ++ decimal c.args.first) c.args.rest.now (then c.put_bytes-from.ensures (omega arith) c.put_decimal-next.ensures)

pub loop-n-preserved : goal.loop-n-preserved
loop-n-preserved c =
    fields_step (c.args.head.now ++ decimal c.args.first) c.args.rest.now c.loop-n.n-index c.loop-n.invariant (omega arith) c.loop-n-test.true c.put_byte-after.ensures c.put_decimal-next-in-loop-n.ensures

pub returns : goal.returns
returns c =
    fields_end (c.args.head.now ++ decimal c.args.first) c.args.rest.now c.loop-n.n-index c.loop-n.invariant (omega arith) c.loop-n-test.false c.put_byte.ensures
