use mathlib.Core.Path.{refl}
use native.Mathlib.Omega.{arith}
use Rattle.program.specs.Run.{rule_of}
use Rattle.program.proofs.front.Loads.{four_axes}
use Rattle.lookup.proofs.feed.Loops.{feed_start, feed_room, feed_step, turn_fewer}
use Rattle.lookup.proofs.feed.Wholes.{failed_whole, ended_whole}
use Rattle.lookup.proofs.feed.answer_blocks.Goals as goal

pub overflow_mul-size : goal.overflow_mul-size
overflow_mul-size g c = omega (arith, four_axes c.requires.table_of)

pub overflow_add-size : goal.overflow_add-size
overflow_add-size g c = omega (arith, four_axes c.requires.table_of)

pub loop-go-init : goal.loop-go-init
loop-go-init g c = feed_start (rule_of c.args.img.now) c.args.buf.now c.args.out.now c.requires.buf_len.0 c.requires.buf_len.1 _ c.none-ports.ensures _

pub step-next-requires-clause-room : goal.step-next-requires-clause-room
step-next-requires-clause-room g c = feed_room c.requires.table_of c.loop-go.invariant

pub loop-go-smaller : goal.loop-go-smaller
loop-go-smaller g c = turn_fewer c.step-next.ensures c.loop-go-test.true

pub loop-go-preserved : goal.loop-go-preserved
loop-go-preserved g c = feed_step c.step-next.ensures c.loop-go.invariant c.loop-go-test.true c.step-next.auto.buf c.step-next.auto.out refl

pub returns-in_err-printed : goal.returns-in_err-printed
returns-in_err-printed g c = failed_whole c.requires.table_of c.loop-go.invariant c.from_residual.result c.from_residual.ensures.0

pub returns : goal.returns
returns g c = ended_whole c.requires.table_of c.loop-go.invariant c.loop-go-test.false c.in_ok-printed.was c.end.result c.end.ensures
