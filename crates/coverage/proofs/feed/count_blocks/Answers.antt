use native.Mathlib.Omega.{arith}
use Rattle.program.proofs.front.Loads.{four_axes}
use Rattle.coverage.proofs.feed.Loops.{feed_start, feed_room, feed_step, turn_fewer, feed_report, feed_whole}
use Rattle.coverage.proofs.feed.count_blocks.Goals as goal

pub overflow_mul-size : goal.overflow_mul-size
overflow_mul-size g c = omega (arith, four_axes c.requires.table_of)

pub overflow_add-size : goal.overflow_add-size
overflow_add-size g c = omega (arith, four_axes c.requires.table_of)

pub loop-go-init : goal.loop-go-init
loop-go-init g c = feed_start c.args.shape c.args.nodes.now c.args.values.now c.args.buf.now _ c.none_read-t.ensures c.requires.buf_len.0 _ c.none-ports.ensures

pub step-next-requires : goal.step-next-requires
step-next-requires g c = feed_room c.requires.table_of c.loop-go.invariant

pub loop-go-smaller : goal.loop-go-smaller
loop-go-smaller g c = turn_fewer c.loop-go.invariant c.step-next.ensures c.loop-go-test.true

pub loop-go-preserved : goal.loop-go-preserved
loop-go-preserved g c = feed_step c.loop-go.invariant c.step-next.ensures c.loop-go-test.true c.step-next.auto.buf

pub end-requires-clause-reported : goal.end-requires-clause-reported
end-requires-clause-reported g c = feed_report c.requires.table_of c.loop-go.invariant

pub returns : goal.returns
returns g c = feed_whole c.requires.table_of c.loop-go.invariant c.loop-go-test.false c.end.result c.end.ensures
