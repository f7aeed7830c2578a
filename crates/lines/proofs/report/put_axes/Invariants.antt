use Rattle.lines.proofs.Reports.{Joining, Walking, axis_part}
use Rattle.lines.proofs.report.put_axes.Given as goal

abbrev pub invariant-loop-a : goal.invariant-loop-a
invariant-loop-a l =
    Walking l.fn.counts l.fn.axes l.a-iterator.iter.iter.rest.now l.a-iterator.iter.n l.a-iterator.count
    × Joining l.fn.out 0 1323 (axis_part l.fn.axes l.fn.counts l.fn.cells) l.out l.a-iterator.count l.next
