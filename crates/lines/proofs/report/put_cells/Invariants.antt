use Rattle.lines.proofs.Reports.{Joining, cell_part}
use Rattle.lines.proofs.report.put_cells.Given as goal

abbrev pub invariant-loop-i : goal.invariant-loop-i
invariant-loop-i l = Joining l.fn.out l.fn.at 21 (cell_part l.fn.axis l.fn.cells) l.out l.i l.next
