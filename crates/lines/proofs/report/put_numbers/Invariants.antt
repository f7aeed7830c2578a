use Rattle.lines.proofs.Reports.{Joining, number_part}
use Rattle.lines.proofs.report.put_numbers.Given as goal

abbrev pub invariant-loop-k : goal.invariant-loop-k
invariant-loop-k l = Joining l.fn.out l.fn.at 17 (number_part l.fn.numbers) l.out l.k l.next
