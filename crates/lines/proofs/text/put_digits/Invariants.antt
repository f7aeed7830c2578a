use Rattle.lines.proofs.Digits.{Writing}
use Rattle.lines.proofs.text.put_digits.Given as goal

abbrev pub invariant-loop-i : goal.invariant-loop-i
invariant-loop-i l = Writing l.initial.out l.at l.base l.k l.n l.out l.i l.left
