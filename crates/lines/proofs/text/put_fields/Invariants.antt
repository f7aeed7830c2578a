use mathlib.Core.List.{◌++◌}
use lib.ListN.{take}
use Rattle.lines.specs.Digit.{decimal}
use Rattle.lines.specs.Scaffolding.{Wrote, fields}
use Rattle.lines.proofs.text.put_fields.Given as goal

abbrev pub invariant-loop-n : goal.invariant-loop-n
invariant-loop-n l = Wrote l.fn.out l.at ((l.head ++ decimal l.first) ++ fields (take l.n-index l.rest)) l.out l.next
