use Rattle.checks.specs.Numbers.{node_fault, nodes_fault}
use lib.ListN.{length}
use Rattle.answer.proofs.Loops as loops
use Rattle.checks.proofs.nodes.nodes_fault.Given as goal

abbrev pub invariant-loop-i : goal.invariant-loop-i
invariant-loop-i l = loops.Left (node_fault l.axis l.nodes) (nodes_fault l.axis l.nodes) 0 (length l.nodes) l.i
