use Rattle.program.specs.Run.{rule_of}
use Rattle.program.proofs.turns.Turning.{turns_left}
use Rattle.lookup.proofs.feed.Loops.{Feeding}
use Rattle.lookup.proofs.feed.answer_blocks.Given as goal

abbrev pub invariant-loop-go : goal.invariant-loop-go
invariant-loop-go g l = Feeding (rule_of l.img) l.buf l.out l.held l.left l.ports.counts l.go l.printed

abbrev pub decreases-loop-go : goal.decreases-loop-go
decreases-loop-go g l = turns_left l.left l.go
