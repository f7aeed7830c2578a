use Rattle.checks.specs.Numbers.{most_records}
use Rattle.program.proofs.turns.Turning.{turns_left}
use Rattle.coverage.proofs.feed.Loops.{Feeding}
use Prim.Native.Nat.{◌-◌}
use Rattle.coverage.proofs.feed.count_blocks.Given as goal

abbrev pub invariant-loop-go : goal.invariant-loop-go
invariant-loop-go g l = Feeding l.shape l.nodes l.values l.buf l.t l.held l.ports.counts l.go

abbrev pub decreases-loop-go : goal.decreases-loop-go
decreases-loop-go g l = turns_left (most_records - l.t.records) l.go
