use Rattle.std.proofs.Common.{◌≡◌, ◌≤◌, length}
use Rattle.test_replay.specs.Scaffolding.{HoldsTable}
use Rattle.test_replay.proofs.main.Given as goal

abbrev pub invariant-loop : goal.invariant-loop
invariant-loop l = (length l.axis ≡ 128) × ((l.lent.count ≤ 128) × HoldsTable l.lent.table l.rest)
