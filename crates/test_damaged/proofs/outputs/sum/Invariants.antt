use Prim.Native.Nat.{◌<◌}
use Rattle.test_damaged.proofs.outputs.sum.Given as goal

abbrev pub invariant-loop-x : goal.invariant-loop-x
invariant-loop-x l = l.sum < 4294967311
