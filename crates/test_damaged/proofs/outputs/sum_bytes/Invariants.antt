use Prim.Native.Nat.{◌<◌}
use Rattle.test_damaged.proofs.outputs.sum_bytes.Given as goal

abbrev pub invariant-loop-byte : goal.invariant-loop-byte
invariant-loop-byte l = l.sum < 4294967311
