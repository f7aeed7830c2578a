use Rattle.std.proofs.Common.{arith}
use Rattle.little_endian.proofs.Bytes.{reading_fits}
use Rattle.little_endian.proofs.word_of.Goals as goal

pub overflow_mul-x : goal.overflow_mul-x
overflow_mul-x c = omega (arith, reading_fits c.args.bytes.now _ _ _ _ c.type_inv.bytes c.loop-b.invariant c.in-Some.ensures.steps c.requires)

pub overflow_add-x : goal.overflow_add-x
overflow_add-x c = omega (arith, reading_fits c.args.bytes.now _ _ _ _ c.type_inv.bytes c.loop-b.invariant c.in-Some.ensures.steps c.requires)
