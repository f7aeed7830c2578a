use Rattle.little_endian.proofs.Bytes.{Reading}
use Rattle.little_endian.proofs.word_of.Given as goal

abbrev pub invariant-loop-b : goal.invariant-loop-b
invariant-loop-b l = Reading l.bytes l.b-iterator.iter.rest.now l.x
