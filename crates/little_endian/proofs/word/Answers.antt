use Rattle.std.proofs.Common.{rules}
use Rattle.little_endian.proofs.Bytes.{word_there}
use Rattle.little_endian.proofs.word.Goals as goal

pub returns : goal.returns
returns c = word_there _ c.args.at _ c.args.s.now _ (search rules) c.word_of.ensures.0 c.word_of.ensures.1
