use Rattle.lines.proofs.Digits.{write_step}
use Rattle.lines.proofs.text.put_digits.Goals as goal

pub loop-i-preserved : goal.loop-i-preserved
loop-i-preserved c = write_step c.glyph.result c.loop-i.invariant c.loop-i-test.true c.requires.1.1 c.glyph.ensures
