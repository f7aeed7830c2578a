use mathlib.Core.Path.{sym, ◌∙◌}
use Rattle.writer.proofs.Puts.{floats_step, floats_end}
use Rattle.writer.proofs.put.put_floats.Goals as goal

pub loop-i-preserved : goal.loop-i-preserved
loop-i-preserved c = (
  c.put_word.auto.out ∙ c.loop-i.invariant.0,
  floats_step _ _ _ _ _ c.args.floats.now c.loop-i-test.true c.bits_of_float.ensures c.put_word.ensures ∙ c.loop-i.invariant.1,
)

pub returns : goal.returns
returns c = sym (floats_end _ _ _ _ c.loop-i-test.false) ∙ c.loop-i.invariant.1
