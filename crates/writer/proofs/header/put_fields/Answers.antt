use mathlib.Core.Path.{◌∙◌}
use native.Mathlib.Omega.{arith}
use Rattle.writer.proofs.Puts.{widths_more, fields_step}
use Rattle.writer.proofs.header.put_fields.Goals as goal

pub loop-width-preserved : goal.loop-width-preserved
loop-width-preserved c =
    let w = c.loop-width.invariant in
    let more = widths_more c.args.fields.now c.loop-width.width-index c.loop-width-test.true in
    record {
      long = c.put_word.auto.out ∙ w.long;
      far = omega (arith, w.far, more);
      rest = fields_step c.args.fields.now c.loop-width.width-index c.loop-width-test.true _ _ _ c.put_word.ensures ∙ w.rest;
    }
