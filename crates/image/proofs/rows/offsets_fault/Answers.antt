use Rattle.std.proofs.Common.{◌+◌, ◌*◌, sym, ap, ◌∙◌}
use Rattle.answer.proofs.Checks.{said-ok, passes, fails, hands}
use Rattle.answer.proofs.Orders.{first_step, first_stop, first_end}
use Rattle.checks.specs.Numbers.{field_fault}
use Rattle.image.specs.Head.{offset_row}
use Rattle.image.proofs.rows.offsets_fault.Goals as goal

pub returns-in_err-field_fault : goal.returns-in_err-field_fault
unfolding offset_row
returns-in_err-field_fault c =
    let row = c.in_err-field_fault.ensures ∙ ap (field_fault (16 + 4 * c.loop-a.a) 0) c.offset_of.ensures.is in
    hands _ _ _ row _ c.from_residual.ensures ∙ sym (c.loop-a.invariant ∙ first_stop (offset_row c.args.img.now) c.loop-a.a 4 c.loop-a-test.true (fails _ _ _ row))

pub loop-a-preserved : goal.loop-a-preserved
unfolding offset_row
loop-a-preserved c =
    let row = c.in_ok-field_fault.ensures ∙ ap (field_fault (16 + 4 * c.loop-a.a) 0) c.offset_of.ensures.is in
    c.loop-a.invariant ∙ first_step (offset_row c.args.img.now) c.loop-a.a 4 c.loop-a-test.true (passes _ _ row)

pub returns : goal.returns
returns c = said-ok _ ∙ sym (c.loop-a.invariant ∙ first_end _ _ _ c.loop-a-test.false)
