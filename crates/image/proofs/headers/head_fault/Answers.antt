use Rattle.std.proofs.Common.{◌∙◌, ap}
use Rattle.answer.proofs.Checks.{hands, goes_on, passes_on}
use Rattle.checks.specs.Numbers.{field_fault}
use Rattle.image.specs.Head.{head_fault}
use Rattle.image.proofs.Heads.{head_product}
use Rattle.image.proofs.headers.head_fault.Goals as goal

pub returns-in_err-field_fault-clause-fault : goal.returns-in_err-field_fault-clause-fault
unfolding head_fault
returns-in_err-field_fault-clause-fault c =
    let held = c.in_ok-held.ensures.fault ∙ head_product _ _ c.shape_of.ensures _ c.in_ok-start_fault.ensures _ c.in_ok-counts_fault.ensures in
    goes_on _ _ c.in_ok-start_fault.ensures _ _
    (goes_on _ _ c.in_ok-counts_fault.ensures _ _
    (goes_on _ _ held _ _ (goes_on _ _ c.in_ok-offsets_fault.ensures _ _ (hands _ _ _ (c.in_err-field_fault.ensures ∙ ap (field_fault 36 0) c.field.ensures.is) _ c.from_residual-in_err-field_fault.ensures))))

pub returns-clause-fault : goal.returns-clause-fault
unfolding head_fault
returns-clause-fault c =
    let held = c.in_ok-held.ensures.fault ∙ head_product _ _ c.shape_of.ensures _ c.in_ok-start_fault.ensures _ c.in_ok-counts_fault.ensures in
    goes_on _ _ c.in_ok-start_fault.ensures _ _
    (goes_on _ _ c.in_ok-counts_fault.ensures _ _
    (goes_on _ _ held _ _ (goes_on _ _ c.in_ok-offsets_fault.ensures _ _ (passes_on _ _ (c.in_ok-field_fault.ensures ∙ ap (field_fault 36 0) c.field.ensures.is) _))))
