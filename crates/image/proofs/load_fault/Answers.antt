use Rattle.std.proofs.Common.{◌∙◌}
use Rattle.answer.proofs.Checks.{hands, goes_on}
use Rattle.image.specs.Load.{load_fault}
use Rattle.image.proofs.Floats.{rooms_held}
use Rattle.image.proofs.Listed.{areas_asked, pairs_asked}
use Rattle.image.proofs.load_fault.Goals as goal

pub returns-in_err-contents_fault-clause-fault : goal.returns-in_err-contents_fault-clause-fault
unfolding load_fault
returns-in_err-contents_fault-clause-fault c =
    goes_on _ _ c.in_ok-held.ensures.fault _ _
    (goes_on _ _ (c.in_ok-areas_fault.ensures ∙ areas_asked _ _ _ c.areas_of-all.ensures c.axes_of.ensures.is) _ _
    (goes_on _ _ (c.in_ok-pairs_fault.ensures ∙ pairs_asked _ _ _ c.areas_of-all.ensures c.axes_of.ensures.is) _ _
    (goes_on _ _ (c.in_ok-rooms_fault.ensures ∙ rooms_held _ _ c.in_ok-held.ensures.held _ _) _ _ (hands _ _ _ c.in_err-contents_fault.ensures _ c.from_residual-in_err-contents_fault.ensures))))
