use Rattle.std.proofs.Common.{◌≡◌, ap, ◌∙◌, rules, Bool, true, false}
use mathlib.Core.Logic.{⊎_elim}
use Rattle.answer.specs.Answer.{answered}
use Rattle.answer.specs.declared.Answer.{Answer}
use Rattle.layout.specs.Shape.{counts_of}
use Rattle.axis.specs.Scaffolding.{location_by}
use Rattle.blend.specs.Blend.{computed}
use Rattle.ninterp.specs.Linears.{interpolated}
use Rattle.axis.specs.declared.picks.Pick.TheVariants.{Lower, Upper, Nearest}
use Rattle.ninterp.specs.Scaffolding.{kind_found}
use Rattle.ninterp.proofs.Lookups.{stored_same}
use Rattle.ninterp.proofs.KindBytes.{of_kind}
use Rattle.ninterp.proofs.records.found.Goals as goal

pub returns-in-Linear : goal.returns-in-Linear
unfolding kind_found
returns-in-Linear c =
    let by : Bool → Answer = (λ u. computed (interpolated (location_by u) (counts_of c.args.shape) c.args.nodes.now c.args.values.now c.args.point.now)) in
    ⊎_elim
    (λ e. let no : c.eq-uniform.result ≡ false = rw e at c.eq-uniform.ensures in c.interpolated.ensures ∙ ap by no ∙ of_kind _ _ _ _ _ _ e)
    (λ e. let yes : c.eq-uniform.result ≡ true = rw e at c.eq-uniform.ensures in c.interpolated.ensures ∙ ap by yes ∙ of_kind _ _ _ _ _ _ e)
    c.in-Linear.is

pub returns-in-Nearest : goal.returns-in-Nearest
unfolding kind_found
returns-in-Nearest c =
    c.stored.ensures.same
    ∙ ap answered (stored_same c.args.shape c.args.nodes.now c.args.values.now c.args.point.now c.stored.ensures.picks Nearest (λ a l. let h = c.stored.ensures.told a l in search rules))
    ∙ of_kind _ _ _ _ _ _ c.in-Nearest.is

pub returns-in-StepLower : goal.returns-in-StepLower
unfolding kind_found
returns-in-StepLower c =
    let r = c.stored-in-StepLower.ensures in
    r.same
    ∙ ap answered (stored_same c.args.shape c.args.nodes.now c.args.values.now c.args.point.now r.picks Lower (λ a l. let h = r.told a l in search rules))
    ∙ of_kind _ _ _ _ _ _ c.in-StepLower.is

pub returns-in-StepUpper : goal.returns-in-StepUpper
unfolding kind_found
returns-in-StepUpper c =
    let r = c.stored-in-StepUpper.ensures in
    r.same
    ∙ ap answered (stored_same c.args.shape c.args.nodes.now c.args.values.now c.args.point.now r.picks Upper (λ a l. let h = r.told a l in search rules))
    ∙ of_kind _ _ _ _ _ _ c.in-StepUpper.is
