use mathlib.Core.Path.{sym, ap, ◌∙◌}
use mathlib.Core.Bool.{Bool, ◌||◌, not}
use mathlib.Core.Logic.{⊎_elim}
use borrow.Author.Tests.{eq-eqb}
use Rattle.answer.proofs.Orders.{clash}
use Rattle.program.proofs.input.Ends.{output_failed, limit_reached, more_to_come}
use Rattle.program.proofs.input.goes_on.Goals as goal
use Rattle.program.proofs.input.goes_on.Goals.{then-ok, else-ok}

pub returns-then-full : goal.returns-then-full
returns-then-full c =
    let a = c.args in
    let t = c.if-left-ne0.true in
    c.if-full.true ∙ sym (ap (λ (b : Bool). b || a.whole) c.if-full.true) ∙ more_to_come a.ok a.full a.left a.whole t.0 t.1

pub returns-else-full : goal.returns-else-full
returns-else-full c =
    let a = c.args in
    let t = c.if-left-ne0.true in
    sym (ap (λ (b : Bool). b || a.whole) c.if-full.false) ∙ more_to_come a.ok a.full a.left a.whole t.0 t.1

pub returns-else-left-ne0 : goal.returns-else-left-ne0
returns-else-left-ne0 c =
    let a = c.args in
    elim c.if-ok.branch [
      | then-ok w ↦ ⊎_elim
          (λ q. w.t-6-is ∙ ap not (eq-eqb a.left 0 q.1) ∙ limit_reached a.ok a.full a.left a.whole q.0 q.1)
          (λ q. clash a.ok w.if-ok.true q)
          c.if-left-ne0.either
      | else-ok w ↦ w.t-6-is ∙ w.if-ok.false ∙ output_failed a.ok a.full a.left a.whole w.if-ok.false
    ]
