use mathlib.Core.Path.{sym, ap, ap₂, ◌∙◌}
use native.Mathlib.Numerals.{add-one, one-add}
use native.Mathlib.Omega.{arith}
use lib.ListN.{get_or}
use Rattle.lines.specs.Report.{number_line}
use Rattle.lines.proofs.Fields.{number_is}
use Rattle.lines.proofs.Reports.{reports, part_at, join_start, join_step, join_skip, number_none}
use Rattle.lines.proofs.report.put_numbers.Goals as goal
use Rattle.lines.proofs.report.put_numbers.Goals.{then-count-ne0, else-count-ne0}

pub loop-k-init : goal.loop-k-init
loop-k-init c = join_start _ _ _ _

pub loop-k-preserved : goal.loop-k-preserved
loop-k-preserved c =
    let e = part_at 1 20 c.loop-k.k c.args.numbers.now c.loop-k-test.true ∙ ap (λ j. get_or c.args.numbers.now j 0) (one-add c.loop-k.k) in
    elim c.if-count-ne0.branch [
      | then-count-ne0 w ↦ rw (w.out-is, w.next-is) (join_step c.loop-k.invariant (omega arith) (number_is _ _ (λ z. w.if-count-ne0.true (sym w.from.ensures ∙ z)) ∙ ap₂ number_line (add-one c.loop-k.k) (w.from.ensures ∙ e)) (grind (arith, reports)) w.put_fields-next.ensures)
      | else-count-ne0 w ↦ rw (w.out-is, w.next-is) (join_skip c.loop-k.invariant (omega arith) (sym (number_none _ _ (sym e ∙ w.if-count-ne0.false))))
    ]
