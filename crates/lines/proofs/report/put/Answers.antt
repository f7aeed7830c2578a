use mathlib.Core.Path.{◌≡◌, ap, ◌∙◌}
use native.Mathlib.Omega.{arith}
use Rattle.answer.specs.Faults.{refusal}
use Rattle.answer.specs.Answer.{refused}
use Rattle.lines.specs.Report.{report_of, tally_report}
use Rattle.lines.proofs.Puts.{then, wrote_none}
use Rattle.lines.proofs.Reports.{report_left, report_put}
use Rattle.lines.proofs.Shows.{line_wrote}
use Rattle.lines.proofs.report.put.Goals as goal

pub returns-then-out-lt-MOST : goal.returns-then-out-lt-MOST
returns-then-out-lt-MOST c =
    let all = report_left _ _ c.if-out-lt-MOST.true in record { value = all.0; upper_bound = all.1 }

pub returns-then-past : goal.returns-then-past
unfolding report_of tally_report
returns-then-past c =
    let e : c.from.result ≡ refused (refusal 17 0 0) = c.from.ensures ∙ ap refused c.at.ensures in
    let last = line_wrote _ _ _ (omega arith) c.put_line.ensures.value.0 c.put_line.ensures.value.1 in
    let all = report_put _ _ c.if-out-lt-MOST.false (then (then c.put_axes-a.ensures.wrote (omega arith) c.put_numbers-b.ensures.wrote) (omega arith) (rw e at last)) (omega arith) in
    record { value = rw c.if-past.true all.0; upper_bound = all.1 }

pub returns-else-past : goal.returns-else-past
unfolding report_of tally_report
returns-else-past c =
    let all = report_put _ _ c.if-out-lt-MOST.false (then (then c.put_axes-a.ensures.wrote (omega arith) c.put_numbers-b.ensures.wrote) (omega arith) (wrote_none _ _)) (omega arith) in
    record { value = rw c.if-past.false all.0; upper_bound = all.1 }
