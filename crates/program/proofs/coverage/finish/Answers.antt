use mathlib.Core.Path.{◌≡◌, ap, ◌∙◌}
use mathlib.Core.Bool.{not}
use mathlib.Core.List.{List}
use Prim.Native.Nat.{ℕ}
use lib.Dec.{eqb}
use Rattle.lines.specs.Report.{report_into, report_end}
use Rattle.program.specs.Coverage.{report_on, last_report}
use Rattle.program.proofs.coverage.Reports.{last-put}
use Rattle.program.proofs.coverage.finish.Goals as goal

pub returns : goal.returns
returns c =
    let same : report_on c.args.shape c.counted_rest-last.result.tally (not (eqb c.counted_rest-last.result.answer.number 0)) ≡ last_report c.args.t c.args.shape c.args.nodes.now c.args.values.now c.args.rest.now = (let a = c.args in last-put a.t a.shape a.nodes.now a.values.now a.rest.now _ c.counted_rest-last.ensures) in
    let d = c.args.out.now in
    let e = c.put.ensures in
    record { value = (e.value.0 ∙ ap (λ (x : List ℕ). report_end x d) same, e.value.1 ∙ ap (λ (x : List ℕ). report_into x d) same); upper_bound = e.upper_bound }
