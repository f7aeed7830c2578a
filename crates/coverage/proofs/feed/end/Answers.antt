use Rattle.std.proofs.Common.{rules, of_calls}
use mathlib.Core.Path.{◌≡◌, refl, sym, ap, ◌∙◌, subst}
use mathlib.Core.List.{List}
use Prim.Native.Nat.{ℕ}
use lib.ListN.{length, take}
use Rattle.lines.proofs.Puts.{wrote_take}
use Rattle.lines.proofs.Reports.{report_wrote}
use Rattle.program.specs.Coverage.{last_report}
use Rattle.program.proofs.print.Told.{told_is}
use Rattle.coverage.specs.Whole.{Reported}
use Rattle.coverage.proofs.feed.end.Goals as goal

pub report-printed-requires : goal.report-printed-requires
report-printed-requires g c =
    let put : take c.finish-n.result c.finish-n.new.out ≡ last_report c.args.t c.args.shape c.args.nodes.now c.args.values.now c.args.rest.now = (wrote_take (report_wrote _ c.args.out.now c.requires.report_most_in_bounds c.finish-n.ensures.value.0 c.finish-n.ensures.value.1)) in
    subst (λ (x : List ℕ). Reported c.args.img.now c.args.ports.now.counts.read x) (sym put) c.requires.reported

pub returns-in_err-printed : goal.returns-in_err-printed
returns-in_err-printed g c =
    let put : take c.finish-n.result c.finish-n.new.out ≡ last_report c.args.t c.args.shape c.args.nodes.now c.args.values.now c.args.rest.now = (wrote_take (report_wrote _ c.args.out.now c.requires.report_most_in_bounds c.finish-n.ensures.value.0 c.finish-n.ensures.value.1)) in
    let w = told_is c.report-printed.result c.unwrap_or_else-told.result c.unwrap_or_else-told.ensures (λ e p. search (rules, of_calls)) c.report-printed.ensures.printed c.report-printed.ensures.unprinted in
    record { asked = refl; read = refl; told = w ∙ ap length put }

pub returns : goal.returns
returns g c =
    let put : take c.finish-n.result c.finish-n.new.out ≡ last_report c.args.t c.args.shape c.args.nodes.now c.args.values.now c.args.rest.now = (wrote_take (report_wrote _ c.args.out.now c.requires.report_most_in_bounds c.finish-n.ensures.value.0 c.finish-n.ensures.value.1)) in
    let w = told_is c.report-printed.result c.unwrap_or_else-told.result c.unwrap_or_else-told.ensures (λ e p. search (rules, of_calls)) c.report-printed.ensures.printed c.report-printed.ensures.unprinted in
    record { asked = refl; read = refl; told = w ∙ ap length put }
