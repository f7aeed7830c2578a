use Rattle.std.proofs.Common.{rules, of_calls}
use mathlib.Core.Path.{refl, sym, ap, ◌∙◌}
use native.Mathlib.Omega.{arith}
use lib.ListN.{length}
use lib.Seq.{length-take-le}
use Rattle.program.specs.Run.{rule_of}
use Rattle.program.proofs.print.Told.{told_is}
use Rattle.lookup.proofs.feed.Steps.{end_put, ended}
use Rattle.lookup.proofs.feed.end.Goals as goal

pub slice_bounds-end-end : goal.slice_bounds-end-end
slice_bounds-end-end g c = let put = end_put (rule_of c.args.img.now) refl c.args.left c.args.rest.now c.args.out.now c.requires.room c.requires.last _ _ c.finish-n.ensures.0 c.finish-n.ensures.1 in put.1

pub slice_bounds-end-end-2 : goal.slice_bounds-end-end-2
slice_bounds-end-end-2 g c = let put = end_put (rule_of c.args.img.now) refl c.args.left c.args.rest.now c.args.out.now c.requires.room c.requires.last _ _ c.finish-n.ensures.0 c.finish-n.ensures.1 in sym (length-take-le _ _ put.1)

pub end-printed-requires : goal.end-printed-requires
end-printed-requires g c = let put = end_put (rule_of c.args.img.now) refl c.args.left c.args.rest.now c.args.out.now c.requires.room c.requires.last _ _ c.finish-n.ensures.0 c.finish-n.ensures.1 in put.0

pub overflow_add-ports : goal.overflow_add-ports
overflow_add-ports g c =
    let put = end_put (rule_of c.args.img.now) refl c.args.left c.args.rest.now c.args.out.now c.requires.room c.requires.last _ _ c.finish-n.ensures.0 c.finish-n.ensures.1 in
    let w = told_is c.end-printed.result c.unwrap_or_else-last.result c.unwrap_or_else-last.ensures (λ e p. search (rules, of_calls)) c.end-printed.ensures.printed c.end-printed.ensures.unprinted in
    omega (arith, c.requires.printed_fits, w ∙ sym (ap length put.0) ∙ length-take-le _ _ put.1, put.1, c.finish-n.auto.out)

pub returns-in_err-printed : goal.returns-in_err-printed
returns-in_err-printed g c =
    let put = end_put (rule_of c.args.img.now) refl c.args.left c.args.rest.now c.args.out.now c.requires.room c.requires.last _ _ c.finish-n.ensures.0 c.finish-n.ensures.1 in
    let w = told_is c.end-printed.result c.unwrap_or_else-last.result c.unwrap_or_else-last.ensures (λ e p. search (rules, of_calls)) c.end-printed.ensures.printed c.end-printed.ensures.unprinted in
    ended _ _ refl refl refl w (ap length put.0) put.1 c.finish-n.auto.out

pub returns : goal.returns
returns g c =
    let put = end_put (rule_of c.args.img.now) refl c.args.left c.args.rest.now c.args.out.now c.requires.room c.requires.last _ _ c.finish-n.ensures.0 c.finish-n.ensures.1 in
    let w = told_is c.end-printed.result c.unwrap_or_else-last.result c.unwrap_or_else-last.ensures (λ e p. search (rules, of_calls)) c.end-printed.ensures.printed c.end-printed.ensures.unprinted in
    ended _ _ refl refl refl w (ap length put.0) put.1 c.finish-n.auto.out
