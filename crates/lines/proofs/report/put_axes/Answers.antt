use mathlib.Core.Path.{◌≡◌, ap, ◌∙◌}
use native.Mathlib.Omega.{arith}
use borrow.Author.Rules.{rules}
use lib.ListN.{length}
use Rattle.lines.proofs.Reports.{axis_part, join_start, join_step, join_end, walk_start, walk_below, walk_here, walk_on, walk_end, held_cells}
use Rattle.lines.proofs.report.put_axes.Goals as goal

pub loop-a-init : goal.loop-a-init
loop-a-init c =
    let z : c.into_iter-a-iterator.result.count ≡ 0 = cc in
    (walk_start _ _ _ _ _ (cc) (cc) z, rw z (join_start _ _ _ _))

pub put_cells-next-requires : goal.put_cells-next-requires
put_cells-next-requires c =
    let s = c.in-Some.ensures.steps in
    let four : length c.args.counts ≡ 4 = search rules in
    let below = walk_below c.loop-a.invariant.0 s.0.0 in
    (omega (arith, s), (omega arith, omega (arith, s)))

pub loop-a-preserved : goal.loop-a-preserved
loop-a-preserved c =
    let s = c.in-Some.ensures.steps in
    let here = walk_here c.loop-a.invariant.0 s.0.0 s.1 in
    let part = held_cells c.args.axes c.args.counts c.in-Some.a c.saturating_sub-n.result _ (omega (arith, s)) (omega (arith, here)) in
    (rw s.2 (walk_on c.loop-a.invariant.0 s.0.0 s.0.1), rw s.2 (join_step c.loop-a.invariant.1 (omega arith) (part ∙ ap (axis_part c.args.axes c.args.counts c.args.cells.now) s.1) (omega arith) c.put_cells-next.ensures.wrote))

pub returns : goal.returns
returns c =
    let four : length c.args.counts ≡ 4 = search rules in
    let all = walk_end c.loop-a.invariant.0 (λ h. (c.in-None.ensures.steps.0 h).0) in
    record { wrote = join_end c.loop-a.invariant.1 all; upper_bound = omega arith }
