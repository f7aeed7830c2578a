use mathlib.Core.Path.{sym, ap, ◌∙◌}
use mathlib.Core.List.{◌++◌}
use Prim.Native.Nat.{ℕ, ◌*◌}
use native.Mathlib.Omega.{arith}
use lib.ListN.{drop, get_or, set}
use lib.Ieee.{nan}
use Rattle.slices.specs.Scaffolding.{run_values}
use Rattle.slices.proofs.Runs.{from_few, to_room, all_times, next_there, too_few, rest_left, value_put}
use Rattle.slices.proofs.written.fill_last.Goals as goal

pub loop-k-preserved : goal.loop-k-preserved
loop-k-preserved c =
    let a = c.args in
    let w = c.loop-k.invariant in
    let s = c.in-Some.ensures.steps in
    let all = c.in-Some.all.now in
    let there = next_there a.values.now _ _ _ _ w.on w.left w.each all _ s.0.1.0 s.0.1.1 in
    let next = sym w.left ∙ s.0.1.0 in
    let many = s.0.1.1 ∙ w.each in
    record {
      each = s.0.0 ∙ w.each;
      on = omega (arith, ap (λ (k : ℕ). k * (a.n * 1)) s.2, there);
      left = rest_left a.values.now a.n 1 a.i _ (from_few c.requires) all _ next many ∙ ap (λ (k : ℕ). drop (k * (a.n * 1)) a.values.now) (sym s.2);
      done =
          ap (λ (k : ℕ). set c.loop-k.out k (get_or all a.i nan)) s.1
          ∙ value_put a.values.now a.n a.i _ (from_few c.requires) all _ next many a.out.now _ w.done (omega (arith, to_room c.requires _ there))
          ∙ ap (λ (k : ℕ). run_values a.values.now a.n 1 a.i (k * 1) ++ drop (k * 1) a.out.now) (sym s.2);
    }

pub returns : goal.returns
returns c =
    let a = c.args in
    let w = c.loop-k.invariant in
    w.done
    ∙ ap (λ (k : ℕ). run_values a.values.now a.n 1 a.i k ++ drop k a.out.now)
    (all_times c.requires _ w.on (too_few a.values.now _ _ _ _ w.on w.left w.each c.in-None.ensures.steps.0.1.0))
