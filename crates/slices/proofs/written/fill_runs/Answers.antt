use mathlib.Core.Path.{sym, ap, ◌∙◌}
use mathlib.Core.List.{◌++◌}
use Prim.Native.Nat.{ℕ, ◌+◌, ◌-◌, ◌*◌}
use native.Mathlib.Omega.{arith}
use lib.ListN.{drop}
use borrow.Rule.Slice.PartMut.{put_mid}
use Rattle.slices.specs.Scaffolding.{run_values}
use Rattle.slices.proofs.Runs.{from_few, to_room, all_times, next_there, too_few, rest_left, run_put}
use Rattle.slices.proofs.written.fill_runs.Goals as goal

pub offset_bounds-out-to : goal.offset_bounds-out-to
offset_bounds-out-to c =
    let w = c.loop-k.invariant in
    let s = c.in-Some.ensures.steps in
    omega (arith, ap (λ (k : ℕ). k * c.args.inner) s.1, to_room c.requires _ (next_there c.args.values.now _ _ _ _ w.on w.left w.each _ _ s.0.1.0 s.0.1.1))

pub slice_bounds-copy_run-end-in-loop-k : goal.slice_bounds-copy_run-end-in-loop-k
slice_bounds-copy_run-end-in-loop-k c =
    let w = c.loop-k.invariant in
    let s = c.in-Some.ensures.steps in
    omega (arith, ap (λ (k : ℕ). k * c.args.inner) s.1, to_room c.requires _ (next_there c.args.values.now _ _ _ _ w.on w.left w.each _ _ s.0.1.0 s.0.1.1))

pub loop-k-preserved : goal.loop-k-preserved
loop-k-preserved c =
    let a = c.args in
    let w = c.loop-k.invariant in
    let s = c.in-Some.ensures.steps in
    let all = c.in-Some.all.now in
    let there = next_there a.values.now _ _ _ _ w.on w.left w.each all _ s.0.1.0 s.0.1.1 in
    let next = sym w.left ∙ s.0.1.0 in
    let many = s.0.1.1 ∙ w.each in
    record {
      each = s.0.0 ∙ w.each;
      on = omega (arith, ap (λ (k : ℕ). k * (a.n * a.inner)) s.2, there);
      left = rest_left a.values.now a.n a.inner a.i _ (from_few c.requires) all _ next many ∙ ap (λ (k : ℕ). drop (k * (a.n * a.inner)) a.values.now) (sym s.2);
      done =
          ap (λ (k : ℕ). put_mid (k * a.inner) (k * a.inner + a.inner - k * a.inner) c.loop-k.out c.copy_run.new.to) s.1
          ∙ run_put a.values.now a.n a.inner a.i _ (from_few c.requires) all _ next many a.out.now _ _ w.done c.copy_run.ensures
          ∙ ap (λ (k : ℕ). run_values a.values.now a.n a.inner a.i (k * a.inner) ++ drop (k * a.inner) a.out.now) (sym s.2);
    }

pub returns : goal.returns
returns c =
    let a = c.args in
    let w = c.loop-k.invariant in
    w.done
    ∙ ap (λ (k : ℕ). run_values a.values.now a.n a.inner a.i k ++ drop k a.out.now)
    (all_times c.requires _ w.on (too_few a.values.now _ _ _ _ w.on w.left w.each c.in-None.ensures.steps.0.1.0))
