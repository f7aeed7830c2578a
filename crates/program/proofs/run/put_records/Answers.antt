use mathlib.Core.Path.{◌≡◌, refl, ap}
use mathlib.Core.Logic.{◌⊎◌, inl, inr}
use Prim.Native.Nat.{ℕ, ◌+◌, ◌-◌, ◌*◌, ◌≤◌, ◌<◌}
use native.Mathlib.Omega.{arith}
use lib.ListN.{length}
use Rattle.ninterp.specs.Records.{record_rule, record_size}
use Rattle.checks.specs.Numbers.{most_records}
use Rattle.program.proofs.run.Walks.{Took, walk_start, took, walk_step, walk_end}
use Rattle.program.proofs.run.put_records.Goals as goal
use Rattle.program.proofs.run.put_records.Goals.{then-loop-left-test+else-records-at, else-loop-left-test}

pub loop-left-init : goal.loop-left-init
loop-left-init c = walk_start _ most_records _ _ _ c.requires.1

pub overflow_mul-at : goal.overflow_mul-at
overflow_mul-at c =
    let sized : c.args.size ≡ record_size c.args.shape = (c.requires.0) in
    let enough : record_size c.args.shape ≤ length c.args.records.now - c.loop-left.at = omega (arith, sized, c.if-records-at.true) in
    let taken : Took (record_rule c.args.shape c.args.nodes.now c.args.values.now) c.args.records.now c.loop-left.at c.loop-left.left c.put_chunk-done.result.count c.put_chunk-done.result.written = (took c.loop-left.invariant c.put_chunk-done.ensures.block c.put_chunk-done.auto.chunk c.loop-left-test.true enough (omega arith)) in
    let used : c.put_chunk-done.result.count * c.args.size ≡ c.put_chunk-done.result.count * record_size c.args.shape = (ap (λ (n : ℕ). c.put_chunk-done.result.count * n) sized) in
    let there : c.loop-left.at + c.put_chunk-done.result.count * c.args.size ≤ length c.args.records.now = (omega (arith, taken.bytes, used)) in
    omega (arith, there)

pub overflow_add-at : goal.overflow_add-at
overflow_add-at c =
    let sized : c.args.size ≡ record_size c.args.shape = (c.requires.0) in
    let enough : record_size c.args.shape ≤ length c.args.records.now - c.loop-left.at = omega (arith, sized, c.if-records-at.true) in
    let taken : Took (record_rule c.args.shape c.args.nodes.now c.args.values.now) c.args.records.now c.loop-left.at c.loop-left.left c.put_chunk-done.result.count c.put_chunk-done.result.written = (took c.loop-left.invariant c.put_chunk-done.ensures.block c.put_chunk-done.auto.chunk c.loop-left-test.true enough (omega arith)) in
    let used : c.put_chunk-done.result.count * c.args.size ≡ c.put_chunk-done.result.count * record_size c.args.shape = (ap (λ (n : ℕ). c.put_chunk-done.result.count * n) sized) in
    let there : c.loop-left.at + c.put_chunk-done.result.count * c.args.size ≤ length c.args.records.now = (omega (arith, taken.bytes, used)) in
    omega (arith, there)

pub overflow_sub-left : goal.overflow_sub-left
overflow_sub-left c =
    let sized : c.args.size ≡ record_size c.args.shape = (c.requires.0) in
    let enough : record_size c.args.shape ≤ length c.args.records.now - c.loop-left.at = omega (arith, sized, c.if-records-at.true) in
    let taken : Took (record_rule c.args.shape c.args.nodes.now c.args.values.now) c.args.records.now c.loop-left.at c.loop-left.left c.put_chunk-done.result.count c.put_chunk-done.result.written = (took c.loop-left.invariant c.put_chunk-done.ensures.block c.put_chunk-done.auto.chunk c.loop-left-test.true enough (omega arith)) in
    taken.most

pub overflow_add-total : goal.overflow_add-total
overflow_add-total c =
    let sized : c.args.size ≡ record_size c.args.shape = (c.requires.0) in
    let enough : record_size c.args.shape ≤ length c.args.records.now - c.loop-left.at = omega (arith, sized, c.if-records-at.true) in
    let taken : Took (record_rule c.args.shape c.args.nodes.now c.args.values.now) c.args.records.now c.loop-left.at c.loop-left.left c.put_chunk-done.result.count c.put_chunk-done.result.written = (took c.loop-left.invariant c.put_chunk-done.ensures.block c.put_chunk-done.auto.chunk c.loop-left-test.true enough (omega arith)) in
    omega (arith, taken.short, taken.most, c.loop-left.invariant.bound)

pub loop-left-smaller : goal.loop-left-smaller
loop-left-smaller c =
    let sized : c.args.size ≡ record_size c.args.shape = (c.requires.0) in
    let enough : record_size c.args.shape ≤ length c.args.records.now - c.loop-left.at = omega (arith, sized, c.if-records-at.true) in
    let taken : Took (record_rule c.args.shape c.args.nodes.now c.args.values.now) c.args.records.now c.loop-left.at c.loop-left.left c.put_chunk-done.result.count c.put_chunk-done.result.written = (took c.loop-left.invariant c.put_chunk-done.ensures.block c.put_chunk-done.auto.chunk c.loop-left-test.true enough (omega arith)) in
    omega (arith, taken.some, taken.most)

pub loop-left-preserved : goal.loop-left-preserved
loop-left-preserved c =
    let sized : c.args.size ≡ record_size c.args.shape = (c.requires.0) in
    let enough : record_size c.args.shape ≤ length c.args.records.now - c.loop-left.at = omega (arith, sized, c.if-records-at.true) in
    let used : c.put_chunk-done.result.count * c.args.size ≡ c.put_chunk-done.result.count * record_size c.args.shape = (ap (λ (n : ℕ). c.put_chunk-done.result.count * n) sized) in
    walk_step c.loop-left.invariant c.put_chunk-done.ensures.block c.put_chunk-done.auto.chunk c.loop-left-test.true enough (omega arith) _ used c.put_chunk-done.ensures.placed c.put_chunk-done.auto.out

pub returns : goal.returns
returns c =
    let sized : c.args.size ≡ record_size c.args.shape = (c.requires.0) in
    let ended : (c.loop-left.left ≡ 0) ⊎ (length c.args.records.now - c.loop-left.at < record_size c.args.shape) =
    elim c.loop-left-test.branch [
      | then-loop-left-test+else-records-at w ↦ inr (omega (arith, sized, w.if-records-at.false))
      | else-loop-left-test w ↦ inl (omega (arith, w.loop-left-test.false))
    ] in
    walk_end c.loop-left.invariant refl ended c.put_end.ensures.placed c.put_end.auto.out
