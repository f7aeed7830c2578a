use mathlib.Core.Path.{sym, ap₂, ◌∙◌}
use mathlib.Core.List.{List}
use Prim.Native.Nat.{◌+◌, ◌*◌}
use native.Mathlib.Omega.{arith}
use lib.Ieee.{Float}
use Rattle.blend.specs.Scaffolding.{blends, blended_into}
use Rattle.checks.specs.Numbers.{results_fault}
use Rattle.slices.proofs.Sliced.{kept, written}
use Rattle.slices.proofs.Alongs.{low_run, high_run, long_run, into_blends, length-blends}
use Rattle.slices.proofs.written.blend_runs.Goals as goal

pub returns-in_err-blend_fault : goal.returns-in_err-blend_fault
returns-in_err-blend_fault c =
    let a = c.args in
    let from = a.lower * a.rest in
    let low = low_run a.values.now from a.rest _ c.split_at.ensures.front in
    let high = high_run a.values.now from a.rest _ c.split_at.ensures.back in
    let told = c.in_err-blend_fault.ensures ∙ ap₂ (λ (xs ys : List Float). results_fault (blends a.frac xs ys)) low high in
    kept _ _ _ told _ c.from_residual.ensures _ _

pub returns : goal.returns
returns c =
    let a = c.args in
    let from = a.lower * a.rest in
    let low = low_run a.values.now from a.rest _ c.split_at.ensures.front in
    let high = high_run a.values.now from a.rest _ c.split_at.ensures.back in
    let told = c.in_ok-blend_fault.ensures ∙ ap₂ (λ (xs ys : List Float). results_fault (blends a.frac xs ys)) low high in
    let long_low = long_run a.values.now from a.rest from (omega (arith, c.requires.reach)) in
    let long_high = long_run a.values.now from a.rest (from + a.rest) c.requires.reach in
    written _ _ told _ _ _ a.rest (sym (length-blends a.frac _ _ a.rest long_low long_high)) _
    (c.blend_into.ensures ∙ ap₂ (λ (xs ys : List Float). blended_into a.frac xs ys a.out.now) low high ∙ into_blends a.frac _ _ a.out.now a.rest long_low long_high c.requires.enough)
