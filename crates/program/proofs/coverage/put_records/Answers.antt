use mathlib.Core.Path.{◌≡◌, ap, ◌∙◌}
use Prim.Native.Nat.{◌≤◌}
use native.Mathlib.Omega.{arith}
use lib.ListN.{length}
use Rattle.tally.specs.declared.Tally.{Tally}
use Rattle.tally.specs.Counts.{none_read}
use Rattle.ninterp.specs.Counting.{block_tally}
use Rattle.ninterp.specs.declared.records.count.BlockTally.{BlockTally}
use Rattle.ninterp.proofs.CoverageBlocks.{block_used}
use Rattle.program.proofs.coverage.Reports.{report_fronted}
use Rattle.program.proofs.coverage.put_records.Goals as goal

pub slice_bounds-finish-count : goal.slice_bounds-finish-count
slice_bounds-finish-count c =
    let counted : c.count_block-done.result ≡ block_tally none_read c.args.shape c.args.nodes.now c.args.values.now c.args.records.now = (let a = c.args in c.count_block-done.ensures ∙ ap (λ (t : Tally). block_tally t a.shape a.nodes.now a.values.now a.records.now) c.none_read.ensures) in
    let inside : c.count_block-done.result.used ≤ length c.args.records.now = (let a = c.args in omega (arith, ap (λ (d : BlockTally). d.used) counted, block_used none_read a.shape a.nodes.now a.values.now a.records.now)) in
    inside

pub slice_bounds-finish-start : goal.slice_bounds-finish-start
slice_bounds-finish-start c =
    let counted : c.count_block-done.result ≡ block_tally none_read c.args.shape c.args.nodes.now c.args.values.now c.args.records.now = (let a = c.args in c.count_block-done.ensures ∙ ap (λ (t : Tally). block_tally t a.shape a.nodes.now a.values.now a.records.now) c.none_read.ensures) in
    let inside : c.count_block-done.result.used ≤ length c.args.records.now = (let a = c.args in omega (arith, ap (λ (d : BlockTally). d.used) counted, block_used none_read a.shape a.nodes.now a.values.now a.records.now)) in
    inside

pub returns : goal.returns
returns c =
    let counted : c.count_block-done.result ≡ block_tally none_read c.args.shape c.args.nodes.now c.args.values.now c.args.records.now = (let a = c.args in c.count_block-done.ensures ∙ ap (λ (t : Tally). block_tally t a.shape a.nodes.now a.values.now a.records.now) c.none_read.ensures) in
    let a = c.args in
    record { fronted = report_fronted a.shape a.nodes.now a.values.now c.requires.0 a.records.now _ counted c.requires.1 c.finish.ensures.value.0 c.finish.ensures.value.1; upper_bound = omega (arith, c.finish.ensures.upper_bound, c.requires.1) }
