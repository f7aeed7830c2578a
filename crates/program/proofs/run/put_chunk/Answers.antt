use mathlib.Core.Path.{sym}
use Prim.Native.Nat.{◌≤◌}
use native.Mathlib.Omega.{arith}
use lib.ListN.{length}
use lib.Seq.{length-take-le}
use Rattle.lines.proofs.Blocks.{answered}
use Rattle.program.proofs.run.Places.{placed}
use Rattle.program.proofs.run.put_chunk.Goals as goal

pub slice_bounds-put_all-end : goal.slice_bounds-put_all-end
slice_bounds-put_all-end c =
    let fits : c.answer_block-done.result.written ≤ length c.answer_block-done.new.out = (omega (arith, (answered c.answer_block-done.ensures c.answer_block-done.auto.out).room, c.answer_block-done.auto.out)) in
    fits

pub slice_bounds-put_all-end-2 : goal.slice_bounds-put_all-end-2
slice_bounds-put_all-end-2 c =
    let fits : c.answer_block-done.result.written ≤ length c.answer_block-done.new.out = (omega (arith, (answered c.answer_block-done.ensures c.answer_block-done.auto.out).room, c.answer_block-done.auto.out)) in
    sym (length-take-le _ _ fits)

pub returns : goal.returns
returns c = record { block = c.answer_block-done.ensures; placed = placed (answered c.answer_block-done.ensures c.answer_block-done.auto.out).lines c.put_all.ensures }
