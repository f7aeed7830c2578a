use Rattle.std.proofs.Common.{rules, of_calls}
use lib.Seq.{length-take-le}
use mathlib.Core.Path.{refl, sym}
use native.Mathlib.Omega.{arith}
use Rattle.lines.proofs.Feeds.{filled_count}
use Rattle.program.proofs.print.Told.{told_is}
use Rattle.lookup.proofs.Tables.{of_image}
use Rattle.lookup.proofs.feed.Steps.{done_of, step_there, step_count, step_used, step_room, step_text_lem, stepped}
use Rattle.lookup.proofs.feed.step.Goals as goal

pub overflow_sub-read : goal.overflow_sub-read
overflow_sub-read g c = let h = c.requires.room.holds in omega (arith, filled_count h (c.fill-have.ensures h))

pub slice_bounds-lines-end-3 : goal.slice_bounds-lines-end-3
slice_bounds-lines-end-3 g c = step_room (done_of c.requires.room c.fill-have.ensures c.fill-have.auto.buf (of_image c.requires.table_of c.answer_block-done.ensures) c.answer_block-done.auto.out)

pub slice_bounds-lines-end-4 : goal.slice_bounds-lines-end-4
slice_bounds-lines-end-4 g c = sym (length-take-le _ _ (step_room (done_of c.requires.room c.fill-have.ensures c.fill-have.auto.buf (of_image c.requires.table_of c.answer_block-done.ensures) c.answer_block-done.auto.out)))

pub lines-printed-requires : goal.lines-printed-requires
lines-printed-requires g c = step_text_lem (done_of c.requires.room c.fill-have.ensures c.fill-have.auto.buf (of_image c.requires.table_of c.answer_block-done.ensures) c.answer_block-done.auto.out)

pub overflow_mul-used : goal.overflow_mul-used
overflow_mul-used g c =
    let k = done_of c.requires.room c.fill-have.ensures c.fill-have.auto.buf (of_image c.requires.table_of c.answer_block-done.ensures) c.answer_block-done.auto.out in
    omega (arith, step_used k, step_there k)

pub overflow_sub-rest : goal.overflow_sub-rest
overflow_sub-rest g c = step_used (done_of c.requires.room c.fill-have.ensures c.fill-have.auto.buf (of_image c.requires.table_of c.answer_block-done.ensures) c.answer_block-done.auto.out)

pub overflow_sub-more : goal.overflow_sub-more
overflow_sub-more g c = step_count (done_of c.requires.room c.fill-have.ensures c.fill-have.auto.buf (of_image c.requires.table_of c.answer_block-done.ensures) c.answer_block-done.auto.out)

pub overflow_add-ports-3 : goal.overflow_add-ports-3
overflow_add-ports-3 g c =
    let k = done_of c.requires.room c.fill-have.ensures c.fill-have.auto.buf (of_image c.requires.table_of c.answer_block-done.ensures) c.answer_block-done.auto.out in
    let w = told_is c.lines-printed.result c.unwrap_or_else-told.result c.unwrap_or_else-told.ensures (λ e p. search (rules, of_calls)) c.lines-printed.ensures.printed c.lines-printed.ensures.unprinted in
    omega (arith, w, k.block.long, step_room k, k.spaced, c.requires.room.printed)

pub returns : goal.returns
returns g c =
    let k = done_of c.requires.room c.fill-have.ensures c.fill-have.auto.buf (of_image c.requires.table_of c.answer_block-done.ensures) c.answer_block-done.auto.out in
    let w = told_is c.lines-printed.result c.unwrap_or_else-told.result c.unwrap_or_else-told.ensures (λ e p. search (rules, of_calls)) c.lines-printed.ensures.printed c.lines-printed.ensures.unprinted in
    stepped k _ c.shift.ensures c.shift.auto.buf c.lines-printed.result c.unwrap_or_else-told.result _ _ _ w c.is_ok.ensures.value c.goes_on.ensures refl refl refl
