use Rattle.std.proofs.Common.{sym}
use borrow.Author.Tests.{leb-false}
use Rattle.ninterp.proofs.RecordLines.{block_none}
use Rattle.ninterp.proofs.records.block.answer_block.Goals as goal

pub returns-then-not-is_whole : goal.returns-then-not-is_whole
returns-then-not-is_whole c =
    let a = c.args in
    block_none a.shape a.nodes.now a.values.now a.most a.records.now a.out.now (leb-false _ _ (sym c.if-not-is_whole.ensures))
