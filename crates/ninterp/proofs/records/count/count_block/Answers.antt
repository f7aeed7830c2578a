use Rattle.std.proofs.Common.{sym}
use borrow.Author.Tests.{leb-false}
use Rattle.ninterp.proofs.CountBlocks.{counting_none}
use Rattle.ninterp.proofs.records.count.count_block.Goals as goal

pub returns-then-not-is_whole : goal.returns-then-not-is_whole
returns-then-not-is_whole c =
    let a = c.args in
    counting_none a.shape a.nodes.now a.values.now a.t a.records.now (leb-false _ _ (sym c.if-not-is_whole.ensures))
