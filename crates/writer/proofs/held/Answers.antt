use Rattle.writer.proofs.Headers.{sizes_told, holds}
use Rattle.writer.proofs.held.Goals as goal

pub unwrap-requires : goal.unwrap-requires
unwrap-requires c = sizes_told _ c.requires _ c.sizes.ensures.fault

pub returns : goal.returns
returns c = holds _ c.requires _ (rw c.unwrap.ensures at c.sizes.ensures.held)
