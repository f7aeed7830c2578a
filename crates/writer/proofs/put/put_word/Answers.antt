use Rattle.writer.proofs.Puts.{word_put}
use Rattle.writer.proofs.put.put_word.Goals as goal

pub returns : goal.returns
returns c = word_put _ _ _ _ _ _ c.requires.width c.requires.room c.to_le_bytes-bytes.ensures c.copy_from_slice.ensures.after
