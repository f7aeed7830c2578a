use Rattle.program.proofs.input.Ends.{size_short, size_long, size_stated}
use Rattle.program.proofs.input.image_size.Goals as goal

pub returns-then-stated-lt-HEADER : goal.returns-then-stated-lt-HEADER
returns-then-stated-lt-HEADER c = size_short _ _ c.word-stated.ensures.0 c.if-stated-lt-HEADER.true

pub returns-then-stated-gt-MOST_BYTES : goal.returns-then-stated-gt-MOST_BYTES
returns-then-stated-gt-MOST_BYTES c = size_long _ _ c.word-stated.ensures.0 c.if-stated-gt-MOST_BYTES.true

pub returns : goal.returns
returns c = size_stated _ _ c.word-stated.ensures.0 c.if-stated-lt-HEADER.false c.if-stated-gt-MOST_BYTES.false
