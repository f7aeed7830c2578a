use borrow.Author.Tests.{lt-ltb, le-ltb}
use Rattle.slices.proofs.remaining.axis_past.Goals as goal

pub returns-then-a-axis : goal.returns-then-a-axis
returns-then-a-axis c = simp (lt-ltb _ _ c.if-a-axis.true)

pub returns-else-a-axis : goal.returns-else-a-axis
returns-else-a-axis c = simp (le-ltb _ _ c.if-a-axis.false)
