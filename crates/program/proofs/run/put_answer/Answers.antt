use mathlib.Core.Path.{sym}
use lib.Seq.{length-take-le}
use native.Mathlib.Omega.{arith}
use Rattle.lines.proofs.Shows.{line_wrote}
use Rattle.program.proofs.run.Places.{placed}
use borrow.Author.Rules.{rules}
use Rattle.program.proofs.run.put_answer.Goals as goal

pub slice_bounds-put_all-end-2 : goal.slice_bounds-put_all-end-2
slice_bounds-put_all-end-2 c = sym (length-take-le _ _ (search rules))

pub returns : goal.returns
returns c =
    placed (line_wrote c.args.a c.args.chunk.now 0 (omega (arith, c.requires)) c.put_line-n.ensures.value.0 c.put_line-n.ensures.value.1) c.put_all.ensures
