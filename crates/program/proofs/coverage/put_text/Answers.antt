use native.Mathlib.Omega.{arith}
use Rattle.lines.proofs.Shows.{line_wrote}
use Rattle.program.proofs.run.Places.{wrote_fronted}
use Rattle.program.proofs.run.Gives.{line_fronted, text_fronted}
use Rattle.program.proofs.coverage.put_text.Goals as goal

pub returns-then-loaded-ne0 : goal.returns-then-loaded-ne0
returns-then-loaded-ne0 c =
    let e = c.put_line.ensures in
    record { fronted = line_fronted _ _ c.if-loaded-ne0.true (wrote_fronted (line_wrote c.args.loaded c.args.chunk.now 0 (omega (arith, c.requires.1)) e.value.0 e.value.1)); upper_bound = omega (arith, e.upper_bound) }

pub put_records-requires : goal.put_records-requires
put_records-requires c =
    (c.requires.0 c.if-loaded-ne0.false, c.requires.1)

pub returns : goal.returns
returns c = record { fronted = text_fronted _ _ c.if-loaded-ne0.false c.put_records.ensures.fronted; upper_bound = c.put_records.ensures.upper_bound }
