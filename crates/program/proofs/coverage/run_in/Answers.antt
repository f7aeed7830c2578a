use mathlib.Core.Path.{sym}
use lib.Seq.{length-take-le}
use native.Mathlib.Omega.{arith}
use Rattle.program.specs.Coverage.{coverage_report}
use Rattle.program.proofs.front.Loads.{table_shape}
use Rattle.program.proofs.run.Places.{fronted_take}
use Rattle.program.proofs.run.Inputs.{run_texted}
use borrow.Author.Rules.{rules}
use Rattle.program.proofs.coverage.run_in.Goals as goal

pub slice_bounds-put_text-end-2 : goal.slice_bounds-put_text-end-2
slice_bounds-put_text-end-2 c = sym (length-take-le _ _ (search rules))

pub slice_bounds-put_text-end-4 : goal.slice_bounds-put_text-end-4
slice_bounds-put_text-end-4 c = sym (length-take-le _ _ (search rules))

pub put_text-long-requires : goal.put_text-long-requires
put_text-long-requires c =
    (λ z. table_shape ((c.load-loaded.ensures.loads c.requires.0 c.requires.1.0).table z), c.requires.1.1)

pub slice_bounds-give-end-2 : goal.slice_bounds-give-end-2
slice_bounds-give-end-2 c = sym (length-take-le _ _ (search rules))

pub returns : goal.returns
returns c =
    run_texted coverage_report (c.load-loaded.ensures.loads c.requires.0 c.requires.1.0) c.load-loaded.ensures.axes_bound.1
    (fronted_take c.put_text-long.ensures.fronted (omega (arith, c.put_text-long.ensures.upper_bound, c.requires.1.1))) c.give.ensures
