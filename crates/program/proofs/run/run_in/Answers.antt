use mathlib.Core.Path.{refl, sym}
use lib.Seq.{length-take-le}
use Rattle.lines.specs.Stream.{lines_of}
use Rattle.checks.specs.Numbers.{most_records}
use Rattle.ninterp.specs.Records.{record_rule}
use Rattle.program.proofs.run.Inputs.{run_texted}
use borrow.Author.Rules.{rules}
use Rattle.program.proofs.run.run_in.Goals as goal

pub slice_bounds-give_text-end-2 : goal.slice_bounds-give_text-end-2
slice_bounds-give_text-end-2 c = sym (length-take-le _ _ (search rules))

pub slice_bounds-give_text-end-4 : goal.slice_bounds-give_text-end-4
slice_bounds-give_text-end-4 c = sym (length-take-le _ _ (search rules))

pub returns : goal.returns
returns c =
    run_texted (λ s ns vs rs. lines_of (record_rule s ns vs) most_records rs) (c.load-loaded.ensures.loads c.requires.0 c.requires.1.0) c.load-loaded.ensures.axes_bound.1 refl c.give_text.ensures
