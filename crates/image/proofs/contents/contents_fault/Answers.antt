use Rattle.std.proofs.Common.{◌∙◌, sym, ap, ap₂, rules, List, length-take-le}
use lib.Ieee.{Float}
use Rattle.answer.specs.Faults.{◌or◌}
use Rattle.layout.specs.Shape.{counts_of}
use Rattle.layout.specs.declared.Shape.{Shape}
use Rattle.checks.specs.Numbers.{axes_fault, values_fault}
use Rattle.image.specs.Fields.{shape_of}
use Rattle.image.specs.Load.{contents_fault}
use Rattle.image.proofs.Floats.{nodes_few, values_few, nodes_held, values_held}
use Rattle.image.proofs.contents.contents_fault.Goals as goal

pub slice_bounds-nodes-end-2 : goal.slice_bounds-nodes-end-2
slice_bounds-nodes-end-2 c = let few = nodes_few _ _ c.requires in sym (length-take-le _ _ (search rules))

pub slice_bounds-values-end-2 : goal.slice_bounds-values-end-2
slice_bounds-values-end-2 c = let few = values_few _ _ c.requires in sym (length-take-le _ _ (search rules))

pub read-requires : goal.read-requires
read-requires c =
    let few = nodes_few _ _ c.requires in
    let small = values_few _ _ c.requires in
    record { judged = c.requires.judged; nodes_room = length-take-le _ _ (search rules) ∙ nodes_held _ _ c.requires; values_room = length-take-le _ _ (search rules) ∙ values_held _ _ c.requires }

pub returns : goal.returns
unfolding contents_fault
returns c =
    c.stored_fault.ensures
    ∙ ap (λ (s : Shape). axes_fault (counts_of s) c.read.new.nodes or values_fault c.read.new.values) c.shape_of.ensures
    ∙ ap₂ (λ (xs ys : List Float). axes_fault (counts_of (shape_of c.args.img.now)) xs or values_fault ys) c.read.ensures.nodes c.read.ensures.values
