use Rattle.std.proofs.Common.{◌≡◌, ◌-◌}
use Rattle.answer.specs.Faults.{first_fault}
use Rattle.image.specs.Fields.{axes_field}
use Rattle.image.specs.Head.{offset_row}
use Rattle.image.proofs.rows.offsets_fault.Given as goal

abbrev pub invariant-loop-a : goal.invariant-loop-a
invariant-loop-a l = first_fault (offset_row l.img) (axes_field l.img) (4 - axes_field l.img) ≡ first_fault (offset_row l.img) l.a (4 - l.a)
