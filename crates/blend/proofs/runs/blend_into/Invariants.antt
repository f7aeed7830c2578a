use Rattle.std.proofs.Common.{◌≡◌, ◌++◌, drop}
use Rattle.layout.specs.Layout.{tabulate}
use Rattle.blend.proofs.runs.Blends.{run_at}
use Rattle.blend.proofs.runs.blend_into.Given as goal

abbrev pub invariant-loop-i : goal.invariant-loop-i
invariant-loop-i l = l.x-items ≡ tabulate l.i (run_at l.f l.low l.high) ++ drop l.i l.initial.x-items
