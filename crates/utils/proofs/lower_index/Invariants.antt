use Prim.Native.Nat.{◌-◌}
use Rattle.axis.proofs.cells.Axes.{Bracket}
use Rattle.utils.proofs.lower_index.Given as goal

abbrev pub invariant-loop-low : goal.invariant-loop-low
invariant-loop-low l = Bracket l.grid l.point l.low l.high

abbrev pub decreases-loop-low : goal.decreases-loop-low
decreases-loop-low l = l.high - l.low
