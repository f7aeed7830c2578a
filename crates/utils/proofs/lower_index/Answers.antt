use Prim.Native.Nat.{◌+◌, ◌-◌, ◌/◌}
use native.Mathlib.Omega.{arith}
use Rattle.axis.proofs.cells.Axes.{bracket_start, bracket_up, bracket_down, lowest, highest, met_above, met_first, met_never}
use Rattle.binary64.proofs.Order.{le_of_lt}
use Rattle.utils.proofs.lower_index.Goals.{else-low-gt0-via-then-low-gt0+else-grid-low, else-low-gt0-via-else-low-gt0}
use Rattle.utils.proofs.lower_index.Goals as goal

pub returns-then-point-grid : goal.returns-then-point-grid
returns-then-point-grid c = lowest c.args.grid.now c.args.point c.requires.axis c.requires.reading (le_of_lt _ _ c.requires.reading (c.requires.axis.finites 0 (let n = c.requires.axis.enough in omega arith)) c.if-point-grid.true)

pub returns-then-point-grid-2 : goal.returns-then-point-grid-2
returns-then-point-grid-2 c = highest c.args.grid.now c.args.point c.requires.axis c.requires.reading c.if-point-grid-2.true

pub loop-low-init : goal.loop-low-init
loop-low-init c = bracket_start c.args.grid.now c.args.point c.requires.axis c.requires.reading c.if-point-grid-2.false

pub loop-low-preserved-then-grid-mid : goal.loop-low-preserved-then-grid-mid
loop-low-preserved-then-grid-mid c =
    bracket_down c.args.grid.now c.args.point c.requires.axis c.requires.reading c.loop-low.low c.loop-low.high c.loop-low.invariant (c.loop-low.low + (c.loop-low.high - c.loop-low.low) / 2) (omega arith) (omega arith) c.if-grid-mid.true

pub loop-low-preserved : goal.loop-low-preserved
loop-low-preserved c =
    bracket_up c.args.grid.now c.args.point c.requires.axis c.requires.reading c.loop-low.low c.loop-low.high c.loop-low.invariant (c.loop-low.low + (c.loop-low.high - c.loop-low.low) / 2) (omega arith) (omega arith) c.if-grid-mid.false

pub returns-then-grid-low : goal.returns-then-grid-low
returns-then-grid-low c =
    met_above c.args.grid.now c.args.point c.requires.axis c.requires.reading c.loop-low.low c.loop-low.high c.loop-low.invariant c.loop-low-test.false

pub returns-else-low-gt0 : goal.returns-else-low-gt0
returns-else-low-gt0 c =
    let g = c.args.grid.now in
    let p = c.args.point in
    elim c.else-low-gt0.branch [
      | else-low-gt0-via-then-low-gt0+else-grid-low w ↦ met_never g p c.requires.axis c.requires.reading c.loop-low.low c.loop-low.high c.loop-low.invariant c.loop-low-test.false w.if-grid-low.false
      | else-low-gt0-via-else-low-gt0 w ↦ met_first g p c.requires.axis c.requires.reading c.loop-low.low c.loop-low.high c.loop-low.invariant c.loop-low-test.false w.if-low-gt0.false
    ]
