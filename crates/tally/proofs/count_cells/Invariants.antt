use mathlib.Core.Path.{◌≡◌}
use lib.ListN.{drop}
use Rattle.tally.specs.Tally.{cells_more}
use Rattle.tally.proofs.count_cells.Given as goal

abbrev pub invariant-loop-a : goal.invariant-loop-a
invariant-loop-a l = cells_more l.cells l.a (drop l.a l.found) ≡ cells_more l.initial.cells 0 l.found
