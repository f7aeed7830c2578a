use Rattle.tally.specs.Scaffolding.{tally_of}
use Rattle.ninterp.proofs.CountBlocks.{Looping}
use Rattle.ninterp.proofs.records.count.count_records.Given as goal

abbrev pub invariant-loop-rec : goal.invariant-loop-rec
invariant-loop-rec l = Looping l.shape l.nodes l.values (tally_of l.initial.read l.initial.cells l.initial.numbers) l.records l.size (tally_of l.read l.cells l.numbers) l.used l.rec-iterator
