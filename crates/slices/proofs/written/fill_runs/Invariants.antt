use Rattle.std.specs.Iterator.Adapters.{enumerate_source, enumerate_count}
use Rattle.std.specs.Slice.Iter.{chunks_exact_rest, chunks_exact_size}
use Rattle.slices.proofs.Runs.{Going}
use Rattle.slices.proofs.written.fill_runs.Given as goal

abbrev pub invariant-loop-k : goal.invariant-loop-k
invariant-loop-k l = Going l.values l.n l.inner l.i l.initial.out l.out (chunks_exact_rest (enumerate_source l.k-iterator)) (chunks_exact_size (enumerate_source l.k-iterator)) (enumerate_count l.k-iterator)
