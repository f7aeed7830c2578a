-- The tally after the records of an input, and what it means that a tally stands for bytes that are gone. Definitions alone.
use mathlib.Core.Path.{◌≡◌}
use mathlib.Core.List.{List, ◌++◌, map}
use Prim.Native.Nat.{ℕ, ◌+◌, ◌-◌, ◌*◌, ◌≤◌}
use lib.ListN.{length}
use lib.Ieee.{Float}
use Rattle.layout.specs.declared.Shape.{Shape}
use Rattle.checks.specs.Numbers.{most_records}
use Rattle.tally.specs.declared.Tally.{Tally}
use Rattle.tally.specs.Counts.{none_read, count_all}
use Rattle.ninterp.specs.Records.{record_size}
use Rattle.ninterp.specs.Coverage.{records_in}
use Rattle.ninterp.specs.Counting.{outcome_of}

-- the tally after the records of an input, as many as may still come
unfoldable pub tally_after : Tally → Shape → List Float → List Float → List ℕ → Tally
tally_after t s nodes values input = count_all t (map (outcome_of s nodes values) (records_in (record_size s) (most_records - t.records) input))

-- Of the bytes that were read, t counts the records before the rest. Whatever bytes come next, the tally after the rest and them is the
-- tally after all of them.
pub record Counted (s : Shape) (nodes values : List Float) (bytes : List ℕ) (t : Tally) (rest : List ℕ) : Type 0 where
  pub within : t.records ≤ most_records
  pub spent : t.records * record_size s + length rest ≡ length bytes
  pub after : (more : List ℕ) → tally_after none_read s nodes values (bytes ++ more) ≡ tally_after t s nodes values (rest ++ more)
