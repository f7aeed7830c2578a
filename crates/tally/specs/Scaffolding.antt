-- Not for the reader of the promises: what the functions below the calls ask for and give one another.
-- The checker holds the code to it, and no promise cites it.
use Rattle.std.specs.Prelude.{List, ℕ}
use Rattle.tally.specs.declared.Tally.{Tally}

-- a tally of its parts
abbrev pub tally_of : ℕ → List ℕ → List ℕ → Tally
tally_of records cells numbers = record { records = records; cells = cells; numbers = numbers }
