-- Not for the reader of the promises: what the functions below the calls ask for and give one another.
-- The checker holds the code to it, and no promise cites it.
use Rattle.std.specs.Prelude.{List, ◌+◌, ◌≤◌, length, Float}
use Rattle.test_replay.specs.declared.tables.Table.{Table}

-- a table's nodes and values are there: as many of them as it has
abbrev pub HoldsTable : Table → List Float → Type 0
HoldsTable t floats = t.nodes + t.values ≤ length floats
