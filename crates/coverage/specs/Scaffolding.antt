-- Not for the reader of promises: what the functions between a block and the whole run ask for and give, held to by the checker.
use Rattle.std.specs.Prelude.{◌≡◌, true, false, ◌⊎◌, List, ◌++◌, ℕ, ◌+◌, ◌^◌, ◌≤◌, ◌<◌, Float, length, take, drop}
use Rattle.layout.specs.declared.Shape.{Shape}
use Rattle.tally.specs.declared.Tally.{Tally}
use Rattle.ninterp.specs.Records.{record_size}
use Rattle.ninterp.specs.Counting.{block_tally}
use Rattle.program.specs.declared.Counts.{Counts}
use Rattle.coverage.specs.declared.feed.Next.{Next}

-- so many bytes more can be counted
abbrev pub Countable : ℕ → ℕ → Type 0
Countable n more = n + more < 2 ^ 64

-- the size of a record; a buffer that holds so many bytes and has room for a record, and whose bytes can be counted
pub record Room (s : Shape) (size held : ℕ) (buf : List ℕ) (n : Counts) : Type 0 where
  pub sized : size ≡ record_size s
  pub holds : held ≤ length buf
  pub whole : record_size s ≤ length buf
  pub asked : Countable n.asked (length buf)
  pub read : Countable n.read (length buf)

-- A block was read into the buffer b after the bytes that are held, and counted; the whole records of both were counted in the tally, and
-- what is left of them stands at the front of the buffer c. It goes on only where records were counted, and stops only where the block did
-- not fill the buffer, or a whole record is left.
pub record Stepped (s : Shape) (nodes values : List Float) (held : ℕ) (t : Tally) (b c : List ℕ) (before after : Counts) (n : Next) : Type 0 where
  pub block : List ℕ
  pub filled : held + length block ≤ length b
  pub asked : after.asked + held ≡ before.asked + length b
  pub read : after.read ≡ before.read + length block
  pub counted : n.tally ≡ (block_tally t s nodes values (take held b ++ block)).tally
  pub left : take n.held c ≡ drop (block_tally t s nodes values (take held b ++ block)).used (take held b ++ block)
  pub holds : n.held ≤ length c
  pub goes : n.go ≡ true → t.records < n.tally.records
  pub stops : n.go ≡ false → (held + length block < length b) ⊎ (record_size s ≤ n.held)

-- nothing more was read, and so many bytes were to be printed, and counted
pub record Ended (printed : ℕ) (before after : Counts) : Type 0 where
  pub asked : after.asked ≡ before.asked
  pub read : after.read ≡ before.read
  pub told : after.printed ≡ printed
