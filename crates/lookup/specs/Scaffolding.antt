-- Not for the reader of promises: what the functions between a block and the whole run ask for and give, held to by the checker.
use Rattle.std.specs.Prelude.{◌≡◌, true, false, ◌⊎◌, List, ◌++◌, ℕ, ◌+◌, ◌-◌, ◌*◌, ◌^◌, ◌≤◌, ◌<◌, length, take, OnOk, OnErr}
use Rattle.lines.specs.Stream.{Rule}
use Rattle.lines.specs.Scaffolding.{Turned}
use Rattle.program.specs.declared.Counts.{Counts}
use Rattle.lookup.specs.declared.feed.Next.{Next}

-- so many bytes more can be counted
abbrev pub Countable : ℕ → ℕ → Type 0
Countable n more = n + more < 2 ^ 64

-- the size of a record; a buffer that holds so many bytes and has room for a record, and an output with room for a line; what both have
-- room for can be counted
pub record Room (p : Rule) (size held : ℕ) (buf out : List ℕ) (n : Counts) : Type 0 where
  pub sized : size ≡ p.size
  pub holds : held ≤ length buf
  pub whole : p.size ≤ length buf
  pub spaced : p.longest ≤ length out
  pub asked : Countable n.asked (length buf)
  pub read : Countable n.read (length buf)
  pub printed : Countable n.printed (length out)

-- no more records are answered: the limit is reached, or the rest is no whole one
abbrev pub Last : Rule → ℕ → List ℕ → Type 0
Last p left rest = (left ≡ 0) ⊎ (length rest < p.size)

-- A block was read into the buffer b after the bytes that are held, and counted, and answered with them; a text of no more bytes than
-- the output has was to be printed, and counted, and what is left of the bytes stands at the front of the buffer c. It goes on only where
-- records were answered and the output stands. Where the output stands it stops only at the limit, or where the block did not fill the
-- buffer and no whole record is left.
pub record Stepped (p : Rule) (held left : ℕ) (b c : List ℕ) (wide : ℕ) (before after : Counts) (n : Next) : Type 0 where
  pub block : List ℕ
  pub text : List ℕ
  pub filled : held + length block ≤ length b
  pub asked : after.asked + held ≡ before.asked + length b
  pub read : after.read ≡ before.read + length block
  pub told : after.printed ≡ before.printed + length text
  pub short : length text ≤ wide
  pub turned : Turned p left (take held b ++ block) text n.left (take n.held c)
  pub spent : (left - n.left) * p.size + n.held ≡ held + length block
  pub holds : n.held ≤ length c
  pub within : n.left ≤ left
  pub goes : n.go ≡ true → n.left < left
  pub fails : OnErr n.printed (n.go ≡ false)
  pub stops : n.go ≡ false → OnOk n.printed ((n.left ≡ 0) ⊎ ((held + length block < length b) × (n.held < p.size)))

-- nothing more was read, and so many bytes more, no more than the output has, were to be printed, and counted
pub record Ended (more wide : ℕ) (before after : Counts) : Type 0 where
  pub asked : after.asked ≡ before.asked
  pub read : after.read ≡ before.read
  pub printed : after.printed ≡ before.printed + more
  pub short : more ≤ wide
