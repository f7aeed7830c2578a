-- Not for the reader of the promises: what the functions below the calls ask for and give one another.
-- The checker holds the code to it, and no promise cites it.
use Rattle.std.specs.Prelude.{ℕ, ◌<◌}

-- a sum over an output so far, and a number that comes to it: sums are taken modulo the prime 4294967311, over halves of a float's bits and over bytes
pub record Next (sum number : ℕ) : Type 0 where
  pub so_far : sum < 4294967311
  pub small : number < 4294967296
