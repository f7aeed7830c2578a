-- Not for the reader of the promises: what the functions below the calls ask for and give one another.
-- The checker holds the code to it, and no promise cites it.
use Rattle.std.specs.Prelude.{◌≡◌, true, List, Float}
use Rattle.std.specs.Float.Ieee.Scale.{finite}
use Rattle.checks.specs.Passed.{Axis}

-- what is known of an axis and a reading that passed 2, 4, 5, 6 and 10
pub record ReadableAxis (nodes : List Float) (p : Float) : Type 0 where
  pub axis : Axis nodes
  pub reading : finite p ≡ true
