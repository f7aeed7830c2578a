use mathlib.Core.Path.{ap, ◌∙◌}
use native.Mathlib.Omega.{arith}
use lib.Ieee.{Float, of_bits, nan}
use Rattle.std.proofs.Common.{Option}
use Rattle.std.specs.Option.{unwrap_or}
use Rattle.checks.proofs.ranges.at_or_nan.Goals as goal

pub returns : goal.returns
unfolding of_bits
returns c = c.unwrap_or.ensures ∙ ap (λ (x : Option Float). unwrap_or x nan) c.copied.ensures ∙ c.get.ensures.lookup.4 (omega arith) nan
