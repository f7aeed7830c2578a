use mathlib.Core.Path.{ap₂}
use lib.Ieee.{Float, of_bits, binary64, sub, mul}
use Rattle.checks.specs.Nodes.{gap}
use Rattle.checks.specs.Numbers.{default_tolerance}
use Rattle.checks.proofs.spacing.default_tolerance.Goals as goal

pub returns : goal.returns
unfolding default_tolerance gap of_bits
returns c = ap₂ (λ (x y : Float). mul binary64 (sub binary64 x y) (of_bits binary64 4418031234450456576)) c.at_or_nan.ensures c.at_or_nan-2.ensures
