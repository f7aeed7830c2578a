use mathlib.Core.Path.{sym, ap}
use lib.Ieee.{of_bits}
use Rattle.answer.specs.declared.Answer.{Answer}
use Rattle.rust.specs.declared.AxisLocation.{AxisLocation}
use Rattle.axis.specs.Locations.{location_index}
use Rattle.utils.specs.Calls.{location_fraction}
use Rattle.board.specs.Plain.{between_of, plain_location}
use Rattle.board.specs.declared.plain.PlainLocation.{PlainLocation}
use Rattle.board.proofs.plain.PlainLocationFromAxisAnswer.from.Goals as goal

abbrev with_location : Answer → AxisLocation → PlainLocation
with_location a l = record { answer = a; between = between_of l; index = location_index l; fraction = location_fraction l }

pub returns-in-Exact : goal.returns-in-Exact
unfolding plain_location of_bits
returns-in-Exact c = sym (ap (with_location c.args.located.answer) c.in-Exact.is)

pub returns-in-Between : goal.returns-in-Between
unfolding plain_location
returns-in-Between c = sym (ap (with_location c.args.located.answer) c.in-Between.is)
