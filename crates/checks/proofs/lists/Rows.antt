-- What passing the row of the readings says. Assumes nothing.
use mathlib.Core.Path.{◌≡◌}
use mathlib.Core.Bool.{true}
use mathlib.Core.List.{List}
use Prim.Native.Nat.{ℕ, ◌<◌}
use native.Mathlib.Omega.{arith}
use lib.ListN.{length, get_or}
use lib.Ieee.{Float, nan}
use lib.Ieee.Scale.{finite}
use Rattle.answer.specs.Faults.{good}
use Rattle.answer.proofs.Orders as orders
use Rattle.checks.specs.Numbers.{reading_fault, readings_fault}
use Rattle.checks.proofs.numbers.Rows.{reading_finite}

pub readings_finite : (readings : List Float) → good (readings_fault readings) ≡ true → (a : ℕ) → a < length readings → finite (get_or readings a nan) ≡ true
unfolding readings_fault
readings_finite readings h a l = reading_finite a (get_or readings a nan) (orders.all_passed (λ b. reading_fault b (get_or readings b nan)) 0 (length readings) h a (omega arith) (omega arith))
