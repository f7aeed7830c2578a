-- The contract of the public function, as it stands in the source (`Post`), allows one outcome of what is lent.
use mathlib.Core.Path.{◌≡◌}
use mathlib.Core.List.{List}
use Prim.Native.Nat.{ℕ}
use Rattle.answer.proofs.Outcome.{one_outcome}
use Rattle.program.proofs.turns.shift.Reads as shift

pub shift_bytes : (κs : _) (a : _) (r s : _) (x y : _) → shift.Post κs a r x → shift.Post κs a s y → ◌≡◌ {A = List ℕ} x.0.now y.0.now
shift_bytes κs a r s x y p q = one_outcome x.0.now y.0.now _ p q
