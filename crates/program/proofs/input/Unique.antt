-- The contract of each public function, as it stands in the source (`Post`), allows one outcome, of the result and of what is lent.
use mathlib.Core.Path.{◌≡◌}
use mathlib.Core.Bool.{Bool}
use mathlib.Core.List.{List}
use Prim.Native.Nat.{ℕ}
use Rattle.answer.proofs.Outcome.{one_outcome}
use Rattle.program.proofs.input.finish.Reads as finish
use Rattle.program.proofs.input.goes_on.Reads as goes_on
use Rattle.program.proofs.input.image_size.Reads as image-size

pub image_size_unique : (κs : _) (a : _) (r s : ℕ) (x y : _) → image-size.Post κs a r x → image-size.Post κs a s y → r ≡ s
image_size_unique κs a r s x y p q = one_outcome r s _ p q

pub goes_on_unique : (κs : _) (a : _) (r s : Bool) (x y : _) → goes_on.Post κs a r x → goes_on.Post κs a s y → r ≡ s
goes_on_unique κs a r s x y p q = one_outcome r s _ p q

pub finish_unique : (κs : _) (a : _) (r s : ℕ) (x y : _) → finish.Post κs a r x → finish.Post κs a s y → r ≡ s
finish_unique κs a r s x y p q = one_outcome r s _ p.0 q.0

pub finish_bytes : (κs : _) (a : _) (r s : ℕ) (x y : _) → finish.Post κs a r x → finish.Post κs a s y → ◌≡◌ {A = List ℕ} x.1.1.0.now y.1.1.0.now
finish_bytes κs a r s x y p q = one_outcome x.1.1.0.now y.1.1.0.now _ p.1 q.1
