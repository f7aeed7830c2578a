-- An order of checks tells the number of one of its rows: where no row's is above `most`, the order's is not. Assumes nothing.
use mathlib.Core.Bool.{Bool}
use Prim.Native.Nat.{ℕ, zero, suc, ◌≤◌}
use native.Mathlib.Omega.{arith}
use Rattle.answer.specs.Faults.{refusal, no_fault, good, when, ◌or◌, first_fault}
use Rattle.answer.specs.Answer.{refused, ◌then◌}
use Rattle.answer.specs.Faults.{Fault}
use Rattle.answer.specs.declared.Answer.{Answer}
use Rattle.answer.proofs.Tests.{either}

module _ (most : ℕ) where
  pub none_upto : no_fault.number ≤ most
  unfolding no_fault refusal
  none_upto = omega arith

  pub when_upto : (b : Bool) (f : Fault) → f.number ≤ most → (when b f).number ≤ most
  unfolding when
  when_upto b f h = either (λ (g : Fault). g.number ≤ most) b f no_fault h none_upto

  pub or_upto : (f g : Fault) → f.number ≤ most → g.number ≤ most → (f or g).number ≤ most
  unfolding ◌or◌
  or_upto f g p q = either (λ (h : Fault). h.number ≤ most) (good f) g f q p

  pub first_upto : (f : ℕ → Fault) (i k : ℕ) → ((j : ℕ) → (f j).number ≤ most) → (first_fault f i k).number ≤ most
  unfolding first_fault
  first_upto f i zero h = none_upto
  first_upto f i (suc k) h = or_upto (f i) (first_fault f (suc i) k) (h i) (first_upto f (suc i) k h)

  pub then_upto : (f : Fault) (a : Answer) → f.number ≤ most → a.number ≤ most → (f then a).number ≤ most
  unfolding ◌then◌ refused
  then_upto f a p q = either (λ (b : Answer). b.number ≤ most) (good f) a (refused f) q p
