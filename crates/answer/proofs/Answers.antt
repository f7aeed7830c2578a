-- What an answer holds that is made of a fault or of what follows it: each once, for every call. Assumes nothing.
use mathlib.Core.Path.{◌≡◌, refl, sym, ap, ◌∙◌, subst}
use mathlib.Core.Bool.{Bool, true, false, cond}
use Prim.Native.Nat.{ℕ, suc}
use native.Mathlib.Omega.{arith}
use borrow.Author.Tests.{eq-eqb}
use lib.Dec.{eqb}
use lib.Ieee.{Float}
use Rattle.answer.specs.Faults.{refusal, good, ◌or◌}
use Rattle.answer.specs.Answer.{plus_zero, refused, answered, fine, ◌then◌}
use Rattle.answer.specs.Faults.{Fault}
use Rattle.answer.specs.declared.Answer.{Answer}
use Rattle.answer.proofs.Orders as orders

module _ (f : Fault) (a : Answer) where
  pub then_good : good f ≡ true → (f then a) ≡ a
  unfolding ◌then◌
  then_good h = ap (λ (t : Bool). cond t a (refused f)) h

  pub then_bad : good f ≡ false → (f then a) ≡ refused f
  unfolding ◌then◌
  then_bad h = ap (λ (t : Bool). cond t a (refused f)) h

-- what is asked first of two orders, one after the other
pub then_or : (f g : Fault) (a : Answer) → ((f or g) then a) ≡ (f then g then a)
then_or f g a = go (good f) refl
  where
    go : (t : Bool) → good f ≡ t → ((f or g) then a) ≡ (f then g then a)
    go true e = ap (λ (h : Fault). h then a) (orders.or_good f g e) ∙ sym (then_good f (g then a) e)
    go false e = ap (λ (h : Fault). h then a) (orders.or_bad f g e) ∙ then_bad f a e ∙ sym (then_bad f (g then a) e)

-- ---- "A refusal has value +0.0"
pub refused_empty : (f : Fault) → (refused f).value ≡ plus_zero
unfolding refused
refused_empty f = refl

-- the number that the answer tells is the fault's, or 0
pub refused_number : (f : Fault) → eqb (refused f).number 0 ≡ good f
unfolding refused good
refused_number f = refl

-- an answer that tells 0 passed its checks
pub then_number : (f : Fault) (a : Answer) → (f then a).number ≡ 0 → good f ≡ true
then_number f a h = go (good f) refl
  where
    go : (b : Bool) → good f ≡ b → b ≡ true
    go true e = refl
    go false e = orders.clash (good f) (sym (refused_number f) ∙ eq-eqb (refused f).number 0 (sym (ap (λ (x : Answer). x.number) (then_bad f a e)) ∙ h)) e

pub answered_number : (v : Float) → (answered v).number ≡ 0
unfolding answered
answered_number v = refl

-- ---- "Success is 0, 0, 0 and the value"; "A refusal has value +0.0": one fact of an answer, which passes through an order of checks
pub record Told (a : Answer) : Type 0 where
  pub empty : (a.number ≡ 0 → ⊥) → a.value ≡ plus_zero
  pub clear : a.number ≡ 0 → a ≡ answered a.value

pub value_told : (v : Float) → Told (answered v)
unfolding answered
value_told v = record { empty = λ h. absurd (h refl); clear = λ h. refl }

pub fine-told : Told fine
unfolding fine
fine-told = value_told plus_zero

pub refused-told : (n axis place : ℕ) → Told (refused (refusal (suc n) axis place))
unfolding refused refusal
refused-told n axis place = record { empty = λ h. refl; clear = λ h. absurd (omega (arith, h)) }

pub then_told : (f : Fault) (a : Answer) → Told a → Told (f then a)
then_told f a t = go (good f) refl
  where
    bad : good f ≡ false → Told (refused f)
    bad e = record {
      empty = λ h. refused_empty f;
      clear = λ h. orders.clash (good f) (sym (refused_number f) ∙ eq-eqb (refused f).number 0 h) e;
    }

    go : (b : Bool) → good f ≡ b → Told (f then a)
    go true e = subst Told (sym (then_good f a e)) t
    go false e = subst Told (sym (then_bad f a e)) (bad e)

-- ---- "+0.0 where a call gives none": of every answer that follows its checks and gives no value, +0.0 whatever it tells, and on success 0, 0, 0
pub record Quiet (a : Answer) : Type 0 where
  pub empty : a.value ≡ plus_zero
  pub clear : a.number ≡ 0 → a ≡ fine

fine_empty : fine.value ≡ plus_zero
unfolding fine answered
fine_empty = refl

pub quiet : (f : Fault) → Quiet (f then fine)
quiet f = go (good f) refl
  where
    go : (b : Bool) → good f ≡ b → Quiet (f then fine)
    go true e = subst Quiet (sym (then_good f fine e)) (record { empty = fine_empty; clear = λ h. refl })
    go false e =
        subst Quiet (sym (then_bad f fine e))
        (record { empty = refused_empty f; clear = λ h. orders.clash (good f) (sym (refused_number f) ∙ eq-eqb (refused f).number 0 h) e })
