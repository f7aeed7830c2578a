-- Laws of orders of checks by a fault's number that was tested, and of a table's order with a rule's own row at its end: steps that the code no
-- longer takes. They hold as they did; no proof stands on them.
use mathlib.Core.Path.{◌≡◌, sym, ap, ◌∙◌}
use Rattle.answer.specs.Faults.{Fault, ◌or◌, given}
use Rattle.answer.specs.Answer.{refused, ◌then◌}
use Rattle.answer.specs.declared.Answer.{Answer}
use Rattle.answer.proofs.Orders.{or_assoc, given-good, given_bad}
use Rattle.answer.proofs.Answers.{then_good, then_bad}
use Rattle.laws.proofs.Kept.{passes, fails}

-- ---- what is given besides: r is what a check gave, and its number was tested
module _ (r a : Fault) (e : r ≡ a) where
  module _ {A : Type 0} (x zeros : A) where
    pub given-refused : (r.number ≡ 0 → ⊥) → zeros ≡ given a x zeros
    given-refused h = sym (given_bad a x zeros (fails r a e h))

    pub given_kept : (y : A) → r.number ≡ 0 → y ≡ x → y ≡ given a x zeros
    given_kept y h q = q ∙ sym (given-good a x zeros (passes r a e h))

-- ---- the answer: r is what the checks gave, and its number was tested
module _ (r f : Fault) (e : r ≡ f) where
  pub then_stops : (b a : Answer) → (r.number ≡ 0 → ⊥) → b ≡ refused r → b ≡ (f then a)
  then_stops b a h q = q ∙ ap refused e ∙ sym (then_bad f a (fails r f e h))

  pub then_goes_on : (b a : Answer) → r.number ≡ 0 → b ≡ a → b ≡ (f then a)
  then_goes_on b a h q = q ∙ sym (then_good f a (passes r f e h))

-- ---- a rule's own row after those of a table
pub own_last : (f l a v o : Fault) → ((f or l or a or v) or o) ≡ (f or l or a or v or o)
own_last f l a v o = or_assoc f (l or a or v) o ∙ ap (λ (x : Fault). f or x) (or_assoc l (a or v) o ∙ ap (λ (x : Fault). l or x) (or_assoc a v o))

-- two that were lent
pub two_lent : (f l m rest : Fault) → (f or (l or m) or rest) ≡ (f or l or m or rest)
two_lent f l m rest = ap (λ (x : Fault). f or x) (or_assoc l m rest)
