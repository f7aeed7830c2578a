-- An answer of a slice beside the whole table's: axes above the removed one are one lower in 10 and 11. Assumes nothing.
use mathlib.Core.Path.{◌≡◌, refl, sym, ap, ◌∙◌, subst}
use mathlib.Core.Bool.{Bool, true, false, ◌&&◌, ◌||◌, cond}
use Prim.Native.Nat.{ℕ, zero, suc, ◌+◌, ◌-◌, ◌≤◌, ◌<◌}
use native.Mathlib.Omega.{arith}
use borrow.Author.Tests.{lt-ltb, le-ltb}
use lib.Dec.{eqb, ltb}
use lib.Ieee.{Float}
use Rattle.answer.specs.Faults.{Fault, refusal, no_fault, good, when, ◌or◌, first_fault}
use Rattle.answer.specs.Answer.{refused, answered, ◌then◌}
use Rattle.answer.specs.declared.Answer.{Answer}
use Rattle.answer.proofs.Orders as orders
use Rattle.answer.proofs.Tests.{and_false}
use Rattle.answer.proofs.Answers.{then_good, then_bad}
use Rattle.laws.specs.Lowered.{lowered_axis, lowered, lowered_fault}

module _ (k : ℕ) where
  -- ---- the rule of an axis: one up to the removed one stays, one above it is one lower, in 10 and in 11
  axis_low : (n a : ℕ) → a ≤ k → lowered_axis k n a ≡ a
  unfolding lowered_axis
  axis_low n a h = ap (λ (b : Bool). cond b (a - 1) a) (and_false (eqb n 10 || eqb n 11) (ltb k a) (le-ltb k a h))

  axis_high : (n a : ℕ) → eqb n 10 || eqb n 11 ≡ true → k ≤ a → lowered_axis k n (suc a) ≡ a
  unfolding lowered_axis
  axis_high n a t h =
      ap (λ (b : Bool). cond (b && ltb k (suc a)) (suc a - 1) (suc a)) t
      ∙ ap (λ (b : Bool). cond b (suc a - 1) (suc a)) (lt-ltb k (suc a) (omega arith))
      ∙ less
    where
      less : suc a - 1 ≡ a
      less = omega arith

  -- ---- faults
  pub lowered-good : (f : Fault) → good (lowered_fault k f) ≡ good f
  unfolding lowered_fault good
  lowered-good f = refl

  pub lowered_low : (n a place : ℕ) → a ≤ k → lowered_fault k (refusal n a place) ≡ refusal n a place
  unfolding lowered_fault refusal
  lowered_low n a place h = ap (λ (x : ℕ). refusal n x place) (axis_low n a h)

  pub lowered_high : (n a place : ℕ) → eqb n 10 || eqb n 11 ≡ true → k ≤ a → lowered_fault k (refusal n (suc a) place) ≡ refusal n a place
  unfolding lowered_fault refusal
  lowered_high n a place t h = ap (λ (x : ℕ). refusal n x place) (axis_high n a t h)

  lowered_none : lowered_fault k no_fault ≡ no_fault
  unfolding no_fault
  lowered_none = lowered_low 0 0 0 (omega arith)

  -- rows, and orders of checks
  pub lowered-when : (b : Bool) (x y : Fault) → lowered_fault k x ≡ y → lowered_fault k (when b x) ≡ when b y
  unfolding when
  lowered-when true x y e = e
  lowered-when false x y e = lowered_none

  pub lowered_or : (a b a' b' : Fault) → lowered_fault k a ≡ a' → (good a ≡ true → lowered_fault k b ≡ b') → lowered_fault k (a or b) ≡ (a' or b')
  lowered_or a b a' b' p q = go (good a) refl
    where
      same_good : good a' ≡ good a
      same_good = sym (ap good p) ∙ lowered-good a

      go : (t : Bool) → good a ≡ t → lowered_fault k (a or b) ≡ (a' or b')
      go true e = ap (lowered_fault k) (orders.or_good a b e) ∙ q e ∙ sym (orders.or_good a' b' (same_good ∙ e))
      go false e = ap (lowered_fault k) (orders.or_bad a b e) ∙ p ∙ sym (orders.or_bad a' b' (same_good ∙ e))

  -- ---- answers
  lowered-refused : (f : Fault) → lowered k (refused f) ≡ refused (lowered_fault k f)
  unfolding lowered refused lowered_fault
  lowered-refused f = refl

  pub lowered-answered : (v : Float) → lowered k (answered v) ≡ answered v
  unfolding lowered lowered_axis answered
  lowered-answered v = refl

  pub lowered_then : (f f' : Fault) (a a' : Answer) → lowered_fault k f ≡ f' → (good f ≡ true → lowered k a ≡ a') → lowered k (f then a) ≡ (f' then a')
  lowered_then f f' a a' p q = go (good f) refl
    where
      same_good : good f' ≡ good f
      same_good = sym (ap good p) ∙ lowered-good f

      go : (t : Bool) → good f ≡ t → lowered k (f then a) ≡ (f' then a')
      go true e = ap (lowered k) (then_good f a e) ∙ q e ∙ sym (then_good f' a' (same_good ∙ e))
      go false e = ap (lowered k) (then_bad f a e) ∙ lowered-refused f ∙ ap refused p ∙ sym (then_bad f' a' (same_good ∙ e))

  -- ---- a first fault over all axes, with axis k left out
  module _ (f f' : ℕ → Fault) (n : ℕ) (here : good (f k) ≡ true) (low : (a : ℕ) → a < k → lowered_fault k (f a) ≡ f' a) (high : (a : ℕ) → k ≤ a → a < n → lowered_fault k (f (suc a)) ≡ f' a) where
    after : (i m : ℕ) → k ≤ i → i + m ≤ n → lowered_fault k (first_fault f (suc i) m) ≡ first_fault f' i m
    unfolding first_fault
    after i zero h l = lowered_none
    after i (suc m) h l = lowered_or (f (suc i)) (first_fault f (suc (suc i)) m) (f' i) (first_fault f' (suc i) m) (high i h (omega arith)) (λ e. after (suc i) m (omega arith) (omega arith))

    before : (d i m : ℕ) → i + d ≡ k → k ≤ i + m → i + m ≤ n → lowered_fault k (first_fault f i (suc m)) ≡ first_fault f' i m
    unfolding first_fault
    before zero i m e h l =
        let q : i ≡ k = omega arith in
        ap (lowered_fault k) (orders.or_good (f i) (first_fault f (suc i) m) (subst (λ (x : ℕ). good (f x) ≡ true) (sym q) here)) ∙ after i m (omega arith) l
    before (suc d) i zero e h l = absurd (omega arith)
    before (suc d) i (suc m) e h l = lowered_or (f i) (first_fault f (suc i) (suc m)) (f' i) (first_fault f' (suc i) m) (low i (omega arith)) (λ q. before d (suc i) m (omega arith) (omega arith) (omega arith))

    pub left_out : k ≤ n → lowered_fault k (first_fault f 0 (suc n)) ≡ first_fault f' 0 n
    left_out h = before k 0 n (omega arith) (omega arith) (omega arith)
