-- Laws of orders of checks: what `or`, `when`, `given` and `first_fault` come to, once it is known which fault is there.
use mathlib.Core.Path.{◌≡◌, refl, sym, ap, ap₂, ◌∙◌, subst}
use mathlib.Core.Bool.{Bool, true, false, cond}
use Prim.Native.Nat.{ℕ, zero, suc, ◌+◌, ◌-◌, ◌≤◌, ◌<◌}
use mathlib.Core.Logic.{◌⊎◌, inl, inr}
use native.Mathlib.Nat.{eq-or-lt_of_le}
use native.Mathlib.Numerals.{add-one}
use native.Mathlib.Omega.{arith}
use borrow.Author.Tests.{ne_eqb}
use lib.Dec.{T}
use Rattle.answer.specs.Faults.{refusal, no_fault, good, when, ◌or◌, first_fault, given}
use Rattle.answer.specs.Faults.{Fault}

pub clash : {A : Type 0} (b : Bool) → b ≡ true → b ≡ false → A
clash b p q = absurd (subst T (sym p ∙ q) tt)

-- ---- which faults are refusals
pub good-no_fault : good no_fault ≡ true
unfolding good no_fault refusal
good-no_fault = refl

pub no_fault_number : no_fault.number ≡ 0
unfolding no_fault refusal
no_fault_number = refl

pub bad_refused : (n axis place : ℕ) → good (refusal (suc n) axis place) ≡ false
unfolding good refusal
bad_refused n axis place = ne_eqb (suc n) 0 (λ e. omega arith)

-- ---- rows
module _ (b : Bool) (a : Fault) where
  pub when_true : b ≡ true → when b a ≡ a
  unfolding when
  when_true h = ap (λ (t : Bool). cond t a no_fault) h

  pub when_false : b ≡ false → when b a ≡ no_fault
  unfolding when
  when_false h = ap (λ (t : Bool). cond t a no_fault) h

  pub good-when : b ≡ false → good (when b a) ≡ true
  good-when h = ap good (when_false h) ∙ good-no_fault

  pub good_if : (b ≡ true → good a ≡ true) → good (when b a) ≡ true
  good_if h = go b refl
    where
      go : (t : Bool) → b ≡ t → good (when b a) ≡ true
      go true e = ap good (when_true e) ∙ h e
      go false e = good-when e

  -- a row whose fault is a refusal is passed only where its condition is not met
  pub passed-when : good a ≡ false → good (when b a) ≡ true → b ≡ false
  passed-when n h = go b refl
    where
      go : (t : Bool) → b ≡ t → b ≡ false
      go true e = clash (good a) (sym (ap good (when_true e)) ∙ h) n
      go false e = e

-- ---- two checks, one after the other
module _ (a b : Fault) where
  pub or_good : good a ≡ true → (a or b) ≡ b
  unfolding ◌or◌
  or_good h = ap (λ (t : Bool). cond t b a) h

  pub or_bad : good a ≡ false → (a or b) ≡ a
  unfolding ◌or◌
  or_bad h = ap (λ (t : Bool). cond t b a) h

  pub bad_or : good a ≡ false → good (a or b) ≡ false
  bad_or h = ap good (or_bad h) ∙ h

  pub first-passed : good (a or b) ≡ true → good a ≡ true
  first-passed h = go (good a) refl
    where
      go : (t : Bool) → good a ≡ t → good a ≡ true
      go true e = e
      go false e = clash (good (a or b)) h (bad_or e)

  pub second_passed : good (a or b) ≡ true → good b ≡ true
  second_passed h = sym (ap good (or_good (first-passed h))) ∙ h

pub both_passed : (a b : Fault) → good a ≡ true → good b ≡ true → good (a or b) ≡ true
both_passed a b p q = ap good (or_good a b p) ∙ q

pub passed-no_fault : (a : Fault) → no_fault ≡ a → good a ≡ true
passed-no_fault a e = sym (ap good e) ∙ good-no_fault

pub or_no_fault : (b : Fault) → (no_fault or b) ≡ b
or_no_fault b = or_good no_fault b good-no_fault

-- ---- what is given besides
module _ {A : Type 0} (a : Fault) (x zeros : A) where
  pub given-good : good a ≡ true → given a x zeros ≡ x
  unfolding given
  given-good h = ap (λ (t : Bool). cond t x zeros) h

  pub given_bad : good a ≡ false → given a x zeros ≡ zeros
  unfolding given
  given_bad h = ap (λ (t : Bool). cond t x zeros) h

-- ---- the first fault up to an end, place by place
module _ (f : ℕ → Fault) where
  first_zero : (i : ℕ) → first_fault f i zero ≡ no_fault
  unfolding first_fault
  first_zero i = refl

  first_suc : (i k : ℕ) → first_fault f i (suc k) ≡ (f i or first_fault f (suc i) k)
  unfolding first_fault
  first_suc i k = refl

  -- the first k places, as those up to an end
  pub first_begin : (i k end : ℕ) → i + k ≡ end → first_fault f i k ≡ first_fault f i (end - i)
  first_begin i k end h = ap (λ (n : ℕ). first_fault f i n) same
    where
      same : k ≡ end - i
      same = omega arith

  pub first_open : (i end : ℕ) → i < end → first_fault f i (end - i) ≡ (f i or first_fault f (i + 1) (end - (i + 1)))
  first_open i end h =
      ap (λ (k : ℕ). first_fault f i k) more ∙ first_suc i (end - suc i) ∙ ap (λ (j : ℕ). f i or first_fault f j (end - j)) (sym (add-one i))
    where
      more : end - i ≡ suc (end - suc i)
      more = omega arith

  pub first_step : (i end : ℕ) → i < end → good (f i) ≡ true → first_fault f i (end - i) ≡ first_fault f (i + 1) (end - (i + 1))
  first_step i end h g = first_open i end h ∙ or_good (f i) (first_fault f (i + 1) (end - (i + 1))) g

  pub first_stop : (i end : ℕ) → i < end → good (f i) ≡ false → first_fault f i (end - i) ≡ f i
  first_stop i end h g = first_open i end h ∙ or_bad (f i) (first_fault f (i + 1) (end - (i + 1))) g

  pub first_end : (i end : ℕ) → end ≤ i → first_fault f i (end - i) ≡ no_fault
  first_end i end h = ap (λ (k : ℕ). first_fault f i k) none ∙ first_zero i
    where
      none : end - i ≡ 0
      none = omega arith

  -- several at once
  pub first_skip : (i k end : ℕ) → i + k ≤ end → ((j : ℕ) → j < k → good (f (i + j)) ≡ true) → first_fault f i (end - i) ≡ first_fault f (i + k) (end - (i + k))
  first_skip i zero end h g = ap (λ (n : ℕ). first_fault f n (end - n)) (omega arith)
  first_skip i (suc k) end h g =
      first_skip i k end (omega arith) (λ j l. g j (omega arith))
      ∙ first_step (i + k) end (omega arith) (g k (omega arith))
      ∙ ap (λ (n : ℕ). first_fault f n (end - n)) next
    where
      next : i + k + 1 ≡ i + suc k
      next = omega arith

  -- where none is a fault
  pub none_good : (i k : ℕ) → ((j : ℕ) → i ≤ j → j < i + k → good (f j) ≡ true) → first_fault f i k ≡ no_fault
  none_good i zero h = first_zero i
  none_good i (suc k) h =
      first_suc i k ∙ or_good (f i) (first_fault f (suc i) k) (h i (omega arith) (omega arith)) ∙ none_good (suc i) k (λ j l m. h j (omega arith) (omega arith))

  pub all_passed : (i k : ℕ) → good (first_fault f i k) ≡ true → (j : ℕ) → i ≤ j → j < i + k → good (f j) ≡ true
  all_passed i zero h j l m = absurd (omega arith)
  all_passed i (suc k) h j l m = go (eq-or-lt_of_le l) (λ n. all_passed (suc i) k (second_passed (f i) (first_fault f (suc i) k) whole) j n (omega arith))
    where
      whole : good (f i or first_fault f (suc i) k) ≡ true
      whole = sym (ap good (first_suc i k)) ∙ h

      go : (i ≡ j) ⊎ (i < j) → (suc i ≤ j → good (f j) ≡ true) → good (f j) ≡ true
      go (inl e) later = subst (λ (n : ℕ). good (f n) ≡ true) e (first-passed (f i) (first_fault f (suc i) k) whole)
      go (inr n) later = later (omega arith)

-- the same faults give the same first one
pub first_same : (f g : ℕ → Fault) (i k : ℕ) → ((j : ℕ) → i ≤ j → j < i + k → f j ≡ g j) → first_fault f i k ≡ first_fault g i k
unfolding first_fault
first_same f g i zero h = refl
first_same f g i (suc k) h = ap₂ (λ (a b : Fault). a or b) (h i (omega arith) (omega arith)) (first_same f g (suc i) k (λ j l m. h j (omega arith) (omega arith)))

-- ---- a row that refuses: met, passed, and in front of the rest of an order
module _ (b : Bool) (n axis place : ℕ) where
  pub row_met : b ≡ true → refusal (suc n) axis place ≡ when b (refusal (suc n) axis place)
  row_met h = sym (when_true b (refusal (suc n) axis place) h)

  pub row_passed : b ≡ false → no_fault ≡ when b (refusal (suc n) axis place)
  row_passed h = sym (when_false b (refusal (suc n) axis place) h)

  pub row_good : good (when b (refusal (suc n) axis place)) ≡ true → b ≡ false
  row_good h = passed-when b (refusal (suc n) axis place) (bad_refused n axis place) h

  module _ (rest : Fault) where
    pub row_stops : b ≡ true → refusal (suc n) axis place ≡ (when b (refusal (suc n) axis place) or rest)
    row_stops h = row_met h ∙ sym (or_bad (when b (refusal (suc n) axis place)) rest (sym (ap good (row_met h)) ∙ bad_refused n axis place))

    pub row_goes_on : b ≡ false → rest ≡ (when b (refusal (suc n) axis place) or rest)
    row_goes_on h = sym (or_good (when b (refusal (suc n) axis place)) rest (good-when b (refusal (suc n) axis place) h))

pub or_assoc : (a b c : Fault) → ((a or b) or c) ≡ (a or b or c)
or_assoc a b c = go (good a) refl
  where
    go : (t : Bool) → good a ≡ t → ((a or b) or c) ≡ (a or b or c)
    go true e = ap (λ (x : Fault). x or c) (or_good a b e) ∙ sym (or_good a (b or c) e)
    go false e = ap (λ (x : Fault). x or c) (or_bad a b e) ∙ or_bad a c e ∙ sym (or_bad a (b or c) e)
