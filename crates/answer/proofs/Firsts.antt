-- Which place the first fault of several is at. Assumes nothing.
use mathlib.Core.Path.{◌≡◌, refl, sym, ap, ◌∙◌, subst}
use mathlib.Core.Bool.{Bool, true, false}
use mathlib.Core.Logic.{◌⊎◌, inl, inr}
use Prim.Native.Nat.{ℕ, zero, suc, ◌+◌, ◌≤◌, ◌<◌}
use native.Mathlib.Nat.{eq-or-lt_of_le}
use native.Mathlib.Omega.{arith}
use Rattle.answer.specs.Faults.{no_fault, good, ◌or◌, first_fault}
use Rattle.answer.specs.Faults.{Fault}
use Rattle.answer.proofs.Orders.{clash, good-no_fault, or_good, or_bad}

-- the first fault of the k places from i on: where it is, and that there is none before it
pub record First (f : ℕ → Fault) (i k : ℕ) : Type 0 where
  pub at : ℕ
  pub from : i ≤ at
  pub below : at < i + k
  pub bad : good (f at) ≡ false
  pub is : first_fault f i k ≡ f at
  pub clear : (j : ℕ) → i ≤ j → j < at → good (f j) ≡ true

module _ (f : ℕ → Fault) where
  -- one place more in front, which is no fault
  later : (i k : ℕ) → good (f i) ≡ true → First f (suc i) k → First f i (suc k)
  unfolding first_fault
  later i k e rest = record {
    at = rest.at;
    from = omega (arith, rest.from);
    below = omega (arith, rest.below);
    bad = rest.bad;
    is = or_good (f i) (first_fault f (suc i) k) e ∙ rest.is;
    clear = λ j l m. here j m (eq-or-lt_of_le l);
  }
    where
      here : (j : ℕ) → j < rest.at → (i ≡ j) ⊎ (i < j) → good (f j) ≡ true
      here j m (inl q) = subst (λ (n : ℕ). good (f n) ≡ true) q e
      here j m (inr n) = rest.clear j (omega arith) m

  pub first_found : (i k : ℕ) → good (first_fault f i k) ≡ false → First f i k
  unfolding first_fault
  first_found i zero h = clash (good no_fault) good-no_fault h
  first_found i (suc k) h = go (good (f i)) refl (λ e. first_found (suc i) k (sym (ap good (or_good (f i) (first_fault f (suc i) k) e)) ∙ h))
    where
      go : (b : Bool) → good (f i) ≡ b → (good (f i) ≡ true → First f (suc i) k) → First f i (suc k)
      go false e rest = record { at = i; from = omega arith; below = omega arith; bad = e; is = or_bad (f i) (first_fault f (suc i) k) e; clear = λ j l m. absurd (omega arith) }
      go true e rest = later i k e (rest e)

  pub first-at : (i k at : ℕ) → i ≤ at → at < i + k → good (f at) ≡ false → ((j : ℕ) → i ≤ j → j < at → good (f j) ≡ true) → first_fault f i k ≡ f at
  unfolding first_fault
  first-at i zero at l m bad clear = absurd (omega arith)
  first-at i (suc k) at l m bad clear = go (eq-or-lt_of_le l) (λ n. first-at (suc i) k at n (omega arith) bad (λ j p q. clear j (omega arith) q))
    where
      go : (i ≡ at) ⊎ (i < at) → (i < at → first_fault f (suc i) k ≡ f at) → (f i or first_fault f (suc i) k) ≡ f at
      go (inl q) rest = or_bad (f i) (first_fault f (suc i) k) (ap (λ (n : ℕ). good (f n)) q ∙ bad) ∙ ap f q
      go (inr n) rest = or_good (f i) (first_fault f (suc i) k) (clear i (omega arith) n) ∙ rest n
