-- The row of a value: where it is passed, and what is known then. Assumes nothing.
use mathlib.Core.Path.{◌≡◌, sym, ap, ◌∙◌}
use mathlib.Core.Bool.{true}
use mathlib.Core.List.{List}
use Prim.Native.Nat.{ℕ, zero, suc, ◌+◌, ◌<◌}
use native.Mathlib.Omega.{arith}
use lib.ListN.{length, get_or}
use lib.Ieee.{Float, nan, binary64, add, mul}
use lib.Ieee.Scale.{finite}
use Rattle.answer.specs.Faults.{good}
use Rattle.answer.proofs.Orders as orders
use Rattle.binary64.proofs.Finite.{add_finite, mul_finite}
use Rattle.checks.specs.Numbers.{value_fault, values_fault}
use Rattle.checks.proofs.numbers.Rows.{wild_fine, wild_passed}

module _ (values : List Float) (i : ℕ) where
  pub value_good : finite (get_or values i nan) ≡ true → good (value_fault values i) ≡ true
  unfolding value_fault
  value_good h = sym (ap good (wild_fine 6 0 i (get_or values i nan) h)) ∙ orders.good-no_fault

  pub value_passed : good (value_fault values i) ≡ true → finite (get_or values i nan) ≡ true
  unfolding value_fault
  value_passed = wild_passed 6 0 i (get_or values i nan)

-- eight at once: where a sum of products is finite, so is every factor
sum_finite : (x y z : Float) → finite (add binary64 (mul binary64 x z) (mul binary64 y z)) ≡ true → (finite x ≡ true) × (finite y ≡ true)
sum_finite x y z h = let e = add_finite (mul binary64 x z) (mul binary64 y z) h in ((mul_finite x z e.0).0, (mul_finite y z e.1).0)

abbrev pub paired : (ℕ → Float) → Float → ℕ → ℕ → Float
paired f z i j = add binary64 (mul binary64 (f i) z) (mul binary64 (f j) z)

module _ (f : ℕ → Float) (z : Float) (at : ℕ)
    (h : finite (add binary64 (add binary64 (paired f z at (at + 2)) (paired f z (at + 4) (at + 6))) (add binary64 (paired f z (at + 1) (at + 3)) (paired f z (at + 5) (at + 7)))) ≡ true) where
  even : (finite (paired f z at (at + 2)) ≡ true) × (finite (paired f z (at + 4) (at + 6)) ≡ true)
  even = add_finite (paired f z at (at + 2)) (paired f z (at + 4) (at + 6)) (add_finite _ _ h).0

  odd : (finite (paired f z (at + 1) (at + 3)) ≡ true) × (finite (paired f z (at + 5) (at + 7)) ≡ true)
  odd = add_finite (paired f z (at + 1) (at + 3)) (paired f z (at + 5) (at + 7)) (add_finite _ _ h).1

  pub all_eight : (j : ℕ) → j < 8 → finite (f (at + j)) ≡ true
  all_eight zero l = ap (λ (i : ℕ). finite (f i)) (omega arith) ∙ (sum_finite (f at) (f (at + 2)) z even.0).0
  all_eight (suc zero) l = (sum_finite (f (at + 1)) (f (at + 3)) z odd.0).0
  all_eight (suc (suc zero)) l = (sum_finite (f at) (f (at + 2)) z even.0).1
  all_eight (suc (suc (suc zero))) l = (sum_finite (f (at + 1)) (f (at + 3)) z odd.0).1
  all_eight (suc (suc (suc (suc zero)))) l = (sum_finite (f (at + 4)) (f (at + 6)) z even.1).0
  all_eight (suc (suc (suc (suc (suc zero))))) l = (sum_finite (f (at + 5)) (f (at + 7)) z odd.1).0
  all_eight (suc (suc (suc (suc (suc (suc zero)))))) l = (sum_finite (f (at + 4)) (f (at + 6)) z even.1).1
  all_eight (suc (suc (suc (suc (suc (suc (suc zero))))))) l = (sum_finite (f (at + 5)) (f (at + 7)) z odd.1).1
  all_eight (suc (suc (suc (suc (suc (suc (suc (suc j)))))))) l = absurd (omega arith)

pub values_finite : (values : List Float) → good (values_fault values) ≡ true → (i : ℕ) → i < length values → finite (get_or values i nan) ≡ true
unfolding values_fault
values_finite values h i l = value_passed values i (orders.all_passed (value_fault values) 0 (length values) h i (omega arith) (omega arith))
