-- The rows that judge one float: where a row is passed, and what is known then. Assumes nothing.
use mathlib.Core.Path.{◌≡◌, ap}
use mathlib.Core.Bool.{true, false, not}
use Prim.Native.Nat.{ℕ, suc}
use lib.Ieee.{Float}
use lib.Ieee.Scale.{finite}
use Rattle.answer.specs.Faults.{refusal, no_fault, good, when}
use Rattle.answer.proofs.Orders as orders
use Rattle.answer.proofs.Tests.{not_false}
use Rattle.checks.specs.Numbers.{finite_fault, reading_fault, result_fault}

-- ---- any row that is met by what is not finite
module _ (n axis place : ℕ) (x : Float) where
  pub wild_fine : finite x ≡ true → no_fault ≡ when (not (finite x)) (refusal (suc n) axis place)
  wild_fine h = orders.row_passed (not (finite x)) n axis place (ap not h)

  pub wild_passed : good (when (not (finite x)) (refusal (suc n) axis place)) ≡ true → finite x ≡ true
  wild_passed h = not_false (finite x) (orders.row_good (not (finite x)) n axis place h)

-- ---- 4
module _ (axis i : ℕ) (x : Float) where
  pub finite_fine : finite x ≡ true → no_fault ≡ finite_fault axis i x
  unfolding finite_fault
  finite_fine = wild_fine 3 axis i x

  pub finite_passed : good (finite_fault axis i x) ≡ true → finite x ≡ true
  unfolding finite_fault
  finite_passed = wild_passed 3 axis i x

-- ---- 10
module _ (axis : ℕ) (p : Float) where
  pub reading_fine : finite p ≡ true → no_fault ≡ reading_fault axis p
  unfolding reading_fault
  reading_fine = wild_fine 9 axis 0 p

  pub reading_finite : good (reading_fault axis p) ≡ true → finite p ≡ true
  unfolding reading_fault
  reading_finite = wild_passed 9 axis 0 p

-- ---- 12
module _ (place : ℕ) (x : Float) where
  pub result_wild : finite x ≡ false → refusal 12 0 place ≡ result_fault place x
  unfolding result_fault
  result_wild h = orders.row_met (not (finite x)) 11 0 place (ap not h)

  pub result_fine : finite x ≡ true → no_fault ≡ result_fault place x
  unfolding result_fault
  result_fine = wild_fine 11 0 place x
