-- The rows that judge what is lent, on plain values: where a row is passed, and what is known then. Assumes nothing.
use mathlib.Core.Path.{◌≡◌, ap}
use mathlib.Core.Bool.{true, not}
use Prim.Native.Nat.{ℕ, ◌≤◌, ◌<◌}
use native.Mathlib.Omega.{arith}
use borrow.Author.Tests.{eq-eqb, eqb-true, le-ltb, ltb-false, leb-false, le-leb, lt-leb}
use lib.Dec.{eqb, ltb, leb}
use Rattle.answer.specs.Faults.{refusal, no_fault, good}
use Rattle.answer.proofs.Orders as orders
use Rattle.answer.proofs.Tests.{not_false}
use Rattle.checks.specs.Numbers.{length_fault, direction_fault, room_fault, most_records, limit_fault}

-- ---- 3
module _ (place wanted lent : ℕ) where
  pub length_same : lent ≡ wanted → no_fault ≡ length_fault place wanted lent
  unfolding length_fault
  length_same h = orders.row_passed (not (eqb lent wanted)) 2 0 place (ap not (eq-eqb lent wanted h))

  pub length-passed : good (length_fault place wanted lent) ≡ true → lent ≡ wanted
  unfolding length_fault
  length-passed h = eqb-true lent wanted (not_false (eqb lent wanted) (orders.row_good (not (eqb lent wanted)) 2 0 place h))

-- ---- 9
module _ (axis direction : ℕ) where
  pub direction_fine : direction ≤ 1 → no_fault ≡ direction_fault axis direction
  unfolding direction_fault
  direction_fine h = orders.row_passed (ltb 1 direction) 8 axis 0 (le-ltb 1 direction h)

  pub direction_passed : good (direction_fault axis direction) ≡ true → direction < 2
  unfolding direction_fault
  direction_passed h = let k : direction ≤ 1 = ltb-false 1 direction (orders.row_good (ltb 1 direction) 8 axis 0 h) in omega arith

-- ---- 15
module _ (place wanted room : ℕ) where
  pub room_enough : wanted ≤ room → no_fault ≡ room_fault place wanted room
  unfolding room_fault
  room_enough h = orders.row_passed (ltb room wanted) 14 0 place (le-ltb room wanted h)

  pub room_passed : good (room_fault place wanted room) ≡ true → wanted ≤ room
  unfolding room_fault
  room_passed h = ltb-false room wanted (orders.row_good (ltb room wanted) 14 0 place h)

-- ---- 17
module _ (read : ℕ) where
  pub limit_ahead : read < most_records → no_fault ≡ limit_fault read
  unfolding limit_fault
  limit_ahead h = orders.row_passed (leb most_records read) 16 0 0 (lt-leb most_records read h)

  pub limit_passed : good (limit_fault read) ≡ true → read < most_records
  unfolding limit_fault
  limit_passed h = leb-false most_records read (orders.row_good (leb most_records read) 16 0 0 h)

  pub limit_reached : most_records ≤ read → refusal 17 0 0 ≡ limit_fault read
  unfolding limit_fault
  limit_reached h = orders.row_met (leb most_records read) 16 0 0 (le-leb most_records read h)
