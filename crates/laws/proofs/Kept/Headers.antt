-- Laws of rows 13 and 14 of an image, each test that refuses. They hold as they did; no proof stands on them.
use mathlib.Core.Path.{◌≡◌, ap}
use mathlib.Core.Bool.{Bool, not, ◌&&◌}
use Prim.Native.Nat.{ℕ, ◌+◌, ◌*◌, ◌%◌, ◌<◌}
use borrow.Author.Tests.{ne_eqb, lt-ltb, lt-leb}
use lib.Dec.{eqb, leb, ltb}
use Rattle.answer.specs.Faults.{refusal}
use Rattle.answer.proofs.Orders.{row_met}
use Rattle.answer.proofs.Tests.{and_false}
use Rattle.checks.specs.Numbers.{field_fault, short_fault, stated_fault, area_fault}

-- ---- 13
module _ (place wanted x : ℕ) where
  pub field_wrong : (x ≡ wanted → ⊥) → refusal 13 0 place ≡ field_fault place wanted x
  unfolding field_fault
  field_wrong h = row_met (not (eqb x wanted)) 12 0 place (ap not (ne_eqb x wanted h))

pub short_wrong : (len : ℕ) → len < 40 → refusal 13 0 0 ≡ short_fault len
unfolding short_fault
short_wrong len h = row_met (ltb len 40) 12 0 0 (lt-ltb len 40 h)

module _ (stated len : ℕ) where
  abbrev unfit : Bool
  unfit = not (eqb stated len && (leb 40 stated && leb stated 36864))

  pub stated_other : (stated ≡ len → ⊥) → refusal 13 0 4 ≡ stated_fault stated len
  unfolding stated_fault
  stated_other h = row_met unfit 12 0 4 (ap (λ (b : Bool). not (b && (leb 40 stated && leb stated 36864))) (ne_eqb stated len h))

  pub stated_short : stated < 40 → refusal 13 0 4 ≡ stated_fault stated len
  unfolding stated_fault
  stated_short h = row_met unfit 12 0 4 (ap not (and_false (eqb stated len) (leb 40 stated && leb stated 36864) (ap (λ (b : Bool). b && leb stated 36864) (lt-leb 40 stated h))))

  pub stated_long : 36864 < stated → refusal 13 0 4 ≡ stated_fault stated len
  unfolding stated_fault
  stated_long h = row_met unfit 12 0 4 (ap not (and_false (eqb stated len) (leb 40 stated && leb stated 36864) (and_false (leb 40 stated) (leb stated 36864) (lt-leb stated 36864 h))))

-- ---- 14
module _ (len axis offset n : ℕ) where
  abbrev astray : Bool
  astray = not (leb 40 offset && (eqb (offset % 8) 0 && leb (offset + 8 * n) len))

  pub area_early : offset < 40 → refusal 14 axis 0 ≡ area_fault len axis offset n
  unfolding area_fault
  area_early h = row_met astray 13 axis 0 (ap (λ (b : Bool). not (b && (eqb (offset % 8) 0 && leb (offset + 8 * n) len))) (lt-leb 40 offset h))

  pub area_off : (offset % 8 ≡ 0 → ⊥) → refusal 14 axis 0 ≡ area_fault len axis offset n
  unfolding area_fault
  area_off h = row_met astray 13 axis 0 (ap not (and_false (leb 40 offset) (eqb (offset % 8) 0 && leb (offset + 8 * n) len) (ap (λ (b : Bool). b && leb (offset + 8 * n) len) (ne_eqb (offset % 8) 0 h))))

  pub area_past : len < offset + 8 * n → refusal 14 axis 0 ≡ area_fault len axis offset n
  unfolding area_fault
  area_past h = row_met astray 13 axis 0 (ap not (and_false (leb 40 offset) (eqb (offset % 8) 0 && leb (offset + 8 * n) len) (and_false (eqb (offset % 8) 0) (leb (offset + 8 * n) len) (lt-leb (offset + 8 * n) len h))))
