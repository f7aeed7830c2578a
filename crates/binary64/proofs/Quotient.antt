-- The quotient a / b of two finite numbers with 0 ≤ a ≤ b and 0 < b is finite and lies between 0 and 1, both included. Assumes nothing.
use mathlib.Core.Path.{◌≡◌, refl, sym, ap, ◌∙◌, subst}
use mathlib.Core.Bool.{Bool, true, false, cond}
use Prim.Native.Nat.{ℕ, zero, suc, ◌*◌, ◌<◌, ◌≤◌}
use native.Mathlib.Nat.{mul-pos, zero-mul}
use native.Mathlib.Omega.{arith}
use lib.IntN.{ℤ, pos}
use lib.Dec.{T, eqb, ltb→lt, lt→ltb}
use borrow.Author.Tests.{ne_eqb, leb-true, ltb-true}
use lib.Ieee.{Float, nan, inf, fin, Format, binary64, up, down, round, div, lt, le, eq, unlike}
use lib.Ieee.Fits.{down_pos, up_pos}
use lib.Ieee.Order.{round_mono}
use lib.Ieee.Positive.{num, den, den_pos, positive, le→cross}
use lib.Ieee.Scale.{finite}
use lib.Ieee.Bits.{is_true}
use Rattle.binary64.proofs.Order.{Fin, left, right, lt_cross, le_cross, clash}
use Rattle.binary64.proofs.Difference.{naught, round_zero, round_not_below}

abbrev pub one : Float
one = fin false 1 (pos 0)

one_is : round binary64 false 1 1 ≡ one
unfolding round
one_is = refl

div_is : (f : Format) (a b : Float) → T (positive a) → T (positive b) → div f a b ≡ round f false (num a * den b) (num b * den a)
unfolding div
div_is f nan b p q = absurd p
div_is f (inf s) b p q = absurd p
div_is f (fin true m e) b p q = absurd p
div_is f (fin false m e) nan p q = absurd q
div_is f (fin false m e) (inf t) p q = absurd q
div_is f (fin false m e) (fin true n d) p q = absurd q
div_is f (fin false m e) (fin false n d) p q =
    ap (λ (t : Bool). cond t (cond (eqb m 0) nan (inf false)) (round f false (m * up e * down d) (n * up d * down e))) (ne_eqb n 0 (λ z. let h : 0 < n = ltb→lt 0 n q in omega arith))

num_pos : (x : Float) → T (positive x) → 0 < num x
num_pos nan p = absurd p
num_pos (inf s) p = absurd p
num_pos (fin true m e) p = absurd p
num_pos (fin false m e) p = mul-pos (ltb→lt 0 m p) (up_pos e)

div_le_one : (a b : Float) → T (positive a) → T (positive b) → T (le a b) → T (le (div binary64 a b) one)
div_le_one a b p q h =
    subst (λ (z : Float). T (le z one)) (sym (div_is binary64 a b p q))
    (subst (λ (z : Float). T (le (round binary64 false (num a * den b) (num b * den a)) z)) one_is
    (round_mono binary64 (num a * den b) (num b * den a) 1 1 (mul-pos (num_pos b q) (den_pos a)) (omega arith) (let k : num a * den b ≤ num b * den a = le→cross a b p q h in omega arith)))

-- ---- a quotient whose dividend is a zero
div_zero : (s : Bool) (e : ℤ) (n : ℕ) (d : ℤ) → 0 < n → div binary64 (fin s 0 e) (fin false n d) ≡ naught (unlike s false)
unfolding div
div_zero s e n d h =
    ap (λ (t : Bool). cond t (cond (eqb 0 0) nan (inf (unlike s false))) (round binary64 (unlike s false) (0 * up e * down d) (n * up d * down e))) (ne_eqb n 0 (λ z. omega arith))
    ∙ ap (λ (k : ℕ). round binary64 (unlike s false) k (n * up d * down e)) nothing
    ∙ round_zero (unlike s false) (n * up d * down e) (mul-pos (mul-pos h (up_pos d)) (down_pos e))
  where
    nothing : 0 * up e * down d ≡ 0
    nothing = ap (λ (k : ℕ). k * down d) (zero-mul (up e)) ∙ zero-mul (down d)

-- 0 ≤ z ≤ 1
pub record Unit (z : Float) : Type 0 where
  pub low : le (naught false) z ≡ true
  pub high : le z one ≡ true

unit_zero : (s : Bool) → Unit (naught s)
unfolding le lt eq
unit_zero true = record { low = refl; high = refl }
unit_zero false = record { low = refl; high = refl }

-- what lies between 0 and 1 is no NaN and no infinity
pub unit_finite : (z : Float) → Unit z → finite z ≡ true
unfolding le lt eq
unit_finite nan u = clash (sym u.low)
unit_finite (inf true) u = clash (sym u.low)
unit_finite (inf false) u = clash (sym u.high)
unit_finite (fin s m e) u = refl

positive_of : (n : ℕ) (d : ℤ) → lt (naught false) (fin false n d) ≡ true → 0 < n
positive_of zero d h = absurd (let k : left (naught false) (fin false 0 d) < right (naught false) (fin false 0 d) = ltb-true (left (naught false) (fin false 0 d)) (right (naught false) (fin false 0 d)) (sym (lt_cross (naught false) (fin false 0 d) refl refl) ∙ h) in omega (arith, zero-mul (up d), zero-mul (down d)))
positive_of (suc n) d h = omega arith

-- no number below zero is at least zero
never : {A : Type 0} (m : ℕ) (e : ℤ) → le (naught false) (fin true (suc m) e) ≡ true → A
never m e h =
    let k : left (naught false) (fin true (suc m) e) ≤ right (naught false) (fin true (suc m) e) =
    leb-true (left (naught false) (fin true (suc m) e)) (right (naught false) (fin true (suc m) e)) (sym (le_cross (naught false) (fin true (suc m) e) refl refl) ∙ h)
    in
    let p : 0 < suc m * up e = mul-pos (omega arith) (up_pos e) in
    absurd (omega (arith, zero-mul (down e), zero-mul (up (pos 0))))

pub div_unit : (a b : Float) → Fin a → Fin b → le (naught false) a ≡ true → lt (naught false) b ≡ true → le a b ≡ true → Unit (div binary64 a b)
unfolding lt
div_unit nan b fa fb h k l = clash (sym fa)
div_unit (inf s) b fa fb h k l = clash (sym fa)
div_unit (fin s m e) nan fa fb h k l = clash (sym fb)
div_unit (fin s m e) (inf t) fa fb h k l = clash (sym fb)
div_unit (fin s m e) (fin true n d) fa fb h k l = clash (sym k)
div_unit (fin s zero e) (fin false n d) fa fb h k l = subst Unit (sym (div_zero s e n d (positive_of n d k))) (unit_zero (unlike s false))
div_unit (fin true (suc m) e) (fin false n d) fa fb h k l = never m e h
div_unit (fin false (suc m) e) (fin false n d) fa fb h k l =
    let p : T (positive (fin false (suc m) e)) = lt→ltb 0 (suc m) (omega arith) in
    let q : T (positive (fin false n d)) = lt→ltb 0 n (positive_of n d k) in
    record {
      low = rw (div_is binary64 (fin false (suc m) e) (fin false n d) p q) (round_not_below (suc m * up e * down d) (n * up d * down e) (mul-pos (num_pos (fin false n d) q) (down_pos e)));
      high = is_true (le (div binary64 (fin false (suc m) e) (fin false n d)) one) (div_le_one (fin false (suc m) e) (fin false n d) p q (subst T (sym l) tt));
    }
