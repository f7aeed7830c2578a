-- The size of a finite number in units of binary64's smallest value, 2 ^ -1074: of a rounded fraction, of a product, of a number that the format holds;
-- and how large two numbers can be for their sum to stay finite. Assumes nothing.
use mathlib.Core.Path.{◌≡◌, refl, sym, ap, ◌∙◌, subst}
use mathlib.Core.Logic.{⊎_elim}
use mathlib.Core.Bool.{Bool, true, false, ◌&&◌, cond, beq}
use Prim.Native.Nat.{ℕ, zero, suc, ◌+◌, ◌-◌, ◌*◌, ◌%◌, ◌^◌, ◌≤◌, ◌<◌, zero-le}
use native.Mathlib.Nat.{mul-pos, mul-one, zero-mul, mul-le-mul_right, mul-le-mul_left, mul-le-mul, lt_of_mul-lt-mul_right, mul-lt-mul_of_pos_right, le_trans, lt_of_le_of_lt, le_of_eq, le_of_lt, not-le_of_lt, mul_assoc, mul_comm}
use native.Mathlib.Omega.{arith}
use lib.IntN.{ℤ, pos, negsuc}
use lib.Dec.{T, ltb, leb, eqb, ltb→lt, lit<, lit≤}
use lib.Pow.{pow_pos, pow_mono, pow-lt, le_ones}
use lib.Ieee.{Float, nan, inf, fin, binary64, up, down, unlike, round, sum, add, mul, fits}
use lib.Ieee.Exact.{HasValue, units_val}
use lib.Ieee.Fits.{down_pos, round_is, and_l, and_r}
use lib.Ieee.Order.{drop, kept}
use lib.Ieee.Positive.{num, den}
use lib.Ieee.Scale.{finite}
use Rattle.binary64.proofs.Order.{Fin, clash}
use Rattle.binary64.proofs.Difference.{either, divides, exponent, den_is, no_fault}
use Rattle.binary64.proofs.Halves.{rounded, rounded_middle}

-- x is finite, and g units in size
pub record Sized (x : Float) (g : ℕ) : Type 0 where
  pub fin_is : finite x ≡ true
  pub units : num x * 2 ^ 1074 ≡ g * den x

sized_of : (x : Float) (s : Bool) (g : ℕ) → HasValue x s g (2 ^ 1074) → Sized x g
sized_of nan s g h = absurd h
sized_of (inf t) s g h = absurd h
sized_of (fin t m e) s g h = record { fin_is = refl; units = h.1 }

-- ---- a rounded fraction, below the first number that the format does not reach
pub round_sized : (s : Bool) (a c : ℕ) → rounded (a * 2 ^ 1074) c < 2 ^ 2098 → Sized (round binary64 s a c) (rounded (a * 2 ^ 1074) c)
round_sized s a c h =
    sized_of (round binary64 s a c) s (rounded (a * 2 ^ 1074) c)
    (subst (λ (z : Float). HasValue z s (rounded (a * 2 ^ 1074) c) (2 ^ 1074)) (sym (round_is binary64 s a c))
    (units_val binary64 s (kept 53 (a * 2 ^ 1074) c) (drop 53 (a * 2 ^ 1074) c) h))

-- ---- a sum of two numbers stays finite below the middle between the largest finite number and the next power of two
module _ (a b c : ℕ) (C : 0 < c) (h : 2 * ((a + b) * 2 ^ 1074) < (2 * (2 ^ 53 - 1) + 1) * (2 ^ 2045 * c)) where
  stays : (s : Bool) (k : ℕ) → k ≤ a + b → finite (round binary64 s k c) ≡ true
  stays s k l = (round_sized s k c (lt_of_le_of_lt (rounded_middle (k * 2 ^ 1074) c C (2 ^ 53 - 1) 2045 (lit≤ tt) (lit< tt) under) (lit< tt))).fin_is
    where
      under : 2 * (k * 2 ^ 1074) < (2 * (2 ^ 53 - 1) + 1) * (2 ^ 2045 * c)
      under = lt_of_le_of_lt (mul-le-mul_left 2 (mul-le-mul_right (2 ^ 1074) l)) h

  sum_stays : (s t : Bool) → finite (sum binary64 s a t b c) ≡ true
  unfolding sum
  sum_stays s t = pick (beq s t) (round binary64 s (a + b) c) _ (stays s (a + b) (omega arith)) (pick (ltb a b) (round binary64 t (b - a) c) _ (stays t (b - a) (omega arith)) (stays (s && ltb b a) (a - b) (omega arith)))
    where
      pick : (p : Bool) (x y : Float) → finite x ≡ true → finite y ≡ true → finite (cond p x y) ≡ true
      pick true x y u v = u
      pick false x y u v = v

common : (X Y D E Q g h : ℕ) → X * Q ≡ g * D → Y * Q ≡ h * E → (X * E + Y * D) * Q ≡ (g + h) * (D * E)
common X Y D E Q g h p q = omega (arith, ap (λ (z : ℕ). z * E) p, ap (λ (z : ℕ). z * D) q)

scaled : (g U c K : ℕ) → 0 < c → 2 * g < K * U → 2 * (g * c) < K * (U * c)
scaled g U c K C h = omega (arith, mul-lt-mul_of_pos_right h C)

pub add_stays : (x y : Float) (g h : ℕ) → Sized x g → Sized y h → 2 * (g + h) < (2 * (2 ^ 53 - 1) + 1) * 2 ^ 2045 → finite (add binary64 x y) ≡ true
unfolding add
add_stays nan y g h p q l = p.fin_is
add_stays (inf s) y g h p q l = clash (sym p.fin_is)
add_stays (fin s m e) nan g h p q l = q.fin_is
add_stays (fin s m e) (inf t) g h p q l = q.fin_is
add_stays (fin s m e) (fin t n d) g h p q l =
    sum_stays (m * up e * down d) (n * up d * down e) (down e * down d) C
    (subst (λ (z : ℕ). 2 * z < (2 * (2 ^ 53 - 1) + 1) * (2 ^ 2045 * (down e * down d))) (sym (common (m * up e) (n * up d) (down e) (down d) (2 ^ 1074) g h p.units q.units))
    (scaled (g + h) (2 ^ 2045) (down e * down d) (2 * (2 ^ 53 - 1) + 1) C l)) s t
  where
    C : 0 < down e * down d
    C = mul-pos (down_pos e) (down_pos d)

-- ---- a product
pub mul_sized : (x y : Float) → Fin x → Fin y → rounded (num x * num y * 2 ^ 1074) (den x * den y) < 2 ^ 2098 → Sized (mul binary64 x y) (rounded (num x * num y * 2 ^ 1074) (den x * den y))
unfolding mul
mul_sized nan y f g h = clash (sym f)
mul_sized (inf s) y f g h = clash (sym f)
mul_sized (fin s m e) nan f g h = clash (sym g)
mul_sized (fin s m e) (inf t) f g h = clash (sym g)
mul_sized (fin s m e) (fin t n d) f g h = round_sized (unlike s t) (m * up e * (n * up d)) (down e * down d) h

-- ---- a number that the format holds: of 53 digits at most, below 2 ^ 1024, and a whole number of units
module _ (s : Bool) (m : ℕ) (e : ℤ) (t : T (fits binary64 (fin s (suc m) e))) where
  pub digits : suc m < 2 ^ 53
  unfolding fits
  digits = ltb→lt (suc m) (2 ^ 53) (second (eqb (suc m % 2) 1) (ltb (suc m) (2 ^ 53)) (leb (down e) (2 ^ 1074)) (ltb (suc m * up e) (2 ^ 1024 * down e)) t)
    where
      second : (p q r s : Bool) → T (p && q && r && s) → T q
      second p q r s h = and_r p q (and_l (p && q) r (and_l (p && q && r) s h))

  under_top : suc m * up e < 2 ^ 1024 * down e
  unfolding fits
  under_top = ltb→lt (suc m * up e) (2 ^ 1024 * down e) (and_r (eqb (suc m % 2) 1 && ltb (suc m) (2 ^ 53) && leb (down e) (2 ^ 1074)) (ltb (suc m * up e) (2 ^ 1024 * down e)) t)

-- it is no larger than the largest
large : (n k : ℕ) → n < 2 ^ 53 → n * 2 ^ k < 2 ^ 53 * 2 ^ 971 → n * 2 ^ k ≤ (2 ^ 53 - 1) * 2 ^ 971
large n k few h = ⊎_elim within beyond (either k 971)
  where
    within : k ≤ 971 → n * 2 ^ k ≤ (2 ^ 53 - 1) * 2 ^ 971
    within l = mul-le-mul (le_ones 53 few) (pow_mono l)

    beyond : 971 < k → n * 2 ^ k ≤ (2 ^ 53 - 1) * 2 ^ 971
    beyond l =
        let e : n * 2 ^ k ≡ n * 2 ^ (k - 971) * 2 ^ 971 = ap (λ (z : ℕ). n * z) (divides 971 k (le_of_lt l) ∙ mul_comm (2 ^ 971) (2 ^ (k - 971))) ∙ sym (mul_assoc n (2 ^ (k - 971)) (2 ^ 971)) in
        subst (λ (z : ℕ). z ≤ (2 ^ 53 - 1) * 2 ^ 971) (sym e)
        (mul-le-mul_right (2 ^ 971) (le_ones 53 (lt_of_mul-lt-mul_right (2 ^ 971) (subst (λ (z : ℕ). z < 2 ^ 53 * 2 ^ 971) e h))))

scaled_up : (a b c : ℕ) → 0 < c → a ≤ b → a * 1 ≤ b * c
scaled_up a b c h l = omega (arith, mul-le-mul_right b h, l)

pub largest : (x : Float) → T (fits binary64 x) → num x ≤ (2 ^ 53 - 1) * 2 ^ 971 * den x
largest nan t = zero-le
largest (inf s) t = zero-le
largest (fin s zero e) t = subst (λ (z : ℕ). z ≤ (2 ^ 53 - 1) * 2 ^ 971 * down e) (sym (zero-mul (up e))) zero-le
largest (fin s (suc m) (pos k)) t =
    le_trans (large (suc m) k (digits s m (pos k) t) (subst (λ (z : ℕ). suc m * 2 ^ k < z) (mul-one (2 ^ 1024)) (under_top s m (pos k) t))) (le_of_eq (sym (mul-one ((2 ^ 53 - 1) * 2 ^ 971))))
largest (fin s (suc m) (negsuc k)) t = scaled_up (suc m) ((2 ^ 53 - 1) * 2 ^ 971) (2 ^ suc k) (pow_pos (suc k)) (le_trans (le_ones 53 (digits s m (negsuc k) t)) (lit≤ tt))

pub record Counted (x : Float) : Type 0 where
  pub count : ℕ
  pub sized : Sized x count

pub counted : (x : Float) → Fin x → T (fits binary64 x) → Counted x
counted x f t = record { count = num x * 2 ^ (1074 - exponent x); sized = record { fin_is = f; units = whole } }
  where
    short : exponent x ≤ 1074
    short = ⊎_elim (λ h. h) (λ h. absurd (not-le_of_lt (pow-lt h) (subst (λ (z : ℕ). z ≤ 2 ^ 1074) (den_is x) (no_fault x t)))) (either (exponent x) 1074)

    whole : num x * 2 ^ 1074 ≡ num x * 2 ^ (1074 - exponent x) * den x
    whole =
        ap (λ (z : ℕ). num x * z) (divides (exponent x) 1074 short ∙ mul_comm (2 ^ exponent x) (2 ^ (1074 - exponent x)))
        ∙ sym (mul_assoc (num x) (2 ^ (1074 - exponent x)) (2 ^ exponent x))
        ∙ ap (λ (z : ℕ). num x * 2 ^ (1074 - exponent x) * z) (sym (den_is x))
