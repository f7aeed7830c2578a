-- How far above a fraction its rounded value can lie: by half of its last digit at most, so what lies below the middle between two numbers of the
-- format is rounded to the lower one at most. The fraction is n / c in units of binary64's smallest value; `kept` and `drop` of the kit's library say what
-- its rounding keeps and drops, and `rounded` is the result. Assumes nothing.
use mathlib.Core.Path.{◌≡◌, refl, sym, ap, subst}
use mathlib.Core.Logic.{⊎_elim}
use mathlib.Core.Bool.{true, false}
use Prim.Native.Nat.{ℕ, ◌+◌, ◌*◌, ◌/◌, ◌%◌, ◌^◌, ◌≤◌, ◌<◌, compare, Ordering}
use native.Mathlib.Nat.{mul-pos, mul-le-mul_right, lt_of_mul-lt-mul_right, le_trans, div-add-mod', div-div-eq-div-mul, div-lt_iff_lt-mul, le-div_iff_mul-le}
use native.Mathlib.Omega.{arith}
use lib.Dec.{is_le, compare_is_eq}
use lib.Pow.{pow_mono, pow-add}
use borrow.Author.Tests.{le-leb, ne_eqb}
use lib.Ieee.{nearest, size}
use lib.Ieee.Digits.{size-le, size_reaches}
use lib.Ieee.Fits.{nearest-le, kept-lt}
use lib.Ieee.Nearest.{closest}
use lib.Ieee.Order.{drop, kept}
use Rattle.binary64.proofs.Order.{clash}
use Rattle.binary64.proofs.Difference.{either}

-- ---- a fraction to the nearest whole number: by a half at most above it
below_half : (q : ℕ) (o : Ordering) → is_le o ≡ true → compare_is_eq o ≡ false → nearest q o ≡ q
below_half q Ordering.lt h k = refl
below_half q Ordering.eq h k = clash k
below_half q Ordering.gt h k = clash (sym h)

closest_half : (n u : ℕ) → 2 * (closest n u * u) ≤ 2 * n + u
closest_half n u = ⊎_elim high low (either u (n % u * 2))
  where
    parts : n / u * u + n % u ≡ n
    parts = div-add-mod' n u

    high : u ≤ n % u * 2 → 2 * (closest n u * u) ≤ 2 * n + u
    high h = omega (arith, parts, h, mul-le-mul_right u (nearest-le (n / u) (compare (n % u * 2) u)))

    low : n % u * 2 < u → 2 * (closest n u * u) ≤ 2 * n + u
    low h =
        let e : closest n u ≡ n / u = below_half (n / u) (compare (n % u * 2) u) (le-leb (n % u * 2) u (omega (arith, h))) (ne_eqb (n % u * 2) u (λ x. omega (arith, h, x))) in
        omega (arith, parts, ap (λ (z : ℕ). z * u) e)

less : (P x y n : ℕ) → P * x ≤ P * n + n → P * n + y ≤ P * y → n < y → x < y
less P x y n a b h = lt_of_mul-lt-mul_right P (omega arith)

-- ---- n / c rounded to 53 digits
abbrev pub rounded : ℕ → ℕ → ℕ
rounded n c = kept 53 n c * 2 ^ drop 53 n c

module _ (n c : ℕ) (C : 0 < c) where
  abbrev last : ℕ
  last = 2 ^ drop 53 n c

  pub rounded_half : 2 * (rounded n c * c) ≤ 2 * n + c * 2 ^ drop 53 n c
  rounded_half = omega (arith, closest_half n (c * last))

  kept_le : kept 53 n c ≤ 2 ^ 53
  kept_le = le_trans (nearest-le (n / (c * last)) (compare (n % (c * last) * 2) (c * last))) (subst (λ (x : ℕ). x < 2 ^ 53) (div-div-eq-div-mul n c last) (kept-lt 53 (n / c)))

  -- what is below 2 ^ (53 + j) drops j digits at most
  pub drop_le : (j : ℕ) → n < 2 ^ 53 * 2 ^ j * c → drop 53 n c ≤ j
  drop_le j h =
      let k : size (n / c) ≤ 53 + j = size-le (n / c) (53 + j) ((div-lt_iff_lt-mul C).1 (subst (λ (x : ℕ). n < x * c) (sym (pow-add 2 53 j)) h)) in
      omega (arith, k)

  -- where any digit is dropped, all 53 are in use
  pub drop_reaches : 0 < drop 53 n c → 2 ^ 52 * (c * 2 ^ drop 53 n c) ≤ n
  drop_reaches h =
      let k : 2 ^ (52 + drop 53 n c) ≤ n / c = size_reaches (n / c) (52 + drop 53 n c) (omega (arith, h)) in
      let m : 2 ^ (52 + drop 53 n c) * c ≤ n = (le-div_iff_mul-le C).0 k in
      omega (arith, m, ap (λ (x : ℕ). x * c) (pow-add 2 52 (drop 53 n c)))

  -- below the middle between K * 2 ^ j and the next number of the format it is K * 2 ^ j at most
  pub rounded_middle : (K j : ℕ) → 2 ^ 52 ≤ K → K < 2 ^ 53 → 2 * n < (2 * K + 1) * (2 ^ j * c) → rounded n c ≤ K * 2 ^ j
  rounded_middle K j low high h = ⊎_elim same fewer (either j (drop 53 n c))
    where
      top : n < 2 ^ 53 * 2 ^ j * c
      top = omega (arith, h, mul-le-mul_right (2 ^ j * c) high)

      same : j ≤ drop 53 n c → rounded n c ≤ K * 2 ^ j
      same l =
          let e : drop 53 n c ≡ j = omega (arith, l, drop_le j top) in
          let m : 2 * (kept 53 n c * 2 ^ j * c) ≤ 2 * n + c * 2 ^ j = subst (λ (d : ℕ). 2 * (kept 53 n c * 2 ^ d * c) ≤ 2 * n + c * 2 ^ d) e rounded_half in
          let k : kept 53 n c < K + 1 = lt_of_mul-lt-mul_right (2 ^ j * c) (omega (arith, m, h)) in
          subst (λ (d : ℕ). kept 53 n c * 2 ^ d ≤ K * 2 ^ j) (sym e) (mul-le-mul_right (2 ^ j) (omega (arith, k)))

      fewer : drop 53 n c < j → rounded n c ≤ K * 2 ^ j
      fewer l =
          let a : 2 ^ (1 + drop 53 n c) ≤ 2 ^ j = pow_mono (omega (arith, l)) in
          let b : 2 * last ≤ 2 ^ j = subst (λ (x : ℕ). x ≤ 2 ^ j) (pow-add 2 1 (drop 53 n c)) a in
          omega (arith, mul-le-mul_right last kept_le, b, mul-le-mul_right (2 ^ j) low)

  -- what is at most 1 - 2 ^ -53 of w, w being 2 ^ 53 units or more, is rounded to less than w
  pub rounded_less : (w : ℕ) → 2 ^ 53 * n + w * c ≤ 2 ^ 53 * (w * c) → 2 ^ 53 ≤ w → rounded n c < w
  rounded_less w h big = ⊎_elim none some (either (drop 53 n c) 0)
    where
      none : drop 53 n c ≤ 0 → rounded n c < w
      none l =
          let e : drop 53 n c ≡ 0 = omega (arith, l) in
          let m : 2 * (rounded n c * c) ≤ 2 * n + c * 2 ^ 0 = subst (λ (d : ℕ). 2 * (rounded n c * c) ≤ 2 * n + c * 2 ^ d) e rounded_half in
          lt_of_mul-lt-mul_right c (omega (arith, m, h, mul-le-mul_right c big, C))

      some : 0 < drop 53 n c → rounded n c < w
      some l =
          let a : 2 ^ 53 * (rounded n c * c) ≤ 2 ^ 53 * n + n = omega (arith, rounded_half, drop_reaches l) in
          let b : 0 < w * c = mul-pos (omega (arith, big)) C in
          let d : n < w * c = omega (arith, h, b) in
          lt_of_mul-lt-mul_right c (less (2 ^ 53) (rounded n c * c) (w * c) n a h d)
