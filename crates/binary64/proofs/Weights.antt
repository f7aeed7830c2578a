-- The sum a * g + b * f of rounded products, where f lies from 0 to 1 and g is 1 - f as rounded, is finite for any two finite numbers of the format.
-- The two weights are together at most 2 ^ -54 above 1. Where one of them is above a half, its product loses a whole last digit in rounding, and the other's is
-- below what the weight is of 2 ^ 1024: together they stay below the middle between the largest number and 2 ^ 1024. Assumes nothing.
use mathlib.Core.Path.{◌≡◌, refl, sym, ap, ap₂, ◌∙◌, subst}
use mathlib.Core.Logic.{⊎_elim}
use mathlib.Core.Bool.{Bool, true, false, cond}
use Prim.Native.Nat.{ℕ, zero, suc, ◌+◌, ◌-◌, ◌*◌, ◌^◌, ◌≤◌, ◌<◌, zero-le}
use native.Mathlib.Nat.{mul-pos, mul-one, one-mul, zero-mul, mul-le-mul_right, mul-le-mul_left, mul-le-mul, le_of_mul-le-mul_right, lt_of_mul-lt-mul_right, eq_of_mul-eq-mul_right, mul-lt-mul_of_pos_right, le_trans, lt_of_le_of_lt, le_of_lt, not-le_of_lt, mul_assoc, mul_comm, mul_left_comm, mul-add, add-mul, add_comm}
use native.Mathlib.Omega.{arith}
use lib.IntN.{ℤ, pos, negsuc}
use lib.Dec.{T, lit<, lit≤}
use lib.Pow.{pow_pos, pow_mono}
use borrow.Author.Tests.{le-ltb}
use lib.Ieee.{Float, nan, inf, fin, binary64, up, down, round, sum, add, sub, neg, mul, fits}
use lib.Ieee.Fits.{sub-fits}
use lib.Ieee.Positive.{num, den, den_pos}
use lib.Ieee.Scale.{finite}
use Rattle.binary64.proofs.Order.{Fin, clash, left, right, le→}
use Rattle.binary64.proofs.Difference.{naught, either, divides, exponent, den_is}
use Rattle.binary64.proofs.Quotient.{Unit, one, unit_finite}
use Rattle.binary64.proofs.Halves.{rounded, rounded_half, rounded_middle, rounded_less, drop_le}
use Rattle.binary64.proofs.Sizes.{Sized, Counted, counted, largest, digits, round_sized, mul_sized, add_stays}

-- ---- a weight of the format above a half, up to 1, is a whole number of 2 ^ -53: `below` + 1
record Heavy (G : ℕ) : Type 0 where
  below : ℕ
  is : G ≡ (below + 1) * 2 ^ 1021
  low : 2 ^ 52 ≤ below
  high : below < 2 ^ 53

heavy_from : (G q : ℕ) → G ≡ q * 2 ^ 1021 → 2 ^ 1073 < G → G ≤ 2 ^ 1074 → Heavy G
heavy_from G q e h k = record { below = q - 1; is = e ∙ ap (λ (z : ℕ). z * 2 ^ 1021) same; low = omega (arith, more); high = omega (arith, most, more) }
  where
    more : 2 ^ 52 < q
    more = lt_of_mul-lt-mul_right (2 ^ 1021) (subst (λ (z : ℕ). 2 ^ 52 * 2 ^ 1021 < z) e h)

    most : q ≤ 2 ^ 53
    most = le_of_mul-le-mul_right (subst (λ (z : ℕ). z ≤ 2 ^ 53 * 2 ^ 1021) e k) (pow_pos 1021)

    same : q ≡ q - 1 + 1
    same = omega (arith, more)

few : (w : Float) → T (fits binary64 w) → 2 ^ 54 ≤ den w → num w < 2 ^ 53
few nan t h = lit< tt
few (inf s) t h = lit< tt
few (fin s zero e) t h = subst (λ (z : ℕ). z < 2 ^ 53) (sym (zero-mul (up e))) (lit< tt)
few (fin s (suc m) (pos k)) t h = absurd (omega arith)
few (fin s (suc m) (negsuc k)) t h = subst (λ (z : ℕ). z < 2 ^ 53) (sym (mul-one (suc m))) (digits s m (negsuc k) t)

heavy_of : (w : Float) (G : ℕ) → T (fits binary64 w) → Sized w G → 2 ^ 1073 < G → G ≤ 2 ^ 1074 → Heavy G
heavy_of w G t z h k = ⊎_elim coarse fine (either (exponent w) 53)
  where
    coarse : exponent w ≤ 53 → Heavy G
    coarse l = heavy_from G (num w * 2 ^ (53 - exponent w)) (eq_of_mul-eq-mul_right (2 ^ exponent w) (pow_pos (exponent w)) G (num w * 2 ^ (53 - exponent w) * 2 ^ 1021) spread) h k
      where
        apart : (N a b Y : ℕ) → N * (a * b * Y) ≡ N * b * Y * a
        apart N a b Y = omega arith

        spread : G * 2 ^ exponent w ≡ num w * 2 ^ (53 - exponent w) * 2 ^ 1021 * 2 ^ exponent w
        spread =
            ap (λ (d : ℕ). G * d) (sym (den_is w)) ∙ sym z.units
            ∙ ap (λ (p : ℕ). num w * (p * 2 ^ 1021)) (divides (exponent w) 53 l)
            ∙ apart (num w) (2 ^ exponent w) (2 ^ (53 - exponent w)) (2 ^ 1021)

    fine : 53 < exponent w → Heavy G
    fine l =
        let d : 2 ^ 54 ≤ den w = subst (λ (d : ℕ). 2 ^ 54 ≤ d) (sym (den_is w)) (pow_mono l) in
        let b : G * den w < 2 ^ 53 * 2 ^ 1074 = subst (λ (n : ℕ). n < 2 ^ 53 * 2 ^ 1074) z.units (mul-lt-mul_of_pos_right (few w t d) (pow_pos 1074)) in
        absurd (not-le_of_lt b (mul-le-mul (le_of_lt h) d))

-- ---- the exact product in units: of a number no larger than the largest, A being 2 ^ 971, and a weight of G units
capped : (X M A D W Q G E : ℕ) → X ≤ M * A * D → W * Q ≡ G * E → X * W * Q ≤ M * (A * G) * (D * E)
capped X M A D W Q G E h e = omega (arith, mul-le-mul_right (G * E) h, ap (λ (z : ℕ). X * z) e)

heavy_middle : (n c M K Y : ℕ) → 0 < Y * c → M ≤ 2 * K → n ≤ M * ((K + 1) * Y) * c → 2 * n < (2 * K + 1) * (suc M * Y * c)
heavy_middle n c M K Y C h k = omega (arith, mul-le-mul_right (Y * c) h)

twice : (K : ℕ) → 2 ^ 52 ≤ K → 2 ^ 53 - 1 ≤ 2 * K
twice K h = omega arith

light_scale : (n c M Z Y : ℕ) → Z ≤ Y → n ≤ M * Z * c → suc M * n + suc M * Y * c ≤ suc M * (suc M * Y * c)
light_scale n c M Z Y h k = omega (arith, mul-le-mul_left (suc M) k, mul-le-mul_right c (mul-le-mul_left (suc M * M) h))

half_middle : (n c M Z Y : ℕ) → 0 < Y * c → Z ≤ Y → n ≤ M * Z * c → 2 * n < (2 * M + 1) * (Y * c)
half_middle n c M Z Y C h k = omega (arith, mul-le-mul_right c (mul-le-mul_left M h))

-- the product as rounded, in units
abbrev share : Float → Float → ℕ
share x w = rounded (num x * num w * 2 ^ 1074) (den x * den w)

module _ (x w : Float) (G : ℕ) (t : T (fits binary64 x)) (z : Sized w G) where
  c_pos : 0 < den x * den w
  c_pos = mul-pos (den_pos x) (den_pos w)

  exact : num x * num w * 2 ^ 1074 ≤ (2 ^ 53 - 1) * (2 ^ 971 * G) * (den x * den w)
  exact = capped (num x) (2 ^ 53 - 1) (2 ^ 971) (den x) (num w) (2 ^ 1074) G (den w) (largest x t) z.units

  -- by a weight above a half: a last digit of the largest number less than the weight's share of 2 ^ 1024
  share_heavy : (h : Heavy G) → share x w ≤ h.below * 2 ^ 2045
  share_heavy h =
      rounded_middle (num x * num w * 2 ^ 1074) (den x * den w) c_pos h.below 2045 h.low h.high
      (heavy_middle (num x * num w * 2 ^ 1074) (den x * den w) (2 ^ 53 - 1) h.below (2 ^ 1992) (mul-pos (pow_pos 1992) c_pos) (twice h.below h.low)
      (subst (λ (g : ℕ). num x * num w * 2 ^ 1074 ≤ (2 ^ 53 - 1) * g * (den x * den w)) (ap (λ (g : ℕ). 2 ^ 971 * g) h.is ∙ mul_left_comm (2 ^ 971) (h.below + 1) (2 ^ 1021)) exact))

  -- by any weight up to J: less than its share of 2 ^ 1024
  share_light : (J : ℕ) → 0 < J → G ≤ J → share x w < 2 ^ 1024 * J
  share_light J j h =
      subst (λ (g : ℕ). share x w < g) (sym (mul_assoc (2 ^ 53) (2 ^ 971) J))
      (rounded_less (num x * num w * 2 ^ 1074) (den x * den w) c_pos (2 ^ 53 * (2 ^ 971 * J))
      (light_scale (num x * num w * 2 ^ 1074) (den x * den w) (2 ^ 53 - 1) (2 ^ 971 * G) (2 ^ 971 * J) (mul-le-mul_left (2 ^ 971) h) exact)
      (mul-le-mul_left (2 ^ 53) (mul-pos (pow_pos 971) j)))

  -- by a half at most: half of the largest number
  share_half : G ≤ 2 ^ 1073 → share x w ≤ (2 ^ 53 - 1) * 2 ^ 2044
  share_half h =
      rounded_middle (num x * num w * 2 ^ 1074) (den x * den w) c_pos (2 ^ 53 - 1) 2044 (lit≤ tt) (lit< tt)
      (half_middle (num x * num w * 2 ^ 1074) (den x * den w) (2 ^ 53 - 1) (2 ^ 971 * G) (2 ^ 2044) (mul-pos (pow_pos 2044) c_pos) (mul-le-mul_left (2 ^ 971) h) exact)

-- ---- two products together: below the middle between the largest number and 2 ^ 1024
abbrev Together : ℕ → ℕ → Type 0
Together g h = 2 * (g + h) < (2 * (2 ^ 53 - 1) + 1) * 2 ^ 2045

swapped : (g h U : ℕ) → 2 * (g + h) < U → 2 * (h + g) < U
swapped g h U l = omega arith

-- K + 1 of the weights' 2 ^ 53 parts on one side, and what is left of 1 + 2 ^ -54 on the other
whole_sum : (g h K A E G J : ℕ) → g ≤ K * (A * (2 * E)) → h < A * J → G ≡ (K + 1) * (2 * E) → G + J ≡ 2 ^ 54 * E + E → 2 * (g + h) < (2 * (2 ^ 53 - 1) + 1) * (A * (2 * E))
whole_sum g h K A E G J p q r s =
    let a : A * G ≡ (K + 1) * (2 * (A * E)) = ap (λ (z : ℕ). A * z) r ∙ turn A (K + 1) E in
    let b : A * G + A * J ≡ 2 ^ 54 * (A * E) + A * E = sym (mul-add A G J) ∙ ap (λ (z : ℕ). A * z) s ∙ part A (2 ^ 54) E in
    let c : A * (2 * E) ≡ 2 * (A * E) = mul_left_comm A 2 E in
    flat g h (A * (2 * E)) (A * E) (A * G) (A * J) K p q a b c
  where
    turn : (A k E : ℕ) → A * (k * (2 * E)) ≡ k * (2 * (A * E))
    turn A k E = omega arith

    part : (A m E : ℕ) → A * (m * E + E) ≡ m * (A * E) + A * E
    part A m E = omega arith

    flat : (g h U e x y K : ℕ) → g ≤ K * U → h < y → x ≡ (K + 1) * (2 * e) → x + y ≡ 2 ^ 54 * e + e → U ≡ 2 * e → 2 * (g + h) < (2 * (2 ^ 53 - 1) + 1) * U
    flat g h U e x y K p q a b c = omega (arith, ap (λ (z : ℕ). K * z) c)

half_sum : (g h Y : ℕ) → 0 < Y → g ≤ (2 ^ 53 - 1) * Y → h ≤ (2 ^ 53 - 1) * Y → 2 * (g + h) < (2 * (2 ^ 53 - 1) + 1) * (2 * Y)
half_sum g h Y y p q = omega arith

module _ (x w y v : Float) (G H : ℕ) (tx : T (fits binary64 x)) (ty : T (fits binary64 y)) (zw : Sized w G) (zv : Sized v H) where
  -- one weight above a half
  uneven : T (fits binary64 w) → 2 ^ 1073 < G → G ≤ 2 ^ 1074 → G + H ≤ 2 ^ 1074 + 2 ^ 1020 → Together (share x w) (share y v)
  uneven tw h k l =
      let big : Heavy G = heavy_of w G tw zw h k in
      whole_sum (share x w) (share y v) big.below (2 ^ 1024) (2 ^ 1020) G (2 ^ 1074 + 2 ^ 1020 - G) (share_heavy x w G tx zw big)
      (share_light y v H ty zv (2 ^ 1074 + 2 ^ 1020 - G) (some G (2 ^ 1074) (2 ^ 1020) (pow_pos 1020) k) (rest G H (2 ^ 1074 + 2 ^ 1020) l)) big.is (back G (2 ^ 1074) (2 ^ 1020) k)
    where
      some : (g a b : ℕ) → 0 < b → g ≤ a → 0 < a + b - g
      some g a b p q = omega arith

      rest : (g i a : ℕ) → g + i ≤ a → i ≤ a - g
      rest g i a p = omega arith

      back : (g a b : ℕ) → g ≤ a → g + (a + b - g) ≡ a + b
      back g a b p = omega arith

  -- both a half at most
  even : G ≤ 2 ^ 1073 → H ≤ 2 ^ 1073 → Together (share x w) (share y v)
  even h k = half_sum (share x w) (share y v) (2 ^ 2044) (pow_pos 2044) (share_half x w G tx zw h) (share_half y v H ty zv k)

  stays : Fin x → Fin y → Together (share x w) (share y v) → finite (add binary64 (mul binary64 x w) (mul binary64 y v)) ≡ true
  stays fx fy l =
      add_stays (mul binary64 x w) (mul binary64 y v) (share x w) (share y v) (mul_sized x w fx zw.fin_is (first (share x w) (share y v) (2 ^ 53 - 1) (2 ^ 2045) l))
      (mul_sized y v fy zv.fin_is (first (share y v) (share x w) (2 ^ 53 - 1) (2 ^ 2045) (swapped (share x w) (share y v) _ l))) l
    where
      first : (g h M U : ℕ) → 2 * (g + h) < (2 * M + 1) * U → g < suc M * U
      first g h M U l = omega arith

-- ---- 1 - f as rounded, for f from 0 to 1, and the two weights together
nothing : (m : ℕ) (e : ℤ) → Unit (fin true m e) → m * up e ≤ 0
nothing m e u = let k : left (naught false) (fin true m e) ≤ right (naught false) (fin true m e) = le→ (naught false) (fin true m e) refl refl u.low in omega arith

unit_num : (f : Float) → Unit f → num f ≤ den f
unit_num nan u = clash (sym (unit_finite nan u))
unit_num (inf s) u = clash (sym (unit_finite (inf s) u))
unit_num (fin false m e) u = let k : left (fin false m e) one ≤ right (fin false m e) one = le→ (fin false m e) one refl refl u.high in omega arith
unit_num (fin true m e) u = le_trans (nothing m e u) zero-le

-- by the sign of f, N / D in size
over_zero : (N D : ℕ) → N ≤ D → sum binary64 false (1 * D) true (N * 1) (1 * D) ≡ round binary64 false (D - N) D
unfolding sum
over_zero N D h =
    ap (λ (t : Bool). cond t (round binary64 true (N * 1 - 1 * D) (1 * D)) (round binary64 false (1 * D - N * 1) (1 * D))) (le-ltb (1 * D) (N * 1) (omega arith))
    ∙ ap₂ (λ (n d : ℕ). round binary64 false n d) less (one-mul D)
  where
    less : 1 * D - N * 1 ≡ D - N
    less = omega arith

minus_zero : (N D : ℕ) → N ≤ 0 → round binary64 false (1 * D + N * 1) (1 * D) ≡ round binary64 false (D - N) D
minus_zero N D h = ap₂ (λ (n d : ℕ). round binary64 false n d) same (one-mul D)
  where
    same : 1 * D + N * 1 ≡ D - N
    same = omega arith

one_less : (f : Float) → Unit f → sub binary64 one f ≡ round binary64 false (den f - num f) (den f)
unfolding sub neg add sum
one_less nan u = clash (sym (unit_finite nan u))
one_less (inf s) u = clash (sym (unit_finite (inf s) u))
one_less (fin false m e) u = over_zero (m * up e) (down e) (unit_num (fin false m e) u)
one_less (fin true m e) u = minus_zero (m * up e) (down e) (nothing m e u)

-- N / D is f in size, and `other` is 1 - f as rounded, in units
module _ (N D : ℕ) (d : 0 < D) (h : N ≤ D) where
  abbrev other : ℕ
  other = rounded ((D - N) * 2 ^ 1074) D

  other_high : other ≤ 2 ^ 1074
  other_high = rounded_middle ((D - N) * 2 ^ 1074) D d (2 ^ 52) 1022 (lit≤ tt) (lit< tt) (under (2 ^ 1022) (mul-pos (pow_pos 1022) d))
    where
      under : (Y : ℕ) → 0 < Y * D → 2 * ((D - N) * (2 ^ 52 * Y)) < (2 * 2 ^ 52 + 1) * (Y * D)
      under Y y = let k : D - N ≤ D = omega arith in omega (arith, y, mul-le-mul_right Y k)

  -- both weights are at most 2 ^ -54 above 1
  both_high : other * D + N * 2 ^ 1074 ≤ (2 ^ 1074 + 2 ^ 1020) * D
  both_high = ⊎_elim none some (either N 0)
    where
      at_one : (n Q E G : ℕ) → n ≤ 0 → G ≤ Q → G * D + n * Q ≤ (Q + E) * D
      at_one n Q E G l k = omega (arith, mul-le-mul_right D k, mul-le-mul_right Q l)

      none : N ≤ 0 → other * D + N * 2 ^ 1074 ≤ (2 ^ 1074 + 2 ^ 1020) * D
      none l = at_one N (2 ^ 1074) (2 ^ 1020) other l other_high

      less : (k Q : ℕ) → 0 < Q → k < D → k * Q < Q * D
      less k Q q l = omega (arith, mul-lt-mul_of_pos_right l q)

      tight : (Q E G L : ℕ) → 2 * (G * D) ≤ 2 * ((D - N) * Q) + D * L → L ≤ 2 * E → G * D + N * Q ≤ (Q + E) * D
      tight Q E G L p q = go (D - N) (omega (arith, h)) p
        where
          go : (k : ℕ) → N + k ≡ D → 2 * (G * D) ≤ 2 * (k * Q) + D * L → G * D + N * Q ≤ (Q + E) * D
          go k e p = omega (arith, ap (λ (z : ℕ). z * Q) e, mul-le-mul_left D q)

      some : 0 < N → other * D + N * 2 ^ 1074 ≤ (2 ^ 1074 + 2 ^ 1020) * D
      some l =
          let k : D - N < D = omega (arith, l, d) in
          tight (2 ^ 1074) (2 ^ 1020) other _ (rounded_half ((D - N) * 2 ^ 1074) D d) (pow_mono (drop_le ((D - N) * 2 ^ 1074) D d 1021 (less (D - N) (2 ^ 1074) (pow_pos 1074) k)))

-- ---- so the blend is finite
module _ (a b f : Float) (fa : Fin a) (fb : Fin b) (ta : T (fits binary64 a)) (tb : T (fits binary64 b)) (u : Unit f) (tf : T (fits binary64 f)) where
  n≤d : num f ≤ den f
  n≤d = unit_num f u

  abbrev G : ℕ
  G = other (num f) (den f) (den_pos f) n≤d

  G-high : G ≤ 2 ^ 1074
  G-high = other_high (num f) (den f) (den_pos f) n≤d

  zg : Sized (sub binary64 one f) G
  zg = subst (λ (g : Float). Sized g G) (sym (one_less f u)) (round_sized false (den f - num f) (den f) (lt_of_le_of_lt G-high (lit< tt)))

  known : Counted f
  known = counted f (unit_finite f u) tf

  F-high : known.count ≤ 2 ^ 1074
  F-high = le_of_mul-le-mul_right (subst (λ (z : ℕ). z ≤ 2 ^ 1074 * den f) known.sized.units (subst (λ (z : ℕ). num f * 2 ^ 1074 ≤ z) (mul_comm (den f) (2 ^ 1074)) (mul-le-mul_right (2 ^ 1074) n≤d))) (den_pos f)

  total : G + known.count ≤ 2 ^ 1074 + 2 ^ 1020
  total =
      le_of_mul-le-mul_right
      (subst (λ (z : ℕ). z ≤ (2 ^ 1074 + 2 ^ 1020) * den f) (ap (λ (z : ℕ). G * den f + z) known.sized.units ∙ sym (add-mul G known.count (den f))) (both_high (num f) (den f) (den_pos f) n≤d))
      (den_pos f)

  together : Together (share a (sub binary64 one f)) (share b f)
  together = ⊎_elim g_low g_high (either G (2 ^ 1073))
    where
      g_high : 2 ^ 1073 < G → Together (share a (sub binary64 one f)) (share b f)
      g_high h = uneven a (sub binary64 one f) b f G known.count ta tb zg known.sized (sub-fits binary64 one f) h G-high total

      f_high : 2 ^ 1073 < known.count → Together (share a (sub binary64 one f)) (share b f)
      f_high h =
          swapped (share b f) (share a (sub binary64 one f)) _
          (uneven b f a (sub binary64 one f) known.count G tb ta known.sized zg tf h F-high (subst (λ (z : ℕ). z ≤ 2 ^ 1074 + 2 ^ 1020) (add_comm G known.count) total))

      g_low : G ≤ 2 ^ 1073 → Together (share a (sub binary64 one f)) (share b f)
      g_low h = ⊎_elim (even a (sub binary64 one f) b f G known.count ta tb zg known.sized h) f_high (either known.count (2 ^ 1073))

  pub weighed_finite : finite (add binary64 (mul binary64 a (sub binary64 one f)) (mul binary64 b f)) ≡ true
  weighed_finite = stays a (sub binary64 one f) b f G known.count ta tb zg known.sized fa fb together
