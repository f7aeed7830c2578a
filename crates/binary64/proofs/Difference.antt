-- The difference of two finite numbers of either sign. Where they are equal it is a zero; where the first is above the second it is one rounded
-- fraction, above zero by gradual underflow; and it keeps the order. Assumes nothing.
use mathlib.Core.Path.{◌≡◌, refl, sym, ap, ap₂, ◌∙◌, subst}
use mathlib.Core.Logic.{◌⊎◌, inl, inr}
use Prim.Native.Nat.{ℕ, zero, suc, ◌+◌, ◌-◌, ◌*◌, ◌%◌, ◌^◌, ◌≤◌, ◌<◌}
use native.Mathlib.Nat.{mul-pos, mul-le-mul_right, mul-le-mul_left, mul-le-mul, mul_comm, one-mul, zero-mul, le_trans, le_of_lt, eq-or-lt_of_le}
use native.Mathlib.Omega.{arith}
use mathlib.Core.Bool.{Bool, true, false, not, ◌&&◌, cond}
use lib.IntN.{ℤ, pos, negsuc}
use lib.Pow.{pow-add}
use lib.Dec.{T, ltb, leb, eqb, ltb→lt, leb→le, eqb→eq, lit<, lit≤}
use borrow.Author.Tests.{ltb-true, lt-ltb, le-ltb, leb-true, leb-false, eqb-true}
use lib.Ieee.{Float, nan, inf, fin, Format, binary64, up, down, round, sum, sub, lt, le, eq, fits}
use lib.Ieee.Fits.{down_pos, up_pos}
use lib.Ieee.Order.{round_mono}
use lib.Ieee.Positive.{den, den_pos, above, above_of_le}
use lib.Ieee.Scale.{round_same}
use lib.Ieee.Bits.{is_true}
use Rattle.binary64.proofs.Order.{Fin, left, right, over, under, lt_cross, le_cross, eq_cross, clash}
use Rattle.binary64.proofs.Order as order

-- ---- zeros
abbrev pub naught : Bool → Float
naught s = fin s 0 (pos 0)

pub round_zero : (s : Bool) (c : ℕ) → 0 < c → round binary64 s 0 c ≡ naught s
unfolding round
round_zero s c h = round_same binary64 s 0 c 0 1 h (omega arith) (omega arith)

-- a zero of either sign
abbrev pub Zero : Float → Type 0
Zero z = (z ≡ naught false) ⊎ (z ≡ naught true)

-- ---- ±a / c - ±b / c where the two are equal
level_same : (s : Bool) (a b c : ℕ) → a ≡ b → 0 < c → sum binary64 s a (not s) b c ≡ naught false
unfolding sum
level_same s a b c e h = ap (λ (z : ℕ). sum binary64 s a (not s) z c) (sym e) ∙ itself s
  where
    gone : a - a ≡ 0
    gone = omega arith

    itself : (t : Bool) → sum binary64 t a (not t) a c ≡ naught false
    itself true = ap₂ (λ (u : Bool) (z : ℕ). cond u (round binary64 false z c) (round binary64 (true && u) z c)) (le-ltb a a (omega arith)) gone ∙ round_zero false c h
    itself false = ap₂ (λ (u : Bool) (z : ℕ). cond u (round binary64 true z c) (round binary64 (false && u) z c)) (le-ltb a a (omega arith)) gone ∙ round_zero false c h

level_opposite : (s : Bool) (a b c : ℕ) → a + b ≡ 0 → 0 < c → sum binary64 s a s b c ≡ naught s
unfolding sum
level_opposite s a b c e h = added s ∙ ap (λ (z : ℕ). round binary64 s z c) e ∙ round_zero s c h
  where
    added : (t : Bool) → sum binary64 t a t b c ≡ round binary64 t (a + b) c
    added true = refl
    added false = refl

-- ---- ±a / c - ±b / c, by the signs, where the first is the larger
module _ (f : Format) (a b c : ℕ) where
  both_over : b < a → sum f false a true b c ≡ round f false (a - b) c
  unfolding sum
  both_over h = ap (λ (t : Bool). cond t (round f true (b - a) c) (round f false (a - b) c)) (le-ltb a b (omega arith))

  both_under : a < b → sum f true a false b c ≡ round f false (b - a) c
  unfolding sum
  both_under h = ap (λ (t : Bool). cond t (round f false (b - a) c) (round f (true && ltb b a) (a - b) c)) (lt-ltb a b h)

  across : sum f false a false b c ≡ round f false (a + b) c
  unfolding sum
  across = refl

opened : (f : Format) (s t : Bool) (m n : ℕ) (e d : ℤ) → sub f (fin s m e) (fin t n d) ≡ sum f s (m * up e * down d) (not t) (n * up d * down e) (down e * down d)
unfolding sub
opened f s t m n e d = refl

module _ (f : Format) (c : ℕ) where
  same : (x y : ℕ) → x ≡ y → round f false x c ≡ round f false y c
  same x y h = ap (λ (z : ℕ). round f false z c) h

-- the signs' cases on plain numbers
module _ (f : Format) (A B p q : ℕ) where
  case_ff : B * p + 0 * q < A * q + 0 * p → sum f false (A * q) true (B * p) (p * q) ≡ round f false (A * q + 0 * p - (B * p + 0 * q)) (p * q)
  case_ff h = both_over f (A * q) (B * p) (p * q) (omega arith) ∙ same f (p * q) _ _ (omega arith)

  case_ft : sum f false (A * q) false (B * p) (p * q) ≡ round f false (A * q + B * p - (0 * p + 0 * q)) (p * q)
  case_ft = across f (A * q) (B * p) (p * q) ∙ same f (p * q) _ _ (omega arith)

  case_tt : 0 * p + A * q < 0 * q + B * p → sum f true (A * q) false (B * p) (p * q) ≡ round f false (0 * q + B * p - (0 * p + A * q)) (p * q)
  case_tt h = both_under f (A * q) (B * p) (p * q) (omega arith) ∙ same f (p * q) _ _ (omega arith)

cross_of : (y x : Float) → Fin y → Fin x → lt y x ≡ true → left y x < right y x
cross_of y x g h l = ltb-true (left y x) (right y x) (sym (lt_cross y x g h) ∙ l)

by_signs : (f : Format) (x y : Float) → Fin x → Fin y → left y x < right y x → sub f x y ≡ round f false (right y x - left y x) (den x * den y)
by_signs f nan y h g l = clash (sym h)
by_signs f (inf s) y h g l = clash (sym h)
by_signs f (fin s m e) nan h g l = clash (sym g)
by_signs f (fin s m e) (inf t) h g l = clash (sym g)
by_signs f (fin false m e) (fin false n d) h g l = opened f false false m n e d ∙ case_ff f (m * up e) (n * up d) (down e) (down d) l
by_signs f (fin false m e) (fin true n d) h g l = opened f false true m n e d ∙ case_ft f (m * up e) (n * up d) (down e) (down d)
by_signs f (fin true m e) (fin false n d) h g l = absurd (omega arith)
by_signs f (fin true m e) (fin true n d) h g l = opened f true true m n e d ∙ case_tt f (m * up e) (n * up d) (down e) (down d) l

level_signs : (x y : Float) → Fin x → Fin y → left x y ≡ right x y → Zero (sub binary64 x y)
level_signs nan y h g l = clash (sym h)
level_signs (inf s) y h g l = clash (sym h)
level_signs (fin s m e) nan h g l = clash (sym g)
level_signs (fin s m e) (inf t) h g l = clash (sym g)
level_signs (fin false m e) (fin false n d) h g l =
    inl (opened binary64 false false m n e d ∙ level_same false (m * up e * down d) (n * up d * down e) (down e * down d) (omega arith) (mul-pos (down_pos e) (down_pos d)))
level_signs (fin false m e) (fin true n d) h g l =
    inl (opened binary64 false true m n e d ∙ level_opposite false (m * up e * down d) (n * up d * down e) (down e * down d) (omega arith) (mul-pos (down_pos e) (down_pos d)))
level_signs (fin true m e) (fin false n d) h g l =
    inr (opened binary64 true false m n e d ∙ level_opposite true (m * up e * down d) (n * up d * down e) (down e * down d) (omega arith) (mul-pos (down_pos e) (down_pos d)))
level_signs (fin true m e) (fin true n d) h g l =
    inl (opened binary64 true true m n e d ∙ level_same true (m * up e * down d) (n * up d * down e) (down e * down d) (omega arith) (mul-pos (down_pos e) (down_pos d)))

-- x - y for x equal to y, plus and minus zero being equal
pub sub_level : (x y : Float) → Fin x → Fin y → eq x y ≡ true → Zero (sub binary64 x y)
sub_level x y h g l = level_signs x y h g (eqb-true (left x y) (right x y) (sym (eq_cross x y h g) ∙ l))

-- x - y for y < x
pub sub_is : (f : Format) (x y : Float) → Fin x → Fin y → lt y x ≡ true → sub f x y ≡ round f false (right y x - left y x) (den x * den y)
sub_is f x y h g l = by_signs f x y h g (cross_of y x g h l)

-- ---- p - y ≤ x - y for y < p ≤ x
widen : (P N D P' N' D' P'' N'' D'' : ℕ)
    → P * D' + N' * D < P' * D + N * D' → P * D'' + N'' * D < P'' * D + N * D'' → P' * D'' + N'' * D' ≤ P'' * D' + N' * D''
    → (P' * D + N * D' - (P * D' + N' * D)) * (D'' * D) ≤ (P'' * D + N * D'' - (P * D'' + N'' * D)) * (D' * D)
widen P N D P' N' D' P'' N'' D'' h k l = go (P' * D + N * D' - (P * D' + N' * D)) (P'' * D + N * D'' - (P * D'' + N'' * D)) (omega arith) (omega arith)
  where
    go : (u v : ℕ) → P * D' + N' * D + u ≡ P' * D + N * D' → P * D'' + N'' * D + v ≡ P'' * D + N * D'' → u * (D'' * D) ≤ v * (D' * D)
    go u v a b = omega (arith, ap (λ (z : ℕ). z * (D'' * D)) a, ap (λ (z : ℕ). z * (D' * D)) b, mul-le-mul_right (D * D) l)

pub sub_grows : (f : Format) (x p y : Float) → Fin x → Fin p → Fin y → lt y p ≡ true → lt y x ≡ true → le p x ≡ true → T (le (sub f p y) (sub f x y))
sub_grows f x p y fx fp fy h k l =
    subst (λ (z : Float). T (le z (sub f x y))) (sym (sub_is f p y fp fy h))
    (subst (λ (z : Float). T (le (round f false (right y p - left y p) (den p * den y)) z)) (sym (sub_is f x y fx fy k))
    (round_mono f (right y p - left y p) (den p * den y) (right y x - left y x) (den x * den y) (mul-pos (den_pos p) (den_pos y)) (mul-pos (den_pos x) (den_pos y))
    (widen (over y) (under y) (den y) (over p) (under p) (den p) (over x) (under x) (den x) (cross_of y p fy fp h) (cross_of y x fy fx k) (leb-true (left p x) (right p x) (sym (le_cross p x fp fx) ∙ l)))))

-- ---- x - y is above zero for y < x, where the format holds both: it is a whole number of the format's smallest values
pub either : (i j : ℕ) → (i ≤ j) ⊎ (j < i)
either i j = go (leb i j) (leb-true i j) (leb-false i j)
  where
    go : (t : Bool) → (t ≡ true → i ≤ j) → (t ≡ false → j < i) → (i ≤ j) ⊎ (j < i)
    go true f g = inl (f refl)
    go false f g = inr (g refl)

whole-gap : (d R L z w : ℕ) → R ≡ d * z → L ≡ d * w → L < R → d ≤ R - L
whole-gap d R L z w p q h = go (eq-or-lt_of_le le)
  where
    le : w ≤ z
    le = elim (either w z) [ inl k ↦ k | inr k ↦ absurd (let m : d * z ≤ d * w = mul-le-mul_left d (le_of_lt k) in omega arith) ]

    go : (w ≡ z) ⊎ (w < z) → d ≤ R - L
    go (inl e) = absurd (let m : d * w ≡ d * z = ap (λ (k : ℕ). d * k) e in omega arith)
    go (inr k) = let m : d * (w + 1) ≤ d * z = mul-le-mul_left d (omega arith) in omega arith

-- the denominators divide one another
module _ (P N D P' N' D' G : ℕ) (a : D ≤ G) (b : D' ≤ G) (lt : P * D' + N' * D < P' * D + N * D') where
  by_first : (k : ℕ) → D' ≡ D * k → D' * D ≤ (P' * D + N * D' - (P * D' + N' * D)) * G
  by_first k e =
      let g : D ≤ P' * D + N * D' - (P * D' + N' * D) =
      whole-gap D (P' * D + N * D') (P * D' + N' * D) (P' + N * k) (P * k + N') (omega (arith, ap (λ (z : ℕ). N * z) e)) (omega (arith, ap (λ (z : ℕ). P * z) e)) lt
      in
      subst (λ (z : ℕ). z ≤ (P' * D + N * D' - (P * D' + N' * D)) * G) (mul_comm D D') (mul-le-mul g b)

  by_second : (k : ℕ) → D ≡ D' * k → D' * D ≤ (P' * D + N * D' - (P * D' + N' * D)) * G
  by_second k e =
      let g : D' ≤ P' * D + N * D' - (P * D' + N' * D) =
      whole-gap D' (P' * D + N * D') (P * D' + N' * D) (P' * k + N) (P + N' * k) (omega (arith, ap (λ (z : ℕ). P' * z) e)) (omega (arith, ap (λ (z : ℕ). N' * z) e)) lt
      in
      mul-le-mul g a

pub place : ℤ → ℕ
place (pos k) = 0
place (negsuc k) = suc k

down_is : (e : ℤ) → down e ≡ 2 ^ place e
unfolding place
down_is (pos k) = refl
down_is (negsuc k) = refl

pub divides : (i j : ℕ) → i ≤ j → 2 ^ j ≡ 2 ^ i * 2 ^ (j - i)
divides i j h = ap (λ (k : ℕ). 2 ^ k) more ∙ pow-add 2 i (j - i)
  where
    more : j ≡ i + (j - i)
    more = omega arith

pub exponent : Float → ℕ
exponent nan = 0
exponent (inf s) = 0
exponent (fin s m e) = place e

pub den_is : (x : Float) → den x ≡ 2 ^ exponent x
unfolding exponent
den_is nan = refl
den_is (inf s) = refl
den_is (fin s m e) = down_is e

pub no_fault : (x : Float) → T (fits binary64 x) → den x ≤ 2 ^ 1074
unfolding fits
no_fault nan t = lit≤ tt
no_fault (inf s) t = lit≤ tt
no_fault (fin s zero (pos k)) t = lit≤ tt
no_fault (fin s zero (negsuc k)) t = let e : 1 * 2 ^ suc k ≡ 1 = eqb→eq (1 * 2 ^ suc k) 1 t in le_trans (omega arith) (lit≤ {m = 1} {n = 2 ^ 1074} tt)
no_fault (fin s (suc m) e) t = leb→le (down e) (2 ^ 1074) (third (eqb (suc m % 2) 1) (ltb (suc m) (2 ^ 53)) (leb (down e) (2 ^ 1074)) (ltb (suc m * up e) (2 ^ 1024 * down e)) t)
  where
    third : (p q r s : Bool) → T (p && q && r && s) → T r
    third true true true s t = tt
    third true true false s t = t
    third true false r s t = absurd t
    third false q r s t = absurd t

least_is : round binary64 false 1 (2 ^ 1074) ≡ fin false 1 (negsuc 1073)
unfolding round
least_is = refl

sub_high : (x y : Float) → Fin x → Fin y → T (fits binary64 x) → T (fits binary64 y) → lt y x ≡ true → T (above (sub binary64 x y))
sub_high x y fx fy tx ty l =
    above_of_le (fin false 1 (negsuc 1073)) (sub binary64 x y) tt
    (subst (λ (z : Float). T (le (fin false 1 (negsuc 1073)) z)) (sym (sub_is binary64 x y fx fy l))
    (subst (λ (z : Float). T (le z (round binary64 false (right y x - left y x) (den x * den y)))) least_is
    (round_mono binary64 1 (2 ^ 1074) (right y x - left y x) (den x * den y) (lit< tt) (mul-pos (den_pos x) (den_pos y)) (subst (λ (z : ℕ). z ≤ (right y x - left y x) * 2 ^ 1074) (sym (one-mul (den x * den y))) far))))
  where
    far : den x * den y ≤ (right y x - left y x) * 2 ^ 1074
    far = elim (either (exponent y) (exponent x)) [
      | inl h ↦ by_first (over y) (under y) (den y) (over x) (under x) (den x) (2 ^ 1074) (no_fault y ty) (no_fault x tx) (cross_of y x fy fx l) (2 ^ (exponent x - exponent y)) (den_is x ∙ divides (exponent y) (exponent x) h ∙ ap (λ (z : ℕ). z * 2 ^ (exponent x - exponent y)) (sym (den_is y)))
      | inr h ↦ by_second (over y) (under y) (den y) (over x) (under x) (den x) (2 ^ 1074) (no_fault y ty) (no_fault x tx) (cross_of y x fy fx l) (2 ^ (exponent y - exponent x)) (den_is y ∙ divides (exponent x) (exponent y) (le_of_lt h) ∙ ap (λ (z : ℕ). z * 2 ^ (exponent y - exponent x)) (sym (den_is x)))
    ]

above_lt : (z : Float) → T (above z) → lt (naught false) z ≡ true
unfolding lt
above_lt nan t = absurd t
above_lt (inf s) t = is_true (not s) t
above_lt (fin true m e) t = absurd t
above_lt (fin false m e) t = lt-ltb (0 * 1 * down e) (m * up e * 1) (let h : 0 < m * up e = mul-pos (ltb→lt 0 m t) (up_pos e) in omega (arith, zero-mul (down e)))

-- the difference of two numbers, the first above the second, is above zero
pub sub_above : (x y : Float) → Fin x → Fin y → T (fits binary64 x) → T (fits binary64 y) → lt y x ≡ true → lt (naught false) (sub binary64 x y) ≡ true
sub_above x y fx fy tx ty l = above_lt (sub binary64 x y) (sub_high x y fx fy tx ty l)

-- ---- it keeps the order
pub round_not_below : (a c : ℕ) → 0 < c → le (naught false) (round binary64 false a c) ≡ true
round_not_below a c h =
    subst (λ (z : Float). le z (round binary64 false a c) ≡ true) (round_zero false 1 (omega arith))
    (is_true (le (round binary64 false 0 1) (round binary64 false a c)) (round_mono binary64 0 1 a c (omega arith) h (omega arith)))

le_zeros : (a b : Float) → Zero a → Zero b → le a b ≡ true
unfolding le lt eq
le_zeros a b (inl p) (inl q) = rw (p, q)
le_zeros a b (inl p) (inr q) = rw (p, q)
le_zeros a b (inr p) (inl q) = rw (p, q)
le_zeros a b (inr p) (inr q) = rw (p, q)

le_minus_zero : (y : Float) → le (naught false) y ≡ true → le (naught true) y ≡ true
unfolding le lt eq
le_minus_zero nan q = q
le_minus_zero (inf s) q = q
le_minus_zero (fin s m e) q = order.le_trans (naught true) (naught false) (fin s m e) refl refl refl refl q

le_zero_round : (z : Float) (a c : ℕ) → Zero z → 0 < c → le z (round binary64 false a c) ≡ true
le_zero_round z a c (inl p) h = rw p (round_not_below a c h)
le_zero_round z a c (inr p) h = rw p (le_minus_zero (round binary64 false a c) (round_not_below a c h))

-- p - y ≤ x - y for y ≤ p ≤ x
module _ (x p y : Float) (fx : Fin x) (fp : Fin p) (fy : Fin y) (l : le p x ≡ true) where
  sub_keeps : (lt y p ≡ true) ⊎ (eq y p ≡ true) → (lt y x ≡ true) ⊎ (eq y x ≡ true) → le (sub binary64 p y) (sub binary64 x y) ≡ true
  sub_keeps (inl h) (inl k) = is_true (le (sub binary64 p y) (sub binary64 x y)) (sub_grows binary64 x p y fx fp fy h k l)
  sub_keeps (inl h) (inr k) = clash (sym (order.lt_of_lt_of_le y p x fy fp fx h l) ∙ order.lt_of_eq y x fy fx k)
  sub_keeps (inr h) (inl k) =
      subst (λ (z : Float). le (sub binary64 p y) z ≡ true) (sym (sub_is binary64 x y fx fy k))
      (le_zero_round (sub binary64 p y) (right y x - left y x) (den x * den y) (sub_level p y fp fy (order.eq_sym y p fy fp h)) (mul-pos (den_pos x) (den_pos y)))
  sub_keeps (inr h) (inr k) = le_zeros (sub binary64 p y) (sub binary64 x y) (sub_level p y fp fy (order.eq_sym y p fy fp h)) (sub_level x y fx fy (order.eq_sym y x fy fx k))

  pub sub_keeps_order : le y p ≡ true → le (sub binary64 p y) (sub binary64 x y) ≡ true
  sub_keeps_order h = sub_keeps (order.lt_or_eq_of_le y p fy fp h) (order.lt_or_eq_of_le y x fy fx (order.le_trans y p x fy fp fx h l))

-- 0 ≤ x - y for y ≤ x
pub sub_not_below : (x y : Float) → Fin x → Fin y → le y x ≡ true → le (naught false) (sub binary64 x y) ≡ true
sub_not_below x y fx fy l = go (order.lt_or_eq_of_le y x fy fx l)
  where
    go : (lt y x ≡ true) ⊎ (eq y x ≡ true) → le (naught false) (sub binary64 x y) ≡ true
    go (inl h) = rw (sub_is binary64 x y fx fy h) (round_not_below (right y x - left y x) (den x * den y) (mul-pos (den_pos x) (den_pos y)))
    go (inr h) = le_zeros (naught false) (sub binary64 x y) (inl refl) (sub_level x y fx fy (order.eq_sym y x fy fx h))

-- ---- a zero of either sign beside a number above zero
pub zero_below : (a b : Float) → Zero a → lt (naught false) b ≡ true → lt a b ≡ true
unfolding lt
zero_below a b (inl p) h = rw p h
zero_below a nan (inr p) h = clash (sym h)
zero_below a (inf t) (inr p) h = rw p h
zero_below a (fin t n d) (inr p) h = rw p (order.lt_of_le_of_lt (naught true) (naught false) (fin t n d) refl refl refl (le_zeros (naught true) (naught false) (inr refl) (inl refl)) h)

pub not_below_zero : (a b : Float) → Zero a → lt (naught false) b ≡ true → lt b a ≡ false
unfolding lt
not_below_zero a nan z h = clash (sym h)
not_below_zero a (inf true) z h = clash (sym h)
not_below_zero a (inf false) (inl p) h = rw p
not_below_zero a (inf false) (inr p) h = rw p
not_below_zero a (fin t n d) (inl p) h = rw p (order.lt_asym (naught false) (fin t n d) refl refl h)
not_below_zero a (fin t n d) (inr p) h = rw p (order.lt_asym (naught true) (fin t n d) refl refl (zero_below (naught true) (fin t n d) (inr refl) h))
