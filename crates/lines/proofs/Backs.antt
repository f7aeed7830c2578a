-- Digits read again: what was written as digits is the number, and no shorter run of digits is.
use mathlib.Core.Path.{◌≡◌, refl, sym, ap, ap₂, ◌∙◌}
use mathlib.Core.Bool.{Bool, true, false, cond}
use mathlib.Core.List.{List, [], ◌∷◌, ◌++◌}
use Prim.Native.Nat.{ℕ, zero, suc, ◌+◌, ◌-◌, ◌*◌, ◌/◌, ◌%◌, ◌^◌, ◌≤◌, ◌<◌}
use native.Mathlib.Nat.{one-le-pow, pow-zero, pow-suc, mod-lt, mod-eq_of_lt}
use native.Mathlib.Omega.{arith}
use lib.Arith.{mod-mul}
use lib.Dec.{ltb}
use borrow.Author.Tests.{lt-ltb, le-ltb, ltb-true, ltb-false}
use Rattle.lines.specs.Digit.{glyph_of, digits, places, decimal}
use Rattle.lines.proofs.Digits.{glyph_low, glyph_high}

-- the digit that a glyph stands for
unfoldable pub digit_of : ℕ → ℕ
digit_of g = cond (ltb g 58) (g - 48) (g - 87)

-- the number that glyphs stand for, after those that stand for m
unfoldable pub value_in : ℕ → ℕ → List ℕ → ℕ
value_in base m [] = m
value_in base m (g ∷ gs) = value_in base (m * base + digit_of g) gs

value_append : (base m : ℕ) (xs ys : List ℕ) → value_in base m (xs ++ ys) ≡ value_in base (value_in base m xs) ys
unfolding value_in
value_append base m [] ys = refl
value_append base m (x ∷ xs) ys = value_append base (m * base + digit_of x) xs ys

glyph_back : (d : ℕ) → d < 16 → digit_of (glyph_of d) ≡ d
unfolding digit_of
glyph_back d h = go (ltb d 10) (ltb-true d 10) (ltb-false d 10)
  where
    go : (t : Bool) → (t ≡ true → d < 10) → (t ≡ false → 10 ≤ d) → cond (ltb (glyph_of d) 58) (glyph_of d - 48) (glyph_of d - 87) ≡ d
    go true low _ = let e = glyph_low d (low refl) in rw (e, lt-ltb (48 + d) 58 (omega (arith, low refl))) (omega arith)
    go false _ high = let e = glyph_high d (high refl) in rw (e, le-ltb (87 + d) 58 (omega arith)) (omega arith)

-- k digits say the number but for what is above them
pub digits_back : (base k n : ℕ) → 0 < base → base ≤ 16 → value_in base 0 (digits base k n) ≡ n % base ^ k
unfolding value_in digits
digits_back base zero n h l = sym (ap (λ (m : ℕ). n % m) (pow-zero base) ∙ omega arith)
digits_back base (suc k) n h l =
    value_append base 0 (digits base k (n / base)) (glyph_of (n % base) ∷ [])
    ∙ ap₂ (λ (m d : ℕ). m * base + d) (digits_back base k (n / base) h l) (glyph_back (n % base) (omega (arith, mod-lt n h)))
    ∙ sym (ap (λ (m : ℕ). n % m) (pow-suc base k) ∙ mod-mul n {m = base ^ k} {c = base} (omega (arith, one-le-pow k base h)) h)

-- "16 lower-case hex digits" say 64 bits
pub hex_back : (n : ℕ) → n < 2 ^ 64 → value_in 16 0 (digits 16 16 n) ≡ n
hex_back n h = digits_back 16 16 n (omega arith) (omega arith) ∙ mod-eq_of_lt (omega arith)

-- the places are enough; that no fewer are is `places_most`
pub places_enough : (k n : ℕ) → n < 10 ^ suc k → n < 10 ^ places k n
unfolding places
places_enough zero n h = h
places_enough (suc k) n h = go (ltb n 10) (ltb-true n 10) (places_enough k (n / 10) (omega (arith, pow-suc 10 (suc k))))
  where
    go : (t : Bool) → (t ≡ true → n < 10) → n / 10 < 10 ^ places k (n / 10) → n < 10 ^ cond t 1 (suc (places k (n / 10)))
    go true low tenth = omega (arith, low refl)
    go false low tenth = omega (arith, pow-suc 10 (places k (n / 10)))

pub decimal_back : (n : ℕ) → n < 10 ^ 20 → value_in 10 0 (decimal n) ≡ n
unfolding decimal
decimal_back n h = digits_back 10 (places 19 n) n (omega arith) (omega arith) ∙ mod-eq_of_lt (places_enough 19 n h)
