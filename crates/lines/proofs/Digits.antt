-- The laws of digits.
use mathlib.Core.Path.{◌≡◌, refl, sym, ap, ◌∙◌}
use mathlib.Core.Bool.{Bool, true, false, cond}
use mathlib.Core.List.{List, [], ◌∷◌, ◌++◌}
use Prim.Native.Nat.{ℕ, zero, suc, ◌+◌, ◌-◌, ◌*◌, ◌/◌, ◌%◌, ◌^◌, ◌≤◌, ◌<◌, max}
use native.Mathlib.Nat.{pow-suc, one-le-pow}
use native.Mathlib.Omega.{arith}
use lib.Dec.{ltb}
use lib.ListN.{length, set, length-append, length-set}
use borrow.Author.Tests.{lt-ltb, le-ltb, ltb-true, ltb-false}
use Rattle.lines.specs.Put.{put}
use Rattle.lines.specs.Scaffolding.{Wrote}
use Rattle.lines.specs.Digit.{glyph_of, digits, places, decimal}
use Rattle.lines.proofs.Puts.{put_none, put_last, wrote_one, wrote_copy}

pub glyph_low : (d : ℕ) → d < 10 → glyph_of d ≡ 48 + d
unfolding glyph_of
glyph_low d h = rw (lt-ltb d 10 h)

pub glyph_high : (d : ℕ) → 10 ≤ d → glyph_of d ≡ 87 + d
unfolding glyph_of
glyph_high d h = rw (le-ltb d 10 h)

-- a digit's glyph by arithmetic: (d + 6) / 16 is 0 below ten, then 1
pub glyph_at : (d : ℕ) → d < 16 → 48 + d + (d + 6) / 16 * 39 ≡ glyph_of d
glyph_at d h = go (ltb d 10) (ltb-true d 10) (ltb-false d 10)
  where
    go : (t : Bool) → (t ≡ true → d < 10) → (t ≡ false → 10 ≤ d) → 48 + d + (d + 6) / 16 * 39 ≡ glyph_of d
    go true low _ = omega (arith, low refl, glyph_low d (low refl))
    go false _ high = omega (arith, high refl, glyph_high d (high refl))

pub digits_none : (base k n : ℕ) → k ≡ 0 → digits base k n ≡ []
unfolding digits
digits_none base k n e = rw e

pub digits_more : (base k n : ℕ) → 0 < k → digits base k n ≡ digits base (k - 1) (n / base) ++ (glyph_of (n % base) ∷ [])
unfolding digits
digits_more base zero n h = absurd (omega arith)
digits_more base (suc k) n h = let e : suc k - 1 ≡ k = omega arith in rw e

pub digits-length : (base k n : ℕ) → length (digits base k n) ≡ k
unfolding digits
digits-length base zero n = refl
digits-length base (suc k) n = rw (length-append, digits-length base k (n / base)) (omega arith)

-- ---- digits written from the lowest up: the first i are left, and they are those of `left`
pub record Writing (d : List ℕ) (at base k n : ℕ) (e : List ℕ) (i left : ℕ) : Type 0 where
  pub within : i ≤ k
  pub kept : length e ≡ length d
  pub right : put e at (digits base i left) ≡ put d at (digits base k n)

pub write_start : (d : List ℕ) (at base k n : ℕ) → Writing d at base k n d k n
write_start d at base k n = record { within = omega arith; kept = refl; right = refl }

pub write_step : {d : List ℕ} {at base k n : ℕ} {e : List ℕ} {i left : ℕ} (g : ℕ) → Writing d at base k n e i left → 0 < i → at + k ≤ length d
    → g ≡ glyph_of (left % base) → Writing d at base k n (set e (at + (i - 1)) g) (i - 1) (left / base)
write_step {d} {at} {base} {k} {n} {e} {i} {left} g w h l q =
    let xs = digits base (i - 1) (left / base) in
    let m : length (digits base (i - 1) (left / base)) ≡ i - 1 = digits-length base (i - 1) (left / base) in
    let fits : at + length (digits base (i - 1) (left / base)) < length e = omega (arith, m, w.within, w.kept) in
    record {
      within = omega (arith, w.within);
      kept = length-set e (at + (i - 1)) g ∙ w.kept;
      right =
          ap (λ (j : ℕ). put (set e (at + j) g) at xs) (sym m)
          ∙ put_last e at xs g fits
          ∙ ap (λ (b : ℕ). put e at (xs ++ (b ∷ []))) q
          ∙ ap (put e at) (sym (digits_more base i left h))
          ∙ w.right;
    }

pub write_end : {d : List ℕ} {at base k n : ℕ} {e : List ℕ} {i left : ℕ} → Writing d at base k n e i left → i ≤ 0 → Wrote d at (digits base k n) e (at + k)
write_end {d} {at} {base} {k} {n} {e} {i} {left} w h = record {
  bytes = sym (ap (put e at) (digits_none base i left (omega arith)) ∙ put_none e at) ∙ w.right;
  next = ap (λ (j : ℕ). at + j) (sym (digits-length base k n));
}

-- ---- how many places

pub places-one : (k n : ℕ) → n < 10 → places k n ≡ 1
unfolding places
places-one zero n h = refl
places-one (suc k) n h = rw (lt-ltb n 10 h)

pub places-more : (k n : ℕ) → 10 ≤ n → places (suc k) n ≡ suc (places k (n / 10))
unfolding places
places-more k n h = rw (le-ltb n 10 h)

pub places_most : (k j n : ℕ) → n < 10 ^ suc j → places k n ≤ suc j
unfolding places
places_most zero j n h = omega arith
places_most (suc k) zero n h = omega (arith, places-one (suc k) n (omega arith))
places_most (suc k) (suc j) n h = go (ltb n 10) (places_most k j (n / 10) (omega (arith, pow-suc 10 (suc j))))
  where
    go : (t : Bool) → places k (n / 10) ≤ suc j → cond t 1 (suc (places k (n / 10))) ≤ suc (suc j)
    go true tenth = omega arith
    go false tenth = omega arith

-- one more than the logarithm, which no 0 has
pub places_log : (k r n m : ℕ) → m ≡ max n 1 → r ≤ k → 10 ^ r ≤ m → m < 10 * 10 ^ r → r + 1 ≡ places k n
places_log k zero n m e l low high = sym (places-one k n (omega arith))
places_log zero (suc r) n m e l low high = absurd (omega arith)
places_log (suc k) (suc r) n m e l low high =
    let p : 10 ^ suc r ≡ 10 ^ r * 10 = pow-suc 10 r in
    let one : 1 ≤ 10 ^ r = one-le-pow r 10 (omega arith) in
    omega (arith, places-more k n (omega arith), places_log k r (n / 10) (m / 10) (omega arith) (omega arith) (omega arith) (omega arith))

-- ---- in decimal

pub decimal-length : (n : ℕ) → length (decimal n) ≡ places 19 n
unfolding decimal
decimal-length n = digits-length 10 (places 19 n) n

pub decimal_most : (j n : ℕ) → n < 10 ^ suc j → length (decimal n) ≤ suc j
decimal_most j n h = omega (arith, decimal-length n, places_most 19 j n h)

-- what the proofs of the code look for
pub ruleset texts = (wrote_one, wrote_copy, glyph_at, places_log, digits-length, write_start, write_step, write_end)
