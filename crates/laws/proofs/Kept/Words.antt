-- Laws of numbers as bytes, of steps that the code no longer takes: a word cut off at the end of its bytes, and a word put byte by byte. They
-- hold as they did; no proof stands on them.
use mathlib.Core.Path.{◌≡◌, refl, sym, ap, ap₂, ◌∙◌}
use mathlib.Core.List.{List}
use Prim.Native.Nat.{ℕ, suc, ◌+◌, ◌-◌, ◌/◌, ◌%◌, ◌<◌, min}
use native.Mathlib.Omega.{arith}
use lib.ListN.{length, take, drop, set, length-drop}
use Rattle.std.proofs.lemmas.List.Edits.{sets}
use Rattle.layout.proofs.Totals.{take_there}
use Rattle.little_endian.specs.Words.{of_bytes, to_bytes, word_at}

-- ---- a word at a place
pub word_none : (s : List ℕ) (at : ℕ) → word_at 0 s at ≡ 0
unfolding word_at of_bytes
word_none s at = refl

pub word_there : (n : ℕ) (s : List ℕ) (at : ℕ) → word_at (min n (length s - at)) s at ≡ word_at n s at
unfolding word_at
word_there n s at = ap (λ (k : ℕ). of_bytes (take (min n k) (drop at s))) (sym (length-drop at s)) ∙ ap of_bytes (take_there n (drop at s))

-- ---- a word, byte by byte
pub put_start : (s : List ℕ) (at n x : ℕ) → sets s (at + 0) (to_bytes (n - 0) x) ≡ sets s at (to_bytes n x)
put_start s at n x =
    let a : at + 0 ≡ at = omega arith in
    let b : n - 0 ≡ n = omega arith in
    ap₂ (λ (j k : ℕ). sets s j (to_bytes k x)) a b

pub put_step : (s : List ℕ) (at n i y : ℕ) → i < n → sets (set s (at + i) (y % 256)) (at + (i + 1)) (to_bytes (n - (i + 1)) (y / 256)) ≡ sets s (at + i) (to_bytes (n - i) y)
unfolding to_bytes
put_step s at n i y h =
    let more : suc (n - (i + 1)) ≡ n - i = omega arith in
    let next : at + (i + 1) ≡ suc (at + i) = omega arith in
    ap (λ (j : ℕ). sets (set s (at + i) (y % 256)) j (to_bytes (n - (i + 1)) (y / 256))) next ∙ ap (λ (k : ℕ). sets s (at + i) (to_bytes k y)) more
