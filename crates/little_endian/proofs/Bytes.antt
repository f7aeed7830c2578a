-- Numbers as bytes: there and back, how they are read, and bounds. Assumes nothing.
use mathlib.Core.Path.{◌≡◌, refl, sym, ap, ap₂, ◌∙◌}
use mathlib.Core.List.{List, [], ◌∷◌, ◌++◌, append_assoc, append-nil}
use Prim.Native.Nat.{ℕ, zero, suc, ◌+◌, ◌-◌, ◌*◌, ◌/◌, ◌%◌, ◌^◌, ◌≤◌, ◌<◌, min}
use native.Mathlib.Nat.{add-zero, pow-suc, pow-succ', pow-le-pow_right}
use native.Mathlib.Omega.{arith}
use lib.Arith.{mod-mul}
use lib.ListN.{length, take, drop, get_or, drop_of_length-le, length-append, length-drop, length-take}
use lib.Seq.{get_or-append_seam, get_or-take, get_or-drop, length-take-le}
use Rattle.layout.proofs.Totals.{take_there}
use Rattle.std.specs.Int.{w8, w64, from_le_bytes}
use Rattle.std.proofs.Common.{Fits}
use Rattle.little_endian.specs.Words.{of_bytes, to_bytes, word_at}

-- each is a byte
abbrev pub Bytes : List ℕ → Type 0
Bytes s = (i : ℕ) → get_or s i 0 < 256

-- ---- there and back
pub length_bytes : (n x : ℕ) → length (to_bytes n x) ≡ n
unfolding to_bytes
length_bytes zero x = refl
length_bytes (suc n) x = ap suc (length_bytes n (x / 256))

pub power_above : (n : ℕ) → 0 < 256 ^ n
power_above zero = omega arith
power_above (suc n) = omega (arith, power_above n, pow-succ' 256 n)

pub bytes_back : (n x : ℕ) → of_bytes (to_bytes n x) ≡ x % 256 ^ n
unfolding of_bytes to_bytes
bytes_back zero x = omega arith
bytes_back (suc n) x =
    ap (λ (r : ℕ). x % 256 + 256 * r) (bytes_back n (x / 256))
    ∙ sym (ap (λ (m : ℕ). x % m) (pow-suc 256 n) ∙ mod-mul x {m = 256 ^ n} {c = 256} (power_above n) (omega arith) ∙ omega arith)

pub word_back : (bs : List ℕ) → Bytes bs → to_bytes (length bs) (of_bytes bs) ≡ bs
unfolding of_bytes to_bytes
word_back [] h = refl
word_back (b ∷ bs) h =
    let l : b < 256 = h 0 in
    let p : (b + 256 * of_bytes bs) % 256 ≡ b = omega arith in
    let q : (b + 256 * of_bytes bs) / 256 ≡ of_bytes bs = omega arith in
    ap₂ (λ (x : ℕ) (xs : List ℕ). x ∷ xs) p (ap (to_bytes (length bs)) q ∙ word_back bs (λ i. h (suc i)))

-- ---- bytes read from the last to the first: x is the number of those behind `rest`
pub record Reading (bytes rest : List ℕ) (x : ℕ) : Type 0 where
  pub read : List ℕ
  pub all : bytes ≡ rest ++ read
  pub is : x ≡ of_bytes read
  pub below : x < 256 ^ length read

pub reading_none : (bytes rest : List ℕ) → rest ≡ bytes → Reading bytes rest 0
unfolding of_bytes
reading_none bytes rest e = record { read = []; all = sym e ∙ sym (append-nil rest); is = refl; below = omega arith }

module _ (bytes before rest : List ℕ) (x b : ℕ) (small : (i : ℕ) → Fits w8 (get_or bytes i 0)) (r : Reading bytes before x) (e : before ≡ rest ++ (b ∷ [])) where
  all : bytes ≡ rest ++ (b ∷ r.read)
  all = r.all ∙ ap (λ (l : List ℕ). l ++ r.read) e ∙ append_assoc rest (b ∷ []) r.read

  byte : b < 256
  byte = omega (arith, small (length rest), ap (λ (l : List ℕ). get_or l (length rest) 0) all, get_or-append_seam rest b r.read 0)

  pub reading_next : Reading bytes rest (x * 256 + b)
  unfolding of_bytes
  reading_next = record {
    read = b ∷ r.read;
    all = all;
    is = omega (arith, r.is);
    below = rw pow-succ' (omega (arith, r.below, byte));
  }

  pub reading_fits : length bytes ≤ 8 → x * 256 + b < 2 ^ 64
  reading_fits h =
      let l : length bytes ≡ length rest + suc (length r.read) = ap length all ∙ length-append rest (b ∷ r.read) in
      let p : 256 ^ length r.read ≤ 256 ^ 7 = pow-le-pow_right {n = 256} (omega arith) {i = length r.read} {j = 7} (omega arith) in
      omega (arith, r.below, byte, p)

pub reading_end : (bytes rest : List ℕ) (x : ℕ) → length rest ≡ 0 → Reading bytes rest x → (x ≡ of_bytes bytes) × (x < 256 ^ length bytes)
reading_end bytes [] x h r = rw r.all (r.is, r.below)
reading_end bytes (b ∷ rest) x h r = absurd (omega arith)

-- ---- a word at a place
pub word_past : (n : ℕ) (s : List ℕ) (at : ℕ) → length s ≤ at → word_at n s at ≡ 0
unfolding word_at of_bytes
word_past n s at h = ap (λ (l : List ℕ). of_bytes (take n l)) (drop_of_length-le s {i = at} h) ∙ nothing n
  where
    nothing : (k : ℕ) → of_bytes (take k []) ≡ 0
    nothing zero = refl
    nothing (suc k) = refl

-- bytes that are not there are not looked at
pub word_there : (n at k : ℕ) (s : List ℕ) (x : ℕ) → k ≡ min n (length s - at) → x ≡ of_bytes (take (at + k - at) (drop at s)) → x < 256 ^ length (take (at + k - at) (drop at s)) → (x ≡ word_at n s at) × (x < 256 ^ n)
unfolding word_at
word_there n at k s x e is below =
    let c : at + k - at ≡ min n (length (drop at s)) = omega (arith, e, length-drop at s) in
    let l : length (take (at + k - at) (drop at s)) ≤ n = omega (arith, e, length-take (at + k - at) (drop at s)) in
    let p : 256 ^ length (take (at + k - at) (drop at s)) ≤ 256 ^ n = pow-le-pow_right {n = 256} (omega arith) l in
    (is ∙ ap of_bytes (ap (λ (j : ℕ). take j (drop at s)) c ∙ take_there n (drop at s)), omega (arith, below, p))

-- eight bytes that are there, as the library reads them
eight_bytes : (bs : List ℕ) → length bs ≡ 8 → from_le_bytes w64 bs ≡ of_bytes bs
unfolding of_bytes
eight_bytes (a ∷ b ∷ c ∷ d ∷ e ∷ f ∷ g ∷ h ∷ []) l = omega arith
eight_bytes _ l = absurd (omega arith)

pub word_eight : (s : List ℕ) (at : ℕ) → at + 8 ≤ length s
    → from_le_bytes w64 (get_or s at 0 ∷ get_or s (at + 1) 0 ∷ get_or s (at + 2) 0 ∷ get_or s (at + 3) 0 ∷ get_or s (at + 4) 0 ∷ get_or s (at + 5) 0 ∷ get_or s (at + 6) 0 ∷ get_or s (at + 7) 0 ∷ [])
    ≡ word_at 8 s at
unfolding word_at
word_eight s at h =
    let l : length (take 8 (drop at s)) ≡ 8 = length-take-le 8 (drop at s) (omega (arith, length-drop at s)) in
    omega (arith, eight_bytes (take 8 (drop at s)) l, each 0 (omega arith), each 1 (omega arith), each 2 (omega arith), each 3 (omega arith), each 4 (omega arith), each 5 (omega arith), each 6 (omega arith), each 7 (omega arith), ap (λ (k : ℕ). get_or s k 0) (add-zero at))
  where
    each : (i : ℕ) → i < 8 → get_or (take 8 (drop at s)) i 0 ≡ get_or s (at + i) 0
    each i k = get_or-take 8 (drop at s) i 0 k ∙ get_or-drop at s i 0

-- what the proofs of the code look for
pub ruleset reads = (reading_none, reading_next, reading_end, word_past, power_above, word_eight)
