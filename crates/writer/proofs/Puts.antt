-- Bytes put into an output, word by word: what is left to put, put after what is there, is the whole. Assumes nothing.
use mathlib.Core.Path.{◌≡◌, refl, sym, ap, ap₂, ◌∙◌}
use mathlib.Core.List.{List, ◌∷◌, ◌++◌}
use Prim.Native.Nat.{ℕ, zero, suc, ◌+◌, ◌-◌, ◌*◌, ◌/◌, ◌%◌, ◌^◌, ◌≤◌, ◌<◌}
use native.Mathlib.Nat.{div-one, div-div-eq-div-mul, pow-suc, pow-zero}
use native.Mathlib.Numerals.{add-one}
use native.Mathlib.Omega.{arith}
use lib.ListN.{length, take, drop, get_or, drop_of_length-le}
use lib.Seq.{sets, sets-eq, drop-cons, take_all}
use lib.Ieee.{Float, nan, binary64, to_bits}
use borrow.Rule.Slice.PartMut.{put_mid}
use Rattle.std.specs.Int.{w64, to_le_bytes, bytes_low_first, byte_at}
use Rattle.std.proofs.lemmas.Slice.{put_mid-paste}
use Rattle.little_endian.specs.Words.{to_bytes}
use Rattle.little_endian.proofs.Bytes.{length_bytes}
use Rattle.image.proofs.Floats.{sets_append}
use Rattle.writer.specs.Made.{field_bytes, float_bytes}
use Rattle.writer.specs.Scaffolding.{widths}

-- ---- a word: the first bytes of eight
byte_is : (i x : ℕ) → x / 256 ^ i % 256 ≡ byte_at i x
byte_is zero x = ap (λ (k : ℕ). x / k % 256) (pow-zero 256) ∙ ap (λ (k : ℕ). k % 256) (div-one x)
byte_is (suc i) x = refl

low_bytes : (k i x : ℕ) → to_bytes k (x / 256 ^ i) ≡ bytes_low_first i k x
unfolding to_bytes
low_bytes zero i x = refl
low_bytes (suc k) i x =
    let wider : 256 ^ i * 256 ≡ 256 ^ suc i = omega (arith, pow-suc 256 i) in
    let further : x / 256 ^ i / 256 ≡ x / 256 ^ suc i = div-div-eq-div-mul x (256 ^ i) 256 ∙ ap (λ (m : ℕ). x / m) wider in
    ap₂ (λ (b : ℕ) (bs : List ℕ). b ∷ bs) (byte_is i x) (ap (to_bytes k) further ∙ low_bytes k (suc i) x)

first_bytes : (n k i x : ℕ) → n ≤ k → take n (bytes_low_first i k x) ≡ bytes_low_first i n x
first_bytes zero k i x h = refl
first_bytes (suc n) zero i x h = absurd (omega arith)
first_bytes (suc n) (suc k) i x h = ap (λ (bs : List ℕ). byte_at i x ∷ bs) (first_bytes n k (suc i) x (omega arith))

word_bytes : (n x : ℕ) → n ≤ 8 → take n (to_le_bytes w64 x) ≡ to_bytes n x
word_bytes n x h =
    first_bytes n 8 0 x h
    ∙ sym (low_bytes n 0 x)
    ∙ ap (λ (k : ℕ). to_bytes n (x / k)) (pow-zero 256)
    ∙ ap (to_bytes n) (div-one x)

pub word_put : (out put eight : List ℕ) (at n x : ℕ) → n ≤ 8 → at + n ≤ length out → eight ≡ to_le_bytes w64 x → put ≡ take n eight → put_mid at (at + n - at) out put ≡ sets out at (to_bytes n x)
word_put out put eight at n x h room f e =
    let same : n ≡ at + n - at = omega arith in
    let long : length (to_bytes n x) ≡ n = length_bytes n x in
    put_mid-paste at (at + n - at) out put (to_bytes n x) n (e ∙ ap (take n) f ∙ word_bytes n x h) same (sym long)
    ∙ ap₂ (λ (bs : List ℕ) (k : ℕ). take at out ++ bs ++ drop k out) (take_all n (to_bytes n x) (omega arith)) (ap (λ (k : ℕ). at + k) (sym long))
    ∙ sym (sets-eq (to_bytes n x) out at (omega arith))

-- a word, then the rest
word_then : (out : List ℕ) (at n x : ℕ) (rest : List ℕ) → sets (sets out at (to_bytes n x)) (at + n) rest ≡ sets out at (to_bytes n x ++ rest)
word_then out at n x rest =
    let long : at + n ≡ at + length (to_bytes n x) = ap (λ (k : ℕ). at + k) (sym (length_bytes n x)) in
    ap (λ (k : ℕ). sets (sets out at (to_bytes n x)) k rest) long ∙ sym (sets_append (to_bytes n x) rest out at)

-- ---- floats, eight bytes each
pub floats_step : (out next : List ℕ) (at i x : ℕ) (floats : List Float) → i < length floats → x ≡ to_bits binary64 (get_or floats i nan) → next ≡ sets out (at + 8 * i) (to_bytes 8 x)
    → sets next (at + 8 * (i + 1)) (float_bytes (drop (i + 1) floats)) ≡ sets out (at + 8 * i) (float_bytes (drop i floats))
unfolding float_bytes
floats_step out next at i x floats h e q =
    let far : at + 8 * (i + 1) ≡ at + 8 * i + 8 = omega arith in
    let one : drop i floats ≡ get_or floats i nan ∷ drop (i + 1) floats = rw (add-one) (drop-cons floats i nan h) in
    ap₂ (λ (l : List ℕ) (k : ℕ). sets l k (float_bytes (drop (i + 1) floats))) (q ∙ ap (λ (b : ℕ). sets out (at + 8 * i) (to_bytes 8 b)) e) far
    ∙ word_then out (at + 8 * i) 8 (to_bits binary64 (get_or floats i nan)) (float_bytes (drop (i + 1) floats))
    ∙ ap (λ (l : List Float). sets out (at + 8 * i) (float_bytes l)) (sym one)

pub floats_end : (out : List ℕ) (j i : ℕ) (floats : List Float) → length floats ≤ i → sets out j (float_bytes (drop i floats)) ≡ out
unfolding float_bytes
floats_end out j i floats h = ap (λ (l : List Float). sets out j (float_bytes l)) (drop_of_length-le floats h)

-- ---- fields, each of its width
module _ (fs : List (ℕ × ℕ)) (k : ℕ) (there : k < length fs) where
  abbrev field : ℕ × ℕ
  field = get_or fs k (0, 0)

  one : drop k fs ≡ get_or fs k (0, 0) ∷ drop (k + 1) fs
  one = rw (add-one) (drop-cons fs k (0, 0) there)

  pub widths_more : widths (drop k fs) ≡ (get_or fs k (0, 0)).0 + widths (drop (k + 1) fs)
  widths_more = ap widths one

  pub fields_step : (out next : List ℕ) (at : ℕ) → next ≡ sets out at (to_bytes (get_or fs k (0, 0)).0 (get_or fs k (0, 0)).1)
      → sets next (at + (get_or fs k (0, 0)).0) (field_bytes (drop (k + 1) fs)) ≡ sets out at (field_bytes (drop k fs))
  fields_step out next at q =
      ap (λ (l : List ℕ). sets l (at + field.0) (field_bytes (drop (k + 1) fs))) q
      ∙ word_then out at field.0 field.1 (field_bytes (drop (k + 1) fs))
      ∙ ap (λ (l : List (ℕ × ℕ)). sets out at (field_bytes l)) (sym one)
