-- Words, fields and floats that were written are read back. Assumes nothing.
use mathlib.Core.Path.{◌≡◌, refl, sym, ap, ap₂, ◌∙◌, subst}
use mathlib.Core.List.{List, [], ◌∷◌, ◌++◌, append_assoc}
use Prim.Native.Nat.{ℕ, zero, suc, ◌+◌, ◌*◌, ◌^◌, ◌<◌}
use native.Mathlib.Nat.{mod-eq_of_lt}
use native.Mathlib.Omega.{arith}
use lib.Dec.{T}
use lib.ListN.{length, take, length-append}
use lib.Seq.{take_at, drop_at}
use lib.Ieee.{Float, binary64, of_bits, to_bits, fits}
use lib.Ieee.Bits.{of_bits-to_bits, to_bits-lt, of_bits-fits}
use lib.Ieee.Fits.{nan-fits}
use Rattle.binary64.proofs.Held.{Held}
use Rattle.little_endian.specs.Words.{of_bytes, to_bytes, word_at, float_at}
use Rattle.little_endian.proofs.Bytes.{length_bytes, bytes_back}
use Rattle.image.specs.Image.{floats_at}
use Rattle.writer.specs.Made.{field_bytes, float_bytes}

word_back : (n x : ℕ) (p q : List ℕ) (at : ℕ) → length p ≡ at → x < 256 ^ n → word_at n (p ++ (to_bytes n x ++ q)) at ≡ x
unfolding word_at
word_back n x p q at e h =
    ap (λ (l : List ℕ). of_bytes (take n l)) (drop_at p (to_bytes n x ++ q) at e)
    ∙ ap of_bytes (take_at (to_bytes n x) q n (length_bytes n x))
    ∙ bytes_back n x
    ∙ mod-eq_of_lt h

-- what stands between p and q, its first n bytes taken apart
module _ (p w r q : List ℕ) (at n : ℕ) (e : length p ≡ at) (l : length w ≡ n) where
  pub first_fault : p ++ ((w ++ r) ++ q) ≡ p ++ (w ++ (r ++ q))
  first_fault = ap (λ (k : List ℕ). p ++ k) (append_assoc w r q)

  pub rest_of : p ++ ((w ++ r) ++ q) ≡ (p ++ w) ++ (r ++ q)
  rest_of = first_fault ∙ sym (append_assoc p w (r ++ q))

  pub rest_at : length (p ++ w) ≡ at + n
  rest_at = length-append p w ∙ ap₂ (λ (a b : ℕ). a + b) e l

-- ---- fields: each fits its width; each is read at its place
abbrev pub Fit : List (ℕ × ℕ) → Type 0
Fit [] = Unit
Fit (f ∷ fs) = (f.1 < 256 ^ f.0) × Fit fs

abbrev pub Fields : List (ℕ × ℕ) → List ℕ → ℕ → Type 0
Fields [] img at = Unit
Fields (f ∷ fs) img at = (word_at f.0 img at ≡ f.1) × Fields fs img (at + f.0)

pub fields_back : (fs : List (ℕ × ℕ)) (p q : List ℕ) (at : ℕ) → length p ≡ at → Fit fs → Fields fs (p ++ (field_bytes fs ++ q)) at
fields_back [] p q at e h = tt
fields_back (f ∷ fs) p q at e h =
    let w = to_bytes f.0 f.1 in
    let l = length_bytes f.0 f.1 in (
      ap (λ (k : List ℕ). word_at f.0 k at) (first_fault p w (field_bytes fs) q at f.0 e l) ∙ word_back f.0 f.1 p (field_bytes fs ++ q) at e h.0,
      subst (λ (k : List ℕ). Fields fs k (at + f.0)) (sym (rest_of p w (field_bytes fs) q at f.0 e l)) (fields_back fs (p ++ w) q (at + f.0) (rest_at p w (field_bytes fs) q at f.0 e l) h.1),
    )

-- ---- floats

-- "Nodes and values are f64 bits.": the sign of a zero and a subnormal's bits among them
float_back : (x : Float) (p q : List ℕ) (at : ℕ) → length p ≡ at → T (fits binary64 x) → float_at (p ++ (to_bytes 8 (to_bits binary64 x) ++ q)) at ≡ x
unfolding float_at
float_back x p q at e h = ap (of_bits binary64) (word_back 8 (to_bits binary64 x) p q at e (to_bits-lt binary64 x h)) ∙ of_bits-to_bits binary64 x h

pub floats_back : (xs : List Float) (p q : List ℕ) (at : ℕ) → length p ≡ at → Held xs → floats_at (p ++ (float_bytes xs ++ q)) at (length xs) ≡ xs
unfolding floats_at float_bytes
floats_back [] p q at e h = refl
floats_back (x ∷ xs) p q at e h =
    let w = to_bytes 8 (to_bits binary64 x) in
    let l = length_bytes 8 (to_bits binary64 x) in
    ap₂ (λ (y : Float) (ys : List Float). y ∷ ys)
    (ap (λ (k : List ℕ). float_at k at) (first_fault p w (float_bytes xs) q at 8 e l) ∙ float_back x p (float_bytes xs ++ q) at e (h 0))
    (ap (λ (k : List ℕ). floats_at k (at + 8) (length xs)) (rest_of p w (float_bytes xs) q at 8 e l) ∙ floats_back xs (p ++ w) q (at + 8) (rest_at p w (float_bytes xs) q at 8 e l) (λ i. h (suc i)))

-- what is read of any bytes is held
pub floats_held : (img : List ℕ) (at n : ℕ) → Held (floats_at img at n)
unfolding floats_at float_at
floats_held img at zero i = nan-fits binary64
floats_held img at (suc n) zero = of_bits-fits binary64 _
floats_held img at (suc n) (suc i) = floats_held img (at + 8) n i

pub held-append : (xs ys : List Float) → Held xs → Held ys → Held (xs ++ ys)
held-append [] ys h k i = k i
held-append (x ∷ xs) ys h k zero = h 0
held-append (x ∷ xs) ys h k (suc i) = held-append xs ys (λ j. h (suc j)) k i

-- ---- areas that lie one after the other are one area
pub floats_add : (img : List ℕ) (a b at : ℕ) → floats_at img at (a + b) ≡ floats_at img at a ++ floats_at img (at + 8 * a) b
unfolding floats_at
floats_add img zero b at =
    let z : 0 + b ≡ b = omega arith in
    let s : at + 8 * 0 ≡ at = omega arith in
    ap (floats_at img at) z ∙ ap (λ (j : ℕ). floats_at img j b) (sym s)
floats_add img (suc a) b at =
    let z : suc a + b ≡ suc (a + b) = omega arith in
    let s : at + 8 + 8 * a ≡ at + 8 * suc a = omega arith in
    ap (floats_at img at) z ∙ ap (λ (l : List Float). float_at img at ∷ l) (floats_add img a b (at + 8) ∙ ap (λ (j : ℕ). floats_at img (at + 8) a ++ floats_at img j b) s)
