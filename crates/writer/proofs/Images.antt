-- The image as a whole: its parts' lengths, and the parts put one after the other. Assumes nothing.
use mathlib.Core.Path.{◌≡◌, refl, sym, ap, ap₂, ◌∙◌}
use mathlib.Core.List.{List, [], ◌∷◌, ◌++◌}
use Prim.Native.Nat.{ℕ, ◌+◌, ◌*◌}
use native.Mathlib.Omega.{arith}
use lib.ListN.{length, length-append}
use lib.Seq.{sets}
use lib.Ieee.{Float, binary64, to_bits}
use Rattle.layout.specs.Shape.{counts_of, size, total}
use Rattle.layout.specs.declared.Shape.{Shape}
use Rattle.little_endian.specs.Words.{to_bytes}
use Rattle.little_endian.proofs.Bytes.{length_bytes}
use Rattle.image.proofs.Floats.{sets_append}
use Rattle.writer.specs.Made.{values_at, image_length, header_fields, field_bytes, float_bytes, image_of}

pub length_header : (s : Shape) → length (field_bytes (header_fields s)) ≡ 40
length_header s = simp (length-append, length_bytes)

pub length_floats : (xs : List Float) → length (float_bytes xs) ≡ 8 * length xs
unfolding float_bytes
length_floats [] = refl
length_floats (x ∷ xs) = length-append (to_bytes 8 (to_bits binary64 x)) (float_bytes xs) ∙ omega (arith, length_bytes 8 (to_bits binary64 x), length_floats xs)

module _ (s : Shape) (nodes values : List Float) where
  abbrev head : List ℕ
  head = field_bytes (header_fields s)

  pub length_image : length nodes ≡ total (counts_of s) → length values ≡ size (counts_of s) → length (image_of s nodes values) ≡ image_length s
  unfolding image_of image_length values_at
  length_image n v =
      length-append head (float_bytes nodes ++ float_bytes values)
      ∙ omega (arith, length_header s, length-append (float_bytes nodes) (float_bytes values), length_floats nodes, length_floats values, n, v)

  pub parts-put : (out a b c : List ℕ) → a ≡ sets out 0 head → b ≡ sets a 40 (float_bytes nodes) → c ≡ sets b (40 + 8 * length nodes) (float_bytes values) → c ≡ sets out 0 (image_of s nodes values)
  unfolding image_of
  parts-put out a b c p q r =
      let far : 40 + 8 * length nodes ≡ 40 + length (float_bytes nodes) = ap (λ (k : ℕ). 40 + k) (sym (length_floats nodes)) in
      let near : 40 ≡ 0 + length head = omega (arith, length_header s) in
      r
      ∙ ap₂ (λ (l : List ℕ) (k : ℕ). sets l k (float_bytes values)) q far
      ∙ sym (sets_append (float_bytes nodes) (float_bytes values) a 40)
      ∙ ap₂ (λ (l : List ℕ) (k : ℕ). sets l k (float_bytes nodes ++ float_bytes values)) p near
      ∙ sym (sets_append head (float_bytes nodes ++ float_bytes values) out 0)
