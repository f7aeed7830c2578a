-- The records of an input, one after the other: which bytes each has, and how many there are. Assumes nothing.
use mathlib.Core.Path.{◌≡◌, refl, ap, ◌∙◌}
use mathlib.Core.List.{List, [], ◌∷◌}
use Prim.Native.Nat.{ℕ, zero, suc, ◌+◌, ◌*◌, ◌≤◌, ◌<◌}
use native.Mathlib.Nat.{zero-mul, suc-mul}
use native.Mathlib.Omega.{arith}
use lib.ListN.{length, take, drop, get_or, length-drop}
use lib.Seq.{drop-drop}
use Rattle.ninterp.specs.Coverage.{records_in}

module _ (size : ℕ) where
  pub records_none : (m : ℕ) → records_in size m [] ≡ []
  unfolding records_in
  records_none zero = refl
  records_none (suc m) = refl

  pub records_more : (m : ℕ) (input : List ℕ) → 1 ≤ length input → records_in size (suc m) input ≡ take size input ∷ records_in size m (drop size input)
  unfolding records_in
  records_more m [] l = absurd (omega (arith, l))
  records_more m (b ∷ bs) l = refl

  pub records_few : (m : ℕ) (input : List ℕ) → length (records_in size m input) ≤ m
  unfolding records_in
  records_few zero input = omega arith
  records_few (suc m) [] = omega arith
  records_few (suc m) (b ∷ bs) = omega (arith, records_few m (drop size (b ∷ bs)))

  -- a record that has a byte is there, with the bytes of its place
  pub records_at : (i m : ℕ) (input : List ℕ) → i < m → i * size < length input
      → (i < length (records_in size m input)) × (get_or (records_in size m input) i [] ≡ take size (drop (i * size) input))
  records_at i zero input h l = absurd (omega (arith, h))
  records_at zero (suc m) input h l =
      let e : records_in size (suc m) input ≡ take size input ∷ records_in size m (drop size input) = records_more m input (omega (arith, l)) in (
        omega (arith, ap length e),
        ap (λ (rs : List (List ℕ)). get_or rs 0 []) e ∙ ap (λ (n : ℕ). take size (drop n input)) (zero_place),
      )
    where
      zero_place : 0 ≡ 0 * size
      zero_place = omega (arith, zero-mul size)
  records_at (suc i) (suc m) input h l =
      let e : records_in size (suc m) input ≡ take size input ∷ records_in size m (drop size input) = records_more m input (omega (arith, l)) in
      let r = records_at i m (drop size input) (omega (arith, h)) (omega (arith, l, suc-mul i size, length-drop size input)) in (
        omega (arith, ap length e, r.0),
        ap (λ (rs : List (List ℕ)). get_or rs (suc i) []) e
            ∙ r.1
            ∙ ap (take size) (drop-drop (i * size) size input ∙ ap (λ (n : ℕ). drop n input) on),
      )
    where
      on : size + i * size ≡ suc i * size
      on = omega (arith, suc-mul i size)

  -- and there is no other
  pub records_within : (i m : ℕ) (input : List ℕ) → i < length (records_in size m input) → (i < m) × (i * size < length input)
  unfolding records_in
  records_within i zero input h = absurd (omega (arith, h))
  records_within i (suc m) [] h = absurd (omega (arith, h))
  records_within zero (suc m) (b ∷ bs) h = (omega arith, omega (arith, zero-mul size))
  records_within (suc i) (suc m) (b ∷ bs) h =
      let r = records_within i m (drop size (b ∷ bs)) (omega (arith, h)) in
      (omega (arith, r.0), omega (arith, r.1, suc-mul i size, length-drop size (b ∷ bs)))
