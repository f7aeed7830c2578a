-- Axes that lie flat: what the loops over them need. Assumes nothing.
use mathlib.Core.Path.{◌≡◌, refl, sym, ap, ap₂, ◌∙◌, subst}
use mathlib.Core.Logic.{◌⊎◌, inl, inr}
use mathlib.Core.List.{List, [], ◌∷◌}
use Prim.Native.Nat.{ℕ, suc, ◌+◌, ◌-◌, ◌≤◌, ◌<◌, min}
use native.Mathlib.Nat.{eq-or-lt_of_le}
use native.Mathlib.Numerals.{add-one}
use native.Mathlib.Omega.{arith}
use lib.ListN.{length, take, drop, get_or, length-drop, drop_of_length-le}
use lib.Seq.{drop-cons, get_or-take, drop-drop, length-take-le}
use Rattle.layout.specs.Layout.{axes_of}
use Rattle.layout.proofs.Totals.{take_there}

pub length-axes : {A : Type 0} (counts : List ℕ) (nodes : List A) → length (axes_of counts nodes) ≡ length counts
unfolding axes_of
length-axes [] nodes = refl
length-axes (n ∷ ns) nodes = ap suc (length-axes ns (drop n nodes))

-- a is the next axis, and it starts at `at`
abbrev pub Walk : {A : Type 0} → List ℕ → List A → ℕ → ℕ → Type 0
Walk counts nodes a at = drop a (axes_of counts nodes) ≡ axes_of (drop a counts) (drop at nodes)

heads : {A : Type 0} {x y : A} {xs ys : List A} → x ∷ xs ≡ y ∷ ys → x ≡ y
heads e = cc

tails : {A : Type 0} {x y : A} {xs ys : List A} → x ∷ xs ≡ y ∷ ys → xs ≡ ys
tails e = cc

module _ {A : Type 0} (counts : List ℕ) (nodes : List A) (a at : ℕ) (l : a < length counts) (w : Walk counts nodes a at) where
  abbrev count : ℕ
  count = get_or counts a 0

  both : get_or (axes_of counts nodes) a [] ∷ drop (suc a) (axes_of counts nodes) ≡ take count (drop at nodes) ∷ axes_of (drop (suc a) counts) (drop count (drop at nodes))
  unfolding axes_of
  both =
      sym (drop-cons (axes_of counts nodes) a [] (omega (arith, length-axes counts nodes)))
      ∙ w
      ∙ ap (λ (cs : List ℕ). axes_of cs (drop at nodes)) (drop-cons counts a 0 l)

  pub walk_here : get_or (axes_of counts nodes) a [] ≡ take count (drop at nodes)
  walk_here = heads both

  -- what is cut off at the end of the nodes is not there
  pub walk_part : take (min count (length nodes - at)) (drop at nodes) ≡ take count (drop at nodes)
  walk_part = ap (λ (k : ℕ). take (min count k) (drop at nodes)) (sym (length-drop at nodes)) ∙ take_there count (drop at nodes)

  rest : drop count (drop at nodes) ≡ drop (at + min count (length nodes - at)) nodes
  rest = go (eq-or-lt_of_le small)
    where
      small : min count (length nodes - at) ≤ count
      small = omega arith

      go : (min count (length nodes - at) ≡ count) ⊎ (min count (length nodes - at) < count) → drop count (drop at nodes) ≡ drop (at + min count (length nodes - at)) nodes
      go (inl e) = drop-drop count at nodes ∙ ap (λ (k : ℕ). drop (at + k) nodes) (sym e)
      go (inr h) =
          drop_of_length-le (drop at nodes) {i = count} (omega (arith, length-drop at nodes)) ∙ sym (drop_of_length-le nodes {i = at + min count (length nodes - at)} (omega arith))

  pub walk_next : Walk counts nodes (a + 1) (at + min count (length nodes - at))
  walk_next = ap (λ (k : ℕ). drop k (axes_of counts nodes)) (add-one a) ∙ tails both ∙ ap₂ axes_of (ap (λ (k : ℕ). drop k counts) (sym (add-one a))) rest

-- ---- the same over the first so many of the counts, as the code goes
module _ {A : Type 0} (counts : List ℕ) (axes : ℕ) (nodes : List A) (a at end : ℕ) (within : axes ≤ length counts) (here : a < axes) (w : Walk (take axes counts) nodes a at) (e : end ≡ at + min (get_or counts a 0) (length nodes - at)) where
  below : a < length (take axes counts)
  below = omega (arith, length-take-le axes counts within)

  same : get_or (take axes counts) a 0 ≡ get_or counts a 0
  same = get_or-take axes counts a 0 here

  cut : end - at ≡ min (get_or (take axes counts) a 0) (length nodes - at)
  cut = let q : end - at ≡ min (get_or counts a 0) (length nodes - at) = omega arith in q ∙ ap (λ (k : ℕ). min k (length nodes - at)) (sym same)

  pub walk_axis : take (end - at) (drop at nodes) ≡ get_or (axes_of (take axes counts) nodes) a []
  walk_axis =
      ap (λ (k : ℕ). take k (drop at nodes)) cut
      ∙ walk_part (take axes counts) nodes a at below w
      ∙ sym (walk_here (take axes counts) nodes a at below w)

  pub walk_on : Walk (take axes counts) nodes (a + 1) end
  walk_on = subst (λ (k : ℕ). Walk (take axes counts) nodes (a + 1) k) (sym (e ∙ ap (λ (k : ℕ). at + min k (length nodes - at)) (sym same))) (walk_next (take axes counts) nodes a at below w)
