-- Corners by bit mask and the butterfly in place are the same list by list. Assumes nothing.
use mathlib.Core.Path.{◌≡◌, refl, sym, ap, ap₂, ◌∙◌}
use mathlib.Core.List.{List, [], ◌∷◌, ◌++◌}
use Prim.Native.Nat.{ℕ, zero, suc, ◌+◌, ◌-◌, ◌/◌, ◌%◌, ◌^◌, ◌≤◌, ◌<◌}
use native.Mathlib.Nat.{pow-suc, add-zero}
use native.Mathlib.Numerals.{add-one}
use native.Mathlib.Omega.{arith}
use lib.ListN.{length, drop, get_or, set, length-append, get_or-append}
use lib.Seq.{get_or-append-add, get_or-drop}
use lib.Ieee.{Float, nan, binary64, add, sub, mul}
use Rattle.layout.specs.Layout.{tabulate}
use Rattle.layout.proofs.Layouts.{length-tabulate, tabulate_same, tabulate-step}
use Rattle.rust.specs.Utils.{one}
use Rattle.rust.specs.Strategies.{idx_of, vals_of, reduced_by, passed_from, butterfly_from}
use Rattle.rust.proofs.Located.{corner, corners}
use Rattle.rust.specs.Scaffolding.{passed, butterfly}

-- ---- powers of two
pub power_above : (k : ℕ) → 0 < 2 ^ k
power_above zero = omega arith
power_above (suc k) = rw pow-suc (omega (arith, power_above k))

pub power_suc : (k : ℕ) → 2 ^ suc k ≡ 2 ^ k + 2 ^ k
power_suc k = rw pow-suc (omega arith)

-- ---- corners
idx_corner : (ns : List ℕ) (mask : ℕ) → idx_of (length ns) ns mask ≡ corner ns mask
idx_corner [] mask = refl
idx_corner (n ∷ ns) mask =
    ap₂ (λ (k : ℕ) (r : List ℕ). (n + mask / 2 ^ k % 2) ∷ r) first
    (tabulate_same (length ns) _ _ (λ d l. ap (λ (k : ℕ). get_or ns d 0 + mask / 2 ^ k % 2) (later d)) ∙ idx_corner ns mask)
  where
    first : suc (length ns) - 1 - 0 ≡ length ns
    first = omega arith

    later : (d : ℕ) → suc (length ns) - 1 - suc d ≡ length ns - 1 - d
    later d = omega arith

pub vals_corners : (ns : List ℕ) (g : List ℕ → Float) → vals_of (length ns) ns g ≡ corners ns g
unfolding vals_of corners
vals_corners ns g = tabulate_same (2 ^ length ns) _ _ (λ mask l. ap g (idx_corner ns mask))

pub length-corners : (ns : List ℕ) (g : List ℕ → Float) → length (corners ns g) ≡ 2 ^ length ns
unfolding corners
length-corners ns g = length-tabulate (2 ^ length ns) (λ mask. g (corner ns mask))

-- ---- writing over the front of a list
pub over_at : (i j : ℕ) (h : ℕ → Float) (xs : List Float) → get_or (tabulate i h ++ drop i xs) (i + j) nan ≡ get_or xs (i + j) nan
over_at i j h xs =
    ap (λ (k : ℕ). get_or (tabulate i h ++ drop i xs) (k + j) nan) (sym (length-tabulate i h))
    ∙ get_or-append-add (tabulate i h) (drop i xs) j nan
    ∙ get_or-drop i xs j nan

pub over_here : (i : ℕ) (h : ℕ → Float) (xs : List Float) → get_or (tabulate i h ++ drop i xs) i nan ≡ get_or xs i nan
over_here i h xs = ap (λ (k : ℕ). get_or (tabulate i h ++ drop i xs) k nan) (sym (add-zero i)) ∙ over_at i 0 h xs ∙ ap (λ (k : ℕ). get_or xs k nan) (add-zero i)

-- ---- a pass in place
module _ (diff : Float) (half : ℕ) (vals : List Float) where
  over : ℕ → List Float
  over i = tabulate i (reduced_by diff half vals) ++ drop i vals

  over_step : (i : ℕ) → i < length vals → set (over i) i (reduced_by diff half (over i) i) ≡ over (suc i)
  unfolding over
  over_step i l =
      ap₂ (λ (x y : Float). set (tabulate i (reduced_by diff half vals) ++ drop i vals) i (add binary64 (mul binary64 x (sub binary64 one diff)) (mul binary64 y diff)))
      (over_here i (reduced_by diff half vals) vals) (over_at i half (reduced_by diff half vals) vals)
      ∙ tabulate-step i (reduced_by diff half vals) vals l
      ∙ ap (λ (k : ℕ). tabulate k (reduced_by diff half vals) ++ drop k vals) (add-one i)

  pass_from : (turns i : ℕ) → i + turns ≤ length vals → passed_from diff half i turns (over i) ≡ over (i + turns)
  unfolding passed_from
  pass_from zero i l = ap over (sym (add-zero i))
  pass_from (suc turns) i l = ap (passed_from diff half (suc i) turns) (over_step i (omega arith)) ∙ pass_from turns (suc i) (omega arith) ∙ ap over there
    where
      there : suc i + turns ≡ i + suc turns
      there = omega arith

  pass_text : half ≤ length vals → passed_from diff half 0 half vals ≡ passed diff half vals ++ drop half vals
  unfolding over passed
  pass_text l = pass_from half 0 (omega arith) ∙ ap over whole
    where
      whole : 0 + half ≡ half
      whole = omega arith

-- ---- a pass and the butterfly look at the corners in use alone
pub passed_same : (f : Float) (fs xs ys : List Float) → ((i : ℕ) → i < 2 ^ suc (length fs) → get_or xs i nan ≡ get_or ys i nan)
    → passed f (2 ^ length fs) xs ≡ passed f (2 ^ length fs) ys
unfolding passed
passed_same f fs xs ys h =
    tabulate_same (2 ^ length fs) _ _
    (λ i b. ap₂ (λ (x y : Float). add binary64 (mul binary64 x (sub binary64 one f)) (mul binary64 y f)) (h i (omega (arith, power_suc (length fs), b))) (h (i + 2 ^ length fs) (omega (arith, power_suc (length fs), b))))

pub butterfly_same : (fs xs ys : List Float) → ((i : ℕ) → i < 2 ^ length fs → get_or xs i nan ≡ get_or ys i nan) → butterfly fs xs ≡ butterfly fs ys
unfolding butterfly
butterfly_same [] xs ys h = h 0 (omega arith)
butterfly_same (f ∷ fs) xs ys h = ap (butterfly fs) (passed_same f fs xs ys h)

pub front : (fs xs ys : List Float) → 2 ^ length fs ≤ length xs → butterfly fs (xs ++ ys) ≡ butterfly fs xs
front fs xs ys l = butterfly_same fs (xs ++ ys) xs (λ i b. get_or-append xs ys nan i (omega (arith, l, b)))

length-passed : (f : Float) (half : ℕ) (vals : List Float) → length (passed f half vals) ≡ half
unfolding passed
length-passed f half vals = length-tabulate half (reduced_by f half vals)

butterfly_text : (n d : ℕ) (fs vals : List Float) → d + length fs ≡ n → 2 ^ length fs ≤ length vals → butterfly_from n d fs vals ≡ butterfly fs vals
unfolding butterfly_from butterfly
butterfly_text n d [] vals e l = refl
butterfly_text n d (f ∷ fs) vals e l =
    ap (λ (k : ℕ). butterfly_from n (suc d) fs (passed_from f (2 ^ k) 0 (2 ^ k) vals)) after
    ∙ ap (butterfly_from n (suc d) fs) (pass_text f (2 ^ length fs) vals (omega (arith, l, power_suc (length fs))))
    ∙ butterfly_text n (suc d) fs (passed f (2 ^ length fs) vals ++ drop (2 ^ length fs) vals) (omega arith) (omega (arith, long, long_passed))
    ∙ front fs (passed f (2 ^ length fs) vals) (drop (2 ^ length fs) vals) (omega (arith, long_passed))
  where
    after : n - 1 - d ≡ length fs
    after = omega arith

    long_passed : length (passed f (2 ^ length fs) vals) ≡ 2 ^ length fs
    long_passed = length-passed f (2 ^ length fs) vals

    long : length (passed f (2 ^ length fs) vals ++ drop (2 ^ length fs) vals) ≡ length (passed f (2 ^ length fs) vals) + length (drop (2 ^ length fs) vals)
    long = length-append (passed f (2 ^ length fs) vals) (drop (2 ^ length fs) vals)

-- the text from the indices and the fractions on
pub blend_text : (n : ℕ) (ns : List ℕ) (fs : List Float) (g : List ℕ → Float) → n ≡ length ns → n ≡ length fs → butterfly_from n 0 fs (vals_of n ns g) ≡ butterfly fs (corners ns g)
blend_text n ns fs g e d =
    ap (butterfly_from n 0 fs) (ap (λ (k : ℕ). vals_of k ns g) e ∙ vals_corners ns g)
    ∙ butterfly_text n 0 fs (corners ns g) (omega (arith, d)) (omega (arith, length-corners ns g, same))
  where
    same : 2 ^ length fs ≡ 2 ^ length ns
    same = ap (λ (k : ℕ). 2 ^ k) (sym d ∙ e)
