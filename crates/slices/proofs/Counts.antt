-- Counts: without an axis, before it and after it, as the code goes over them. Assumes nothing.
use mathlib.Core.Path.{◌≡◌, refl, sym, ap, ap₂, ◌∙◌, subst}
use mathlib.Core.Bool.{Bool, true, false, cond}
use mathlib.Core.List.{List, [], ◌∷◌, map}
use Prim.Native.Nat.{ℕ, zero, suc, ◌+◌, ◌-◌, ◌*◌, ◌^◌, ◌≤◌, ◌<◌}
use native.Mathlib.Nat.{mul-le-mul, mul_assoc, pow-suc, zero-add, one-mul, pow-le-pow_right, one-le-pow}
use native.Mathlib.Omega.{arith}
use borrow.Author.Tests.{ltb-true, ltb-false}
use lib.Dec.{ltb}
use lib.ListN.{length, take, drop, get_or, length-take}
use lib.Seq.{get_or-take, get_or-drop, take-take, drop-drop}
use lib.Ieee.{Float}
use Rattle.std.proofs.Common.{Iter, Bor, add-one}
use Rattle.std.specs.List.{fold}
use Rattle.std.specs.Slice.Iter.{iter_rest, iter_steps}
use Rattle.std.specs.Iterator.{Yields}
use Rattle.std.specs.Iterator.Runs.{EachRunFrom, YieldsRun}
use Rattle.std.proofs.lemmas.Slice.{between_is}
use Rattle.std.proofs.lemmas.Iterator.{YieldsList-from_slice}
use Rattle.std.proofs.lemmas.Iterator.Consumers.{YieldsList-so_far}
use Rattle.layout.specs.Shape.{counts_of, size, total}
use Rattle.layout.specs.Layout.{axes_of, axis_of, without}
use Rattle.layout.specs.declared.Shape.{Shape}
use Rattle.layout.proofs.Removals.{get_d_without, get_d_without_below}
use Rattle.checks.specs.Scaffolding.{Few}
use Rattle.slices.specs.Scaffolding.{AxisOf}

-- ---- sums and products, from the first one on
total_from : (a : ℕ) (xs : List ℕ) → fold (λ (b x : ℕ). b + x) a xs ≡ a + total xs
unfolding total
total_from a [] = omega arith
total_from a (x ∷ xs) = total_from (a + x) xs ∙ omega arith

pub total_is : (xs : List ℕ) → fold (λ (b x : ℕ). b + x) 0 xs ≡ total xs
total_is xs = total_from 0 xs ∙ zero-add (total xs)

size_from : (a : ℕ) (xs : List ℕ) → fold (λ (b x : ℕ). b * x) a xs ≡ a * size xs
unfolding size
size_from a [] = omega arith
size_from a (x ∷ xs) = size_from (a * x) xs ∙ mul_assoc a x (size xs)

pub size_is : (xs : List ℕ) → fold (λ (b x : ℕ). b * x) 1 xs ≡ size xs
size_is xs = size_from 1 xs ∙ one-mul (size xs)

-- the items so far multiply to the product of the first counts
fold-map : {A : Type 0} (v : A → ℕ) (a : ℕ) (xs : List A) → fold (λ (b : ℕ) (x : A). b * v x) a xs ≡ fold (λ (b x : ℕ). b * x) a (map v xs)
fold-map v a [] = refl
fold-map v a (x ∷ xs) = fold-map v (a * v x) xs

pub product_fits : (xs : List ℕ) (s : Iter ℕ) (top : ℕ) → iter_rest s ≡ xs → ((k : ℕ) → size (take k xs) < top) → EachRunFrom iter_steps s (λ p. fold (λ (a : ℕ) (x : Bor ℕ). a * x.now) 1 p.items < top)
unfolding YieldsRun
product_fits xs s top e h p seen at =
    let so_far : map (λ (x : Bor ℕ). x.now) p.items ≡ take (length p.items) xs = YieldsList-so_far (YieldsList-from_slice xs e) p.items p.gave.0.0 (subst (λ u. Yields iter_steps u p.items p.gave.0.0) at p.gave.0.1) in
    subst (λ (n : ℕ). n < top) (sym (fold-map (λ (x : Bor ℕ). x.now) 1 p.items ∙ ap (fold (λ (b x : ℕ). b * x) 1) so_far ∙ size_is (take (length p.items) xs))) (h (length p.items))

-- ---- the counts after an axis
few_product : (xs : List ℕ) (k : ℕ) → ((a : ℕ) → a < length xs → get_or xs a 0 ≤ 64) → size (take k xs) ≤ 64 ^ length xs
unfolding size
few_product [] zero h = omega arith
few_product [] (suc k) h = omega arith
few_product (x ∷ xs) zero h = one-le-pow (suc (length xs)) 64 (omega arith)
few_product (x ∷ xs) (suc k) h =
    let p : x * size (take k xs) ≤ 64 * 64 ^ length xs = mul-le-mul (h 0 (omega arith)) (few_product xs k (λ a l. h (suc a) (omega arith))) in
    omega (arith, pow-suc 64 (length xs))

module _ (s : Shape) (axis : ℕ) where
  pub after : take (s.axes - (axis + 1)) (drop (axis + 1) s.counts) ≡ drop (suc axis) (counts_of s)
  after = between_is s.counts (axis + 1) s.axes ∙ ap (λ (k : ℕ). drop k (counts_of s)) (add-one axis)

  pub product_after : Few s → (k : ℕ) → size (take k (take (s.axes - (axis + 1)) (drop (axis + 1) s.counts))) < 18446744073709551616
  product_after f k = let most : 64 ^ length xs ≤ 64 ^ 4 = pow-le-pow_right (omega arith) short in omega (arith, few_product xs k each, most)
    where
      xs : List ℕ
      xs = take (s.axes - (axis + 1)) (drop (axis + 1) s.counts)

      short : length xs ≤ 4
      short = omega (arith, f.axes, length-take (s.axes - (axis + 1)) (drop (axis + 1) s.counts))

      each : (a : ℕ) → a < length xs → get_or xs a 0 ≤ 64
      each a l =
          let near : a < s.axes - (axis + 1) = omega (arith, length-take (s.axes - (axis + 1)) (drop (axis + 1) s.counts)) in
          let same : get_or xs a 0 ≡ get_or s.counts (axis + 1 + a) 0 = get_or-take (s.axes - (axis + 1)) (drop (axis + 1) s.counts) a 0 near ∙ get_or-drop (axis + 1) s.counts a 0 in
          omega (arith, same, f.each (axis + 1 + a) (omega arith))

-- ---- the counts of what is left
past_list : (l : List ℕ) (i : ℕ) → length l ≤ i → get_or l i 0 ≡ 0
past_list [] i h = refl
past_list (x ∷ l) zero h = absurd (omega arith)
past_list (x ∷ l) (suc i) h = past_list l i (omega arith)

at_past : (cs : List ℕ) (axis a b : ℕ) → b ≡ cond (ltb a axis) a (a + 1) → get_or (without axis cs) a 0 ≡ get_or cs b 0
at_past cs axis a b e = go (ltb a axis) (ltb-true a axis) (ltb-false a axis) e
  where
    go : (t : Bool) → (t ≡ true → a < axis) → (t ≡ false → axis ≤ a) → b ≡ cond t a (a + 1) → get_or (without axis cs) a 0 ≡ get_or cs b 0
    go true f g q = get_d_without_below a axis cs 0 (f refl) ∙ ap (λ (k : ℕ). get_or cs k 0) (sym q)
    go false f g q = get_d_without axis a cs 0 (g refl) ∙ ap (λ (k : ℕ). get_or cs k 0) (same ∙ sym q)
      where
        same : suc a ≡ a + 1
        same = omega arith

module _ (s : Shape) (axis a b : ℕ) (e : b ≡ cond (ltb a axis) a (a + 1)) where
  pub count_left : b < s.axes → get_or s.counts b 0 ≡ get_or (without axis (counts_of s)) a 0
  count_left h = sym (at_past (counts_of s) axis a b e ∙ get_or-take s.axes s.counts b 0 h)

  pub count_gone : s.axes ≤ b → 0 ≡ get_or (without axis (counts_of s)) a 0
  count_gone h = sym (at_past (counts_of s) axis a b e ∙ past_list (counts_of s) b (omega (arith, length-take s.axes s.counts)))

-- ---- the nodes of an axis
axis_closed : (cs : List ℕ) (nodes : List Float) (k : ℕ) → k < length cs → get_or (axes_of cs nodes) k [] ≡ take (get_or cs k 0) (drop (total (take k cs)) nodes)
unfolding axes_of total
axis_closed [] nodes k h = absurd (omega arith)
axis_closed (c ∷ cs) nodes zero h = refl
axis_closed (c ∷ cs) nodes (suc k) h =
    axis_closed cs (drop c nodes) k (omega arith) ∙ ap (take (get_or cs k 0)) (drop-drop (total (take k cs)) c nodes)

total_within : (cs : List ℕ) (k : ℕ) → k < length cs → total (take k cs) + get_or cs k 0 ≤ total cs
unfolding total
total_within [] k h = absurd (omega arith)
total_within (c ∷ cs) zero h = omega arith
total_within (c ∷ cs) (suc k) h = let q : total (take k cs) + get_or cs k 0 ≤ total cs = total_within cs k (omega arith) in omega arith

module _ (s : Shape) (four : length s.counts ≡ 4) (nodes : List Float) (axis : ℕ) (there : AxisOf s axis) (flat : length nodes ≡ total (counts_of s)) where
  in_counts : axis < length (counts_of s)
  in_counts = omega (arith, length-take s.axes s.counts, there.within, there.four, four)

  same_start : total (take axis (counts_of s)) ≡ total (take axis s.counts)
  same_start = ap total (take-take axis s.axes s.counts (omega (arith, there.within)))

  same_count : get_or (counts_of s) axis 0 ≡ get_or s.counts axis 0
  same_count = get_or-take s.axes s.counts axis 0 there.within

  pub axis_ends : fold (λ (b x : ℕ). b + x) 0 (take axis s.counts) + get_or s.counts axis 0 ≤ length nodes
  axis_ends = omega (arith, total_is (take axis s.counts), same_start, same_count, total_within (counts_of s) axis in_counts, flat)

  pub axis_lies : (start : ℕ) → start ≡ fold (λ (b x : ℕ). b + x) 0 (take axis s.counts) → take (start + get_or s.counts axis 0 - start) (drop start nodes) ≡ axis_of s nodes axis
  axis_lies start e =
      let from : start ≡ total (take axis (counts_of s)) = e ∙ total_is (take axis s.counts) ∙ sym same_start in
      let long : start + get_or s.counts axis 0 - start ≡ get_or (counts_of s) axis 0 = omega (arith, same_count) in
      ap₂ (λ (m n : ℕ). take m (drop n nodes)) long from ∙ sym (axis_closed (counts_of s) nodes axis in_counts)
