-- Where the corners of a reading lie in the flat values. Assumes nothing.
use mathlib.Core.Path.{◌≡◌, refl, sym, ap, ap₂, ◌∙◌, subst}
use mathlib.Core.Logic.{◌⊎◌, inl, inr, ⊎_elim}
use mathlib.Core.Bool.{Bool, true, false}
use mathlib.Core.List.{List, [], ◌∷◌}
use Prim.Native.Nat.{ℕ, zero, suc, ◌+◌, ◌-◌, ◌*◌, ◌/◌, ◌%◌, ◌^◌, ◌≤◌, ◌<◌}
use native.Mathlib.Nat.{mul-le-mul_right, mul-le-mul, mod-lt, mul-one, one-mul, pow-le-pow_right}
use native.Mathlib.Omega.{arith}
use lib.Dec.{ltb}
use lib.ListN.{length, take, drop, get_or, set, length-set, length-take, length-drop}
use lib.Seq.{get_or-set_same, get_or-set_other, get_or-take, length-take-le}
use borrow.Author.Tests.{ltb-true, ltb-false}
use lib.Ieee.{Float, nan}
use Rattle.layout.specs.Shape.{size}
use Rattle.layout.specs.Layout.{place, table, tabulate, Inside}
use Rattle.layout.proofs.Totals.{ahead, past}
use Rattle.layout.proofs.Layouts.{place-cons, place_none, size-cons, size_nil, place_below, get_d_tabulate}
use Rattle.blend.specs.Blend.{linear}
use Rattle.rust.specs.Scaffolding.{diffs, butterfly}
use Rattle.blend.specs.Scaffolding.{corner_at, more_corners, corner_place}
use Rattle.rust.specs.declared.AxisLocation.{AxisLocation}
use Rattle.rust.specs.declared.AxisLocation.TheVariants.{Exact, Between}
use Rattle.rust.proofs.Passes.{power_suc, butterfly_same}
use Rattle.blend.proofs.Bits.{low_corner, high_corner, fold_linear}
use Rattle.blend.proofs.Counts.{few_diffs, few_corners, more_power}
use Rattle.axis.specs.Locations.{location_index}
use Rattle.axis.specs.Scaffolding.{upper_of}
use Rattle.axis.proofs.Located.{lower_upper}
use Rattle.ninterp.specs.Scaffolding.{AllWithin, Placeable, Placed, Spreadable, Spread, Gatherable, Gathered}

-- ---- locations on their axes
pub corner_inside : (ps : List AxisLocation) (cs : List ℕ) (m : ℕ) → AllWithin ps cs → Inside (corner_at ps m) cs
corner_inside [] [] m w = tt
corner_inside [] (c ∷ cs) m w = w
corner_inside (p ∷ ps) [] m w = absurd w
corner_inside (Exact node ∷ ps) (c ∷ cs) m w = (w.0, corner_inside ps cs m w.1)
corner_inside (Between lower frac ∷ ps) (c ∷ cs) m w =
    let b : m / 2 ^ length (diffs ps) % 2 < 2 = mod-lt (m / 2 ^ length (diffs ps)) (omega arith) in
    (omega (arith, w.0, b), corner_inside ps cs m w.1)

pub within_positive : (ps : List AxisLocation) (cs : List ℕ) → AllWithin ps cs → 0 < size cs
within_positive [] [] w = omega (arith, size_nil)
within_positive [] (c ∷ cs) w = absurd w
within_positive (p ∷ ps) [] w = absurd w
within_positive (p ∷ ps) (c ∷ cs) w =
    let a : 1 ≤ c = omega (arith, w.0) in
    let b : 1 ≤ size cs = within_positive ps cs w.1 in
    let q : 1 * 1 ≤ c * size cs = mul-le-mul a b in
    omega (arith, size-cons c cs, q)

pub within_drop : (d : ℕ) (ps : List AxisLocation) (cs : List ℕ) → AllWithin ps cs → AllWithin (drop d ps) (drop d cs)
within_drop zero ps cs w = w
within_drop (suc d) [] [] w = tt
within_drop (suc d) [] (c ∷ cs) w = absurd w
within_drop (suc d) (p ∷ ps) [] w = absurd w
within_drop (suc d) (p ∷ ps) (c ∷ cs) w = within_drop d ps cs w.1

-- the axes from one on have no more values than all
pub suffix_small : (d : ℕ) (ps : List AxisLocation) (cs : List ℕ) → AllWithin ps cs → size (drop d cs) ≤ size cs
suffix_small zero ps cs w = omega arith
suffix_small (suc d) [] [] w = omega arith
suffix_small (suc d) [] (c ∷ cs) w = absurd w
suffix_small (suc d) (p ∷ ps) [] w = absurd w
suffix_small (suc d) (p ∷ ps) (c ∷ cs) w =
    let q : 1 * size cs ≤ c * size cs = mul-le-mul_right (size cs) (omega (arith, w.0)) in
    omega (arith, size-cons c cs, q, one-mul (size cs), suffix_small d ps cs w.1)

-- ---- one axis more
module _ (p : AxisLocation) (ps : List AxisLocation) (c : ℕ) (cs : List ℕ) where
  -- what its upper node adds to a place, and so its lower one, is small
  module _ (w : AllWithin (p ∷ ps) (c ∷ cs)) (small : size (c ∷ cs) ≤ 4096) where
    pub upper_few : upper_of p ≤ 4096
    upper_few =
        let a : upper_of p ≤ c = omega (arith, w.0) in
        let b : 1 ≤ size cs = within_positive ps cs w.1 in
        let q : upper_of p * 1 ≤ c * size cs = mul-le-mul a b in
        omega (arith, size-cons c cs, small, q, mul-one (upper_of p))

    pub upper_small : upper_of p * size cs ≤ 4096
    upper_small = omega (arith, size-cons c cs, small, mul-le-mul_right (size cs) w.0, mul-le-mul_right {m = upper_of p} {n = c} (size cs) (omega (arith, w.0)))

    pub lower_small : location_index p * size cs ≤ 4096
    lower_small = omega (arith, upper_small, mul-le-mul_right (size cs) (lower_upper p))

  pub low_place : (m : ℕ) → m < 2 ^ length (diffs ps) → place (c ∷ cs) (corner_at (p ∷ ps) m) ≡ location_index p * size cs + place cs (corner_at ps m)
  low_place = go p
    where
      go : (q : AxisLocation) (m : ℕ) → m < 2 ^ length (diffs ps) → place (c ∷ cs) (corner_at (q ∷ ps) m) ≡ location_index q * size cs + place cs (corner_at ps m)
      go (Exact node) m b = place-cons c cs node (corner_at ps m)
      go (Between lower frac) m b = ap (place (c ∷ cs)) (low_corner ps lower frac m b) ∙ place-cons c cs lower (corner_at ps m)

pub high_place : (lower : ℕ) (f : Float) (ps : List AxisLocation) (c : ℕ) (cs : List ℕ) (m : ℕ) → m < 2 ^ length (diffs ps)
    → place (c ∷ cs) (corner_at (Between lower f ∷ ps) (m + 2 ^ length (diffs ps))) ≡ (lower + 1) * size cs + place cs (corner_at ps m)
high_place lower f ps c cs m b = ap (place (c ∷ cs)) (high_corner ps lower f m b) ∙ place-cons c cs (lower + 1) (corner_at ps m)

-- ---- the loop, from the last axis on
pub record Spreading (ps : List AxisLocation) (cs : List ℕ) (places : List ℕ) (count stride : ℕ) : Type 0 where
  pub counted : count ≡ 2 ^ length (diffs ps)
  pub strided : stride ≡ size cs
  pub placed : (i : ℕ) → i < 2 ^ length (diffs ps) → get_or places i 0 ≡ place cs (corner_at ps i)

abbrev Both : List ℕ → ℕ → ℕ → ℕ → List ℕ → Type 0
Both places count low high next = (i : ℕ) → i < count → (get_or next i 0 ≡ get_or places i 0 + low) × (get_or next (i + count) 0 ≡ get_or places i 0 + high)

module _ (ps : List AxisLocation) (c : ℕ) (cs places next : List ℕ) (count stride : ℕ) (z : Spreading ps cs places count stride) where
  within_count : (i : ℕ) → i < 2 ^ length (diffs ps) → i < count
  within_count i b = omega (arith, z.counted, b)

  low_next : (p : AxisLocation) (low high i : ℕ) → low ≡ location_index p * stride → Both places count low high next → i < 2 ^ length (diffs ps) → get_or next i 0 ≡ place (c ∷ cs) (corner_at (p ∷ ps) i)
  low_next p low high i e h b =
      let s : low ≡ location_index p * size cs = e ∙ ap (λ (x : ℕ). location_index p * x) z.strided in
      omega (arith, (h i (within_count i b)).0, z.placed i b, s, low_place p ps c cs i b)

  high_next : (lower : ℕ) (f : Float) (low high i : ℕ) → high ≡ (lower + 1) * stride → Both places count low high next → i < 2 ^ length (diffs ps)
      → get_or next (i + 2 ^ length (diffs ps)) 0 ≡ place (c ∷ cs) (corner_at (Between lower f ∷ ps) (i + 2 ^ length (diffs ps)))
  high_next lower f low high i e h b =
      let s : high ≡ (lower + 1) * size cs = e ∙ ap (λ (x : ℕ). (lower + 1) * x) z.strided in
      let at : get_or next (i + 2 ^ length (diffs ps)) 0 ≡ get_or places i 0 + high = ap (λ (k : ℕ). get_or next (i + k) 0) (sym z.counted) ∙ (h i (within_count i b)).1 in
      omega (arith, at, z.placed i b, s, high_place lower f ps c cs i b)

  pub spread_step : (p : AxisLocation) (low high more wide : ℕ) → low ≡ location_index p * stride → high ≡ upper_of p * stride → Both places count low high next
      → more ≡ more_corners p count → wide ≡ c * stride → 2 ^ length (diffs (p ∷ ps)) ≤ 16 → Spreading (p ∷ ps) (c ∷ cs) next more wide
  spread_step p low high more wide el eh h em ew few = record {
    counted = em ∙ more_power p ps count z.counted few;
    strided = ew ∙ ap (λ (x : ℕ). c * x) z.strided ∙ sym (size-cons c cs);
    placed = go p el eh;
  }
    where
      go : (q : AxisLocation) → low ≡ location_index q * stride → high ≡ upper_of q * stride → (i : ℕ) → i < 2 ^ length (diffs (q ∷ ps)) → get_or next i 0 ≡ place (c ∷ cs) (corner_at (q ∷ ps) i)
      go (Exact node) e f i b = low_next (Exact node) low high i e h b
      go (Between lower frac) e f i b = half (ltb i (2 ^ length (diffs ps))) refl
        where
          half : (t : Bool) → ltb i (2 ^ length (diffs ps)) ≡ t → get_or next i 0 ≡ place (c ∷ cs) (corner_at (Between lower frac ∷ ps) i)
          half true u = low_next (Between lower frac) low high i e h (ltb-true i (2 ^ length (diffs ps)) u)
          half false u =
              let ge : 2 ^ length (diffs ps) ≤ i = ltb-false i (2 ^ length (diffs ps)) u in
              let below : i - 2 ^ length (diffs ps) < 2 ^ length (diffs ps) = omega (arith, b, power_suc (length (diffs ps)), ge) in
              let is : i ≡ i - 2 ^ length (diffs ps) + 2 ^ length (diffs ps) = omega (arith, ge) in
              subst (λ (k : ℕ). get_or next k 0 ≡ place (c ∷ cs) (corner_at (Between lower frac ∷ ps) k)) (sym is) (high_next lower frac low high (i - 2 ^ length (diffs ps)) f h below)

-- ---- lists filled place by place
less_or_same : (k i : ℕ) → k < i + 1 → (k < i) ⊎ (k ≡ i)
less_or_same k i l = go (ltb k i) refl
  where
    go : (t : Bool) → ltb k i ≡ t → (k < i) ⊎ (k ≡ i)
    go true e = inl (ltb-true k i e)
    go false e = let ge : i ≤ k = ltb-false k i e in inr (omega arith)

pub put_step : {A : Type 0} (xs : List A) (i : ℕ) (x z : A) (h : ℕ → A) → i < length xs → ((k : ℕ) → k < i → get_or xs k z ≡ h k) → x ≡ h i
    → (k : ℕ) → k < i + 1 → get_or (set xs i x) k z ≡ h k
put_step xs i x z h l p e k b = ⊎_elim below same (less_or_same k i b)
  where
    below : k < i → get_or (set xs i x) k z ≡ h k
    below c = get_or-set_other xs i k x z (λ q. omega arith) ∙ p k c

    same : k ≡ i → get_or (set xs i x) k z ≡ h k
    same q = ap (λ (n : ℕ). get_or (set xs i x) n z) q ∙ get_or-set_same xs i x z l ∙ e ∙ ap h (sym q)

-- the same of two places, the second `count` on
pub put_both : {A : Type 0} (xs : List A) (i count : ℕ) (x y z : A) (g h : ℕ → A) → i < count → i + count < length xs
    → ((k : ℕ) → k < i → (get_or xs k z ≡ g k) × (get_or xs (k + count) z ≡ h k)) → x ≡ g i → y ≡ h i
    → (k : ℕ) → k < i + 1 → (get_or (set (set xs (i + count) y) i x) k z ≡ g k) × (get_or (set (set xs (i + count) y) i x) (k + count) z ≡ h k)
put_both {A} xs i count x y z g h m l p e f k b = ⊎_elim below same (less_or_same k i b)
  where
    below : k < i → (get_or (set (set xs (i + count) y) i x) k z ≡ g k) × (get_or (set (set xs (i + count) y) i x) (k + count) z ≡ h k)
    below c = (
      get_or-set_other (set xs (i + count) y) i k x z (λ q. omega arith) ∙ get_or-set_other xs (i + count) k y z (λ q. omega arith) ∙ (p k c).0,
      get_or-set_other (set xs (i + count) y) i (k + count) x z (λ q. omega arith) ∙ get_or-set_other xs (i + count) (k + count) y z (λ q. omega arith) ∙ (p k c).1,
    )

    same : k ≡ i → (get_or (set (set xs (i + count) y) i x) k z ≡ g k) × (get_or (set (set xs (i + count) y) i x) (k + count) z ≡ h k)
    same q =
        subst (λ (n : ℕ). (get_or (set (set xs (i + count) y) i x) n z ≡ g n) × (get_or (set (set xs (i + count) y) i x) (n + count) z ≡ h n)) (sym q) (
          get_or-set_same (set xs (i + count) y) i x z (omega (arith, length-set xs (i + count) y)) ∙ e,
          get_or-set_other (set xs (i + count) y) i (i + count) x z (λ r. omega arith) ∙ get_or-set_same xs (i + count) y z l ∙ f,
        )

-- the places of one axis more, so far
pub record Spreaded (v₀ : List ℕ) (count low high i : ℕ) (v : List ℕ) : Type 0 where
  pub long : length v ≡ length v₀
  pub done : (k : ℕ) → k < i → (get_or v k 0 ≡ get_or v₀ k 0 + low) × (get_or v (k + count) 0 ≡ get_or v₀ k 0 + high)
  pub rest : (k : ℕ) → i ≤ k → k < count → get_or v k 0 ≡ get_or v₀ k 0

module _ (v₀ v : List ℕ) (count low high i at : ℕ) (few : count + count ≤ length v₀) (l : i < count) (z : Spreaded v₀ count low high i v) (e : at ≡ get_or v i 0) where
  abbrev upper : List ℕ
  upper = set v (i + count) (at + high)

  abbrev last : List ℕ
  last = set upper i (at + low)

  kept : (k : ℕ) → (k ≡ i → ⊥) → (k ≡ i + count → ⊥) → get_or last k 0 ≡ get_or v k 0
  kept k a b = get_or-set_other upper i k (at + low) 0 a ∙ get_or-set_other v (i + count) k (at + high) 0 b

  here : at ≡ get_or v₀ i 0
  here = e ∙ z.rest i (omega arith) l

  long_upper : length upper ≡ length v₀
  long_upper = length-set v (i + count) (at + high) ∙ z.long

  at_low : get_or last i 0 ≡ get_or v₀ i 0 + low
  at_low = get_or-set_same upper i (at + low) 0 (omega (arith, long_upper, few, l)) ∙ ap (λ (x : ℕ). x + low) here

  at_high : get_or last (i + count) 0 ≡ get_or v₀ i 0 + high
  at_high =
      get_or-set_other upper i (i + count) (at + low) 0 (λ q. omega (arith, q, l))
      ∙ get_or-set_same v (i + count) (at + high) 0 (omega (arith, z.long, few, l))
      ∙ ap (λ (x : ℕ). x + high) here

  pub spread_turn : Spreaded v₀ count low high (i + 1) last
  spread_turn = record { long = length-set upper i (at + low) ∙ long_upper; done = done_next; rest = rest_next }
    where
      done_next : (k : ℕ) → k < i + 1 → (get_or last k 0 ≡ get_or v₀ k 0 + low) × (get_or last (k + count) 0 ≡ get_or v₀ k 0 + high)
      done_next k b = ⊎_elim below same (less_or_same k i b)
        where
          below : k < i → (get_or last k 0 ≡ get_or v₀ k 0 + low) × (get_or last (k + count) 0 ≡ get_or v₀ k 0 + high)
          below c = (kept k (λ q. omega (arith, q, c)) (λ q. omega (arith, q, c)) ∙ (z.done k c).0, kept (k + count) (λ q. omega (arith, q, l)) (λ q. omega (arith, q, c)) ∙ (z.done k c).1)

          same : k ≡ i → (get_or last k 0 ≡ get_or v₀ k 0 + low) × (get_or last (k + count) 0 ≡ get_or v₀ k 0 + high)
          same q = subst (λ (n : ℕ). (get_or last n 0 ≡ get_or v₀ n 0 + low) × (get_or last (n + count) 0 ≡ get_or v₀ n 0 + high)) (sym q) (at_low, at_high)

      rest_next : (k : ℕ) → i + 1 ≤ k → k < count → get_or last k 0 ≡ get_or v₀ k 0
      rest_next k a b = kept k (λ q. omega (arith, q, a)) (λ q. omega (arith, q, b)) ∙ z.rest k (omega (arith, a)) b

-- ---- the loop over the axes, from the last one down to the second: those from axis d on are done
pub record Resting (counts : List ℕ) (locations : List AxisLocation) (n : ℕ) (places : List ℕ) (d count stride : ℕ) : Type 0 where
  pub some : 1 ≤ d
  pub most : d ≤ n
  pub spreading : Spreading (drop d (take n locations)) (drop d (take n counts)) places count stride

pub rest_begin : {counts : List ℕ} {locations : List AxisLocation} {n : ℕ} {places : List ℕ} → Placeable counts locations n → get_or places 0 0 ≡ 0 → Resting counts locations n places n 1 1
rest_begin {counts} {locations} {n} {places} p e = record { some = p.some; most = omega arith; spreading = rw (past locations n n (omega arith), past counts n n (omega arith)) (record { counted = refl; strided = sym size_nil; placed = only }) }
  where
    only : (i : ℕ) → i < 1 → get_or places i 0 ≡ place [] []
    only i b = let z : i ≡ 0 = omega arith in ap (λ (k : ℕ). get_or places k 0) z ∙ e ∙ sym place_none

module _ {C : List ℕ} {ls : List AxisLocation} {n : ℕ} (p : Placeable C ls n) {places : List ℕ} {d count stride : ℕ} (r : Resting C ls n places d count stride) where
  -- the axis before
  abbrev next : AxisLocation
  next = get_or ls (d - 1) (Exact 0)

  again : d - 1 + 1 ≡ d
  again = omega (arith, r.some)

  open_l : drop (d - 1) (take n ls) ≡ get_or ls (d - 1) (Exact 0) ∷ drop d (take n ls)
  open_l = ahead ls n (d - 1) (Exact 0) (omega (arith, r.some, r.most)) p.long_locations ∙ ap (λ (k : ℕ). get_or ls (d - 1) (Exact 0) ∷ drop k (take n ls)) again

  open_c : drop (d - 1) (take n C) ≡ get_or C (d - 1) 0 ∷ drop d (take n C)
  open_c = ahead C n (d - 1) 0 (omega (arith, r.some, r.most)) p.long_counts ∙ ap (λ (k : ℕ). get_or C (d - 1) 0 ∷ drop k (take n C)) again

  within_at : AllWithin (get_or ls (d - 1) (Exact 0) ∷ drop d (take n ls)) (get_or C (d - 1) 0 ∷ drop d (take n C))
  within_at = subst (λ (q : List ℕ). AllWithin (get_or ls (d - 1) (Exact 0) ∷ drop d (take n ls)) q) open_c (subst (λ (q : List AxisLocation). AllWithin q (drop (d - 1) (take n C))) open_l (within_drop (d - 1) (take n ls) (take n C) p.within))

  small_at : size (get_or C (d - 1) 0 ∷ drop d (take n C)) ≤ 4096
  small_at = omega (arith, ap size open_c, suffix_small (d - 1) (take n ls) (take n C) p.within, p.small)

  few_at : 2 ^ length (diffs (get_or ls (d - 1) (Exact 0) ∷ drop d (take n ls))) ≤ 16
  few_at =
      let long : length (drop (d - 1) (take n ls)) ≤ 4 = omega (arith, length-drop (d - 1) (take n ls), length-take n ls, p.few) in
      subst (λ (q : List AxisLocation). 2 ^ length (diffs q) ≤ 16) open_l (few_corners (drop (d - 1) (take n ls)) long)

  -- before an axis there are at most 8
  eight_at : count ≤ 8
  eight_at =
      let long : length (drop d (take n ls)) ≤ 3 = omega (arith, length-drop d (take n ls), length-take n ls, p.few, r.some) in
      let u : 2 ^ length (diffs (drop d (take n ls))) ≤ 2 ^ 3 = pow-le-pow_right (omega arith) {j = 3} (omega (arith, few_diffs (drop d (take n ls)), long)) in
      omega (arith, r.spreading.counted, u)

  -- what its nodes add to a place
  pub upper_fits : upper_of next ≤ 4096
  upper_fits = upper_few next (drop d (take n ls)) (get_or C (d - 1) 0) (drop d (take n C)) within_at small_at

  pub low_fits : (node : ℕ) → node ≡ location_index (get_or ls (d - 1) (Exact 0)) → node * stride ≤ 4096
  low_fits node e = omega (arith, lower_small next (drop d (take n ls)) (get_or C (d - 1) 0) (drop d (take n C)) within_at small_at, ap₂ (λ (x y : ℕ). x * y) e r.spreading.strided)

  pub high_fits : (node : ℕ) → node ≡ upper_of (get_or ls (d - 1) (Exact 0)) → node * stride ≤ 4096
  high_fits node e = omega (arith, upper_small next (drop d (take n ls)) (get_or C (d - 1) 0) (drop d (take n C)) within_at small_at, ap₂ (λ (x y : ℕ). x * y) e r.spreading.strided)

  pub stride_fits : get_or C (d - 1) 0 * stride ≤ 4096
  stride_fits = omega (arith, small_at, size-cons (get_or C (d - 1) 0) (drop d (take n C)), ap (λ (x : ℕ). get_or C (d - 1) 0 * x) r.spreading.strided)

  module _ (low high : ℕ) (el : low ≡ location_index (get_or ls (d - 1) (Exact 0))) (eh : high ≡ upper_of (get_or ls (d - 1) (Exact 0))) where
    pub rest_spreadable : length places ≡ 16 → Spreadable places count (low * stride) (high * stride)
    rest_spreadable e = record {
      room = omega (arith, e, eight_at);
      low_few = low_fits low el;
      high_few = high_fits high eh;
      small = λ i b.
          let below : place (drop d (take n C)) (corner_at (drop d (take n ls)) i) < size (drop d (take n C)) =
          place_below (corner_at (drop d (take n ls)) i) (drop d (take n C)) (corner_inside (drop d (take n ls)) (drop d (take n C)) i (within_drop d (take n ls) (take n C) p.within)) in
          omega (arith, r.spreading.placed i (omega (arith, r.spreading.counted, b)), below, suffix_small d (take n ls) (take n C) p.within, p.small);
    }

    rest_again : 1 < d → (after : List ℕ) (more : ℕ) → Spread places after count (low * stride) (high * stride) → more ≡ more_corners (get_or ls (d - 1) (Exact 0)) count
        → Resting C ls n after (d - 1) more (get_or C (d - 1) 0 * stride)
    rest_again above after more h em = record {
      some = omega (arith, above);
      most = omega (arith, r.most);
      spreading =
          subst (λ (q : List ℕ). Spreading (drop (d - 1) (take n ls)) q after more (get_or C (d - 1) 0 * stride)) (sym open_c)
          (subst (λ (q : List AxisLocation). Spreading q (get_or C (d - 1) 0 ∷ drop d (take n C)) after more (get_or C (d - 1) 0 * stride)) (sym open_l)
          (spread_step (drop d (take n ls)) (get_or C (d - 1) 0) (drop d (take n C)) places after count stride r.spreading next (low * stride) (high * stride) more (get_or C (d - 1) 0 * stride)
          (ap (λ (x : ℕ). x * stride) el) (ap (λ (x : ℕ). x * stride) eh) h.both em refl few_at));
    }

-- ---- the first axis, under whose nodes the corners of the others lie
module _ {C : List ℕ} {ls : List AxisLocation} {n : ℕ} (placeable : Placeable C ls n) where
  abbrev rest_l : List AxisLocation
  rest_l = drop 1 (take n ls)

  abbrev rest_c : List ℕ
  rest_c = drop 1 (take n C)

  first_l : take n ls ≡ get_or ls 0 (Exact 0) ∷ rest_l
  first_l = ahead ls n 0 (Exact 0) placeable.some placeable.long_locations

  first_c : take n C ≡ get_or C 0 0 ∷ rest_c
  first_c = ahead C n 0 0 placeable.some placeable.long_counts

  within_first : AllWithin (get_or ls 0 (Exact 0) ∷ rest_l) (get_or C 0 0 ∷ rest_c)
  within_first = subst (λ (q : List ℕ). AllWithin (get_or ls 0 (Exact 0) ∷ rest_l) q) first_c (subst (λ (q : List AxisLocation). AllWithin q (take n C)) first_l placeable.within)

  -- what the loop leaves at its end
  module _ {places : List ℕ} {count stride : ℕ} (r : Resting C ls n places 1 count stride) where
    rest_placed : (low high : ℕ) → low ≡ location_index (get_or ls 0 (Exact 0)) → high ≡ upper_of (get_or ls 0 (Exact 0)) → Placed C ls n places count (low * stride) (high * stride)
    rest_placed low high el eh = record {
      corners = r.spreading.counted;
      lower = ap₂ (λ (x y : ℕ). x * y) el r.spreading.strided;
      upper = ap₂ (λ (x y : ℕ). x * y) eh r.spreading.strided;
      each = r.spreading.placed;
    }

  -- a node of the first axis that is its upper one or below it
  module _ (p : AxisLocation) (e : get_or ls 0 (Exact 0) ≡ p) where
    under : (node q stride : ℕ) → node ≤ upper_of p → q < size rest_c → stride ≡ size rest_c → q + node * stride < size (take n C)
    under node q stride l b f =
        let u : upper_of p < get_or C 0 0 = subst (λ (x : AxisLocation). upper_of x < get_or C 0 0) e within_first.0 in
        let m : (node + 1) * size rest_c ≤ get_or C 0 0 * size rest_c = mul-le-mul_right (size rest_c) (omega (arith, u, l)) in
        omega (arith, b, m, ap (λ (x : ℕ). node * x) f, ap size first_c, size-cons (get_or C 0 0) rest_c)

    pub corner_under : (node q stride i : ℕ) → node ≤ upper_of p → q ≡ corner_place rest_c rest_l i → stride ≡ size rest_c → q + node * stride < size (take n C)
    corner_under node q stride i l b f =
        under node q stride l (omega (arith, b, place_below (corner_at rest_l i) rest_c (corner_inside rest_l rest_c i within_first.1))) f

    module _ (values : List Float) where
      pub at-node : (node q stride i : ℕ) → q ≡ corner_place rest_c rest_l i → stride ≡ size rest_c → get_or values (q + node * stride) nan ≡ table (take n C) values (node ∷ corner_at rest_l i)
      unfolding table
      at-node node q stride i b f =
          ap (λ (k : ℕ). get_or values k nan)
          (omega (arith, b, ap (λ (x : ℕ). node * x) f, place-cons (get_or C 0 0) rest_c node (corner_at rest_l i), ap (λ (cs : List ℕ). place cs (node ∷ corner_at rest_l i)) first_c))

      corner_value : (q : AxisLocation) (vals : List Float)
          → ((i : ℕ) → i < 2 ^ length (diffs rest_l) → (get_or vals i nan ≡ table (take n C) values (location_index q ∷ corner_at rest_l i)) × (get_or vals (i + 2 ^ length (diffs rest_l)) nan ≡ table (take n C) values (upper_of q ∷ corner_at rest_l i)))
          → (i : ℕ) → i < 2 ^ length (diffs (q ∷ rest_l)) → get_or vals i nan ≡ table (take n C) values (corner_at (q ∷ rest_l) i)
      corner_value (Exact node) vals v i b = (v i b).0
      corner_value (Between lower frac) vals v i b = half (ltb i (2 ^ length (diffs rest_l))) refl
        where
          half : (t : Bool) → ltb i (2 ^ length (diffs rest_l)) ≡ t → get_or vals i nan ≡ table (take n C) values (corner_at (Between lower frac ∷ rest_l) i)
          half true u =
              let l : i < 2 ^ length (diffs rest_l) = ltb-true i (2 ^ length (diffs rest_l)) u in
              (v i l).0 ∙ ap (table (take n C) values) (sym (low_corner rest_l lower frac i l))
          half false u =
              let ge : 2 ^ length (diffs rest_l) ≤ i = ltb-false i (2 ^ length (diffs rest_l)) u in
              let below : i - 2 ^ length (diffs rest_l) < 2 ^ length (diffs rest_l) = omega (arith, b, power_suc (length (diffs rest_l)), ge) in
              let is : i - 2 ^ length (diffs rest_l) + 2 ^ length (diffs rest_l) ≡ i = omega (arith, ge) in
              subst (λ (k : ℕ). get_or vals k nan ≡ table (take n C) values (corner_at (Between lower frac ∷ rest_l) k)) is
              ((v (i - 2 ^ length (diffs rest_l)) below).1 ∙ ap (table (take n C) values) (sym (high_corner rest_l lower frac (i - 2 ^ length (diffs rest_l)) below)))

      -- the values read under the two nodes of the first axis fold to the rule
      pub folded : (vals : List Float)
          → ((i : ℕ) → i < 2 ^ length (diffs rest_l) → (get_or vals i nan ≡ table (take n C) values (location_index p ∷ corner_at rest_l i)) × (get_or vals (i + 2 ^ length (diffs rest_l)) nan ≡ table (take n C) values (upper_of p ∷ corner_at rest_l i)))
          → butterfly (diffs (take n ls)) vals ≡ linear (take n ls) (table (take n C) values)
      folded vals v =
          subst (λ (ps : List AxisLocation). butterfly (diffs ps) vals ≡ linear ps (table (take n C) values)) (sym (first_l ∙ ap (λ (x : AxisLocation). x ∷ rest_l) e))
          (butterfly_same (diffs (p ∷ rest_l)) vals (tabulate (2 ^ length (diffs (p ∷ rest_l))) (λ m. table (take n C) values (corner_at (p ∷ rest_l) m)))
          (λ i b. corner_value p vals v i b ∙ sym (get_d_tabulate (2 ^ length (diffs (p ∷ rest_l))) i (λ m. table (take n C) values (corner_at (p ∷ rest_l) m)) nan b))
          ∙ fold_linear (p ∷ rest_l) (table (take n C) values))

-- ---- what `rest_places` gave: the places of the axes after the first, whose values are read under the two nodes of the first
module _ {C : List ℕ} {ls : List AxisLocation} {n : ℕ} (p : Placeable C ls n) {places : List ℕ} {count low high : ℕ} (r : Placed C ls n places count low high) where
  abbrev front : AxisLocation
  front = get_or ls 0 (Exact 0)

  abbrev many : ℕ
  many = length (diffs (drop 1 (take n ls)))

  rest_eight : count ≤ 8
  rest_eight =
      let short : many ≤ 3 = omega (arith, few_diffs (drop 1 (take n ls)), length-drop 1 (take n ls), length-take n ls, p.few) in
      let u : 2 ^ many ≤ 2 ^ 3 = pow-le-pow_right (omega arith) {i = many} {j = 3} short in
      omega (arith, r.corners, u)

  pub rest_few : length places ≡ 16 → count ≤ length places
  rest_few e = omega (arith, e, rest_eight)

  -- they are cut off where there are no more
  module _ (own : List ℕ) (cut : own ≡ take count places) (long : length places ≡ 16) where
    own_count : length own ≡ count
    own_count = ap length cut ∙ length-take-le count places (rest_few long)

    own_at : (i : ℕ) → i < count → get_or own i 0 ≡ get_or places i 0
    own_at i b = ap (λ (xs : List ℕ). get_or xs i 0) cut ∙ get_or-take count places i 0 b

    module _ (values : List Float) where
      pub rest_gatherable : length values ≡ size (take n C) → Gatherable values own low high
      rest_gatherable stored = record {
        few = omega (arith, own_count, rest_eight);
        inside = λ i b. (
          omega (arith, under (location_index front) i (lower_upper front) (omega (arith, own_count, b)), r.lower),
          omega (arith, under (upper_of front) i (omega arith) (omega (arith, own_count, b)), r.upper),
        );
      }
        where
          under : (node i : ℕ) → node ≤ upper_of front → i < count → get_or own i 0 + node * size (drop 1 (take n C)) < length values
          under node i l b =
              omega (arith, corner_under p front refl node (get_or own i 0) (size (drop 1 (take n C))) i l (own_at i b ∙ r.each i (omega (arith, r.corners, b))) refl, stored)

      pub rest_folded : (vals : List Float) → Gathered values own low high vals → butterfly (diffs (take n ls)) vals ≡ linear (take n ls) (table (take n C) values)
      rest_folded vals g =
          folded p front refl values vals
          (λ i b.
          let l : i < count = omega (arith, r.corners, b) in
          let v = g.both i (omega (arith, own_count, l)) in (
            v.0 ∙ ap (λ (m : ℕ). get_or values (get_or own i 0 + m) nan) r.lower ∙ stored (location_index front) i b,
            ap (λ (m : ℕ). get_or vals (i + m) nan) (sym (own_count ∙ r.corners)) ∙ v.1 ∙ ap (λ (m : ℕ). get_or values (get_or own i 0 + m) nan) r.upper ∙ stored (upper_of front) i b,
          ))
        where
          stored : (node i : ℕ) → i < 2 ^ many → get_or values (get_or own i 0 + node * size (drop 1 (take n C))) nan ≡ table (take n C) values (node ∷ corner_at (drop 1 (take n ls)) i)
          stored node i b =
              at-node p front refl values node (get_or own i 0) (size (drop 1 (take n C))) i (own_at i (omega (arith, r.corners, b)) ∙ r.each i b) refl

-- ---- the loop: the axes from d on are spread but for the first, whose nodes are told apart
pub record Turning (counts : List ℕ) (locations : List AxisLocation) (n : ℕ) (places : List ℕ) (d count low high stride : ℕ) : Type 0 where
  pub resting : 1 ≤ d → Resting counts locations n places d count stride
  pub placed : d ≡ 0 → Placed counts locations n places count low high

pub turn_begin : {counts : List ℕ} {locations : List AxisLocation} {n : ℕ} {places : List ℕ} → Placeable counts locations n → get_or places 0 0 ≡ 0 → Turning counts locations n places n 1 0 0 1
turn_begin p e = record { resting = λ h. rest_begin p e; placed = λ z. absurd (omega (arith, p.some, z)) }

module _ {C : List ℕ} {ls : List AxisLocation} {n : ℕ} (p : Placeable C ls n) {places : List ℕ} {d count stride : ℕ} (r : Resting C ls n places d count stride)
    (low high : ℕ) (el : low ≡ location_index (get_or ls (d - 1) (Exact 0))) (eh : high ≡ upper_of (get_or ls (d - 1) (Exact 0))) where
  pub turn_again : 0 < d - 1 → (after : List ℕ) (more : ℕ) → Spread places after count (low * stride) (high * stride) → more ≡ more_corners (get_or ls (d - 1) (Exact 0)) count
      → Turning C ls n after (d - 1) more (low * stride) (high * stride) (get_or C (d - 1) 0 * stride)
  turn_again above after more h em = record {
    resting = λ l. rest_again p r low high el eh (omega (arith, above)) after more h em;
    placed = λ z. absurd (omega (arith, above, z));
  }

  pub turn_last : d - 1 ≤ 0 → Turning C ls n places (d - 1) count (low * stride) (high * stride) stride
  turn_last h = record {
    resting = λ l. absurd (omega (arith, h, l));
    placed = λ z.
        rest_placed p (subst (λ (k : ℕ). Resting C ls n places k count stride) (let one : d ≡ 1 = omega (arith, h, r.some) in one) r) low high
        (el ∙ ap (λ (k : ℕ). location_index (get_or ls k (Exact 0))) z) (eh ∙ ap (λ (k : ℕ). upper_of (get_or ls k (Exact 0))) z);
  }
