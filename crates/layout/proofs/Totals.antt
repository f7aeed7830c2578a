-- Counts, and how many nodes and values they make: what the loops over them need. Assumes nothing.
use mathlib.Core.Path.{◌≡◌, sym, ap, ap₂, ◌∙◌, subst}
use mathlib.Core.Logic.{◌⊎◌, inl, inr}
use mathlib.Core.List.{List, [], ◌∷◌}
use Prim.Native.Nat.{ℕ, suc, ◌+◌, ◌-◌, ◌*◌, ◌^◌, ◌≤◌, ◌<◌, min}
use native.Mathlib.Nat.{mul-le-mul, pow-le-pow_right, pow-suc, le_trans, eq-or-lt_of_le}
use native.Mathlib.Numerals.{add-one}
use native.Mathlib.Omega.{arith}
use lib.ListN.{length, take, drop, get_or, length-take, length-drop, drop_of_length-le}
use lib.Seq.{drop-cons, get_or-take, get_or-drop, take_all, length-take-le}
use Rattle.layout.specs.Shape.{size, total}

-- ---- one more of the first n
pub ahead : {A : Type 0} (l : List A) (n d : ℕ) (z : A) → d < n → n ≤ length l → drop d (take n l) ≡ get_or l d z ∷ drop (d + 1) (take n l)
ahead l n d z h k =
    let q : length (take n l) ≡ n = length-take-le n l k in
    drop-cons (take n l) d z (omega arith) ∙ ap₂ (λ x (m : ℕ). x ∷ drop m (take n l)) (get_or-take n l d z h) (sym (add-one d))

pub past : {A : Type 0} (l : List A) (n d : ℕ) → n ≤ d → drop d (take n l) ≡ []
past l n d h = drop_of_length-le (take n l) {i = d} (omega (arith, length-take n l))

module _ (counts : List ℕ) (n a : ℕ) (fits : n ≤ length counts) (more : 0 < a) (within : a ≤ n) where
  before : drop (a - 1) (take n counts) ≡ get_or counts (a - 1) 0 ∷ drop a (take n counts)
  before = ahead counts n (a - 1) 0 (omega arith) fits ∙ ap (λ (m : ℕ). get_or counts (a - 1) 0 ∷ drop m (take n counts)) back
    where
      back : a - 1 + 1 ≡ a
      back = omega arith

  pub size_back : get_or counts (a - 1) 0 * size (drop a (take n counts)) ≡ size (drop (a - 1) (take n counts))
  unfolding size
  size_back = sym (ap size before)

  pub total_back : get_or counts (a - 1) 0 + total (drop a (take n counts)) ≡ total (drop (a - 1) (take n counts))
  unfolding total
  total_back = sym (ap total before)

pub size_none : (counts : List ℕ) (n : ℕ) → 1 ≡ size (drop n (take n counts))
unfolding size
size_none counts n = sym (ap size (past counts n n (omega arith)))

pub total_none : (counts : List ℕ) (n : ℕ) → 0 ≡ total (drop n (take n counts))
unfolding total
total_none counts n = sym (ap total (past counts n n (omega arith)))

-- ---- few counts of few nodes
size_small : (ns : List ℕ) → ((a : ℕ) → a < length ns → get_or ns a 0 ≤ 64) → size ns ≤ 64 ^ length ns
unfolding size
size_small [] h = omega arith
size_small (n ∷ ns) h =
    let k : n * size ns ≤ 64 * 64 ^ length ns = mul-le-mul (h 0 (omega arith)) (size_small ns (λ a l. h (suc a) (omega arith))) in
    omega (arith, pow-suc 64 (length ns))

total_small : (ns : List ℕ) → ((a : ℕ) → a < length ns → get_or ns a 0 ≤ 64) → total ns ≤ 64 * length ns
unfolding total
total_small [] h = omega arith
total_small (n ∷ ns) h =
    let k : total ns ≤ 64 * length ns = total_small ns (λ a l. h (suc a) (omega arith)) in
    let l : n ≤ 64 = h 0 (omega arith) in
    omega arith

module _ (counts : List ℕ) (n a : ℕ) (fits : n ≤ length counts) (four : n ≤ 4) (small : (k : ℕ) → k < n → get_or counts k 0 ≤ 64) where
  few : length (drop a (take n counts)) ≤ 4
  few = omega (arith, length-drop a (take n counts), length-take n counts)

  each : (k : ℕ) → k < length (drop a (take n counts)) → get_or (drop a (take n counts)) k 0 ≤ 64
  each k l =
      let q : a + k < n = omega (arith, length-drop a (take n counts), length-take n counts) in
      subst (λ (x : ℕ). x ≤ 64) (sym (get_or-drop a (take n counts) k 0 ∙ get_or-take n counts (a + k) 0 q)) (small (a + k) q)

  pub size_bound : size (drop a (take n counts)) ≤ 16777216
  size_bound =
      let p : 64 ^ length (drop a (take n counts)) ≤ 64 ^ 4 = pow-le-pow_right (omega arith) few in
      le_trans (size_small (drop a (take n counts)) each) p

  pub total_bound : total (drop a (take n counts)) ≤ 256
  total_bound = let p : total (drop a (take n counts)) ≤ 64 * length (drop a (take n counts)) = total_small (drop a (take n counts)) each in omega (arith, few)

-- ---- what is not there is not looked at
pub take_there : {A : Type 0} (n : ℕ) (l : List A) → take (min n (length l)) l ≡ take n l
take_there n l = go (eq-or-lt_of_le small)
  where
    small : min n (length l) ≤ n
    small = omega arith

    go : (min n (length l) ≡ n) ⊎ (min n (length l) < n) → take (min n (length l)) l ≡ take n l
    go (inl q) = ap (λ (k : ℕ). take k l) q
    go (inr q) = take_all (min n (length l)) l (omega arith) ∙ sym (take_all n l (omega arith))

-- the first so many of four, as the code goes
pub counts_least : {A : Type 0} (counts : List A) (m n : ℕ) → length counts ≡ 4 → m ≡ min n 4 → take m counts ≡ take n counts
counts_least counts m n l e = ap (λ (k : ℕ). take k counts) (e ∙ ap (min n) (sym l)) ∙ take_there n counts
