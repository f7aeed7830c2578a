-- Where index lists lie, and that a flat list is determined by them. Assumes nothing.
use mathlib.Core.Path.{◌≡◌, refl, sym, ap, ap₂, ◌∙◌}
use mathlib.Core.List.{List, [], ◌∷◌, ◌++◌}
use Prim.Native.Nat.{ℕ, zero, suc, ◌+◌, ◌*◌, ◌/◌, ◌%◌, ◌≤◌, ◌<◌}
use native.Mathlib.Nat.{mul-le-mul_right, div-add-mod', div-lt_iff_lt-mul, mod-lt, mul-add-div_right, div-eq_of_lt, mul-add-mod_self_right, mod-eq_of_lt, mul-zero, suc-mul, add-mul, mul_assoc, one-mul, zero-mul, mul_comm}
use native.Mathlib.Numerals.{add-one}
use native.Mathlib.Omega.{arith}
use lib.ListN.{length, drop, get_or, set, drop_of_length-le}
use lib.Seq.{ext_get_or, drop-cons}
use lib.Ieee.{Float, nan}
use Rattle.layout.specs.Shape.{size}
use Rattle.layout.specs.Layout.{strides, place_by, place, table, indices_at, tabulate, Inside}

-- ---- tabulated lists
pub length-tabulate : {A : Type 0} (n : ℕ) (h : ℕ → A) → length (tabulate n h) ≡ n
length-tabulate zero h = refl
length-tabulate (suc n) h = ap suc (length-tabulate n (λ k. h (suc k)))

pub get_d_tabulate : {A : Type 0} (n k : ℕ) (h : ℕ → A) (z : A) → k < n → get_or (tabulate n h) k z ≡ h k
get_d_tabulate zero k h z l = absurd (omega arith)
get_d_tabulate (suc n) zero h z l = refl
get_d_tabulate (suc n) (suc k) h z l = get_d_tabulate n k (λ j. h (suc j)) z (omega arith)

pub tabulate_same : {A : Type 0} (n : ℕ) (g h : ℕ → A) → ((k : ℕ) → k < n → g k ≡ h k) → tabulate n g ≡ tabulate n h
tabulate_same zero g h e = refl
tabulate_same (suc n) g h e = ap₂ (λ x xs. x ∷ xs) (e 0 (omega arith)) (tabulate_same n (λ k. g (suc k)) (λ k. h (suc k)) (λ k l. e (suc k) (omega arith)))

-- writing one more of them over a list
pub tabulate-step : {A : Type 0} (k : ℕ) (h : ℕ → A) (xs : List A) → k < length xs → set (tabulate k h ++ drop k xs) k (h k) ≡ tabulate (k + 1) h ++ drop (k + 1) xs
tabulate-step {A} k h xs l = rw (add-one k) (by k h xs l)
  where
    by : (k : ℕ) (h : ℕ → A) (xs : List A) → k < length xs → set (tabulate k h ++ drop k xs) k (h k) ≡ tabulate (suc k) h ++ drop (suc k) xs
    by k h [] l = absurd (omega arith)
    by zero h (x ∷ xs) l = refl
    by (suc k) h (x ∷ xs) l = ap (λ (r : List A). h 0 ∷ r) (by k (λ j. h (suc j)) xs (omega arith))

-- ---- places
pub radix : (i n r k : ℕ) → i < n → k < r → i * r + k < n * r
radix i n r k a b = omega (arith, mul-le-mul_right r a, suc-mul i r)

pub place-cons : (n : ℕ) (ns : List ℕ) (i : ℕ) (is : List ℕ) → place (n ∷ ns) (i ∷ is) ≡ i * size ns + place ns is
unfolding strides place_by
place-cons n ns i is = refl

pub place_none : place [] [] ≡ 0
unfolding strides place_by
place_none = refl

pub size-cons : (n : ℕ) (ns : List ℕ) → size (n ∷ ns) ≡ n * size ns
unfolding size
size-cons n ns = refl

pub size_nil : size [] ≡ 1
unfolding size
size_nil = refl

pub place_below : (is ns : List ℕ) → Inside is ns → place ns is < size ns
place_below [] [] q = omega (arith, place_none, size_nil)
place_below [] (n ∷ ns) q = absurd q
place_below (i ∷ is) [] q = absurd q
place_below (i ∷ is) (n ∷ ns) q = omega (arith, place-cons n ns i is, size-cons n ns, radix i n (size ns) (place ns is) q.0 (place_below is ns q.1))

-- one axis more of a place that is worked out from the first axis on
pub horner : (flat n i r p : ℕ) → flat * (n * r) + (i * r + p) ≡ (flat * n + i) * r + p
horner flat n i r p = omega (arith, sym (mul_assoc flat n r), add-mul (flat * n) i r)

pub horner_bound : (x r p full : ℕ) → x * r + p ≡ full → 0 < r → x ≤ full
horner_bound x r p full e h = omega (arith, mul-le-mul_right x h, one-mul x, mul_comm x r)

-- ---- the index list at a flat place
pub radix_div : (j r o : ℕ) → o < r → (j * r + o) / r ≡ j
radix_div j r o l =
    let p : 0 < r = omega arith in
    omega (arith, mul-add-div_right {m = r} p j o, div-eq_of_lt l)

pub radix_mod : (j r o : ℕ) → o < r → (j * r + o) % r ≡ o
radix_mod j r o l = mul-add-mod_self_right j r o ∙ mod-eq_of_lt l

pub size_tail : (n r o : ℕ) → o < n * r → 0 < r
size_tail n zero o l = absurd (omega (arith, mul-zero n))
size_tail n (suc r) o l = omega arith

pub indices_inside : (ns : List ℕ) (t : ℕ) → t < size ns → Inside (indices_at ns t) ns
unfolding indices_at size
indices_inside [] t l = tt
indices_inside (n ∷ ns) t l =
    let p : 0 < size ns = size_tail n (size ns) t l in
    ((div-lt_iff_lt-mul {k = size ns} p).1 l, indices_inside ns (t % size ns) (mod-lt t p))

pub indices-place : (ns : List ℕ) (t : ℕ) → t < size ns → place ns (indices_at ns t) ≡ t
unfolding indices_at
indices-place [] t l = omega (arith, place_none, size_nil)
indices-place (n ∷ ns) t l =
    let p : 0 < size ns = size_tail n (size ns) t (omega (arith, size-cons n ns)) in
    place-cons n ns (t / size ns) (indices_at ns (t % size ns)) ∙ omega (arith, indices-place ns (t % size ns) (mod-lt t p), div-add-mod' t (size ns))

-- two flat tables of the same counts that agree at every index list are the same
pub table_ext : (ns : List ℕ) (xs ys : List Float) → length xs ≡ size ns → length ys ≡ size ns
    → ((is : List ℕ) → Inside is ns → table ns xs is ≡ table ns ys is) → xs ≡ ys
unfolding table
table_ext ns xs ys a b e = ext_get_or nan xs ys (a ∙ sym b) (λ t l. at t (omega (arith, a, l)))
  where
    at : (t : ℕ) → t < size ns → get_or xs t nan ≡ get_or ys t nan
    at t l = rw (indices-place ns t l) at (e (indices_at ns t) (indices_inside ns t l))

-- ---- a place worked out from the first axis on: what is done, times what is left, and the place in what is left
pub size_suffix : (ns : List ℕ) (k : ℕ) → 0 < size ns → 0 < size (drop k ns)
unfolding size
size_suffix ns zero h = h
size_suffix [] (suc k) h = h
size_suffix (n ∷ ns) (suc k) h = size_suffix ns k (size_tail n (size ns) 0 h)

module _ (cs is : List ℕ) (flat full a : ℕ) (inv : flat * size (drop a cs) + place (drop a cs) (drop a is) ≡ full) where
  module _ (l : a < length cs) (m : a < length is) where
    next : drop a cs ≡ get_or cs a 0 ∷ drop (a + 1) cs
    next = drop-cons cs a 0 l ∙ ap (λ (k : ℕ). get_or cs a 0 ∷ drop k cs) (sym (add-one a))

    index : drop a is ≡ get_or is a 0 ∷ drop (a + 1) is
    index = drop-cons is a 0 m ∙ ap (λ (k : ℕ). get_or is a 0 ∷ drop k is) (sym (add-one a))

    opened : flat * (get_or cs a 0 * size (drop (a + 1) cs)) + (get_or is a 0 * size (drop (a + 1) cs) + place (drop (a + 1) cs) (drop (a + 1) is)) ≡ full
    opened =
        sym
        (ap₂ (λ (x y : ℕ). flat * x + y) (ap size next ∙ size-cons (get_or cs a 0) (drop (a + 1) cs))
        (ap₂ place next index ∙ place-cons (get_or cs a 0) (drop (a + 1) cs) (get_or is a 0) (drop (a + 1) is)))
        ∙ inv

    pub place-step : (flat * get_or cs a 0 + get_or is a 0) * size (drop (a + 1) cs) + place (drop (a + 1) cs) (drop (a + 1) is) ≡ full
    place-step = sym (horner flat (get_or cs a 0) (get_or is a 0) (size (drop (a + 1) cs)) (place (drop (a + 1) cs) (drop (a + 1) is))) ∙ opened

    pub place_fits : 0 < size cs → flat * get_or cs a 0 + get_or is a 0 ≤ full
    place_fits h = horner_bound (flat * get_or cs a 0 + get_or is a 0) (size (drop (a + 1) cs)) (place (drop (a + 1) cs) (drop (a + 1) is)) full place-step (size_suffix cs (a + 1) h)

  pub place_done : length cs ≤ a → length is ≤ a → flat ≡ full
  place_done h k =
      let e : flat * size (drop a cs) + place (drop a cs) (drop a is) ≡ flat * 1 + 0 =
      ap₂ (λ (x y : ℕ). flat * x + y) (ap size (drop_of_length-le cs {i = a} h) ∙ size_nil) (ap₂ place (drop_of_length-le cs {i = a} h) (drop_of_length-le is {i = a} k) ∙ place_none)
      in
      omega arith

pub place_start : (cs is : List ℕ) → 0 * size cs + place cs is ≡ place cs is
place_start cs is = omega (arith, zero-mul (size cs))

-- ---- tabulated indices
pub inside_tabulate : (ns : List ℕ) (n : ℕ) (f : ℕ → ℕ) → n ≡ length ns → ((a : ℕ) → a < n → f a < get_or ns a 0) → Inside (tabulate n f) ns
inside_tabulate [] zero f e h = tt
inside_tabulate [] (suc n) f e h = absurd (omega arith)
inside_tabulate (m ∷ ns) zero f e h = absurd (omega arith)
inside_tabulate (m ∷ ns) (suc n) f e h = (h 0 (omega arith), inside_tabulate ns n (λ a. f (suc a)) (omega arith) (λ a l. h (suc a) (omega arith)))
