-- Index lists with one axis put in or left out: where a slice's values lie, the slice law, and that two slices commute. Assumes nothing.
use mathlib.Core.Path.{◌≡◌, refl, sym, ap, ap₂, ◌∙◌, subst}
use mathlib.Core.List.{List, [], ◌∷◌, ◌++◌}
use Prim.Native.Nat.{ℕ, zero, suc, ◌+◌, ◌*◌, ◌/◌, ◌%◌, ◌≤◌, ◌<◌}
use native.Mathlib.Nat.{div-add-mod', mod-lt, mul_assoc, one-mul, zero-mul}
use native.Mathlib.Omega.{arith}
use lib.ListN.{length, take, drop, get_or, length-drop, length-append}
use lib.Seq.{length-take-le, take_at, drop_at}
use lib.Ieee.{Float, nan}
use Rattle.layout.specs.Shape.{size, total}
use Rattle.layout.specs.Layout.{axes_of, place, table, indices_at, tabulate, Inside, insert, without, slice_values, nodes_without}
use Rattle.layout.proofs.Layouts.{radix, radix_div, radix_mod, size_tail, size-cons, size_nil, place-cons, place_below, indices-place, table_ext, get_d_tabulate, length-tabulate, tabulate_same}

-- ---- sizes beside an axis
pub size_split : (k : ℕ) (ns : List ℕ) → k < length ns → size ns ≡ size (take k ns) * (get_or ns k 0 * size (drop (suc k) ns))
unfolding size
size_split k [] h = absurd (omega arith)
size_split zero (n ∷ ns) h = sym (one-mul (n * size ns))
size_split (suc k) (n ∷ ns) h = ap (λ (x : ℕ). n * x) (size_split k ns (omega arith)) ∙ sym (mul_assoc n (size (take k ns)) (get_or ns k 0 * size (drop (suc k) ns)))

pub size-without : (k : ℕ) (ns : List ℕ) → k < length ns → size (without k ns) ≡ size (take k ns) * size (drop (suc k) ns)
unfolding size
size-without k [] h = absurd (omega arith)
size-without zero (n ∷ ns) h = sym (one-mul (size ns))
size-without (suc k) (n ∷ ns) h = ap (λ (x : ℕ). n * x) (size-without k ns (omega arith)) ∙ sym (mul_assoc n (size (take k ns)) (size (drop (suc k) ns)))

-- ---- where the value at run o, place j of a slice stands in the table
on_row : (q P r c i S j : ℕ) → q * (P * (c * S)) + ((r * c + i) * S + j) ≡ ((q * P + r) * c + i) * S + j
on_row q P r c i S j = omega arith

by_rows : (q P r S j : ℕ) → (q * P + r) * S + j ≡ q * (P * S) + (r * S + j)
by_rows q P r S j = omega arith

pub source : (k i : ℕ) (ns : List ℕ) (o j : ℕ) → k < length ns → o < size (take k ns) → j < size (drop (suc k) ns)
    → place ns (insert k i (indices_at (without k ns) (o * size (drop (suc k) ns) + j))) ≡ (o * get_or ns k 0 + i) * size (drop (suc k) ns) + j
unfolding indices_at
source k i [] o j h a b = absurd (omega arith)
source zero i (n ∷ ns) o j h a b =
    let z : o ≡ 0 = omega (arith, size_nil) in
    let t : o * size ns + j ≡ j = omega (arith, ap (λ (x : ℕ). x * size ns) z, zero-mul (size ns)) in
    let u : o * n ≡ 0 = ap (λ (x : ℕ). x * n) z ∙ zero-mul n in
    place-cons n ns i (indices_at ns (o * size ns + j))
    ∙ ap (λ (x : ℕ). i * size ns + place ns (indices_at ns x)) t
    ∙ ap (λ (x : ℕ). i * size ns + x) (indices-place ns j b)
    ∙ omega (arith, ap (λ (x : ℕ). (x + i) * size ns) u)
source (suc k) i (n ∷ ns) o j h a b =
    let a' : o < n * P = omega (arith, size-cons n (take k ns)) in
    let p : 0 < P = size_tail n P o a' in
    let r : o % P < P = mod-lt o p in
    let e : o ≡ o / P * P + o % P = sym (div-add-mod' o P) in
    let w : size (without k ns) ≡ P * S = size-without k ns (omega arith) in
    let v : o % P * S + j < P * S = radix (o % P) P S j r b in
    let t : o * S + j ≡ o / P * size (without k ns) + (o % P * S + j) = ap (λ (x : ℕ). x * S + j) e ∙ by_rows (o / P) P (o % P) S j ∙ ap (λ (x : ℕ). o / P * x + (o % P * S + j)) (sym w) in
    let v' : o % P * S + j < size (without k ns) = omega arith in
    let d : (o * S + j) / size (without k ns) ≡ o / P = ap (λ (x : ℕ). x / size (without k ns)) t ∙ radix_div (o / P) (size (without k ns)) (o % P * S + j) v' in
    let m : (o * S + j) % size (without k ns) ≡ o % P * S + j = ap (λ (x : ℕ). x % size (without k ns)) t ∙ radix_mod (o / P) (size (without k ns)) (o % P * S + j) v' in
    ap₂ (λ (x y : ℕ). place (n ∷ ns) (x ∷ insert k i (indices_at (without k ns) y))) d m
    ∙ place-cons n ns (o / P) (insert k i (indices_at (without k ns) (o % P * S + j)))
    ∙ ap₂ (λ (x y : ℕ). o / P * x + y) (size_split k ns (omega arith)) (source k i ns (o % P) j (omega arith) r b)
    ∙ on_row (o / P) P (o % P) (get_or ns k 0) i S j
    ∙ ap (λ (x : ℕ). (x * get_or ns k 0 + i) * S + j) (sym e)
  where
    P : ℕ
    P = size (take k ns)

    S : ℕ
    S = size (drop (suc k) ns)

-- ---- the index list at the place of an index list
pub indices_back : (ns is : List ℕ) → Inside is ns → indices_at ns (place ns is) ≡ is
unfolding indices_at
indices_back [] [] q = refl
indices_back [] (i ∷ is) q = absurd q
indices_back (n ∷ ns) [] q = absurd q
indices_back (n ∷ ns) (i ∷ is) q =
    let b : place ns is < size ns = place_below is ns q.1 in
    let e : place (n ∷ ns) (i ∷ is) ≡ i * size ns + place ns is = place-cons n ns i is in
    ap₂ (λ (x y : ℕ). x ∷ indices_at ns y) (ap (λ (t : ℕ). t / size ns) e ∙ radix_div i (size ns) (place ns is) b) (ap (λ (t : ℕ). t % size ns) e ∙ radix_mod i (size ns) (place ns is) b)
    ∙ ap (λ (r : List ℕ). i ∷ r) (indices_back ns is q.1)

-- ---- the slice law: a slice at an index list is the table at that list with the index put in
pub slice_law : (k i : ℕ) (ns is : List ℕ) (vs : List Float) → Inside is (without k ns) → table (without k ns) (slice_values k i ns vs) is ≡ table ns vs (insert k i is)
unfolding slice_values
slice_law k i ns is vs q =
    at_place (without k ns) (tabulate (size (without k ns)) (λ t. table ns vs (insert k i (indices_at (without k ns) t)))) is
    ∙ get_d_tabulate (size (without k ns)) (place (without k ns) is) (λ t. table ns vs (insert k i (indices_at (without k ns) t))) nan (place_below is (without k ns) q)
    ∙ ap (λ (js : List ℕ). table ns vs (insert k i js)) (indices_back (without k ns) is q)
  where
    at_place : (ms : List ℕ) (xs : List Float) (js : List ℕ) → table ms xs js ≡ get_or xs (place ms js) nan
    at_place ms xs js = unfold table in refl

pub length_slice : (k i : ℕ) (ns : List ℕ) (vs : List Float) → length (slice_values k i ns vs) ≡ size (without k ns)
unfolding slice_values
length_slice k i ns vs = length-tabulate (size (without k ns)) (λ t. table ns vs (insert k i (indices_at (without k ns) t)))

-- ---- two axes in either order
pub insert_comm : {A : Type 0} (k m : ℕ) (i j : A) (is : List A) → k ≤ m → m ≤ length is → insert k i (insert m j is) ≡ insert (suc m) j (insert k i is)
insert_comm zero m i j is a b = refl
insert_comm (suc k) zero i j is a b = absurd (omega arith)
insert_comm (suc k) (suc m) i j [] a b = absurd (omega arith)
insert_comm (suc k) (suc m) i j (x ∷ is) a b = ap (λ r. x ∷ r) (insert_comm k m i j is (omega arith) (omega arith))

pub without_comm : {A : Type 0} (k m : ℕ) (ns : List A) → k ≤ m → without m (without k ns) ≡ without k (without (suc m) ns)
without_comm k m [] a = refl
without_comm zero m (n ∷ ns) a = refl
without_comm (suc k) zero (n ∷ ns) a = absurd (omega arith)
without_comm (suc k) (suc m) (n ∷ ns) a = ap (λ r. n ∷ r) (without_comm k m ns (omega arith))

pub insert_inside : (k i : ℕ) (is ns : List ℕ) → k < length ns → i < get_or ns k 0 → Inside is (without k ns) → Inside (insert k i is) ns
insert_inside k i is [] h l q = absurd (omega arith)
insert_inside zero i is (n ∷ ns) h l q = (l, q)
insert_inside (suc k) i [] (n ∷ ns) h l q = absurd q
insert_inside (suc k) i (j ∷ is) (n ∷ ns) h l q = (q.0, insert_inside k i is ns (omega arith) l q.1)

pub length_inside : (is ns : List ℕ) → Inside is ns → length is ≡ length ns
length_inside [] [] q = refl
length_inside [] (n ∷ ns) q = absurd q
length_inside (i ∷ is) [] q = absurd q
length_inside (i ∷ is) (n ∷ ns) q = ap suc (length_inside is ns q.1)

pub length_without : {A : Type 0} (k : ℕ) (ns : List A) → k < length ns → length ns ≡ suc (length (without k ns))
length_without k [] h = absurd (omega arith)
length_without zero (n ∷ ns) h = refl
length_without (suc k) (n ∷ ns) h = ap suc (length_without k ns (omega arith))

pub get_d_without : {A : Type 0} (k m : ℕ) (ns : List A) (z : A) → k ≤ m → get_or (without k ns) m z ≡ get_or ns (suc m) z
get_d_without k m [] z a = refl
get_d_without zero m (n ∷ ns) z a = refl
get_d_without (suc k) zero (n ∷ ns) z a = absurd (omega arith)
get_d_without (suc k) (suc m) (n ∷ ns) z a = get_d_without k m ns z (omega arith)

pub get_d_without_below : {A : Type 0} (k m : ℕ) (ns : List A) (z : A) → k < m → get_or (without m ns) k z ≡ get_or ns k z
get_d_without_below k m [] z a = refl
get_d_without_below zero zero (n ∷ ns) z a = absurd (omega arith)
get_d_without_below (suc k) zero (n ∷ ns) z a = absurd (omega arith)
get_d_without_below zero (suc m) (n ∷ ns) z a = refl
get_d_without_below (suc k) (suc m) (n ∷ ns) z a = get_d_without_below k m ns z (omega arith)

-- slices on two axes, the axis k at i and the axis m + 1 at j, whichever goes first
pub slices_comm : (k m i j : ℕ) (ns : List ℕ) (vs : List Float) → k ≤ m → suc m < length ns → i < get_or ns k 0 → j < get_or ns (suc m) 0
    → slice_values m j (without k ns) (slice_values k i ns vs) ≡ slice_values k i (without (suc m) ns) (slice_values (suc m) j ns vs)
slices_comm k m i j ns vs a b li lj = table_ext (without m (without k ns)) one other (length_slice m j (without k ns) (slice_values k i ns vs)) (length_slice k i (without (suc m) ns) (slice_values (suc m) j ns vs) ∙ ap size (sym e)) agree
  where
    e : without m (without k ns) ≡ without k (without (suc m) ns)
    e = without_comm k m ns a

    one : List Float
    one = slice_values m j (without k ns) (slice_values k i ns vs)

    other : List Float
    other = slice_values k i (without (suc m) ns) (slice_values (suc m) j ns vs)

    in_k : k < length ns
    in_k = omega arith

    in_m : m < length (without k ns)
    in_m = omega (arith, length_without k ns in_k)

    k_in : k < length (without (suc m) ns)
    k_in = omega (arith, length_without (suc m) ns b)

    j_in : j < get_or (without k ns) m 0
    j_in = rw (get_d_without k m ns 0 a) lj

    i_in : i < get_or (without (suc m) ns) k 0
    i_in = rw (get_d_without_below k (suc m) ns 0 (omega arith)) li

    agree : (is : List ℕ) → Inside is (without m (without k ns)) → table (without m (without k ns)) one is ≡ table (without m (without k ns)) other is
    agree is q =
        let q2 : Inside is (without k (without (suc m) ns)) = subst (λ (l : List ℕ). Inside is l) e q in
        let n : m ≤ length is = omega (arith, length_inside is (without m (without k ns)) q, length_without m (without k ns) in_m, in_m) in
        slice_law m j (without k ns) is (slice_values k i ns vs) q
        ∙ slice_law k i ns (insert m j is) vs (insert_inside m j is (without k ns) in_m j_in q)
        ∙ ap (table ns vs) (insert_comm k m i j is a n)
        ∙ sym (slice_law (suc m) j ns (insert k i is) vs (insert_inside k i is (without (suc m) ns) k_in i_in q2))
        ∙ sym (slice_law k i (without (suc m) ns) is (slice_values (suc m) j ns vs) q2)
        ∙ ap (λ (l : List ℕ). table l other is) (sym e)

-- ---- the nodes of what is left
pub axes-without : {A : Type 0} (k : ℕ) (cs : List ℕ) (nodes : List A) → k < length cs → length nodes ≡ total cs → axes_of (without k cs) (nodes_without k cs nodes) ≡ without k (axes_of cs nodes)
unfolding axes_of nodes_without total
axes-without k [] nodes h e = absurd (omega arith)
axes-without zero (c ∷ cs) nodes h e = refl
axes-without (suc k) (c ∷ cs) nodes h e =
    let n : length (take c nodes) ≡ c = length-take-le c nodes (omega arith) in
    ap₂ (λ xs ys. xs ∷ axes_of (without k cs) ys) (take_at (take c nodes) (nodes_without k cs (drop c nodes)) c n) (drop_at (take c nodes) (nodes_without k cs (drop c nodes)) c n)
    ∙ ap (λ r. take c nodes ∷ r) (axes-without k cs (drop c nodes) (omega arith) (length-drop c nodes ∙ omega arith))

pub total-without : {A : Type 0} (k : ℕ) (cs : List ℕ) (nodes : List A) → k < length cs → length nodes ≡ total cs → length (nodes_without k cs nodes) ≡ total (without k cs)
unfolding nodes_without total
total-without k [] nodes h e = absurd (omega arith)
total-without zero (c ∷ cs) nodes h e = length-drop c nodes ∙ omega arith
total-without (suc k) (c ∷ cs) nodes h e =
    let n : length (take c nodes) ≡ c = length-take-le c nodes (omega arith) in
    let m : length (nodes_without k cs (drop c nodes)) ≡ total (without k cs) = total-without k cs (drop c nodes) (omega arith) (length-drop c nodes ∙ omega arith) in
    length-append (take c nodes) (nodes_without k cs (drop c nodes)) ∙ omega arith

-- ---- reading what was put in
pub length-insert : {A : Type 0} (k : ℕ) (x : A) (xs : List A) → length (insert k x xs) ≡ suc (length xs)
length-insert zero x xs = refl
length-insert (suc k) x [] = refl
length-insert (suc k) x (y ∷ xs) = ap suc (length-insert k x xs)

pub get_d_insert : {A : Type 0} (k : ℕ) (x : A) (xs : List A) (z : A) → k ≤ length xs → get_or (insert k x xs) k z ≡ x
get_d_insert zero x xs z h = refl
get_d_insert (suc k) x [] z h = absurd (omega arith)
get_d_insert (suc k) x (y ∷ xs) z h = get_d_insert k x xs z (omega arith)

pub get_d_insert_below : {A : Type 0} (k a : ℕ) (x : A) (xs : List A) (z : A) → a < k → k ≤ length xs → get_or (insert k x xs) a z ≡ get_or xs a z
get_d_insert_below zero a x xs z l h = absurd (omega arith)
get_d_insert_below (suc k) a x [] z l h = absurd (omega arith)
get_d_insert_below (suc k) zero x (y ∷ xs) z l h = refl
get_d_insert_below (suc k) (suc a) x (y ∷ xs) z l h = get_d_insert_below k a x xs z (omega arith) (omega arith)

pub get_d_insert_above : {A : Type 0} (k a : ℕ) (x : A) (xs : List A) (z : A) → k ≤ a → k ≤ length xs → get_or (insert k x xs) (suc a) z ≡ get_or xs a z
get_d_insert_above zero a x xs z l h = refl
get_d_insert_above (suc k) a x [] z l h = absurd (omega arith)
get_d_insert_above (suc k) zero x (y ∷ xs) z l h = absurd (omega arith)
get_d_insert_above (suc k) (suc a) x (y ∷ xs) z l h = get_d_insert_above k a x xs z (omega arith) (omega arith)

-- a tabulated list with one number left out
pub tabulate-insert : {A : Type 0} (n k : ℕ) (f g : ℕ → A) → k ≤ n → ((a : ℕ) → a < k → f a ≡ g a) → ((a : ℕ) → k ≤ a → a < n → f (suc a) ≡ g a) → tabulate (suc n) f ≡ insert k (f k) (tabulate n g)
tabulate-insert n zero f g h b a = ap (λ r. f 0 ∷ r) (tabulate_same n (λ j. f (suc j)) g (λ j l. a j (omega arith) l))
tabulate-insert zero (suc k) f g h b a = absurd (omega arith)
tabulate-insert (suc n) (suc k) f g h b a =
    ap₂ (λ x xs. x ∷ xs) (b 0 (omega arith)) (tabulate-insert n k (λ j. f (suc j)) (λ j. g (suc j)) (omega arith) (λ j l. b (suc j) (omega arith)) (λ j l m. a (suc j) (omega arith) (omega arith)))

-- ---- the nodes that two slices leave
pub nodes_comm : {A : Type 0} (k m : ℕ) (ns : List ℕ) (xs : List A) → k ≤ m → length xs ≡ total ns → nodes_without m (without k ns) (nodes_without k ns xs) ≡ nodes_without k (without (suc m) ns) (nodes_without (suc m) ns xs)
unfolding nodes_without total
nodes_comm k m [] xs a h = refl
nodes_comm zero m (n ∷ ns) xs a h = sym (drop_at (take n xs) (nodes_without m ns (drop n xs)) n (length-take-le n xs (omega arith)))
nodes_comm (suc k) zero (n ∷ ns) xs a h = absurd (omega arith)
nodes_comm {A} (suc k) (suc m) (n ∷ ns) xs a h =
    beside (nodes_without k ns (drop n xs)) (λ ys. nodes_without m (without k ns) ys)
    ∙ ap (λ ys. take n xs ++ ys) (nodes_comm k m ns (drop n xs) (omega arith) (omega (arith, length-drop n xs)))
    ∙ sym (beside (nodes_without (suc m) ns (drop n xs)) (λ ys. nodes_without k (without (suc m) ns) ys))
  where
    first : length (take n xs) ≡ n
    first = length-take-le n xs (omega arith)

    beside : (ys : List A) (f : List A → List A) → take n (take n xs ++ ys) ++ f (drop n (take n xs ++ ys)) ≡ take n xs ++ f ys
    beside ys f = ap₂ (λ us vs. us ++ f vs) (take_at (take n xs) ys n first) (drop_at (take n xs) ys n first)
