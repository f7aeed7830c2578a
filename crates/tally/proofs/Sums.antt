-- How many of a list are of a kind, and sums of that over kinds. Assumes nothing.
use mathlib.Core.Path.{◌≡◌, refl, sym, ap, ap₂, ◌∙◌}
use mathlib.Core.Bool.{Bool, true, false, cond}
use mathlib.Core.List.{List, [], ◌∷◌, map}
use Prim.Native.Nat.{ℕ, zero, suc, ◌+◌, ◌<◌}
use native.Mathlib.Omega.{arith}
use lib.ListN.{length}
use Rattle.answer.proofs.Tests.{by_eq}
use Rattle.tally.specs.Counts.{how_many, sum_to}

-- ---- how many
pub many_none : {A : Type 0} (test : A → Bool) (xs : List A) → ((x : A) → test x ≡ false) → how_many test xs ≡ 0
unfolding how_many
many_none test [] h = refl
many_none test (x ∷ xs) h = ap₂ (λ (b : Bool) (n : ℕ). cond b 1 0 + n) (h x) (many_none test xs h)

pub many_all : {A : Type 0} (xs : List A) → how_many (λ x. true) xs ≡ length xs
unfolding how_many
many_all [] = refl
many_all (x ∷ xs) = let z : how_many (λ x. true) xs ≡ length xs = many_all xs in omega (arith, z)

-- the same test of what the list was made of
pub many_map : {A B : Type 0} (f : A → B) (test : B → Bool) (own : A → Bool) → ((x : A) → test (f x) ≡ own x)
    → (xs : List A) → how_many test (map f xs) ≡ how_many own xs
unfolding how_many
many_map f test own h [] = refl
many_map f test own h (x ∷ xs) = ap₂ (λ (b : Bool) (n : ℕ). cond b 1 0 + n) (h x) (many_map f test own h xs)

-- ---- sums
sum-add : (f g : ℕ → ℕ) (n : ℕ) → sum_to (λ i. f i + g i) n ≡ sum_to f n + sum_to g n
unfolding sum_to
sum-add f g zero = refl
sum-add f g (suc n) = let z : sum_to (λ i. f i + g i) n ≡ sum_to f n + sum_to g n = sum-add f g n in omega (arith, z)

-- how many of the first n kinds something is of
abbrev pub kinds : (ℕ → Bool) → ℕ → ℕ
kinds is n = sum_to (λ i. cond (is i) 1 0) n

pub kinds_none : (is : ℕ → Bool) (n : ℕ) → ((i : ℕ) → i < n → is i ≡ false) → kinds is n ≡ 0
unfolding sum_to
kinds_none is zero h = refl
kinds_none is (suc n) h = ap₂ (λ (m : ℕ) (b : Bool). m + cond b 1 0) (kinds_none is n (λ i l. h i (omega arith))) (h n (omega arith))

-- of its own kind alone
pub kinds_one : (is : ℕ → Bool) (n c : ℕ) → c < n → is c ≡ true → ((i : ℕ) → (i ≡ c → ⊥) → is i ≡ false) → kinds is n ≡ 1
unfolding sum_to
kinds_one is zero c l y h = absurd (omega arith)
kinds_one is (suc n) c l y h =
    by_eq c n (λ e. both 0 true (kinds_none is n (λ i m. h i (λ q. omega arith))) (sym (ap is e) ∙ y))
    (λ e. both 1 false (kinds_one is n c (omega arith) y h) (h n (λ q. e (sym q))))
  where
    both : (m : ℕ) (b : Bool) → kinds is n ≡ m → is n ≡ b → kinds is n + cond (is n) 1 0 ≡ m + cond b 1 0
    both m b p q = ap₂ (λ (x : ℕ) (t : Bool). x + cond t 1 0) p q

-- where each of a list is of one kind in all, of the first m of one sort or of the first n of another, the sums are how many there are
pub kinds_all : {A : Type 0} (p r : ℕ → A → Bool) (m n : ℕ) → ((x : A) → kinds (λ i. p i x) m + kinds (λ i. r i x) n ≡ 1)
    → (xs : List A) → sum_to (λ i. how_many (p i) xs) m + sum_to (λ i. how_many (r i) xs) n ≡ length xs
unfolding how_many
kinds_all p r m n h [] = ap₂ (λ (x y : ℕ). x + y) (kinds_none (λ i. false) m (λ i l. refl)) (kinds_none (λ i. false) n (λ i l. refl))
kinds_all p r m n h (x ∷ xs) =
    let a = sum-add (λ i. cond (p i x) 1 0) (λ i. how_many (p i) xs) m in
    let b = sum-add (λ i. cond (r i x) 1 0) (λ i. how_many (r i) xs) n in
    omega (arith, a, b, h x, kinds_all p r m n h xs)
