-- The order of finite floats. A finite x is the fraction (`over` x - `under` x) / `den` x, one of `over` and `under` being 0. So
-- x < y says that `left` x y < `right` x y, of two natural numbers with no case on a sign, and each law of the order is one of numbers.
-- Assumes nothing.
use mathlib.Core.Path.{◌≡◌, refl, sym, ap, ap₂, ◌∙◌, subst}
use mathlib.Core.Logic.{◌⊎◌, inl, inr}
use Prim.Native.Nat.{ℕ, ◌+◌, ◌*◌, ◌≤◌, ◌<◌}
use native.Mathlib.Nat.{mul-le-mul_right, le_of_mul-le-mul_right, mul-lt-mul_of_pos_right, lt_of_mul-lt-mul_right}
use native.Mathlib.Omega.{arith}
use mathlib.Core.Bool.{Bool, true, false, not, ◌&&◌, ◌||◌}
use lib.Dec.{T, ltb, leb, eqb}
use borrow.Author.Tests.{ltb-true, ltb-false, leb-true, eqb-true, eqb-false, lt-ltb, le-ltb, le-leb, lt-leb, eq-eqb, ne_eqb}
use lib.Ieee.{Float, nan, inf, fin, up, down, lt, le, eq}
use lib.Ieee.Positive.{den, den_pos}
use lib.Ieee.Scale.{finite}

-- ---- tests
pub clash : {A : Type 0} → ◌≡◌ {A = Bool} true false → A
clash e = absurd (subst T e tt)

pub same_test : (p q : Bool) → (p ≡ true → q ≡ true) → (q ≡ true → p ≡ true) → p ≡ q
same_test true true f g = refl
same_test true false f g = sym (f refl)
same_test false true f g = g refl
same_test false false f g = refl

ltb_same : (a b c d : ℕ) → (a < b → c < d) → (c < d → a < b) → ltb a b ≡ ltb c d
ltb_same a b c d f g = same_test (ltb a b) (ltb c d) (λ e. lt-ltb c d (f (ltb-true a b e))) (λ e. lt-ltb a b (g (ltb-true c d e)))

eqb_same : (a b c d : ℕ) → (a ≡ b → c ≡ d) → (c ≡ d → a ≡ b) → eqb a b ≡ eqb c d
eqb_same a b c d f g = same_test (eqb a b) (eqb c d) (λ e. eq-eqb c d (f (eqb-true a b e))) (λ e. eq-eqb a b (g (eqb-true c d e)))

and_true : (p : Bool) → p ≡ p && true
and_true true = refl
and_true false = refl

-- ---- a finite value as a fraction with its sign
abbrev pub over : Float → ℕ
over nan = 0
over (inf s) = 0
over (fin false m e) = m * up e
over (fin true m e) = 0

abbrev pub under : Float → ℕ
under nan = 0
under (inf s) = 0
under (fin false m e) = 0
under (fin true m e) = m * up e

abbrev pub left : Float → Float → ℕ
left x y = over x * den y + under y * den x

abbrev pub right : Float → Float → ℕ
right x y = over y * den x + under x * den y

both_zero : (a b : ℕ) → eqb a b && eqb a 0 ≡ eqb (a + b) 0
both_zero a b = same_test (eqb a b && eqb a 0) (eqb (a + b) 0) (split (eqb a b) (eqb a 0) (eqb-true a b) (eqb-true a 0)) (λ h. join (eqb-true (a + b) 0 h))
  where
    split : (p q : Bool) → (p ≡ true → a ≡ b) → (q ≡ true → a ≡ 0) → p && q ≡ true → eqb (a + b) 0 ≡ true
    split true true f g h = let x : a ≡ b = f refl in let y : a ≡ 0 = g refl in eq-eqb (a + b) 0 (omega arith)
    split true false f g h = clash (sym h)
    split false q f g h = clash (sym h)

    join : a + b ≡ 0 → eqb a b && eqb a 0 ≡ true
    join h = ap₂ ◌&&◌ (eq-eqb a b (omega arith)) (eq-eqb a 0 (omega arith))

-- the four cases of the signs, on plain numbers: a / p and b / q in size
module _ (a b p q : ℕ) where
  lt_ff : ltb (a * q) (b * p) ≡ ltb (a * q + 0 * p) (b * p + 0 * q)
  lt_ff = ltb_same (a * q) (b * p) (a * q + 0 * p) (b * p + 0 * q) (λ h. omega arith) (λ h. omega arith)

  lt_ft : false ≡ ltb (a * q + b * p) (0 * p + 0 * q)
  lt_ft = sym (le-ltb (a * q + b * p) (0 * p + 0 * q) (omega arith))

  lt_tf : ltb 0 (a * q + b * p) ≡ ltb (0 * q + 0 * p) (b * p + a * q)
  lt_tf = ltb_same 0 (a * q + b * p) (0 * q + 0 * p) (b * p + a * q) (λ h. omega arith) (λ h. omega arith)

  lt_tt : ltb (b * p) (a * q) ≡ ltb (0 * q + b * p) (0 * p + a * q)
  lt_tt = ltb_same (b * p) (a * q) (0 * q + b * p) (0 * p + a * q) (λ h. omega arith) (λ h. omega arith)

  eq_ff : eqb (a * q) (b * p) && true ≡ eqb (a * q + 0 * p) (b * p + 0 * q)
  eq_ff = sym (and_true (eqb (a * q) (b * p))) ∙ eqb_same (a * q) (b * p) (a * q + 0 * p) (b * p + 0 * q) (λ h. omega arith) (λ h. omega arith)

  eq_ft : eqb (a * q) (b * p) && eqb (a * q) 0 ≡ eqb (a * q + b * p) (0 * p + 0 * q)
  eq_ft = both_zero (a * q) (b * p) ∙ eqb_same (a * q + b * p) 0 (a * q + b * p) (0 * p + 0 * q) (λ h. omega arith) (λ h. omega arith)

  eq_tf : eqb (a * q) (b * p) && eqb (a * q) 0 ≡ eqb (0 * q + 0 * p) (b * p + a * q)
  eq_tf = both_zero (a * q) (b * p) ∙ eqb_same (a * q + b * p) 0 (0 * q + 0 * p) (b * p + a * q) (λ h. omega arith) (λ h. omega arith)

  eq_tt : eqb (a * q) (b * p) && true ≡ eqb (0 * q + b * p) (0 * p + a * q)
  eq_tt = sym (and_true (eqb (a * q) (b * p))) ∙ eqb_same (a * q) (b * p) (0 * q + b * p) (0 * p + a * q) (λ h. omega arith) (λ h. omega arith)

pub lt_cross : (x y : Float) → finite x ≡ true → finite y ≡ true → lt x y ≡ ltb (left x y) (right x y)
unfolding lt
lt_cross nan y f g = clash (sym f)
lt_cross (inf s) y f g = clash (sym f)
lt_cross (fin s m e) nan f g = clash (sym g)
lt_cross (fin s m e) (inf t) f g = clash (sym g)
lt_cross (fin false m e) (fin false n d) f g = lt_ff (m * up e) (n * up d) (down e) (down d)
lt_cross (fin false m e) (fin true n d) f g = lt_ft (m * up e) (n * up d) (down e) (down d)
lt_cross (fin true m e) (fin false n d) f g = lt_tf (m * up e) (n * up d) (down e) (down d)
lt_cross (fin true m e) (fin true n d) f g = lt_tt (m * up e) (n * up d) (down e) (down d)

pub eq_cross : (x y : Float) → finite x ≡ true → finite y ≡ true → eq x y ≡ eqb (left x y) (right x y)
unfolding eq
eq_cross nan y f g = clash (sym f)
eq_cross (inf s) y f g = clash (sym f)
eq_cross (fin s m e) nan f g = clash (sym g)
eq_cross (fin s m e) (inf t) f g = clash (sym g)
eq_cross (fin false m e) (fin false n d) f g = eq_ff (m * up e) (n * up d) (down e) (down d)
eq_cross (fin false m e) (fin true n d) f g = eq_ft (m * up e) (n * up d) (down e) (down d)
eq_cross (fin true m e) (fin false n d) f g = eq_tf (m * up e) (n * up d) (down e) (down d)
eq_cross (fin true m e) (fin true n d) f g = eq_tt (m * up e) (n * up d) (down e) (down d)

lt_or_eq : (a b : ℕ) → ltb a b || eqb a b ≡ leb a b
lt_or_eq a b = same_test (ltb a b || eqb a b) (leb a b) (λ h. le-leb a b (split (ltb a b) (eqb a b) (ltb-true a b) (eqb-true a b) h)) (λ h. join (ltb a b) (eqb a b) (ltb-false a b) (eqb-false a b) (leb-true a b h))
  where
    split : (p q : Bool) → (p ≡ true → a < b) → (q ≡ true → a ≡ b) → p || q ≡ true → a ≤ b
    split true q f g h = let k : a < b = f refl in omega arith
    split false true f g h = let y : a ≡ b = g refl in omega arith
    split false false f g h = clash (sym h)

    join : (p q : Bool) → (p ≡ false → b ≤ a) → (q ≡ false → a ≡ b → ⊥) → a ≤ b → p || q ≡ true
    join true q f g h = refl
    join false true f g h = refl
    join false false f g h = let y : b ≤ a = f refl in absurd (g refl (omega arith))

pub le_cross : (x y : Float) → finite x ≡ true → finite y ≡ true → le x y ≡ leb (left x y) (right x y)
unfolding le
le_cross x y f g = ap₂ ◌||◌ (lt_cross x y f g) (eq_cross x y f g) ∙ lt_or_eq (left x y) (right x y)

-- ---- three fractions, the middle one between
module _ (P N D P' N' D' P'' N'' D'' : ℕ) (pos : 0 < D') where
  through_le : P * D' + N' * D ≤ P' * D + N * D' → P' * D'' + N'' * D' ≤ P'' * D' + N' * D'' → P * D'' + N'' * D ≤ P'' * D + N * D''
  through_le h k = le_of_mul-le-mul_right (omega (arith, mul-le-mul_right D'' h, mul-le-mul_right D k)) pos

  through_lt_le : 0 < D'' → P * D' + N' * D < P' * D + N * D' → P' * D'' + N'' * D' ≤ P'' * D' + N' * D'' → P * D'' + N'' * D < P'' * D + N * D''
  through_lt_le pos'' h k = lt_of_mul-lt-mul_right D' (omega (arith, mul-lt-mul_of_pos_right h pos'', mul-le-mul_right D k))

  through_le_lt : 0 < D → P * D' + N' * D ≤ P' * D + N * D' → P' * D'' + N'' * D' < P'' * D' + N' * D'' → P * D'' + N'' * D < P'' * D + N * D''
  through_le_lt pos₀ h k = lt_of_mul-lt-mul_right D' (omega (arith, mul-le-mul_right D'' h, mul-lt-mul_of_pos_right k pos₀))

-- ---- the laws
abbrev pub Fin : Float → Type 0
Fin x = finite x ≡ true

module _ (x y : Float) (f : Fin x) (g : Fin y) where
  lt→ : lt x y ≡ true → left x y < right x y
  lt→ h = ltb-true (left x y) (right x y) (sym (lt_cross x y f g) ∙ h)

  →lt : left x y < right x y → lt x y ≡ true
  →lt h = lt_cross x y f g ∙ lt-ltb (left x y) (right x y) h

  pub le→ : le x y ≡ true → left x y ≤ right x y
  le→ h = leb-true (left x y) (right x y) (sym (le_cross x y f g) ∙ h)

  →le : left x y ≤ right x y → le x y ≡ true
  →le h = le_cross x y f g ∙ le-leb (left x y) (right x y) h

  eq→ : eq x y ≡ true → left x y ≡ right x y
  eq→ h = eqb-true (left x y) (right x y) (sym (eq_cross x y f g) ∙ h)

  →eq : left x y ≡ right x y → eq x y ≡ true
  →eq h = eq_cross x y f g ∙ eq-eqb (left x y) (right x y) h

pub lt_irrefl : (x : Float) → Fin x → lt x x ≡ false
lt_irrefl x f = lt_cross x x f f ∙ le-ltb (left x x) (right x x) (omega arith)

pub eq_refl : (x : Float) → Fin x → eq x x ≡ true
eq_refl x f = →eq x x f f (omega arith)

pub le_refl : (x : Float) → Fin x → le x x ≡ true
le_refl x f = →le x x f f (omega arith)

module _ (x y : Float) (f : Fin x) (g : Fin y) where
  pub le_of_lt : lt x y ≡ true → le x y ≡ true
  le_of_lt h = let k : left x y < right x y = lt→ x y f g h in →le x y f g (omega arith)

  pub le_of_eq : eq x y ≡ true → le x y ≡ true
  le_of_eq h = let k : left x y ≡ right x y = eq→ x y f g h in →le x y f g (omega arith)

  pub lt_of_eq : eq x y ≡ true → lt x y ≡ false
  lt_of_eq h = let k : left x y ≡ right x y = eq→ x y f g h in lt_cross x y f g ∙ le-ltb (left x y) (right x y) (omega arith)

  pub ne_of_lt : lt x y ≡ true → eq x y ≡ false
  ne_of_lt h = let k : left x y < right x y = lt→ x y f g h in eq_cross x y f g ∙ ne_eqb (left x y) (right x y) (λ e. omega arith)

  pub eq_sym : eq x y ≡ true → eq y x ≡ true
  eq_sym h = let k : left x y ≡ right x y = eq→ x y f g h in →eq y x g f (omega arith)

  -- `y <= x` is the opposite of `x < y`
  pub le_is_not_lt : le y x ≡ not (lt x y)
  le_is_not_lt = le_cross y x g f ∙ opposite (left y x) (right y x) (left x y) (right x y) (omega arith) (omega arith) ∙ ap not (sym (lt_cross x y f g))
    where
      opposite : (a b c d : ℕ) → a ≡ d → b ≡ c → leb a b ≡ not (ltb c d)
      opposite a b c d p q = go (ltb c d) (ltb-true c d) (ltb-false c d)
        where
          go : (t : Bool) → (t ≡ true → c < d) → (t ≡ false → d ≤ c) → leb a b ≡ not t
          go true u v = let w : c < d = u refl in lt-leb a b (omega arith)
          go false u v = let w : d ≤ c = v refl in le-leb a b (omega arith)

  pub le_of_not_lt : lt x y ≡ false → le y x ≡ true
  le_of_not_lt h = le_is_not_lt ∙ ap not h

  pub lt_of_not_le : le y x ≡ false → lt x y ≡ true
  lt_of_not_le h = not_back (lt x y) (sym le_is_not_lt ∙ h)
    where
      not_back : (t : Bool) → not t ≡ false → t ≡ true
      not_back true e = refl
      not_back false e = sym e

  pub not_le_of_lt : lt x y ≡ true → le y x ≡ false
  not_le_of_lt h = le_is_not_lt ∙ ap not h

  pub not_lt_of_le : le y x ≡ true → lt x y ≡ false
  not_lt_of_le h = not_back (lt x y) (sym le_is_not_lt ∙ h)
    where
      not_back : (t : Bool) → not t ≡ true → t ≡ false
      not_back true e = sym e
      not_back false e = refl

  pub lt_asym : lt x y ≡ true → lt y x ≡ false
  lt_asym h = let k : left x y < right x y = lt→ x y f g h in lt_cross y x g f ∙ le-ltb (left y x) (right y x) (omega arith)

  pub lt_or_eq_of_le : le x y ≡ true → (lt x y ≡ true) ⊎ (eq x y ≡ true)
  lt_or_eq_of_le h = go (lt x y) refl
    where
      go : (t : Bool) → lt x y ≡ t → (lt x y ≡ true) ⊎ (eq x y ≡ true)
      go true p = inl p
      go false p =
          let u : left x y ≤ right x y = le→ x y f g h in
          let v : right x y ≤ left x y = ltb-false (left x y) (right x y) (sym (lt_cross x y f g) ∙ p) in
          inr (→eq x y f g (omega arith))

  pub le_antisym : le x y ≡ true → le y x ≡ true → eq x y ≡ true
  le_antisym h k =
      let u : left x y ≤ right x y = le→ x y f g h in
      let v : left y x ≤ right y x = le→ y x g f k in
      →eq x y f g (omega arith)

  pub trichotomy : (lt x y ≡ true) ⊎ ((eq x y ≡ true) ⊎ (lt y x ≡ true))
  trichotomy = go (lt x y) (lt y x) refl refl
    where
      go : (s t : Bool) → lt x y ≡ s → lt y x ≡ t → (lt x y ≡ true) ⊎ ((eq x y ≡ true) ⊎ (lt y x ≡ true))
      go true t p q = inl p
      go false true p q = inr (inr q)
      go false false p q =
          let u : right x y ≤ left x y = ltb-false (left x y) (right x y) (sym (lt_cross x y f g) ∙ p) in
          let v : right y x ≤ left y x = ltb-false (left y x) (right y x) (sym (lt_cross y x g f) ∙ q) in
          inr (inl (→eq x y f g (omega arith)))

module _ (x y z : Float) (f : Fin x) (g : Fin y) (h : Fin z) where
  pub le_trans : le x y ≡ true → le y z ≡ true → le x z ≡ true
  le_trans p q = →le x z f h (through_le (over x) (under x) (den x) (over y) (under y) (den y) (over z) (under z) (den z) (den_pos y) (le→ x y f g p) (le→ y z g h q))

  pub lt_of_lt_of_le : lt x y ≡ true → le y z ≡ true → lt x z ≡ true
  lt_of_lt_of_le p q = →lt x z f h (through_lt_le (over x) (under x) (den x) (over y) (under y) (den y) (over z) (under z) (den z) (den_pos y) (den_pos z) (lt→ x y f g p) (le→ y z g h q))

  pub lt_of_le_of_lt : le x y ≡ true → lt y z ≡ true → lt x z ≡ true
  lt_of_le_of_lt p q = →lt x z f h (through_le_lt (over x) (under x) (den x) (over y) (under y) (den y) (over z) (under z) (den z) (den_pos y) (den_pos x) (le→ x y f g p) (lt→ y z g h q))

  pub lt_trans : lt x y ≡ true → lt y z ≡ true → lt x z ≡ true
  lt_trans p q = lt_of_lt_of_le p (le_of_lt y z g h q)

  pub eq_trans : eq x y ≡ true → eq y z ≡ true → eq x z ≡ true
  eq_trans p q =
      let u : le x z ≡ true = le_trans (le_of_eq x y f g p) (le_of_eq y z g h q) in
      le_antisym x z f h u (through_back (eq_sym x y f g p) (eq_sym y z g h q))
    where
      through_back : eq y x ≡ true → eq z y ≡ true → le z x ≡ true
      through_back a b = →le z x h f (through_le (over z) (under z) (den z) (over y) (under y) (den y) (over x) (under x) (den x) (den_pos y) (le→ z y h g (le_of_eq z y h g b)) (le→ y x g f (le_of_eq y x g f a)))

  -- `==` goes with `<` on either side
  pub lt_of_eq_of_lt : eq x y ≡ true → lt y z ≡ true → lt x z ≡ true
  lt_of_eq_of_lt p q = lt_of_le_of_lt (le_of_eq x y f g p) q

  pub lt_of_lt_of_eq : lt x y ≡ true → eq y z ≡ true → lt x z ≡ true
  lt_of_lt_of_eq p q = lt_of_lt_of_le p (le_of_eq y z g h q)
