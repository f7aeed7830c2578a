-- What a test that is joined of two says of each, what holds of either side of one, and numbers that are tested.
use mathlib.Core.Path.{◌≡◌, refl, sym}
use mathlib.Core.Bool.{Bool, true, false, not, ◌&&◌, ◌||◌, cond}
use Prim.Native.Nat.{ℕ, ◌≤◌, ◌<◌}
use borrow.Author.Tests.{ltb-true, ltb-false, eqb-true, eqb-false}
use lib.Dec.{eqb, ltb}
use Rattle.answer.proofs.Orders.{clash}

pub and_false : (p q : Bool) → q ≡ false → p && q ≡ false
and_false true q e = e
and_false false q e = refl

pub and_left : (p q : Bool) → p && q ≡ true → p ≡ true
and_left true q e = refl
and_left false q e = e

pub and_right : (p q : Bool) → p && q ≡ true → q ≡ true
and_right true q e = e
and_right false q e = clash false e refl

pub or_right : (p q : Bool) → q ≡ true → p || q ≡ true
or_right true q e = refl
or_right false q e = e

pub not_false : (b : Bool) → not b ≡ false → b ≡ true
not_false true e = refl
not_false false e = sym e

pub neither_left : (p q : Bool) → p || q ≡ false → p ≡ false
neither_left true q e = e
neither_left false q e = refl

pub neither_right : (p q : Bool) → p || q ≡ false → q ≡ false
neither_right true q e = clash true refl e
neither_right false q e = e

-- what holds of both sides holds whichever is taken
pub either : {A : Type 0} (P : A → Type 0) (b : Bool) (x y : A) → P x → P y → P (cond b x y)
either P true x y p q = p
either P false x y p q = q

-- what holds where a number is below another and where it is not, and the same of equal ones
pub by_lt : {P : Type 0} (a b : ℕ) → (a < b → P) → (b ≤ a → P) → P
by_lt {P} a b y n = go (ltb a b) (ltb-true a b) (ltb-false a b)
  where
    go : (t : Bool) → (t ≡ true → a < b) → (t ≡ false → b ≤ a) → P
    go true p q = y (p refl)
    go false p q = n (q refl)

pub by_eq : {P : Type 0} (a b : ℕ) → (a ≡ b → P) → ((a ≡ b → ⊥) → P) → P
by_eq {P} a b y n = go (eqb a b) (eqb-true a b) (eqb-false a b)
  where
    go : (t : Bool) → (t ≡ true → a ≡ b) → (t ≡ false → a ≡ b → ⊥) → P
    go true p q = y (p refl)
    go false p q = n (q refl)
