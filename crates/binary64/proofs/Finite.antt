-- Which numbers are finite; a sum or a product only where both of its parts are. Assumes nothing.
use mathlib.Core.Path.{◌≡◌, refl, sym, ◌∙◌, subst}
use mathlib.Core.Bool.{Bool, true, false, cond, beq}
use lib.Dec.{T, eqb}
use lib.Ieee.{Float, nan, inf, fin, binary64, add, mul, unlike}
use lib.Ieee.Scale.{finite}
use Rattle.std.specs.Float.{float_is_finite}

-- the test of the library, and its word for what is finite
pub test_is : (x : Float) → float_is_finite x ≡ finite x
unfolding float_is_finite
test_is nan = refl
test_is (inf s) = refl
test_is (fin s m e) = refl

no : {A : Type 0} → false ≡ true → A
no e = absurd (subst T (sym e) tt)

-- whichever of two that are not finite
either_wild : {A : Type 0} (b : Bool) (x y : Float) → finite x ≡ false → finite y ≡ false → finite (cond b x y) ≡ true → A
either_wild true x y p q h = no (sym p ∙ h)
either_wild false x y p q h = no (sym q ∙ h)

pub add_finite : (x y : Float) → finite (add binary64 x y) ≡ true → (finite x ≡ true) × (finite y ≡ true)
unfolding add
add_finite nan y h = no h
add_finite (inf s) nan h = no h
add_finite (inf s) (inf t) h = either_wild (beq s t) (inf s) nan refl refl h
add_finite (inf s) (fin t n d) h = no h
add_finite (fin s m e) nan h = no h
add_finite (fin s m e) (inf t) h = no h
add_finite (fin s m e) (fin t n d) h = (refl, refl)

pub mul_finite : (x y : Float) → finite (mul binary64 x y) ≡ true → (finite x ≡ true) × (finite y ≡ true)
unfolding mul
mul_finite nan y h = no h
mul_finite (inf s) nan h = no h
mul_finite (inf s) (inf t) h = no h
mul_finite (inf s) (fin t n d) h = either_wild (eqb n 0) nan (inf (unlike s t)) refl refl h
mul_finite (fin s m e) nan h = no h
mul_finite (fin s m e) (inf t) h = either_wild (eqb m 0) nan (inf (unlike s t)) refl refl h
mul_finite (fin s m e) (fin t n d) h = (refl, refl)
