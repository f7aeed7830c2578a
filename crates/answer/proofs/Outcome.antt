-- A contract that is one equation allows one outcome.
use mathlib.Core.Path.{◌≡◌, sym, ◌∙◌}

pub one_outcome : {A : Type 0} (x y s : A) → x ≡ s → y ≡ s → x ≡ y
one_outcome x y s p q = p ∙ sym q
