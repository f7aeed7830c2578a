-- Each float of a list is a number that binary64 holds: what a slice of f64 has, and nothing else.
use mathlib.Core.List.{List, [], ◌∷◌}
use Prim.Native.Nat.{ℕ, zero, suc}
use lib.Dec.{T}
use lib.ListN.{get_or, take, drop}
use lib.Ieee.{Float, nan, binary64, fits}
use lib.Ieee.Fits.{nan-fits}

abbrev pub Held : List Float → Type 0
Held xs = (i : ℕ) → T (fits binary64 (get_or xs i nan))

-- so it is of any part of such a list
pub held_none : Held []
held_none i = nan-fits binary64

pub held-take : (n : ℕ) (xs : List Float) → Held xs → Held (take n xs)
held-take zero xs h i = nan-fits binary64
held-take (suc n) [] h i = nan-fits binary64
held-take (suc n) (x ∷ xs) h zero = h 0
held-take (suc n) (x ∷ xs) h (suc i) = held-take n xs (λ j. h (suc j)) i

pub held-drop : (n : ℕ) (xs : List Float) → Held xs → Held (drop n xs)
held-drop zero xs h = h
held-drop (suc n) [] h = h
held-drop (suc n) (x ∷ xs) h = held-drop n xs (λ j. h (suc j))
