-- Laws of where a slice's loop begins that goes value by value: `next_j` and `next_place` go on from here. They hold as they did; no proof stands
-- on them.
use mathlib.Core.Path.{◌≡◌, sym, ap₂, ◌∙◌}
use Prim.Native.Nat.{ℕ, ◌+◌, ◌*◌, ◌%◌}
use native.Mathlib.Nat.{zero-mul, zero-div, zero-mod}
use native.Mathlib.Omega.{arith}
use Rattle.slices.specs.Scaffolding.{run_place}

pub first_j : (inner : ℕ) → 0 ≡ 0 % inner
first_j inner = sym (zero-mod inner)

pub first-place : (inner n i : ℕ) → i * inner ≡ run_place n inner i 0
first-place inner n i = sym (ap₂ (λ (q r : ℕ). (q * n + i) * inner + r) (zero-div inner) (zero-mod inner) ∙ omega (arith, zero-mul n))
