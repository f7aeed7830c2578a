-- Laws of a uniform axis, each way through tests that the code no longer makes. They hold as they did; no proof stands on them.
use mathlib.Core.Path.{◌≡◌, refl}
use mathlib.Core.Bool.{Bool, true, false, cond}
use Prim.Native.Nat.{ℕ, ◌-◌, ◌<◌, min}
use native.Mathlib.Omega.{arith}
use lib.Ieee.{Float, lt, to_unsigned}
use Rattle.answer.specs.Answer.{plus_zero}
use Rattle.axis.specs.Uniform.{uniform_cell}
use Rattle.axis.proofs.uniform.Wholes.{wide}

module _ (n : ℕ) (t : Float) where
  -- fewer than two nodes have no cell
  pub cell_none : n < 2 → 0 ≡ uniform_cell n t
  unfolding uniform_cell
  cell_none h = go (lt t plus_zero) (lt t wide)
    where
      go : (b c : Bool) → 0 ≡ cond b 0 (cond c (min (to_unsigned 64 t) (n - 2)) 0)
      go true c = refl
      go false true = omega arith
      go false false = refl

  pub cell_below : lt t plus_zero ≡ true → 0 ≡ uniform_cell n t
  unfolding uniform_cell
  cell_below h = simp h

  module _ (h : lt t plus_zero ≡ false) where
    pub cell_far : lt t wide ≡ false → 0 ≡ uniform_cell n t
    unfolding uniform_cell
    cell_far k = simp (h, k)
