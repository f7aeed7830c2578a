-- The cell of a number on a uniform axis. Assumes nothing.
use Rattle.std.proofs.Common.{◌≡◌, ℕ, ◌-◌, min, true, false, pos, refl}
use lib.Ieee.{Float, nan, inf, fin, lt, to_unsigned}
use Rattle.answer.specs.Answer.{plus_zero}
use Rattle.answer.proofs.Orders.{clash}
use Rattle.binary64.proofs.Order.{lt_of_lt_of_le, le_of_not_lt}
use Rattle.axis.specs.Uniform.{uniform_cell}

-- 2^64
abbrev pub wide : Float
wide = fin false 1 (pos 64)

pub above_minus_one : (t : Float) → lt t plus_zero ≡ false → lt t wide ≡ true → lt (fin true 1 (pos 0)) t ≡ true
unfolding lt
above_minus_one nan h k = clash false k refl
above_minus_one (inf true) h k = clash true refl h
above_minus_one (inf false) h k = clash false k refl
above_minus_one (fin s m e) h k = lt_of_lt_of_le (fin true 1 (pos 0)) plus_zero (fin s m e) refl refl refl refl (le_of_not_lt (fin s m e) plus_zero refl refl h)

pub cell_near : (n : ℕ) (t : Float) → lt t plus_zero ≡ false → lt t wide ≡ true → (w : ℕ) → w ≡ to_unsigned 64 t → uniform_cell n t ≡ min w (n - 2)
unfolding uniform_cell
cell_near n t h k w e = simp (h, k, e)
