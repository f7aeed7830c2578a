-- "The axis rules (utils.rs)", of uniform axes: the index.
use Rattle.std.specs.Prelude.{ℕ, ◌-◌, min, false, cond, pos, Float}
use Rattle.std.specs.Float.{fin, binary64}
use Rattle.std.specs.Float.Ieee.{lt, sub, div, to_unsigned}
use Rattle.answer.specs.Answer.{plus_zero}

-- "If t is below 0, the index is 0. Otherwise it is the whole part of t, at most n-2; but where t is infinite or 2^64 and more .. the index is 0":
-- `to_unsigned 64` cuts what lies from 0 up to 2^64 to its whole part
unfoldable pub uniform_cell : ℕ → Float → ℕ
uniform_cell n t = cond (lt t plus_zero) 0 (cond (lt t (fin false 1 (pos 64))) (min (to_unsigned 64 t) (n - 2)) 0)

-- "t = (p - first node) / step"
unfoldable pub uniform_index : Float → Float → ℕ → Float → ℕ
uniform_index first step n p = uniform_cell n (div binary64 (sub binary64 p first) step)
