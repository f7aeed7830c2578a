use Rattle.std.proofs.Common.{◌≡◌, ℕ, ◌+◌, ◌*◌, ◌<◌, get_or}
use Rattle.answer.specs.Answer.{plus_zero}
use Rattle.little_endian.specs.Words.{float_at}
use Rattle.image.proofs.contents.read_floats.Given as goal

abbrev pub invariant-loop-i : goal.invariant-loop-i
invariant-loop-i l = (k : ℕ) → k < l.i → get_or l.out k plus_zero ≡ float_at l.img (l.at + 8 * k)
