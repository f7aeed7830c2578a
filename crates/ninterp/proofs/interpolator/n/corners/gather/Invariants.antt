use Rattle.std.proofs.Common.{◌≡◌, ℕ, ◌+◌, ◌<◌, length, get_or}
use lib.Ieee.{nan}
use Rattle.ninterp.proofs.interpolator.n.corners.gather.Given as goal

abbrev pub invariant-loop-i : goal.invariant-loop-i
invariant-loop-i l = (length l.vals ≡ 16) × ((k : ℕ) → k < l.i → (get_or l.vals k nan ≡ get_or l.values (get_or l.places k 0 + l.low) nan) × (get_or l.vals (k + length l.places) nan ≡ get_or l.values (get_or l.places k 0 + l.high) nan))
