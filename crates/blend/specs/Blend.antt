-- "The table rules", of the two that compute: over where a reading lies on each axis, and a table as a function of the index list.
use Rattle.std.specs.Prelude.{false, List, [], ◌∷◌, ℕ, ◌+◌, pos, Float}
use Rattle.std.specs.Float.{fin, binary64}
use Rattle.std.specs.Float.Ieee.{add, sub, mul}
use Rattle.answer.specs.Answer.{answered, ◌then◌}
use Rattle.answer.specs.declared.Answer.{Answer}
use Rattle.checks.specs.Numbers.{result_fault}
use Rattle.rust.specs.declared.AxisLocation.{AxisLocation}
use Rattle.rust.specs.declared.AxisLocation.TheVariants.{Exact, Between}

-- 1.0
abbrev pub one : Float
one = fin false 1 (pos 0)

-- "a * (1 - f) + b * f, four rounded operations"
unfoldable pub blended : Float → Float → Float → Float
blended a b f = add binary64 (mul binary64 a (sub binary64 one f)) (mul binary64 b f)

-- "what the same rule gives along that axis alone": an exact axis "is fixed at its node", another "is blended"
abbrev pub sliced : AxisLocation → (List ℕ → Float) → List ℕ → Float
sliced (Exact node) g is = g (node ∷ is)
sliced (Between lower frac) g is = blended (g (lower ∷ is)) (g ((lower + 1) ∷ is)) frac

-- "in axis order, axis 0 first"; that fixing the exact axes before is the same is `rust_linear_lem` (blend/proofs/Bits.antt)
abbrev pub linear : List AxisLocation → (List ℕ → Float) → Float
linear [] g = g []
linear (p ∷ ps) g = linear ps (sliced p g)

-- 12: "computed result not finite"
unfoldable pub computed : Float → Answer
computed x = result_fault 0 x then answered x
