use lib.Seq.{sets}
use Rattle.writer.specs.Made.{float_bytes}
use mathlib.Core.Path.{◌≡◌}
use Prim.Native.Nat.{◌+◌, ◌*◌}
use lib.ListN.{length, drop}
use Rattle.writer.proofs.put.put_floats.Given as goal

-- the floats that are left, put after what is there, are all of them
abbrev pub invariant-loop-i : goal.invariant-loop-i
invariant-loop-i l = (length l.out ≡ length l.initial.out) × (sets l.out (l.at + 8 * l.i) (float_bytes (drop l.i l.floats)) ≡ sets l.initial.out l.at (float_bytes l.floats))
