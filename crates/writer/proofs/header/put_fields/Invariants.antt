use lib.Seq.{sets}
use Rattle.writer.specs.Made.{field_bytes}
use Rattle.writer.specs.Scaffolding.{widths}
use mathlib.Core.Path.{◌≡◌}
use mathlib.Core.List.{List}
use Prim.Native.Nat.{ℕ, ◌+◌}
use lib.ListN.{length, drop}
use Rattle.writer.proofs.header.put_fields.Given as goal

-- k fields are put, and the next one goes to `at`: the fields that are left, put there, are all of them
pub record Going (fields : List (ℕ × ℕ)) (out₀ out : List ℕ) (at k : ℕ) : Type 0 where
  pub long : length out ≡ length out₀
  pub far : at + widths (drop k fields) ≡ widths fields
  pub rest : sets out at (field_bytes (drop k fields)) ≡ sets out₀ 0 (field_bytes fields)

abbrev pub invariant-loop-width : goal.invariant-loop-width
invariant-loop-width l = Going l.fields l.initial.out l.out l.at l.width-index
