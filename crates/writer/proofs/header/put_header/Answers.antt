use lib.Seq.{sets}
use Rattle.writer.specs.Made.{field_bytes}
use mathlib.Core.Path.{ap, ◌∙◌}
use mathlib.Core.List.{List}
use Prim.Native.Nat.{ℕ}
use Rattle.writer.proofs.header.put_header.Goals as goal

pub returns : goal.returns
returns c = c.put_fields.ensures ∙ ap (λ (fs : List (ℕ × ℕ)). sets c.args.out.now 0 (field_bytes fs)) c.header_fields-fields.ensures
