use mathlib.Core.Path.{sym, ◌∙◌}
use lib.ListN.{get_or}
use lib.Ieee.{nan}
use Prim.Native.Nat.{ℕ}
use Rattle.checks.proofs.values.Rows.{all_eight}
use Rattle.checks.proofs.values.eight_finite.Goals as goal

pub returns : goal.returns
returns c =
    λ h. all_eight (λ (i : ℕ). get_or c.args.values.now i nan) _ c.args.at (sym c.is_finite.ensures ∙ h)
