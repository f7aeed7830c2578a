use Rattle.std.proofs.Common.{Option, Some, None}
use mathlib.Core.Path.{sym, ap}
use mathlib.Core.Bool.{Bool, cond}
use borrow.Author.Tests.{eq-eqb, ne_eqb}
use lib.Ieee.{Float}
use Rattle.board.specs.Plain.{tolerance_by}
use Rattle.board.proofs.plain.tolerance_by.Goals as goal

abbrev default_or : Float → Bool → Option Float
default_or tolerance t = cond t None (Some tolerance)

pub returns-then-lent-eq0 : goal.returns-then-lent-eq0
unfolding tolerance_by
returns-then-lent-eq0 c = sym (ap (default_or c.args.tolerance) (eq-eqb c.args.lent 0 c.if-lent-eq0.true))

pub returns-else-lent-eq0 : goal.returns-else-lent-eq0
unfolding tolerance_by
returns-else-lent-eq0 c = sym (ap (default_or c.args.tolerance) (ne_eqb c.args.lent 0 c.if-lent-eq0.false))
