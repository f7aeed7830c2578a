use Rattle.std.proofs.Common.{sym, arith}
use Rattle.ninterp.proofs.KindBytes.{known, unknown}
use Rattle.ninterp.proofs.records.kind.KindTryFromU8.try_from.Goals as goal

pub returns-in-0 : goal.returns-in-0
returns-in-0 c = known _ _ (sym c.in-0.is)

pub returns-in-1 : goal.returns-in-1
returns-in-1 c = known _ _ (sym c.in-1.is)

pub returns-in-2 : goal.returns-in-2
returns-in-2 c = known _ _ (sym c.in-2.is)

pub returns-in-3 : goal.returns-in-3
returns-in-3 c = known _ _ (sym c.in-3.is)

pub returns-in-4 : goal.returns-in-4
returns-in-4 c = known _ _ (sym c.in-4.is)

pub returns-in_default : goal.returns-in_default
returns-in_default c = unknown _ _ (omega arith) c.at.ensures
