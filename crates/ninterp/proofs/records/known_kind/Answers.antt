use Rattle.std.proofs.Common.{◌≡◌, rules}
use Rattle.ninterp.specs.declared.records.kind.Kind.TheVariants.{LinearUniform}
use Rattle.ninterp.proofs.KindBytes.{table_stops, kind_stops, uniform_stops, uniform_passes, others_pass}
use Rattle.ninterp.proofs.records.known_kind.Goals as goal

pub returns-in_err-table-clause-fault : goal.returns-in_err-table-clause-fault
returns-in_err-table-clause-fault c = table_stops _ _ _ _ c.in_err-table.was _ c.from_residual.ensures

pub returns-in_err-kind-clause-fault : goal.returns-in_err-kind-clause-fault
returns-in_err-kind-clause-fault c = kind_stops _ _ _ _ c.in_ok-table.was _ c.in_err-kind.ensures _ c.from_residual-in_err-kind.ensures

pub returns-in_err-uniform-clause-fault : goal.returns-in_err-uniform-clause-fault
returns-in_err-uniform-clause-fault c =
    let one : c.in_ok-kind.kind ≡ LinearUniform = search rules in
    uniform_stops _ _ _ _ c.in_ok-table.was _ c.in_ok-kind.ensures one _ c.in_err-uniform.was _ c.from_residual-in_err-uniform.ensures

pub returns-in_ok-uniform-clause-fault : goal.returns-in_ok-uniform-clause-fault
returns-in_ok-uniform-clause-fault c =
    let one : c.in_ok-kind.kind ≡ LinearUniform = search rules in
    uniform_passes _ _ _ _ c.in_ok-table.was _ c.in_ok-kind.ensures one _ c.in_ok-uniform.was

pub returns-else-eq-clause-fault : goal.returns-else-eq-clause-fault
returns-else-eq-clause-fault c =
    let other : c.in_ok-kind.kind ≡ LinearUniform → ⊥ = search rules in
    others_pass _ _ _ _ c.in_ok-table.was _ c.in_ok-kind.ensures other
