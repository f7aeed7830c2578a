use Rattle.std.proofs.Common.{◌≡◌, length, rules, ◌∙◌}
use Rattle.ninterp.proofs.CountEnds.{rest_none, rest_some}
use Rattle.ninterp.proofs.records.count.counted_rest.Goals as goal

pub returns-then-is_empty : goal.returns-then-is_empty
returns-then-is_empty c =
    let a = c.args in
    let none : length a.rest.now ≡ 0 = search rules in
    rest_none a.t a.shape a.nodes.now a.values.now a.rest.now none _ c.pass-answer.ensures

pub returns : goal.returns
returns c =
    let a = c.args in
    let some : length a.rest.now ≡ 0 → ⊥ = search rules in
    c.counted_record.ensures ∙ rest_some a.t a.shape a.nodes.now a.values.now a.rest.now some
