use mathlib.Core.Path.{◌≡◌, sym, ◌∙◌}
use mathlib.Core.Bool.{true}
use Prim.Native.Nat.{ℕ, ◌+◌, ◌<◌}
use mir.Syntax.{w32}
use mir.Val.{Fits}
use borrow.Author.Rules.{rules}
use Rattle.answer.specs.Faults.{good}
use Rattle.checks.specs.Numbers.{limit_fault}
use Rattle.checks.proofs.lent.Rows.{limit_passed}
use Rattle.tally.proofs.Steps.{reached, ahead, accepted, refused-one, counts-on, counts_no_more}
use Rattle.tally.proofs.count_here.Goals as goal

-- a record that was read ahead of the limit is one more
one_more : (read : ℕ) → good (limit_fault read) ≡ true → Fits w32 (read + 1)
one_more read h = let l : read < 1000000 = limit_passed read h in search rules

pub returns-then-is_err : goal.returns-then-is_err
returns-then-is_err c =
    counts_no_more _ _ (reached _ _ c.limit_fault.ensures (sym c.is_err.ensures.value ∙ c.if-is_err.true))

pub overflow_add-result : goal.overflow_add-result
overflow_add-result c = one_more _ (ahead _ _ c.limit_fault.ensures (sym c.is_err.ensures.value ∙ c.if-is_err.false))

pub returns-then-o-eq0 : goal.returns-then-o-eq0
returns-then-o-eq0 c =
    counts-on _ _ (ahead _ _ c.limit_fault.ensures (sym c.is_err.ensures.value ∙ c.if-is_err.false)) _
    (accepted _ _ _ c.if-o-eq0.true c.count_cells.ensures)

pub overflow_add-result-2 : goal.overflow_add-result-2
overflow_add-result-2 c = one_more _ (ahead _ _ c.limit_fault.ensures (sym c.is_err.ensures.value ∙ c.if-is_err.false))

pub returns : goal.returns
returns c =
    counts-on _ _ (ahead _ _ c.limit_fault.ensures (sym c.is_err.ensures.value ∙ c.if-is_err.false)) _
    (refused-one _ _ _ c.if-o-eq0.false c.count_number.ensures)
