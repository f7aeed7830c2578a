use mathlib.Core.Path.{refl}
use native.Mathlib.Omega.{arith}
use Rattle.lines.proofs.Feeds.{filled_count}
use Rattle.coverage.proofs.feed.Steps.{done_of, step_used, stepped}
use Rattle.coverage.proofs.feed.step.Goals as goal

pub overflow_sub-read : goal.overflow_sub-read
overflow_sub-read g c = let h = c.requires.holds in omega (arith, filled_count h (c.fill-have.ensures h))

pub overflow_sub-rest : goal.overflow_sub-rest
overflow_sub-rest g c = step_used (done_of c.requires c.fill-have.ensures c.fill-have.auto.buf c.count_block-done.ensures)

pub returns : goal.returns
returns g c = stepped (done_of c.requires c.fill-have.ensures c.fill-have.auto.buf c.count_block-done.ensures) _ c.shift.ensures c.shift.auto.buf _ _ c.goes_on.ensures refl refl
