use mathlib.Core.Path.{sym, ap}
use mathlib.Core.Bool.{Bool, ◌&&◌}
use lib.Dec.{ltb}
use Rattle.coverage.proofs.feed.goes_on.Goals as goal

pub returns-then-full : goal.returns-then-full
returns-then-full c = let a = c.args in sym (ap (λ (b : Bool). b && ltb a.rest a.size) c.if-full.true)
