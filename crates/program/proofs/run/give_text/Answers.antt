use mathlib.Core.Path.{◌≡◌, ap}
use mathlib.Core.List.{◌++◌}
use lib.ListN.{length}
use Rattle.program.proofs.run.Gives.{nothing_put, give_refused, give_made}
use Rattle.program.proofs.run.give_text.Goals as goal

pub returns-then-done-ne0 : goal.returns-then-done-ne0
returns-then-done-ne0 c =
    let untouched : c.put_text-need.new.out ++ c.args.out.now ≡ c.args.out.now = (nothing_put c.put_text-need.new.out c.args.out.now c.put_text-need.auto.out) in
    give_refused _ _ c.put_text-need.ensures.long (ap length untouched) c.room_answer-done.ensures c.if-done-ne0.true untouched

pub returns : goal.returns
returns c =
    let untouched : c.put_text-need.new.out ++ c.args.out.now ≡ c.args.out.now = (nothing_put c.put_text-need.new.out c.args.out.now c.put_text-need.auto.out) in
    give_made _ _ c.put_text-need.ensures.long (ap length untouched) c.room_answer-done.ensures c.if-done-ne0.false untouched c.put_text.ensures
