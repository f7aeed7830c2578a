use Rattle.std.proofs.Common.{rules, ◌≡◌, length}
use Rattle.program.proofs.front.Loads.{image_refused}
use Rattle.program.proofs.whole.take_image.Goals as goal

pub returns-then-answer-ne0 : goal.returns-then-answer-ne0
returns-then-answer-ne0 g c =
    let n : length c.args.nodes.now ≡ 256 = search rules in
    let v : length c.args.values.now ≡ 4096 = search rules in
    c.refuse.ensures c.requires (image_refused (c.load-loaded.ensures.loads n v) c.requires c.if-answer-ne0.true) _ _
