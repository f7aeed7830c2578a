use Rattle.program.specs.Scaffolding.{Loads}
use Rattle.program.proofs.front.Loads.{front_line}
use Rattle.program.proofs.refused.refuse_in.Goals as goal

pub put_line-requires : goal.put_line-requires
put_line-requires g c =
    let loads : Loads c.args.img.now c.load-loaded.new.nodes c.load-loaded.new.values c.load-loaded.result = (c.load-loaded.ensures.loads c.requires.0 c.requires.1.0) in
    (c.requires.1.1, front_line loads c.if-answer-eq0.false)
