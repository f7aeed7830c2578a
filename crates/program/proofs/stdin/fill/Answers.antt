use Rattle.lines.proofs.Feeds.{filled}
use Rattle.program.proofs.stdin.fill.Goals as goal

pub returns : goal.returns
returns g c = λ h. filled c.args.buf.now c.read_full-got.new.buf _ c.args.held c.read_full-got.result h c.read_full-got.ensures
