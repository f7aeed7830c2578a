use lib.ListN.{length-drop}
use lib.Seq.{length-take-le}
use Rattle.lines.proofs.Feeds.{filled}
use mathlib.Core.Path.{◌≡◌}
use Prim.Native.Nat.{◌-◌}
use native.Mathlib.Omega.{arith}
use lib.ListN.{length, take, drop}
use Rattle.program.proofs.stdin.read_rest.Goals as goal

pub returns : goal.returns
returns g c =
    let part : length (take (c.args.size - 40) (drop 40 c.args.img.now)) ≡ c.args.size - 40 = length-take-le (c.args.size - 40) (drop 40 c.args.img.now) (omega (arith, length-drop 40 c.args.img.now, c.requires.1)) in
    (filled c.args.img.now c.read_full-more.new.buf _ 40 c.read_full-more.result (omega (arith, c.requires)) c.read_full-more.ensures, omega (arith, c.read_full-more.ensures, c.read_full-more.auto.buf, part, c.requires.0))
