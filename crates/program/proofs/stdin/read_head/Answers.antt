use native.Mathlib.Omega.{arith}
use lib.ListN.{drop, length-take, length-append}
use Rattle.program.proofs.stdin.read_head.Goals as goal

pub returns : goal.returns
returns g c =
    let n = length-take 40 c.args.img.now in
    (omega (arith, c.read_full.ensures, c.read_full.auto.buf, n), omega (arith, c.read_full.ensures, length-append c.read_full.new.buf (drop 40 c.args.img.now)))
