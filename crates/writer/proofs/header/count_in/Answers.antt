use mathlib.Core.Path.{◌≡◌}
use native.Mathlib.Omega.{arith}
use lib.ListN.{get_or}
use Rattle.std.proofs.Common.{rules}
use Rattle.layout.specs.Shape.{counts_of}
use Rattle.writer.specs.Made.{count_in}
use Rattle.writer.proofs.Headers.{count_in_few}
use Rattle.writer.proofs.header.count_in.Goals as goal

pub returns : goal.returns
unfolding count_in
returns c =
    let same : c.unwrap_or.result ≡ get_or (counts_of c.args.shape) c.args.axis 0 = search rules in
    record { is = same; few = omega (arith, same, count_in_few c.args.shape c.requires c.args.axis) }
