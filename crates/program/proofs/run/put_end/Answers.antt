use mathlib.Core.Path.{sym}
use Prim.Native.Nat.{◌≤◌}
use native.Mathlib.Omega.{arith}
use lib.ListN.{length}
use lib.Seq.{length-take-le}
use Rattle.lines.specs.Scaffolding.{Wrote}
use Rattle.program.specs.Scaffolding.{end_of}
use Rattle.program.proofs.run.Places.{placed, end_fits, end_wrote}
use Rattle.program.proofs.run.put_end.Goals as goal

pub slice_bounds-put_all-end : goal.slice_bounds-put_all-end
slice_bounds-put_all-end c =
    let said : Wrote c.args.chunk.now 0 (end_of c.args.rest c.args.left) c.finish-n.new.out c.finish-n.result = (end_wrote c.args.rest c.args.left c.requires c.finish-n.ensures.0 c.finish-n.ensures.1) in
    let fits : c.finish-n.result ≤ length c.finish-n.new.out = (omega (arith, said.next, end_fits c.args.rest c.args.left, c.finish-n.auto.out, c.requires)) in
    fits

pub slice_bounds-put_all-end-2 : goal.slice_bounds-put_all-end-2
slice_bounds-put_all-end-2 c =
    let said : Wrote c.args.chunk.now 0 (end_of c.args.rest c.args.left) c.finish-n.new.out c.finish-n.result = (end_wrote c.args.rest c.args.left c.requires c.finish-n.ensures.0 c.finish-n.ensures.1) in
    let fits : c.finish-n.result ≤ length c.finish-n.new.out = (omega (arith, said.next, end_fits c.args.rest c.args.left, c.finish-n.auto.out, c.requires)) in
    sym (length-take-le _ _ fits)

pub returns : goal.returns
returns c =
    let said : Wrote c.args.chunk.now 0 (end_of c.args.rest c.args.left) c.finish-n.new.out c.finish-n.result = (end_wrote c.args.rest c.args.left c.requires c.finish-n.ensures.0 c.finish-n.ensures.1) in
    record { placed = placed said c.put_all.ensures; upper_bound = omega (arith, said.next, end_fits c.args.rest c.args.left) }
