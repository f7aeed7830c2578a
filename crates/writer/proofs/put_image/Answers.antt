use Rattle.writer.specs.Made.{image_length, values_at}
use Rattle.writer.proofs.Images.{parts-put}
use Prim.Native.Nat.{◌+◌, ◌*◌, ◌≤◌}
use native.Mathlib.Omega.{arith}
use lib.ListN.{length}
use Rattle.writer.proofs.put_image.Goals as goal

pub put_header-requires : goal.put_header-requires
unfolding image_length values_at
put_header-requires c =
    let room : 40 + 8 * length c.args.nodes.now + 8 * length c.args.values.now ≤ length c.args.img.now = (omega (arith, c.requires.framed.nodes_long, c.requires.framed.values_long, c.requires.room_enough)) in
    record { judged = c.requires.framed.judged; enough = omega (arith, room) }

pub put_floats-requires : goal.put_floats-requires
unfolding image_length values_at
put_floats-requires c =
    let room : 40 + 8 * length c.args.nodes.now + 8 * length c.args.values.now ≤ length c.args.img.now = (omega (arith, c.requires.framed.nodes_long, c.requires.framed.values_long, c.requires.room_enough)) in
    omega (arith, room, c.put_header.auto.out)

pub put_floats-requires-2 : goal.put_floats-requires-2
unfolding image_length values_at
put_floats-requires-2 c =
    let room : 40 + 8 * length c.args.nodes.now + 8 * length c.args.values.now ≤ length c.args.img.now = (omega (arith, c.requires.framed.nodes_long, c.requires.framed.values_long, c.requires.room_enough)) in
    omega (arith, room, c.put_header.auto.out, c.put_floats.auto.out)

pub returns : goal.returns
returns c =
    parts-put _ _ _ _ _ _ _ c.put_header.ensures c.put_floats.ensures c.put_floats-2.ensures
