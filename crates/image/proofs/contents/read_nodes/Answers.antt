use Rattle.std.proofs.Common.{◌≤◌, ◌+◌, ◌∙◌, ap, arith, length, length-take, length-drop}
use Prim.Native.Nat.{ℕ}
use Rattle.image.specs.Image.{floats_at, nodes_in}
use Rattle.image.proofs.Floats.{axes_four, read_none, read_room, read_more, read_all}
use Rattle.image.proofs.contents.read_nodes.Goals as goal

pub loop-a-init : goal.loop-a-init
loop-a-init c = read_none _ _ c.requires.judged c.requires.nodes_room

pub count_of-requires : goal.count_of-requires
count_of-requires c = omega (arith, axes_four _ c.requires.judged)

pub offset_of-requires : goal.offset_of-requires
offset_of-requires c = omega (arith, axes_four _ c.requires.judged)

pub slice_bounds-read_floats-end : goal.slice_bounds-read_floats-end
slice_bounds-read_floats-end c =
    let room : c.loop-a.to + c.count_of.result ≤ length c.loop-a.out = omega (arith, read_room _ _ _ _ _ c.loop-a.invariant) in
    room

pub loop-a-preserved : goal.loop-a-preserved
loop-a-preserved c =
    let room : c.loop-a.to + c.count_of.result ≤ length c.loop-a.out = omega (arith, read_room _ _ _ _ _ c.loop-a.invariant) in
    read_more _ _ _ _ _ c.loop-a.invariant (omega arith) _ _ c.count_of.ensures.is (omega arith) _
    (c.read_floats.ensures ∙ ap (floats_at c.args.img.now _) (simp (length-take, length-drop) (omega arith)) ∙ ap (λ (at : ℕ). floats_at c.args.img.now at c.count_of.result) c.offset_of.ensures.is)

pub returns : goal.returns
unfolding nodes_in
returns c = read_all _ _ _ _ _ c.loop-a.invariant (omega arith)
