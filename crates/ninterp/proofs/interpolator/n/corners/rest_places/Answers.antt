use Rattle.std.proofs.Common.{◌∙◌, arith}
use Rattle.ninterp.proofs.Corners.{upper_fits, low_fits, high_fits, stride_fits, rest_spreadable, turn_begin, turn_again, turn_last}
use Rattle.ninterp.proofs.interpolator.n.corners.rest_places.Goals as goal

pub loop-d-init : goal.loop-d-init
loop-d-init c = turn_begin c.requires.placeable c.requires.blank.zero_first

pub overflow_mul-rest : goal.overflow_mul-rest
overflow_mul-rest c = omega (arith, low_fits c.requires.placeable (c.loop-d.invariant.resting (omega (arith, c.loop-d-test.true))) _ c.lower_node.ensures)

pub upper_node-requires : goal.upper_node-requires
upper_node-requires c = upper_fits c.requires.placeable (c.loop-d.invariant.resting (omega (arith, c.loop-d-test.true)))

pub spread-requires : goal.spread-requires
spread-requires c =
    rest_spreadable c.requires.placeable (c.loop-d.invariant.resting (omega (arith, c.loop-d-test.true))) _ _ c.lower_node.ensures c.upper_node.ensures (c.loop-d.auto.places ∙ c.requires.blank.sixteen)

pub overflow_mul-stride : goal.overflow_mul-stride
overflow_mul-stride c = omega (arith, stride_fits c.requires.placeable (c.loop-d.invariant.resting (omega (arith, c.loop-d-test.true))))

pub overflow_mul-rest-in-loop-d : goal.overflow_mul-rest-in-loop-d
overflow_mul-rest-in-loop-d c = omega (arith, high_fits c.requires.placeable (c.loop-d.invariant.resting (omega (arith, c.loop-d-test.true))) _ c.upper_node.ensures)

pub loop-d-preserved-then-d-gt0 : goal.loop-d-preserved-then-d-gt0
loop-d-preserved-then-d-gt0 c =
    turn_again c.requires.placeable (c.loop-d.invariant.resting (omega (arith, c.loop-d-test.true))) _ _ c.lower_node.ensures c.upper_node.ensures c.if-d-gt0.true _ _ c.spread.ensures c.grow.ensures

pub loop-d-preserved : goal.loop-d-preserved
loop-d-preserved c =
    turn_last c.requires.placeable (c.loop-d.invariant.resting (omega (arith, c.loop-d-test.true))) _ _ c.lower_node.ensures c.upper_node.ensures c.if-d-gt0.false

pub returns : goal.returns
returns c = c.loop-d.invariant.placed (omega (arith, c.loop-d-test.false))
