use mathlib.Core.Path.{sym}
use lib.Seq.{length-take-le}
use Rattle.program.proofs.input.Ends.{size_within, head_read, image_read}
use native.Mathlib.Omega.{arith}
use Rattle.program.proofs.stdin.read_image.Goals as goal

pub returns-then-got-lt-HEADER : goal.returns-then-got-lt-HEADER
returns-then-got-lt-HEADER g c =
    (c.read_head-got.ensures.1, head_read _ _ c.read_head-got.ensures.0)

pub read_rest-requires : goal.read_rest-requires
read_rest-requires g c =
    let w = size_within _ _ c.image_size-size.ensures in
    (omega (arith, w.0), omega (arith, w.1, c.read_head-got.auto.img, c.if-img-lt-MOST_BYTES.false))

pub returns : goal.returns
returns g c =
    (c.read_rest.ensures.0.within, image_read _ _ c.image_size-size.result c.read_rest.result (omega (arith, c.read_head-got.auto.img, c.if-img-lt-MOST_BYTES.false)) c.image_size-size.ensures c.read_rest.ensures.0 c.read_rest.ensures.1)

pub slice_bounds-image_size-end-2 : goal.slice_bounds-image_size-end-2
slice_bounds-image_size-end-2 g c = sym (length-take-le 40 c.read_head-got.new.img (omega (arith, c.read_head-got.auto.img, c.if-img-lt-MOST_BYTES.false)))
