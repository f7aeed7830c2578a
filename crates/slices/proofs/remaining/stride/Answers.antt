use mathlib.Core.Path.{ap, ◌∙◌}
use Prim.Native.Nat.{◌*◌}
use Rattle.layout.specs.Shape.{size}
use Rattle.std.proofs.lemmas.Iterator.{YieldsList-from_slice}
use Rattle.std.proofs.lemmas.Iterator.Adapters.{total_from_yields_List}
use Rattle.slices.proofs.Counts.{after, size_is, product_fits, product_after}
use Rattle.slices.proofs.remaining.stride.Goals as goal

pub product-requires-clause-fits : goal.product-requires-clause-fits
product-requires-clause-fits c = product_fits _ c.iter.result _ c.iter.ensures.rest (product_after c.args.shape c.args.axis c.requires.few)

pub returns : goal.returns
returns c =
    total_from_yields_List (λ a x. a * x) 1 c.product.result c.product.ensures.ran (YieldsList-from_slice _ c.iter.ensures.rest)
    ∙ size_is _
    ∙ ap size (after c.args.shape c.args.axis)
