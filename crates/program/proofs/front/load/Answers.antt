use mathlib.Core.Path.{◌≡◌, sym, ap, ◌∙◌, subst}
use Prim.Native.Nat.{ℕ, ◌≤◌, min}
use native.Mathlib.Omega.{arith}
use lib.ListN.{length}
use Rattle.image.specs.declared.LoadAnswer.{LoadAnswer}
use Rattle.image.proofs.Laws.{given_four}
use Rattle.program.specs.Input.{image_size}
use Rattle.program.proofs.front.Loads.{front_loads, sized_held}
use Rattle.program.proofs.front.load.Goals as goal

pub returns-clause-loads : goal.returns-clause-loads
returns-clause-loads c =
    let sized : c.min-size.result ≡ min (image_size c.args.input.now) (length c.args.input.now) = c.min-size.ensures ∙ ap (λ (n : ℕ). min n (length c.args.input.now)) c.image_size.ensures in
    λ x y. front_loads c.args.input.now _ sized c.load-loaded.ensures x y _ (sized_held _ _ c.sizes.ensures.fault c.sizes.ensures.held _ _ c.unwrap_or-held.ensures) _ _ c.min-n.ensures c.min-v.ensures

pub returns-clause-axes_bound : goal.returns-clause-axes_bound
returns-clause-axes_bound c =
    (subst (λ (a : LoadAnswer). a.shape.axes ≤ 4) (sym c.load-loaded.ensures.answer) (given_four _ _ _), omega (arith, c.min-size.ensures))
