use mathlib.Core.Path.{◌≡◌}
use Prim.Native.Nat.{ℕ, ◌-◌}
use mathlib.Core.List.{[], ◌∷◌}
use Rattle.layout.specs.declared.Shape.{Shape}
use Rattle.slices.specs.Slices.{shape_without}
use Rattle.slices.proofs.remaining.shape_without.Goals as goal

four : (n : ℕ) (a b c d a' b' c' d' : ℕ) → a ≡ a' → b ≡ b' → c ≡ c' → d ≡ d' → ◌≡◌ {A = Shape} (record { axes = n; counts = a ∷ b ∷ c ∷ d ∷ [] }) (record { axes = n; counts = a' ∷ b' ∷ c' ∷ d' ∷ [] })
four n a b c d a' b' c' d' p q r s = rw (p, q, r, s)

pub returns : goal.returns
unfolding shape_without
returns c =
    four (c.args.shape.axes - 1) _ _ _ _ _ _ _ _ c.count_without-a.ensures c.count_without-b.ensures c.count_without-c.ensures c.count_without-d.ensures
