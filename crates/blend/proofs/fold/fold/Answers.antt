use Rattle.std.proofs.Common.{◌≡◌, ℕ, ◌+◌, ◌≤◌, min, List, length, take, drop, get_or, ap, ◌∙◌, arith, rules, length-take}
use Rattle.layout.proofs.Totals.{take_there}
use Rattle.rust.specs.Scaffolding.{diffs, butterfly}
use Rattle.rust.specs.declared.AxisLocation.{AxisLocation}
use Rattle.rust.specs.declared.AxisLocation.TheVariants.{Exact}
use Rattle.blend.proofs.fold.Counts.{count_few}
use Rattle.blend.proofs.fold.Folds.{fold_step, fold_fits, fold_at, fold_done}
use Rattle.blend.proofs.fold.fold.Goals as goal

pub merge-requires : goal.merge-requires
merge-requires c =
    let xs = take c.min.result c.args.locations.now in
    let d = c.loop-location.location-index in
    let four : length c.args.locations.now ≡ 4 = search rules in
    let few : length xs ≤ 4 = omega (arith, length-take c.min.result c.args.locations.now) in
    let z = fold_at xs d c.loop-location-test.true c.loop-location.invariant in
    let fits = fold_fits (get_or xs d (Exact 0)) (drop (d + 1) xs) c.loop-location.half c.half_of-half.result z.counted (count_few xs d c.loop-location.half few c.loop-location.invariant.counted) c.half_of-half.ensures in
    let wide : length c.loop-location.vals ≡ 16 = search rules in
    omega (arith, fits)

pub loop-location-preserved : goal.loop-location-preserved
loop-location-preserved c =
    let z = fold_at (take c.min.result c.args.locations.now) c.loop-location.location-index c.loop-location-test.true c.loop-location.invariant in
    fold_step _ _ _ _ _ _ _ z c.half_of-half.ensures c.merge.ensures

pub returns : goal.returns
returns c =
    let four : length c.args.locations.now ≡ 4 = search rules in
    let least : c.min.result ≡ min c.args.n (length c.args.locations.now) = omega arith in
    fold_done _ _ c.loop-location-test.false c.loop-location.invariant
    ∙ ap (λ (ls : List AxisLocation). butterfly (diffs ls) c.args.vals.now) (ap (λ (k : ℕ). take k c.args.locations.now) least ∙ take_there c.args.n c.args.locations.now)
