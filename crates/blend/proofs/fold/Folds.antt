-- The fold of the corners, pass by pass. Assumes nothing.
use Rattle.std.proofs.Common.{◌≡◌, ℕ, ◌+◌, ◌^◌, ◌<◌, ◌≤◌, List, ◌∷◌, ◌++◌, length, take, drop, get_or, set, sym, ap, ap₂, ◌∙◌, add-one, arith, length-take, drop-cons}
use Rattle.std.proofs.lemmas.List.{drop_all, get_or-take, get_or-drop}
use lib.Ieee.{Float, nan}
use Rattle.layout.specs.Layout.{tabulate}
use Rattle.layout.proofs.Layouts.{length-tabulate, tabulate_same}
use Rattle.blend.specs.Blend.{blended}
use Rattle.rust.specs.Scaffolding.{diffs, passed, butterfly}
use Rattle.rust.specs.Strategies.{reduced_by}
use Rattle.rust.specs.declared.AxisLocation.{AxisLocation}
use Rattle.rust.specs.declared.AxisLocation.TheVariants.{Exact, Between}
use Rattle.rust.proofs.Passes.{power_suc, over_here, front}
use Rattle.blend.specs.Scaffolding.{passed_over, merged, half_of, grown}
use Rattle.blend.proofs.runs.Blends.{run_at, run_step}

-- ---- a pass in place, over the first half of what it reads
module _ (f : Float) (half : ℕ) (vals : List Float) (fits : half + half ≤ length vals) where
  same_blend : (i : ℕ) → i < half → run_at f (take half vals) (drop half vals) i ≡ reduced_by f half vals i
  unfolding blended
  same_blend i l =
      let other : half + i ≡ i + half = omega arith in
      ap₂ (λ (x y : Float). blended x y f) (get_or-take half vals i nan l) (get_or-drop half vals i nan ∙ ap (λ (k : ℕ). get_or vals k nan) other)

  pub pass_done : (low high w : List Float) → low ≡ take half vals → high ≡ drop half vals → w ≡ tabulate (length low) (run_at f low high) → w ++ high ≡ passed_over f half vals
  unfolding passed
  pass_done low high w a b e =
      let long : length (take half vals) ≡ half = omega (arith, length-take half vals) in
      let first : w ≡ tabulate (length (take half vals)) (run_at f (take half vals) (drop half vals)) = e ∙ ap₂ (λ (x y : List Float). tabulate (length x) (run_at f x y)) a b in
      ap₂ (λ (x y : List Float). x ++ y) (first ∙ ap (λ (k : ℕ). tabulate k (run_at f (take half vals) (drop half vals))) long ∙ tabulate_same half _ _ same_blend) b

pub pass_step : (f : Float) (low high w : List Float) (i : ℕ) → w ≡ tabulate i (run_at f low high) ++ drop i low → (b : Float) → i < length low
    → b ≡ blended (get_or w i nan) (get_or high i nan) f → set w i b ≡ tabulate (i + 1) (run_at f low high) ++ drop (i + 1) low
pass_step f low high w i e b l q =
    let h = run_at f low high in
    let here : get_or w i nan ≡ get_or low i nan = ap (λ (x : List Float). get_or x i nan) e ∙ over_here i h low in
    run_step h low w i e b l (q ∙ ap (λ (x : Float). blended x (get_or high i nan) f) here)

-- ---- how many corners are in use
pub half_power : (p : AxisLocation) (ps : List AxisLocation) (h : ℕ) → h ≡ 2 ^ length (diffs (p ∷ ps)) → half_of p h ≡ 2 ^ length (diffs ps)
half_power (Exact node) ps h e = e
half_power (Between l f) ps h e = let d : h ≡ 2 ^ length (diffs ps) + 2 ^ length (diffs ps) = e ∙ power_suc (length (diffs ps)) in omega (arith, d)

pub grown_power : (p : AxisLocation) (ps : List AxisLocation) (h : ℕ) → h ≡ 2 ^ length (diffs ps) → grown p h ≡ 2 ^ length (diffs (p ∷ ps))
grown_power (Exact node) ps h e = e
grown_power (Between l f) ps h e = ap₂ (λ (x y : ℕ). x + y) e e ∙ sym (power_suc (length (diffs ps)))

-- ---- the loop: the corners in use, blended on the axes that are left, give r
pub record Folding (ps : List AxisLocation) (r : Float) (v : List Float) (h : ℕ) : Type 0 where
  pub counted : h ≡ 2 ^ length (diffs ps)
  pub same : butterfly (diffs ps) v ≡ r

pub fold_step : (p : AxisLocation) (ps : List AxisLocation) (r : Float) (v w : List Float) (h m : ℕ) → Folding (p ∷ ps) r v h → m ≡ half_of p h → w ≡ merged p m v → Folding ps r w m
unfolding butterfly passed
fold_step (Exact node) ps r v w h m z a b = record { counted = a ∙ z.counted; same = ap (butterfly (diffs ps)) b ∙ z.same }
fold_step (Between l f) ps r v w h m z a b =
    let e : m ≡ 2 ^ length (diffs ps) = a ∙ half_power (Between l f) ps h z.counted in
    let long : 2 ^ length (diffs ps) ≤ length (passed f m v) = omega (arith, length-tabulate m (reduced_by f m v), e) in
    record {
      counted = e;
      same = ap (butterfly (diffs ps)) b ∙ front (diffs ps) (passed f m v) (drop m v) long ∙ ap (λ (k : ℕ). butterfly (diffs ps) (passed f k v)) e ∙ z.same;
    }

pub fold_fits : (p : AxisLocation) (ps : List AxisLocation) (h m : ℕ) → h ≡ 2 ^ length (diffs (p ∷ ps)) → h ≤ 16 → m ≡ half_of p h → grown p m ≤ 16
fold_fits p ps h m e l a = omega (arith, grown_power p ps m (a ∙ half_power p ps h e), e, l)

pub fold_at : (ls : List AxisLocation) (d : ℕ) {r : Float} {v : List Float} {h : ℕ} → d < length ls → Folding (drop d ls) r v h
    → Folding (get_or ls d (Exact 0) ∷ drop (d + 1) ls) r v h
fold_at ls d a z = let open_up : drop d ls ≡ get_or ls d (Exact 0) ∷ drop (d + 1) ls = rw add-one (drop-cons ls d (Exact 0) a) in rw open_up at z

pub fold_done : (ls : List AxisLocation) (d : ℕ) {r : Float} {v : List Float} {h : ℕ} → length ls ≤ d → Folding (drop d ls) r v h → get_or v 0 nan ≡ r
unfolding butterfly
fold_done ls d l z = let u = rw (drop_all d ls l) at z in u.same
