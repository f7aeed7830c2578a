-- Corners by bit mask are the axis-by-axis rule. Assumes nothing.
use mathlib.Core.Path.{◌≡◌, refl, sym, ap, ap₂, ◌∙◌}
use mathlib.Core.List.{List, [], ◌∷◌}
use Prim.Native.Nat.{ℕ, zero, suc, ◌+◌, ◌-◌, ◌*◌, ◌/◌, ◌%◌, ◌^◌, ◌≤◌, ◌<◌}
use native.Mathlib.Nat.{add-mul-div_right, add-div_right, div-eq_of_lt, pow-suc, mul_assoc, mul-one, add-zero, add-suc}
use native.Mathlib.Omega.{arith}
use lib.ListN.{length, get_or}
use lib.Ieee.{Float, nan}
use Rattle.layout.specs.Layout.{tabulate}
use Rattle.layout.proofs.Layouts.{get_d_tabulate, tabulate_same}
use Rattle.blend.specs.Blend.{blended, sliced, linear}
use Rattle.rust.proofs.Located.{view, lowers, corner, corners, rust_linear}
use Rattle.rust.specs.Scaffolding.{diffs, passed, butterfly}
use Rattle.rust.proofs.Passes.{power_above, power_suc}
use Rattle.rust.proofs.Linears.{length_lowers}
use Rattle.blend.specs.Scaffolding.{corner_at}
use Rattle.rust.specs.declared.AxisLocation.{AxisLocation}
use Rattle.rust.specs.declared.AxisLocation.TheVariants.{Exact, Between}

-- ---- powers of two and bits
power_add : (a j : ℕ) → 2 ^ (a + j) ≡ 2 ^ a * 2 ^ j
power_add a zero = ap (λ (x : ℕ). 2 ^ x) (add-zero a) ∙ sym (mul-one (2 ^ a))
power_add a (suc j) = ap (λ (x : ℕ). 2 ^ x) (add-suc a j) ∙ pow-suc 2 (a + j) ∙ ap (λ (x : ℕ). x * 2) (power_add a j) ∙ mul_assoc (2 ^ a) (2 ^ j) 2 ∙ ap (λ (x : ℕ). 2 ^ a * x) (sym (pow-suc 2 j))

-- a higher power of two leaves a lower bit as it was
pub bit_kept : (m j k : ℕ) → j < k → (m + 2 ^ k) / 2 ^ j % 2 ≡ m / 2 ^ j % 2
bit_kept m j k l =
    let e : k ≡ suc (k - suc j) + j = omega arith in
    let split : 2 ^ k ≡ (2 ^ (k - suc j) + 2 ^ (k - suc j)) * 2 ^ j = ap (λ (x : ℕ). 2 ^ x) e ∙ power_add (suc (k - suc j)) j ∙ ap (λ (x : ℕ). x * 2 ^ j) (power_suc (k - suc j)) in
    let moved : (m + 2 ^ k) / 2 ^ j ≡ m / 2 ^ j + (2 ^ (k - suc j) + 2 ^ (k - suc j)) = ap (λ (x : ℕ). (m + x) / 2 ^ j) split ∙ add-mul-div_right m (2 ^ (k - suc j) + 2 ^ (k - suc j)) (power_above j) in
    omega (arith, moved)

pub bit_clear : (m k : ℕ) → m < 2 ^ k → m / 2 ^ k % 2 ≡ 0
bit_clear m k l = ap (λ (x : ℕ). x % 2) (div-eq_of_lt l)

pub bit_set : (m k : ℕ) → m < 2 ^ k → (m + 2 ^ k) / 2 ^ k % 2 ≡ 1
bit_set m k l = ap (λ (x : ℕ). x % 2) (add-div_right m (power_above k) ∙ ap (λ (x : ℕ). x + 1) (div-eq_of_lt l))

-- ---- the index list of a corner
pub corner_kept : (ps : List AxisLocation) (m k : ℕ) → length (diffs ps) ≤ k → corner_at ps (m + 2 ^ k) ≡ corner_at ps m
corner_kept [] m k l = refl
corner_kept (Exact node ∷ ps) m k l = ap (λ (r : List ℕ). node ∷ r) (corner_kept ps m k l)
corner_kept (Between lower frac ∷ ps) m k l =
    ap₂ (λ (b : ℕ) (r : List ℕ). (lower + b) ∷ r) (bit_kept m (length (diffs ps)) k (omega arith)) (corner_kept ps m k (omega arith))

-- all corner values of a table, by mask
abbrev pub corners_of : List AxisLocation → (List ℕ → Float) → List Float
corners_of ps g = tabulate (2 ^ length (diffs ps)) (λ m. g (corner_at ps m))

-- ---- the butterfly over them is the rule
pub low_corner : (ps : List AxisLocation) (l : ℕ) (f : Float) (m : ℕ) → m < 2 ^ length (diffs ps) → corner_at (Between l f ∷ ps) m ≡ l ∷ corner_at ps m
low_corner ps l f m b = ap (λ (x : ℕ). x ∷ corner_at ps m) (ap (λ (x : ℕ). l + x) (bit_clear m (length (diffs ps)) b) ∙ omega arith)

pub high_corner : (ps : List AxisLocation) (l : ℕ) (f : Float) (m : ℕ) → m < 2 ^ length (diffs ps) → corner_at (Between l f ∷ ps) (m + 2 ^ length (diffs ps)) ≡ (l + 1) ∷ corner_at ps m
high_corner ps l f m b = ap₂ (λ (x : ℕ) (r : List ℕ). (l + x) ∷ r) (bit_set m (length (diffs ps)) b) (corner_kept ps m (length (diffs ps)) (omega arith))

-- one pass over the corners of an axis and those after it leaves the corners of the blended table
pub pass_corners : (l : ℕ) (f : Float) (ps : List AxisLocation) (g : List ℕ → Float)
    → passed f (2 ^ length (diffs ps)) (corners_of (Between l f ∷ ps) g) ≡ corners_of ps (sliced (Between l f) g)
unfolding passed blended
pass_corners l f ps g = tabulate_same (2 ^ length (diffs ps)) _ _ turn
  where
    turn : (m : ℕ) → m < 2 ^ length (diffs ps)
        → blended (get_or (corners_of (Between l f ∷ ps) g) m nan) (get_or (corners_of (Between l f ∷ ps) g) (m + 2 ^ length (diffs ps)) nan) f
        ≡ blended (g (l ∷ corner_at ps m)) (g ((l + 1) ∷ corner_at ps m)) f
    turn m b =
        let low : m < 2 ^ suc (length (diffs ps)) = omega (arith, power_suc (length (diffs ps)), b) in
        let high : m + 2 ^ length (diffs ps) < 2 ^ suc (length (diffs ps)) = omega (arith, power_suc (length (diffs ps)), b) in
        ap₂ (λ (x y : Float). blended x y f)
        (get_d_tabulate (2 ^ suc (length (diffs ps))) m (λ k. g (corner_at (Between l f ∷ ps) k)) nan low ∙ ap g (low_corner ps l f m b))
        (get_d_tabulate (2 ^ suc (length (diffs ps))) (m + 2 ^ length (diffs ps)) (λ k. g (corner_at (Between l f ∷ ps) k)) nan high ∙ ap g (high_corner ps l f m b))

pub fold_linear : (ps : List AxisLocation) (g : List ℕ → Float) → butterfly (diffs ps) (corners_of ps g) ≡ linear ps g
unfolding butterfly
fold_linear [] g = refl
fold_linear (Exact node ∷ ps) g = fold_linear ps (λ is. g (node ∷ is))
fold_linear (Between l f ∷ ps) g = ap (butterfly (diffs ps)) (pass_corners l f ps g) ∙ fold_linear ps (sliced (Between l f) g)

-- ---- the Rust's text
view_corner : (ps : List AxisLocation) (g : List ℕ → Float) (m : ℕ) → view ps g (corner (lowers ps) m) ≡ g (corner_at ps m)
view_corner [] g m = refl
view_corner (Exact node ∷ ps) g m = view_corner ps (λ is. g (node ∷ is)) m
view_corner (Between l f ∷ ps) g m =
    view_corner ps (λ is. g ((l + m / 2 ^ length (lowers ps) % 2) ∷ is)) m
    ∙ ap (λ (k : ℕ). g ((l + m / 2 ^ k % 2) ∷ corner_at ps m)) (length_lowers ps)

-- exact axes removed, corners by bit mask and the butterfly are the rule, axis by axis
pub rust_linear_lem : (ps : List AxisLocation) (g : List ℕ → Float) → rust_linear ps g ≡ linear ps g
unfolding rust_linear corners
rust_linear_lem ps g =
    ap (butterfly (diffs ps))
    (ap (λ (n : ℕ). tabulate n (λ m. view ps g (corner (lowers ps) m))) (ap (λ (k : ℕ). 2 ^ k) (length_lowers ps))
    ∙ tabulate_same (2 ^ length (diffs ps)) _ _ (λ m b. view_corner ps g m))
    ∙ fold_linear ps g
