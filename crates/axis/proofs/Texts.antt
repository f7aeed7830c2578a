-- The Rust's text of strategy/utils.rs is the paper's rules: on a good axis and a finite reading where it searches, for every input where it does not. Assumes nothing.
use Rattle.std.proofs.Common.{◌≡◌, ℕ, zero, suc, ◌+◌, ◌-◌, ◌*◌, ◌/◌, ◌^◌, ◌<◌, ◌≤◌, min, Bool, true, false, cond, ◌&&◌, eqb, ltb, List, [], ◌∷◌, length, get_or, pos, negsuc, sym, refl, ap, ◌∙◌, subst, ap₂, add-zero, div-lt_iff_lt-mul, mul-one, arith, pow_pos, ltb-false, ltb-true, lt-ltb, Option, Some, None}
use native.Mathlib.Nat.{div-eq_of_lt}
use lib.Ieee.{Float, nan, inf, fin, Format, prec, emax, low, binary64, lt, le, sub, add, mul, div, odd, units, round, to_unsigned}
use lib.Ieee.Scale.{finite}
use lib.Ieee.Positive.{den}
use Rattle.answer.specs.Faults.{Fault, good, no_fault, refusal, when, ◌or◌, first_fault}
use Rattle.answer.specs.Answer.{plus_zero}
use Rattle.answer.proofs.Orders.{clash, good-no_fault, bad_refused, or_good, or_bad, or_no_fault}
use Rattle.binary64.proofs.Order as order
use Rattle.binary64.proofs.Difference.{sub_is}
use Rattle.checks.specs.Nodes.{node, gap}
use Rattle.checks.specs.Numbers.{apart, gap_fault, uniform_fault, default_tolerance, default_fault}
use Rattle.checks.specs.Passed.{Axis}
use Rattle.rust.specs.Utils.{at, frac_of, bisected, lower_of, locate_lower_index, exact_index, matched, locate_axis, lower_by, upper_by, locate_step_index, floor, to_usize, unwrap_or, cell_of, locate_lower_index_uniform, Validated, ok, non_uniform, spacing_at, diff_of, gaps_from, validate_uniform_grid, doubled, abs, epsilon, tolerance_of, validate_uniform_grid_epsilon}
use Rattle.rust.specs.Strategies.{nearest_at, uniform_lower, uniform_diff, or_else, validate_from, validate_linear_uniform}
use Rattle.rust.specs.declared.AxisLocation.TheVariants.{Between}
use Rattle.axis.specs.Cells.{lower_index}
use Rattle.axis.specs.Exact.{exact_node}
use Rattle.axis.specs.Locations.{fraction, exact_or, axis_location, uniform_location}
use Rattle.axis.specs.Steps.{step_index}
use Rattle.axis.specs.Picks.{nearer, nearest_index}
use Rattle.axis.specs.Scaffolding.{rust_step}
use Rattle.axis.specs.Uniform.{uniform_cell, uniform_index}
use Rattle.axis.proofs.cells.Axes.{Bracket, bracket_start, bracket_up, bracket_down, lowest, highest, met_above, met_first, met_never}
use Rattle.axis.proofs.picks.Nodes.{step_rust}

-- ---- locate_lower_index: the search gives the count
module _ (xs : List Float) (p : Float) (ax : Axis xs) (fp : finite p ≡ true) where
  met : (low high : ℕ) → Bracket xs p low high → high ≤ low → lower_of xs p low ≡ lower_index xs p
  met low high b h = go (ltb 0 low) (le p (at xs low)) (ltb-false 0 low) refl
    where
      go : (s t : Bool) → (s ≡ false → low ≤ 0) → le p (at xs low) ≡ t → cond (s && t) (low - 1) low ≡ lower_index xs p
      go true true u v = met_above xs p ax fp low high b h
      go true false u v = met_never xs p ax fp low high b h v
      go false t u v = met_first xs p ax fp low high b h (u refl)

  search : (turns low high : ℕ) → high ≤ low + turns → Bracket xs p low high → lower_of xs p (bisected turns xs p low high) ≡ lower_index xs p
  unfolding bisected
  search zero low high h b = met low high b (omega arith)
  search (suc turns) low high h b = go (ltb low high) (le p (at xs (low + (high - low) / 2))) (ltb-true low high) (ltb-false low high) refl (search turns)
    where
      go : (s t : Bool) → (s ≡ true → low < high) → (s ≡ false → high ≤ low) → le p (at xs (low + (high - low) / 2)) ≡ t
          → ((l r : ℕ) → r ≤ l + turns → Bracket xs p l r → lower_of xs p (bisected turns xs p l r) ≡ lower_index xs p)
          → lower_of xs p (cond s (bisected turns xs p (cond t low (low + (high - low) / 2 + 1)) (cond t (low + (high - low) / 2) high)) low) ≡ lower_index xs p
      go true true u w v f =
          let l : low < high = u refl in
          f low (low + (high - low) / 2) (omega arith) (bracket_down xs p ax fp low high b (low + (high - low) / 2) (omega arith) (omega arith) v)
      go true false u w v f =
          let l : low < high = u refl in
          f (low + (high - low) / 2 + 1) high (omega arith) (bracket_up xs p ax fp low high b (low + (high - low) / 2) (omega arith) (omega arith) v)
      go false t u w v f = met low high b (w refl)

  pub lower_text : locate_lower_index xs p ≡ lower_index xs p
  unfolding locate_lower_index
  lower_text = go (lt p (node xs 0)) (le (node xs (length xs - 1)) p) refl refl
    where
      enough : 2 ≤ length xs
      enough = ax.enough

      go : (s t : Bool) → lt p (node xs 0) ≡ s → le (node xs (length xs - 1)) p ≡ t
          → cond s 0 (cond t (length xs - 2) (lower_of xs p (bisected (length xs) xs p 0 (length xs - 1)))) ≡ lower_index xs p
      go true t u v = lowest xs p ax fp (order.le_of_lt p (node xs 0) fp (ax.finites 0 (omega (arith, enough))) u)
      go false true u v = highest xs p ax fp v
      go false false u v = search (length xs) 0 (length xs - 1) (omega arith) (bracket_start xs p ax fp v)

-- ---- exact_index
pub exact_text : (xs : List Float) (lower : ℕ) (p : Float) → exact_index xs lower p ≡ exact_node xs lower p
unfolding exact_index exact_node
exact_text xs lower p = refl

-- ---- locate_axis, locate_step_index, and Nearest on one axis
matched_or : (m : Option ℕ) (lower : ℕ) (frac : Float) → matched m lower frac ≡ exact_or m (Between lower frac)
matched_or (Some idx) lower frac = refl
matched_or None lower frac = refl

module _ (xs : List Float) (p : Float) (ax : Axis xs) (fp : finite p ≡ true) where
  pub axis_text : locate_axis xs p ≡ axis_location xs p
  unfolding locate_axis axis_location fraction gap exact_index exact_node
  axis_text =
      matched_or (exact_index xs (locate_lower_index xs p) p) (locate_lower_index xs p) (frac_of xs (locate_lower_index xs p) p)
      ∙ ap (λ (l : ℕ). exact_or (exact_index xs l p) (Between l (frac_of xs l p))) (lower_text xs p ax fp)

  pub step_index_text : (direction : ℕ) → locate_step_index direction xs p ≡ step_index direction xs p
  unfolding locate_step_index rust_step
  step_index_text direction = ap (λ (l : ℕ). cond (eqb direction 0) (lower_by xs l p) (upper_by xs l p)) (lower_text xs p ax fp) ∙ sym (step_rust xs p ax fp direction)

  pub nearest_index_text : nearest_at xs p ≡ nearest_index xs p
  unfolding nearest_index
  nearest_index_text = ap (λ (l : ℕ). nearer xs l p) (lower_text xs p ax fp)

-- ---- locate_lower_index_uniform, for every input
abbrev minus_one : Float
minus_one = fin true 1 (pos 0)

abbrev wide : Float
wide = fin false 1 (pos 64)

-- what is not below 0 is cut as it is, where its floor is
record Floored (t : Float) : Type 0 where
  above : lt minus_one (floor t) ≡ true
  reach : lt (floor t) wide ≡ lt t wide
  cut : to_unsigned 64 (floor t) ≡ to_unsigned 64 t

cell_floored : (n : ℕ) (t : Float) → Floored t → min (unwrap_or (to_usize (floor t)) 0) (n - 2) ≡ cond (lt t wide) (min (to_unsigned 64 t) (n - 2)) 0
unfolding to_usize
cell_floored n t f =
    ap₂ (λ (b c : Bool). min (unwrap_or (cond (b && c) (Some (to_unsigned 64 (floor t))) None) 0) (n - 2)) f.above f.reach
    ∙ ap (λ (k : ℕ). min (unwrap_or (cond (true && lt t wide) (Some k) None) 0) (n - 2)) f.cut
    ∙ go (lt t wide)
  where
    go : (b : Bool) → min (unwrap_or (cond (true && b) (Some (to_unsigned 64 t)) None) 0) (n - 2) ≡ cond b (min (to_unsigned 64 t) (n - 2)) 0
    go true = refl
    go false = omega arith

floored_reach : (m d w : ℕ) → 0 < d → ltb (m / d * 2 ^ 0 * 1) (1 * w * 1) ≡ ltb (m * 1 * 1) (1 * w * d)
floored_reach m d w h = order.same_test (ltb (m / d * 2 ^ 0 * 1) (1 * w * 1)) (ltb (m * 1 * 1) (1 * w * d)) there back
  where
    there : ltb (m / d * 2 ^ 0 * 1) (1 * w * 1) ≡ true → ltb (m * 1 * 1) (1 * w * d) ≡ true
    there e =
        let k : m / d * 2 ^ 0 * 1 < 1 * w * 1 = ltb-true (m / d * 2 ^ 0 * 1) (1 * w * 1) e in
        let l : m / d < w = omega arith in
        lt-ltb (m * 1 * 1) (1 * w * d) (omega (arith, (div-lt_iff_lt-mul h).0 l))

    back : ltb (m * 1 * 1) (1 * w * d) ≡ true → ltb (m / d * 2 ^ 0 * 1) (1 * w * 1) ≡ true
    back e =
        let k : m * 1 * 1 < 1 * w * d = ltb-true (m * 1 * 1) (1 * w * d) e in
        let l : m < w * d = omega arith in
        lt-ltb (m / d * 2 ^ 0 * 1) (1 * w * 1) (omega (arith, (div-lt_iff_lt-mul {k = d} h).1 l))

over_minus_one : (s : Bool) (m : ℕ) (k : ℕ) → lt (fin s m (pos k)) plus_zero ≡ false → lt minus_one (fin s m (pos k)) ≡ true
unfolding lt
over_minus_one s m k h = order.lt_of_lt_of_le minus_one plus_zero (fin s m (pos k)) refl refl refl refl (order.le_of_not_lt (fin s m (pos k)) plus_zero refl refl h)

floored : (s : Bool) (m k : ℕ) → lt (fin s m (negsuc k)) plus_zero ≡ false → Floored (fin s m (negsuc k))
unfolding floor lt to_unsigned
floored false m k h = record {
  above = lt-ltb 0 (1 * 2 ^ 0 * 1 + m / 2 ^ suc k * 2 ^ 0 * 1) (omega arith);
  reach = floored_reach m (2 ^ suc k) (2 ^ 64) (pow_pos (suc k));
  cut = ap (λ (x : ℕ). min x (2 ^ 64 - 1)) (whole (m / 2 ^ suc k) ∙ ap (λ (x : ℕ). x / 2 ^ suc k) (sym (mul-one m)));
}
  where
    whole : (q : ℕ) → q * 2 ^ 0 / 1 ≡ q
    whole q = omega arith
floored true zero k h = record {
  above = ap (λ (x : ℕ). lt minus_one (fin true x (pos 0))) none;
  reach = ap (λ (x : ℕ). lt (fin true x (pos 0)) wide) none ∙ sym (lt-ltb 0 (0 * 1 * 1 + 1 * 2 ^ 64 * 2 ^ suc k) (omega (arith, pow_pos (suc k))));
  cut = refl;
}
  where
    none : (0 + 2 ^ suc k - 1) / 2 ^ suc k ≡ 0
    none = div-eq_of_lt (omega (arith, pow_pos (suc k)))
floored true (suc m) k h = clash (ltb 0 (suc m * 1 * 1 + 0 * 2 ^ 0 * 2 ^ suc k)) (lt-ltb 0 (suc m * 1 * 1 + 0 * 2 ^ 0 * 2 ^ suc k) (omega arith)) h

whole_floored : (s : Bool) (m k : ℕ) → lt (fin s m (pos k)) plus_zero ≡ false → Floored (fin s m (pos k))
unfolding floor
whole_floored s m k h = record { above = over_minus_one s m k h; reach = refl; cut = refl }

cell_nan : (n : ℕ) → min (unwrap_or (to_usize (floor nan)) 0) (n - 2) ≡ cond (lt nan wide) (min (to_unsigned 64 nan) (n - 2)) 0
unfolding floor to_usize lt
cell_nan n = omega arith

cell_inf : (n : ℕ) (s : Bool) → lt (inf s) plus_zero ≡ false → min (unwrap_or (to_usize (floor (inf s))) 0) (n - 2) ≡ cond (lt (inf s) wide) (min (to_unsigned 64 (inf s)) (n - 2)) 0
unfolding floor to_usize lt
cell_inf n true h = clash true refl h
cell_inf n false h = omega arith

pub uniform_cell_text : (n : ℕ) (t : Float) → cell_of n t ≡ uniform_cell n t
unfolding cell_of uniform_cell
uniform_cell_text n t = go t (lt t plus_zero) refl
  where
    go : (t : Float) (b : Bool) → lt t plus_zero ≡ b → cond b 0 (min (unwrap_or (to_usize (floor t)) 0) (n - 2)) ≡ cond b 0 (cond (lt t wide) (min (to_unsigned 64 t) (n - 2)) 0)
    go t true h = refl
    go nan false h = cell_nan n
    go (inf s) false h = cell_inf n s h
    go (fin s m (pos k)) false h = cell_floored n (fin s m (pos k)) (whole_floored s m k h)
    go (fin s m (negsuc k)) false h = cell_floored n (fin s m (negsuc k)) (floored s m k h)

pub uniform_index_text : (first step : Float) (n : ℕ) (p : Float) → locate_lower_index_uniform first step n p ≡ uniform_index first step n p
unfolding locate_lower_index_uniform uniform_index
uniform_index_text first step n p = uniform_cell_text n (div binary64 (sub binary64 p first) step)

pub uniform_axis_text : (xs : List Float) (p : Float) → Between (uniform_lower xs p) (uniform_diff xs p) ≡ uniform_location xs p
unfolding uniform_location gap
uniform_axis_text xs p = ap (λ (l : ℕ). Between l (div binary64 (sub binary64 p (at xs l)) (spacing_at xs 0))) (uniform_index_text (node xs 0) (spacing_at xs 0) (length xs) p)

-- ---- validate_uniform_grid: its error is row 8 of the axis, with the place
abbrev pub uniform_row : Validated → Fault
uniform_row ok = no_fault
uniform_row (non_uniform dim index) = refusal 8 dim index

gaps_from_lem : (dim : ℕ) (xs : List Float) (tolerance : Float) (i turns : ℕ) → first_fault (gap_fault dim xs tolerance) i turns ≡ uniform_row (gaps_from xs dim tolerance i turns)
unfolding first_fault gaps_from gap_fault apart gap when
gaps_from_lem dim xs tolerance i zero = refl
gaps_from_lem dim xs tolerance i (suc turns) = go (lt tolerance (diff_of (spacing_at xs i) (spacing_at xs 0))) (gaps_from_lem dim xs tolerance (suc i) turns)
  where
    go : (b : Bool) → first_fault (gap_fault dim xs tolerance) (suc i) turns ≡ uniform_row (gaps_from xs dim tolerance (suc i) turns)
        → (cond b (refusal 8 dim i) no_fault or first_fault (gap_fault dim xs tolerance) (suc i) turns) ≡ uniform_row (cond b (non_uniform dim i) (gaps_from xs dim tolerance (suc i) turns))
    go true e = or_bad (refusal 8 dim i) (first_fault (gap_fault dim xs tolerance) (suc i) turns) (bad_refused 7 dim i)
    go false e = or_good no_fault (first_fault (gap_fault dim xs tolerance) (suc i) turns) good-no_fault ∙ e

pub validate_text : (dim : ℕ) (xs : List Float) (tolerance : Float) → uniform_fault dim xs tolerance ≡ uniform_row (validate_uniform_grid xs dim tolerance)
unfolding uniform_fault validate_uniform_grid
validate_text dim xs tolerance = ap (first_fault (gap_fault dim xs tolerance) 1) same ∙ gaps_from_lem dim xs tolerance 1 (length xs - 1 - 1)
  where
    same : length xs - 2 ≡ length xs - 1 - 1
    same = omega arith

-- ---- validate_uniform_grid_epsilon: ten doublings of 2^-52 are 2^-42, and a good axis's step is its own amount
pub ten_doublings : doubled 10 epsilon ≡ fin false 1 (negsuc 41)
unfolding add
ten_doublings = refl

abs_inf : abs (inf false) ≡ inf false
unfolding abs
abs_inf = refl

abs_odd : (d q k l : ℕ) → abs (odd d false q k l) ≡ odd d false q k l
unfolding abs odd
abs_odd d zero k l = refl
abs_odd d (suc q) k l = refl

abs_units : (f : Format) (q k : ℕ) → abs (units f false q k) ≡ units f false q k
unfolding units
abs_units f q k = go (ltb (q * 2 ^ k) (2 ^ (low f + suc (emax f))))
  where
    go : (b : Bool) → abs (cond b (odd (suc (prec f)) false q k (low f)) (inf false)) ≡ cond b (odd (suc (prec f)) false q k (low f)) (inf false)
    go true = abs_odd (suc (prec f)) q k (low f)
    go false = abs_inf

abs-round : (f : Format) (a c : ℕ) → abs (round f false a c) ≡ round f false a c
unfolding round
abs-round f a c = abs_units f _ _

pub tolerance_text : (xs : List Float) → Axis xs → tolerance_of xs ≡ default_tolerance xs
unfolding tolerance_of default_tolerance gap
tolerance_text xs ax = ap₂ (mul binary64) own ten_doublings
  where
    enough : 2 ≤ length xs
    enough = ax.enough

    rounded : spacing_at xs 0 ≡ round binary64 false (order.right (node xs 0) (node xs 1) - order.left (node xs 0) (node xs 1)) (den (node xs 1) * den (node xs 0))
    rounded = sub_is binary64 (node xs 1) (node xs 0) (ax.finites 1 (omega (arith, enough))) (ax.finites 0 (omega (arith, enough))) (ax.rises 0 (omega (arith, enough)))

    own : abs (spacing_at xs 0) ≡ spacing_at xs 0
    own = ap abs rounded ∙ abs-round binary64 _ _ ∙ sym rounded

pub epsilon_text : (dim : ℕ) (xs : List Float) → Axis xs → default_fault dim xs ≡ uniform_row (validate_uniform_grid_epsilon xs dim)
unfolding validate_uniform_grid_epsilon
epsilon_text dim xs ax = validate_text dim xs (default_tolerance xs) ∙ ap (λ (t : Float). uniform_row (validate_uniform_grid xs dim t)) (sym (tolerance_text xs ax))

-- `Ok(())` exactly where the axis passes row 8, and an error at the place that the row answers
pub row_passed : (v : Validated) → good (uniform_row v) ≡ true → v ≡ ok
row_passed ok h = refl
row_passed (non_uniform dim index) h = clash (good (refusal 8 dim index)) h (bad_refused 7 dim index)

row_failed : (dim index : ℕ) (v : Validated) → uniform_row v ≡ refusal 8 dim index → v ≡ non_uniform dim index
unfolding refusal
row_failed dim index ok h = clash (good no_fault) good-no_fault (ap good h ∙ bad_refused 7 dim index)
row_failed dim index (non_uniform d i) h = ap (λ (f : Fault). non_uniform f.axis f.place) h

module _ (dim : ℕ) (xs : List Float) (ax : Axis xs) where
  pub epsilon_passes : good (default_fault dim xs) ≡ true → validate_uniform_grid_epsilon xs dim ≡ ok
  epsilon_passes h = row_passed (validate_uniform_grid_epsilon xs dim) (ap good (sym (epsilon_text dim xs ax)) ∙ h)

  pub epsilon-passed : validate_uniform_grid_epsilon xs dim ≡ ok → good (default_fault dim xs) ≡ true
  epsilon-passed e = ap good (epsilon_text dim xs ax ∙ ap uniform_row e) ∙ good-no_fault

  pub epsilon_fails : (index : ℕ) → default_fault dim xs ≡ refusal 8 dim index → validate_uniform_grid_epsilon xs dim ≡ non_uniform dim index
  epsilon_fails index h = row_failed dim index (validate_uniform_grid_epsilon xs dim) (sym (epsilon_text dim xs ax) ∙ h)

-- ---- LinearUniform's validate, over good axes: row 8 for all axes
join : (a b : Fault) (v w : Validated) → a ≡ uniform_row v → b ≡ uniform_row w → (a or b) ≡ uniform_row (or_else v w)
join a b ok w e d = ap₂ ◌or◌ e d ∙ or_no_fault (uniform_row w)
join a b (non_uniform dim index) w e d = ap₂ ◌or◌ e d ∙ or_bad (refusal 8 dim index) (uniform_row w) (bad_refused 7 dim index)

axes_from : (row : ℕ → Fault) (i : ℕ) (xss : List (List Float)) → ((a : ℕ) → a < length xss → Axis (get_or xss a [])) → ((a : ℕ) → row (i + a) ≡ default_fault (i + a) (get_or xss a []))
    → first_fault row i (length xss) ≡ uniform_row (validate_from i xss)
unfolding first_fault validate_from
axes_from row i [] ax e = refl
axes_from row i (xs ∷ xss) ax e =
    join (row i) (first_fault row (suc i) (length xss)) (validate_uniform_grid_epsilon xs i) (validate_from (suc i) xss)
    (subst (λ (k : ℕ). row k ≡ default_fault k xs) (add-zero i) (e 0) ∙ epsilon_text i xs (ax 0 (omega arith)))
    (axes_from row (suc i) xss (λ a l. ax (suc a) (omega arith)) (λ a. subst (λ (k : ℕ). row k ≡ default_fault k (get_or xss a [])) (after a) (e (suc a))))
  where
    after : (a : ℕ) → i + suc a ≡ suc i + a
    after a = omega arith

pub validate_axes_text : (xss : List (List Float)) → ((a : ℕ) → a < length xss → Axis (get_or xss a [])) → first_fault (λ a. default_fault a (get_or xss a [])) 0 (length xss) ≡ uniform_row (validate_linear_uniform xss)
validate_axes_text xss ax = axes_from (λ a. default_fault a (get_or xss a [])) 0 xss ax (λ a. subst (λ (k : ℕ). default_fault k (get_or xss k []) ≡ default_fault k (get_or xss a [])) (zero_on a) refl)
  where
    zero_on : (a : ℕ) → a ≡ 0 + a
    zero_on a = omega arith
