-- Laws of the picks that a user would quote, on a good axis and a finite reading. Assumes nothing.
use Rattle.std.proofs.Common.{◌≡◌, ℕ, zero, suc, ◌+◌, ◌-◌, ◌<◌, ◌≤◌, min, Bool, true, false, ◌⊎◌, List, length, refl, ◌∙◌, subst, inl, inr, zero-le, eq-or-lt_of_le, arith}
use lib.Ieee.{Float, lt, le, eq}
use lib.Ieee.Scale.{finite}
use Rattle.answer.proofs.Orders.{clash}
use Rattle.binary64.proofs.Order as order
use Rattle.checks.specs.Nodes.{node}
use Rattle.checks.specs.Passed.{Axis}
use Rattle.axis.specs.Steps.{lower_step, upper_step}
use Rattle.axis.specs.Cells.{how_many, count_below, lower_index}
use Rattle.axis.proofs.cells.Counts.{Falls, count_is, count_splits}
use Rattle.axis.proofs.cells.Cells.{cell_inside}
use Rattle.axis.proofs.cells.Axes.{rises_all, climbs, AtMost, Below, below_count, lower_at, cell_low, cell_high, lowest}
use Rattle.axis.proofs.picks.Steps.{inside_is, at_most, under_lower, under_upper, over_lower, over_upper}

module _ (xs : List Float) (p : Float) (ax : Axis xs) (fp : finite p ≡ true) where
  abbrev first : Float
  first = node xs 0

  abbrev last : Float
  last = node xs (length xs - 1)

  abbrev l : ℕ
  l = lower_index xs p

  enough : 2 ≤ length xs
  enough = ax.enough

  fits_l : l + 1 < length xs
  fits_l = cell_inside xs p enough

  fin_first : finite first ≡ true
  fin_first = ax.finites 0 (omega (arith, enough))

  -- ---- a reading strictly inside is in the cell that `locate_lower_index` names: above its lower node, not above its upper one
  pub in_cell_lem : lt first p ≡ true → lt p last ≡ true → (lt (node xs l) p ≡ true) × (le p (node xs (l + 1)) ≡ true)
  in_cell_lem h k = (cell_low xs p ax fp h, cell_high xs p ax fp (order.le_of_lt p last fp (ax.finites (length xs - 1) (omega (arith, enough))) k))

  -- the same with the first and the last node
  pub from_lower : le first p ≡ true → le (node xs l) p ≡ true
  from_lower h = go (order.lt_or_eq_of_le first p fin_first fp h)
    where
      go : (lt first p ≡ true) ⊎ (eq first p ≡ true) → le (node xs l) p ≡ true
      go (inl k) = order.le_of_lt (node xs l) p (ax.finites l (omega (arith, fits_l))) fp (cell_low xs p ax fp k)
      go (inr k) = subst (λ (n : ℕ). le (node xs n) p ≡ true) (lowest xs p ax fp (order.le_of_eq p first fp fin_first (order.eq_sym first p fin_first fp k))) h

  not_under : (i : ℕ) → i < length xs → eq (node xs i) p ≡ true → lt p first ≡ false
  not_under i il e = order.not_lt_of_le p first fp fin_first (order.le_trans first (node xs i) p fin_first (ax.finites i il) fp (climbs xs ax 0 i zero-le il) (order.le_of_eq (node xs i) p (ax.finites i il) fp e))

  not_over : (i : ℕ) → i < length xs → eq (node xs i) p ≡ true → lt last p ≡ false
  not_over i il e =
      let fl : finite last ≡ true = ax.finites (length xs - 1) (omega (arith, enough)) in
      order.not_lt_of_le last p fl fp
      (order.le_trans p (node xs i) last fp (ax.finites i il) fl (order.le_of_eq p (node xs i) fp (ax.finites i il) (order.eq_sym (node xs i) p (ax.finites i il) fp e)) (climbs xs ax i (length xs - 1) (omega arith) (omega (arith, enough))))

  -- ---- a reading on a node lies in the cell below it
  module _ (i : ℕ) (il : i < length xs) (e : eq (node xs i) p ≡ true) where
    fin_i : finite (node xs i) ≡ true
    fin_i = ax.finites i il

    -- nodes before i are below p, and none from i on is
    pub before_node : (k : ℕ) → k < i → lt (node xs k) p ≡ true
    before_node k h = order.lt_of_lt_of_eq (node xs k) (node xs i) p (ax.finites k (omega arith)) fin_i fp (rises_all xs ax k i h il) e

    from_node : (k : ℕ) → i ≤ k → k < length xs → le p (node xs k) ≡ true
    from_node k h m = order.le_trans p (node xs i) (node xs k) fp fin_i (ax.finites k m) (order.le_of_eq p (node xs i) fp fin_i (order.eq_sym (node xs i) p fin_i fp e)) (climbs xs ax i k h m)

    after_node : (k : ℕ) → i < k → k < length xs → lt p (node xs k) ≡ true
    after_node k h m = order.lt_of_eq_of_lt p (node xs i) (node xs k) fp fin_i (ax.finites k m) (order.eq_sym (node xs i) p fin_i fp e) (rises_all xs ax i k h m)

    below_node : Below xs p i
    below_node = record { within = omega arith; before = before_node; from = λ k h m. order.not_lt_of_le (node xs k) p (ax.finites k m) fp (from_node k h m) }

    pub at_lower : l ≡ min (i - 1) (length xs - 2)
    at_lower = lower_at xs p ax fp i below_node

    -- ---- on a node Lower and Upper agree: both give that node
    pub node_lower : lower_step xs p ≡ i
    unfolding lower_step
    node_lower =
        inside_is xs p ax fp 0 (length xs - 2) (how_many (λ x. le x p) xs - 1) (not_under i il e) (not_over i il e)
        ∙ at_most xs p ax fp i (omega arith) (order.le_of_eq (node xs i) p fin_i fp e) (λ k h m. order.not_le_of_lt p (node xs k) fp (ax.finites k m) (after_node k h m))

    pub node_upper : upper_step xs p ≡ i
    unfolding upper_step
    node_upper =
        inside_is xs p ax fp 1 (length xs - 1) (count_below xs p) (not_under i il e) (not_over i il e) ∙ count_is (λ x. lt x p) xs i below_node

  -- ---- inside the range Lower gives the last node at or below the reading, Upper the first at or above it
  module _ (u : lt p first ≡ false) (v : lt last p ≡ false) where
    fin_last : finite last ≡ true
    fin_last = ax.finites (length xs - 1) (omega (arith, enough))

    most : AtMost xs p (how_many (λ x. le x p) xs)
    most = count_splits (λ x. le x p) xs falls
      where
        falls : Falls (λ x. le x p) xs
        falls i j h m e = order.le_trans (node xs i) (node xs j) p (ax.finites i (omega arith)) (ax.finites j m) fp (climbs xs ax i j h m) e

    some : 0 < how_many (λ x. le x p) xs
    some = go (how_many (λ x. le x p) xs) most.from
      where
        go : (r : ℕ) → ((k : ℕ) → r ≤ k → k < length xs → le (node xs k) p ≡ false) → 0 < r
        go zero f = clash (le first p) (order.le_of_not_lt p first fp fin_first u) (f 0 zero-le (omega (arith, enough)))
        go (suc r) f = omega arith

    lower_is : lower_step xs p ≡ how_many (λ x. le x p) xs - 1
    unfolding lower_step
    lower_is = inside_is xs p ax fp 0 (length xs - 2) (how_many (λ x. le x p) xs - 1) u v

    upper_is : upper_step xs p ≡ count_below xs p
    unfolding upper_step
    upper_is = inside_is xs p ax fp 1 (length xs - 1) (count_below xs p) u v

    pub lower_at_or_below : le (node xs (lower_step xs p)) p ≡ true
    lower_at_or_below = most.before (lower_step xs p) (omega (arith, lower_is, some))

    pub lower_is_last : (k : ℕ) → lower_step xs p < k → k < length xs → lt p (node xs k) ≡ true
    lower_is_last k h m = order.lt_of_not_le p (node xs k) fp (ax.finites k m) (most.from k (omega (arith, lower_is, some)) m)

    pub few : count_below xs p < length xs
    few = go (count_below xs p) (below_count xs p ax fp).within (below_count xs p ax fp).before
      where
        go : (r : ℕ) → r ≤ length xs → ((k : ℕ) → k < r → lt (node xs k) p ≡ true) → r < length xs
        go r w b = each (eq-or-lt_of_le w)
          where
            each : (r ≡ length xs) ⊎ (r < length xs) → r < length xs
            each (inl q) = clash (lt last p) (b (length xs - 1) (omega (arith, enough))) v
            each (inr q) = q

    pub upper_at_or_above : le p (node xs (upper_step xs p)) ≡ true
    upper_at_or_above =
        let n : upper_step xs p < length xs = omega (arith, upper_is, few) in
        order.le_of_not_lt (node xs (upper_step xs p)) p (ax.finites (upper_step xs p) n) fp ((below_count xs p ax fp).from (upper_step xs p) (omega (arith, upper_is)) n)

    pub upper_is_first : (k : ℕ) → k < upper_step xs p → lt (node xs k) p ≡ true
    upper_is_first k h = (below_count xs p ax fp).before k (omega (arith, upper_is))

    -- where the two agree, inside the range, the reading is on that node
    agree_inside : lower_step xs p ≡ upper_step xs p → eq (node xs (upper_step xs p)) p ≡ true
    agree_inside q =
        let n : upper_step xs p < length xs = omega (arith, upper_is, few) in
        order.le_antisym (node xs (upper_step xs p)) p (ax.finites (upper_step xs p) n) fp (subst (λ (k : ℕ). le (node xs k) p ≡ true) q lower_at_or_below) upper_at_or_above

  -- ---- Lower and Upper agree exactly on nodes: with `node_lower` and `node_upper`, for every finite reading
  pub agree_on_nodes : lower_step xs p ≡ upper_step xs p → eq (node xs (upper_step xs p)) p ≡ true
  agree_on_nodes q = go (lt p first) (lt last p) refl refl
    where
      go : (s t : Bool) → lt p first ≡ s → lt last p ≡ t → eq (node xs (upper_step xs p)) p ≡ true
      go true t u v = absurd (let a : lower_step xs p ≡ 0 = under_lower xs p ax fp u in let b : upper_step xs p ≡ 1 = under_upper xs p ax fp u in omega arith)
      go false true u v = absurd (let a : lower_step xs p ≡ length xs - 2 = over_lower xs p ax fp u v in let b : upper_step xs p ≡ length xs - 1 = over_upper xs p ax fp u v in omega (arith, enough))
      go false false u v = agree_inside u v q
