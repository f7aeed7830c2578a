-- A good axis and a finite reading: the nodes rise all along, and the lower index names the reading's cell. Assumes nothing.
use Rattle.std.proofs.Common.{◌≡◌, ℕ, zero, suc, ◌+◌, ◌-◌, ◌<◌, ◌≤◌, min, true, false, ◌⊎◌, List, length, sym, ap, subst, inl, inr, zero-le, eq-or-lt_of_le, add-one, arith}
use lib.Ieee.{Float, lt, le}
use lib.Ieee.Scale.{finite}
use Rattle.answer.proofs.Orders.{clash}
use Rattle.binary64.proofs.Order as order
use Rattle.checks.specs.Nodes.{node}
use Rattle.checks.specs.Passed.{Axis}
use Rattle.axis.specs.Cells.{count_below, lower_index}
use Rattle.axis.proofs.cells.Cells.{cell_inside}
use Rattle.axis.proofs.cells.Counts.{Splits, Falls, count_is, count_splits}

module _ (xs : List Float) (ax : Axis xs) where
  pub rises_all : (i j : ℕ) → i < j → j < length xs → lt (node xs i) (node xs j) ≡ true
  rises_all i zero h l = absurd (omega arith)
  rises_all i (suc j) h l = go (eq-or-lt_of_le le_j) (λ k. rises_all i j k (omega arith))
    where
      le_j : i ≤ j
      le_j = omega arith

      step : lt (node xs j) (node xs (suc j)) ≡ true
      step = rw (← add-one) (ax.rises j (omega arith))

      go : (i ≡ j) ⊎ (i < j) → (i < j → lt (node xs i) (node xs j) ≡ true) → lt (node xs i) (node xs (suc j)) ≡ true
      go (inl e) f = subst (λ (n : ℕ). lt (node xs n) (node xs (suc j)) ≡ true) (sym e) step
      go (inr k) f = order.lt_trans (node xs i) (node xs j) (node xs (suc j)) (ax.finites i (omega arith)) (ax.finites j (omega arith)) (ax.finites (suc j) l) (f k) step

  pub climbs : (i j : ℕ) → i ≤ j → j < length xs → le (node xs i) (node xs j) ≡ true
  climbs i j h l = go (eq-or-lt_of_le h)
    where
      go : (i ≡ j) ⊎ (i < j) → le (node xs i) (node xs j) ≡ true
      go (inl e) = subst (λ (n : ℕ). le (node xs i) (node xs n) ≡ true) e (order.le_refl (node xs i) (ax.finites i (omega arith)))
      go (inr k) = order.le_of_lt (node xs i) (node xs j) (ax.finites i (omega arith)) (ax.finites j l) (rises_all i j k l)

-- below p, and at or below p
abbrev pub Below : List Float → Float → ℕ → Type 0
Below xs p r = Splits (λ x. lt x p) xs r

abbrev pub AtMost : List Float → Float → ℕ → Type 0
AtMost xs p r = Splits (λ x. le x p) xs r

module _ (xs : List Float) (p : Float) (ax : Axis xs) (fp : finite p ≡ true) where
  -- one node settles all on a side of it
  pub all_before : (m : ℕ) → m < length xs → lt (node xs m) p ≡ true → (k : ℕ) → k ≤ m → lt (node xs k) p ≡ true
  all_before m l h k km = order.lt_of_le_of_lt (node xs k) (node xs m) p (ax.finites k (omega arith)) (ax.finites m l) fp (climbs xs ax k m km l) h

  pub all_from : (m : ℕ) → le p (node xs m) ≡ true → (k : ℕ) → m ≤ k → k < length xs → lt (node xs k) p ≡ false
  all_from m h k mk l =
      order.not_lt_of_le (node xs k) p (ax.finites k l) fp
      (order.le_trans p (node xs m) (node xs k) fp (ax.finites m (omega arith)) (ax.finites k l) h (climbs xs ax m k mk l))

  pub below_count : Below xs p (count_below xs p)
  below_count = count_splits (λ x. lt x p) xs falls
    where
      falls : Falls (λ x. lt x p) xs
      falls i j l l' e = all_before j l' e i l

  pub lt_of_not_le : (m : ℕ) → m < length xs → le p (node xs m) ≡ false → lt (node xs m) p ≡ true
  lt_of_not_le m l h = order.lt_of_not_le (node xs m) p (ax.finites m l) fp h

  pub le_of_not_lt : (m : ℕ) → m < length xs → lt (node xs m) p ≡ false → le p (node xs m) ≡ true
  le_of_not_lt m l h = order.le_of_not_lt (node xs m) p (ax.finites m l) fp h

  -- ---- the lower index, from the count
  pub lower_at : (r : ℕ) → Below xs p r → lower_index xs p ≡ min (r - 1) (length xs - 2)
  unfolding lower_index
  lower_at r s = ap (λ (n : ℕ). min (n - 1) (length xs - 2)) (count_is (λ x. lt x p) xs r s)

  pub lower_is : lower_index xs p ≡ min (count_below xs p - 1) (length xs - 2)
  lower_is = lower_at (count_below xs p) below_count

  -- ---- a reading above the first node is above the lower node, one up to the last node is up to the upper node
  pub cell_low : lt (node xs 0) p ≡ true → lt (node xs (lower_index xs p)) p ≡ true
  cell_low h =
      let s = below_count in
      let e : lower_index xs p ≡ min (count_below xs p - 1) (length xs - 2) = lower_is in
      let n : 2 ≤ length xs = ax.enough in
      s.before (lower_index xs p) (some (count_below xs p) s.from e)
    where
      some : (r : ℕ) → ((k : ℕ) → r ≤ k → k < length xs → lt (node xs k) p ≡ false) → lower_index xs p ≡ min (r - 1) (length xs - 2) → lower_index xs p < r
      some zero f e = clash (lt (node xs 0) p) h (f 0 zero-le (let n : 2 ≤ length xs = ax.enough in omega arith))
      some (suc r) f e = omega arith

  pub cell_high : le p (node xs (length xs - 1)) ≡ true → le p (node xs (lower_index xs p + 1)) ≡ true
  cell_high h =
      let s = below_count in
      let e : lower_index xs p ≡ min (count_below xs p - 1) (length xs - 2) = lower_is in
      let n : 2 ≤ length xs = ax.enough in
      le_of_not_lt (lower_index xs p + 1) (cell_inside xs p n) (s.from (lower_index xs p + 1) (few (count_below xs p) s.within s.before e) (cell_inside xs p n))
    where
      few : (r : ℕ) → r ≤ length xs → ((k : ℕ) → k < r → lt (node xs k) p ≡ true) → lower_index xs p ≡ min (r - 1) (length xs - 2) → r ≤ lower_index xs p + 1
      few r w b e = go (eq-or-lt_of_le w)
        where
          go : (r ≡ length xs) ⊎ (r < length xs) → r ≤ lower_index xs p + 1
          go (inl q) =
              let n : 2 ≤ length xs = ax.enough in
              clash (lt (node xs (length xs - 1)) p) (b (length xs - 1) (omega arith)) (order.not_lt_of_le (node xs (length xs - 1)) p (ax.finites (length xs - 1) (omega arith)) fp h)
          go (inr q) = let n : 2 ≤ length xs = ax.enough in omega arith

  -- ---- a reading up to the first node is in the first cell, one from the last node on in the last
  pub lowest : le p (node xs 0) ≡ true → 0 ≡ lower_index xs p
  lowest h =
      let e : lower_index xs p ≡ min (0 - 1) (length xs - 2) = lower_at 0 (record { within = zero-le; before = λ k l. absurd (omega arith); from = λ k l l'. all_from 0 h k l l' }) in
      omega arith

  pub highest : le (node xs (length xs - 1)) p ≡ true → length xs - 2 ≡ lower_index xs p
  highest h =
      let s = below_count in
      let e : lower_index xs p ≡ min (count_below xs p - 1) (length xs - 2) = lower_is in
      let n : 2 ≤ length xs = ax.enough in
      let m : length xs - 1 ≤ count_below xs p = many (count_below xs p) s.from in
      omega arith
    where
      last_but_one : (k : ℕ) → k + 1 < length xs → lt (node xs k) p ≡ true
      last_but_one k l =
          order.lt_of_lt_of_le (node xs k) (node xs (length xs - 1)) p (ax.finites k (omega arith)) (ax.finites (length xs - 1) (omega arith)) fp
          (rises_all xs ax k (length xs - 1) (omega arith) (omega arith)) h

      many : (r : ℕ) → ((k : ℕ) → r ≤ k → k < length xs → lt (node xs k) p ≡ false) → length xs - 1 ≤ r
      many r f = go (eq-or-lt_of_le either)
        where
          either : min r (length xs - 1) ≤ length xs - 1
          either = omega arith

          go : (min r (length xs - 1) ≡ length xs - 1) ⊎ (min r (length xs - 1) < length xs - 1) → length xs - 1 ≤ r
          go (inl q) = omega arith
          go (inr q) = clash (lt (node xs r) p) (last_but_one r (omega arith)) (f r (omega arith) (omega arith))

-- ---- low and high bracket the count: each node before low is below the reading, and none from high on is
pub record Bracket (xs : List Float) (p : Float) (low high : ℕ) : Type 0 where
  pub low_le : low ≤ high
  pub high_lt : high < length xs
  pub before : (k : ℕ) → k < low → lt (node xs k) p ≡ true
  pub from : (k : ℕ) → high ≤ k → k < length xs → lt (node xs k) p ≡ false

module _ (xs : List Float) (p : Float) (ax : Axis xs) (fp : finite p ≡ true) where
  pub bracket_start : le (node xs (length xs - 1)) p ≡ false → Bracket xs p 0 (length xs - 1)
  bracket_start h =
      let n : 2 ≤ length xs = ax.enough in
      let last : finite (node xs (length xs - 1)) ≡ true = ax.finites (length xs - 1) (omega arith) in
      record {
        low_le = zero-le;
        high_lt = omega arith;
        before = λ k l. absurd (omega arith);
        from = all_from xs p ax fp (length xs - 1) (order.le_of_lt p (node xs (length xs - 1)) fp last (order.lt_of_not_le p (node xs (length xs - 1)) fp last h));
      }

  module _ (low high : ℕ) (b : Bracket xs p low high) where
    module _ (m : ℕ) (lm : low ≤ m) (mh : m < high) where
      pub bracket_up : le p (node xs m) ≡ false → Bracket xs p (m + 1) high
      bracket_up h = record {
        low_le = omega arith;
        high_lt = b.high_lt;
        before = λ k l. all_before xs p ax fp m (omega arith) (lt_of_not_le xs p ax fp m (omega arith) h) k (omega arith);
        from = b.from;
      }

      pub bracket_down : le p (node xs m) ≡ true → Bracket xs p low m
      bracket_down h = record { low_le = lm; high_lt = omega arith; before = b.before; from = all_from xs p ax fp m h }

    -- where the loop stops low is the count
    met : high ≤ low → lower_index xs p ≡ min (low - 1) (length xs - 2)
    met h = lower_at xs p ax fp low (record { within = omega arith; before = b.before; from = λ k l l'. b.from k (omega arith) l' })

    pub met_above : high ≤ low → low - 1 ≡ lower_index xs p
    met_above h = let e : lower_index xs p ≡ min (low - 1) (length xs - 2) = met h in let n : 2 ≤ length xs = ax.enough in omega arith

    pub met_first : high ≤ low → low ≤ 0 → low ≡ lower_index xs p
    met_first h z = let e : lower_index xs p ≡ min (low - 1) (length xs - 2) = met h in omega arith

    -- the node at low is not below the reading, so the last test cannot fail
    pub met_never : high ≤ low → le p (node xs low) ≡ false → low ≡ lower_index xs p
    met_never h z = clash (lt (node xs low) p) (lt_of_not_le xs p ax fp low (omega arith) z) (b.from low h (omega arith))
