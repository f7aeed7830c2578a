-- The last node at or below a reading and the first at or above it, from the lower index. Assumes nothing.
use Rattle.std.proofs.Common.{◌≡◌, ℕ, zero, suc, ◌+◌, ◌-◌, ◌<◌, ◌≤◌, min, Bool, true, false, ◌⊎◌, List, length, sym, refl, ap, ◌∙◌, subst, inl, inr, zero-le, eq-or-lt_of_le, arith}
use lib.Ieee.{Float, lt, le, eq}
use lib.Ieee.Scale.{finite}
use Rattle.answer.proofs.Orders.{clash}
use Rattle.binary64.proofs.Order as order
use Rattle.checks.specs.Nodes.{node}
use Rattle.checks.specs.Passed.{Axis}
use Rattle.axis.specs.Steps.{by_range, lower_step, upper_step}
use Rattle.axis.specs.Cells.{how_many, count_below, lower_index}
use Rattle.axis.proofs.cells.Counts.{count_is}
use Rattle.axis.proofs.cells.Cells.{cell_inside}
use Rattle.axis.proofs.cells.Axes.{rises_all, climbs, AtMost, below_count, lower_is, cell_low, cell_high, lowest, highest}

module _ (xs : List Float) (p : Float) (ax : Axis xs) (fp : finite p ≡ true) where
  abbrev first : Float
  first = node xs 0

  abbrev last : Float
  last = node xs (length xs - 1)

  enough : 2 ≤ length xs
  enough = ax.enough

  fin_at : (k : ℕ) → k < length xs → finite (node xs k) ≡ true
  fin_at k l = ax.finites k l

  fin_last : finite last ≡ true
  fin_last = fin_at (length xs - 1) (omega (arith, enough))

  fin_first : finite first ≡ true
  fin_first = fin_at 0 (omega (arith, enough))

  -- ---- where the reading lies on the axis
  pub below_is : (a b c : ℕ) → lt p first ≡ true → by_range xs p a b c ≡ a
  below_is a b c h = simp h

  pub above_is : (a b c : ℕ) → lt p first ≡ false → lt last p ≡ true → by_range xs p a b c ≡ b
  above_is a b c h k = simp (h, k)

  pub inside_is : (a b c : ℕ) → lt p first ≡ false → lt last p ≡ false → by_range xs p a b c ≡ c
  inside_is a b c h k = simp (h, k)

  pub under_lower : lt p first ≡ true → lower_step xs p ≡ 0
  unfolding lower_step
  under_lower h = below_is 0 (length xs - 2) (how_many (λ x. le x p) xs - 1) h

  pub under_upper : lt p first ≡ true → upper_step xs p ≡ 1
  unfolding upper_step
  under_upper h = below_is 1 (length xs - 1) (count_below xs p) h

  pub over_lower : lt p first ≡ false → lt last p ≡ true → lower_step xs p ≡ length xs - 2
  unfolding lower_step
  over_lower h k = above_is 0 (length xs - 2) (how_many (λ x. le x p) xs - 1) h k

  pub over_upper : lt p first ≡ false → lt last p ≡ true → upper_step xs p ≡ length xs - 1
  unfolding upper_step
  over_upper h k = above_is 1 (length xs - 1) (count_below xs p) h k

  -- ---- the nodes at or below p are the first r, where node r - 1 is the last of them
  pub at_most : (r : ℕ) → r + 1 ≤ length xs → le (node xs r) p ≡ true → ((k : ℕ) → r < k → k < length xs → le (node xs k) p ≡ false) → how_many (λ x. le x p) xs - 1 ≡ r
  at_most r l h f =
      let e : how_many (λ x. le x p) xs ≡ r + 1 = count_is (λ x. le x p) xs (r + 1) splits in
      omega arith
    where
      splits : AtMost xs p (r + 1)
      splits = record {
        within = l;
        before = λ k m. order.le_trans (node xs k) (node xs r) p (fin_at k (omega arith)) (fin_at r (omega arith)) fp (climbs xs ax k r (omega arith) (omega arith)) h;
        from = λ k m m'. f k (omega arith) m';
      }

  -- nodes after one that is at or above p, and not equal to it, are above p
  after : (j : ℕ) → lt p (node xs j) ≡ true → (k : ℕ) → j ≤ k → k < length xs → le (node xs k) p ≡ false
  after j h k l m =
      order.not_le_of_lt p (node xs k) fp (fin_at k m)
      (order.lt_of_lt_of_le p (node xs j) (node xs k) fp (fin_at j (omega arith)) (fin_at k m) h (climbs xs ax j k l m))

  -- ---- Lower
  pub lower_step-last : eq p last ≡ true → length xs - 1 ≡ lower_step xs p
  unfolding lower_step
  lower_step-last h =
      sym (inside_is 0 (length xs - 2) (how_many (λ x. le x p) xs - 1) not_under not_over
      ∙ at_most (length xs - 1) (omega (arith, enough)) (order.le_of_eq last p fin_last fp (order.eq_sym p last fp fin_last h)) (λ k l m. absurd (omega arith)))
    where
      not_under : lt p first ≡ false
      not_under = order.not_lt_of_le p first fp fin_first (order.le_trans first last p fin_first fin_last fp (climbs xs ax 0 (length xs - 1) zero-le (omega (arith, enough))) (order.le_of_eq last p fin_last fp (order.eq_sym p last fp fin_last h)))

      not_over : lt last p ≡ false
      not_over = order.lt_of_eq last p fin_last fp (order.eq_sym p last fp fin_last h)

  module _ (h : eq p last ≡ false) where
    abbrev l : ℕ
    l = lower_index xs p

    fits : l + 1 < length xs
    fits = cell_inside xs p enough

    -- on the upper node of the cell
    lower_step_upper : eq p (node xs (l + 1)) ≡ true → l + 1 ≡ lower_step xs p
    unfolding lower_step
    lower_step_upper k =
        sym (inside_is 0 (length xs - 2) (how_many (λ x. le x p) xs - 1) not_under not_over
        ∙ at_most (l + 1) (omega (arith, fits)) at_it (λ j m m'. above_it j m m'))
      where
        at_it : le (node xs (l + 1)) p ≡ true
        at_it = order.le_of_eq (node xs (l + 1)) p (fin_at (l + 1) fits) fp (order.eq_sym p (node xs (l + 1)) fp (fin_at (l + 1) fits) k)

        not_under : lt p first ≡ false
        not_under = order.not_lt_of_le p first fp fin_first (order.le_trans first (node xs (l + 1)) p fin_first (fin_at (l + 1) fits) fp (climbs xs ax 0 (l + 1) zero-le fits) at_it)

        not_over : lt last p ≡ false
        not_over =
            order.not_lt_of_le last p fin_last fp
            (order.le_trans p (node xs (l + 1)) last fp (fin_at (l + 1) fits) fin_last (order.le_of_eq p (node xs (l + 1)) fp (fin_at (l + 1) fits) k) (climbs xs ax (l + 1) (length xs - 1) (omega (arith, fits)) (omega (arith, enough))))

        above_it : (j : ℕ) → l + 1 < j → j < length xs → le (node xs j) p ≡ false
        above_it j m m' =
            order.not_le_of_lt p (node xs j) fp (fin_at j m')
            (order.lt_of_eq_of_lt p (node xs (l + 1)) (node xs j) fp (fin_at (l + 1) fits) (fin_at j m') k (rises_all xs ax (l + 1) j m m'))

    -- on neither of the two
    module _ (k : eq p (node xs (l + 1)) ≡ false) where
      under_case : lt p first ≡ true → l ≡ lower_step xs p
      under_case u =
          sym (under_lower u ∙ lowest xs p ax fp (order.le_of_lt p first fp fin_first u))

      over_case : lt p first ≡ false → lt last p ≡ true → l ≡ lower_step xs p
      over_case u v =
          sym (over_lower u v ∙ highest xs p ax fp (order.le_of_lt last p fin_last fp v))

      inside_case : lt p first ≡ false → lt last p ≡ false → l ≡ lower_step xs p
      unfolding lower_step
      inside_case u v =
          sym (inside_is 0 (length xs - 2) (how_many (λ x. le x p) xs - 1) u v
          ∙ at_most l (omega (arith, fits)) (at_it (order.lt_or_eq_of_le first p fin_first fp (order.le_of_not_lt p first fp fin_first u))) (λ j m m'. after (l + 1) strictly j (omega arith) m'))
        where
          at_it : (lt first p ≡ true) ⊎ (eq first p ≡ true) → le (node xs l) p ≡ true
          at_it (inl w) = order.le_of_lt (node xs l) p (fin_at l (omega (arith, fits))) fp (cell_low xs p ax fp w)
          at_it (inr w) =
              subst (λ (n : ℕ). le (node xs n) p ≡ true) (lowest xs p ax fp (order.le_of_eq p first fp fin_first (order.eq_sym first p fin_first fp w))) (order.le_of_eq first p fin_first fp w)

          strictly : lt p (node xs (l + 1)) ≡ true
          strictly = go (order.lt_or_eq_of_le p (node xs (l + 1)) fp (fin_at (l + 1) fits) (cell_high xs p ax fp (order.le_of_not_lt last p fin_last fp v)))
            where
              go : (lt p (node xs (l + 1)) ≡ true) ⊎ (eq p (node xs (l + 1)) ≡ true) → lt p (node xs (l + 1)) ≡ true
              go (inl w) = w
              go (inr w) = clash (eq p (node xs (l + 1))) w k

      lower_step_lower : l ≡ lower_step xs p
      lower_step_lower = go (lt p first) (lt last p) refl refl
        where
          go : (s t : Bool) → lt p first ≡ s → lt last p ≡ t → l ≡ lower_step xs p
          go true t u v = under_case u
          go false true u v = over_case u v
          go false false u v = inside_case u v

  -- ---- Upper
  pub upper_step-first : eq p first ≡ true → 0 ≡ upper_step xs p
  unfolding upper_step
  upper_step-first h =
      sym (inside_is 1 (length xs - 1) (count_below xs p) (order.lt_of_eq p first fp fin_first h) not_over ∙ none)
    where
      not_over : lt last p ≡ false
      not_over = order.not_lt_of_le last p fin_last fp (order.le_trans p first last fp fin_first fin_last (order.le_of_eq p first fp fin_first h) (climbs xs ax 0 (length xs - 1) zero-le (omega (arith, enough))))

      none : count_below xs p ≡ 0
      none = count_is (λ x. lt x p) xs 0 (record {
        within = zero-le;
        before = λ k m. absurd (omega arith);
        from = λ k m m'. order.not_lt_of_le (node xs k) p (fin_at k m') fp (order.le_trans p first (node xs k) fp fin_first (fin_at k m') (order.le_of_eq p first fp fin_first h) (climbs xs ax 0 k zero-le m'));
      })

  upper_step_other : eq p first ≡ false → lower_index xs p + 1 ≡ upper_step xs p
  unfolding upper_step
  upper_step_other h = go (lt p first) (lt last p) refl refl
    where
      go : (s t : Bool) → lt p first ≡ s → lt last p ≡ t → lower_index xs p + 1 ≡ upper_step xs p
      go true t u v =
          let e : 0 ≡ lower_index xs p = lowest xs p ax fp (order.le_of_lt p first fp fin_first u) in
          let q : upper_step xs p ≡ 1 = under_upper u in
          omega arith
      go false true u v =
          let e : length xs - 2 ≡ lower_index xs p = highest xs p ax fp (order.le_of_lt last p fin_last fp v) in
          let q : upper_step xs p ≡ length xs - 1 = over_upper u v in
          omega (arith, enough)
      go false false u v =
          let s = below_count xs p ax fp in
          let e : lower_index xs p ≡ min (count_below xs p - 1) (length xs - 2) = lower_is xs p ax fp in
          let q : upper_step xs p ≡ count_below xs p = inside_is 1 (length xs - 1) (count_below xs p) u v in
          let a : 0 < count_below xs p = some (count_below xs p) s.from (order.lt_or_eq_of_le first p fin_first fp (order.le_of_not_lt p first fp fin_first u)) in
          let b : count_below xs p < length xs = few (count_below xs p) s.within s.before v in
          omega (arith, enough)
        where
          some : (r : ℕ) → ((k : ℕ) → r ≤ k → k < length xs → lt (node xs k) p ≡ false) → (lt first p ≡ true) ⊎ (eq first p ≡ true) → 0 < r
          some zero f (inl w) = clash (lt first p) w (f 0 zero-le (omega (arith, enough)))
          some zero f (inr w) = clash (eq p first) (order.eq_sym first p fin_first fp w) h
          some (suc r) f w = omega arith

          few : (r : ℕ) → r ≤ length xs → ((k : ℕ) → k < r → lt (node xs k) p ≡ true) → lt last p ≡ false → r < length xs
          few r w b v = each (eq-or-lt_of_le w)
            where
              each : (r ≡ length xs) ⊎ (r < length xs) → r < length xs
              each (inl q) = clash (lt last p) (b (length xs - 1) (omega (arith, enough))) v
              each (inr q) = q

-- ---- the same of an index that is the lower index
module _ (xs : List Float) (p : Float) (ax : Axis xs) (fp : finite p ≡ true) (r : ℕ) (e : r ≡ lower_index xs p) where
  pub on_upper : eq p (node xs (length xs - 1)) ≡ false → eq p (node xs (r + 1)) ≡ true → r + 1 ≡ lower_step xs p
  on_upper h k = ap (λ (n : ℕ). n + 1) e ∙ lower_step_upper xs p ax fp h (subst (λ (n : ℕ). eq p (node xs (n + 1)) ≡ true) e k)

  pub on_lower : eq p (node xs (length xs - 1)) ≡ false → eq p (node xs (r + 1)) ≡ false → r ≡ lower_step xs p
  on_lower h k = e ∙ lower_step_lower xs p ax fp h (subst (λ (n : ℕ). eq p (node xs (n + 1)) ≡ false) e k)

  pub past_first : eq p (node xs 0) ≡ false → r + 1 ≡ upper_step xs p
  past_first h = ap (λ (n : ℕ). n + 1) e ∙ upper_step_other xs p ax fp h
