-- The step index is the Rust's expression, and on a node each rule picks that node. Assumes nothing.
use Rattle.std.proofs.Common.{◌≡◌, ℕ, zero, suc, ◌+◌, ◌-◌, ◌<◌, min, Bool, true, false, cond, T, eqb, List, length, sym, refl, ap, ◌∙◌, subst, arith}
use lib.Ieee.{Float, binary64, lt, eq, sub, fits}
use lib.Ieee.Scale.{finite}
use Rattle.binary64.proofs.Order as order
use Rattle.binary64.proofs.Difference.{sub_level, sub_above, zero_below, not_below_zero}
use Rattle.checks.specs.Nodes.{node}
use Rattle.checks.specs.Passed.{Axis}
use Rattle.axis.specs.Steps.{lower_step, upper_step, step_index}
use Rattle.axis.specs.Cells.{lower_index}
use Rattle.rust.specs.Utils.{lower_by, upper_by}
use Rattle.axis.specs.Picks.{nearer, nearest_index}
use Rattle.axis.specs.Scaffolding.{rust_step}
use Rattle.axis.proofs.cells.Axes.{rises_all}
use Rattle.axis.proofs.picks.Steps.{lower_step-last, on_upper, on_lower, upper_step-first, past_first}
use Rattle.binary64.proofs.Held.{Held}
use Rattle.axis.proofs.picks.Laws.{node_lower, node_upper, at_lower}

-- ---- the step index is the Rust's expression
module _ (xs : List Float) (p : Float) (ax : Axis xs) (fp : finite p ≡ true) where
  lower_rust : lower_step xs p ≡ lower_by xs (lower_index xs p) p
  lower_rust = go (eq p (node xs (length xs - 1))) (eq p (node xs (lower_index xs p + 1))) refl refl
    where
      go : (s t : Bool) → eq p (node xs (length xs - 1)) ≡ s → eq p (node xs (lower_index xs p + 1)) ≡ t → lower_step xs p ≡ cond s (length xs - 1) (cond t (lower_index xs p + 1) (lower_index xs p))
      go true t u v = sym (lower_step-last xs p ax fp u)
      go false true u v = sym (on_upper xs p ax fp (lower_index xs p) refl u v)
      go false false u v = sym (on_lower xs p ax fp (lower_index xs p) refl u v)

  upper_rust : upper_step xs p ≡ upper_by xs (lower_index xs p) p
  upper_rust = go (eq p (node xs 0)) refl
    where
      go : (s : Bool) → eq p (node xs 0) ≡ s → upper_step xs p ≡ cond s 0 (lower_index xs p + 1)
      go true u = sym (upper_step-first xs p ax fp u)
      go false u = sym (past_first xs p ax fp (lower_index xs p) refl u)

  pub step_rust : (direction : ℕ) → step_index direction xs p ≡ rust_step direction xs p
  unfolding step_index rust_step
  step_rust direction = go (eqb direction 0)
    where
      go : (b : Bool) → cond b (lower_step xs p) (upper_step xs p) ≡ cond b (lower_by xs (lower_index xs p) p) (upper_by xs (lower_index xs p) p)
      go true = lower_rust
      go false = upper_rust

  -- ---- on a node each rule picks that node
  module _ (held : Held xs) (hp : T (fits binary64 p)) (i : ℕ) (il : i < length xs) (e : eq (node xs i) p ≡ true) where
    fin_i : finite (node xs i) ≡ true
    fin_i = ax.finites i il

    e' : eq p (node xs i) ≡ true
    e' = order.eq_sym (node xs i) p fin_i fp e

    pub nearest_on_node : nearest_index xs p ≡ i
    unfolding nearest_index
    nearest_on_node = go i il e e' (at_lower xs p ax fp i il e)
      where
        go : (j : ℕ) → j < length xs → eq (node xs j) p ≡ true → eq p (node xs j) ≡ true → lower_index xs p ≡ min (j - 1) (length xs - 2) → nearer xs (lower_index xs p) p ≡ j
        go zero l q q' a =
            let z : lower_index xs p ≡ 0 = omega arith in
            let m : 0 + 1 < length xs = omega (arith, ax.enough) in
            subst (λ (n : ℕ). nearer xs n p ≡ 0) (sym z)
            (ap (λ (b : Bool). cond b 0 (0 + 1))
            (zero_below (sub binary64 p (node xs 0)) (sub binary64 (node xs (0 + 1)) p) (sub_level p (node xs 0) fp (ax.finites 0 l) q')
            (sub_above (node xs (0 + 1)) p (ax.finites (0 + 1) m) fp (held (0 + 1)) hp (order.lt_of_eq_of_lt p (node xs 0) (node xs (0 + 1)) fp (ax.finites 0 l) (ax.finites (0 + 1) m) q' (ax.rises 0 m)))))
        go (suc j) l q q' a =
            let z : lower_index xs p ≡ j = omega arith in
            let m : j < length xs = omega arith in
            let k : j + 1 ≡ suc j = omega arith in
            subst (λ (n : ℕ). nearer xs n p ≡ suc j) (sym z)
            (ap (λ (b : Bool). cond b j (j + 1))
            (subst (λ (n : ℕ). lt (sub binary64 p (node xs j)) (sub binary64 (node xs n) p) ≡ false) (sym k)
            (not_below_zero (sub binary64 (node xs (suc j)) p) (sub binary64 p (node xs j)) (sub_level (node xs (suc j)) p (ax.finites (suc j) l) fp q)
            (sub_above p (node xs j) fp (ax.finites j m) hp (held j) (order.lt_of_lt_of_eq (node xs j) (node xs (suc j)) p (ax.finites j m) (ax.finites (suc j) l) fp (rises_all xs ax j (suc j) (omega arith) l) q))))
            ∙ k)

    pub step_on_node : (direction : ℕ) → step_index direction xs p ≡ i
    unfolding step_index
    step_on_node direction = go (eqb direction 0)
      where
        go : (b : Bool) → cond b (lower_step xs p) (upper_step xs p) ≡ i
        go true = node_lower xs p ax fp i il e
        go false = node_upper xs p ax fp i il e
