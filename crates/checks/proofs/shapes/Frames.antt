-- The rows that judge a shape, on plain values: which test gives which answer, and what is known where a row was passed.
use mathlib.Core.Path.{refl, ◌≡◌, sym, ap, ◌∙◌}
use mathlib.Core.Bool.{Bool, true, false}
use Prim.Native.Nat.{ℕ, ◌≤◌, ◌<◌}
use native.Mathlib.Omega.{arith}
use borrow.Author.Tests.{le-ltb, ltb-false, leb-true, leb-false}
use lib.Dec.{ltb, leb}
use lib.ListN.{length, get_or, get_or-eq_default}
use Rattle.answer.specs.Faults.{Fault, refusal, no_fault, good, when, ◌or◌, first_fault}
use Rattle.answer.proofs.Orders as orders
use Rattle.checks.specs.Numbers.{axes_count_fault, count_fault, product_fault}
use Rattle.layout.specs.Shape.{counts_of, size, total}
use Rattle.checks.specs.Shapes.{shape_fault}
use Rattle.checks.specs.Scaffolding.{Few, sums_of}
use Rattle.layout.specs.declared.Shape.{Shape}
use Rattle.checks.specs.declared.shapes.Holding.{Holding}
use Rattle.checks.proofs.counts.Rows.{axes_some, axes_four, count_enough, count_few}

-- ---- 1, 2
module _ (s : Shape) where
  abbrev counts : ℕ → Fault
  counts a = count_fault a (get_or s.counts a 0)

  abbrev large : Fault
  large = when (ltb 4096 (size (counts_of s))) (refusal 2 0 0)

  abbrev then : Fault
  then = first_fault counts 0 s.axes or large

  -- a shape that passes its three rows
  pub product_fine : no_fault ≡ axes_count_fault s.axes → no_fault ≡ first_fault counts 0 s.axes → size (counts_of s) ≤ 4096 → no_fault ≡ shape_fault s
  unfolding shape_fault product_fault
  product_fine p q h =
      orders.row_passed (ltb 4096 (size (counts_of s))) 1 0 0 (le-ltb 4096 (size (counts_of s)) h)
      ∙ sym (orders.or_good (first_fault counts 0 s.axes) large (orders.passed-no_fault (first_fault counts 0 s.axes) q))
      ∙ sym (orders.or_good (axes_count_fault s.axes) then (orders.passed-no_fault (axes_count_fault s.axes) p))

  pub counts_few : good (axes_count_fault s.axes) ≡ true → good (first_fault counts 0 s.axes) ≡ true → Few s
  counts_few p q = record {
    axes = axes_four s.axes p;
    each = λ a l. count_few a (get_or s.counts a 0) (orders.all_passed counts 0 s.axes q a (omega arith) (omega arith));
  }

  -- what a shape is that passes
  module _ (h : good (shape_fault s) ≡ true) where
    counted : good (axes_count_fault s.axes) ≡ true
    unfolding shape_fault product_fault
    counted = orders.first-passed (axes_count_fault s.axes) then h

    later : good then ≡ true
    unfolding shape_fault product_fault
    later = orders.second_passed (axes_count_fault s.axes) then h

    pub shape_some : 1 ≤ s.axes
    shape_some = axes_some s.axes counted

    each_count : good (first_fault counts 0 s.axes) ≡ true
    each_count = orders.first-passed (first_fault counts 0 s.axes) large later

    pub shape_counts : Few s
    shape_counts = counts_few counted each_count

    pub shape_four : s.axes ≤ 4
    shape_four = shape_counts.axes

    pub shape_few : (a : ℕ) → a < s.axes → get_or s.counts a 0 ≤ 64
    shape_few = shape_counts.each

    pub shape_enough : (a : ℕ) → a < s.axes → 2 ≤ get_or s.counts a 0
    shape_enough a l = count_enough a (get_or s.counts a 0) (orders.all_passed counts 0 s.axes each_count a (omega arith) (omega arith))

    -- there are as many counts as axes: one that is not there would be 0
    pub shape_long : s.axes ≤ length s.counts
    shape_long = go (leb s.axes (length s.counts)) (leb-true s.axes (length s.counts)) (leb-false s.axes (length s.counts))
      where
        go : (t : Bool) → (t ≡ true → s.axes ≤ length s.counts) → (t ≡ false → length s.counts < s.axes) → s.axes ≤ length s.counts
        go true y n = y refl
        go false y n = absurd (omega (arith, shape_enough (length s.counts) (n refl), get_or-eq_default s.counts 0 {n = length s.counts} (omega arith)))

    pub shape_size : size (counts_of s) ≤ 4096
    shape_size = ltb-false 4096 (size (counts_of s)) (orders.row_good (ltb 4096 (size (counts_of s))) 1 0 0 (orders.second_passed (first_fault counts 0 s.axes) large later))

-- ---- what a shape holds
module _ (s : Shape) (r : Holding) (e : r ≡ sums_of s) where
  pub holds_nodes : r.nodes ≡ total (counts_of s)
  holds_nodes = ap (λ (x : Holding). x.nodes) e

  pub holds_values : r.values ≡ size (counts_of s)
  holds_values = ap (λ (x : Holding). x.values) e
