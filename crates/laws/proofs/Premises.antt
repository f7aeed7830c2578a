-- The premises of the page of promises are what the rows of the table of numbers pass, both ways. Assumes nothing.
use mathlib.Core.Path.{◌≡◌, refl, sym, ap, ◌∙◌}
use mathlib.Core.Bool.{true}
use mathlib.Core.List.{List, []}
use Prim.Native.Nat.{ℕ, ◌-◌, ◌≤◌, ◌<◌}
use native.Mathlib.Omega.{arith}
use borrow.Author.Tests.{ltb-false}
use lib.Dec.{ltb}
use lib.ListN.{length, get_or}
use lib.Seq.{length-take-le}
use lib.Ieee.{Float, nan, lt}
use lib.Ieee.Scale.{finite}
use Rattle.answer.specs.Faults.{good, refusal, first_fault}
use Rattle.answer.proofs.Orders as orders
use Rattle.binary64.proofs.Order as order
use Rattle.checks.specs.Nodes.{node}
use Rattle.checks.specs.Passed.{Axis}
use Rattle.checks.specs.Scaffolding.{Grid}
use Rattle.checks.specs.Shapes.{shape_fault}
use Rattle.checks.specs.Numbers.{length_fault, range_fault, ranges_fault, value_fault, values_fault, direction_fault, directions_fault, readings_fault, default_fault, axes_uniform_fault}
use Rattle.checks.proofs.lent.Rows.{direction_fine, length_same, length-passed}
use Rattle.checks.proofs.lists.Rows.{readings_finite}
use Rattle.checks.proofs.ranges.Rows.{range_inside}
use Rattle.checks.proofs.values.Rows.{value_good, values_finite}
use Rattle.checks.proofs.shapes.Frames.{shape_some, shape_four}
use Rattle.checks.proofs.table.Grids.{frame_shape, frame_axes, frame_values, grid_of}
use Rattle.layout.specs.Layout.{axes_of}
use Rattle.layout.proofs.Walks.{length-axes}
use Rattle.rust.specs.Utils.{Validated, ok, non_uniform}
use Rattle.rust.specs.Strategies.{validate_linear_uniform}
use Rattle.axis.proofs.Texts.{uniform_row, validate_axes_text}
use Rattle.ninterp.proofs.Demands as passed
use Rattle.laws.specs.Calls.{Floats, Table, axes, counts, axis}
use Rattle.laws.specs.Promises.{Accepted, Within, InRange, Directed, Uniform}
use Rattle.laws.proofs.Accepts.{accepts}

-- ---- an accepted table
module _ (t : Table) where
  pub counted : axes t ≤ 4 → length (counts t) ≡ axes t
  counted h = length-take-le (axes t) t.shape.counts (omega (arith, h, t.four))

  pub passes : Accepted t → passed.Accepted t.shape t.nodes.list t.values.list
  passes g = accepts t.shape t.nodes.list t.values.list (counted g.few) g.some g.few g.nodes_lent g.small g.values_lent g.rising values_good
    where
      values_good : good (values_fault t.values.list) ≡ true
      values_good = unfold values_fault in (ap good (orders.none_good (value_fault t.values.list) 0 (length t.values.list) (λ i l m. value_good t.values.list i (g.finite_values i (omega (arith, m))))) ∙ orders.good-no_fault)

  pub accepted : passed.Accepted t.shape t.nodes.list t.values.list → Accepted t
  accepted p =
      record {
        some = shape_some t.shape judged;
        few = shape_four t.shape judged;
        small = grid.small;
        nodes_lent = grid.flat;
        values_lent = frame_values t.shape t.nodes.list t.values.list p.frame;
        rising = at;
        finite_values = values_finite t.values.list p.stored;
      }
    where
      judged : good (shape_fault t.shape) ≡ true
      judged = frame_shape t.shape t.nodes.list t.values.list p.frame

      grid : Grid (counts t) t.nodes.list
      grid = grid_of t.shape t.nodes.list t.values.list p.frame p.axes

      at : (a : ℕ) → a < axes t → Axis (axis t a)
      at a l = grid.axes a (omega (arith, l, frame_axes t.shape t.nodes.list t.values.list p.frame))

  -- ---- a reading in range
  module _ (a : ℕ) (p : Float) (ax : Axis (axis t a)) where
    last : length (axis t a) - 1 < length (axis t a)
    last = let n : 2 ≤ length (axis t a) = ax.enough in omega arith

    first : 0 < length (axis t a)
    first = let n : 2 ≤ length (axis t a) = ax.enough in omega arith

    pub range_passes : (n : ℕ) → Within t a p → good (range_fault n (axis t a) p) ≡ true
    range_passes n w =
        orders.passed-no_fault (range_fault n (axis t a) p)
        (range_inside n (axis t a) p
        (order.not_lt_of_le p (node (axis t a) 0) w.finite_reading (ax.finites 0 first) w.low)
        (order.not_lt_of_le (node (axis t a) (length (axis t a) - 1)) p (ax.finites (length (axis t a) - 1) last) w.finite_reading w.high))

    pub within : (n : ℕ) → finite p ≡ true → good (range_fault n (axis t a) p) ≡ true → Within t a p
    unfolding range_fault
    within n f r = record {
      finite_reading = f;
      low = order.le_of_not_lt p (node (axis t a) 0) f (ax.finites 0 first) (orders.row_good (lt p (node (axis t a) 0)) 10 n 0 (orders.first-passed _ _ r));
      high = order.le_of_not_lt (node (axis t a) (length (axis t a) - 1)) p (ax.finites (length (axis t a) - 1) last) f (orders.row_good (lt (node (axis t a) (length (axis t a) - 1)) p) 10 n 1 (orders.second_passed _ _ r));
    }

  module _ (ps : Floats) where
    pub readings_pass : InRange t ps → passed.InRange t.shape t.nodes.list ps.list
    readings_pass r = record {
      count = r.lent;
      finites = λ a l. (r.each a l).finite_reading;
      low = λ a l. (r.each a l).low;
      high = λ a l. (r.each a l).high;
    }

    pub in_range : Accepted t → good (length_fault 2 (axes t) (length ps.list)) ≡ true → good (readings_fault ps.list) ≡ true → good (ranges_fault (counts t) t.nodes.list ps.list) ≡ true → InRange t ps
    unfolding ranges_fault
    in_range g n f r = record { lent = lent; each = each }
      where
        lent : length ps.list ≡ axes t
        lent = length-passed 2 (axes t) (length ps.list) n

        each : (a : ℕ) → a < axes t → Within t a (get_or ps.list a nan)
        each a l =
            within a (get_or ps.list a nan) (g.rising a l) a (readings_finite ps.list f a (omega (arith, l, lent)))
            (orders.all_passed (λ b. range_fault b (get_or (axes_of (counts t) t.nodes.list) b []) (get_or ps.list b nan)) 0 (length (counts t)) r a (omega arith) (omega (arith, l, counted g.few)))

  -- ---- uniform axes: the Rust's own check is 8 for all axes
  uniform_row_lem : Accepted t → axes_uniform_fault (counts t) t.nodes.list ≡ uniform_row (validate_linear_uniform (axes_of (counts t) t.nodes.list))
  unfolding axes_uniform_fault
  uniform_row_lem g =
      ap (first_fault (λ a. default_fault a (axis t a)) 0) (sym (length-axes (counts t) t.nodes.list))
      ∙ validate_axes_text (axes_of (counts t) t.nodes.list) (λ a l. g.rising a (omega (arith, l, length-axes (counts t) t.nodes.list, counted g.few)))

  pub uniform_passes : Accepted t → Uniform t → good (axes_uniform_fault (counts t) t.nodes.list) ≡ true
  uniform_passes g u = ap good (uniform_row_lem g ∙ ap uniform_row u) ∙ orders.good-no_fault

  pub uniform : Accepted t → good (axes_uniform_fault (counts t) t.nodes.list) ≡ true → Uniform t
  uniform g h = go (validate_linear_uniform (axes_of (counts t) t.nodes.list)) (sym (ap good (uniform_row_lem g)) ∙ h)
    where
      go : (v : Validated) → good (uniform_row v) ≡ true → v ≡ ok
      go ok e = refl
      go (non_uniform dim index) e = orders.clash (good (refusal 8 dim index)) e (orders.bad_refused 7 dim index)

  -- ---- directions
  module _ (ds : List ℕ) where
    pub directed_lent : Directed t ds → good (length_fault 3 (axes t) (length ds)) ≡ true
    directed_lent d = orders.passed-no_fault _ (length_same 3 (axes t) (length ds) d.lent)

    pub directed_passes : Directed t ds → good (directions_fault ds) ≡ true
    unfolding directions_fault
    directed_passes d =
        ap good (orders.none_good (λ a. direction_fault a (get_or ds a 0)) 0 (length ds)
        (λ a l m. orders.passed-no_fault (direction_fault a (get_or ds a 0)) (direction_fine a (get_or ds a 0) (let q : get_or ds a 0 < 2 = d.two a (omega (arith, m, d.lent)) in omega arith))))
        ∙ orders.good-no_fault

    pub directed : good (length_fault 3 (axes t) (length ds)) ≡ true → good (directions_fault ds) ≡ true → Directed t ds
    unfolding directions_fault direction_fault
    directed n d = record { lent = lent; two = two }
      where
        lent : length ds ≡ axes t
        lent = length-passed 3 (axes t) (length ds) n

        two : (a : ℕ) → a < axes t → get_or ds a 0 < 2
        two a l =
            let h : get_or ds a 0 ≤ 1 = ltb-false 1 (get_or ds a 0) (orders.row_good (ltb 1 (get_or ds a 0)) 8 a 0 (orders.all_passed (λ b. direction_fault b (get_or ds b 0)) 0 (length ds) d a (omega arith) (omega (arith, l, lent)))) in
            omega (arith, h)
