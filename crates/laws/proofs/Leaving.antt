-- Demand 3 of the page of promises: what a slice leaves is an accepted table, with the values that its rule gives along the axis alone; where a slice by
-- LinearUniform is refused 12. Assumes nothing.
use mathlib.Core.Path.{◌≡◌, refl, sym, ap, ◌∙◌, subst}
use mathlib.Core.Bool.{Bool, true, false}
use mathlib.Core.List.{List, [], ◌∷◌}
use Prim.Native.Nat.{ℕ, zero, suc, ◌+◌, ◌-◌, ◌≤◌, ◌<◌}
use native.Mathlib.Omega.{arith}
use borrow.Author.Tests.{ltb-true, ltb-false}
use lib.Dec.{T, ltb}
use lib.ListN.{length, take, drop, get_or, get_or-eq_default}
use lib.Ieee.{Float, nan, binary64, mul, sub, fits}
use lib.Ieee.Scale.{finite}
use lib.Ieee.Fits.{nan-fits, add-fits}
use Rattle.answer.specs.Faults.{Fault, refusal, good, filled_into, first_fault}
use Rattle.answer.specs.Answer.{refused, fine}
use Rattle.answer.proofs.Orders as orders
use Rattle.answer.proofs.Answers.{then_good, then_bad}
use Rattle.answer.proofs.Outputs.{given_front}
use Rattle.binary64.proofs.Held.{Held, held-take, held-drop}
use Rattle.layout.specs.Shape.{counts_of, size}
use Rattle.layout.specs.Layout.{place, table, tabulate, indices_at, Inside, insert, without, slice_values, nodes_without}
use Rattle.layout.specs.declared.Shape.{Shape}
use Rattle.layout.proofs.Layouts.{get_d_tabulate, length-tabulate}
use Rattle.layout.proofs.Removals.{slice_law}
use Rattle.checks.specs.Passed.{Axis}
use Rattle.checks.specs.Numbers.{range_fault, result_fault, results_fault}
use Rattle.checks.proofs.table.Grids.{length-axis}
use Rattle.checks.proofs.numbers.Rows.{result_fine, result_wild}
use Rattle.orders.specs.Orders.{nearest_slice_fault, step_slice_fault}
use Rattle.rust.specs.Utils.{locate_axis}
use Rattle.rust.specs.Strategies.{linear_text, linear_uniform_text, nearest_text, step_text}
use Rattle.rust.specs.declared.AxisLocation.{AxisLocation}
use Rattle.rust.specs.declared.AxisLocation.TheVariants.{Exact, Between}
use Rattle.rust.proofs.Linears.{uniform_at, linear-located, linear_uniform-located}
use Rattle.axis.specs.Locations.{axis_location, uniform_location}
use Rattle.axis.specs.Picks.{nearest_rule, step_rule}
use Rattle.axis.proofs.Texts.{axis_text, step_index_text, nearest_index_text, uniform_axis_text}
use Rattle.blend.specs.Blend.{one, blended, sliced}
use Rattle.blend.proofs.Bits.{rust_linear_lem}
use Rattle.slices.specs.Slices.{shape_without, slice_answer, rule_slice, nearest_slice, nearest_sliced, step_slice, step_sliced}
use Rattle.slices.specs.LinearSlices.{along_first, linear_values, linear_slice_fault, linear_uniform_slice_fault, linear_slice, linear_sliced, linear_uniform_slice, linear_uniform_sliced}
use Rattle.slices.specs.declared.SliceAnswer.{SliceAnswer}
use Rattle.slices.proofs.Refusals.{made_shape}
use Rattle.slices.proofs.Alongs.{length-along}
use Rattle.writer.proofs.Back.{held-append}
use Rattle.laws.specs.Calls.{Table, counts, axis, stored, slice_linear, slice_linear_uniform, slice_nearest, slice_step}
use Rattle.laws.specs.Promises.{Sliceable, Uniform, Text, along, ZerosPast, After, Left, Values}
use Rattle.laws.proofs.Left as over
use Rattle.laws.proofs.Left.{Cut}
use Rattle.laws.proofs.SliceLaw as law
use Rattle.laws.proofs.LinearLaw.{along_law, linear_cut, linear_uniform_cut, linear_first_only, linear_uniform_first_only}
use Rattle.laws.proofs.Makes.{linear_uniform_slice_made}
use Rattle.laws.proofs.LinearMakes.{results_good}
use Rattle.laws.proofs.Premises.{accepted, passes, range_passes, uniform_passes}
use Rattle.laws.proofs.Slicing.{slice_good, left_is, only_first}

-- ---- the numbers that a slice gives are numbers of the format
held-tabulate : (n : ℕ) (h : ℕ → Float) → ((i : ℕ) → T (fits binary64 (h i))) → Held (tabulate n h)
held-tabulate zero h f i = nan-fits binary64
held-tabulate (suc n) h f zero = f 0
held-tabulate (suc n) h f (suc i) = held-tabulate n (λ j. h (suc j)) (λ j. f (suc j)) i

held-without : (k : ℕ) (cs : List ℕ) (nodes : List Float) → Held nodes → Held (nodes_without k cs nodes)
unfolding nodes_without
held-without k [] nodes h = h
held-without zero (c ∷ cs) nodes h = held-drop c nodes h
held-without (suc k) (c ∷ cs) nodes h = held-append (take c nodes) (nodes_without k cs (drop c nodes)) (held-take c nodes h) (held-without k cs (drop c nodes) (held-drop c nodes h))

held_slice : (k i : ℕ) (cs : List ℕ) (values : List Float) → Held values → Held (slice_values k i cs values)
unfolding slice_values table
held_slice k i cs values h = held-tabulate (size (without k cs)) (λ t. get_or values (place cs (insert k i (indices_at (without k cs) t))) nan) (λ t. h (place cs (insert k i (indices_at (without k cs) t))))

held-sliced : (l : AxisLocation) (cs is : List ℕ) (values : List Float) → Held values → T (fits binary64 (sliced l (table cs values) is))
unfolding table blended
held-sliced (Exact node) cs is values h = h (place cs (node ∷ is))
held-sliced (Between lower frac) cs is values h =
    add-fits binary64 (mul binary64 (get_or values (place cs (lower ∷ is)) nan) (sub binary64 one frac)) (mul binary64 (get_or values (place cs ((lower + 1) ∷ is)) nan) frac)

held-along : (l : AxisLocation) (cs : List ℕ) (values : List Float) → Held values → Held (along_first l cs values)
unfolding along_first
held-along l cs values h = held-tabulate (size (without 0 cs)) (λ t. sliced l (table cs values) (indices_at (without 0 cs) t)) (λ t. held-sliced l cs (indices_at (without 0 cs) t) values h)

-- ---- what a made slice leaves is an accepted table
four_counts : (s : Shape) (k : ℕ) → length (shape_without s k).counts ≡ 4
unfolding shape_without
four_counts s k = refl

-- counts past the axes are zeros where a list of no more counts is laid into four places
pub zeros_past : (xs : List ℕ) (a : ℕ) → length xs ≤ a → get_or (tabulate 4 (λ b. get_or xs b 0)) a 0 ≡ 0
zeros_past xs a h = go (ltb a 4) (ltb-true a 4) (ltb-false a 4)
  where
    go : (b : Bool) → (b ≡ true → a < 4) → (b ≡ false → 4 ≤ a) → get_or (tabulate 4 (λ b. get_or xs b 0)) a 0 ≡ 0
    go true y n = get_d_tabulate 4 a (λ b. get_or xs b 0) 0 (y refl) ∙ get_or-eq_default xs 0 {n = a} h
    go false y n = get_or-eq_default (tabulate 4 (λ b. get_or xs b 0)) 0 {n = a} (omega (arith, n refl, length-tabulate 4 (λ b. get_or xs b 0)))

zeros_left : (s : Shape) (k : ℕ) → s.axes ≡ suc (length (without k (counts_of s))) → ZerosPast (shape_without s k)
unfolding shape_without
zeros_left s k e a h = zeros_past (without k (counts_of s)) a (omega (arith, e, h))

leaves : (t : Table) (k : ℕ) (p : Float) (xs : List Float) → Cut t.shape t.nodes.list t.values.list k p xs → Held xs → (f : Fault) (out : List Float) → good f ≡ true
    → Left t k (slice_answer f t.shape k, filled_into f xs out)
leaves t k p xs cut held f out g = record { t' = rest; after = after; accepted = accepted rest (over.slice_accepted cut); zeros = zeros_left t.shape k (over.count_left cut) }
  where
    rest : Table
    rest = record {
      shape = shape_without t.shape k;
      four = four_counts t.shape k;
      nodes = record { list = nodes_without k (counts t) t.nodes.list; held = held-without k (counts t) t.nodes.list t.nodes.held };
      values = record { list = xs; held = held };
    }

    after : After t k (slice_answer f t.shape k, filled_into f xs out) rest
    after = record {
      shape = sym (made_shape f t.shape k g);
      nodes = refl;
      values = sym (ap (λ (n : ℕ). take n (filled_into f xs out)) (ap size (over.counts_left cut) ∙ sym cut.long) ∙ given_front f xs out g);
    }

module _ (t : Table) (k : ℕ) (p : Float) (out : List Float) where
  pub nearest_leaves : (slice_nearest t k p out).0.answer.number ≡ 0 → Left t k (slice_nearest t k p out)
  unfolding nearest_slice nearest_sliced rule_slice
  nearest_leaves h =
      let g = slice_good _ t.shape k h in
      leaves t k p _ (law.cut (law.nearest_made t.shape t.nodes.list t.values.list k p (length out) g)) (held_slice k (nearest_rule k (axis t k) p) (counts t) t.values.list t.values.held) _ out g

  pub step_leaves : (ds : List ℕ) → (slice_step ds t k p out).0.answer.number ≡ 0 → Left t k (slice_step ds t k p out)
  unfolding step_slice step_sliced rule_slice
  step_leaves ds h =
      let g = slice_good _ t.shape k h in
      leaves t k p _ (law.cut (law.step_made t.shape t.nodes.list t.values.list ds k p (length out) g)) (held_slice k (step_rule ds k (axis t k) p) (counts t) t.values.list t.values.held) _ out g

-- ---- the two linears: a rule whose slices are made on the first axis alone, by an order of checks for each axis
module _ (rule : List Float → Float → AxisLocation) (t : Table) (p : Float) (out : List Float) (fault : ℕ → Fault) (first : (a : ℕ) → good (fault a) ≡ true → a ≡ 0)
    (cut : good (fault 0) ≡ true → Cut t.shape t.nodes.list t.values.list 0 p (linear_values rule t.shape t.nodes.list t.values.list p)) where
  abbrev values' : List Float
  values' = linear_values rule t.shape t.nodes.list t.values.list p

  abbrev made : ℕ → SliceAnswer × List Float
  made a = (slice_answer (fault a) t.shape a, filled_into (fault a) (linear_values rule t.shape t.nodes.list t.values.list p) out)

  first_leaves : (k : ℕ) → good (fault k) ≡ true → Left t k (slice_answer (fault k) t.shape k, filled_into (fault k) (linear_values rule t.shape t.nodes.list t.values.list p) out)
  unfolding linear_values
  first_leaves = only_first fault first (λ a. Left t a (made a)) (λ g. leaves t 0 p values' (cut g) (held-along (rule (axis t 0) p) (counts t) t.values.list t.values.held) (fault 0) out g)

pub linear_leaves : (t : Table) (k : ℕ) (p : Float) (out : List Float) → (slice_linear t k p out).0.answer.number ≡ 0 → Left t k (slice_linear t k p out)
unfolding linear_slice linear_sliced
linear_leaves t k p out h =
    first_leaves axis_location t p out (λ a. linear_slice_fault t.shape t.nodes.list t.values.list a p (length out)) (λ a. linear_first_only t.shape t.nodes.list t.values.list a p (length out))
    (linear_cut t.shape t.nodes.list t.values.list p (length out)) k (slice_good _ t.shape k h)

pub linear_uniform_leaves : (t : Table) (k : ℕ) (p : Float) (out : List Float) → (slice_linear_uniform t k p out).0.answer.number ≡ 0 → Left t k (slice_linear_uniform t k p out)
unfolding linear_uniform_slice linear_uniform_sliced
linear_uniform_leaves t k p out h =
    first_leaves uniform_location t p out (λ a. linear_uniform_slice_fault t.shape t.nodes.list t.values.list a p (length out)) (λ a. linear_uniform_first_only t.shape t.nodes.list t.values.list a p (length out))
    (linear_uniform_cut t.shape t.nodes.list t.values.list p (length out)) k (slice_good _ t.shape k h)

-- ---- its values are those of the rule along the axis alone
-- a location on the first axis, at an index list of the others
one-axis : (l : AxisLocation) (f : List ℕ → Float) (is : List ℕ) → sliced l (λ js. f (insert 0 (get_or js 0 0) is)) [] ≡ sliced l f is
one-axis (Exact node) f is = refl
one-axis (Between lower frac) f is = refl

module _ (t : Table) (p : Float) (is : List ℕ) where
  abbrev ahead : List ℕ → Float
  ahead js = stored t (insert 0 (get_or js 0 0) is)

  linear-along : Axis (axis t 0) → finite p ≡ true → 2 ≤ get_or (counts t) 0 0 → along linear_text t 0 p is ≡ sliced (axis_location (axis t 0) p) (stored t) is
  linear-along ax fp c =
      let n : 2 ≤ length (axis t 0) = ax.enough in
      linear-located (axis t 0 ∷ []) (p ∷ []) (get_or (counts t) 0 0 ∷ []) ahead (omega (arith, n), (c, tt))
      ∙ rust_linear_lem (locate_axis (axis t 0) p ∷ []) ahead
      ∙ ap (λ (l : AxisLocation). sliced l ahead []) (axis_text (axis t 0) p ax fp)
      ∙ one-axis (axis_location (axis t 0) p) (stored t) is

  pub uniform_along : along linear_uniform_text t 0 p is ≡ sliced (uniform_location (axis t 0) p) (stored t) is
  uniform_along =
      linear_uniform-located (axis t 0 ∷ []) (p ∷ []) (get_or (counts t) 0 0 ∷ []) ahead refl refl
      ∙ rust_linear_lem (uniform_at (axis t 0) p ∷ []) ahead
      ∙ ap (λ (l : AxisLocation). sliced l ahead []) (uniform_axis_text (axis t 0) p)
      ∙ one-axis (uniform_location (axis t 0) p) (stored t) is

-- the counts of what is left, and an index list of it
module _ {t t' : Table} {k : ℕ} {p : Float} {xs : List Float} (cut : Cut t.shape t.nodes.list t.values.list k p xs) (f : Fault) (out : List Float) (g : good f ≡ true)
    (after : After t k (slice_answer f t.shape k, filled_into f xs out) t') (is : List ℕ) (w : Inside is (counts t')) where
  counts_is : counts t' ≡ without k (counts t)
  counts_is = left_is cut f out g after (λ s ns vs. counts_of s) ∙ over.counts_left cut

  inside_left : Inside is (without k (counts t))
  inside_left = subst (Inside is) counts_is w

  stored_left : stored t' is ≡ table (without k (counts t)) xs is
  stored_left = left_is cut f out g after (λ s ns vs. table (counts_of s) vs is) ∙ ap (λ (cs : List ℕ). table cs xs is) (over.counts_left cut)

  good-axis : Axis (axis t k)
  good-axis = cut.ready.grid.axes k (over.in_cs cut)

pub nearest_values : Values (λ k. nearest_text) slice_nearest
unfolding nearest_slice nearest_sliced rule_slice nearest_text
nearest_values t t' k p out h after is w =
    let g : good (nearest_slice_fault t.shape t.nodes.list t.values.list k p (length out)) ≡ true = slice_good _ t.shape k h in
    let c = law.cut (law.nearest_made t.shape t.nodes.list t.values.list k p (length out) g) in
    stored_left c _ out g after is w
    ∙ slice_law k (nearest_rule k (axis t k) p) (counts t) is t.values.list (inside_left c _ out g after is w)
    ∙ ap (λ (i : ℕ). stored t (insert k i is)) (sym (nearest_index_text (axis t k) p (good-axis c _ out g after is w) c.finite_point))

pub step_values : (ds : List ℕ) → Values (λ k. step_text (get_or ds k 0 ∷ [])) (slice_step ds)
unfolding step_slice step_sliced rule_slice step_text
step_values ds t t' k p out h after is w =
    let g : good (step_slice_fault t.shape t.nodes.list t.values.list ds k p (length out)) ≡ true = slice_good _ t.shape k h in
    let c = law.cut (law.step_made t.shape t.nodes.list t.values.list ds k p (length out) g) in
    stored_left c _ out g after is w
    ∙ slice_law k (step_rule ds k (axis t k) p) (counts t) is t.values.list (inside_left c _ out g after is w)
    ∙ ap (λ (i : ℕ). stored t (insert k i is)) (sym (step_index_text (axis t k) p (good-axis c _ out g after is w) c.finite_point (get_or ds k 0)))

-- of a rule whose slices are made on the first axis alone, and whose text along it is known
module _ (rule : List Float → Float → AxisLocation) (text : Text) (t t' : Table) (p : Float) (out : List Float) (fault : ℕ → Fault) (first : (a : ℕ) → good (fault a) ≡ true → a ≡ 0)
    (cut : good (fault 0) ≡ true → Cut t.shape t.nodes.list t.values.list 0 p (linear_values rule t.shape t.nodes.list t.values.list p)) (is : List ℕ) (w : Inside is (counts t'))
    (known : good (fault 0) ≡ true → along text t 0 p is ≡ sliced (rule (axis t 0) p) (stored t) is) where
  first_value : (k : ℕ) → good (fault k) ≡ true → After t k (slice_answer (fault k) t.shape k, filled_into (fault k) (linear_values rule t.shape t.nodes.list t.values.list p) out) t' → stored t' is ≡ along text t k p is
  unfolding linear_values
  first_value =
      only_first fault first (λ a. After t a (made rule t p out fault first cut a) t' → stored t' is ≡ along text t a p is)
      (λ g after.
      stored_left (cut g) (fault 0) out g after is w
      ∙ along_law (rule (axis t 0) p) (counts t) is t.values.list (inside_left (cut g) (fault 0) out g after is w)
      ∙ sym (known g))

pub linear_values_lem : Values (λ k. linear_text) slice_linear
unfolding linear_slice linear_sliced
linear_values_lem t t' k p out h after is w =
    first_value axis_location linear_text t t' p out (λ a. linear_slice_fault t.shape t.nodes.list t.values.list a p (length out)) (λ a. linear_first_only t.shape t.nodes.list t.values.list a p (length out))
    (linear_cut t.shape t.nodes.list t.values.list p (length out)) is w known k (slice_good _ t.shape k h) after
  where
    known : good (linear_slice_fault t.shape t.nodes.list t.values.list 0 p (length out)) ≡ true → along linear_text t 0 p is ≡ sliced (axis_location (axis t 0) p) (stored t) is
    known g =
        let c = linear_cut t.shape t.nodes.list t.values.list p (length out) g in
        let ax : Axis (axis t 0) = c.ready.grid.axes 0 (over.in_cs c) in
        let n : 2 ≤ length (axis t 0) = ax.enough in
        linear-along t p is ax c.finite_point (omega (arith, n, length-axis (counts t) t.nodes.list c.ready.grid.flat 0 (over.in_cs c)))

pub linear_uniform_values : Values (λ k. linear_uniform_text) slice_linear_uniform
unfolding linear_uniform_slice linear_uniform_sliced
linear_uniform_values t t' k p out h after is w =
    first_value uniform_location linear_uniform_text t t' p out (λ a. linear_uniform_slice_fault t.shape t.nodes.list t.values.list a p (length out)) (λ a. linear_uniform_first_only t.shape t.nodes.list t.values.list a p (length out))
    (linear_uniform_cut t.shape t.nodes.list t.values.list p (length out)) is w (λ g. uniform_along t p is) k (slice_good _ t.shape k h) after

-- ---- where a slice by LinearUniform is refused 12
module _ (t : Table) (p : Float) (out : List Float) (s : Sliceable t 0 p out) (u : Uniform t) where
  abbrev left : List ℕ
  left = without 0 (counts t)

  abbrev results : List Float
  results = linear_values uniform_location t.shape t.nodes.list t.values.list p

  inside : good (range_fault 0 (axis t 0) p) ≡ true
  inside = range_passes t 0 p (s.accepted.rising 0 s.there) 0 s.inside

  abbrev row : ℕ → Fault
  row j = result_fault j (get_or results j nan)

  fault_is : linear_uniform_slice_fault t.shape t.nodes.list t.values.list 0 p (length out) ≡ results_fault results
  fault_is = linear_uniform_slice_made t.shape t.nodes.list t.values.list (passes t s.accepted) s.many p (length out) s.inside.finite_reading inside s.room (uniform_passes t s.accepted u)

  long : length results ≡ size left
  long = unfold linear_values in length-along (uniform_location (axis t 0) p) (counts t) t.values.list

  result_at : (i : ℕ) → i < size left → get_or results i nan ≡ along linear_uniform_text t 0 p (indices_at left i)
  result_at i l = tabulated ∙ sym (uniform_along t p (indices_at left i))
    where
      tabulated : get_or results i nan ≡ sliced (uniform_location (axis t 0) p) (stored t) (indices_at left i)
      tabulated = unfold linear_values along_first in get_d_tabulate (size left) i (λ j. sliced (uniform_location (axis t 0) p) (stored t) (indices_at left j)) nan l

  pub uniform_slice_made : ((i : ℕ) → i < size (without 0 (counts t)) → finite (along linear_uniform_text t 0 p (indices_at (without 0 (counts t)) i)) ≡ true) → (slice_linear_uniform t 0 p out).0.answer ≡ fine
  unfolding linear_uniform_slice slice_answer
  uniform_slice_made each =
      then_good _ fine (ap good fault_is ∙ results_good results (λ i l. let m : i < size left = omega (arith, l, long) in ap finite (result_at i m) ∙ each i m))

  pub uniform_slice_overflows : (i : ℕ) → i < size (without 0 (counts t)) → ((j : ℕ) → j < i → finite (along linear_uniform_text t 0 p (indices_at (without 0 (counts t)) j)) ≡ true)
      → finite (along linear_uniform_text t 0 p (indices_at (without 0 (counts t)) i)) ≡ false → (slice_linear_uniform t 0 p out).0.answer ≡ refused (refusal 12 0 i)
  unfolding linear_uniform_slice slice_answer
  uniform_slice_overflows i l each wild = then_bad _ fine (ap good twelve ∙ orders.bad_refused 11 0 i) ∙ ap refused twelve
    where
      bad : row i ≡ refusal 12 0 i
      bad = sym (result_wild i (get_or results i nan) (ap finite (result_at i l) ∙ wild))

      before : (j : ℕ) → j < i → good (row (0 + j)) ≡ true
      before j m =
          let e : 0 + j ≡ j = omega arith in
          subst (λ (k : ℕ). good (row k) ≡ true) (sym e) (orders.passed-no_fault (row j) (result_fine j (get_or results j nan) (ap finite (result_at j (omega (arith, l, m))) ∙ each j m)))

      from_start : results_fault results ≡ first_fault row 0 (size left - 0)
      from_start = unfold results_fault in orders.first_begin row 0 (length results) (size left) (omega (arith, long))

      skip : first_fault row 0 (size left - 0) ≡ first_fault row i (size left - i)
      skip = orders.first_skip row 0 i (size left) (omega (arith, l)) before ∙ ap (λ (k : ℕ). first_fault row k (size left - k)) zero_on
        where
          zero_on : 0 + i ≡ i
          zero_on = omega arith

      twelve : linear_uniform_slice_fault t.shape t.nodes.list t.values.list 0 p (length out) ≡ refusal 12 0 i
      twelve = fault_is ∙ from_start ∙ skip ∙ orders.first_stop row i (size left) l (ap good bad ∙ orders.bad_refused 11 0 i) ∙ bad
