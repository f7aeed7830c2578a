-- Demand 2 of the page of promises: the Rust's bits, the image's return; and stored bits at nodes. Assumes nothing.
use mathlib.Core.Path.{◌≡◌, refl, sym, ap, ap₂, ◌∙◌}
use mathlib.Core.Bool.{true, false}
use mathlib.Core.List.{List}
use Prim.Native.Nat.{ℕ, ◌+◌, ◌-◌, ◌*◌, ◌≤◌, ◌<◌}
use native.Mathlib.Omega.{arith}
use lib.ListN.{length, take, get_or}
use lib.Ieee.{Float, nan, inf, fin, eq}
use lib.Ieee.Scale.{finite}
use Rattle.answer.specs.Faults.{Fault, good, refusal}
use Rattle.answer.specs.Answer.{refused, answered, fine}
use Rattle.answer.specs.declared.Answer.{Answer}
use Rattle.answer.proofs.Orders as orders
use Rattle.answer.proofs.Answers.{then_good}
use Rattle.binary64.proofs.Order as order
use Rattle.layout.specs.Shape.{counts_of, size, total}
use Rattle.layout.specs.Layout.{axes_of, tabulate}
use Rattle.layout.specs.declared.Shape.{Shape}
use Rattle.layout.proofs.Walks.{length-axes}
use Rattle.checks.specs.Nodes.{node}
use Rattle.checks.specs.Passed.{Axis}
use Rattle.checks.proofs.table.Grids.{frame_shape}
use Rattle.axis.specs.Locations.{axis_location, uniform_location}
use Rattle.axis.proofs.cells.Axes.{climbs}
use Rattle.rust.proofs.Located.{rust_linear}
use Rattle.rust.specs.declared.AxisLocation.{AxisLocation}
use Rattle.rust.specs.Strategies.{linear_text, linear_uniform_text, nearest_text, step_text}
use Rattle.blend.proofs.Bits.{rust_linear_lem}
use Rattle.ninterp.specs.Tables.{indices}
use Rattle.ninterp.specs.Linears.{locations, interpolated}
use Rattle.ninterp.proofs.Demands.{nearest_demand, step_demand, nearest-stored, step-stored}
use Rattle.ninterp.proofs.LinearDemands.{linear_uniform-answers, linear_uniform_refuses, linear-stored}
use Rattle.ninterp.proofs.LinearFinite.{held-axis, linear_always, linear-given}
use Rattle.ninterp.proofs.Rusts.{linear_text_lem, linear_uniform_text_lem, nearest_text_lem, step_text_lem}
use Rattle.image.specs.Load.{load_answer}
use Rattle.image.specs.declared.LoadAnswer.{LoadAnswer}
use Rattle.writer.specs.Made.{values_at, image_length, count_in}
use Rattle.writer.specs.Write.{write_fault, write_answer, plain}
use Rattle.writer.proofs.Headers.{count_in_lem}
use Rattle.writer.proofs.Laws.{write_accepts}
use Rattle.writer.proofs.Trip.{answer_back, nodes_returned, values_returned}
use Rattle.laws.specs.Calls.{Floats, Table, axes, counts, axis, stored, linear, linear_uniform, nearest, step, write, load}
use Rattle.laws.specs.Promises.{Accepted, Within, InRange, Directed, Uniform, Elements, rust_of, Returns, OnNodes}
use Rattle.laws.proofs.Leaving.{zeros_past}
use Rattle.laws.proofs.Premises.{counted, passes, readings_pass, uniform_passes}

-- ---- the Rust's bits
module _ (t : Table) (ps : Floats) (e : List ℕ → Float) (g : Accepted t) (r : InRange t ps) (same : Elements t e) where
  abbrev over : (List Float → Float → AxisLocation) → Float
  over rule = rust_linear (locations rule (axes_of (counts t) t.nodes.list) ps.list) (stored t)

  -- what the text gives, over the locations of a rule
  over_text : (rule : List Float → Float → AxisLocation) (text : Float) → text ≡ interpolated rule (counts t) t.nodes.list t.values.list ps.list → over rule ≡ text
  unfolding interpolated
  over_text rule text q = rust_linear_lem (locations rule (axes_of (counts t) t.nodes.list) ps.list) (stored t) ∙ sym q

  text_is : over axis_location ≡ rust_of linear_text t e ps
  text_is = over_text axis_location (rust_of linear_text t e ps) (linear_text_lem t.shape t.nodes.list t.values.list ps.list (passes t g) (readings_pass t ps r) e same.same)

  pub linear_bits : (linear t ps ≡ answered (rust_of linear_text t e ps)) × (finite (rust_of linear_text t e ps) ≡ true)
  linear_bits = (
    linear-given t.shape t.nodes.list t.values.list ps.list (passes t g) (readings_pass t ps r) t.nodes.held t.values.held ∙ ap answered text_is,
    sym (ap finite text_is) ∙ linear_always t.shape t.nodes.list t.values.list ps.list (passes t g) (readings_pass t ps r) t.nodes.held t.values.held,
  )

  uniform_text_is : over uniform_location ≡ rust_of linear_uniform_text t e ps
  uniform_text_is = over_text uniform_location (rust_of linear_uniform_text t e ps) (linear_uniform_text_lem t.shape t.nodes.list t.values.list ps.list (passes t g) (readings_pass t ps r) e same.same)

  pub uniform_bits : Uniform t → (finite (rust_of linear_uniform_text t e ps) ≡ true → linear_uniform t ps ≡ answered (rust_of linear_uniform_text t e ps)) × (finite (rust_of linear_uniform_text t e ps) ≡ false → linear_uniform t ps ≡ refused (refusal 12 0 0))
  uniform_bits u = (
    λ f. linear_uniform-answers t.shape t.nodes.list t.values.list ps.list (passes t g) (readings_pass t ps r) (uniform_passes t g u) (ap finite uniform_text_is ∙ f) ∙ ap answered uniform_text_is,
    λ f. linear_uniform_refuses t.shape t.nodes.list t.values.list ps.list (passes t g) (readings_pass t ps r) (uniform_passes t g u) (ap finite uniform_text_is ∙ f),
  )

  pub nearest_bits : nearest t ps ≡ answered (rust_of nearest_text t e ps)
  nearest_bits =
      nearest_demand t.shape t.nodes.list t.values.list ps.list (passes t g) (readings_pass t ps r)
      ∙ ap answered (sym (nearest_text_lem t.shape t.nodes.list t.values.list ps.list (passes t g) (readings_pass t ps r) e same.same))

  pub step_bits : (ds : List ℕ) → Directed t ds → step ds t ps ≡ answered (rust_of (step_text ds) t e ps)
  step_bits ds d =
      step_demand t.shape t.nodes.list t.values.list ps.list (passes t g) (readings_pass t ps r) ds d.lent d.two
      ∙ ap answered (sym (step_text_lem t.shape t.nodes.list t.values.list ps.list (passes t g) (readings_pass t ps r) e same.same ds))

-- ---- an image written, and the first bytes of the output loaded
pub image_back : (t : Table) (out : List ℕ) (ns vs : List Float)
    → Accepted t → 40 + 8 * total (counts t) + 8 * size (counts t) ≤ length out → total (counts t) ≤ length ns → size (counts t) ≤ length vs
    → ((write t out).0 ≡ record { answer = fine; length = 40 + 8 * total (counts t) + 8 * size (counts t) }) × Returns t ns vs (load (take (write t out).0.length (write t out).1) ns vs)
unfolding write_answer image_length values_at
image_back t out ns vs a room n v = (
  ap₂ (λ (x : Answer) (l : ℕ). record { answer = x; length = l }) (then_good fault fine g) (orders.given-good fault (image_length t.shape) 0 g),
  record {
    answer = ap (λ (x : LoadAnswer). x.answer) loaded;
    axes_back = ap (λ (x : LoadAnswer). x.shape.axes) loaded ∙ plain-axes;
    counts_back = ap (λ (x : LoadAnswer). counts_of x.shape) loaded ∙ count_in_lem s (frame_shape s nodes values (passes t a).frame) t.four;
    zeros_past = λ b h. ap (λ (x : LoadAnswer). get_or x.shape.counts b 0) loaded ∙ plain_zeros b (omega (arith, ap (λ (x : LoadAnswer). x.shape.axes) loaded ∙ plain-axes, h));
    nodes_back = nodes_returned s t.four nodes values t.nodes.held t.values.held out g ns vs ln lv;
    values_back = values_returned s t.four nodes values t.nodes.held t.values.held out g ns vs ln lv;
  },
)
  where
    s : Shape
    s = t.shape

    nodes : List Float
    nodes = t.nodes.list

    values : List Float
    values = t.values.list

    fault : Fault
    fault = write_fault t.shape t.nodes.list t.values.list (length out)

    g : good (write_fault t.shape t.nodes.list t.values.list (length out)) ≡ true
    g = write_accepts t.shape t.nodes.list t.values.list (length out) (record { frame = (passes t a).frame; axes = (passes t a).axes; stored = (passes t a).stored; roomy = room })

    ln : length t.nodes.list ≤ length ns
    ln = omega (arith, a.nodes_lent, n)

    lv : length t.values.list ≤ length vs
    lv = omega (arith, a.values_lent, v)

    loaded : load_answer (take (write t out).0.length (write t out).1) (length ns) (length vs) ≡ record { answer = fine; shape = plain t.shape }
    loaded = answer_back s t.four nodes values t.nodes.held t.values.held out g ns vs ln lv

    plain_zeros : (b : ℕ) → axes t ≤ b → get_or (plain t.shape).counts b 0 ≡ 0
    plain_zeros b h = unfold plain count_in in zeros_past (counts t) b (omega (arith, h, counted t a.few))

    plain-axes : (plain t.shape).axes ≡ axes t
    plain-axes = unfold plain in refl

-- ---- readings that are nodes
eq_finite : (x p : Float) → finite x ≡ true → eq x p ≡ true → finite p ≡ true
unfolding eq
eq_finite nan p f e = orders.clash false f refl
eq_finite (inf s) p f e = orders.clash false f refl
eq_finite (fin s m k) nan f e = orders.clash false e refl
eq_finite (fin s m k) (inf z) f e = orders.clash false e refl
eq_finite (fin s m k) (fin z n l) f e = refl

module _ (t : Table) (ps : Floats) (at : ℕ → ℕ) (g : Accepted t) (o : OnNodes t ps at) where
  module _ (a : ℕ) (l : a < axes t) where
    ax : Axis (axis t a)
    ax = g.rising a l

    p_finite : finite (get_or ps.list a nan) ≡ true
    p_finite = eq_finite (node (axis t a) (at a)) (get_or ps.list a nan) (ax.finites (at a) (o.there a l)) (o.on a l)

    at_finite : finite (node (axis t a) (at a)) ≡ true
    at_finite = ax.finites (at a) (o.there a l)

    -- a node is not below the first, nor above the last
    on-axis : Within t a (get_or ps.list a nan)
    on-axis =
        let n : 2 ≤ length (axis t a) = ax.enough in
        let i : at a < length (axis t a) = o.there a l in
        record {
          finite_reading = p_finite;
          low = order.le_trans (node (axis t a) 0) (node (axis t a) (at a)) (get_or ps.list a nan) (ax.finites 0 (omega arith)) at_finite p_finite
              (climbs (axis t a) ax 0 (at a) (omega arith) i) (order.le_of_eq (node (axis t a) (at a)) (get_or ps.list a nan) at_finite p_finite (o.on a l));
          high = order.le_trans (get_or ps.list a nan) (node (axis t a) (at a)) (node (axis t a) (length (axis t a) - 1)) p_finite at_finite (ax.finites (length (axis t a) - 1) (omega arith))
              (order.le_of_eq (get_or ps.list a nan) (node (axis t a) (at a)) p_finite at_finite (order.eq_sym (node (axis t a) (at a)) (get_or ps.list a nan) at_finite p_finite (o.on a l)))
              (climbs (axis t a) ax (at a) (length (axis t a) - 1) (omega arith) (omega arith));
        }

  on_range : InRange t ps
  on_range = record { lent = o.lent; each = on-axis }

  -- the index list of the nodes
  nodes_at : answered (stored t (indices (λ a xs p. at a) (axes_of (counts t) t.nodes.list) ps.list)) ≡ answered (stored t (tabulate (axes t) at))
  unfolding indices
  nodes_at = ap (λ (n : ℕ). answered (stored t (tabulate n at))) (length-axes (counts t) t.nodes.list ∙ counted t g.few)

  pub stored_bits : (linear t ps ≡ answered (stored t (tabulate (axes t) at)))
      × ((nearest t ps ≡ answered (stored t (tabulate (axes t) at))) × ((ds : List ℕ) → Directed t ds → step ds t ps ≡ answered (stored t (tabulate (axes t) at))))
  stored_bits =
      let p = passes t g in
      let r = readings_pass t ps on_range in
      let held = held-axis (counts t) t.nodes.list t.nodes.held in (
        linear-stored t.shape t.nodes.list t.values.list ps.list p r at o.there o.on ∙ nodes_at,
        (
          nearest-stored t.shape t.nodes.list t.values.list ps.list p r held ps.held at o.there o.on ∙ nodes_at,
          λ ds d. step-stored t.shape t.nodes.list t.values.list ps.list p r held ps.held at o.there o.on ds d.lent d.two ∙ nodes_at,
        ),
      )
