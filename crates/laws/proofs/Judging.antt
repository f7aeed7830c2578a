-- Demand 1 of the page of promises: every call judges, tells and keeps. Assumes nothing.
use mathlib.Core.Path.{◌≡◌, refl, sym, ap, ap₂, ◌∙◌, subst}
use mathlib.Core.Bool.{Bool, true, false}
use mathlib.Core.List.{List}
use Prim.Native.Nat.{ℕ, ◌≤◌}
use native.Mathlib.Omega.{arith}
use lib.ListN.{length, take, drop, length-append, length-drop}
use lib.Ieee.{Float}
use Rattle.answer.specs.Faults.{Fault, good, given, filled_into}
use Rattle.answer.specs.Answer.{answered, fine, ◌then◌}
use Rattle.answer.specs.declared.Answer.{Answer}
use Rattle.answer.proofs.Orders as orders
use Rattle.answer.proofs.Answers.{Told, quiet, then_good, then_number}
use Rattle.answer.proofs.Outputs.{refused_keeps, filled_good, given_front, beyond_kept}
use Rattle.layout.specs.Shape.{counts_of, size, total, no_shape}
use Rattle.layout.specs.Layout.{without}
use Rattle.layout.specs.declared.Shape.{Shape}
use Rattle.checks.proofs.lent.Rows.{length-passed, room_passed}
use Rattle.checks.proofs.table.Grids.{frame_nodes, frame_values}
use Rattle.orders.specs.Orders.{lookup_fault, step_fault, linear_uniform_fault, nearest_slice_fault, step_slice_fault, nearest_front, step_front, linear_front, linear_uniform_front, point_fault}
use Rattle.axis.specs.Locations.{axis_location, uniform_location}
use Rattle.axis.specs.Picks.{nearest_rule, step_rule}
use Rattle.rust.specs.declared.AxisLocation.{AxisLocation}
use Rattle.ninterp.specs.Records.{record_size, record_fault}
use Rattle.slices.specs.Slices.{rule_slice, slice_answer}
use Rattle.slices.specs.LinearSlices.{along_first, linear_values, linear_rest, linear_slice_fault, linear_uniform_slice_fault}
use Rattle.slices.specs.Scaffolding.{Ready}
use Rattle.slices.proofs.Sliced.{Fronted, nearest_fronted, nearest_ready, step_fronted, step_ready, step_lent, step_directions, linear_fronted, linear_ready, linear-first, uniform_linear, point_taken, point_range}
use Rattle.slices.proofs.Refusals.{no_shape_lem}
use Rattle.slices.proofs.Alongs.{length-along}
use Rattle.image.specs.Load.{rooms_fault, load_fault, load_answer}
use Rattle.image.specs.Image.{nodes_in, values_in}
use Rattle.image.specs.Fields.{shape_of}
use Rattle.image.proofs.Laws.{load_means}
use Rattle.writer.specs.Made.{image_length, image_of}
use Rattle.writer.specs.Write.{write_fault, write_answer}
use Rattle.writer.proofs.Images.{length_image}
use Rattle.writer.proofs.Laws.{write_means}
use Rattle.writer.proofs.Trip.{loaded_frame}
use Rattle.ninterp.proofs.Demands as passed
use Rattle.laws.specs.Calls.{Floats, Table, axes, counts, axis, load, write}
use Rattle.laws.specs.Promises.{Accepted, InRange, Directed, Uniform, Plain, Keeps, Sliceable, Loaded}
use Rattle.laws.specs.Primitives.{Tells}
use Rattle.laws.proofs.Left.{Cut, front_accepted}
use Rattle.laws.proofs.SliceLaw as law
use Rattle.laws.proofs.Primitives.{quiet_told, refused_bad}
use Rattle.laws.proofs.Premises.{accepted, in_range, within, uniform, directed}

-- ---- the lookups
module _ (t : Table) (ps : Floats) where
  pub lookup_judged_lem : good (lookup_fault t.shape t.nodes.list t.values.list ps.list) ≡ true → Accepted t × InRange t ps
  unfolding lookup_fault
  lookup_judged_lem h =
      let h1 = orders.second_passed _ _ h in
      let h2 = orders.second_passed _ _ h1 in
      let h3 = orders.second_passed _ _ h2 in
      let h4 = orders.second_passed _ _ h3 in
      let g : Accepted t = accepted t (record { frame = orders.first-passed _ _ h; axes = orders.first-passed _ _ h2; stored = orders.first-passed _ _ h3 }) in
      (g, in_range t ps g (orders.first-passed _ _ h1) (orders.first-passed _ _ h4) (orders.second_passed _ _ h4))

  pub uniform_judged : good (linear_uniform_fault t.shape t.nodes.list t.values.list ps.list) ≡ true → (Accepted t × InRange t ps) × Uniform t
  unfolding linear_uniform_fault
  uniform_judged h =
      let h1 = orders.second_passed _ _ h in
      let h2 = orders.second_passed _ _ h1 in
      let h3 = orders.second_passed _ _ h2 in
      let h4 = orders.second_passed _ _ h3 in
      let h5 = orders.second_passed _ _ h4 in
      let g : Accepted t = accepted t (record { frame = orders.first-passed _ _ h; axes = orders.first-passed _ _ h2; stored = orders.first-passed _ _ h3 }) in
      ((g, in_range t ps g (orders.first-passed _ _ h1) (orders.first-passed _ _ h5) (orders.second_passed _ _ h5)), uniform t g (orders.first-passed _ _ h4))

  pub step_judged : (ds : List ℕ) → good (step_fault t.shape t.nodes.list t.values.list ps.list ds) ≡ true → (Accepted t × InRange t ps) × Directed t ds
  unfolding step_fault
  step_judged ds h =
      let h1 = orders.second_passed _ _ h in
      let h2 = orders.second_passed _ _ h1 in
      let h3 = orders.second_passed _ _ h2 in
      let h4 = orders.second_passed _ _ h3 in
      let h5 = orders.second_passed _ _ h4 in
      let h6 = orders.second_passed _ _ h5 in
      let g : Accepted t = accepted t (record { frame = orders.first-passed _ _ h; axes = orders.first-passed _ _ h3; stored = orders.first-passed _ _ h4 }) in
      ((g, in_range t ps g (orders.first-passed _ _ h1) (orders.first-passed _ _ h6) (orders.second_passed _ _ h6)), directed t ds (orders.first-passed _ _ h2) (orders.first-passed _ _ h5))

pub record_judged : (t : Table) (rec : List ℕ) → good (record_fault t.shape t.nodes.list t.values.list rec) ≡ true → Accepted t × (length rec ≡ record_size t.shape)
unfolding record_fault
record_judged t rec h =
    let h1 = orders.second_passed _ _ h in
    let h2 = orders.second_passed _ _ h1 in
    (accepted t (record { frame = orders.first-passed _ _ h; axes = orders.first-passed _ _ h2; stored = orders.second_passed _ _ h2 }), length-passed 2 (record_size t.shape) (length rec) (orders.first-passed _ _ h1))

-- ---- the slices
module _ (t : Table) (k : ℕ) (p : Float) (out : List Float) where
  abbrev room : ℕ
  room = length out

  sliced : Fronted t.shape t.nodes.list t.values.list → Ready t.shape t.nodes.list t.values.list k → good (point_fault t.shape t.nodes.list k p room) ≡ true → Sliceable t k p out
  sliced f r point =
      let g : Accepted t = accepted t (front_accepted f) in
      record {
        accepted = g;
        many = r.many;
        there = r.within;
        inside = within t k p (g.rising k r.within) k (point_taken t.shape t.nodes.list k p room point).finite_point (point_range t.shape t.nodes.list k p room point);
        room = (point_taken t.shape t.nodes.list k p room point).enough;
      }

  pub nearest_judged : good (nearest_slice_fault t.shape t.nodes.list t.values.list k p room) ≡ true → Sliceable t k p out
  unfolding nearest_slice_fault
  nearest_judged h =
      let front : good (nearest_front t.shape t.nodes.list t.values.list k) ≡ true = orders.first-passed _ _ h in
      sliced (nearest_fronted t.shape t.nodes.list t.values.list k front) (nearest_ready t.shape t.nodes.list t.values.list k front) (orders.second_passed _ _ h)

  pub step_slice_judged : (ds : List ℕ) → good (step_slice_fault t.shape t.nodes.list t.values.list ds k p room) ≡ true → Sliceable t k p out
  unfolding step_slice_fault
  step_slice_judged ds h =
      let front : good (step_front t.shape t.nodes.list t.values.list ds k) ≡ true = orders.first-passed _ _ h in
      sliced (step_fronted t.shape t.nodes.list t.values.list k ds front) (step_ready t.shape t.nodes.list t.values.list k ds front) (orders.second_passed _ _ h)

  first_judged : good (linear_front t.shape t.nodes.list t.values.list k) ≡ true → good (point_fault t.shape t.nodes.list k p room) ≡ true → Sliceable t k p out
  first_judged front point =
      sliced (linear_fronted t.shape t.nodes.list t.values.list k front)
      (subst (λ (a : ℕ). Ready t.shape t.nodes.list t.values.list a) (sym (linear-first t.shape t.nodes.list t.values.list k front)) (linear_ready t.shape t.nodes.list t.values.list k front)) point

  pub linear_slice_judged : good (linear_slice_fault t.shape t.nodes.list t.values.list k p room) ≡ true → Sliceable t k p out
  unfolding linear_slice_fault linear_rest
  linear_slice_judged h = first_judged (orders.first-passed _ _ h) (orders.first-passed _ _ (orders.second_passed _ _ h))

  pub uniform_slice_judged : good (linear_uniform_slice_fault t.shape t.nodes.list t.values.list k p room) ≡ true → Sliceable t k p out
  unfolding linear_uniform_slice_fault linear_rest
  uniform_slice_judged h = first_judged (uniform_linear t.shape t.nodes.list t.values.list k (orders.first-passed _ _ h)) (orders.first-passed _ _ (orders.second_passed _ _ h))

  pub linear_slice-first : good (linear_slice_fault t.shape t.nodes.list t.values.list k p (length out)) ≡ true → k ≡ 0
  unfolding linear_slice_fault
  linear_slice-first h = linear-first t.shape t.nodes.list t.values.list k (orders.first-passed _ _ h)

  pub uniform_slice_first : good (linear_uniform_slice_fault t.shape t.nodes.list t.values.list k p (length out)) ≡ true → (k ≡ 0) × Uniform t
  unfolding linear_uniform_slice_fault linear_uniform_front
  uniform_slice_first h =
      let front = orders.first-passed _ _ h in
      (linear-first t.shape t.nodes.list t.values.list k (orders.first-passed _ _ front), uniform t (uniform_slice_judged h).accepted (orders.second_passed _ _ front))

  pub step_slice_directed : (ds : List ℕ) → good (step_slice_fault t.shape t.nodes.list t.values.list ds k p (length out)) ≡ true → Directed t ds
  unfolding step_slice_fault
  step_slice_directed ds h =
      let front : good (step_front t.shape t.nodes.list t.values.list ds k) ≡ true = orders.first-passed _ _ h in
      let lent : length ds ≡ axes t = step_lent t.shape t.nodes.list t.values.list k ds front in
      record { lent = lent; two = λ a l. step_directions t.shape t.nodes.list t.values.list k ds front a (omega (arith, lent, l)) }

-- ---- what an answer tells
pub tells : {a : Answer} → Told a → Tells a
tells {a} h = (h.empty, λ e. (ap (λ (x : Answer). x.axis) (h.clear e) ∙ no_axis a.value, ap (λ (x : Answer). x.place) (h.clear e) ∙ no_place a.value))
  where
    no_axis : (v : Float) → (answered v).axis ≡ 0
    no_axis v = unfold answered in refl

    no_place : (v : Float) → (answered v).place ≡ 0
    no_place v = unfold answered in refl

-- ---- what an output holds
-- of a call that fills n places of it, where there is room for them
keeps : {A : Type 0} (f : Fault) (xs out : List A) (n : ℕ) → (good f ≡ true → (length xs ≡ n) × (n ≤ length out)) → Keeps (f then fine) n out (filled_into f xs out)
keeps f xs out n fits = record { untouched = λ h. refused_keeps f xs out (refused_bad f h); long = length_filled (good f) refl; rest = beyond (good f) refl }
  where
    length_filled : (b : Bool) → good f ≡ b → length (filled_into f xs out) ≡ length out
    length_filled true e =
        let r = fits e in
        ap length (filled_good f xs out e) ∙ length-append xs (drop (length xs) out) ∙ omega (arith, length-drop (length xs) out, r.0, r.1)
    length_filled false e = ap length (refused_keeps f xs out e)

    beyond : (b : Bool) → good f ≡ b → drop n (filled_into f xs out) ≡ drop n out
    beyond true e = subst (λ (k : ℕ). drop k (filled_into f xs out) ≡ drop k out) (fits e).0 (beyond_kept f xs out)
    beyond false e = ap (drop n) (refused_keeps f xs out e)

plain : (f : Fault) → Plain (f then fine)
plain f = (quiet_told (quiet f), λ h. then_good f fine (then_number f fine h))

pub slice_keeps : (f : Fault) (s : Shape) (k : ℕ) (xs out : List Float) (n : ℕ) → (good f ≡ true → (length xs ≡ n) × (n ≤ length out))
    → Plain (slice_answer f s k).answer × ((((slice_answer f s k).answer.number ≡ 0 → ⊥) → (slice_answer f s k).shape ≡ no_shape) × Keeps (slice_answer f s k).answer n out (filled_into f xs out))
slice_keeps f s k xs out n fits =
    (subst Plain (sym is) (plain f), (λ h. no_shape_lem f s k (refused_bad f (λ e. h (ap (λ (x : Answer). x.number) is ∙ e))), subst (λ (a : Answer). Keeps a n out (filled_into f xs out)) (sym is) (keeps f xs out n fits)))
  where
    is : (slice_answer f s k).answer ≡ (f then fine)
    is = unfold slice_answer in refl

module _ (t : Table) (k : ℕ) (p : Float) (out : List Float) where
  -- a slice that is made has as many values as the other axes, and room for them
  cut_fits : {xs : List Float} → Cut t.shape t.nodes.list t.values.list k p xs → Sliceable t k p out → (length xs ≡ size (without k (counts t))) × (size (without k (counts t)) ≤ length out)
  cut_fits cut s = (cut.long, s.room)

  pub nearest_fits : good (nearest_slice_fault t.shape t.nodes.list t.values.list k p (length out)) ≡ true
      → (length (rule_slice nearest_rule t.shape t.nodes.list t.values.list k p) ≡ size (without k (counts t))) × (size (without k (counts t)) ≤ length out)
  unfolding rule_slice
  nearest_fits g = cut_fits (law.cut (law.nearest_made t.shape t.nodes.list t.values.list k p (length out) g)) (nearest_judged t k p out g)

  pub step_fits : (ds : List ℕ) → good (step_slice_fault t.shape t.nodes.list t.values.list ds k p (length out)) ≡ true
      → (length (rule_slice (step_rule ds) t.shape t.nodes.list t.values.list k p) ≡ size (without k (counts t))) × (size (without k (counts t)) ≤ length out)
  unfolding rule_slice
  step_fits ds g = cut_fits (law.cut (law.step_made t.shape t.nodes.list t.values.list ds k p (length out) g)) (step_slice_judged t k p out ds g)

  -- the two linears, on the first axis
  first_fits : (l : AxisLocation) → k ≡ 0 → Sliceable t k p out → (length (along_first l (counts t) t.values.list) ≡ size (without k (counts t))) × (size (without k (counts t)) ≤ length out)
  first_fits l z s = (length-along l (counts t) t.values.list ∙ ap (λ (a : ℕ). size (without a (counts t))) (sym z), s.room)

  pub linear_fits : good (linear_slice_fault t.shape t.nodes.list t.values.list k p (length out)) ≡ true
      → (length (linear_values axis_location t.shape t.nodes.list t.values.list p) ≡ size (without k (counts t))) × (size (without k (counts t)) ≤ length out)
  unfolding linear_values
  linear_fits g = first_fits (axis_location (axis t 0) p) (linear_slice-first t k p out g) (linear_slice_judged t k p out g)

  pub uniform_fits : good (linear_uniform_slice_fault t.shape t.nodes.list t.values.list k p (length out)) ≡ true
      → (length (linear_values uniform_location t.shape t.nodes.list t.values.list p) ≡ size (without k (counts t))) × (size (without k (counts t)) ≤ length out)
  unfolding linear_values
  uniform_fits g = first_fits (uniform_location (axis t 0) p) (uniform_slice_first t k p out g).0 (uniform_slice_judged t k p out g)

module _ (img : List ℕ) (ns vs : List Float) where
  abbrev fault : Fault
  fault = load_fault img (length ns) (length vs)

  -- what was loaded: the shape, and as many nodes and values, with room for them
  module _ (g : good fault ≡ true) where
    shape_given : given fault (shape_of img) no_shape ≡ shape_of img
    shape_given = orders.given-good fault (shape_of img) no_shape g

    whole : passed.Accepted (shape_of img) (nodes_in img) (values_in img)
    whole = record { frame = loaded_frame img (length ns) (length vs) g; axes = (load_means img (length ns) (length vs) g).axes; stored = (load_means img (length ns) (length vs) g).stored }

    node-count : length (nodes_in img) ≡ total (counts_of (given fault (shape_of img) no_shape))
    node-count = frame_nodes (shape_of img) (nodes_in img) (values_in img) whole.frame ∙ ap (λ (s : Shape). total (counts_of s)) (sym shape_given)

    value_count : length (values_in img) ≡ size (counts_of (given fault (shape_of img) no_shape))
    value_count = frame_values (shape_of img) (nodes_in img) (values_in img) whole.frame ∙ ap (λ (s : Shape). size (counts_of s)) (sym shape_given)

    node_room_lem : total (counts_of (given fault (shape_of img) no_shape)) ≤ length ns
    unfolding rooms_fault
    node_room_lem = subst (λ (s : Shape). total (counts_of s) ≤ length ns) (sym shape_given) (room_passed 0 (total (counts_of (shape_of img))) (length ns) (orders.first-passed _ _ (load_means img (length ns) (length vs) g).rooms))

    value_room : size (counts_of (given fault (shape_of img) no_shape)) ≤ length vs
    unfolding rooms_fault
    value_room = subst (λ (s : Shape). size (counts_of s) ≤ length vs) (sym shape_given) (room_passed 1 (size (counts_of (shape_of img))) (length vs) (orders.second_passed _ _ (load_means img (length ns) (length vs) g).rooms))

  pub load_keeps : Plain (load img ns vs).0.answer
      × ((((load img ns vs).0.answer.number ≡ 0 → ⊥) → (load img ns vs).0.shape ≡ no_shape)
      × (Keeps (load img ns vs).0.answer (total (counts_of (load img ns vs).0.shape)) ns (load img ns vs).1.0
      × Keeps (load img ns vs).0.answer (size (counts_of (load img ns vs).0.shape)) vs (load img ns vs).1.1))
  unfolding load_answer
  load_keeps = (
    plain fault,
    (
      λ h. orders.given_bad fault (shape_of img) no_shape (refused_bad fault h),
      (keeps fault (nodes_in img) ns _ (λ g. (node-count g, node_room_lem g)), keeps fault (values_in img) vs _ (λ g. (value_count g, value_room g))),
    ),
  )

  pub load_given : good fault ≡ true → (load img ns vs).0 ≡ record { answer = fine; shape = shape_of img }
  unfolding load_answer
  load_given g = ap₂ (λ (a : Answer) (s : Shape). record { answer = a; shape = s }) (then_good fault fine g) (shape_given g)

  -- the table that stands at the fronts of the outputs
  module _ (t : Table) (h : (load img ns vs).0.answer.number ≡ 0) (l : Loaded (load img ns vs) t) where
    pub loaded_good : good fault ≡ true
    unfolding load_answer
    loaded_good = then_number fault fine h

    pub loaded_shape_is : t.shape ≡ shape_of img
    unfolding load_answer
    loaded_shape_is = l.shape ∙ shape_given loaded_good

    pub loaded_nodes_are : t.nodes.list ≡ nodes_in img
    unfolding load_answer
    loaded_nodes_are =
        l.nodes
        ∙ ap (λ (m : ℕ). take m (filled_into fault (nodes_in img) ns)) (ap (λ (s : Shape). total (counts_of s)) l.shape ∙ sym (node-count loaded_good))
        ∙ given_front fault (nodes_in img) ns loaded_good

    pub loaded_values_are : t.values.list ≡ values_in img
    unfolding load_answer
    loaded_values_are =
        l.values
        ∙ ap (λ (m : ℕ). take m (filled_into fault (values_in img) vs)) (ap (λ (s : Shape). size (counts_of s)) l.shape ∙ sym (value_count loaded_good))
        ∙ given_front fault (values_in img) vs loaded_good

    pub load_judged : Accepted t
    load_judged =
        accepted t
        (subst (λ (s : Shape). passed.Accepted s t.nodes.list t.values.list) (sym loaded_shape_is)
        (subst (λ (xs : List Float). passed.Accepted (shape_of img) xs t.values.list) (sym loaded_nodes_are)
        (subst (λ (xs : List Float). passed.Accepted (shape_of img) (nodes_in img) xs) (sym loaded_values_are) (whole loaded_good))))

module _ (t : Table) (out : List ℕ) where
  abbrev writing : Fault
  writing = write_fault t.shape t.nodes.list t.values.list (length out)

  -- the image that was written, with room for it
  written_fits : good writing ≡ true
      → (length (image_of t.shape t.nodes.list t.values.list) ≡ given writing (image_length t.shape) 0) × (given writing (image_length t.shape) 0 ≤ length out)
  written_fits g =
      let w = write_means t.shape t.nodes.list t.values.list (length out) g in
      let is : given writing (image_length t.shape) 0 ≡ image_length t.shape = orders.given-good writing (image_length t.shape) 0 g in (
        length_image t.shape t.nodes.list t.values.list (frame_nodes t.shape t.nodes.list t.values.list w.frame) (frame_values t.shape t.nodes.list t.values.list w.frame) ∙ sym is,
        omega (arith, is, w.roomy),
      )

  pub write_keeps : Plain (write t out).0.answer
      × ((((write t out).0.answer.number ≡ 0 → ⊥) → (write t out).0.length ≡ 0) × Keeps (write t out).0.answer (write t out).0.length out (write t out).1)
  unfolding write_answer
  write_keeps = (plain writing, (λ h. orders.given_bad writing (image_length t.shape) 0 (refused_bad writing h), keeps writing (image_of t.shape t.nodes.list t.values.list) out _ written_fits))

  pub write_judged : (write t out).0.answer.number ≡ 0 → Accepted t × ((write t out).0.length ≤ length out)
  unfolding write_answer
  write_judged h =
      let g = then_number writing fine h in
      let w = write_means t.shape t.nodes.list t.values.list (length out) g in
      (accepted t (record { frame = w.frame; axes = w.axes; stored = w.stored }), (written_fits g).1)
