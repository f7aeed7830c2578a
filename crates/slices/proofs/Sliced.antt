-- What the slices answer and write, put together: what is known where their checks were passed, and the two outcomes. Assumes nothing.
use mathlib.Core.Path.{◌≡◌, refl, sym, ap, ap₂, ◌∙◌, subst}
use mathlib.Core.Bool.{true}
use mathlib.Core.List.{List, ◌++◌}
use Prim.Native.Nat.{ℕ, ◌<◌, min}
use native.Mathlib.Omega.{arith}
use lib.ListN.{length, drop, get_or}
use lib.Ieee.{Float}
use Rattle.std.proofs.Common.{Result, Ok, Err}
use Rattle.std.specs.Result.{OnOk}
use Rattle.answer.specs.Faults.{Fault, good, ◌or◌, filled_into}
use Rattle.answer.specs.Answer.{refused, fine}
use Rattle.answer.specs.Rows.{said, fault_of}
use Rattle.answer.specs.declared.Answer.{Answer}
use Rattle.answer.specs.declared.Refusal.{Refusal}
use Rattle.answer.proofs.Orders as orders
use Rattle.answer.proofs.Checks as checks
use Rattle.answer.proofs.Checks.{Handed}
use Rattle.checks.specs.Numbers.{length_fault, axes_fault, values_fault, direction_fault, directions_fault, range_fault, room_fault, no_axis_fault, not_first_fault}
use Rattle.checks.specs.Shapes.{frame_fault}
use Rattle.checks.proofs.lent.Rows.{direction_passed, room_passed, length-passed}
use Rattle.checks.proofs.numbers.Rows.{reading_finite}
use Rattle.checks.proofs.table.Grids.{frame_shape, frame_values, frame_axes, grid_of}
use Rattle.checks.proofs.values.Rows.{values_finite}
use Rattle.checks.proofs.shapes.Frames.{shape_four}
use Rattle.layout.specs.Shape.{counts_of, size, no_shape}
use Rattle.layout.specs.Layout.{without, slice_values, axis_of}
use Rattle.layout.specs.declared.Shape.{Shape}
use Rattle.orders.specs.Orders.{nearest_front, step_front, linear_front, linear_uniform_front, point_fault}
use Rattle.orders.proofs.before_slice.Rows.{axis_many, axis_in, first_many, first-axis}
use Rattle.rust.specs.declared.AxisLocation.{AxisLocation}
use Rattle.axis.specs.Steps.{step_index}
use Rattle.axis.specs.Scaffolding.{pick_index}
use Rattle.axis.proofs.picks.Picks.{is_step}
use Rattle.slices.specs.Slices.{shape_without, slice_answer}
use Rattle.slices.specs.Scaffolding.{AxisOf, Ready, Taken, JudgedOutput}
use Rattle.slices.specs.LinearSlices.{linear_rest}
use Rattle.slices.specs.declared.SliceAnswer.{SliceAnswer}

-- ---- what each of the four fronts has passed
pub record Fronted (s : Shape) (nodes values : List Float) : Type 0 where
  pub frame : good (frame_fault s (length nodes) (length values)) ≡ true
  pub axes : good (axes_fault (counts_of s) nodes) ≡ true
  pub stored : good (values_fault values) ≡ true

module _ (s : Shape) (nodes values : List Float) where
  abbrev frame : Fault
  frame = frame_fault s (length nodes) (length values)

  abbrev axes : Fault
  axes = axes_fault (counts_of s) nodes

  fronted : good (frame_fault s (length nodes) (length values)) ≡ true → good (axes_fault (counts_of s) nodes or values_fault values) ≡ true → Fronted s nodes values
  fronted f h = record { frame = f; axes = orders.first-passed axes (values_fault values) h; stored = orders.second_passed axes (values_fault values) h }

  ready : (axis : ℕ) → Fronted s nodes values → axis < s.axes → 1 < s.axes → Ready s nodes values axis
  ready axis f within many = record {
    grid = grid_of s nodes values f.frame f.axes;
    four = shape_four s (frame_shape s nodes values f.frame);
    count = frame_axes s nodes values f.frame;
    within = within;
    many = many;
    stored = frame_values s nodes values f.frame;
    finites = values_finite values f.stored;
  }

  -- the axis of a table that can be sliced there
  pub axis_of_ready : {axis : ℕ} → Ready s nodes values axis → AxisOf s axis
  axis_of_ready r = record { within = r.within; four = r.four }

  module _ (axis : ℕ) where
    -- an axis that is there
    ready_there : Fronted s nodes values → good (no_axis_fault s.axes axis) ≡ true → Ready s nodes values axis
    ready_there f h = ready axis f (axis_in s.axes axis h) (axis_many s.axes axis h)

    -- ---- Nearest
    module _ (h : good (nearest_front s nodes values axis) ≡ true) where
      nearest_rest : good (no_axis_fault s.axes axis or axes or values_fault values) ≡ true
      unfolding nearest_front
      nearest_rest = orders.second_passed _ _ h

      pub nearest_fronted : Fronted s nodes values
      unfolding nearest_front
      nearest_fronted = fronted (orders.first-passed _ _ h) (orders.second_passed _ _ nearest_rest)

      pub nearest_ready : Ready s nodes values axis
      nearest_ready = ready_there nearest_fronted (orders.first-passed _ _ nearest_rest)

    -- ---- Step
    module _ (directions : List ℕ) (h : good (step_front s nodes values directions axis) ≡ true) where
      step_rest : good (length_fault 3 s.axes (length directions) or no_axis_fault s.axes axis or axes or values_fault values or directions_fault directions) ≡ true
      unfolding step_front
      step_rest = orders.second_passed _ _ h

      past_lent : good (no_axis_fault s.axes axis or axes or values_fault values or directions_fault directions) ≡ true
      past_lent = orders.second_passed _ _ step_rest

      past_axes : good (values_fault values or directions_fault directions) ≡ true
      past_axes = orders.second_passed axes _ (orders.second_passed _ _ past_lent)

      pub step_fronted : Fronted s nodes values
      unfolding step_front
      step_fronted = record { frame = orders.first-passed _ _ h; axes = orders.first-passed axes _ (orders.second_passed _ _ past_lent); stored = orders.first-passed _ _ past_axes }

      pub step_ready : Ready s nodes values axis
      step_ready = ready_there step_fronted (orders.first-passed _ _ past_lent)

      pub step_lent : length directions ≡ s.axes
      step_lent = length-passed 3 s.axes (length directions) (orders.first-passed _ _ step_rest)

      pub step_directions : (a : ℕ) → a < length directions → get_or directions a 0 < 2
      unfolding directions_fault
      step_directions a l =
          direction_passed a (get_or directions a 0)
          (orders.all_passed (λ b. direction_fault b (get_or directions b 0)) 0 (length directions) (orders.second_passed (values_fault values) (directions_fault directions) past_axes) a (omega arith) (omega arith))

    -- ---- the two linears, on their first axis
    module _ (h : good (linear_front s nodes values axis) ≡ true) where
      linear_rest_lem : good (not_first_fault s.axes axis or axes or values_fault values) ≡ true
      unfolding linear_front
      linear_rest_lem = orders.second_passed _ _ h

      pub linear_fronted : Fronted s nodes values
      unfolding linear_front
      linear_fronted = fronted (orders.first-passed _ _ h) (orders.second_passed _ _ linear_rest_lem)

      pub linear-first : axis ≡ 0
      linear-first = first-axis s.axes axis (orders.first-passed _ _ linear_rest_lem)

      pub linear_ready : Ready s nodes values 0
      linear_ready = let m : 1 < s.axes = first_many s.axes axis (orders.first-passed _ _ linear_rest_lem) in ready 0 linear_fronted (omega arith) m

      pub linear_axis : AxisOf s axis
      linear_axis = subst (λ (k : ℕ). AxisOf s k) (sym linear-first) (axis_of_ready linear_ready)

    pub uniform_linear : good (linear_uniform_front s nodes values axis) ≡ true → good (linear_front s nodes values axis) ≡ true
    unfolding linear_uniform_front
    uniform_linear h = orders.first-passed _ _ h

-- the pick toward a direction takes Step's node
pub toward_step : (pick direction : ℕ) (xs : List Float) (p : Float) → pick ≡ min direction 1 → direction < 2 → pick_index pick xs p ≡ step_index direction xs p
toward_step pick direction xs p e l = let same : pick ≡ direction = omega arith in ap (λ (k : ℕ). pick_index k xs p) same ∙ is_step direction xs p l

-- ---- what the one reading and the room are, where they were passed
module _ (s : Shape) (nodes : List Float) (axis : ℕ) (p : Float) (room : ℕ) (h : good (point_fault s nodes axis p room) ≡ true) where
  past_reading : good (range_fault axis (axis_of s nodes axis) p or room_fault 1 (size (without axis (counts_of s))) room) ≡ true
  unfolding point_fault
  past_reading = orders.second_passed _ _ h

  pub point_taken : Taken s axis p room
  unfolding point_fault
  point_taken = record {
    finite_point = reading_finite axis p (orders.first-passed _ _ h);
    enough = room_passed 1 (size (without axis (counts_of s))) room (orders.second_passed _ _ past_reading);
  }

  pub point_range : good (range_fault axis (axis_of s nodes axis) p) ≡ true
  point_range = orders.first-passed _ _ past_reading

-- ---- an output, where a check refused: handed on by `?`
module _ (A : Type 0) (e : Refusal) (f : Fault) (told : said {A = A} (Err e) ≡ f) {B : Type 0} (r : Result B Refusal) (h : Handed r e) (xs out : List Float) where
  pub kept : JudgedOutput f xs out (said r) out
  unfolding filled_into
  kept = record { judged = checks.hands A e f told r h; output = checks.given-refused A e f told (xs ++ drop (length xs) out) out }

-- .. before the rest of the checks, which judge and write
pub or_kept : (A : Type 0) (e : Refusal) (f : Fault) (told : said {A = A} (Err e) ≡ f) (rest : Fault) {B : Type 0} (r : Result B Refusal) (h : Handed r e) (xs out : List Float) → JudgedOutput (f or rest) xs out (said r) out
or_kept A e f told rest r h xs out = kept A e (f or rest) (told ∙ sym (orders.or_bad f rest (checks.fails A e f told))) r h xs out

-- ---- an output, where a check passed
module _ {A : Type 0} (x : A) (f : Fault) (told : said (Ok x) ≡ f) (xs out : List Float) where
  pub written : {B : Type 0} (y : B) (n : ℕ) → n ≡ length xs → (after : List Float) → after ≡ xs ++ drop n out → JudgedOutput f xs out (said (Ok y)) after
  unfolding filled_into
  written y n l after q = record {
    judged = checks.passes_on x f told y;
    output = checks.given_kept x f told after (xs ++ drop (length xs) out) out (q ∙ ap (λ (k : ℕ). xs ++ drop k out) l);
  }

  pub or_filled : (rest : Fault) {q : Fault} {after : List Float} → JudgedOutput rest xs out q after → JudgedOutput (f or rest) xs out q after
  or_filled rest {q = q} w = record {
    judged = checks.goes_on x f told q rest w.judged;
    output = w.output ∙ ap (λ (g : Fault). filled_into g xs out) (checks.goes_on x f told rest rest refl);
  }

-- .. at the index that the rule takes, and on the axis that was asked for
pub at_index : {f q : Fault} {out after : List Float} (axis i j : ℕ) (counts : List ℕ) (values : List Float) → i ≡ j → JudgedOutput f (slice_values axis i counts values) out q after → JudgedOutput f (slice_values axis j counts values) out q after
at_index {f = f} {q = q} {out = out} {after = after} axis i j counts values e w = subst (λ (k : ℕ). JudgedOutput f (slice_values axis k counts values) out q after) e w

pub on-axis : {q : Fault} {xs out after : List Float} (rule : List Float → Float → AxisLocation) (s : Shape) (nodes values : List Float) (axis : ℕ) (p : Float) (room : ℕ) → axis ≡ 0
    → JudgedOutput (linear_rest rule s nodes values 0 p room) xs out q after → JudgedOutput (linear_rest rule s nodes values axis p room) xs out q after
on-axis {q = q} {xs = xs} {out = out} {after = after} rule s nodes values axis p room e w = subst (λ (k : ℕ). JudgedOutput (linear_rest rule s nodes values k p room) xs out q after) (sym e) w

-- ---- the answer of a slice that was judged
module _ (s : Shape) (axis : ℕ) where
  pub answer_refused : (A : Type 0) (e : Refusal) (a : SliceAnswer) → a ≡ record { answer = refused (fault_of e); shape = no_shape } → a ≡ slice_answer (said {A = A} (Err e)) s axis
  unfolding slice_answer
  answer_refused A e a q =
      q
      ∙ ap₂ (λ (b : Answer) (z : Shape). record { answer = b; shape = z })
      (checks.then_stops A e (said (Err e)) refl (refused (fault_of e)) fine refl)
      (checks.given-refused A e (said (Err e)) refl (shape_without s axis) no_shape)

  pub answer_made : {A : Type 0} (x : A) (a : Answer) (z : Shape) → a ≡ fine → z ≡ shape_without s axis → ◌≡◌ {A = SliceAnswer} (record { answer = a; shape = z }) (slice_answer (said (Ok x)) s axis)
  unfolding slice_answer
  answer_made x a z p q =
      ap₂ (λ (b : Answer) (y : Shape). record { answer = b; shape = y })
      (checks.then_goes_on x (said (Ok x)) refl a fine p)
      (checks.given_kept x (said (Ok x)) refl z (shape_without s axis) no_shape q)

-- .. where it was made, its checks were passed
pub where_made : {A : Type 0} {P : Type 0} (r : Result A Refusal) (f : Fault) → said r ≡ f → (good f ≡ true → P) → OnOk r P
where_made (Ok x) f e h = h (checks.passes x f e)
where_made (Err e) f q h = tt
