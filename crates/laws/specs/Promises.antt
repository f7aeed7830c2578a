-- THE PAGE OF PROMISES: the three demands, sentence by sentence, over what the calls (Calls.antt) answer and leave. Nothing but statements; `demand-1`,
-- `demand-2` and `demand-3` (laws/proofs/Promises.antt) inhabit the three records at the end, so that no statement of them can be left out.
use Rattle.std.specs.Prelude.{◌≡◌, true, false, List, [], ◌∷◌, ◌++◌, ℕ, suc, ◌+◌, ◌-◌, ◌*◌, ◌≤◌, ◌<◌, length, take, drop, get_or, Float}
use Rattle.std.specs.Float.{nan}
use Rattle.std.specs.Float.Ieee.{le, eq}
use Rattle.std.specs.Float.Ieee.Scale.{finite}
use Rattle.answer.specs.Faults.{refusal, good}
use Rattle.answer.specs.Answer.{refused, answered, fine}
use Rattle.answer.specs.declared.Answer.{Answer}
use Rattle.layout.specs.Shape.{counts_of, size, total, no_shape}
use Rattle.layout.specs.Layout.{axes_of, tabulate, indices_at, Inside, insert, without, nodes_without}
use Rattle.layout.specs.declared.Shape.{Shape}
use Rattle.checks.specs.Nodes.{node}
use Rattle.checks.specs.Passed.{Axis}
use Rattle.orders.specs.Orders.{lookup_fault, step_fault, linear_uniform_fault, nearest_slice_fault, step_slice_fault}
use Rattle.little_endian.specs.Words.{float_at}
use Rattle.rust.specs.Utils.{ok}
use Rattle.rust.specs.Strategies.{linear_text, linear_uniform_text, nearest_text, step_text, validate_linear_uniform}
use Rattle.ninterp.specs.Records.{kind_answer, record_fault}
use Rattle.slices.specs.LinearSlices.{linear_slice_fault, linear_uniform_slice_fault}
use Rattle.slices.specs.declared.SliceAnswer.{SliceAnswer}
use Rattle.image.specs.Fields.{shape_of}
use Rattle.image.specs.Load.{load_fault}
use Rattle.image.specs.declared.LoadAnswer.{LoadAnswer}
use Rattle.writer.specs.Write.{write_fault}
use Rattle.laws.specs.Lowered.{lowered}
use Rattle.laws.specs.Calls.{Floats, Table, axes, counts, axis, stored, on, Lookup, linear, linear_uniform, nearest, step, EveryLookup, Slice, slice_linear, slice_linear_uniform, slice_nearest, slice_step, EverySlice, load, write, record_of}
use Rattle.laws.specs.Primitives.{Tells, Refuses, Primitives}

-- ==== What is asked of a table and a reading

-- an accepted table: "1 to 4 axes, 2 to 64 nodes each, at most 4,096 values", lent as long as the shape says; on each axis finite nodes that rise by finite
-- steps (`Axis`, checks/specs/Passed.antt); finite values
pub record Accepted (t : Table) : Type 0 where
  pub some : 1 ≤ axes t
  pub few : axes t ≤ 4
  pub small : size (counts t) ≤ 4096
  pub nodes_lent : length t.nodes.list ≡ total (counts t)
  pub values_lent : length t.values.list ≡ size (counts t)
  pub rising : (a : ℕ) → a < axes t → Axis (axis t a)
  pub finite_values : (i : ℕ) → i < length t.values.list → finite (get_or t.values.list i nan) ≡ true

-- a finite reading in range, on one axis; and one on each
pub record Within (t : Table) (a : ℕ) (p : Float) : Type 0 where
  pub finite_reading : finite p ≡ true
  pub low : le (node (axis t a) 0) p ≡ true
  pub high : le p (node (axis t a) (length (axis t a) - 1)) ≡ true

pub record InRange (t : Table) (ps : Floats) : Type 0 where
  pub lent : length ps.list ≡ axes t
  pub each : (a : ℕ) → a < axes t → Within t a (get_or ps.list a nan)

-- a direction for each axis, 0 lower or 1 upper; every axis uniform, as the Rust's own check has it
pub record Directed (t : Table) (ds : List ℕ) : Type 0 where
  pub lent : length ds ≡ axes t
  pub two : (a : ℕ) → a < axes t → get_or ds a 0 < 2

abbrev pub Uniform : Table → Type 0
Uniform t = validate_linear_uniform (axes_of (counts t) t.nodes.list) ≡ ok

-- ==== What is said of any of them

-- "(+0.0 where a call gives none)"
abbrev pub Plain : Answer → Type 0
Plain a = Tells a × (a.number ≡ 0 → a ≡ fine)

-- an output of a call: "every lent buffer stays as it was" on a refusal; else its first n places are written, and "its rest stays unchanged"
pub record Keeps {A : Type 0} (a : Answer) (n : ℕ) (before after : List A) : Type 0 where
  pub untouched : (a.number ≡ 0 → ⊥) → after ≡ before
  pub long : length after ≡ length before
  pub rest : drop n after ≡ drop n before

-- "A slice of an accepted table at an in-range reading": what is asked of the axis, the reading and the room
pub record Sliceable (t : Table) (k : ℕ) (p : Float) (out : List Float) : Type 0 where
  pub accepted : Accepted t
  pub many : 1 < axes t
  pub there : k < axes t
  pub inside : Within t k p
  pub room : size (without k (counts t)) ≤ length out

-- values that are the table's at its own index lists, and anything at all elsewhere: a text that gives one number for all of these reads nothing else
pub record Elements (t : Table) (g : List ℕ → Float) : Type 0 where
  pub same : (is : List ℕ) → Inside is (counts t) → g is ≡ stored t is

-- a strategy's text is lent the values' shape, the values, the grid and the point
abbrev pub Text : Type 0
Text = List ℕ → (List ℕ → Float) → List (List Float) → List Float → Float

abbrev pub rust_of : Text → Table → (List ℕ → Float) → Floats → Float
rust_of text t g ps = text (counts t) g (axes_of (counts t) t.nodes.list) ps.list

-- "what the same rule gives along that axis alone", at an index list of the other axes
abbrev pub along : Text → Table → ℕ → Float → List ℕ → Float
along text t k p is = text (get_or (counts t) k 0 ∷ []) (λ js. stored t (insert k (get_or js 0 0) is)) (axis t k ∷ []) (p ∷ [])

-- the counts past its axes in a shape that a call gives
abbrev pub ZerosPast : Shape → Type 0
ZerosPast s = (a : ℕ) → s.axes ≤ a → get_or s.counts a 0 ≡ 0

-- what a slice on axis k leaves, lent as a table: the shape that it answers, the nodes of the other axes, the first places of its output
pub record After (t : Table) (k : ℕ) (made : SliceAnswer × List Float) (t' : Table) : Type 0 where
  pub shape : t'.shape ≡ made.0.shape
  pub nodes : t'.nodes.list ≡ nodes_without k (counts t) t.nodes.list
  pub values : t'.values.list ≡ take (size (counts t')) made.1

-- .. is there, and is an accepted table
pub record Left (t : Table) (k : ℕ) (made : SliceAnswer × List Float) : Type 0 where
  pub t' : Table
  pub after : After t k made t'
  pub accepted : Accepted t'
  pub zeros : ZerosPast t'.shape

-- "Each of its values is what the same rule gives along that axis alone."
abbrev pub Values : (ℕ → Text) → Slice → Type 0
Values text slice = (t t' : Table) (k : ℕ) (p : Float) (out : List Float) → (slice t k p out).0.answer.number ≡ 0 → After t k (slice t k p out) t'
    → (is : List ℕ) → Inside is (counts t') → stored t' is ≡ along (text k) t k p is

-- a lookup in what it left: as the whole table answers, axes in 10 and 11 one lower
abbrev pub Answers : Lookup → (ℕ → Lookup) → Slice → Type 0
Answers whole left slice = (t t' : Table) (k : ℕ) (p : Float) (out : List Float) → (slice t k p out).0.answer.number ≡ 0 → After t k (slice t k p out) t'
    → (ps all : Floats) → all.list ≡ insert k p ps.list → left k t' ps ≡ lowered k (whole t all)

-- two slices on different axes, k and suc m, where the second is m once k is gone: for every room of the second slice, answers and outputs are equal in either
-- order, and so are the nodes that are left; on a table of two axes the second slice is 16 in either order
abbrev pub Commute : Slice → (ℕ → Slice) → Type 0
Commute slice left = (t one other : Table) (k m : ℕ) (p q : Float) (out out' again : List Float) → k ≤ m
    → (slice t k p out).0.answer.number ≡ 0 → (slice t (suc m) q out').0.answer.number ≡ 0 → After t k (slice t k p out) one → After t (suc m) (slice t (suc m) q out') other
    → (left k one m q again ≡ left (suc m) other k p again)
    × ((nodes_without m (counts one) one.nodes.list ≡ nodes_without k (counts other) other.nodes.list)
    × (axes t ≡ 2 → (left k one m q again).0.answer ≡ refused (refusal 16 0 0)))

-- a table that a load left: the shape that it answers, and the fronts of its outputs
pub record Loaded (loaded : LoadAnswer × (List Float × List Float)) (t : Table) : Type 0 where
  pub shape : t.shape ≡ loaded.0.shape
  pub nodes : t.nodes.list ≡ take (total (counts t)) loaded.1.0
  pub values : t.values.list ≡ take (size (counts t)) loaded.1.1

-- the table comes back from an image
pub record Returns (t : Table) (ns vs : List Float) (loaded : LoadAnswer × (List Float × List Float)) : Type 0 where
  pub answer : loaded.0.answer ≡ fine
  pub axes_back : loaded.0.shape.axes ≡ axes t
  pub counts_back : counts_of loaded.0.shape ≡ counts t
  pub zeros_past : ZerosPast loaded.0.shape
  pub nodes_back : loaded.1.0 ≡ t.nodes.list ++ drop (length t.nodes.list) ns
  pub values_back : loaded.1.1 ≡ t.values.list ++ drop (length t.values.list) vs

-- every reading is a node, by its place on its axis
pub record OnNodes (t : Table) (ps : Floats) (at : ℕ → ℕ) : Type 0 where
  pub lent : length ps.list ≡ axes t
  pub there : (a : ℕ) → a < axes t → at a < length (axis t a)
  pub on : (a : ℕ) → a < axes t → eq (node (axis t a) (at a)) (get_or ps.list a nan) ≡ true

-- witnesses: a table on which LinearUniform refuses 12; an accepted table of two axes
pub record Overflows : Type 0 where
  pub t : Table
  pub ps : Floats
  pub accepted : Accepted t
  pub uniform : Uniform t
  pub in_range : InRange t ps
  pub refusal-12 : linear_uniform t ps ≡ refused (refusal 12 0 0)

pub record TwoAxes : Type 0 where
  pub t : Table
  pub two : axes t ≡ 2
  pub accepted : Accepted t
  pub uniform : Uniform t

-- ==== The demands

pub record Demand1 : Type 0 where
  -- "Each public call judges the table and reading it is lent."
  pub lookups_judge : EveryLookup (λ lookup. (t : Table) (ps : Floats) → (lookup t ps).number ≡ 0 → Accepted t × InRange t ps)
  pub uniform_judged : (t : Table) (ps : Floats) → (linear_uniform t ps).number ≡ 0 → Uniform t
  pub directions_judged : (t : Table) (ps : Floats) (ds : List ℕ) → (step ds t ps).number ≡ 0 → Directed t ds
  pub slices_judge : EverySlice (λ slice. (t : Table) (k : ℕ) (p : Float) (out : List Float) → (slice t k p out).0.answer.number ≡ 0 → Sliceable t k p out)
  pub linear_slices_first : (t : Table) (k : ℕ) (p : Float) (out : List Float) → (slice_linear t k p out).0.answer.number ≡ 0 → k ≡ 0
  pub uniform_slices_judged : (t : Table) (k : ℕ) (p : Float) (out : List Float) → (slice_linear_uniform t k p out).0.answer.number ≡ 0 → (k ≡ 0) × Uniform t
  pub step_slices_judged : (t : Table) (k : ℕ) (p : Float) (out : List Float) (ds : List ℕ) → (slice_step ds t k p out).0.answer.number ≡ 0 → Directed t ds
  pub load_judges : (img : List ℕ) (ns vs : List Float) (t : Table) → (load img ns vs).0.answer.number ≡ 0 → Loaded (load img ns vs) t → Accepted t
  pub write_judges : (t : Table) (out : List ℕ) → (write t out).0.answer.number ≡ 0 → Accepted t × ((write t out).0.length ≤ length out)
  pub record_judges : (t : Table) (rec : List ℕ) → (record_of t rec).number ≡ 0 → Accepted t × (length rec ≡ 1 + 8 * axes t)
  -- .. and the seven primitives (laws/specs/Primitives.antt), of which the Rust's text is said too
  pub primitives_give : Primitives
  -- "A refusal gives its number, axis and place, with value +0.0"
  pub lookups_tell : EveryLookup (λ lookup. (t : Table) (ps : Floats) → Tells (lookup t ps))
  pub record_tells : (t : Table) (rec : List ℕ) → Tells (record_of t rec)
  pub lookups_refuse : (t : Table) (ps : Floats) → (Refuses (on t lookup_fault ps.list) (linear t ps) × Refuses (on t lookup_fault ps.list) (nearest t ps))
      × (Refuses (on t linear_uniform_fault ps.list) (linear_uniform t ps) × ((ds : List ℕ) → Refuses (on t step_fault ps.list ds) (step ds t ps)))
  pub slices_refuse : (t : Table) (k : ℕ) (p : Float) (out : List Float) → let room = length out in
      (Refuses (on t linear_slice_fault k p room) (slice_linear t k p out).0.answer × Refuses (on t linear_uniform_slice_fault k p room) (slice_linear_uniform t k p out).0.answer)
      × (Refuses (on t nearest_slice_fault k p room) (slice_nearest t k p out).0.answer × ((ds : List ℕ) → Refuses (on t step_slice_fault ds k p room) (slice_step ds t k p out).0.answer))
  pub record_refuses : (t : Table) (rec : List ℕ) → Refuses (on t record_fault rec) (record_of t rec)
  pub load_refuses : (img : List ℕ) (ns vs : List Float) → Refuses (load_fault img (length ns) (length vs)) (load img ns vs).0.answer
  pub write_refuses : (t : Table) (out : List ℕ) → Refuses (on t write_fault (length out)) (write t out).0.answer
  pub load_gives : (img : List ℕ) (ns vs : List Float) → good (load_fault img (length ns) (length vs)) ≡ true → (load img ns vs).0 ≡ record { answer = fine; shape = shape_of img }
  -- "and every lent buffer stays as it was"
  pub slices_keep : EverySlice (λ slice. (t : Table) (k : ℕ) (p : Float) (out : List Float) → Plain (slice t k p out).0.answer
      × ((((slice t k p out).0.answer.number ≡ 0 → ⊥) → (slice t k p out).0.shape ≡ no_shape)
      × Keeps (slice t k p out).0.answer (size (without k (counts t))) out (slice t k p out).1))
  pub load_keeps : (img : List ℕ) (ns vs : List Float) → Plain (load img ns vs).0.answer
      × ((((load img ns vs).0.answer.number ≡ 0 → ⊥) → (load img ns vs).0.shape ≡ no_shape)
      × (Keeps (load img ns vs).0.answer (total (counts_of (load img ns vs).0.shape)) ns (load img ns vs).1.0
      × Keeps (load img ns vs).0.answer (size (counts_of (load img ns vs).0.shape)) vs (load img ns vs).1.1))
  pub write_keeps : (t : Table) (out : List ℕ) → Plain (write t out).0.answer
      × ((((write t out).0.answer.number ≡ 0 → ⊥) → (write t out).0.length ≡ 0) × Keeps (write t out).0.answer (write t out).0.length out (write t out).1)

pub record Demand2 : Type 0 where
  -- "On each accepted table, for finite readings in range, Linear, .. Nearest and Step give the Rust's bits in N dimensions": these three always
  pub linear_gives : (t : Table) (ps : Floats) (g : List ℕ → Float) → Accepted t → InRange t ps → Elements t g → (linear t ps ≡ answered (rust_of linear_text t g ps)) × (finite (rust_of linear_text t g ps) ≡ true)
  pub nearest_gives : (t : Table) (ps : Floats) (g : List ℕ → Float) → Accepted t → InRange t ps → Elements t g → nearest t ps ≡ answered (rust_of nearest_text t g ps)
  pub step_gives : (t : Table) (ps : Floats) (g : List ℕ → Float) (ds : List ℕ) → Accepted t → InRange t ps → Elements t g → Directed t ds → step ds t ps ≡ answered (rust_of (step_text ds) t g ps)
  -- LinearUniform ".. or refusal 12 exactly where those bits are not finite", which does happen
  pub linear_uniform_gives : (t : Table) (ps : Floats) (g : List ℕ → Float) → Accepted t → Uniform t → InRange t ps → Elements t g
      → (finite (rust_of linear_uniform_text t g ps) ≡ true → linear_uniform t ps ≡ answered (rust_of linear_uniform_text t g ps))
      × (finite (rust_of linear_uniform_text t g ps) ≡ false → linear_uniform t ps ≡ refused (refusal 12 0 0))
  pub linear_uniform_overflows : Overflows
  -- a record of the program, "a kind byte .. and one f64 per axis", is answered as the lookup of its kind
  pub record_gives : (t : Table) (rec : List ℕ) → Accepted t → length rec ≡ 1 + 8 * axes t
      → record_of t rec ≡ on t (kind_answer (get_or rec 0 0)) (tabulate (axes t) (λ a. float_at rec (1 + 8 * a)))
  -- "An image written and loaded gives the table back.": a write, then a load of the first bytes of its output
  pub image_returns : (t : Table) (out : List ℕ) (ns vs : List Float)
      → Accepted t → 40 + 8 * total (counts t) + 8 * size (counts t) ≤ length out → total (counts t) ≤ length ns → size (counts t) ≤ length vs
      → ((write t out).0 ≡ record { answer = fine; length = 40 + 8 * total (counts t) + 8 * size (counts t) })
      × Returns t ns vs (load (take (write t out).0.length (write t out).1) ns vs)

pub record Demand3 : Type 0 where
  -- "A slice of an accepted table at an in-range reading on its first axis" is made; "For Nearest and Step any axis will do"
  pub linear_slices : (t : Table) (p : Float) (out : List Float) → Sliceable t 0 p out → (slice_linear t 0 p out).0.answer ≡ fine
  pub nearest_slices : (t : Table) (k : ℕ) (p : Float) (out : List Float) → Sliceable t k p out → (slice_nearest t k p out).0.answer ≡ fine
  pub step_slices : (t : Table) (k : ℕ) (p : Float) (out : List Float) (ds : List ℕ) → Sliceable t k p out → Directed t ds → (slice_step ds t k p out).0.answer ≡ fine
  -- .. LinearUniform's where its values are finite, and else it is refused 12 at the first place of the slice where one is not
  pub linear_uniform_slices : (t : Table) (p : Float) (out : List Float) → Sliceable t 0 p out → Uniform t
      → ((i : ℕ) → i < size (without 0 (counts t)) → finite (along linear_uniform_text t 0 p (indices_at (without 0 (counts t)) i)) ≡ true) → (slice_linear_uniform t 0 p out).0.answer ≡ fine
  pub linear_uniform_slice_overflows : (t : Table) (p : Float) (out : List Float) (i : ℕ) → Sliceable t 0 p out → Uniform t → i < size (without 0 (counts t))
      → ((j : ℕ) → j < i → finite (along linear_uniform_text t 0 p (indices_at (without 0 (counts t)) j)) ≡ true)
      → finite (along linear_uniform_text t 0 p (indices_at (without 0 (counts t)) i)) ≡ false → (slice_linear_uniform t 0 p out).0.answer ≡ refused (refusal 12 0 i)
  -- .. a slice that is made is itself an accepted table, with the values that the rule gives along its axis
  pub slices_leave : EverySlice (λ slice. (t : Table) (k : ℕ) (p : Float) (out : List Float) → (slice t k p out).0.answer.number ≡ 0 → Left t k (slice t k p out))
  pub linear_values_lem : Values (λ k. linear_text) slice_linear
  pub linear_uniform_values : Values (λ k. linear_uniform_text) slice_linear_uniform
  pub nearest_values : Values (λ k. nearest_text) slice_nearest
  pub step_values : (ds : List ℕ) → Values (λ k. step_text (get_or ds k 0 ∷ [])) (slice_step ds)
  -- .. "answers every remaining reading as the whole table does, bit for bit or with the same refusal (axes in 10 and 11 one lower)"
  pub linear-answers : Answers linear (λ k. linear) slice_linear
  pub linear_uniform-answers : Answers linear_uniform (λ k. linear_uniform) slice_linear_uniform
  pub nearest-answers : Answers nearest (λ k. nearest) slice_nearest
  pub step-answers : (ds : List ℕ) → Answers (step ds) (λ k. step (without k ds)) (slice_step ds)
  -- "two slices on different axes commute"
  pub nearest_commute : Commute slice_nearest (λ k. slice_nearest)
  pub step_commute : (ds : List ℕ) → Commute (slice_step ds) (λ k. slice_step (without k ds))
  pub two_axes : TwoAxes
  -- "Where every reading is a node, Linear, Nearest and Step return the stored bits."
  pub linear-stored : (t : Table) (ps : Floats) (at : ℕ → ℕ) → Accepted t → OnNodes t ps at → linear t ps ≡ answered (stored t (tabulate (axes t) at))
  pub nearest-stored : (t : Table) (ps : Floats) (at : ℕ → ℕ) → Accepted t → OnNodes t ps at → nearest t ps ≡ answered (stored t (tabulate (axes t) at))
  pub step-stored : (t : Table) (ps : Floats) (at : ℕ → ℕ) (ds : List ℕ) → Accepted t → OnNodes t ps at → Directed t ds → step ds t ps ≡ answered (stored t (tabulate (axes t) at))
