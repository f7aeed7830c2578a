-- What a call is lent, and the calls: the vocabulary of the page of promises (Promises.antt).
use Rattle.std.specs.Prelude.{◌≡◌, List, ℕ, T, length, get_or, Float}
use Rattle.std.specs.Float.{nan, binary64}
use Rattle.std.specs.Float.Ieee.{fits}
use Rattle.answer.specs.Faults.{filled_into}
use Rattle.answer.specs.declared.Answer.{Answer}
use Rattle.layout.specs.Shape.{counts_of}
use Rattle.layout.specs.Layout.{axis_of, table}
use Rattle.layout.specs.declared.Shape.{Shape}
use Rattle.ninterp.specs.Tables.{nearest_answer, step_answer}
use Rattle.ninterp.specs.Linears.{linear_answer, linear_uniform_answer}
use Rattle.ninterp.specs.Records.{record_answer}
use Rattle.slices.specs.Slices.{nearest_slice, nearest_sliced, step_slice, step_sliced}
use Rattle.slices.specs.LinearSlices.{linear_slice, linear_sliced, linear_uniform_slice, linear_uniform_sliced}
use Rattle.slices.specs.declared.SliceAnswer.{SliceAnswer}
use Rattle.image.specs.Load.{load_fault, load_answer}
use Rattle.image.specs.Image.{nodes_in, values_in}
use Rattle.image.specs.declared.LoadAnswer.{LoadAnswer}
use Rattle.writer.specs.Made.{image_of}
use Rattle.writer.specs.Write.{write_fault, write_answer}
use Rattle.writer.specs.declared.WriteAnswer.{WriteAnswer}

-- ==== What a call is lent

-- a slice of f64 lends numbers that an f64 can hold
pub record Floats : Type 0 where
  pub list : List Float
  pub held : (i : ℕ) → T (fits binary64 (get_or list i nan))

-- a table is lent as its shape, which has four counts in memory, its nodes and its values
pub record Table : Type 0 where
  pub shape : Shape
  pub four : length shape.counts ≡ 4
  pub nodes : Floats
  pub values : Floats

abbrev pub axes : Table → ℕ
axes t = t.shape.axes

-- the counts of its axes; the nodes of one axis; the value at an index list
abbrev pub counts : Table → List ℕ
counts t = counts_of t.shape

abbrev pub axis : Table → ℕ → List Float
axis t a = axis_of t.shape t.nodes.list a

abbrev pub stored : Table → List ℕ → Float
stored t is = table (counts t) t.values.list is

-- ==== The calls, by their contracts (board/src): what each answers, and with it what it leaves of what it is lent to write
abbrev pub on : {A : Type 0} → Table → (Shape → List Float → List Float → A) → A
on t call = call t.shape t.nodes.list t.values.list

abbrev pub Lookup : Type 0
Lookup = Table → Floats → Answer

abbrev pub linear : Lookup
linear t ps = on t linear_answer ps.list

abbrev pub linear_uniform : Lookup
linear_uniform t ps = on t linear_uniform_answer ps.list

abbrev pub nearest : Lookup
nearest t ps = on t nearest_answer ps.list

abbrev pub step : List ℕ → Lookup
step ds t ps = on t step_answer ps.list ds

abbrev pub EveryLookup : (Lookup → Type 0) → Type 0
EveryLookup P = P linear × (P linear_uniform × (P nearest × ((ds : List ℕ) → P (step ds))))

-- a slice: the table, the axis, the reading and the output before
abbrev pub Slice : Type 0
Slice = Table → ℕ → Float → List Float → SliceAnswer × List Float

abbrev pub slice_linear : Slice
slice_linear t k p out = (on t linear_slice k p (length out), on t linear_sliced k p out)

abbrev pub slice_linear_uniform : Slice
slice_linear_uniform t k p out = (on t linear_uniform_slice k p (length out), on t linear_uniform_sliced k p out)

abbrev pub slice_nearest : Slice
slice_nearest t k p out = (on t nearest_slice k p (length out), on t nearest_sliced k p out)

abbrev pub slice_step : List ℕ → Slice
slice_step ds t k p out = (on t step_slice ds k p (length out), on t step_sliced ds k p out)

abbrev pub EverySlice : (Slice → Type 0) → Type 0
EverySlice P = P slice_linear × (P slice_linear_uniform × (P slice_nearest × ((ds : List ℕ) → P (slice_step ds))))

-- a load: the image, both outputs before; its answer and both outputs after
abbrev pub load : List ℕ → List Float → List Float → LoadAnswer × (List Float × List Float)
load img ns vs =
    let fault = load_fault img (length ns) (length vs) in
    (load_answer img (length ns) (length vs), (filled_into fault (nodes_in img) ns, filled_into fault (values_in img) vs))

-- a write: the table, the output before
abbrev pub write : Table → List ℕ → WriteAnswer × List ℕ
write t out = (on t write_answer (length out), filled_into (on t write_fault (length out)) (on t image_of) out)

-- the answer to a record of the program: its table, and the record's bytes
abbrev pub record_of : Table → List ℕ → Answer
record_of t rec = on t record_answer rec
