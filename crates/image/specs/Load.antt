-- "Loading checks", in their order, and what loading answers and writes for every input.
use Rattle.std.specs.Prelude.{◌≡◌, true, List, ℕ, ◌+◌, ◌-◌, ◌*◌, length, Float}
use Rattle.answer.specs.Faults.{Fault, good, ◌or◌, first_fault, given, filled_into}
use Rattle.answer.specs.Answer.{fine, ◌then◌}
use Rattle.checks.specs.Numbers.{area_fault, room_fault, axes_fault, values_fault, shared_fault}
use Rattle.layout.specs.Shape.{counts_of, size, total, no_shape}
use Rattle.layout.specs.declared.Shape.{Shape}
use Rattle.image.specs.Head.{head_fault}
use Rattle.image.specs.Image.{nodes_in, values_in}
use Rattle.image.specs.Fields.{axes_field, shape_of, area_of}
use Rattle.image.specs.declared.LoadAnswer.{LoadAnswer}

-- 14 of an area
abbrev pub area_row : List ℕ → ℕ → Fault
area_row img k = area_fault (length img) k (area_of img k).at (area_of img k).floats

-- "axis, or the number of axes for the values"
unfoldable pub areas_fault : List ℕ → Fault
areas_fault img = first_fault (area_row img) 0 (axes_field img + 1)

-- 18 of two areas
abbrev pub pair_row : List ℕ → ℕ → ℕ → Fault
pair_row img i j = shared_fault i j (area_of img i).at (8 * (area_of img i).floats) (area_of img j).at (8 * (area_of img j).floats)

-- "lowest pair first": 0 1, 0 2, .., 1 2, ..
unfoldable pub pairs_fault : List ℕ → Fault
pairs_fault img = first_fault (λ i. first_fault (pair_row img i) (i + 1) (axes_field img - i)) 0 (axes_field img)

-- 15: "place 0 nodes, 1 values"
unfoldable pub rooms_fault : Shape → ℕ → ℕ → Fault
rooms_fault s nodes values = room_fault 0 (total (counts_of s)) nodes or room_fault 1 (size (counts_of s)) values

-- "then 4 to 7"
unfoldable pub contents_fault : List ℕ → Fault
contents_fault img = axes_fault (counts_of (shape_of img)) (nodes_in img) or values_fault (values_in img)

-- document 01's "Loading checks: .. bytes 36-39; areas (14); room (15); then 4 to 7", after the header's own (image/specs/Head.antt)
unfoldable pub load_fault01 : List ℕ → ℕ → ℕ → Fault
load_fault01 img nodes values = head_fault img or areas_fault img or rooms_fault (shape_of img) nodes values or contents_fault img

-- the same with 18, of request C-12, "checked after 14 and before 15"
unfoldable pub load_fault : List ℕ → ℕ → ℕ → Fault
load_fault img nodes values = head_fault img or areas_fault img or pairs_fault img or rooms_fault (shape_of img) nodes values or contents_fault img

-- every check passed, the paper's and 18 of request C-12; `load_fault` has their order
pub record Loadable (img : List ℕ) (nodes values : ℕ) : Type 0 where
  pub head : good (head_fault img) ≡ true
  pub areas : good (areas_fault img) ≡ true
  pub pairs : good (pairs_fault img) ≡ true
  pub rooms : good (rooms_fault (shape_of img) nodes values) ≡ true
  pub axes : good (axes_fault (counts_of (shape_of img)) (nodes_in img)) ≡ true
  pub stored : good (values_fault (values_in img)) ≡ true

-- the answer with the shape; "any .. shape it would give is zero" on a refusal
abbrev pub answer_by : Fault → List ℕ → LoadAnswer
answer_by fault img = record { answer = fault then fine; shape = given fault (shape_of img) no_shape }

unfoldable pub load_answer : List ℕ → ℕ → ℕ → LoadAnswer
load_answer img nodes values = answer_by (load_fault img nodes values) img

-- what loading leaves: its answer, and both outputs, filled from their fronts or untouched
pub record Loaded (img : List ℕ) (nodes values nodes' values' : List Float) (r : LoadAnswer) : Type 0 where
  pub answer : r ≡ load_answer img (length nodes) (length values)
  pub nodes_out : nodes' ≡ filled_into (load_fault img (length nodes) (length values)) (nodes_in img) nodes
  pub values_out : values' ≡ filled_into (load_fault img (length nodes) (length values)) (values_in img) values
