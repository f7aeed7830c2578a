-- The image at the front of an input: the table or the refusal that loading it gives, and what a run prints of either. Assumes nothing.
use mathlib.Core.Path.{◌≡◌, refl, sym, ap, ◌∙◌, subst}
use mathlib.Core.Bool.{Bool, true, false, cond}
use mathlib.Core.Logic.{◌⊎◌, inl, inr}
use mathlib.Core.List.{List, [], append-nil}
use Prim.Native.Nat.{ℕ, ◌≤◌, ◌<◌, min}
use native.Mathlib.Nat.{eq-or-lt_of_le}
use native.Mathlib.Omega.{arith}
use borrow.Author.Tests.{eq-eqb, ne_eqb}
use lib.Dec.{eqb}
use lib.Ieee.{Float}
use lib.ListN.{length, take, drop, drop_of_length-le}
use Rattle.answer.specs.Faults.{Fault, good}
use Rattle.answer.specs.Answer.{refused, answered, fine, ◌then◌}
use Rattle.answer.specs.declared.Answer.{Answer}
use Rattle.answer.proofs.Answers.{then_good, then_bad, refused_number}
use Rattle.answer.proofs.Orders.{clash}
use Rattle.layout.specs.declared.Shape.{Shape}
use Rattle.layout.proofs.Totals.{take_there}
use Rattle.checks.specs.Scaffolding.{sums_of}
use Rattle.checks.specs.Shapes.{shape_fault}
use Rattle.checks.specs.declared.shapes.Holding.{Holding}
use Rattle.checks.proofs.shapes.Frames.{shape_four}
use Rattle.image.specs.Fields.{shape_of}
use Rattle.image.specs.Image.{nodes_in, values_in}
use Rattle.image.specs.Load.{load_fault, load_answer, Loaded}
use Rattle.image.specs.declared.LoadAnswer.{LoadAnswer}
use Rattle.image.proofs.Fronts.{front_shape, front_nodes, front_values}
use Rattle.image.proofs.Laws.{loaded_shape}
use Rattle.lines.specs.Line.{line_of}
use Rattle.program.specs.Input.{image_size, image_in}
use Rattle.program.specs.Run.{run_by}
use Rattle.program.specs.Whole.{TableOf, Ran}
use Rattle.program.specs.Scaffolding.{Loads}
use Rattle.program.specs.declared.front.Front.{Front}
use Rattle.program.specs.declared.print.Unprinted.{Unprinted}
use Rattle.std.specs.Prelude.{Result, Ok, Err, OnOk, IfOk}
use Rattle.std.specs.Result.{result_unwrap_or}
use Rattle.answer.specs.Rows.{said}
use Rattle.answer.specs.declared.Refusal.{Refusal}
use Rattle.answer.proofs.Checks.{fails}

-- an answer's number is 0 exactly where nothing is wrong
pub number_good : (f : Fault) (a : Answer) → a ≡ (f then fine) → eqb a.number 0 ≡ good f
unfolding fine answered
number_good f a e = go (good f) refl
  where
    number : Answer → Bool
    number x = eqb x.number 0

    go : (b : Bool) → good f ≡ b → eqb a.number 0 ≡ good f
    go true h = ap number (e ∙ then_good f fine h) ∙ sym h
    go false h = ap number (e ∙ then_bad f fine h) ∙ refused_number f

-- what a shape holds that passes 1 and 2, whatever is held of another
pub sized_held : (s : Shape) (r : Result Holding Refusal) → said r ≡ shape_fault s → IfOk r (λ h. h ≡ sums_of s) → (d h : Holding) → h ≡ result_unwrap_or r d → good (shape_fault s) ≡ true → h ≡ sums_of s
sized_held s (Ok x) e held d h q g = q ∙ held
sized_held s (Err x) e held d h q g = clash (good (shape_fault s)) g (fails Holding x (shape_fault s) e)

least_front : (n m : ℕ) (xs : List Float) → n ≡ min m (length xs) → take n xs ≡ take m xs
least_front n m xs q = ap (λ (k : ℕ). take k xs) q ∙ take_there m xs

-- ---- what is not there of an image is not looked at
module _ (input : List ℕ) (size : ℕ) (e : size ≡ min (image_size input) (length input)) where
  front_image : take size input ≡ image_in input
  front_image = ap (λ (k : ℕ). take k input) e ∙ take_there (image_size input) input

  front_rest : drop size input ≡ drop (image_size input) input
  front_rest = by (eq-or-lt_of_le (omega (arith, e)))
    where
      by : (size ≡ image_size input) ⊎ (size < image_size input) → drop size input ≡ drop (image_size input) input
      by (inl q) = ap (λ (k : ℕ). drop k input) q
      by (inr q) = drop_of_length-le input {i = size} (omega (arith, e)) ∙ sym (drop_of_length-le input {i = image_size input} (omega (arith, e)))

  -- ---- what the loader gave
  module _ {ns vs ns' vs' : List Float} {r : LoadAnswer} (l : Loaded (take size input) ns vs ns' vs' r) (x : length ns ≡ 256) (y : length vs ≡ 4096)
      (h : Holding) (q : good (shape_fault r.shape) ≡ true → h ≡ sums_of r.shape) (n v : ℕ) (i : n ≡ min h.nodes (length ns')) (j : v ≡ min h.values (length vs')) where
    same : load_fault (take size input) (length ns) (length vs) ≡ load_fault (image_in input) 256 4096
    same = rw (x, y, front_image)

    told : r.answer ≡ (load_fault (image_in input) 256 4096 then fine)
    unfolding load_answer
    told = ap (λ (a : LoadAnswer). a.answer) l.answer ∙ ap (λ (f : Fault). f then fine) same

    table : r.answer.number ≡ 0 → TableOf (image_in input) r.shape (take n ns') (take v vs')
    table z = record {
      loads = loads;
      shape_is = front_shape l given ∙ ap shape_of front_image;
      nodes_are = least_front n h.nodes ns' i ∙ front_nodes l given h held ∙ ap nodes_in front_image;
      values_are = least_front v h.values vs' j ∙ front_values l given h held ∙ ap values_in front_image;
    }
      where
        loads : good (load_fault (image_in input) 256 4096) ≡ true
        loads = sym (number_good (load_fault (image_in input) 256 4096) r.answer told) ∙ eq-eqb r.answer.number 0 z

        given : good (load_fault (take size input) (length ns) (length vs)) ≡ true
        given = ap good same ∙ loads

        held : h ≡ sums_of r.shape
        held = q (ap (λ (s : Shape). good (shape_fault s)) (front_shape l given) ∙ loaded_shape (take size input) (length ns) (length vs) given)

    pub front_loads : Loads input ns' vs' (record { size = size; answer = r.answer; shape = r.shape; nodes = n; values = v })
    front_loads = record { image_is = front_image; rest_is = front_rest; told = told; table = table }

-- ---- what a run prints of it
module _ {input : List ℕ} {ns vs : List Float} {f : Front} (l : Loads input ns vs f) where
  abbrev fault : Fault
  fault = load_fault (image_in input) 256 4096

  -- a text of the records, or the line of the refusal
  pub front_run : (text : List ℕ → List ℕ → List ℕ)
      → run_by text input ≡ cond (eqb f.answer.number 0) (text (image_in input) (drop f.size input)) (line_of f.answer)
  unfolding run_by
  front_run text = go (good fault) refl
    where
      go : (b : Bool) → good fault ≡ b
          → cond (good fault) (text (image_in input) (drop (image_size input) input)) (line_of (refused fault))
          ≡ cond (eqb f.answer.number 0) (text (image_in input) (drop f.size input)) (line_of f.answer)
      go true g = rw (number_good fault f.answer l.told, g, l.rest_is)
      go false g = rw (number_good fault f.answer l.told, g, l.told ∙ then_bad fault fine g)

  -- its line, where it is refused
  pub front_line : (f.answer.number ≡ 0 → ⊥) → (text : List ℕ → List ℕ → List ℕ) → run_by text input ≡ line_of f.answer
  front_line h text =
      front_run text ∙ ap (λ (b : Bool). cond b (text (image_in input) (drop f.size input)) (line_of f.answer)) (ne_eqb f.answer.number 0 h)

  -- ---- of bytes that are an image and nothing else
  module _ (e : image_in input ≡ input) where
    told-good : eqb f.answer.number 0 ≡ good (load_fault input 256 4096)
    told-good = number_good fault f.answer l.told ∙ ap (λ (x : List ℕ). good (load_fault x 256 4096)) e

    pub image_refused : (f.answer.number ≡ 0 → ⊥) → good (load_fault input 256 4096) ≡ false
    image_refused h = sym told-good ∙ ne_eqb f.answer.number 0 h

    pub image_good : f.answer.number ≡ 0 → good (load_fault input 256 4096) ≡ true
    image_good h = sym told-good ∙ eq-eqb f.answer.number 0 h

    pub image_table : f.answer.number ≡ 0 → TableOf input f.shape (take f.nodes ns) (take f.values vs)
    image_table h = subst (λ (x : List ℕ). TableOf x f.shape (take f.nodes ns) (take f.values vs)) e (l.table h)

-- nothing is read after it
pub refused_ran : (text : List ℕ → List ℕ → List ℕ) (enough : ℕ) (img : List ℕ) (printed : ℕ) (r : Result (Unit {0}) Unprinted) → good (load_fault img 256 4096) ≡ false
    → OnOk r (printed ≡ length (run_by text img)) → Ran text enough img (record { asked = 0; read = 0; printed = printed }) r
refused_ran text enough img printed r h e = record {
  records = [];
  all_read = refl;
  all_printed = rw (append-nil img) e;
  refused_ends = λ _. refl;
  input_ends = λ t. clash (good (load_fault img 256 4096)) t h;
}

-- the table of an image passes 1 and 2, and has at most four axes
module _ {img : List ℕ} {shape : Shape} {nodes values : List Float} (t : TableOf img shape nodes values) where
  pub table_shape : good (shape_fault shape) ≡ true
  table_shape = ap (λ (s : Shape). good (shape_fault s)) t.shape_is ∙ loaded_shape img 256 4096 t.loads

  pub four_axes : shape.axes ≤ 4
  four_axes = shape_four shape table_shape
