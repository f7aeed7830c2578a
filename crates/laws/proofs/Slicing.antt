-- Demand 3 of the page of promises, its first part: a slice, then a lookup in what it left. Assumes nothing.
use mathlib.Core.Path.{◌≡◌, sym, ap, ◌∙◌, subst}
use mathlib.Core.Bool.{true}
use mathlib.Core.List.{List}
use Prim.Native.Nat.{ℕ}
use lib.ListN.{length, take}
use lib.Ieee.{Float}
use Rattle.answer.specs.Faults.{Fault, good, filled_into}
use Rattle.answer.specs.Answer.{fine}
use Rattle.answer.proofs.Answers.{then_number}
use Rattle.answer.proofs.Outputs.{given_front}
use Rattle.answer.proofs.Answers.{then_number}
use Rattle.layout.specs.Shape.{counts_of, size}
use Rattle.layout.specs.Layout.{insert, without, nodes_without}
use Rattle.layout.specs.declared.Shape.{Shape}
use Rattle.orders.specs.Orders.{nearest_slice_fault, step_slice_fault}
use Rattle.ninterp.specs.Tables.{nearest_answer, step_answer}
use Rattle.ninterp.specs.Linears.{linear_answer, linear_uniform_answer}
use Rattle.slices.specs.Slices.{shape_without, slice_answer, rule_slice, nearest_slice, nearest_sliced, step_slice, step_sliced}
use Rattle.slices.specs.LinearSlices.{linear_slice_fault, linear_uniform_slice_fault, linear_slice, linear_sliced, linear_uniform_slice, linear_uniform_sliced}
use Rattle.slices.proofs.Refusals.{made_shape}
use Rattle.laws.specs.Lowered.{lowered}
use Rattle.laws.specs.Calls.{Table, counts, linear, linear_uniform, nearest, step, slice_linear, slice_linear_uniform, slice_nearest, slice_step}
use Rattle.laws.specs.Promises.{After, Answers}
use Rattle.laws.proofs.Left as over
use Rattle.laws.proofs.Left.{Cut}
use Rattle.laws.proofs.SliceLaw as law
use Rattle.laws.proofs.LinearLaw.{linear_cut, linear_uniform_cut, linear_slice_law, linear_uniform_slice_law, linear_first_only, linear_uniform_first_only}

-- what is judged of a slice is its answer's number
pub slice_good : (f : Fault) (s : Shape) (k : ℕ) → (slice_answer f s k).answer.number ≡ 0 → good f ≡ true
unfolding slice_answer
slice_good f s k h = then_number f fine h

-- ---- what a made slice left, lent as a table
module _ {t t' : Table} {k : ℕ} {p : Float} {xs : List Float} (cut : Cut t.shape t.nodes.list t.values.list k p xs) (f : Fault) (out : List Float) (g : good f ≡ true)
    (after : After t k (slice_answer f t.shape k, filled_into f xs out) t') where
  shape_is : t'.shape ≡ shape_without t.shape k
  shape_is = after.shape ∙ made_shape f t.shape k g

  values_is : t'.values.list ≡ xs
  values_is =
      after.values
      ∙ ap (λ (m : ℕ). take m (filled_into f xs out)) (ap (λ (s : Shape). size (counts_of s)) shape_is ∙ ap size (over.counts_left cut) ∙ sym cut.long)
      ∙ given_front f xs out g

  pub left_is : {A : Type 0} (h : Shape → List Float → List Float → A) → h t'.shape t'.nodes.list t'.values.list ≡ h (shape_without t.shape k) (nodes_without k (counts t) t.nodes.list) xs
  left_is h =
      ap (λ (s : Shape). h s t'.nodes.list t'.values.list) shape_is
      ∙ ap (λ (ns : List Float). h (shape_without t.shape k) ns t'.values.list) after.nodes
      ∙ ap (λ (vs : List Float). h (shape_without t.shape k) (nodes_without k (counts t) t.nodes.list) vs) values_is

-- ---- a lookup in it
pub nearest-answers : Answers nearest (λ k. nearest) slice_nearest
unfolding nearest_slice nearest_sliced rule_slice
nearest-answers t t' k p out h after ps all e =
    let g : good (nearest_slice_fault t.shape t.nodes.list t.values.list k p (length out)) ≡ true = slice_good _ t.shape k h in
    left_is (law.cut (law.nearest_made t.shape t.nodes.list t.values.list k p (length out) g)) _ out g after (λ s ns vs. nearest_answer s ns vs ps.list)
    ∙ law.nearest_slice_law t.shape t.nodes.list t.values.list k p (length out) g ps.list
    ∙ ap (λ (l : List Float). lowered k (nearest_answer t.shape t.nodes.list t.values.list l)) (sym e)

pub step-answers : (ds : List ℕ) → Answers (step ds) (λ k. step (without k ds)) (slice_step ds)
unfolding step_slice step_sliced rule_slice
step-answers ds t t' k p out h after ps all e =
    let g : good (step_slice_fault t.shape t.nodes.list t.values.list ds k p (length out)) ≡ true = slice_good _ t.shape k h in
    left_is (law.cut (law.step_made t.shape t.nodes.list t.values.list ds k p (length out) g)) _ out g after (λ s ns vs. step_answer s ns vs ps.list (without k ds))
    ∙ law.step_slice_law t.shape t.nodes.list t.values.list ds k p (length out) g ps.list
    ∙ ap (λ (l : List Float). lowered k (step_answer t.shape t.nodes.list t.values.list l ds)) (sym e)

-- ---- the two linears, which are made on the first axis alone: what holds there holds on every axis that is sliced
pub only_first : (fault : ℕ → Fault) → ((a : ℕ) → good (fault a) ≡ true → a ≡ 0) → (P : ℕ → Type 0) → (good (fault 0) ≡ true → P 0) → (k : ℕ) → good (fault k) ≡ true → P k
only_first fault first P h k g = subst P (sym (first k g)) (h (subst (λ (a : ℕ). good (fault a) ≡ true) (first k g) g))

pub linear-answers : Answers linear (λ k. linear) slice_linear
unfolding linear_slice linear_sliced
linear-answers t t' k p out h after ps all e =
    only_first (λ a. linear_slice_fault t.shape t.nodes.list t.values.list a p (length out)) (λ a. linear_first_only t.shape t.nodes.list t.values.list a p (length out))
    (λ a. After t a (slice_linear t a p out) t' → all.list ≡ insert a p ps.list → linear t' ps ≡ lowered a (linear t all))
    (λ g left q.
    left_is (linear_cut t.shape t.nodes.list t.values.list p (length out) g) _ out g left (λ s ns vs. linear_answer s ns vs ps.list)
    ∙ linear_slice_law t.shape t.nodes.list t.values.list p (length out) g ps.list
    ∙ ap (λ (l : List Float). lowered 0 (linear_answer t.shape t.nodes.list t.values.list l)) (sym q))
    k (slice_good _ t.shape k h) after e

pub uniform_answers : Answers linear_uniform (λ k. linear_uniform) slice_linear_uniform
unfolding linear_uniform_slice linear_uniform_sliced
uniform_answers t t' k p out h after ps all e =
    only_first (λ a. linear_uniform_slice_fault t.shape t.nodes.list t.values.list a p (length out)) (λ a. linear_uniform_first_only t.shape t.nodes.list t.values.list a p (length out))
    (λ a. After t a (slice_linear_uniform t a p out) t' → all.list ≡ insert a p ps.list → linear_uniform t' ps ≡ lowered a (linear_uniform t all))
    (λ g left q.
    left_is (linear_uniform_cut t.shape t.nodes.list t.values.list p (length out) g) _ out g left (λ s ns vs. linear_uniform_answer s ns vs ps.list)
    ∙ linear_uniform_slice_law t.shape t.nodes.list t.values.list p (length out) g ps.list
    ∙ ap (λ (l : List Float). lowered 0 (linear_uniform_answer t.shape t.nodes.list t.values.list l)) (sym q))
    k (slice_good _ t.shape k h) after e
