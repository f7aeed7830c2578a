-- Loading: accepted exactly where every check is passed, and nothing else is touched. Assumes nothing.
use mathlib.Core.Path.{◌≡◌, refl, ap}
use mathlib.Core.Bool.{Bool, true, false}
use mathlib.Core.List.{List}
use Prim.Native.Nat.{ℕ, ◌≤◌}
use native.Mathlib.Omega.{arith}
use Rattle.answer.specs.Faults.{good, given}
use Rattle.answer.proofs.Orders as orders
use Rattle.layout.specs.Shape.{counts_of, no_shape}
use Rattle.checks.specs.Numbers.{axes_fault, values_fault}
use Rattle.layout.specs.declared.Shape.{Shape}
use Rattle.checks.proofs.shapes.Frames.{shape_four}
use Rattle.image.specs.Image.{nodes_in, values_in}
use Rattle.image.specs.Fields.{shape_of}
use Rattle.image.specs.Load.{areas_fault, pairs_fault, rooms_fault, contents_fault, load_fault, load_answer, Loadable}
use Rattle.image.specs.Head.{head_fault}
use Rattle.image.specs.Scaffolding.{ShapeJudged}
use Rattle.image.proofs.Heads.{head_shape}

module _ (img : List ℕ) (nodes values : ℕ) where
  pub load_accepts : Loadable img nodes values → good (load_fault img nodes values) ≡ true
  unfolding load_fault contents_fault
  load_accepts l =
      orders.both_passed (head_fault img) _ l.head
      (orders.both_passed (areas_fault img) _ l.areas
      (orders.both_passed (pairs_fault img) _ l.pairs
      (orders.both_passed (rooms_fault (shape_of img) nodes values) _ l.rooms (orders.both_passed (axes_fault (counts_of (shape_of img)) (nodes_in img)) (values_fault (values_in img)) l.axes l.stored))))

  pub load_means : good (load_fault img nodes values) ≡ true → Loadable img nodes values
  unfolding load_fault contents_fault
  load_means h =
      let h1 = orders.second_passed (head_fault img) _ h in
      let h2 = orders.second_passed (areas_fault img) _ h1 in
      let h3 = orders.second_passed (pairs_fault img) _ h2 in
      let h4 = orders.second_passed (rooms_fault (shape_of img) nodes values) (contents_fault img) h3 in
      record {
        head = orders.first-passed (head_fault img) _ h;
        areas = orders.first-passed (areas_fault img) _ h1;
        pairs = orders.first-passed (pairs_fault img) _ h2;
        rooms = orders.first-passed (rooms_fault (shape_of img) nodes values) (contents_fault img) h3;
        axes = orders.first-passed (axes_fault (counts_of (shape_of img)) (nodes_in img)) (values_fault (values_in img)) h4;
        stored = orders.second_passed (axes_fault (counts_of (shape_of img)) (nodes_in img)) (values_fault (values_in img)) h4;
      }

  -- a loaded table's shape is a good one
  pub loaded_shape : good (load_fault img nodes values) ≡ true → ShapeJudged img
  loaded_shape h = head_shape img (load_means h).head

-- loaded or not, the shape that is given has at most four axes
pub given_four : (img : List ℕ) (nodes values : ℕ) → (load_answer img nodes values).shape.axes ≤ 4
unfolding load_answer
given_four img nodes values = go (good (load_fault img nodes values)) refl
  where
    go : (b : Bool) → good (load_fault img nodes values) ≡ b → (given (load_fault img nodes values) (shape_of img) no_shape).axes ≤ 4
    go true e = omega (arith, ap (λ (s : Shape). s.axes) (orders.given-good (load_fault img nodes values) (shape_of img) no_shape e), shape_four (shape_of img) (loaded_shape img nodes values e))
    go false e = omega (arith, ap (λ (s : Shape). s.axes) (orders.given_bad (load_fault img nodes values) (shape_of img) no_shape e))
