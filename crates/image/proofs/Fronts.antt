-- What a good load gives: the image's shape, and its nodes and values at the fronts of both outputs. Assumes nothing.
use mathlib.Core.Path.{◌≡◌, sym, ap, ap₂, ◌∙◌}
use mathlib.Core.Bool.{true}
use mathlib.Core.List.{List}
use Prim.Native.Nat.{ℕ}
use lib.Ieee.{Float}
use lib.ListN.{length, take}
use Rattle.answer.specs.Faults.{good}
use Rattle.answer.proofs.Orders.{given-good}
use Rattle.answer.proofs.Outputs.{given_front}
use Rattle.checks.specs.Scaffolding.{sums_of}
use Rattle.checks.specs.declared.shapes.Holding.{Holding}
use Rattle.layout.specs.Shape.{no_shape}
use Rattle.image.specs.Fields.{shape_of}
use Rattle.image.specs.Image.{nodes_in, values_in}
use Rattle.image.specs.Load.{load_fault, load_answer, Loaded}
use Rattle.image.specs.declared.LoadAnswer.{LoadAnswer}
use Rattle.image.proofs.Floats.{nodes_total, values_size}
use Rattle.image.proofs.Laws.{loaded_shape}

module _ {img : List ℕ} {ns vs ns' vs' : List Float} {r : LoadAnswer} (l : Loaded img ns vs ns' vs' r) (g : good (load_fault img (length ns) (length vs)) ≡ true) where
  pub front_shape : r.shape ≡ shape_of img
  unfolding load_answer
  front_shape = ap (λ (a : LoadAnswer). a.shape) l.answer ∙ given-good (load_fault img (length ns) (length vs)) (shape_of img) no_shape g

  -- by the sizes of the shape that it answered
  module _ (h : Holding) (e : h ≡ sums_of r.shape) where
    pub front_many : length (nodes_in img) ≡ h.nodes
    front_many = nodes_total img (loaded_shape img (length ns) (length vs) g) ∙ sym (ap (λ (x : Holding). x.nodes) (e ∙ ap sums_of front_shape))

    pub front_large : length (values_in img) ≡ h.values
    front_large = values_size img ∙ sym (ap (λ (x : Holding). x.values) (e ∙ ap sums_of front_shape))

    pub front_nodes : take h.nodes ns' ≡ nodes_in img
    front_nodes = ap₂ take (sym front_many) l.nodes_out ∙ given_front (load_fault img (length ns) (length vs)) (nodes_in img) ns g

    pub front_values : take h.values vs' ≡ values_in img
    front_values = ap₂ take (sym front_large) l.values_out ∙ given_front (load_fault img (length ns) (length vs)) (values_in img) vs g
