-- Laws of an image that every check of a load has passed: its nodes and its values fit in the room for them. They hold as they did; no proof
-- stands on them.
use mathlib.Core.Path.{◌≡◌}
use mathlib.Core.Bool.{true}
use mathlib.Core.List.{List}
use Prim.Native.Nat.{ℕ, ◌≤◌}
use native.Mathlib.Omega.{arith}
use lib.ListN.{length}
use Rattle.answer.specs.Faults.{good}
use Rattle.answer.proofs.Orders as orders
use Rattle.layout.specs.Shape.{counts_of, size, total}
use Rattle.checks.specs.Numbers.{room_fault}
use Rattle.checks.proofs.lent.Rows.{room_passed}
use Rattle.image.specs.Image.{nodes_in, values_in}
use Rattle.image.specs.Fields.{shape_of}
use Rattle.image.specs.Load.{rooms_fault, load_fault}
use Rattle.image.specs.Scaffolding.{ShapeJudged}
use Rattle.image.proofs.Laws.{load_means, loaded_shape}
use Rattle.image.proofs.Floats.{nodes_total, values_size}

-- room for all nodes and all values
pub record Rooms (img : List ℕ) (nodes values : ℕ) : Type 0 where
  pub judged : ShapeJudged img
  pub nodes_room : total (counts_of (shape_of img)) ≤ nodes
  pub values_room : size (counts_of (shape_of img)) ≤ values

module _ (img : List ℕ) (nodes values : ℕ) (h : good (load_fault img nodes values) ≡ true) where
  pub loaded_rooms : Rooms img nodes values
  unfolding rooms_fault
  loaded_rooms =
      let enough = (load_means img nodes values h).rooms in
      record {
        judged = loaded_shape img nodes values h;
        nodes_room = room_passed 0 (total (counts_of (shape_of img))) nodes (orders.first-passed (room_fault 0 (total (counts_of (shape_of img))) nodes) _ enough);
        values_room = room_passed 1 (size (counts_of (shape_of img))) values (orders.second_passed (room_fault 0 (total (counts_of (shape_of img))) nodes) (room_fault 1 (size (counts_of (shape_of img))) values) enough);
      }

  pub nodes_fit : length (nodes_in img) ≤ nodes
  nodes_fit = omega (arith, nodes_total img loaded_rooms.judged, loaded_rooms.nodes_room)

  pub values_fit : length (values_in img) ≤ values
  values_fit = omega (arith, values_size img, loaded_rooms.values_room)
