-- Writing: accepted exactly where every check is passed. Assumes nothing.
use mathlib.Core.Path.{◌≡◌, refl, ap}
use mathlib.Core.Bool.{Bool, true, false}
use mathlib.Core.List.{List}
use Prim.Native.Nat.{ℕ, ◌≤◌}
use native.Mathlib.Omega.{arith}
use lib.ListN.{length}
use lib.Ieee.{Float}
use Rattle.answer.specs.Faults.{good, given}
use Rattle.answer.proofs.Orders as orders
use Rattle.layout.specs.Shape.{counts_of}
use Rattle.checks.specs.Shapes.{frame_fault}
use Rattle.checks.specs.Numbers.{axes_fault, values_fault, room_fault}
use Rattle.layout.specs.declared.Shape.{Shape}
use Rattle.writer.specs.Made.{image_length}
use Rattle.writer.specs.Write.{write_fault, write_answer}
use Rattle.writer.specs.declared.WriteAnswer.{WriteAnswer}
use Rattle.checks.proofs.lent.Rows.{room_enough, room_passed}

-- "it checks 1 to 7, then 15"
pub record Writable (s : Shape) (nodes values : List Float) (room : ℕ) : Type 0 where
  pub frame : good (frame_fault s (length nodes) (length values)) ≡ true
  pub axes : good (axes_fault (counts_of s) nodes) ≡ true
  pub stored : good (values_fault values) ≡ true
  pub roomy : image_length s ≤ room

module _ (s : Shape) (nodes values : List Float) (room : ℕ) where
  pub write_accepts : Writable s nodes values room → good (write_fault s nodes values room) ≡ true
  unfolding write_fault
  write_accepts w =
      orders.both_passed (frame_fault s (length nodes) (length values)) _ w.frame
      (orders.both_passed (axes_fault (counts_of s) nodes) _ w.axes (orders.both_passed (values_fault values) _ w.stored (orders.passed-no_fault (room_fault 2 (image_length s) room) (room_enough 2 (image_length s) room w.roomy))))

  pub write_means : good (write_fault s nodes values room) ≡ true → Writable s nodes values room
  unfolding write_fault
  write_means h =
      let h1 = orders.second_passed (frame_fault s (length nodes) (length values)) _ h in
      let h2 = orders.second_passed (axes_fault (counts_of s) nodes) _ h1 in
      record {
        frame = orders.first-passed (frame_fault s (length nodes) (length values)) _ h;
        axes = orders.first-passed (axes_fault (counts_of s) nodes) _ h1;
        stored = orders.first-passed (values_fault values) _ h2;
        roomy = room_passed 2 (image_length s) room (orders.second_passed (values_fault values) (room_fault 2 (image_length s) room) h2);
      }

-- written or not, the length that is told lies inside the output
pub told_inside : (s : Shape) (nodes values : List Float) (room : ℕ) (r : WriteAnswer) → r ≡ write_answer s nodes values room → r.length ≤ room
unfolding write_answer
told_inside s nodes values room r q = omega (arith, ap (λ (x : WriteAnswer). x.length) q, go (good (write_fault s nodes values room)) refl)
  where
    go : (b : Bool) → good (write_fault s nodes values room) ≡ b → given (write_fault s nodes values room) (image_length s) 0 ≤ room
    go true e = omega (arith, orders.given-good (write_fault s nodes values room) (image_length s) 0 e, (write_means s nodes values room e).roomy)
    go false e = omega (arith, orders.given_bad (write_fault s nodes values room) (image_length s) 0 e)
