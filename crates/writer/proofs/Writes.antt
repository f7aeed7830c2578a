-- What writing answers and writes, put together. Assumes nothing.
use mathlib.Core.Path.{◌≡◌, refl, ap, ap₂, ◌∙◌}
use mathlib.Core.Bool.{true}
use mathlib.Core.List.{List, ◌++◌}
use Prim.Native.Nat.{ℕ, ◌+◌, ◌≤◌}
use native.Mathlib.Nat.{zero-add}
use native.Mathlib.Omega.{arith}
use lib.ListN.{length, drop}
use lib.Seq.{sets, sets-eq}
use lib.Ieee.{Float}
use Rattle.std.proofs.Common.{Ok, Err}
use Rattle.answer.specs.Faults.{Fault, good, ◌or◌, filled_into}
use Rattle.answer.specs.Answer.{refused, fine}
use Rattle.answer.specs.Rows.{said, fault_of}
use Rattle.answer.specs.declared.Answer.{Answer}
use Rattle.answer.specs.declared.Refusal.{Refusal}
use Rattle.answer.proofs.Checks as checks
use Rattle.answer.proofs.Orders as orders
use Rattle.layout.specs.Shape.{counts_of, size, total}
use Rattle.checks.specs.Shapes.{shape_fault, frame_fault}
use Rattle.checks.specs.Numbers.{length_fault}
use Rattle.layout.specs.declared.Shape.{Shape}
use Rattle.writer.specs.Made.{image_length, image_of}
use Rattle.writer.specs.Write.{write_fault, write_answer, Written}
use Rattle.writer.specs.Scaffolding.{Framed, Roomy}
use Rattle.writer.specs.declared.WriteAnswer.{WriteAnswer}
use Rattle.writer.proofs.Images.{length_image}
use Rattle.writer.proofs.Laws.{Writable, write_means}
use Rattle.checks.proofs.lent.Rows.{length-passed}

module _ (s : Shape) (nodes values : List Float) (room : ℕ) where
  abbrev fault : Fault
  fault = write_fault s nodes values room

  -- ---- what is known where every check was passed
  module _ (h : good fault ≡ true) where
    passed : Writable s nodes values room
    passed = write_means s nodes values room h

    lengths : good (length_fault 0 (total (counts_of s)) (length nodes) or length_fault 1 (size (counts_of s)) (length values)) ≡ true
    unfolding frame_fault
    lengths = orders.second_passed (shape_fault s) _ passed.frame

    pub written_frame : Framed s nodes values
    unfolding frame_fault
    written_frame = record {
      judged = orders.first-passed (shape_fault s) _ passed.frame;
      nodes_long = length-passed 0 (total (counts_of s)) (length nodes) (orders.first-passed _ (length_fault 1 (size (counts_of s)) (length values)) lengths);
      values_long = length-passed 1 (size (counts_of s)) (length values) (orders.second_passed (length_fault 0 (total (counts_of s)) (length nodes)) _ lengths);
    }

    pub written_room_lem : Roomy s nodes values room
    written_room_lem = record { framed = written_frame; room_enough = passed.roomy }

    written_fits : length (image_of s nodes values) ≤ room
    written_fits = omega (arith, length_image s nodes values written_frame.nodes_long written_frame.values_long, passed.roomy)

-- ---- what writing leaves
module _ (s : Shape) (nodes values : List Float) (img : List ℕ) where
  abbrev given_fault : Fault
  given_fault = write_fault s nodes values (length img)

  -- where a check refused
  pub left_as_it_was : (e : Refusal) → said {A = Unit {0}} (Err e) ≡ write_fault s nodes values (length img) → (a : WriteAnswer) → a ≡ record { answer = refused (fault_of e); length = 0 } → Written s nodes values img img a
  unfolding write_answer filled_into
  left_as_it_was e told a q = record {
    answer =
        q
        ∙ ap₂ (λ (b : Answer) (n : ℕ). record { answer = b; length = n })
        (checks.then_stops (Unit {0}) e given_fault told (refused (fault_of e)) fine refl)
        (checks.given-refused (Unit {0}) e given_fault told (image_length s) 0);
    image_out = checks.given-refused (Unit {0}) e given_fault told (image_of s nodes values ++ drop (length (image_of s nodes values)) img) img;
  }

  -- where every check passed
  pub left_written : {A : Type 0} (x : A) → said (Ok x) ≡ write_fault s nodes values (length img) → (img' : List ℕ) → img' ≡ sets img 0 (image_of s nodes values)
      → (a : Answer) (n : ℕ) → a ≡ fine → n ≡ image_length s → Written s nodes values img img' (record { answer = a; length = n })
  unfolding write_answer filled_into
  left_written x told img' q a n p m =
      let fits : 0 + length (image_of s nodes values) ≤ length img = omega (arith, written_fits s nodes values (length img) (checks.passes x given_fault told)) in
      let front : sets img 0 (image_of s nodes values) ≡ image_of s nodes values ++ drop (length (image_of s nodes values)) img =
      sets-eq (image_of s nodes values) img 0 fits ∙ ap (λ (k : ℕ). image_of s nodes values ++ drop k img) (zero-add (length (image_of s nodes values))) in
      record {
        answer =
            ap₂ (λ (b : Answer) (k : ℕ). record { answer = b; length = k })
            (checks.then_goes_on x given_fault told a fine p)
            (checks.given_kept x given_fault told n (image_length s) 0 m);
        image_out = checks.given_kept x given_fault told img' (image_of s nodes values ++ drop (length (image_of s nodes values)) img) img (q ∙ front);
      }
