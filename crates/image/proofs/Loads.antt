-- What loading answers and writes, put together. Assumes nothing.
use mathlib.Core.Path.{◌≡◌, refl, ap₂}
use mathlib.Core.Bool.{true}
use mathlib.Core.List.{List, ◌++◌}
use Prim.Native.Nat.{ℕ, ◌≤◌}
use native.Mathlib.Omega.{arith}
use lib.ListN.{length, drop}
use Rattle.std.proofs.Common.{Ok, Err}
use Rattle.answer.specs.Faults.{Fault, good, filled_into}
use Rattle.answer.specs.Answer.{refused, fine}
use Rattle.answer.specs.Rows.{fault_of, said}
use Rattle.answer.specs.declared.Answer.{Answer}
use Rattle.answer.specs.declared.Refusal.{Refusal}
use Rattle.answer.proofs.Orders as orders
use Rattle.answer.proofs.Checks as checks
use Rattle.layout.specs.Shape.{counts_of, size, total, no_shape}
use Rattle.layout.specs.declared.Shape.{Shape}
use Rattle.checks.specs.declared.shapes.Holding.{Holding}
use Rattle.image.specs.Fields.{shape_of}
use Rattle.image.specs.Load.{rooms_fault, load_fault, load_answer}
use Rattle.image.specs.Scaffolding.{Held}
use Rattle.image.specs.declared.LoadAnswer.{LoadAnswer}
use Rattle.image.proofs.Laws.{load_means}
use Rattle.image.proofs.Floats.{nodes_held, values_held}
use Rattle.checks.specs.Numbers.{room_fault}
use Rattle.checks.proofs.lent.Rows.{room_passed}

-- ---- the answer, by what the checks gave
module _ (img : List ℕ) (nodes values : ℕ) where
  pub load-refused : (A : Type 0) (e : Refusal) → said {A = A} (Err e) ≡ load_fault img nodes values → ◌≡◌ {A = LoadAnswer} (record { answer = refused (fault_of e); shape = no_shape }) (load_answer img nodes values)
  unfolding load_answer
  load-refused A e s =
      ap₂ (λ (a : Answer) (s : Shape). record { answer = a; shape = s })
      (checks.then_stops A e (load_fault img nodes values) s (refused (fault_of e)) fine refl)
      (checks.given-refused A e (load_fault img nodes values) s (shape_of img) no_shape)

  pub load_made : {A : Type 0} (x : A) → said (Ok x) ≡ load_fault img nodes values → (a : Answer) (s : Shape) → a ≡ fine → s ≡ shape_of img
      → ◌≡◌ {A = LoadAnswer} (record { answer = a; shape = s }) (load_answer img nodes values)
  unfolding load_answer
  load_made x h a s p q =
      ap₂ (λ (a : Answer) (s : Shape). record { answer = a; shape = s })
      (checks.then_goes_on x (load_fault img nodes values) h a fine p)
      (checks.given_kept x (load_fault img nodes values) h s (shape_of img) no_shape q)

-- ---- an output after a call, by what the checks gave
module _ {B : Type 0} (a : Fault) (xs out : List B) where
  pub out_kept : (A : Type 0) (e : Refusal) → said {A = A} (Err e) ≡ a → out ≡ filled_into a xs out
  unfolding filled_into
  out_kept A e s = checks.given-refused A e a s (xs ++ drop (length xs) out) out

  module _ {A : Type 0} (x : A) (s : said (Ok x) ≡ a) (after : List B) where
    pub out_begun : after ≡ xs ++ drop (length xs) out → after ≡ filled_into a xs out
    unfolding filled_into
    out_begun q = checks.given_kept x a s after (xs ++ drop (length xs) out) out q

-- ---- what is known where every check was passed
module _ (img : List ℕ) (nodes values : ℕ) (held : Holding) (s : said (Ok held) ≡ load_fault img nodes values) (k : Held img held) where
  passed : good (rooms_fault (shape_of img) nodes values) ≡ true
  passed = (load_means img nodes values (checks.passes held _ s)).rooms

  pub nodes_fit : held.nodes ≤ nodes
  unfolding rooms_fault
  nodes_fit = omega (arith, nodes_held img held k, room_passed 0 (total (counts_of (shape_of img))) nodes (orders.first-passed (room_fault 0 (total (counts_of (shape_of img))) nodes) _ passed))

  pub values_fit : held.values ≤ values
  unfolding rooms_fault
  values_fit =
      omega (
        arith,
        values_held img held k,
        room_passed 1 (size (counts_of (shape_of img))) values
            (orders.second_passed (room_fault 0 (total (counts_of (shape_of img))) nodes) (room_fault 1 (size (counts_of (shape_of img))) values) passed),
      )
