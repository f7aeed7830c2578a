-- A text put into an output where it has room, and else refused. Assumes nothing.
use mathlib.Core.Path.{◌≡◌, refl, sym, ap, ap₂, ◌∙◌}
use mathlib.Core.Bool.{Bool, true, false}
use mathlib.Core.List.{List, [], ◌∷◌, ◌++◌}
use Prim.Native.Nat.{ℕ, ◌+◌, ◌≤◌, ◌<◌}
use native.Mathlib.Nat.{zero-add}
use native.Mathlib.Omega.{arith}
use borrow.Author.Tests.{eq-eqb, ne_eqb, lt-leb, ltb-true, ltb-false}
use lib.Dec.{eqb, ltb}
use lib.ListN.{length, drop}
use Rattle.answer.specs.Faults.{refusal, no_fault, good, when, given, filled_into}
use Rattle.answer.specs.Answer.{refused, fine}
use Rattle.answer.specs.declared.Answer.{Answer}
use Rattle.answer.proofs.Orders as orders
use Rattle.answer.proofs.Checks.{given_kept, given-refused, then_stops, then_goes_on}
use Rattle.answer.specs.Rows.{said, fault_of}
use Rattle.answer.specs.declared.Refusal.{Refusal}
use Rattle.std.specs.Prelude.{Ok, Err}
use Rattle.checks.specs.Numbers.{room_fault}
use Rattle.checks.proofs.lent.Rows.{room_passed}
use Rattle.lines.specs.Line.{line_of}
use Rattle.lines.specs.Put.{put, room_for, all_into}
use Rattle.lines.proofs.Puts.{all_there}
use Rattle.program.specs.declared.run.RunAnswer.{RunAnswer}
use Rattle.program.specs.Scaffolding.{Fronted, room_answer, text_of}
use Rattle.program.specs.Run.{text_fault, text_answer, Texted}
use Rattle.program.proofs.front.Loads.{number_good}

-- ---- the line of a load that was refused, or the text of the records
module _ (a : Answer) (text : List ℕ) {d e : List ℕ} {r : ℕ} where
  pub line_fronted : (a.number ≡ 0 → ⊥) → Fronted (line_of a) d e r → Fronted (text_of a text) d e r
  unfolding text_of
  line_fronted h f = rw (ne_eqb a.number 0 h) f

  pub text_fronted : a.number ≡ 0 → Fronted text d e r → Fronted (text_of a text) d e r
  unfolding text_of
  text_fronted h f = rw (eq-eqb a.number 0 h) f

-- an output of no bytes, whatever was put into it, at the front of another
pub nothing_put : (e d : List ℕ) → length e ≡ 0 → e ++ d ≡ d
nothing_put [] d h = refl
nothing_put (x ∷ e) d h = absurd (omega (arith, h))

put_front : (d xs : List ℕ) → put d 0 xs ≡ xs ++ drop (length xs) d
unfolding put
put_front d xs = rw (zero-add (length xs))

-- ---- the room

module _ (need room : ℕ) where
  both : (a b : Answer) (v w : ℕ) → a ≡ b → v ≡ w → ◌≡◌ {A = RunAnswer} (record { answer = a; written = v }) (record { answer = b; written = w })
  both a b v w p q = ap₂ (λ (x : Answer) (n : ℕ). record { answer = x; written = n }) p q

  pub room_refused : (e : Refusal) → said {A = Unit {0}} (Err e) ≡ room_fault 2 need room → (a : Answer) → a ≡ refused (fault_of e) → record { answer = a; written = 0 } ≡ room_answer need room
  unfolding room_answer
  room_refused e s a q = both a _ 0 _ (then_stops (Unit {0}) e (room_fault 2 need room) s a fine q) (given-refused (Unit {0}) e (room_fault 2 need room) s need 0)

  pub room_given : {x : Unit {0}} → said (Ok x) ≡ room_fault 2 need room → (a : Answer) → a ≡ fine → record { answer = a; written = need } ≡ room_answer need room
  unfolding room_answer
  room_given {x} s a q = both a _ need _ (then_goes_on x (room_fault 2 need room) s a fine q) (given_kept x (room_fault 2 need room) s need need 0 refl)

-- a text put where it has room
all_missing : (text d : List ℕ) → length d < length text → all_into text d 0 ≡ d
unfolding all_into room_for
all_missing text d h = rw (lt-leb (0 + length text) (length d) (omega arith))

pub all_filled : (text d : List ℕ) → all_into text d 0 ≡ filled_into (text_fault text (length d)) text d
unfolding filled_into text_fault room_fault when
all_filled text d = go (ltb (length d) (length text)) (ltb-true (length d) (length text)) (ltb-false (length d) (length text))
  where
    go : (b : Bool) → (b ≡ true → length d < length text) → (b ≡ false → length text ≤ length d)
        → all_into text d 0 ≡ given (when b (refusal 15 0 2)) (text ++ drop (length text) d) d
    go true l g =
        all_missing text d (l refl)
        ∙ sym (orders.given_bad (refusal 15 0 2) (text ++ drop (length text) d) d (orders.bad_refused 14 0 2))
    go false l g = all_there text d 0 (omega (arith, g refl)) ∙ put_front d text ∙ sym (orders.given-good no_fault (text ++ drop (length text) d) d orders.good-no_fault)

-- done is what is answered of the text's length
module _ (text d : List ℕ) {need room : ℕ} (n : need ≡ length text) (m : room ≡ length d) {done : RunAnswer} (e : done ≡ room_answer need room) where
  told : done ≡ text_answer text (length d)
  unfolding room_answer text_answer text_fault
  told = e ∙ ap₂ room_answer n m

  tests : eqb done.answer.number 0 ≡ good (text_fault text (length d))
  unfolding text_answer
  tests = number_good (text_fault text (length d)) done.answer (ap (λ (r : RunAnswer). r.answer) told)

  pub give_all : {f : List ℕ} → f ≡ all_into text d 0 → Texted text d f done
  give_all q = record { answer = told; text_out = q ∙ all_filled text d }

  pub give_refused : (done.answer.number ≡ 0 → ⊥) → {f : List ℕ} → f ≡ d → Texted text d f done
  unfolding filled_into
  give_refused h k = record {
    answer = told;
    text_out = k ∙ sym (orders.given_bad (text_fault text (length d)) (text ++ drop (length text) d) d (sym tests ∙ ne_eqb done.answer.number 0 h));
  }

  pub give_made : done.answer.number ≡ 0 → {b f : List ℕ} {w : ℕ} → b ≡ d → Fronted text b f w → Texted text d f done
  unfolding filled_into text_fault
  give_made h {b} {f} k t = record {
    answer = told;
    text_out = t.bytes (omega (arith, fits, ap length k)) ∙ ap (λ (l : List ℕ). put l 0 text) k ∙ put_front d text ∙ sym (orders.given-good (text_fault text (length d)) (text ++ drop (length text) d) d passes);
  }
    where
      passes : good (text_fault text (length d)) ≡ true
      passes = sym tests ∙ eq-eqb done.answer.number 0 h

      fits : length text ≤ length d
      fits = room_passed 2 (length text) (length d) passes
