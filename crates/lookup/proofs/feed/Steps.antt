-- A turn: a block is read, answered and printed, and what is left is moved to the front. Assumes nothing.
use mathlib.Core.Path.{◌≡◌, refl, sym, ap, ◌∙◌, subst}
use mathlib.Core.Bool.{Bool, true, false}
use mathlib.Core.Logic.{◌⊎◌, inl, inr, ⊎_elim}
use mathlib.Core.List.{List}
use Prim.Native.Nat.{ℕ, ◌+◌, ◌-◌, ◌*◌, ◌≤◌, ◌<◌}
use native.Mathlib.Nat.{zero-mul}
use native.Mathlib.Omega.{arith}
use borrow.Author.Tests.{eqb-true, eqb-false, leb-true, leb-false}
use lib.Dec.{leb, eqb}
use lib.ListN.{length, take}
use lib.Seq.{length-take-le, take_all}
use Rattle.answer.specs.Faults.{refusal}
use Rattle.answer.specs.Answer.{refused}
use Rattle.lines.specs.Line.{line_of, longest}
use Rattle.lines.specs.Stream.{Rule, lines_first, lines_of, Block}
use Rattle.lines.specs.Scaffolding.{Turned, Filled}
use Rattle.lines.proofs.Blocks.{Answered, answered, lines_none}
use Rattle.lines.proofs.Feeds.{filled_count}
use Rattle.lines.proofs.Puts.{wrote_take}
use Rattle.lines.proofs.Runs.{cut_off}
use Rattle.program.specs.Input.{goes_on, end_into, end_size}
use Rattle.program.specs.Scaffolding.{shifted}
use Rattle.program.proofs.input.Ends.{goes_on_means, stops_means, output_failed, no_record_left, end_told}
use Rattle.program.proofs.turns.Turning.{turning}
use Rattle.program.specs.declared.Counts.{Counts}
use Rattle.program.specs.declared.print.Unprinted.{Unprinted}
use Rattle.std.specs.Prelude.{Result, Ok, Err, OnOk, OnErr, is_ok}
use Rattle.lookup.specs.Scaffolding.{Room, Last, Stepped, Ended}

-- b is the buffer before the block was read and c after it; d is the output before the records were answered and e after it
pub record Done (p : Rule) (size held left have count written : ℕ) (b c d e : List ℕ) (n : Counts) : Type 0 where
  pub room : Room p size held b d n
  pub filled : Filled held b c have
  pub kept : length c ≡ length b
  pub block : Block p left (take have c) d e count written
  pub spaced : length e ≡ length d

abbrev pub done_of : {p : Rule} {size held left have count written : ℕ} {b c d e : List ℕ} {n : Counts} → Room p size held b d n → (held ≤ length b → Filled held b c have)
    → length c ≡ length b → Block p left (take have c) d e count written → length e ≡ length d → Done p size held left have count written b c d e n
done_of r f k a s = record { room = r; filled = f r.holds; kept = k; block = a; spaced = s }

module _ {p : Rule} {size held left have count written : ℕ} {b c d e : List ℕ} {n : Counts} (k : Done p size held left have count written b c d e n) where
  done : Answered p left (take have c) d e count written
  done = answered k.block k.spaced

  pub step_there : have ≤ length c
  step_there = k.filled.within

  there : length (take have c) ≡ have
  there = length-take-le have c step_there

  same : count * size ≡ count * p.size
  same = ap (λ (n : ℕ). count * n) k.room.sized

  pub step-grown : held ≤ have
  step-grown = omega (arith, filled_count k.room.holds k.filled)

  pub step_count : count ≤ left
  step_count = done.within

  pub step_used : count * size ≤ have
  step_used = omega (arith, done.whole, there, same)

  pub step_room : written ≤ length e
  step_room = omega (arith, done.room, k.spaced)

  pub step_text_lem : take written e ≡ lines_first p count (take have c)
  step_text_lem = wrote_take done.lines

  -- some record was answered, where records may still come and the buffer was filled or holds a whole one still
  some : (left - count ≡ 0 → ⊥) → (have ≡ length c) ⊎ (size ≤ have - count * size) → count ≡ 0 → ⊥
  some more way z = by done.stop way
    where
      none : count * p.size ≡ 0
      none = ap (λ (n : ℕ). n * p.size) z ∙ zero-mul p.size

      empty : written ≡ 0
      empty = k.block.long ∙ ap (λ (n : ℕ). length (lines_first p n (take have c))) z ∙ ap length (lines_none p (take have c))

      by : (left ≤ count) ⊎ ((length (take have c) < count * p.size + p.size) ⊎ (length d < written + p.longest))
          → (have ≡ length c) ⊎ (size ≤ have - count * size) → ⊥
      by (inl s) w = more (omega (arith, s))
      by (inr (inl s)) (inl f) = omega (arith, s, f, there, none, k.room.whole, k.kept)
      by (inr (inl s)) (inr w) = omega (arith, s, w, there, none, same, k.room.sized)
      by (inr (inr s)) w = omega (arith, s, k.room.spaced, empty)

  -- f is the buffer after what is left was moved to its front
  module _ (f : List ℕ) (m : f ≡ shifted c (count * size) (have - count * size)) (wide : length f ≡ length c) where
    abbrev full : Bool
    full = eqb have (length f)

    abbrev whole : Bool
    whole = leb size (have - count * size)

    turn : Turned p left (take have c) (take written e) (left - count) (take (have - count * size) f)
    turn = subst (λ (n : ℕ). Turned p left (take have c) (take written e) (left - count) (take (have - n) f)) (sym same) (turning have c step_there k.block k.spaced moved)
      where
        moved : f ≡ shifted c (count * p.size) (have - count * p.size)
        moved = m ∙ ap (λ (n : ℕ). shifted c n (have - n)) same

    spent : (left - (left - count)) * p.size ≡ count * size
    spent = ap (λ (n : ℕ). n * p.size) (omega (arith, step_count)) ∙ sym same

    goes : (ok : Bool) → goes_on ok full (left - count) whole ≡ true → left - count < left
    goes ok h =
        let q = goes_on_means full (left - count) whole ok h in
        let n : count ≡ 0 → ⊥ = some q.0 (⊎_elim (λ x. inl (eqb-true have (length f) x ∙ wide)) (λ x. inr (leb-true size (have - count * size) x)) q.1) in
        omega (arith, n, step_count)

    stops : goes_on true full (left - count) whole ≡ false → (left - count ≡ 0) ⊎ ((held + length k.filled.block < length b) × (have - count * size < p.size))
    stops h = ⊎_elim inl (λ q. inr (short (eqb-false have (length f) q.0), omega (arith, leb-false size (have - count * size) q.1, k.room.sized))) (stops_means full (left - count) whole h)
      where
        short : (have ≡ length f → ⊥) → held + length k.filled.block < length b
        short n = omega (arith, n, wide, k.kept, step_there, filled_count k.room.holds k.filled)

    -- by whether the output stands
    fails_by : (printed : Result ℕ Unprinted) (go : Bool) → go ≡ goes_on (is_ok printed) full (left - count) whole → OnErr printed (go ≡ false)
    fails_by (Ok x) go g = tt
    fails_by (Err e) go g = g ∙ sym (output_failed false full (left - count) whole refl)

    stops_by : (printed : Result ℕ Unprinted) (go : Bool) → go ≡ goes_on (is_ok printed) full (left - count) whole → go ≡ false
        → OnOk printed ((left - count ≡ 0) ⊎ ((held + length k.filled.block < length b) × (have - count * size < p.size)))
    stops_by (Ok x) go g h = stops (sym g ∙ h)
    stops_by (Err e) go g h = tt

    pub stepped : (printed : Result ℕ Unprinted) (told : ℕ) (ok go : Bool) (after : Counts) → told ≡ length (lines_first p count (take have c))
        → ok ≡ is_ok printed → go ≡ goes_on ok full (left - count) whole → after.asked ≡ n.asked + (length b - held) → after.read ≡ n.read + (have - held)
        → after.printed ≡ n.printed + told → Stepped p held left b f (length d) n after (record { held = have - count * size; left = left - count; go = go; printed = printed })
    stepped printed told ok go after w o g a r q = record {
      block = k.filled.block;
      text = take written e;
      filled = omega (arith, filled_count k.room.holds k.filled, k.filled.within, k.kept);
      asked = omega (arith, a, k.room.holds);
      read = omega (arith, r, filled_count k.room.holds k.filled);
      told = omega (arith, q, ap length step_text_lem ∙ sym w);
      short = omega (arith, length-take-le written e step_room, step_room, k.spaced);
      turned = rw (← k.filled.bytes) turn;
      spent = omega (arith, spent, step_used, filled_count k.room.holds k.filled);
      holds = omega (arith, step_there, wide);
      within = omega arith;
      goes = λ h. goes ok (sym g ∙ h);
      fails = fails_by printed go by_printed;
      stops = stops_by printed go by_printed;
    }
      where
        by_printed : go ≡ goes_on (is_ok printed) full (left - count) whole
        by_printed = g ∙ ap (λ (b : Bool). goes_on b full (left - count) whole) o

-- what is put at the input's end is what is printed of the rest
pub end_put : (p : Rule) → p.cut ≡ line_of (refused (refusal 3 0 2)) → (left : ℕ) (rest out : List ℕ) → longest ≤ length out → Last p left rest
    → (r : ℕ) (after : List ℕ) → r ≡ end_size (length rest) left out → after ≡ end_into (length rest) left out
    → (take r after ≡ lines_of p left rest) × (r ≤ length after)
end_put p cut left rest out room (inl z) r after e f =
    let none : r ≡ 0 = e ∙ sym (no_record_left (length rest) left out z).0 in
    (ap (λ (n : ℕ). take n after) none ∙ cut_off p left rest z, omega (arith, none))
end_put p cut left rest out room (inr s) r after e f =
    let t = end_told p cut (length rest) left rest out (omega arith) room s r after e f in
    (t.0 ∙ ap (lines_of p left) (take_all (length rest) rest (omega arith)), t.1)

-- the rest was printed or not, and what is put of it is as long as the output has room for
pub ended : {more told n : ℕ} (after out : List ℕ) {before counts : Counts} → counts.asked ≡ before.asked → counts.read ≡ before.read → counts.printed ≡ before.printed + told → told ≡ more
    → length (take n after) ≡ more → n ≤ length after → length after ≡ length out → Ended more (length out) before counts
ended {n = n} after out a r q w put fits kept = record {
  asked = a;
  read = r;
  printed = omega (arith, q, w);
  short = omega (arith, put, length-take-le n after fits, fits, kept);
}
