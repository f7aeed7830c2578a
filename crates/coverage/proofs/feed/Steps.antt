-- A turn: a block is read and counted, and what is left is moved to the front. Assumes nothing.
use mathlib.Core.Path.{◌≡◌, sym, ap, ap₂, ◌∙◌}
use mathlib.Core.Bool.{Bool, true, false, ◌&&◌}
use mathlib.Core.Logic.{◌⊎◌, inl, inr}
use mathlib.Core.List.{List, ◌++◌}
use Prim.Native.Nat.{ℕ, ◌+◌, ◌-◌, ◌*◌, ◌≤◌, ◌<◌}
use native.Mathlib.Nat.{zero-mul}
use native.Mathlib.Omega.{arith}
use borrow.Author.Tests.{eq-eqb, eqb-true, ltb-true, ltb-false}
use lib.Dec.{eqb, ltb}
use lib.Ieee.{Float}
use lib.ListN.{length, take, drop}
use lib.Seq.{length-take-le}
use Rattle.answer.proofs.Tests.{and_left, and_right, by_eq}
use Rattle.layout.specs.declared.Shape.{Shape}
use Rattle.lines.specs.Scaffolding.{Filled}
use Rattle.lines.proofs.Feeds.{filled_count}
use Rattle.tally.specs.declared.Tally.{Tally}
use Rattle.ninterp.specs.Records.{record_size}
use Rattle.ninterp.specs.Counting.{block_count, block_tally}
use Rattle.ninterp.specs.declared.records.count.BlockTally.{BlockTally}
use Rattle.ninterp.proofs.CoverageBlocks.{block_used, block_records}
use Rattle.ninterp.proofs.CountEnds.{used_is}
use Rattle.program.specs.Scaffolding.{shifted}
use Rattle.program.proofs.turns.Turning.{left_moved}
use Rattle.program.specs.declared.Counts.{Counts}
use Rattle.coverage.specs.Scaffolding.{Room, Stepped}

-- b is the buffer before the block was read and c after it
pub record Done (s : Shape) (nodes values : List Float) (size held have : ℕ) (t : Tally) (done : BlockTally) (b c : List ℕ) (n : Counts) : Type 0 where
  pub room : Room s size held b n
  pub filled : Filled held b c have
  pub kept : length c ≡ length b
  pub counted : done ≡ block_tally t s nodes values (take have c)

abbrev pub done_of : {s : Shape} {nodes values : List Float} {size held have : ℕ} {t : Tally} {done : BlockTally} {b c : List ℕ} {n : Counts} → Room s size held b n
    → (held ≤ length b → Filled held b c have) → length c ≡ length b → done ≡ block_tally t s nodes values (take have c) → Done s nodes values size held have t done b c n
done_of r f k e = record { room = r; filled = f r.holds; kept = k; counted = e }

module _ {s : Shape} {nodes values : List Float} {size held have : ℕ} {t : Tally} {done : BlockTally} {b c : List ℕ} {n : Counts}
    (k : Done s nodes values size held have t done b c n) where
  pub step_used : done.used ≤ have
  step_used =
      omega (
        arith,
        ap (λ (d : BlockTally). d.used) k.counted,
        block_used t s nodes values (take have c),
        length-take-le have c k.filled.within,
      )

  grown : held ≤ have
  grown = omega (arith, filled_count k.room.holds k.filled)

  -- where some bytes are used, some records were counted
  more : 1 ≤ done.used → t.records < done.tally.records
  more h = omega (arith, ap (λ (d : BlockTally). d.tally.records) k.counted, block_records t s nodes values (take have c), some)
    where
      some : block_count t s (take have c) ≡ 0 → ⊥
      some z =
          let none : block_count t s (take have c) * record_size s ≡ 0 = ap (λ (n : ℕ). n * record_size s) z ∙ zero-mul (record_size s) in
          omega (arith, h, none, ap (λ (d : BlockTally). d.used) k.counted, used_is s nodes values t (take have c))

  -- f is the buffer after what is left was moved to its front
  module _ (f : List ℕ) (m : f ≡ shifted c done.used (have - done.used)) (wide : length f ≡ length c) where
    whole : done ≡ block_tally t s nodes values (take held b ++ k.filled.block)
    whole = k.counted ∙ ap (block_tally t s nodes values) k.filled.bytes

    goes : eqb have (length f) && ltb (have - done.used) size ≡ true → t.records < done.tally.records
    goes h =
        let full : have ≡ length f = eqb-true have (length f) (and_left (eqb have (length f)) (ltb (have - done.used) size) h) in
        let short : have - done.used < size = ltb-true (have - done.used) size (and_right (eqb have (length f)) (ltb (have - done.used) size) h) in
        more (omega (arith, k.room.whole, k.room.sized, k.kept, wide))

    stops : eqb have (length f) && ltb (have - done.used) size ≡ false → (held + length k.filled.block < length b) ⊎ (record_size s ≤ have - done.used)
    stops h = by_eq have (length f) full (λ n. inl (omega (arith, n, k.filled.within, k.kept, wide, filled_count k.room.holds k.filled)))
      where
        full : have ≡ length f → (held + length k.filled.block < length b) ⊎ (record_size s ≤ have - done.used)
        full e =
            let left : ltb (have - done.used) size ≡ false = sym (ap (λ (x : Bool). x && ltb (have - done.used) size) (eq-eqb have (length f) e)) ∙ h in
            inr (omega (arith, ltb-false (have - done.used) size left, k.room.sized))

    pub stepped : (go : Bool) (after : Counts) → go ≡ eqb have (length f) && ltb (have - done.used) size → after.asked ≡ n.asked + (length b - held)
        → after.read ≡ n.read + (have - held) → Stepped s nodes values held t b f n after (record { tally = done.tally; held = have - done.used; go = go })
    stepped go after g a r = record {
      block = k.filled.block;
      filled = omega (arith, filled_count k.room.holds k.filled, k.filled.within, k.kept);
      asked = omega (arith, a, k.room.holds);
      read = omega (arith, r, filled_count k.room.holds k.filled);
      counted = ap (λ (d : BlockTally). d.tally) whole;
      left =
          left_moved have done.used c f k.filled.within step_used m
          ∙ ap₂ (λ (d : BlockTally) (xs : List ℕ). drop d.used xs) whole k.filled.bytes;
      holds = omega (arith, k.filled.within, wide);
      goes = λ h. goes (sym g ∙ h);
      stops = λ h. stops (sym g ∙ h);
    }
