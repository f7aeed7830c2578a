-- Texts put into an output where they have room, one after another. Assumes nothing.
use mathlib.Core.Path.{◌≡◌, refl, sym, ap, ◌∙◌}
use mathlib.Core.Bool.{Bool, true, false, ◌||◌, cond}
use mathlib.Core.Logic.{◌⊎◌}
use mathlib.Core.List.{List, [], ◌++◌}
use Prim.Native.Nat.{ℕ, ◌+◌, ◌≤◌, ◌<◌}
use native.Mathlib.Omega.{arith}
use borrow.Author.Tests.{eqb-true, eqb-false}
use lib.Dec.{eqb}
use lib.ListN.{length, take, length-append}
use Rattle.answer.specs.Faults.{refusal}
use Rattle.answer.specs.Answer.{refused}
use Rattle.lines.specs.Line.{line_of, longest}
use Rattle.lines.specs.Put.{put, all_into, line_into, line_end}
use Rattle.lines.specs.Scaffolding.{Wrote}
use Rattle.lines.specs.Stream.{Rule, lines_of}
use Rattle.lines.proofs.Puts.{put_none, put-put, all_there, wrote_none, wrote_take}
use Rattle.lines.proofs.Runs.{cut_off, cut_none, cut_some}
use Rattle.lines.proofs.Shows.{line_wrote, line_fits}
use Rattle.program.specs.Input.{nothing_more, end_into, end_size}
use Rattle.program.specs.Scaffolding.{Placed, Fronted, end_of}

-- what was written to the front of a chunk, put at a place
pub placed : {c xs b d e : List ℕ} {n at : ℕ} → Wrote c 0 xs b n → e ≡ all_into (take n b) d at → Placed xs d at e n
placed {d = d} {at = at} w q = record { long = omega (arith, w.next); bytes = q ∙ ap (λ (l : List ℕ). all_into l d at) (wrote_take w) }

pub fronted : {xs d e : List ℕ} {r : ℕ} → Placed xs d 0 e r → Fronted xs d e r
fronted {xs} {d} p = record { long = p.long; bytes = λ h. p.bytes ∙ all_there xs d 0 (omega (arith, h)) }

pub wrote_fronted : {xs d e : List ℕ} {r : ℕ} → Wrote d 0 xs e r → Fronted xs d e r
wrote_fronted w = record { long = omega (arith, w.next); bytes = λ h. w.bytes }

pub fronted_take : {xs d e : List ℕ} {r : ℕ} → Fronted xs d e r → r ≤ length d → take r e ≡ xs
fronted_take {xs} {d} {e} {r} f h =
    let w : Wrote d 0 xs e r = record { bytes = f.bytes (omega (arith, f.long)); next = omega (arith, f.long) } in
    wrote_take w

-- ---- on the way to a whole text in the output d: `rest` of it is still to be put, at a place of e
pub record Putting (all d e : List ℕ) (at : ℕ) (rest : List ℕ) : Type 0 where
  pub long : at + length rest ≡ length all
  pub same : length all ≤ length d → put e at rest ≡ put d 0 all
  pub kept : length e ≡ length d

pub putting_start : (all d : List ℕ) → Putting all d d 0 all
putting_start all d = record { long = omega arith; same = λ h. refl; kept = refl }

pub putting_step : {all d e f xs : List ℕ} {at n : ℕ} (ys : List ℕ) {rest : List ℕ} → Putting all d e at rest → rest ≡ xs ++ ys → Placed xs e at f n → length f ≡ length e → Putting all d f (at + n) ys
putting_step {all} {d} {e} {f} {xs} {at} {n} ys {rest} p q w kept =
    let l : length rest ≡ length xs + length ys = ap length q ∙ length-append xs ys in
    record {
      long = omega (arith, p.long, w.long, l);
      same = λ h.
          let room : at + length xs ≤ length e = omega (arith, p.long, p.kept, l, h) in
          rw (w.long, w.bytes ∙ all_there xs e at room) (put-put e at xs ys (omega (arith, room)))
          ∙ ap (put e at) (sym q)
          ∙ p.same h;
      kept = kept ∙ p.kept;
    }

pub putting_end : {all d e : List ℕ} {at : ℕ} → Putting all d e at [] → Fronted all d e at
putting_end {all} {d} {e} {at} p = record { long = omega (arith, p.long); bytes = λ h. sym (put_none e at) ∙ p.same h }

-- ---- what is said at the end of the records

cut_fits : length (line_of (refused (refusal 3 0 2))) ≤ longest
unfolding refused refusal
cut_fits = line_fits (refused (refusal 3 0 2)) (omega arith) (omega arith) (omega arith)

pub end_fits : (rest left : ℕ) → length (end_of rest left) ≤ longest
unfolding end_of
end_fits rest left = go (nothing_more rest left)
  where
    go : (t : Bool) → length (cond t [] (line_of (refused (refusal 3 0 2)))) ≤ longest
    go true = omega arith
    go false = cut_fits

pub end_wrote : (rest left : ℕ) {d e : List ℕ} {r : ℕ} → longest ≤ length d → r ≡ end_size rest left d → e ≡ end_into rest left d → Wrote d 0 (end_of rest left) e r
unfolding end_of end_size end_into
end_wrote rest left {d} {e} {r} room = go (nothing_more rest left)
  where
    go : (t : Bool) → r ≡ cond t 0 (line_end (refused (refusal 3 0 2)) d 0) → e ≡ cond t d (line_into (refused (refusal 3 0 2)) d 0) → Wrote d 0 (cond t [] (line_of (refused (refusal 3 0 2)))) e r
    go true p q = rw (p, q) (wrote_none d 0)
    go false p q = line_wrote (refused (refusal 3 0 2)) d 0 (omega (arith, room)) p q

-- it is what is printed of the rest, where no record may come or the rest is no whole one
pub end_said : (p : Rule) → p.cut ≡ line_of (refused (refusal 3 0 2)) → (left : ℕ) (rest : List ℕ) → (left ≡ 0) ⊎ (length rest < p.size) → lines_of p left rest ≡ end_of (length rest) left
unfolding end_of nothing_more
end_said p cut left rest s = go (eqb left 0) (eqb-true left 0) (eqb-false left 0) (eqb (length rest) 0) (eqb-true (length rest) 0) (eqb-false (length rest) 0)
  where
    go : (a : Bool) → (a ≡ true → left ≡ 0) → (a ≡ false → left ≡ 0 → ⊥) → (b : Bool) → (b ≡ true → length rest ≡ 0) → (b ≡ false → length rest ≡ 0 → ⊥) → lines_of p left rest ≡ cond (a || b) [] (line_of (refused (refusal 3 0 2)))
    go true y n b y' n' = sym (cut_off p left rest (y refl))
    go false y n true y' n' = sym (cut_none p left rest s (y' refl))
    go false y n false y' n' = sym (cut_some p left rest s (n refl) (n' refl)) ∙ cut
