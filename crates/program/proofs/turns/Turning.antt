-- A turn of the buffer, by a block and a shift, and what it means for the bytes still to come. Assumes nothing.
use mathlib.Core.Path.{◌≡◌, refl, sym, ap, ◌∙◌}
use mathlib.Core.Bool.{Bool, true, false, cond}
use mathlib.Core.List.{List, [], ◌∷◌}
use Prim.Native.Nat.{ℕ, zero, suc, ◌+◌, ◌-◌, ◌*◌, ◌≤◌, ◌<◌}
use native.Mathlib.Omega.{arith}
use lib.ListN.{length, take, drop}
use lib.Seq.{length-take-le, take-nil}
use Rattle.lines.specs.Stream.{Rule, Block}
use Rattle.lines.specs.Scaffolding.{Turned}
use Rattle.lines.proofs.Puts.{wrote_take}
use Rattle.lines.proofs.Blocks.{Answered, answered}
use Rattle.lines.proofs.Runs.{turned}
use Rattle.program.proofs.turns.Shifts.{shifted_front}
use Rattle.program.specs.Scaffolding.{shifted}

drop-take : (k n : ℕ) (l : List ℕ) → drop k (take n l) ≡ take (n - k) (drop k l)
drop-take zero n l = let e : n - 0 ≡ n = omega arith in rw e
drop-take (suc k) zero l = let e : 0 - suc k ≡ 0 = omega arith in rw e
drop-take (suc k) (suc n) [] = sym (take-nil (suc n - suc k))
drop-take (suc k) (suc n) (x ∷ l) = let e : suc n - suc k ≡ n - k = omega arith in rw e (drop-take k n l)

-- b is the buffer with so many bytes, and c after what is left of them was moved to its front
pub left_moved : (have used : ℕ) (b c : List ℕ) → have ≤ length b → used ≤ have → c ≡ shifted b used (have - used) → take (have - used) c ≡ drop used (take have b)
left_moved have used b c h u m =
    let fits : used + (have - used) ≤ length b = omega arith in
    ap (take (have - used)) m ∙ shifted_front b used (have - used) fits ∙ sym (drop-take used have b)

-- ---- how many turns are left at most: one for each record that may still come, and one more while it goes on
abbrev pub turns_left : ℕ → Bool → ℕ
turns_left left go = left + cond go 1 0

-- each turn leaves one less
pub fewer : (left next : ℕ) (go on : Bool) → go ≡ true → next ≤ left → (on ≡ true → next < left) → turns_left next on < turns_left left go
fewer left next go on e l h = by on h
  where
    one : turns_left left go ≡ left + 1
    one = ap (turns_left left) e

    by : (b : Bool) → (b ≡ true → next < left) → turns_left next b < turns_left left go
    by true k = let f : next < left = k refl in omega (arith, one)
    by false k = omega (arith, one)

-- ---- records answered by a rule: b is the buffer before a turn and c after it, d the output before it and e after it
pub turning : {p : Rule} {most : ℕ} (have : ℕ) (b : List ℕ) {d c e : List ℕ} {count written : ℕ} → have ≤ length b → Block p most (take have b) d e count written → length e ≡ length d
    → c ≡ shifted b (count * p.size) (have - count * p.size) → Turned p most (take have b) (take written e) (most - count) (take (have - count * p.size) c)
turning {p} {most} have b {d} {c} {e} {count} {written} h k spaced m =
    let used = count * p.size in
    let a : Answered p most (take have b) d e count written = answered k spaced in
    let n : length (take have b) ≡ have = length-take-le have b h in
    let rest : take (have - count * p.size) c ≡ drop (count * p.size) (take have b) = left_moved have used b c h (omega (arith, a.whole)) m in
    rw (wrote_take a.lines, rest) (turned p most count (take have b) a.within a.whole)
