-- Laws of bytes moved to the front one by one, a step that the code no longer takes. They hold as they did; no proof stands on them.
use mathlib.Core.Path.{◌≡◌, refl, sym, ap, ap₂, ◌∙◌}
use mathlib.Core.Bool.{Bool, cond}
use mathlib.Core.List.{List, ◌++◌}
use Prim.Native.Nat.{ℕ, ◌+◌, ◌≤◌, ◌<◌}
use native.Mathlib.Nat.{add_comm}
use native.Mathlib.Numerals.{add-one}
use native.Mathlib.Omega.{arith}
use lib.ListN.{length, take, drop, get_or, set, length-drop, length-set, take-append-drop}
use lib.Seq.{drop-drop, take-suc, take-suc-set, drop-set-lt, get_or-drop}
use borrow.Author.Tests.{le-leb}
use Rattle.lines.specs.Put.{room_for}
use Rattle.program.specs.Scaffolding.{shifted}

-- on the way: the first i bytes are moved, the rest is as it was
pub record Shifting (a : List ℕ) (from n i : ℕ) (b : List ℕ) : Type 0 where
  pub within : i ≤ n
  pub room : from + n ≤ length a
  pub kept : length b ≡ length a
  pub front : take i b ≡ take i (drop from a)
  pub back : drop i b ≡ drop i a

pub shift_start : (a : List ℕ) (from n : ℕ) → from + n ≤ length a → Shifting a from n 0 a
shift_start a from n h = record { within = omega arith; room = h; kept = refl; front = refl; back = refl }

pub shift_step : {a : List ℕ} {from n i : ℕ} {b : List ℕ} → Shifting a from n i b → i < n → Shifting a from n (i + 1) (set b i (get_or b (from + i) 0))
shift_step {a} {from} {n} {i} {b} s l =
    let x = get_or b (from + i) 0 in
    let q : get_or b (from + i) 0 ≡ get_or (drop from a) i 0 =
    ap (λ (k : ℕ). get_or b k 0) (add_comm from i)
    ∙ sym (get_or-drop i b from 0)
    ∙ ap (λ (z : List ℕ). get_or z from 0) s.back
    ∙ get_or-drop i a from 0
    ∙ ap (λ (k : ℕ). get_or a k 0) (add_comm i from)
    ∙ sym (get_or-drop from a i 0) in
    let ib : i < length b = omega (arith, s.kept, s.room) in
    let id : i < length (drop from a) = rw length-drop (omega (arith, s.room)) in
    let il : i < i + 1 = omega arith in
    record {
      within = omega arith;
      room = s.room;
      kept = length-set b i x ∙ s.kept;
      front = rw (add-one i, take-suc-set b i x ib, take-suc (drop from a) i 0 id, s.front, q);
      back = drop-set-lt (i + 1) b i x il ∙ sym (drop-drop 1 i b) ∙ ap (drop 1) s.back ∙ drop-drop 1 i a;
    }

module _ (a : List ℕ) (from n : ℕ) where
  there : from + n ≤ length a → shifted a from n ≡ take n (drop from a) ++ drop n a
  unfolding shifted room_for
  there h = ap (λ (t : Bool). cond t (take n (drop from a) ++ drop n a) a) (le-leb (from + n) (length a) h)

  pub shift_end : (i : ℕ) (b : List ℕ) → Shifting a from n i b → n ≤ i → b ≡ shifted a from n
  shift_end i b s l =
      let e : i ≡ n = omega (arith, s.within) in
      sym (take-append-drop n b)
      ∙ ap₂ (λ (x y : List ℕ). x ++ y) (ap (λ (k : ℕ). take k b) (sym e) ∙ s.front ∙ ap (λ (k : ℕ). take k (drop from a)) e) (ap (λ (k : ℕ). drop k b) (sym e) ∙ s.back ∙ ap (λ (k : ℕ). drop k a) e)
      ∙ sym (there s.room)
