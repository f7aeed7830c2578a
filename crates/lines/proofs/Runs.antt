-- Cutting the input into blocks has no effect on what is printed.
use mathlib.Core.Path.{◌≡◌, refl, sym, ap, ◌∙◌}
use mathlib.Core.Logic.{◌⊎◌, inl, inr}
use mathlib.Core.List.{List, [], ◌∷◌, ◌++◌, append_assoc, append-nil}
use Prim.Native.Nat.{ℕ, zero, suc, ◌+◌, ◌-◌, ◌*◌, ◌≤◌, ◌<◌}
use native.Mathlib.Nat.{zero-add, suc-add, zero-mul, suc-mul}
use native.Mathlib.Omega.{arith}
use lib.ListN.{length, drop, length-append, length-drop}
use lib.Seq.{take-append-le, drop-append-le}
use borrow.Author.Tests.{lt-ltb, le-ltb}
use Rattle.lines.specs.Stream.{Rule, lines_first, lines_of, cut_line}
use Rattle.lines.specs.Scaffolding.{Turned}
use Rattle.lines.proofs.Blocks.{drop-size}

module _ (p : Rule) where
  rest_fits : (k : ℕ) (input : List ℕ) → suc k * p.size ≤ length input → k * p.size ≤ length (drop p.size input)
  rest_fits k input h = rw length-drop (omega (arith, suc-mul k p.size))

  -- bytes after the first k records do not count
  pub lines_front : (k : ℕ) (held more : List ℕ) → k * p.size ≤ length held → lines_first p k (held ++ more) ≡ lines_first p k held
  unfolding lines_first
  lines_front zero held more h = refl
  lines_front (suc k) held more h =
      let a : p.size ≤ length held = omega (arith, suc-mul k p.size) in
      rw (take-append-le p.size held more a, drop-append-le p.size held more a, lines_front k (drop p.size held) more (rest_fits k held h))

  -- the first k records, and the rest
  pub lines_of-add : (k m : ℕ) (input : List ℕ) → k * p.size ≤ length input → lines_of p (k + m) input ≡ lines_first p k input ++ lines_of p m (drop (k * p.size) input)
  unfolding lines_first lines_of
  lines_of-add zero m input h = rw (zero-add, zero-mul)
  lines_of-add (suc k) m input h =
      let a : p.size ≤ length input = omega (arith, suc-mul k p.size) in
      rw (suc-add, le-ltb (length input) p.size a, lines_of-add k m (drop p.size input) (rest_fits k input h), drop-size p k input, append_assoc)

  -- a turn that answers k records of what is held
  pub turned : (most k : ℕ) (held : List ℕ) → k ≤ most → k * p.size ≤ length held → Turned p most held (lines_first p k held) (most - k) (drop (k * p.size) held)
  turned most k held l h = record {
    right = λ more.
        let e : k + (most - k) ≡ most = omega arith in
        let b : k * p.size ≤ length (held ++ more) = rw length-append (omega arith) in
        ap (λ (m : ℕ). lines_of p m (held ++ more)) (sym e)
        ∙ lines_of-add k (most - k) (held ++ more) b
        ∙ rw (lines_front k held more h, drop-append-le (k * p.size) held more h);
  }

-- The bytes `held`, then blocks as they come, each put after what is held: what is printed at each turn and, at the input's end, of what is left.
pub data Run (p : Rule) : ℕ → List ℕ → List (List ℕ) → List ℕ → Type 0 where
  ended : {most : ℕ} {held : List ℕ} → Run p most held [] (lines_of p most held)
  block : {most : ℕ} {held b xs : List ℕ} {left : ℕ} {rest : List ℕ} {bs : List (List ℕ)} {ys : List ℕ}
      → Turned p most (held ++ b) xs left rest → Run p left rest bs ys → Run p most held (b ∷ bs) (xs ++ ys)

-- the blocks one after another
abbrev pub joined : List (List ℕ) → List ℕ
joined [] = []
joined (b ∷ bs) = b ++ joined bs

-- whatever is held and whatever blocks come, what is printed is what is printed of them all
pub run_law : {p : Rule} {most : ℕ} {held : List ℕ} {bs : List (List ℕ)} {out : List ℕ} → Run p most held bs out → out ≡ lines_of p most (held ++ joined bs)
run_law {p} {most} {held} ended = ap (lines_of p most) (sym (append-nil held))
run_law {p} {most} {held} (block {b = b} {xs = xs} {bs = bs} t r) =
    ap (λ (l : List ℕ). xs ++ l) (run_law r) ∙ sym (t.right (joined bs)) ∙ ap (lines_of p most) (append_assoc held b (joined bs))

-- THE LAW: whatever the blocks are, what is printed is what is printed of the whole input
pub blocks_law : {p : Rule} {most : ℕ} {blocks : List (List ℕ)} {out : List ℕ} → Run p most [] blocks out → out ≡ lines_of p most (joined blocks)
blocks_law r = run_law r

-- ---- the input's end

module _ (p : Rule) where
  pub cut_off : (left : ℕ) (rest : List ℕ) → left ≡ 0 → [] ≡ lines_of p left rest
  unfolding lines_of
  cut_off left rest e = rw e

  pub cut_none : (left : ℕ) (rest : List ℕ) → (left ≡ 0) ⊎ (length rest < p.size) → length rest ≡ 0 → [] ≡ lines_of p left rest
  unfolding lines_of cut_line
  cut_none zero rest s e = refl
  cut_none (suc m) [] (inl z) e = absurd (omega arith)
  cut_none (suc m) [] (inr l) e = rw (lt-ltb 0 p.size l)
  cut_none (suc m) (b ∷ bs) s e = absurd (omega arith)

  pub cut_some : (left : ℕ) (rest : List ℕ) → (left ≡ 0) ⊎ (length rest < p.size) → (left ≡ 0 → ⊥) → (length rest ≡ 0 → ⊥) → p.cut ≡ lines_of p left rest
  unfolding lines_of cut_line
  cut_some zero rest s u v = absurd (u refl)
  cut_some (suc m) [] s u v = absurd (v refl)
  cut_some (suc m) (b ∷ bs) (inl z) u v = absurd (u z)
  cut_some (suc m) (b ∷ bs) (inr l) u v = rw (lt-ltb (length (b ∷ bs)) p.size l)
