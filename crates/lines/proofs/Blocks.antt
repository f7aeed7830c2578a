-- The laws of a block of records: what a loop over it keeps, and what its contract says of the records answered.
use mathlib.Core.Path.{◌≡◌, refl, sym, ap, ap₂, ◌∙◌}
use mathlib.Core.Logic.{◌⊎◌, inl, inr, ⊎_elim}
use mathlib.Core.Bool.{Bool, true, false, cond}
use mathlib.Core.List.{List, [], ◌++◌, append_assoc, append-nil}
use Prim.Native.Nat.{ℕ, zero, suc, ◌+◌, ◌-◌, ◌*◌, ◌≤◌, ◌<◌}
use native.Mathlib.Nat.{zero-add, sub-zero, suc-add, zero-mul, suc-mul, add-mul, one-mul}
use native.Mathlib.Omega.{arith}
use lib.Dec.{ltb}
use lib.ListN.{length, take, drop, length-append, length-drop}
use lib.Seq.{drop-drop}
use borrow.Author.Tests.{lt-ltb, le-ltb, ltb-true, ltb-false}
use Rattle.lines.specs.Put.{put}
use Rattle.lines.specs.Scaffolding.{Wrote}
use Rattle.lines.specs.Stream.{Rule, lines_first, count_of, Block}
use Rattle.lines.proofs.Puts.{then, wrote_none}

-- ---- the lines of the first records

module _ (p : Rule) where
  pub lines_none : (input : List ℕ) → lines_first p 0 input ≡ []
  unfolding lines_first
  lines_none input = refl

  pub lines_one : (k : ℕ) (input : List ℕ) → lines_first p (suc k) input ≡ p.line (take p.size input) ++ lines_first p k (drop p.size input)
  unfolding lines_first
  lines_one k input = refl

  pub drop-size : (k : ℕ) (input : List ℕ) → drop (k * p.size) (drop p.size input) ≡ drop (suc k * p.size) input
  drop-size k input = drop-drop (k * p.size) p.size input ∙ ap (λ (n : ℕ). drop n input) next
    where
      next : p.size + k * p.size ≡ suc k * p.size
      next = omega (arith, suc-mul k p.size)

  -- the first j records, and k more
  pub lines_add : (j k : ℕ) (input : List ℕ) → lines_first p (j + k) input ≡ lines_first p j input ++ lines_first p k (drop (j * p.size) input)
  unfolding lines_first
  lines_add zero k input = rw (zero-add, zero-mul)
  lines_add (suc j) k input = rw (suc-add, lines_add j k (drop p.size input), drop-size j input, append_assoc)

  pub lines_more : (k : ℕ) (input : List ℕ) → lines_first p (k + 1) input ≡ lines_first p k input ++ p.line (take p.size (drop (k * p.size) input))
  unfolding lines_first
  lines_more k input = lines_add k 1 input ∙ ap (λ (l : List ℕ). lines_first p k input ++ l) (append-nil (p.line (take p.size (drop (k * p.size) input))))

-- ---- how many records are answered

module _ (p : Rule) (input : List ℕ) (room : ℕ) where
  pub count_most : (most : ℕ) → most ≡ 0 → count_of p most input room ≡ 0
  unfolding count_of
  count_most most e = rw e

  pub count_short : (most : ℕ) → length input < p.size → count_of p most input room ≡ 0
  unfolding count_of
  count_short zero h = refl
  count_short (suc m) h = rw (lt-ltb (length input) p.size h)

  pub count_full : (most : ℕ) → room < p.longest → count_of p most input room ≡ 0
  unfolding count_of
  count_full zero h = refl
  count_full (suc m) h = go (ltb (length input) p.size)
    where
      go : (t : Bool) → cond t 0 (cond (ltb room p.longest) 0 (suc (count_of p m (drop p.size input) (room - length (p.line (take p.size input)))))) ≡ 0
      go true = refl
      go false = rw (lt-ltb room p.longest h)

  pub count-one : (m : ℕ) → p.size ≤ length input → p.longest ≤ room
      → count_of p (suc m) input room ≡ suc (count_of p m (drop p.size input) (room - length (p.line (take p.size input))))
  unfolding count_of
  count-one m h l = rw (le-ltb (length input) p.size h, le-ltb room p.longest l)

-- ---- a loop over a block: `count` records are answered, up to the place `at`, and their lines are put

pub record Going (p : Rule) (most : ℕ) (input d e : List ℕ) (count at written : ℕ) : Type 0 where
  pub within : count ≤ most
  pub place : at ≡ count * p.size
  pub whole : at ≤ length input
  pub kept : length e ≡ length d
  pub lines : Wrote d 0 (lines_first p count input) e written
  pub room : written ≤ length d
  pub rest : count_of p most input (length d) ≡ count + count_of p (most - count) (drop at input) (length d - written)

pub go_start : (p : Rule) (most : ℕ) (input d : List ℕ) → Going p most input d d 0 0 0
go_start p most input d = record {
  within = omega arith;
  place = omega (arith, zero-mul p.size);
  whole = omega arith;
  kept = refl;
  lines = rw (lines_none p input) (wrote_none d 0);
  room = omega arith;
  rest = rw (zero-add, sub-zero, sub-zero);
}

module _ {p : Rule} {most : ℕ} {input d e : List ℕ} {count at written : ℕ} (g : Going p most input d e count at written) where
  pub go_turn : {f : List ℕ} {r : ℕ} → count < most → p.size ≤ length input - at → p.longest ≤ length e - written
      → Wrote e written (p.line (take p.size (drop at input))) f r → r ≤ written + p.longest → length f ≡ length e
      → Going p most input d f (count + 1) (at + p.size) r
  go_turn {f} {r} lt fits room w small kept = record {
    within = omega arith;
    place = omega (arith, g.place, add-mul count 1 p.size, one-mul p.size);
    whole = omega (arith, g.whole);
    kept = kept ∙ g.kept;
    lines = rw (lines_more p count input) (then g.lines (omega arith) (rw g.place at w));
    room = omega (arith, g.kept, g.room);
    rest = g.rest ∙ ap (λ (n : ℕ). count + n) one ∙ omega arith;
  }
    where
      left : most - count ≡ suc (most - (count + 1))
      left = omega arith

      gone : length d - written - length (p.line (take p.size (drop at input))) ≡ length d - r
      gone = omega (arith, w.next)

      fitting : p.size ≤ length (drop at input)
      fitting = rw length-drop fits

      spaced : p.longest ≤ length d - written
      spaced = omega (arith, g.kept)

      one : count_of p (most - count) (drop at input) (length d - written) ≡ suc (count_of p (most - (count + 1)) (drop (at + p.size) input) (length d - r))
      one =
          ap (λ (m : ℕ). count_of p m (drop at input) (length d - written)) left
          ∙ count-one p (drop at input) (length d - written) (most - (count + 1)) fitting spaced
          ∙ ap₂ (λ (l : List ℕ) (n : ℕ). suc (count_of p (most - (count + 1)) l n)) (drop-drop p.size at input) gone

  pub go_done : (most ≤ count) ⊎ ((length input < at + p.size) ⊎ (length e < written + p.longest)) → Block p most input d e count written
  go_done s = record { many = sym (g.rest ∙ ap (λ (n : ℕ). count + n) (none s) ∙ omega arith); long = g.lines.next ∙ zero-add (length (lines_first p count input)); bytes = g.lines.bytes }
    where
      none : (most ≤ count) ⊎ ((length input < at + p.size) ⊎ (length e < written + p.longest)) → count_of p (most - count) (drop at input) (length d - written) ≡ 0
      none (inl h) = count_most p (drop at input) (length d - written) (most - count) (omega arith)
      none (inr (inl h)) = count_short p (drop at input) (length d - written) (most - count) (rw length-drop (omega (arith, g.whole)))
      none (inr (inr h)) = count_full p (drop at input) (length d - written) (most - count) (omega (arith, g.kept, g.room))

-- ---- what the count says: whole records alone, as many as may be, until one of three ends is met

pub record Counted (p : Rule) (most : ℕ) (input : List ℕ) (room count : ℕ) : Type 0 where
  pub within : count ≤ most
  pub whole : count * p.size ≤ length input
  pub stop : (most ≤ count) ⊎ ((length input < count * p.size + p.size) ⊎ (room < length (lines_first p count input) + p.longest))

nothing : (p : Rule) (most : ℕ) (input : List ℕ) (room : ℕ) → (most ≤ 0) ⊎ ((length input < p.size) ⊎ (room < p.longest)) → Counted p most input room 0
nothing p most input room s = record {
  within = omega arith;
  whole = omega (arith, zero-mul p.size);
  stop = ⊎_elim inl (λ t. inr (⊎_elim (λ h. inl (omega (arith, zero-mul p.size))) (λ h. inr (omega (arith, ap length (lines_none p input)))) t)) s;
}

one_more : (p : Rule) (m : ℕ) (input : List ℕ) (room k : ℕ) → p.size ≤ length input
    → Counted p m (drop p.size input) (room - length (p.line (take p.size input))) k → Counted p (suc m) input room (suc k)
one_more p m input room k h c =
    let n : length (drop p.size input) ≡ length input - p.size = length-drop p.size input in
    let t : suc k * p.size ≡ k * p.size + p.size = suc-mul k p.size in
    let l : length (lines_first p (suc k) input) ≡ length (p.line (take p.size input)) + length (lines_first p k (drop p.size input)) =
    ap length (lines_one p k input) ∙ length-append (p.line (take p.size input)) (lines_first p k (drop p.size input)) in
    record {
      within = omega (arith, c.within);
      whole = omega (arith, c.whole);
      stop = ⊎_elim (λ s. inl (omega arith)) (λ s. inr (⊎_elim (λ u. inl (omega arith)) (λ u. inr (omega arith)) s)) c.stop;
    }

pub counted : (p : Rule) (most : ℕ) (input : List ℕ) (room : ℕ) → Counted p most input room (count_of p most input room)
counted p zero input room = rw (count_most p input room 0 refl) (nothing p 0 input room (inl (omega arith)))
counted p (suc m) input room =
    go (ltb (length input) p.size) (ltb-true (length input) p.size) (ltb-false (length input) p.size)
    (ltb room p.longest) (ltb-true room p.longest) (ltb-false room p.longest)
    (counted p m (drop p.size input) (room - length (p.line (take p.size input))))
  where
    go : (t : Bool) → (t ≡ true → length input < p.size) → (t ≡ false → p.size ≤ length input)
        → (u : Bool) → (u ≡ true → room < p.longest) → (u ≡ false → p.longest ≤ room)
        → Counted p m (drop p.size input) (room - length (p.line (take p.size input))) (count_of p m (drop p.size input) (room - length (p.line (take p.size input))))
        → Counted p (suc m) input room (count_of p (suc m) input room)
    go true short _ u _ _ _ = rw (count_short p input room (suc m) (short refl)) (nothing p (suc m) input room (inr (inl (short refl))))
    go false _ whole true full _ _ = rw (count_full p input room (suc m) (full refl)) (nothing p (suc m) input room (inr (inr (full refl))))
    go false _ whole false _ fits c = rw (count-one p input room m (whole refl) (fits refl)) (one_more p m input room _ (whole refl) c)

-- ---- what a block's contract says, fact by fact

pub record Answered (p : Rule) (most : ℕ) (input d e : List ℕ) (count written : ℕ) : Type 0 where
  pub within : count ≤ most
  pub whole : count * p.size ≤ length input
  pub lines : Wrote d 0 (lines_first p count input) e written
  pub room : written ≤ length d
  pub stop : (most ≤ count) ⊎ ((length input < count * p.size + p.size) ⊎ (length d < written + p.longest))

pub answered : {p : Rule} {most : ℕ} {input d e : List ℕ} {count written : ℕ} → Block p most input d e count written → length e ≡ length d → Answered p most input d e count written
unfolding put
answered {p} {most} {input} {d} {e} {count} {written} b kept =
    let c : Counted p most input (length d) count = rw b.many (counted p most input (length d)) in
    let n : length e ≡ length (lines_first p count input) + (length d - length (lines_first p count input)) = ap length b.bytes ∙ simp (length-append, length-drop) (omega arith) in
    record {
      within = c.within;
      whole = c.whole;
      lines = record { bytes = b.bytes; next = omega (arith, b.long) };
      room = omega (arith, b.long);
      stop = rw b.long c.stop;
    }
