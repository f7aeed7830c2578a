-- One record counted, count by count: a count of the record's kind is one more, and every other count is as it was. Assumes nothing.
use mathlib.Core.Path.{◌≡◌, refl, sym, ap, ap₂, ◌∙◌}
use mathlib.Core.Bool.{Bool, true, false, not, cond, ◌&&◌}
use mathlib.Core.List.{List, [], ◌∷◌}
use Prim.Native.Nat.{ℕ, zero, suc, ◌+◌, ◌*◌, ◌≤◌, ◌<◌}
use native.Mathlib.Omega.{arith}
use borrow.Author.Tests.{lt-ltb, ltb-true, ltb-false, eq-eqb, eqb-true, eqb-false, ne_eqb}
use lib.Dec.{eqb, ltb}
use lib.ListN.{length, get_or, take, length-set}
use lib.Seq.{get_or-set_same, get_or-set_other}
use Rattle.answer.specs.Faults.{Fault, refusal, no_fault, good, given}
use Rattle.answer.specs.Answer.{refused, answered, fine, ◌then◌}
use Rattle.answer.proofs.Tests.{either, and_false, by_lt}
use Rattle.checks.specs.Numbers.{most_records}
use Rattle.checks.proofs.lent.Rows.{limit_ahead, limit_reached}
use Rattle.tally.specs.declared.Tally.{Tally}
use Rattle.tally.specs.declared.Outcome.{Outcome}
use Rattle.tally.specs.declared.TallyAnswer.{TallyAnswer}
use Rattle.tally.specs.Tally.{more, more_at, cell_more, cells_more, number_more, tallied, counted_of}
use Rattle.tally.specs.Counts.{Sized, cell_count, number_count}

-- a count after a record: one more where the record is of its kind
abbrev pub more_if : Bool → ℕ → ℕ
more_if b n = cond b (more n) n

-- "accepted", in cell i of axis a; 63 is no cell
unfoldable pub in_cell : ℕ → ℕ → Outcome → Bool
in_cell a i o = eqb o.number 0 && eqb (get_or (take o.axes o.cells) a 63) i

-- "refused", by the number k
unfoldable pub refused_as : ℕ → Outcome → Bool
refused_as k o = not (eqb o.number 0) && eqb o.number k

-- ---- lengths stay
at_length : (counts : List ℕ) (k : ℕ) → length (more_at counts k) ≡ length counts
unfolding more_at
at_length counts k = length-set counts k _

cell_length : (counts : List ℕ) (a i : ℕ) → length (cell_more counts a i) ≡ length counts
unfolding cell_more
cell_length counts a i = either (λ (xs : List ℕ). length xs ≡ length counts) (ltb i 63) _ _ (at_length counts (a * 63 + i)) refl

cells_length : (is counts : List ℕ) (a : ℕ) → length (cells_more counts a is) ≡ length counts
unfolding cells_more
cells_length [] counts a = refl
cells_length (i ∷ is) counts a = cells_length is (cell_more counts a i) (a + 1) ∙ cell_length counts a i

number_length : (counts : List ℕ) (k : ℕ) → length (number_more counts k) ≡ length counts
unfolding number_more
number_length counts k = either (λ (xs : List ℕ). length xs ≡ length counts) (ltb k 21) _ _ (at_length counts k) refl

-- ---- the j-th count, where the k-th is one more or none is
at_count : (b : Bool) (counts : List ℕ) (k j : ℕ) → j < length counts
    → get_or (cond b (more_at counts k) counts) j 0 ≡ more_if (b && eqb k j) (get_or counts j 0)
unfolding more_at
at_count false counts k j l = refl
at_count true counts k j l = go (eqb k j) (eqb-true k j) (eqb-false k j)
  where
    go : (t : Bool) → (t ≡ true → k ≡ j) → (t ≡ false → k ≡ j → ⊥) → get_or (more_at counts k) j 0 ≡ more_if t (get_or counts j 0)
    go true p n = ap (λ (x : ℕ). get_or (more_at counts x) j 0) (p refl) ∙ get_or-set_same counts j _ 0 l
    go false p n = get_or-set_other counts k j _ 0 (λ e. n refl (sym e))

number_count_lem : (counts : List ℕ) (n k : ℕ) → k < length counts → k < 21
    → get_or (number_more counts n) k 0 ≡ more_if (eqb n k) (get_or counts k 0)
unfolding number_more
number_count_lem counts n k l h = at_count (ltb n 21) counts n k l ∙ ap (λ (b : Bool). more_if b (get_or counts k 0)) (go (ltb n 21) (ltb-false n 21))
  where
    go : (b : Bool) → (b ≡ false → 21 ≤ n) → b && eqb n k ≡ eqb n k
    go true f = refl
    go false f = let m : 21 ≤ n = f refl in sym (ne_eqb n k (λ e. omega arith))

module _ (a i : ℕ) (small : i < 63) where
  -- the count of cell i of axis a
  abbrev here : List ℕ → ℕ
  here counts = get_or counts (a * 63 + i) 0

  cell_same : (counts : List ℕ) (c : ℕ) → a * 63 + i < length counts → here (cell_more counts a c) ≡ more_if (eqb c i) (here counts)
  unfolding cell_more
  cell_same counts c l =
      at_count (ltb c 63) counts (a * 63 + c) (a * 63 + i) l
      ∙ ap (λ (b : Bool). more_if b (here counts)) (go (eqb c i) (eqb-true c i) (eqb-false c i))
    where
      go : (t : Bool) → (t ≡ true → c ≡ i) → (t ≡ false → c ≡ i → ⊥) → ltb c 63 && eqb (a * 63 + c) (a * 63 + i) ≡ t
      go true p n = let e : c ≡ i = p refl in ap₂ (λ (x y : Bool). x && y) (lt-ltb c 63 (omega arith)) (eq-eqb (a * 63 + c) (a * 63 + i) (omega arith))
      go false p n = and_false (ltb c 63) _ (ne_eqb (a * 63 + c) (a * 63 + i) (λ e. n refl (omega arith)))

  -- of another axis
  cell_other : (counts : List ℕ) (d c : ℕ) → (d ≡ a → ⊥) → a * 63 + i < length counts → here (cell_more counts d c) ≡ here counts
  unfolding cell_more
  cell_other counts d c n l =
      at_count (ltb c 63) counts (d * 63 + c) (a * 63 + i) l
      ∙ ap (λ (b : Bool). more_if b (here counts)) (go (ltb c 63) (ltb-true c 63))
    where
      go : (b : Bool) → (b ≡ true → c < 63) → b && eqb (d * 63 + c) (a * 63 + i) ≡ false
      go true f = let m : c < 63 = f refl in ne_eqb (d * 63 + c) (a * 63 + i) (λ e. n (omega arith))
      go false f = refl

  -- the axes from d on: past a, and with a among them, n places on
  cells_past : (cs counts : List ℕ) (d : ℕ) → a < d → a * 63 + i < length counts → here (cells_more counts d cs) ≡ here counts
  unfolding cells_more
  cells_past [] counts d h l = refl
  cells_past (c ∷ cs) counts d h l =
      cells_past cs (cell_more counts d c) (d + 1) (omega arith) (omega (arith, l, cell_length counts d c)) ∙ cell_other counts d c (λ e. omega arith) l

  cells_count : (cs counts : List ℕ) (d n : ℕ) → a ≡ d + n → a * 63 + i < length counts
      → here (cells_more counts d cs) ≡ more_if (eqb (get_or cs n 63) i) (here counts)
  unfolding cells_more
  cells_count [] counts d n e l = sym (ap (λ (b : Bool). more_if b (here counts)) (ne_eqb 63 i (λ q. omega arith)))
  cells_count (c ∷ cs) counts d zero e l =
      let q : d ≡ a = omega arith in
      cells_past cs (cell_more counts d c) (d + 1) (omega arith) (omega (arith, l, cell_length counts d c))
      ∙ ap (λ (x : ℕ). here (cell_more counts x c)) q
      ∙ cell_same counts c l
  cells_count (c ∷ cs) counts d (suc n) e l =
      cells_count cs (cell_more counts d c) (d + 1) n (omega arith) (omega (arith, l, cell_length counts d c))
      ∙ ap (more_if (eqb (get_or cs n 63) i)) (cell_other counts d c (λ q. omega arith) l)

module _ (t : Tally) (o : Outcome) where
  pub tallied_records : (tallied t o).records ≡ t.records + 1
  unfolding tallied
  tallied_records = refl

  pub tallied_cell : Sized t → (a i : ℕ) → a < 4 → i < 63 → cell_count (tallied t o) a i ≡ more_if (in_cell a i o) (cell_count t a i)
  unfolding tallied in_cell
  tallied_cell s a i h l = go (eqb o.number 0)
    where
      go : (b : Bool) → get_or (cond b (cells_more t.cells 0 (take o.axes o.cells)) t.cells) (a * 63 + i) 0
          ≡ more_if (b && eqb (get_or (take o.axes o.cells) a 63) i) (cell_count t a i)
      go true = cells_count a i l (take o.axes o.cells) t.cells 0 a (omega arith) (omega (arith, s.cells))
      go false = refl

  pub tallied_number : Sized t → (k : ℕ) → k < 21 → number_count (tallied t o) k ≡ more_if (refused_as k o) (number_count t k)
  unfolding tallied refused_as
  tallied_number s k l = go (eqb o.number 0)
    where
      go : (b : Bool) → get_or (cond b t.numbers (number_more t.numbers o.number)) k 0
          ≡ more_if (not b && eqb o.number k) (number_count t k)
      go true = refl
      go false = number_count_lem t.numbers o.number k (omega (arith, s.numbers)) l

  pub tallied_sized : Sized t → Sized (tallied t o)
  unfolding tallied
  tallied_sized s = record {
    cells =
        either (λ (xs : List ℕ). length xs ≡ 252) (eqb o.number 0) _ _
        (cells_length (take o.axes o.cells) t.cells 0 ∙ s.cells) s.cells;
    numbers =
        either (λ (xs : List ℕ). length xs ≡ 21) (eqb o.number 0) _ _
        s.numbers (number_length t.numbers o.number ∙ s.numbers);
  }

  -- ---- the call
  abbrev answers : Fault → TallyAnswer
  answers f = record { answer = f then fine; tally = given f (tallied t o) t }

  pub counted_on : t.records < most_records → counted_of t o ≡ record { answer = fine; tally = tallied t o }
  unfolding counted_of ◌then◌ given good no_fault refusal
  counted_on h = sym (ap answers (limit_ahead t.records h))

  -- 17: "leaves the tally as it was"
  pub counted_no_more : most_records ≤ t.records → counted_of t o ≡ record { answer = refused (refusal 17 0 0); tally = t }
  unfolding counted_of ◌then◌ given good refusal
  counted_no_more h = sym (ap answers (limit_reached t.records h))

  pub counted-17 : (counted_of t o).answer.number ≡ 17 → most_records ≤ t.records
  unfolding fine answered
  counted-17 h =
      by_lt t.records most_records
      (λ l. let z : (counted_of t o).answer.number ≡ 0 = ap (λ (r : TallyAnswer). r.answer.number) (counted_on l) in absurd (omega arith))
      (λ g. g)
