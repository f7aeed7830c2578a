-- An input counted block by block to its end: the tally is that of all its records, and 17 is told where bytes come after the limit. Assumes nothing.
use mathlib.Core.Path.{◌≡◌, refl, sym, ap, ◌∙◌}
use mathlib.Core.Logic.{◌⊎◌, ⊎_elim}
use mathlib.Core.List.{List, [], ◌∷◌, ◌++◌, append_assoc, append-nil}
use Prim.Native.Nat.{ℕ, zero, suc, ◌+◌, ◌-◌, ◌*◌, ◌≤◌, ◌<◌}
use native.Mathlib.Nat.{zero-mul, add-mul, suc-mul, mul-le-mul_right}
use native.Mathlib.Omega.{arith}
use borrow.Author.Tests.{eq-eqb, ne_eqb, lt-ltb, le-ltb}
use lib.Dec.{ltb}
use lib.ListN.{length, drop, length-append, length-drop}
use lib.Ieee.{Float}
use Rattle.answer.specs.Faults.{refusal, no_fault, good, when}
use Rattle.answer.specs.Answer.{refused, fine, ◌then◌}
use Rattle.answer.specs.declared.Answer.{Answer}
use Rattle.answer.proofs.Tests.{either, by_lt, by_eq}
use Rattle.layout.specs.declared.Shape.{Shape}
use Rattle.checks.specs.Numbers.{most_records}
use Rattle.tally.specs.declared.Tally.{Tally}
use Rattle.tally.specs.declared.TallyAnswer.{TallyAnswer}
use Rattle.tally.specs.Counts.{none_read}
use Rattle.tally.proofs.Counts.{counted_on, counted_no_more}
use Rattle.ninterp.specs.Records.{record_size}
use Rattle.ninterp.specs.Coverage.{goes_past}
use Rattle.ninterp.specs.Counting.{outcome_of, counted_record, whole_records, block_count, block_tally, counted_rest}
use Rattle.ninterp.proofs.CoverageBlocks.{block_used, block_records, block_after, none_after, one_after, end_after}
use Rattle.ninterp.proofs.Afters.{tally_after, Counted}

-- ---- what is left at the end
module _ (t : Tally) (s : Shape) (nodes values : List Float) where
  module _ (rest : List ℕ) where
    pub rest_none : length rest ≡ 0 → (a : Answer) → a ≡ fine → record { answer = a; tally = t } ≡ counted_rest t s nodes values rest
    unfolding counted_rest
    rest_none h a e = rw (eq-eqb (length rest) 0 h, e)

    pub rest_some : (length rest ≡ 0 → ⊥) → counted_record t s nodes values rest ≡ counted_rest t s nodes values rest
    unfolding counted_rest
    rest_some h = rw (ne_eqb (length rest) 0 h)

  after_none : (rest : List ℕ) → length rest ≡ 0 → tally_after t s nodes values rest ≡ t
  after_none [] h = none_after t s nodes values
  after_none (b ∷ bs) h = absurd (omega (arith, h))

-- what is told of an input up to the limit, and past it
module _ (s : Shape) (bytes : List ℕ) where
  past_not : length bytes ≤ most_records * record_size s → fine ≡ (when (goes_past s bytes) (refusal 17 0 0) then fine)
  unfolding goes_past when ◌then◌ good no_fault refusal
  past_not h = rw (le-ltb (most_records * record_size s) (length bytes) h)

  past_met : most_records * record_size s < length bytes → refused (refusal 17 0 0) ≡ (when (goes_past s bytes) (refusal 17 0 0) then fine)
  unfolding goes_past when ◌then◌ good refusal
  past_met h = rw (lt-ltb (most_records * record_size s) (length bytes) h)

whole_few : (size m : ℕ) (input : List ℕ) → whole_records size m input ≤ m
unfolding whole_records
whole_few size zero input = omega arith
whole_few size (suc m) input =
    either (λ (n : ℕ). n ≤ suc m) (ltb (length input) size) 0 (suc (whole_records size m (drop size input))) (omega arith)
    (omega (arith, whole_few size m (drop size input)))

module _ (s : Shape) (nodes values : List Float) where
  -- ---- from the first block to the last
  pub counted_start : Counted s nodes values [] none_read []
  unfolding none_read
  counted_start = record { within = omega arith; spent = omega (arith, zero-mul (record_size s)); after = λ more. refl }

  pub used_is : (t : Tally) (input : List ℕ) → (block_tally t s nodes values input).used ≡ block_count t s input * record_size s
  unfolding block_tally
  used_is t input = refl

  module _ {bytes rest : List ℕ} {t : Tally} (g : Counted s nodes values bytes t rest) where
    pub counted_block : (block : List ℕ)
        → Counted s nodes values (bytes ++ block) (block_tally t s nodes values (rest ++ block)).tally
        (drop (block_tally t s nodes values (rest ++ block)).used (rest ++ block))
    counted_block block = record {
      within = omega (arith, records, whole_few (record_size s) (most_records - t.records) (rest ++ block), g.within);
      spent =
          omega (
            arith,
            sum,
            used_is t (rest ++ block),
            g.spent,
            block_used t s nodes values (rest ++ block),
            length-append rest block,
            length-append bytes block,
            length-drop (block_tally t s nodes values (rest ++ block)).used (rest ++ block),
          );
      after = λ more.
          ap (tally_after none_read s nodes values) (append_assoc bytes block more)
          ∙ g.after (block ++ more)
          ∙ ap (tally_after t s nodes values) (sym (append_assoc rest block more))
          ∙ block_after t s nodes values (rest ++ block) more;
    }
      where
        records : (block_tally t s nodes values (rest ++ block)).tally.records ≡ t.records + block_count t s (rest ++ block)
        records = block_records t s nodes values (rest ++ block)

        sum : (block_tally t s nodes values (rest ++ block)).tally.records * record_size s
            ≡ t.records * record_size s + block_count t s (rest ++ block) * record_size s
        sum = ap (λ (n : ℕ). n * record_size s) records ∙ add-mul t.records (block_count t s (rest ++ block)) (record_size s)

    -- ---- the end: the limit is reached, or the rest is no whole record
    all_after : tally_after none_read s nodes values bytes ≡ tally_after t s nodes values rest
    all_after = ap (tally_after none_read s nodes values) (sym (append-nil bytes)) ∙ g.after [] ∙ ap (tally_after t s nodes values) (append-nil rest)

    module _ (last : (length rest < record_size s) ⊎ (most_records ≤ t.records)) where
      -- the rest is empty, or a short record ahead of the limit, or past it
      by_rest : {A : Type 0} → (length rest ≡ 0 → A) → ((length rest ≡ 0 → ⊥) → length rest < record_size s → t.records < most_records → A)
          → ((length rest ≡ 0 → ⊥) → most_records ≤ t.records → A) → A
      by_rest none short full =
          by_eq (length rest) 0 none
          (λ n. by_lt t.records most_records (λ h. short n (⊎_elim (λ l. l) (λ k. absurd (omega (arith, k, h))) last) h) (λ h. full n h))

      pub counted_end : (counted_rest t s nodes values rest).tally ≡ tally_after none_read s nodes values bytes
      unfolding counted_record
      counted_end =
          by_rest (λ z. sym (ap tally (rest_none t s nodes values rest z fine refl)) ∙ sym (after_none t s nodes values rest z))
          (λ n l h. sym (ap tally (rest_some t s nodes values rest n)) ∙ sym (end_after t s nodes values rest (omega (arith, n)) (omega (arith, l))))
          (λ n h.
          sym (ap tally (rest_some t s nodes values rest n))
          ∙ ap tally (counted_no_more t (outcome_of s nodes values rest) h)
          ∙ sym (one_after t s nodes values h rest))
          ∙ sym all_after
        where
          tally : TallyAnswer → Tally
          tally r = r.tally

      -- 17 "at any byte after record 1,000,000", and nothing else
      pub counted_told : (counted_rest t s nodes values rest).answer ≡ (when (goes_past s bytes) (refusal 17 0 0) then fine)
      unfolding counted_record
      counted_told =
          by_rest (λ z. sym (ap answer (rest_none t s nodes values rest z fine refl)) ∙ past_not s bytes (omega (arith, z, few, g.spent)))
          (λ n l h.
          sym (ap answer (rest_some t s nodes values rest n))
          ∙ ap answer (counted_on t (outcome_of s nodes values rest) h)
          ∙ past_not s bytes (omega (arith, l, one h, g.spent)))
          (λ n h.
          sym (ap answer (rest_some t s nodes values rest n))
          ∙ ap answer (counted_no_more t (outcome_of s nodes values rest) h)
          ∙ past_met s bytes (omega (arith, n, mul-le-mul_right (record_size s) h, g.spent)))
        where
          answer : TallyAnswer → Answer
          answer r = r.answer

          few : t.records * record_size s ≤ most_records * record_size s
          few = mul-le-mul_right (record_size s) g.within

          one : t.records < most_records → t.records * record_size s + record_size s ≤ most_records * record_size s
          one h = omega (arith, mul-le-mul_right (record_size s) h, suc-mul t.records (record_size s))
