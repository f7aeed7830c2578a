-- A file counted block by block, and its end: where it is cut into blocks has no effect. Assumes nothing.
use mathlib.Core.Path.{◌≡◌, refl, sym, ap, ap₂, ◌∙◌}
use mathlib.Core.Logic.{◌⊎◌, inl, inr}
use mathlib.Core.Bool.{Bool, true, false, not, cond}
use mathlib.Core.List.{List, [], ◌∷◌, ◌++◌, map, map-append}
use Prim.Native.Nat.{ℕ, zero, suc, ◌+◌, ◌-◌, ◌*◌, ◌≤◌, ◌<◌}
use native.Mathlib.Nat.{zero-mul, suc-mul, sub-zero, suc-sub-suc}
use native.Mathlib.Omega.{arith}
use borrow.Author.Tests.{ltb-true, ltb-false, ne_eqb}
use lib.Dec.{eqb, ltb}
use lib.ListN.{length, take, drop, length-take, length-drop, length-append, length-map, drop_of_length-le}
use lib.Seq.{take_all, take-append-le, drop-append-le, drop-drop}
use lib.Ieee.{Float}
use Rattle.answer.specs.Faults.{refusal, good, ◌or◌}
use Rattle.answer.specs.Answer.{refused}
use Rattle.answer.proofs.Orders as orders
use Rattle.answer.proofs.Tests.{by_lt}
use Rattle.layout.specs.declared.Shape.{Shape}
use Rattle.checks.specs.Numbers.{most_records, length_fault}
use Rattle.checks.specs.Shapes.{frame_fault}
use Rattle.tally.specs.declared.Tally.{Tally}
use Rattle.tally.specs.declared.Outcome.{Outcome}
use Rattle.tally.specs.declared.TallyAnswer.{TallyAnswer}
use Rattle.tally.specs.Counts.{count_all}
use Rattle.tally.proofs.Counts.{counted_no_more}
use Rattle.tally.proofs.Totals.{records_from, count-append}
use Rattle.ninterp.specs.Records.{record_size, record_answer}
use Rattle.ninterp.specs.Coverage.{records_in}
use Rattle.ninterp.specs.Counting.{outcome_of, counted_record, whole_records, block_count, block_tally}
use Rattle.ninterp.proofs.KindOrder.{record_refused}
use Rattle.ninterp.proofs.RecordsIn.{records_none, records_more}
use Rattle.ninterp.proofs.Afters.{tally_after}

-- ---- the records of an input, one after the other, and the whole ones at its front
module _ (size : ℕ) where
  -- n whole records, as many as there are up to m
  record Whole (m : ℕ) (input : List ℕ) (n : ℕ) : Type 0 where
    most : n ≤ m
    fits : n * size ≤ length input
    left : (length (drop (n * size) input) < size) ⊎ (n ≡ m)
    many : length (records_in size n input) ≡ n
    after : (more : List ℕ) → records_in size m (input ++ more)
        ≡ records_in size n input ++ records_in size (m - n) (drop (n * size) input ++ more)

  whole_none : (m : ℕ) (input : List ℕ) → (length input < size) ⊎ (0 ≡ m) → Whole m input 0
  unfolding records_in
  whole_none m input l = record {
    most = omega arith;
    fits = omega arith;
    left = rw (zero-mul size) l;
    many = refl;
    after = λ more. rw (zero-mul size, sub-zero m);
  }

  module _ (some : 1 ≤ size) where
    module _ (m : ℕ) (input : List ℕ) (n : ℕ) (l : size ≤ length input) (w : Whole m (drop size input) n) where
      front : records_in size (suc n) input ≡ take size input ∷ records_in size n (drop size input)
      front = records_more size n input (omega (arith, some))

      on : drop (n * size) (drop size input) ≡ drop (suc n * size) input
      on =
          let e : size + n * size ≡ suc n * size = omega (arith, suc-mul n size) in
          drop-drop (n * size) size input ∙ ap (λ (k : ℕ). drop k input) e

      next_of : (more : List ℕ) → records_in size (suc m) (input ++ more) ≡ take size input ∷ records_in size m (drop size input ++ more)
      next_of more =
          records_more size m (input ++ more) (omega (arith, some, l, length-append input more))
          ∙ ap₂ (λ (rec rest : List ℕ). rec ∷ records_in size m rest) (take-append-le size input more l) (drop-append-le size input more l)

      left_of : (length (drop (n * size) (drop size input)) < size) ⊎ (n ≡ m) → (length (drop (suc n * size) input) < size) ⊎ (suc n ≡ suc m)
      left_of (inl h) = inl (omega (arith, h, ap length on))
      left_of (inr e) = inr (ap suc e)

      whole-next : Whole (suc m) input (suc n)
      whole-next = record {
        most = omega (arith, w.most);
        fits = omega (arith, suc-mul n size, w.fits, length-drop size input);
        left = left_of w.left;
        many = ap length front ∙ ap suc w.many;
        after = λ more.
            next_of more
            ∙ ap (λ (rs : List (List ℕ)). take size input ∷ rs) (w.after more)
            ∙ ap₂ (λ (xs ys : List (List ℕ)). xs ++ ys) (sym front)
            (ap₂ (λ (k : ℕ) (rest : List ℕ). records_in size k (rest ++ more)) (sym (suc-sub-suc m n)) on);
      }

    whole : (m : ℕ) (input : List ℕ) → Whole m input (whole_records size m input)
    unfolding whole_records
    whole zero input = whole_none 0 input (inr refl)
    whole (suc m) input = go (ltb (length input) size) (ltb-true (length input) size) (ltb-false (length input) size) (whole m (drop size input))
      where
        go : (b : Bool) → (b ≡ true → length input < size) → (b ≡ false → size ≤ length input)
            → Whole m (drop size input) (whole_records size m (drop size input))
            → Whole (suc m) input (cond b 0 (suc (whole_records size m (drop size input))))
        go true y n w = whole_none (suc m) input (inl (y refl))
        go false y n w = whole-next m input (whole_records size m (drop size input)) (n refl) w

-- ---- a block, and the end
module _ (t : Tally) (s : Shape) (nodes values : List Float) where
  abbrev outcomes : List (List ℕ) → List Outcome
  outcomes recs = map (outcome_of s nodes values) recs

  module _ (input : List ℕ) where
    -- the records of the block, and the tally after them
    abbrev block : List (List ℕ)
    block = records_in (record_size s) (block_count t s input) input

    abbrev next_tally : Tally
    next_tally = count_all t (outcomes block)

    counted : Whole (record_size s) (most_records - t.records) input (block_count t s input)
    counted = whole (record_size s) (omega arith) (most_records - t.records) input

    pub block_used : (block_tally t s nodes values input).used ≤ length input
    unfolding block_tally
    block_used = counted.fits

    pub block_records : (block_tally t s nodes values input).tally.records ≡ t.records + block_count t s input
    unfolding block_tally
    block_records =
        omega (
          arith,
          counted.many,
          counted.most,
          records_from (outcomes block) t,
          length-take (most_records - t.records) (outcomes block),
          length-map block (outcome_of s nodes values),
        )

    -- what is left is no whole record, or the limit is reached
    pub block_left : (length (drop (block_tally t s nodes values input).used input) < record_size s)
        ⊎ (most_records ≤ (block_tally t s nodes values input).tally.records)
    unfolding block_tally
    block_left = go counted.left
      where
        go : (length (drop (block_count t s input * record_size s) input) < record_size s) ⊎ (block_count t s input ≡ most_records - t.records)
            → (length (drop (block_count t s input * record_size s) input) < record_size s) ⊎ (most_records ≤ next_tally.records)
        go (inl h) = inl h
        go (inr e) = inr (omega (arith, e, block_records))

    -- whatever bytes come next
    pub block_after : (more : List ℕ) → tally_after t s nodes values (input ++ more)
        ≡ tally_after (block_tally t s nodes values input).tally s nodes values (drop (block_tally t s nodes values input).used input ++ more)
    unfolding tally_after block_tally
    block_after more =
        let k : most_records - t.records - block_count t s input ≡ most_records - next_tally.records = omega (arith, block_records) in
        let rest = drop (block_count t s input * record_size s) input ++ more in
        ap (λ (recs : List (List ℕ)). count_all t (outcomes recs)) (counted.after more)
        ∙ ap (count_all t) (map-append (outcome_of s nodes values) block (records_in (record_size s) (most_records - t.records - block_count t s input) rest))
        ∙ count-append (outcomes block) (outcomes (records_in (record_size s) (most_records - t.records - block_count t s input) rest)) t
        ∙ ap (λ (m : ℕ). count_all next_tally (outcomes (records_in (record_size s) m rest))) k

  pub none_after : tally_after t s nodes values [] ≡ t
  unfolding tally_after count_all
  none_after = ap (λ (recs : List (List ℕ)). count_all t (outcomes recs)) (records_none (record_size s) (most_records - t.records))

  -- 17
  pub one_after : most_records ≤ t.records → (input : List ℕ) → tally_after t s nodes values input ≡ t
  unfolding tally_after count_all records_in
  one_after h input =
      let z : most_records - t.records ≡ 0 = omega arith in
      ap (λ (m : ℕ). count_all t (outcomes (records_in (record_size s) m input))) z

  -- one record more, which may be short
  pub end_after : (rest : List ℕ) → 1 ≤ length rest → length rest ≤ record_size s
      → tally_after t s nodes values rest ≡ (counted_record t s nodes values rest).tally
  unfolding tally_after count_all counted_record
  end_after rest l h = by_lt t.records most_records read no_more
    where
      one : (m : ℕ) → records_in (record_size s) (suc m) rest ≡ rest ∷ []
      one m =
          records_more (record_size s) m rest l
          ∙ ap₂ (λ (rec : List ℕ) (recs : List (List ℕ)). rec ∷ recs) (take_all (record_size s) rest h)
          (ap (records_in (record_size s) m) (drop_of_length-le rest {i = record_size s} h) ∙ records_none (record_size s) m)

      read : t.records < most_records → tally_after t s nodes values rest ≡ (counted_record t s nodes values rest).tally
      read g =
          let k : most_records - t.records ≡ suc (most_records - t.records - 1) = omega arith in
          ap (λ (m : ℕ). count_all t (outcomes (records_in (record_size s) m rest))) k
          ∙ ap (λ (recs : List (List ℕ)). count_all t (outcomes recs)) (one (most_records - t.records - 1))

      no_more : most_records ≤ t.records → tally_after t s nodes values rest ≡ (counted_record t s nodes values rest).tally
      no_more g = one_after g rest ∙ sym (ap (λ (r : TallyAnswer). r.tally) (counted_no_more t (outcome_of s nodes values rest) g))

-- "A short last record counts under 3"
pub short_record : (s : Shape) (nodes values : List Float) (rec : List ℕ) → good (frame_fault s (length nodes) (length values)) ≡ true
    → length rec < record_size s → record_answer s nodes values rec ≡ refused (refusal 3 0 2)
unfolding length_fault
short_record s nodes values rec f l = record_refused s nodes values rec (ap good three ∙ orders.bad_refused 2 0 2) ∙ ap refused three
  where
    short : not (eqb (length rec) (record_size s)) ≡ true
    short = ap not (ne_eqb (length rec) (record_size s) (λ e. omega arith))

    three : (frame_fault s (length nodes) (length values) or length_fault 2 (record_size s) (length rec)) ≡ refusal 3 0 2
    three = orders.or_good (frame_fault s (length nodes) (length values)) _ f ∙ orders.when_true (not (eqb (length rec) (record_size s))) (refusal 3 0 2) short
