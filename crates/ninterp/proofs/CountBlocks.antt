-- The loop over a block of records that counts them: those that are left, from the present tally, make what all make. Assumes nothing.
use Rattle.std.proofs.Common.{Bor, Option, Some, None}
use Rattle.std.specs.Iterator.Adapters.{take_source, take_count, take_steps}
use Rattle.std.specs.Slice.Iter.{chunks_exact_rest, chunks_exact_size, chunks_exact_steps}
use Rattle.std.specs.declared.iter.Take.{Take}
use Rattle.std.specs.declared.slice.ChunksExact.{ChunksExact}
use mathlib.Core.Path.{◌≡◌, refl, sym, ap, ap₂, ◌∙◌, subst}
use mathlib.Core.Logic.{⊎_elim}
use mathlib.Core.List.{List, map}
use Prim.Native.Nat.{ℕ, zero, suc, ◌+◌, ◌-◌, ◌*◌, ◌≤◌, ◌<◌}
use native.Mathlib.Nat.{zero-add, zero-mul, suc-mul}
use native.Mathlib.Omega.{arith}
use borrow.Author.Tests.{lt-ltb, le-ltb}
use lib.ListN.{length, take, drop, length-drop}
use lib.Seq.{drop-drop}
use lib.Ieee.{Float}
use Rattle.layout.specs.declared.Shape.{Shape}
use Rattle.checks.specs.Numbers.{most_records}
use Rattle.tally.specs.declared.Tally.{Tally}
use Rattle.tally.specs.declared.Outcome.{Outcome}
use Rattle.tally.specs.Tally.{tallied, counted_of}
use Rattle.tally.specs.Counts.{count_all}
use Rattle.tally.specs.declared.TallyAnswer.{TallyAnswer}
use Rattle.tally.proofs.Counts.{counted_on}
use Rattle.ninterp.specs.declared.records.count.BlockTally.{BlockTally}
use Rattle.ninterp.specs.Records.{record_size}
use Rattle.ninterp.specs.Coverage.{records_in}
use Rattle.ninterp.specs.Counting.{outcome_of, whole_records, block_count, block_tally}
use Rattle.ninterp.proofs.Chunks.{Chunked, Chunk, chunk_here, chunk_next, chunk_last}
use Rattle.ninterp.proofs.RecordsIn.{records_more}

-- ---- how many records there are, and which
module _ (size : ℕ) (input : List ℕ) where
  count_most : (m : ℕ) → m ≡ 0 → whole_records size m input ≡ 0
  unfolding whole_records
  count_most m e = rw e

  count_short : (m : ℕ) → length input < size → whole_records size m input ≡ 0
  unfolding whole_records
  count_short zero h = refl
  count_short (suc m) h = rw (lt-ltb (length input) size h)

  count-more : (m : ℕ) → size ≤ length input → whole_records size (suc m) input ≡ suc (whole_records size m (drop size input))
  unfolding whole_records
  count-more m h = rw (le-ltb (length input) size h)

-- a record counted ahead of the limit is one more
pub counted_one : (t : Tally) (o : Outcome) → t.records < most_records → (counted_of t o).tally.records ≡ t.records + 1
unfolding tallied
counted_one t o h = ap (λ (r : TallyAnswer). r.tally.records) (counted_on t o h)

-- ---- a block
module _ (s : Shape) (nodes values : List Float) where
  abbrev outcome : List ℕ → Outcome
  outcome = outcome_of s nodes values

  abbrev counted : Tally → ℕ → List ℕ → BlockTally
  counted t k input = record { tally = count_all t (map outcome (records_in (record_size s) k input)); used = k * record_size s }

  -- no record may still be counted
  block_end : (t : Tally) (input : List ℕ) → block_count t s input ≡ 0 → block_tally t s nodes values input ≡ record { tally = t; used = 0 }
  unfolding block_tally count_all records_in
  block_end t input e = ap (λ (k : ℕ). counted t k input) e ∙ ap (λ (n : ℕ). record { tally = t; used = n }) (zero-mul (record_size s))

  pub counting_none : (t : Tally) (input : List ℕ) → length input < record_size s → record { tally = t; used = 0 } ≡ block_tally t s nodes values input
  counting_none t input h = sym (block_end t input (count_short (record_size s) input (most_records - t.records) h))

  -- a whole record is in front
  module _ (t u : Tally) (input : List ℕ) (h : t.records < most_records) (l : record_size s ≤ length input)
      (e : u ≡ (counted_of t (outcome_of s nodes values (take (record_size s) input))).tally) where
    count_next : block_count t s input ≡ suc (block_count u s (drop (record_size s) input))
    count_next =
        ap (λ (m : ℕ). whole_records (record_size s) m input) left
        ∙ count-more (record_size s) input (most_records - u.records) l
      where
        one : u.records ≡ t.records + 1
        one = ap (λ (v : Tally). v.records) e ∙ counted_one t (outcome (take (record_size s) input)) h

        left : most_records - t.records ≡ suc (most_records - u.records)
        left = omega (arith, one, h)

    block_next : block_tally t s nodes values input
        ≡ record { tally = (block_tally u s nodes values (drop (record_size s) input)).tally; used = record_size s + (block_tally u s nodes values (drop (record_size s) input)).used }
    unfolding block_tally count_all
    block_next =
        ap (λ (k : ℕ). counted t k input) count_next
        ∙ ap₂ (λ (v : Tally) (n : ℕ). record { tally = v; used = n }) all (omega (arith, suc-mul more (record_size s)))
      where
        more : ℕ
        more = block_count u s (drop (record_size s) input)

        all : count_all t (map outcome (records_in (record_size s) (suc more) input)) ≡ count_all u (map outcome (records_in (record_size s) more (drop (record_size s) input)))
        all =
            ap (λ (rs : List (List ℕ)). count_all t (map outcome rs)) (records_more (record_size s) more input (omega (arith, l)))
            ∙ ap (λ (v : Tally). count_all v (map outcome (records_in (record_size s) more (drop (record_size s) input)))) (sym e)

-- ---- the loop: u is the tally after the records before `at`
pub record Counting (s : Shape) (nodes values : List Float) (t : Tally) (input : List ℕ) (u : Tally) (at : ℕ) : Type 0 where
  pub whole : at ≤ length input
  pub same : record { tally = (block_tally u s nodes values (drop at input)).tally; used = at + (block_tally u s nodes values (drop at input)).used } ≡ block_tally t s nodes values input

module _ (s : Shape) (nodes values : List Float) (t : Tally) (input : List ℕ) where
  pub counting_begin : Counting s nodes values t input t 0
  counting_begin = record {
    whole = omega arith;
    same = ap (λ (n : ℕ). record { tally = (block_tally t s nodes values input).tally; used = n }) (zero-add (block_tally t s nodes values input).used);
  }

  -- the same, with an iterator over the whole records that may still come
  pub record Looping (size : ℕ) (u : Tally) (at : ℕ) (it : Take (ChunksExact ℕ)) : Type 0 where
    pub counting : Counting s nodes values t input u at
    pub chunks : Chunked size input at (most_records - u.records) it

  module _ (size : ℕ) (e : size ≡ record_size s) where
    module _ {u : Tally} {at : ℕ} {it : Take (ChunksExact ℕ)} (g : Looping size u at it) (next : Take (ChunksExact ℕ)) (r : Option (Bor (List ℕ))) (h : take_steps chunks_exact_steps it r next) where
      stops : block_count u s (drop at input) ≡ 0 → record { tally = u; used = at } ≡ block_tally t s nodes values input
      stops z =
          ap (λ (n : ℕ). record { tally = u; used = n }) (omega arith)
          ∙ sym (ap (λ (b : BlockTally). record { tally = b.tally; used = at + b.used }) (block_end s nodes values u (drop at input) z))
          ∙ g.counting.same

      pub loop_last : r ≡ None → record { tally = u; used = at } ≡ block_tally t s nodes values input
      loop_last q =
          stops
          (⊎_elim (count_most (record_size s) (drop at input) (most_records - u.records)) (λ l. count_short (record_size s) (drop at input) (most_records - u.records) (omega (arith, l, e)))
          (chunk_last it next r g.chunks h q))

      module _ (x : Bor (List ℕ)) (q : r ≡ Some x) where
        here : Chunk size input at (most_records - u.records) x.now
        here = chunk_here it next r g.chunks h x q

        loop_within : at + size ≤ length input
        loop_within = omega (arith, here.fits, length-drop at input, g.counting.whole)

        pub loop_again : (v : Tally) → v ≡ (counted_of u (outcome_of s nodes values x.now)).tally → Looping size v (at + size) next
        loop_again v p = record {
          counting = record {
            whole = loop_within;
            same =
                ap (λ (n : ℕ). record { tally = rest.tally; used = n }) (omega (arith, e))
                ∙ sym (ap (λ (b : BlockTally). record { tally = b.tally; used = at + b.used }) step)
                ∙ g.counting.same;
          };
          chunks = subst (λ (k : ℕ). Chunked size input (at + size) k next) (omega (arith, one)) (chunk_next it next r g.chunks h x q);
        }
          where
            ahead : u.records < most_records
            ahead = omega (arith, here.some)

            one : v.records ≡ u.records + 1
            one = ap (λ (w : Tally). w.records) p ∙ counted_one u (outcome_of s nodes values x.now) ahead

            rest : BlockTally
            rest = block_tally v s nodes values (drop (at + size) input)

            past : drop (record_size s) (drop at input) ≡ drop (at + size) input
            past = drop-drop (record_size s) at input ∙ ap (λ (n : ℕ). drop (at + n) input) (sym e)

            step : block_tally u s nodes values (drop at input) ≡ record { tally = rest.tally; used = record_size s + rest.used }
            step =
                block_next s nodes values u v (drop at input) ahead (omega (arith, e, here.fits))
                (p ∙ ap (λ (xs : List ℕ). (counted_of u (outcome_of s nodes values xs)).tally) (here.bytes ∙ ap (λ (n : ℕ). take n (drop at input)) e))
                ∙ ap (λ (xs : List ℕ). record { tally = (block_tally v s nodes values xs).tally; used = record_size s + (block_tally v s nodes values xs).used }) past
