-- "each count equals the number of such records": of every list of outcomes, the first 1,000,000 of them. Assumes nothing.
use mathlib.Core.Path.{◌≡◌, refl, sym, ap, ◌∙◌}
use mathlib.Core.Bool.{Bool, true, false, cond}
use mathlib.Core.List.{List, [], ◌∷◌, ◌++◌}
use Prim.Native.Nat.{ℕ, suc, ◌+◌, ◌*◌, ◌-◌, ◌≤◌, ◌<◌}
use native.Mathlib.Omega.{arith}
use lib.ListN.{length, take, length-replicate, get_or-replicate}
use lib.Seq.{take_all}
use Rattle.answer.specs.Faults.{good, given}
use Rattle.answer.proofs.Tests.{either, by_lt}
use Rattle.checks.specs.Numbers.{most_records, limit_fault}
use Rattle.tally.specs.declared.Tally.{Tally}
use Rattle.tally.specs.declared.Outcome.{Outcome}
use Rattle.tally.specs.declared.TallyAnswer.{TallyAnswer}
use Rattle.tally.specs.Tally.{tallied, counted_of}
use Rattle.tally.specs.Counts.{Sized, none_read, count_all, cell_count, number_count, how_many}
use Rattle.tally.proofs.Steps.{more_below}
use Rattle.tally.proofs.Counts.{more_if, in_cell, refused_as, tallied_records, tallied_sized, tallied_cell, tallied_number, counted_on, counted_no_more}
use Rattle.tally.proofs.Sums.{many_all}

-- ---- a count that is one more with each outcome of a kind counts that kind, among those that are read
module _ (look : Tally → ℕ) (test : Outcome → Bool) where
  module _ (Inv : Tally → Type 0)
      (one : (t : Tally) (o : Outcome) → Inv t → t.records < most_records → look (tallied t o) ≡ look t + cond (test o) 1 0)
      (keeps : (t : Tally) (o : Outcome) → Inv t → t.records < most_records → Inv (tallied t o)) where
    -- an outcome that is read, and one past the limit
    read_on : (t : Tally) (o : Outcome) (os : List Outcome) → Inv t → t.records < most_records
        → look (count_all (tallied t o) os) ≡ look (tallied t o) + how_many test (take (most_records - (tallied t o).records) os)
        → look (count_all (tallied t o) os) ≡ look t + how_many test (take (most_records - t.records) (o ∷ os))
    unfolding how_many
    read_on t o os v l ih =
        let n : most_records - t.records ≡ suc (most_records - (tallied t o).records) = omega (arith, tallied_records t o) in
        let y : how_many test (take (most_records - t.records) (o ∷ os)) ≡ cond (test o) 1 0 + how_many test (take (most_records - (tallied t o).records) os) =
        ap (λ (k : ℕ). how_many test (take k (o ∷ os))) n
        in
        omega (arith, one t o v l, ih, y)

    read_no_more : (t : Tally) (o : Outcome) (os : List Outcome) → most_records ≤ t.records
        → how_many test (take (most_records - t.records) os) ≡ how_many test (take (most_records - t.records) (o ∷ os))
    read_no_more t o os l =
        let n : most_records - t.records ≡ 0 = omega arith in
        ap (λ (k : ℕ). how_many test (take k os)) n ∙ sym (ap (λ (k : ℕ). how_many test (take k (o ∷ os))) n)

    counts_from : (os : List Outcome) (t : Tally) → Inv t → look (count_all t os) ≡ look t + how_many test (take (most_records - t.records) os)
    unfolding count_all how_many
    counts_from [] t v =
        let z : how_many test (take (most_records - t.records) []) ≡ 0 = ap (how_many test) (take_all (most_records - t.records) [] (omega arith)) in
        omega (arith, z)
    counts_from (o ∷ os) t v =
        by_lt t.records most_records
        (λ l.
        ap (λ (r : TallyAnswer). look (count_all r.tally os)) (counted_on t o l)
        ∙ read_on t o os v l (counts_from os (tallied t o) (keeps t o v l)))
        (λ g.
        ap (λ (r : TallyAnswer). look (count_all r.tally os)) (counted_no_more t o g)
        ∙ counts_from os t v
        ∙ ap (λ (n : ℕ). look t + n) (read_no_more t o os g))

-- a count to which the records that may still come can be added: of at most 1,000,000 records none comes to 2^32 - 1
pub record Room (look : Tally → ℕ) (t : Tally) : Type 0 where
  pub sized : Sized t
  pub low : look t + (most_records - t.records) ≤ 4294967295

pub none_sized : Sized none_read
unfolding none_read
none_sized = record { cells = length-replicate {A = ℕ} 252 0; numbers = length-replicate {A = ℕ} 21 0 }

none_records : none_read.records ≡ 0
unfolding none_read
none_records = refl

module _ (look : Tally → ℕ) (test : Outcome → Bool)
    (step : (t : Tally) (o : Outcome) → Sized t → look (tallied t o) ≡ more_if (test o) (look t)) where
  one : (t : Tally) (o : Outcome) → Room look t → t.records < most_records → look (tallied t o) ≡ look t + cond (test o) 1 0
  one t o v l = step t o v.sized ∙ go (test o)
    where
      go : (b : Bool) → more_if b (look t) ≡ look t + cond b 1 0
      go true = sym (more_below (look t) (omega (arith, v.low)))
      go false = omega arith

  keeps : (t : Tally) (o : Outcome) → Room look t → t.records < most_records → Room look (tallied t o)
  keeps t o v l = record {
    sized = tallied_sized t o v.sized;
    low = omega (arith, v.low, tallied_records t o, one t o v l, either (λ (n : ℕ). n ≤ 1) (test o) 1 0 (omega arith) (omega arith));
  }

  counts_all : (os : List Outcome) → look none_read ≡ 0 → look (count_all none_read os) ≡ how_many test (take most_records os)
  counts_all os z =
      let n : most_records - none_read.records ≡ most_records = omega (arith, none_records) in
      let y : how_many test (take (most_records - none_read.records) os) ≡ how_many test (take most_records os) =
      ap (λ (k : ℕ). how_many test (take k os)) n
      in
      omega (arith, z, y, counts_from look test (Room look) one keeps os none_read (record { sized = none_sized; low = omega (arith, z) }))

-- ---- "per axis and cell .. the accepted readings, and a count per refusal number"
pub cells_all : (a i : ℕ) → a < 4 → i < 63 → (os : List Outcome) → cell_count (count_all none_read os) a i ≡ how_many (in_cell a i) (take most_records os)
unfolding none_read
cells_all a i h l os =
    counts_all (λ t. cell_count t a i) (in_cell a i) (λ t o s. tallied_cell t o s a i h l) os
    (get_or-replicate 252 (a * 63 + i) 0 0 (omega arith))

pub numbers_all : (k : ℕ) → k < 21 → (os : List Outcome) → number_count (count_all none_read os) k ≡ how_many (refused_as k) (take most_records os)
unfolding none_read
numbers_all k l os = counts_all (λ t. number_count t k) (refused_as k) (λ t o s. tallied_number t o s k l) os (get_or-replicate 21 k 0 0 l)

-- ---- "the records read": from any tally, and from nothing read
pub records_from : (os : List Outcome) (t : Tally) → (count_all t os).records ≡ t.records + length (take (most_records - t.records) os)
records_from os t =
    counts_from (λ u. u.records) (λ o. true) (λ u. Unit {0}) (λ u o v l. tallied_records u o) (λ u o v l. tt) os t tt
    ∙ ap (λ (n : ℕ). t.records + n) (many_all (take (most_records - t.records) os))

pub records_all : (os : List Outcome) → (count_all none_read os).records ≡ length (take most_records os)
unfolding none_read
records_all os = records_from os none_read ∙ omega arith

-- ---- the lengths stay, and one list of outcomes after another
pub all_sized : (os : List Outcome) (t : Tally) → Sized t → Sized (count_all t os)
unfolding count_all counted_of given
all_sized [] t s = s
all_sized (o ∷ os) t s = all_sized os (counted_of t o).tally (either Sized (good (limit_fault t.records)) (tallied t o) t (tallied_sized t o s) s)

pub count-append : (os more : List Outcome) (t : Tally) → count_all t (os ++ more) ≡ count_all (count_all t os) more
unfolding count_all
count-append [] more t = refl
count-append (o ∷ os) more t = count-append os more (counted_of t o).tally
