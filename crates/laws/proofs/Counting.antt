-- Request C-11 on the page: what counting owes. Assumes nothing.
use mathlib.Core.Path.{◌≡◌, refl, sym, ap, ap₂, ◌∙◌, subst}
use mathlib.Core.Bool.{Bool, true, false, not, ◌&&◌, cond}
use mathlib.Core.Logic.{◌⊎◌, inl, inr}
use mathlib.Core.List.{List, [], ◌∷◌, ◌++◌, append_assoc, append-nil, map}
use Prim.Native.Nat.{ℕ, zero, suc, ◌+◌, ◌-◌, ◌*◌, ◌≤◌, ◌<◌, min}
use native.Mathlib.Omega.{arith}
use borrow.Author.Tests.{lt-ltb, le-ltb}
use lib.Dec.{ltb, eqb}
use lib.ListN.{length, take, drop, get_or, drop_of_length-le}
use lib.Seq.{take_all}
use lib.Ieee.{Float, nan}
use Rattle.answer.specs.Faults.{refusal, good, when, ◌or◌}
use Rattle.answer.specs.Answer.{refused, answered, fine, ◌then◌}
use Rattle.answer.specs.declared.Answer.{Answer}
use Rattle.answer.proofs.Orders.{given-good, first-passed}
use Rattle.answer.proofs.Answers.{then_good, then_number}
use Rattle.answer.proofs.Tests.{by_lt}
use Rattle.layout.specs.Shape.{counts_of}
use Rattle.layout.specs.declared.Shape.{Shape}
use Rattle.checks.specs.Shapes.{frame_fault}
use Rattle.checks.specs.Numbers.{most_records, readings_fault, ranges_fault, axes_uniform_fault}
use Rattle.checks.proofs.lists.Rows.{readings_finite}
use Rattle.lines.specs.Line.{line_of}
use Rattle.lines.specs.Stream.{lines_of, cut_line}
use Rattle.tally.specs.declared.Tally.{Tally}
use Rattle.tally.specs.declared.Outcome.{Outcome}
use Rattle.tally.specs.declared.TallyAnswer.{TallyAnswer}
use Rattle.tally.specs.Tally.{tallied}
use Rattle.tally.specs.Counts.{Sized, none_read, count_all, cell_count, number_count, sum_to}
use Rattle.tally.proofs.Steps.{more_below, more-held}
use Rattle.tally.proofs.Counts.{more_if, refused_as, tallied_records, tallied_sized, tallied_cell, tallied_number, counted_on, counted_no_more}
use Rattle.utils.specs.Calls.{axis_reading_fault, index_answer, locate_lower_index}
use Rattle.axis.specs.Cells.{lower_index}
use Rattle.ninterp.specs.Records.{record_size, record_readings, record_answer, record_rule}
use Rattle.ninterp.specs.Coverage.{records_in, records_read, record_cell, fell_in, refused_by, cell_total, number_total, goes_past}
use Rattle.ninterp.specs.Counting.{outcome_of, counted_record, block_tally}
use Rattle.ninterp.specs.Scaffolding.{table_fault, kind_fault, kind_found}
use Rattle.ninterp.proofs.RecordsIn.{records_none, records_more, records_at, records_within}
use Rattle.ninterp.proofs.Coverage.{fell_refused, fell_nowhere, fell_accepted, outcome_cell, outcome_refused, cell_total_lem, number_total_lem, records_total}
use Rattle.ninterp.proofs.CoverageBlocks.{block_used, block_left, short_record}
use Rattle.ninterp.proofs.KindOrder.{record_exact, kind_order, length_readings}
use Rattle.ninterp.proofs.CoverageSums.{axis_sums}
use Rattle.ninterp.proofs.CountEnds.{counted_start, counted_block, counted_end, counted_told}
use Rattle.ninterp.proofs.Afters.{tally_after, Counted}
use Rattle.laws.specs.Calls.{Table, axes, counts, axis}
use Rattle.laws.specs.Promises.{Accepted}
use Rattle.laws.specs.Counting.{Counting, Fed, count, one_by_one, next, fed, at_start, count_file, file, answers}
use Rattle.laws.proofs.Premises.{passes}
use Rattle.laws.proofs.Judging.{record_judged}
use Rattle.laws.proofs.Primitives.{primitives}

-- one more, or as it was; a largest u32 stays
raised : (b : Bool) (n : ℕ) → n ≤ 4294967295 → more_if b n ≡ min 4294967295 (n + cond b 1 0)
raised true n h = by_lt n 4294967295 (λ l. sym (more_below n l) ∙ below l) (λ l. sym (more-held n l) ∙ held l)
  where
    below : n < 4294967295 → n + 1 ≡ min 4294967295 (n + 1)
    below l = omega arith

    held : 4294967295 ≤ n → n ≡ min 4294967295 (n + 1)
    held l = omega arith
raised false n h = omega arith

same_sums : (f g : ℕ → ℕ) (n : ℕ) → ((i : ℕ) → i < n → f i ≡ g i) → sum_to f n ≡ sum_to g n
unfolding sum_to
same_sums f g zero h = refl
same_sums f g (suc n) h = ap₂ (λ (x y : ℕ). x + y) (same_sums f g n (λ i l. h i (omega arith))) (h n (omega arith))

module _ (table : Table) where
  abbrev s : Shape
  s = table.shape

  abbrev nodes : List Float
  nodes = table.nodes.list

  abbrev values : List Float
  values = table.values.list

  -- ---- which records
  module _ (rec : List ℕ) (z : (record_answer s nodes values rec).number ≡ 0) where
    judged : Accepted table × (length rec ≡ record_size s)
    unfolding record_answer
    judged = record_judged table rec (then_number _ _ z)

    -- what is asked of a record's readings was passed
    inside : good (readings_fault (record_readings s rec) or ranges_fault (counts_of s) nodes (record_readings s rec)) ≡ true
    inside = then_number _ _ (sym (ap (λ (x : Answer). x.number) (ordered ∙ then_good _ _ (then_number _ _ (sym (ap (λ (x : Answer). x.number) ordered) ∙ z)))) ∙ z)
      where
        ordered : record_answer s nodes values rec
            ≡ (kind_fault (get_or rec 0 0) (table_fault s nodes values) (axes_uniform_fault (counts_of s) nodes)
            then (readings_fault (record_readings s rec) or ranges_fault (counts_of s) nodes (record_readings s rec))
            then kind_found (get_or rec 0 0) s nodes values (record_readings s rec))
        ordered =
            record_exact s nodes values rec judged.1
            ∙ kind_order s nodes values (record_readings s rec) (length_readings s rec) table.four (get_or rec 0 0)

    module _ (a : ℕ) (l : a < axes table) where
      abbrev reading : Float
      reading = get_or (record_readings s rec) a nan

      located : (locate_lower_index (axis table a) reading).answer ≡ fine
      located =
          (primitives.lower_index_lem (axis table a) reading).judges.accepts
          (judged.0.rising a l, readings_finite (record_readings s rec) (first-passed _ _ inside) a (omega (arith, length_readings s rec)))

      found : record_cell s nodes a rec ≡ (locate_lower_index (axis table a) reading).index
      unfolding locate_lower_index index_answer record_cell fine answered
      found =
          sym (given-good (axis_reading_fault (axis table a) reading) (lower_index (axis table a) reading) 0
          (then_number (axis_reading_fault (axis table a) reading) fine (ap (λ (x : Answer). x.number) located)))

  no_cell : (rec : List ℕ) (a i : ℕ) → ((record_answer s nodes values rec).number ≡ 0 → ⊥) ⊎ (axes table ≤ a) → fell_in s nodes values a i rec ≡ false
  no_cell rec a i (inl n) = fell_refused s nodes values rec a i n
  no_cell rec a i (inr l) = fell_nowhere s nodes values rec a i l

  number_told : (rec : List ℕ) (k : ℕ) → refused_by s nodes values k rec ≡ eqb (record_answer s nodes values rec).number k
  unfolding refused_by
  number_told rec k = refl

  module _ (frame : good (frame_fault s (length nodes) (length values)) ≡ true) where
    -- a short record is the last
    last_line : (m : ℕ) (rec : List ℕ) → 1 ≤ length rec → length rec < record_size s → cut_line (record_rule s nodes values) rec ≡ answers table (records_in (record_size s) (suc m) rec)
    unfolding cut_line answers
    last_line m [] h l = absurd (omega arith)
    last_line m (b ∷ bs) h l =
        ap line_of (sym (short_record s nodes values (b ∷ bs) frame l))
        ∙ sym (append-nil (line_of (record_answer s nodes values (b ∷ bs))))
        ∙ sym (ap (answers table) one)
      where
        one : records_in (record_size s) (suc m) (b ∷ bs) ≡ (b ∷ bs) ∷ []
        one =
            records_more (record_size s) m (b ∷ bs) h
            ∙ ap₂ (λ (rec : List ℕ) (recs : List (List ℕ)). rec ∷ recs) (take_all (record_size s) (b ∷ bs) (omega arith))
            (ap (records_in (record_size s) m) (drop_of_length-le (b ∷ bs) {i = record_size s} (omega arith)) ∙ records_none (record_size s) m)

    -- the first record, and the line that is printed of it
    module _ (m : ℕ) (b : ℕ) (bs : List ℕ) where
      abbrev Same : Type 0
      Same = lines_of (record_rule s nodes values) (suc m) (b ∷ bs) ≡ answers table (records_in (record_size s) (suc m) (b ∷ bs))

      abbrev printed : Bool → List ℕ
      printed short =
          cond short (cut_line (record_rule s nodes values) (b ∷ bs))
          (line_of (record_answer s nodes values (take (record_size s) (b ∷ bs))) ++ lines_of (record_rule s nodes values) m (drop (record_size s) (b ∷ bs)))

      short_line : length (b ∷ bs) < record_size s → Same
      unfolding lines_of
      short_line l = ap printed (lt-ltb (length (b ∷ bs)) (record_size s) l) ∙ last_line m (b ∷ bs) (omega arith) l

      whole-line : lines_of (record_rule s nodes values) m (drop (record_size s) (b ∷ bs)) ≡ answers table (records_in (record_size s) m (drop (record_size s) (b ∷ bs)))
          → record_size s ≤ length (b ∷ bs) → Same
      unfolding lines_of answers records_in
      whole-line e l =
          ap printed (le-ltb (length (b ∷ bs)) (record_size s) l)
          ∙ ap (λ (x : List ℕ). line_of (record_answer s nodes values (take (record_size s) (b ∷ bs))) ++ x) e

    lines_are : (m : ℕ) (f : List ℕ) → lines_of (record_rule s nodes values) m f ≡ answers table (records_in (record_size s) m f)
    unfolding lines_of answers records_in cut_line
    lines_are zero f = refl
    lines_are (suc m) [] =
        ap (λ (t : Bool). cond t [] (line_of (record_answer s nodes values (take (record_size s) [])) ++ lines_of (record_rule s nodes values) m (drop (record_size s) [])))
        (lt-ltb 0 (record_size s) (omega arith))
    lines_are (suc m) (b ∷ bs) =
        by_lt (length (b ∷ bs)) (record_size s) (short_line m b bs) (whole-line m b bs (lines_are m (drop (record_size s) (b ∷ bs))))

  -- ---- one record
  module _ (t : Tally) (rec : List ℕ) where
    on-more : t.records < most_records → count table t rec ≡ record { answer = fine; tally = tallied t (outcome_of s nodes values rec) }
    unfolding counted_record
    on-more h = counted_on t (outcome_of s nodes values rec) h

    no_more : most_records ≤ t.records → count table t rec ≡ record { answer = refused (refusal 17 0 0); tally = t }
    unfolding counted_record
    no_more h = counted_no_more t (outcome_of s nodes values rec) h

    -- the tally after it, whether it was counted or not
    either_way : (P : Tally → Type 0) → P (tallied t (outcome_of s nodes values rec)) → P t → P (count table t rec).tally
    either_way P p q =
        by_lt t.records most_records
        (λ l. subst (λ (r : TallyAnswer). P r.tally) (sym (on-more l)) p)
        (λ l. subst (λ (r : TallyAnswer). P r.tally) (sym (no_more l)) q)

    module _ (h : t.records < most_records) where
      after : (count table t rec).tally ≡ tallied t (outcome_of s nodes values rec)
      after = ap (λ (r : TallyAnswer). r.tally) (on-more h)

      cell_more_lem : Sized t → (a i : ℕ) → a < 4 → i < 63 → cell_count t a i ≤ 4294967295
          → cell_count (count table t rec).tally a i ≡ min 4294967295 (cell_count t a i + cond (fell_in s nodes values a i rec) 1 0)
      cell_more_lem z a i f m b =
          ap (λ (u : Tally). cell_count u a i) after
          ∙ tallied_cell t (outcome_of s nodes values rec) z a i f m
          ∙ ap (λ (x : Bool). more_if x (cell_count t a i)) (outcome_cell s nodes values rec a i m)
          ∙ raised (fell_in s nodes values a i rec) (cell_count t a i) b

      number_more_lem : Sized t → (k : ℕ) → suc k < 21 → number_count t (suc k) ≤ 4294967295
          → number_count (count table t rec).tally (suc k) ≡ min 4294967295 (number_count t (suc k) + cond (refused_by s nodes values (suc k) rec) 1 0)
      number_more_lem z k l b =
          ap (λ (u : Tally). number_count u (suc k)) after
          ∙ tallied_number t (outcome_of s nodes values rec) z (suc k) l
          ∙ ap (λ (x : Bool). more_if x (number_count t (suc k))) (outcome_refused s nodes values rec (suc k) (omega arith))
          ∙ raised (refused_by s nodes values (suc k) rec) (number_count t (suc k)) b

  -- the records of a list, one by one
  one_by_one_lem : (recs : List (List ℕ)) (t : Tally) → count_all t (map (outcome_of s nodes values) recs) ≡ one_by_one table t recs
  unfolding count_all one_by_one counted_record
  one_by_one_lem [] t = refl
  one_by_one_lem (rec ∷ recs) t = one_by_one_lem recs (count table t rec).tally

  -- ---- a file, block by block
  record Going (bytes : List ℕ) (f : Fed) : Type 0 where
    pub reached : Counted s nodes values bytes f.tally f.held
    pub last : (length f.held < record_size s) ⊎ (most_records ≤ f.tally.records)

  going_next : (bytes : List ℕ) (f : Fed) (block : List ℕ) → Going bytes f → Going (bytes ++ block) (next table f block)
  going_next bytes f block g = record { reached = counted_block s nodes values g.reached block; last = block_left f.tally s nodes values (f.held ++ block) }

  going_all : (blocks : List (List ℕ)) (bytes : List ℕ) (f : Fed) → Going bytes f → Going (bytes ++ file blocks) (fed table f blocks)
  unfolding fed file
  going_all [] bytes f g = subst (λ (x : List ℕ). Going x f) (sym (append-nil bytes)) g
  going_all (block ∷ blocks) bytes f g =
      subst (λ (x : List ℕ). Going x (fed table (next table f block) blocks)) (append_assoc bytes block (file blocks))
      (going_all blocks (bytes ++ block) (next table f block) (going_next bytes f block g))

  module _ (blocks : List (List ℕ)) where
    going : Going (file blocks) (fed table at_start blocks)
    going = going_all blocks [] at_start (record { reached = counted_start s nodes values; last = inl (omega arith) })

    tally_is : (count_file table blocks).tally ≡ tally_after none_read s nodes values (file blocks)
    tally_is = counted_end s nodes values going.reached going.last

    cell_is : (a i : ℕ) → i < 63 → cell_count (count_file table blocks).tally a i ≡ cell_total s nodes values (file blocks) a i
    cell_is a i l = ap (λ (u : Tally). cell_count u a i) tally_is ∙ cell_total_lem s nodes values (file blocks) a i l

    number_is : (k : ℕ) → suc k < 21 → number_count (count_file table blocks).tally (suc k) ≡ number_total s nodes values (file blocks) (suc k)
    number_is k l = ap (λ (u : Tally). number_count u (suc k)) tally_is ∙ number_total_lem s nodes values (file blocks) (suc k) (omega arith) l

    records_is : (count_file table blocks).tally.records ≡ length (records_read s (file blocks))
    records_is = ap (λ (u : Tally). u.records) tally_is ∙ records_total s nodes values (file blocks)

    limit_is : (count_file table blocks).answer ≡ (when (ltb (most_records * record_size s) (length (file blocks))) (refusal 17 0 0) then fine)
    unfolding goes_past
    limit_is = counted_told s nodes values going.reached going.last

    file-one_by_one : (count_file table blocks).tally ≡ one_by_one table none_read (records_read s (file blocks))
    unfolding tally_after none_read
    file-one_by_one = tally_is ∙ one_by_one_lem (records_read s (file blocks)) none_read

    adds_up : (a : ℕ) → a < axes table → get_or (counts table) a 0 ≤ 64
        → sum_to (cell_count (count_file table blocks).tally a) (get_or (counts table) a 0 - 1) + sum_to (λ k. number_count (count_file table blocks).tally (suc k)) 20
        ≡ (count_file table blocks).tally.records
    adds_up a l few =
        ap₂ (λ (x y : ℕ). x + y)
        (same_sums (cell_count (count_file table blocks).tally a) (cell_total s nodes values (file blocks) a) (get_or (counts table) a 0 - 1) (λ i m. cell_is a i (omega arith)))
        (same_sums (λ k. number_count (count_file table blocks).tally (suc k)) (λ k. number_total s nodes values (file blocks) (suc k)) 20 (λ k m. number_is k (omega arith)))
        ∙ axis_sums s nodes values a l (file blocks)
        ∙ sym records_is

-- the place of number 0 counts nothing
no_zero : (table : Table) (t : Tally) (rec : List ℕ) → Sized t → number_count (tallied t (outcome_of table.shape table.nodes.list table.values.list rec)) 0 ≡ number_count t 0
unfolding refused_as
no_zero table t rec z = tallied_number t o z 0 (omega arith) ∙ ap (λ (x : Bool). more_if x (number_count t 0)) (never (eqb o.number 0))
  where
    o : Outcome
    o = outcome_of table.shape table.nodes.list table.values.list rec

    never : (b : Bool) → not b && b ≡ false
    never true = refl
    never false = refl

pub counting : Counting
unfolding block_tally
counting = record {
  records_cut = λ table f i h l. records_at (record_size table.shape) i most_records f h l;
  no_other_records = λ table f i h. records_within (record_size table.shape) i most_records f h;
  lookup_reads = λ table f g. lines_are table (passes table g).frame most_records f;
  short_counts_under_three = λ table rec g l. short_record table.shape table.nodes.list table.values.list rec (passes table g).frame l;
  cells_by_search = λ table rec a i z l. (
    located table rec z a l,
    fell_accepted table.shape table.nodes.list table.values.list rec a i z l ∙ ap (λ (c : ℕ). eqb c i) (found table rec z a l),
  );
  in_no_other_cell = no_cell;
  numbers_by_answer = number_told;
  counts_any = λ table t rec h. ap (λ (r : TallyAnswer). r.answer) (on-more table t rec h);
  counts_no_more = no_more;
  records_more = λ table t rec h. ap (λ (u : Tally). u.records) (after table t rec h) ∙ tallied_records t (outcome_of table.shape table.nodes.list table.values.list rec);
  cells_more_lem = λ table t rec z h. cell_more_lem table t rec h z;
  numbers_more = λ table t rec z h. number_more_lem table t rec h z;
  no_number_zero = λ table t rec z. either_way table t rec (λ u. number_count u 0 ≡ number_count t 0) (no_zero table t rec z) refl;
  sized_still = λ table t rec z. either_way table t rec Sized (tallied_sized t (outcome_of table.shape table.nodes.list table.values.list rec) z) z;
  blocks_one_by_one = λ table t block. one_by_one_lem table _ t;
  blocks_use = λ table t block. (refl, block_used t table.shape table.nodes.list table.values.list block);
  blocks_leave = λ table t block. block_left t table.shape table.nodes.list table.values.list block;
  files_one_by_one = file-one_by_one;
  cells_are = cell_is;
  numbers_are = number_is;
  records_are = records_is;
  limit_told = limit_is;
  axis_adds_up = λ table f a l. axis_sums table.shape table.nodes.list table.values.list a l f;
  tally_adds_up = adds_up;
}
