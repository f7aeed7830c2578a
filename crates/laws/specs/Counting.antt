-- THE PAGE OF PROMISES, request C-11: what counting owes. Nothing but statements; `counting` (laws/proofs/Counting.antt) inhabits the record at the end.
use Rattle.std.specs.Prelude.{◌≡◌, false, cond, ◌⊎◌, List, [], ◌∷◌, ◌++◌, ℕ, suc, ◌+◌, ◌-◌, ◌*◌, ◌≤◌, ◌<◌, min, ltb, eqb, length, take, drop, get_or}
use Rattle.std.specs.Float.{nan}
use Rattle.answer.specs.Faults.{refusal, when}
use Rattle.answer.specs.Answer.{refused, fine, ◌then◌}
use Rattle.checks.specs.Numbers.{most_records}
use Rattle.lines.specs.Line.{line_of}
use Rattle.lines.specs.Stream.{lines_of}
use Rattle.tally.specs.declared.Tally.{Tally}
use Rattle.tally.specs.declared.TallyAnswer.{TallyAnswer}
use Rattle.tally.specs.Counts.{Sized, none_read, cell_count, number_count, sum_to}
use Rattle.utils.specs.Calls.{locate_lower_index}
use Rattle.ninterp.specs.Records.{record_size, record_readings, record_answer, record_rule}
use Rattle.ninterp.specs.Coverage.{records_in, records_read, fell_in, refused_by, cell_total, number_total}
use Rattle.ninterp.specs.Counting.{counted_record, counted_rest, block_count, block_tally}
use Rattle.ninterp.specs.declared.records.count.BlockTally.{BlockTally}
use Rattle.laws.specs.Calls.{Table, axes, counts, axis, on}
use Rattle.laws.specs.Promises.{Accepted}

-- ==== The calls, by their contracts (board/src/tallies.rt, ninterp/src/records/count.rt)

-- a record of a table counted: the answer, and the tally that was lent as it is left
abbrev pub count : Table → Tally → List ℕ → TallyAnswer
count table t rec = on table (counted_record t) rec

-- "one reading at a time": the tally after one record and the next
unfoldable pub one_by_one : Table → Tally → List (List ℕ) → Tally
one_by_one table t [] = t
one_by_one table t (rec ∷ recs) = one_by_one table (count table t rec).tally recs

-- the whole records of a block counted: the tally after them, and how many bytes they have
abbrev pub count_block : Table → Tally → List ℕ → BlockTally
count_block table t block = on table (block_tally t) block

-- a file that comes in blocks, cut anywhere: what is left of one is held, and stands before the next
pub record Fed : Type 0 where
  pub tally : Tally
  pub held : List ℕ

abbrev pub next : Table → Fed → List ℕ → Fed
next table f block = record {
  tally = (count_block table f.tally (f.held ++ block)).tally;
  held = drop (count_block table f.tally (f.held ++ block)).used (f.held ++ block);
}

unfoldable pub fed : Table → Fed → List (List ℕ) → Fed
fed table f [] = f
fed table f (block ∷ blocks) = fed table (next table f block) blocks

-- from nothing read to the file's end, where bytes that are held are one record more
abbrev pub at_start : Fed
at_start = record { tally = none_read; held = [] }

abbrev pub count_file : Table → List (List ℕ) → TallyAnswer
count_file table blocks = on table (counted_rest (fed table at_start blocks).tally) (fed table at_start blocks).held

-- the blocks joined
unfoldable pub file : List (List ℕ) → List ℕ
file [] = []
file (block ∷ blocks) = block ++ file blocks

-- what `lookup` prints of each of some records
unfoldable pub answers : Table → List (List ℕ) → List ℕ
answers table [] = []
answers table (rec ∷ recs) = line_of (on table record_answer rec) ++ answers table recs

-- ==== Request C-11
pub record Counting : Type 0 where
  -- ---- which records: "a recorded file of lookup records"; "It reads what `lookup` reads"

  -- record i has the bytes of its place, the last one what is left; they are the first 1,000,000
  pub records_cut : (table : Table) (f : List ℕ) (i : ℕ) → i < most_records → i * record_size table.shape < length f
      → (i < length (records_read table.shape f))
      × (get_or (records_read table.shape f) i [] ≡ take (record_size table.shape) (drop (i * record_size table.shape) f))
  pub no_other_records : (table : Table) (f : List ℕ) (i : ℕ) → i < length (records_read table.shape f)
      → (i < most_records) × (i * record_size table.shape < length f)
  -- they are those that `lookup` prints a line for; "A short last record counts under 3"
  pub lookup_reads : (table : Table) (f : List ℕ) → Accepted table
      → lines_of (on table record_rule) most_records f ≡ answers table (records_read table.shape f)
  pub short_counts_under_three : (table : Table) (rec : List ℕ) → Accepted table → length rec < record_size table.shape
      → on table record_answer rec ≡ refused (refusal 3 0 2)
  -- "(by `locate_lower_index`) the accepted readings": a record that is answered 0 is in the cell that the primitive names, on each axis of the table
  pub cells_by_search : (table : Table) (rec : List ℕ) (a i : ℕ) → (on table record_answer rec).number ≡ 0 → a < axes table
      → ((locate_lower_index (axis table a) (get_or (record_readings table.shape rec) a nan)).answer ≡ fine)
      × (on table fell_in a i rec ≡ eqb (locate_lower_index (axis table a) (get_or (record_readings table.shape rec) a nan)).index i)
  -- "Only records answered 0 count in cells", and on no other axis
  pub in_no_other_cell : (table : Table) (rec : List ℕ) (a i : ℕ) → ((on table record_answer rec).number ≡ 0 → ⊥) ⊎ (axes table ≤ a) → on table fell_in a i rec ≡ false
  -- "a count per refusal number"
  pub numbers_by_answer : (table : Table) (rec : List ℕ) (k : ℕ) → on table refused_by k rec ≡ eqb (on table record_answer rec).number k
  -- ---- one record

  -- "Counting a record that the lookup refuses is a success of the counting call": so is every record before the limit, whatever the lookup answers
  pub counts_any : (table : Table) (t : Tally) (rec : List ℕ) → t.records < most_records → (count table t rec).answer ≡ fine
  -- "that call's own 17 leaves the tally as it was": given exactly where 1,000,000 were read
  pub counts_no_more : (table : Table) (t : Tally) (rec : List ℕ) → most_records ≤ t.records
      → count table t rec ≡ record { answer = refused (refusal 17 0 0); tally = t }
  -- one record more was read, and each count is one more exactly where the record is of its kind; a largest u32 stays
  pub records_more : (table : Table) (t : Tally) (rec : List ℕ) → t.records < most_records → (count table t rec).tally.records ≡ t.records + 1
  pub cells_more_lem : (table : Table) (t : Tally) (rec : List ℕ) → Sized t → t.records < most_records
      → (a i : ℕ) → a < 4 → i < 63 → cell_count t a i ≤ 4294967295
      → cell_count (count table t rec).tally a i ≡ min 4294967295 (cell_count t a i + cond (on table fell_in a i rec) 1 0)
  pub numbers_more : (table : Table) (t : Tally) (rec : List ℕ) → Sized t → t.records < most_records
      → (k : ℕ) → suc k < 21 → number_count t (suc k) ≤ 4294967295
      → number_count (count table t rec).tally (suc k) ≡ min 4294967295 (number_count t (suc k) + cond (on table refused_by (suc k) rec) 1 0)
  pub no_number_zero : (table : Table) (t : Tally) (rec : List ℕ) → Sized t → number_count (count table t rec).tally 0 ≡ number_count t 0
  pub sized_still : (table : Table) (t : Tally) (rec : List ℕ) → Sized t → Sized (count table t rec).tally
  -- ---- a block, and a file, whichever way it is cut into blocks

  pub blocks_one_by_one : (table : Table) (t : Tally) (block : List ℕ)
      → (count_block table t block).tally ≡ one_by_one table t (records_in (record_size table.shape) (block_count t table.shape block) block)
  pub blocks_use : (table : Table) (t : Tally) (block : List ℕ)
      → ((count_block table t block).used ≡ block_count t table.shape block * record_size table.shape) × ((count_block table t block).used ≤ length block)
  pub blocks_leave : (table : Table) (t : Tally) (block : List ℕ)
      → (length (drop (count_block table t block).used block) < record_size table.shape) ⊎ (most_records ≤ (count_block table t block).tally.records)
  pub files_one_by_one : (table : Table) (blocks : List (List ℕ)) → (count_file table blocks).tally ≡ one_by_one table none_read (records_read table.shape (file blocks))
  -- "each count equals the number of such records in the file, worked from the records themselves"
  pub cells_are : (table : Table) (blocks : List (List ℕ)) (a i : ℕ) → i < 63
      → cell_count (count_file table blocks).tally a i ≡ on table cell_total (file blocks) a i
  pub numbers_are : (table : Table) (blocks : List (List ℕ)) (k : ℕ) → suc k < 21
      → number_count (count_file table blocks).tally (suc k) ≡ on table number_total (file blocks) (suc k)
  pub records_are : (table : Table) (blocks : List (List ℕ)) → (count_file table blocks).tally.records ≡ length (records_read table.shape (file blocks))
  -- "Refusals: 17, axis 0, place 0, at any byte after record 1,000,000"
  pub limit_told : (table : Table) (blocks : List (List ℕ))
      → (count_file table blocks).answer ≡ (when (ltb (most_records * record_size table.shape) (length (file blocks))) (refusal 17 0 0) then fine)
  -- "On each axis the cell counts plus the refused counts equal the records read"
  pub axis_adds_up : (table : Table) (f : List ℕ) (a : ℕ) → a < axes table
      → sum_to (on table cell_total f a) (get_or (counts table) a 0 - 1) + sum_to (λ k. on table number_total f (suc k)) 20
      ≡ length (records_read table.shape f)
  pub tally_adds_up : (table : Table) (blocks : List (List ℕ)) (a : ℕ) → a < axes table → get_or (counts table) a 0 ≤ 64
      → sum_to (cell_count (count_file table blocks).tally a) (get_or (counts table) a 0 - 1) + sum_to (λ k. number_count (count_file table blocks).tally (suc k)) 20
      ≡ (count_file table blocks).tally.records
