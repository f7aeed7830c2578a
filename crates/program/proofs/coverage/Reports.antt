-- The report of a tally is the report of the records that were counted in it. Assumes nothing.
use mathlib.Core.Path.{◌≡◌, ap, ◌∙◌}
use mathlib.Core.Bool.{Bool, true, false, not}
use mathlib.Core.Logic.{◌⊎◌}
use mathlib.Core.List.{List}
use Prim.Native.Nat.{ℕ, ◌-◌, ◌≤◌, ◌<◌}
use native.Mathlib.Omega.{arith}
use lib.Dec.{eqb}
use lib.Ieee.{Float}
use lib.ListN.{length, take, drop, get_or, length-take, length-drop}
use lib.Seq.{get_or-take, take_all}
use Rattle.answer.specs.Faults.{refusal, no_fault, good, when}
use Rattle.answer.specs.Answer.{refused, answered, fine, ◌then◌}
use Rattle.answer.specs.declared.Answer.{Answer}
use Rattle.layout.specs.Shape.{counts_of}
use Rattle.layout.specs.declared.Shape.{Shape}
use Rattle.checks.specs.Numbers.{most_records}
use Rattle.checks.specs.Shapes.{shape_fault}
use Rattle.checks.proofs.shapes.Frames.{shape_few}
use Rattle.lines.specs.Report.{cell_at, report_most, report_into, report_end}
use Rattle.lines.proofs.Reports.{tally_report_lem, report_same, report_wrote}
use Rattle.tally.specs.declared.Tally.{Tally}
use Rattle.tally.specs.declared.TallyAnswer.{TallyAnswer}
use Rattle.tally.specs.Counts.{none_read, cell_count, number_count}
use Rattle.ninterp.specs.Records.{record_size}
use Rattle.ninterp.specs.Coverage.{cell_total, number_total, goes_past}
use Rattle.ninterp.specs.Counting.{block_tally, counted_rest}
use Rattle.ninterp.specs.declared.records.count.BlockTally.{BlockTally}
use Rattle.ninterp.proofs.Coverage.{cell_total_lem, number_total_lem}
use Rattle.ninterp.proofs.CoverageBlocks.{block_left}
use Rattle.ninterp.proofs.CountEnds.{counted_start, counted_block, counted_end, counted_told}
use Rattle.ninterp.proofs.Afters.{tally_after, Counted}
use Rattle.program.specs.Coverage.{coverage_report, report_on, last_report}
use Rattle.program.specs.Scaffolding.{Fronted}
use Rattle.program.proofs.run.Places.{wrote_fronted}

-- an answer of 17 or none tells whether the input went past the limit
told_past : (a : Answer) (b : Bool) → a ≡ (when b (refusal 17 0 0) then fine) → not (eqb a.number 0) ≡ b
unfolding when ◌then◌ good no_fault refusal refused fine answered
told_past a true e = ap (λ (x : Answer). not (eqb x.number 0)) e
told_past a false e = ap (λ (x : Answer). not (eqb x.number 0)) e

-- what is put at the input's end
pub last-put : (t : Tally) (s : Shape) (nodes values : List Float) (rest : List ℕ) (a : TallyAnswer) → a ≡ counted_rest t s nodes values rest
    → report_on s a.tally (not (eqb a.answer.number 0)) ≡ last_report t s nodes values rest
unfolding last_report
last-put t s nodes values rest a e = ap (λ (x : TallyAnswer). report_on s x.tally (not (eqb x.answer.number 0))) e

-- a table whose shape passes 1 and 2
module _ (s : Shape) (nodes values : List Float) (h : good (shape_fault s) ≡ true) where
  pub report_counted : (bytes : List ℕ) (t : Tally) (past : Bool) → t ≡ tally_after none_read s nodes values bytes → past ≡ goes_past s bytes
      → report_on s t past ≡ coverage_report s nodes values bytes
  unfolding report_on coverage_report
  report_counted bytes t past e p =
      tally_report_lem s.axes s.counts t.cells t.numbers past few
      ∙ report_same (counts_of s) (cell_at t.cells) (cell_total s nodes values bytes) (number_count t) (number_total s nodes values bytes) past (goes_past s bytes) cells numbers p
    where
      axis : (a : ℕ) → a < length (counts_of s) → a < s.axes
      axis a l = omega (arith, length-take s.axes s.counts)

      few : (a : ℕ) → a < length (counts_of s) → get_or (counts_of s) a 0 ≤ 64
      few a l = omega (arith, get_or-take s.axes s.counts a 0 (axis a l), shape_few s h a (axis a l))

      cells : (a i : ℕ) → a < length (counts_of s) → i < get_or (counts_of s) a 0 - 1 → cell_at t.cells a i ≡ cell_total s nodes values bytes a i
      cells a i l m = ap (λ (u : Tally). cell_count u a i) e ∙ cell_total_lem s nodes values bytes a i (omega (arith, few a l))

      numbers : (k : ℕ) → 1 ≤ k → k ≤ 20 → number_count t k ≡ number_total s nodes values bytes k
      numbers k l m = ap (λ (u : Tally). number_count u k) e ∙ number_total_lem s nodes values bytes k l (omega arith)

  -- at the input's end
  pub report_last : {bytes rest : List ℕ} {t : Tally} → Counted s nodes values bytes t rest → (length rest < record_size s) ⊎ (most_records ≤ t.records)
      → last_report t s nodes values rest ≡ coverage_report s nodes values bytes
  unfolding last_report
  report_last {bytes} {rest} {t} g last =
      report_counted bytes (counted_rest t s nodes values rest).tally (not (eqb (counted_rest t s nodes values rest).answer.number 0)) (counted_end s nodes values g last)
      (told_past (counted_rest t s nodes values rest).answer (goes_past s bytes) (counted_told s nodes values g last))

  -- ---- all records at once
  pub report_fronted : (records : List ℕ) (done : BlockTally) {d e : List ℕ} {r : ℕ} → done ≡ block_tally none_read s nodes values records → length d ≡ report_most
      → r ≡ report_end (last_report done.tally s nodes values (take (length records - done.used) (drop done.used records))) d
      → e ≡ report_into (last_report done.tally s nodes values (take (length records - done.used) (drop done.used records))) d
      → Fronted (coverage_report s nodes values records) d e r
  report_fronted records done {d} {e} {r} q l p w = wrote_fronted (report_wrote (coverage_report s nodes values records) d (omega (arith, l)) (p ∙ ap (λ (x : List ℕ). report_end x d) all) (w ∙ ap (λ (x : List ℕ). report_into x d) all))
    where
      whole : take (length records - done.used) (drop done.used records) ≡ drop done.used records
      whole = take_all (length records - done.used) (drop done.used records) (omega (arith, length-drop done.used records))

      all : last_report done.tally s nodes values (take (length records - done.used) (drop done.used records)) ≡ coverage_report s nodes values records
      all =
          ap (last_report done.tally s nodes values) whole
          ∙ ap (λ (b : BlockTally). last_report b.tally s nodes values (drop b.used records)) q
          ∙ report_last (counted_block s nodes values (counted_start s nodes values) records) (block_left none_read s nodes values records)
