-- Turn after turn: what the loop over the blocks keeps, and what is counted at its end. Assumes nothing.
use mathlib.Core.Path.{◌≡◌, refl, sym, ap, ap₂, ◌∙◌}
use mathlib.Core.Bool.{Bool, true, false}
use mathlib.Core.Logic.{◌⊎◌, inl, inr, ⊎_elim}
use mathlib.Core.List.{List, [], ◌++◌}
use Prim.Native.Nat.{ℕ, ◌+◌, ◌-◌, ◌*◌, ◌≤◌, ◌<◌}
use native.Mathlib.Nat.{mul-le-mul_right}
use native.Mathlib.Omega.{arith}
use lib.Ieee.{Float}
use lib.ListN.{length, take, length-append}
use lib.Seq.{length-take-le}
use Rattle.answer.proofs.Orders.{clash}
use Rattle.layout.specs.declared.Shape.{Shape}
use Rattle.image.specs.Fields.{shape_of}
use Rattle.image.specs.Load.{load_fault}
use Rattle.answer.specs.Faults.{good}
use Rattle.checks.specs.Numbers.{most_records}
use Rattle.tally.specs.declared.Tally.{Tally}
use Rattle.tally.specs.Counts.{none_read}
use Rattle.ninterp.specs.Records.{record_size}
use Rattle.ninterp.proofs.CoverageBlocks.{block_left, block_records}
use Rattle.ninterp.proofs.CountEnds.{counted_start, counted_block}
use Rattle.ninterp.proofs.Afters.{Counted}
use Rattle.program.specs.Coverage.{coverage_report, last_report, report_by, coverage_of}
use Rattle.program.specs.Whole.{TableOf, none_counted}
use Rattle.program.specs.declared.Counts.{Counts}
use Rattle.program.specs.declared.print.Unprinted.{Unprinted}
use Rattle.std.specs.Prelude.{Result, Ok, Err, OnOk}
use Rattle.program.proofs.front.Loads.{table_shape, four_axes}
use Rattle.program.proofs.turns.Turning.{turns_left, fewer}
use Rattle.program.proofs.run.Laws.{run_loaded}
use Rattle.program.proofs.coverage.Reports.{report_last}
use Rattle.coverage.specs.Whole.{Whole, Reported}
use Rattle.coverage.specs.Scaffolding.{Room, Stepped, Ended}
use Rattle.coverage.specs.declared.feed.Next.{Next}

-- what holds, holds where the output stands
stands : {P : Type 0} (r : Result (Unit {0}) Unprinted) → P → OnOk r P
stands (Ok x) h = h
stands (Err e) h = tt

-- Between two turns. For some bytes, as many as were read so far: t counts those before what is held. Of each turn no more is asked for
-- than the buffer has, so the sums fit.
pub record Feeding (s : Shape) (nodes values : List Float) (buf : List ℕ) (t : Tally) (held : ℕ) (n : Counts) (go : Bool) : Type 0 where
  pub long : length buf ≡ 32768
  pub holds : held ≤ length buf
  pub bytes : List ℕ
  pub all_read : length bytes ≡ n.read
  pub counted : Counted s nodes values bytes t (take held buf)
  pub last : (length (take held buf) < record_size s) ⊎ (most_records ≤ t.records)
  pub filled : n.read ≤ n.asked
  pub ends : go ≡ false → (n.read < n.asked) ⊎ (record_size s ≤ held)
  pub few : n.asked + 32768 * turns_left (most_records - t.records) go ≤ 32768 * 1000001

-- a record has room
pub feed_room : {img : List ℕ} {s : Shape} {nodes values : List Float} {buf : List ℕ} {t : Tally} {held : ℕ} {n : Counts} {go : Bool}
    → TableOf img s nodes values → Feeding s nodes values buf t held n go → Room s (1 + 8 * s.axes) held buf n
feed_room t g = record {
  sized = refl;
  holds = g.holds;
  whole = omega (arith, four_axes t, g.long);
  asked = omega (arith, g.few, g.long);
  read = omega (arith, g.filled, g.few, g.long);
}

pub feed_start : (s : Shape) (nodes values : List Float) (buf : List ℕ) (t : Tally) → t ≡ none_read → length buf ≡ 32768 → (n : Counts) → n ≡ none_counted → Feeding s nodes values buf t 0 n true
feed_start s nodes values buf t e l n q = record {
  long = l;
  holds = omega arith;
  bytes = [];
  all_read = sym (ap (λ (x : Counts). x.read) q);
  counted = rw e (counted_start s nodes values);
  last = inl (omega arith);
  filled = omega (arith, ap (λ (x : Counts). x.read) q);
  ends = λ h. clash true refl h;
  few = omega (arith, ap (λ (x : Counts). x.asked) q);
}

-- a turn
module _ {s : Shape} {nodes values : List Float} {held : ℕ} {t : Tally} {buf after : List ℕ} {before counts : Counts} {n : Next} {go : Bool}
    (g : Feeding s nodes values buf t held before go) (p : Stepped s nodes values held t buf after before counts n) (e : go ≡ true) where
  next : Counted s nodes values (g.bytes ++ p.block) n.tally (take n.held after)
  next = rw (p.counted, p.left) (counted_block s nodes values g.counted p.block)

  pub turn_fewer : turns_left (most_records - n.tally.records) n.go < turns_left (most_records - t.records) go
  turn_fewer =
      fewer (most_records - t.records) (most_records - n.tally.records) go n.go e
      (omega (arith, ap (λ (u : Tally). u.records) p.counted, block_records t s nodes values (take held buf ++ p.block)))
      (λ h. omega (arith, p.goes h, next.within))

  pub feed_step : length after ≡ length buf → Feeding s nodes values after n.tally n.held counts n.go
  feed_step l = record {
    long = l ∙ g.long;
    holds = p.holds;
    bytes = g.bytes ++ p.block;
    all_read = omega (arith, length-append g.bytes p.block, g.all_read, p.read);
    counted = next;
    last = rw (p.counted, p.left) (block_left t s nodes values (take held buf ++ p.block));
    filled = omega (arith, g.filled, p.filled, p.asked, p.read);
    ends = λ h. ⊎_elim (λ k. inl (omega (arith, k, g.filled, p.asked, p.read))) inr (p.stops h);
    few = omega (arith, turn_fewer, g.few, g.long, p.asked);
  }

-- ---- after the last turn
module _ {img : List ℕ} {s : Shape} {nodes values : List Float} (i : TableOf img s nodes values) {buf : List ℕ} {u : Tally} {held : ℕ} {n : Counts} {go : Bool}
    (g : Feeding s nodes values buf u held n go) where
  -- what is put is the report of the bytes that were read
  all_counted : last_report u s nodes values (take held buf) ≡ coverage_of (img ++ g.bytes)
  all_counted =
      report_last s nodes values (table_shape i) g.counted g.last
      ∙ ap (λ (x : Shape). coverage_report x nodes values g.bytes) i.shape_is
      ∙ ap₂ (λ (ns vs : List Float). coverage_report (shape_of img) ns vs g.bytes) i.nodes_are i.values_are
      ∙ sym (run_loaded img g.bytes i.loads report_by)

  pub feed_report : Reported img n.read (last_report u s nodes values (take held buf))
  feed_report = record { records = g.bytes; all_read = g.all_read; right = all_counted }

  -- it ends where the input does, or a byte after the last record that may be counted
  feed_ends : go ≡ false → (n.read < n.asked) ⊎ (most_records * record_size (shape_of img) + 1 ≤ n.read)
  feed_ends h = ⊎_elim inl (λ k. inr (enough k)) (g.ends h)
    where
      same : record_size s ≡ record_size (shape_of img)
      same = ap record_size i.shape_is

      enough : record_size s ≤ held → most_records * record_size (shape_of img) + 1 ≤ n.read
      enough k =
          let m : length (take held buf) ≡ held = length-take-le held buf g.holds in
          let l : most_records ≤ u.records = ⊎_elim (λ q. absurd (omega (arith, q, m, k))) (λ q. q) g.last in
          omega (arith, m, k, g.counted.spent, g.all_read, mul-le-mul_right (record_size s) l, same)

  pub feed_whole : go ≡ false → {end : Counts} (r : Result (Unit {0}) Unprinted) → Ended (length (last_report u s nodes values (take held buf))) n end → Whole img end r
  feed_whole h r e = record {
    records = g.bytes;
    all_read = g.all_read ∙ sym e.read;
    all_printed = stands r (e.told ∙ ap length all_counted);
    refused_ends = λ z. clash (good (load_fault img 256 4096)) i.loads z;
    input_ends = λ _. stands r (⊎_elim (λ k. inl (omega (arith, k, e.read, e.asked))) (λ k. inr (omega (arith, k, e.read))) (feed_ends h));
  }
