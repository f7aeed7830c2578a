-- What is counted of the records that follow an image that loads. Assumes nothing.
use mathlib.Core.Path.{◌≡◌, sym, ap, ◌∙◌}
use mathlib.Core.Bool.{Bool, false}
use mathlib.Core.Logic.{inl, inr, ⊎_elim}
use mathlib.Core.List.{List, [], ◌++◌, append-nil}
use Prim.Native.Nat.{ℕ}
use native.Mathlib.Omega.{arith}
use lib.Ieee.{Float}
use lib.ListN.{length, take, length-append}
use Rattle.std.specs.Prelude.{Result, Ok, Err, IsErr, OnOk}
use Rattle.std.proofs.lemmas.Result.{IfOk-from_err}
use Rattle.answer.specs.Faults.{good}
use Rattle.answer.proofs.Orders.{clash}
use Rattle.layout.specs.declared.Shape.{Shape}
use Rattle.image.specs.Load.{load_fault}
use Rattle.lines.specs.Stream.{lines_of}
use Rattle.program.specs.Run.{rule_of, lines_by, run_of}
use Rattle.checks.specs.Numbers.{most_records}
use Rattle.program.specs.declared.Counts.{Counts}
use Rattle.program.specs.declared.print.Unprinted.{Unprinted}
use Rattle.program.proofs.run.Laws.{run_loaded}
use Rattle.program.specs.Whole.{TableOf}
use Rattle.lookup.specs.Whole.{Whole}
use Rattle.lookup.specs.Scaffolding.{Ended}
use Rattle.lookup.proofs.feed.Loops.{Feeding, feed_ends}

-- what holds, holds where the output stands
stands : {P : Type 0} (r : Result (Unit {0}) Unprinted) → P → OnOk r P
stands (Ok x) h = h
stands (Err e) h = tt

module _ {img : List ℕ} {shape : Shape} {nodes values : List Float} (t : TableOf img shape nodes values)
    {buf out : List ℕ} {held left : ℕ} {n : Counts} {go : Bool} {printed : Result ℕ Unprinted} (g : Feeding (rule_of img) buf out held left n go printed) where
  not_refused : {A : Type 0} → good (load_fault img 256 4096) ≡ false → A
  not_refused h = clash (good (load_fault img 256 4096)) t.loads h

  -- where a write failed
  pub failed_whole : (r : Result (Unit {0}) Unprinted) → IsErr r → Whole img n r
  failed_whole r e = record {
    records = g.reached.bytes;
    all_read = g.reached.counted;
    all_printed = IfOk-from_err r _ e;
    refused_ends = λ z. not_refused z;
    input_ends = λ _. IfOk-from_err r _ e;
  }

  -- with what is printed of the rest, all is printed
  pub ended_whole : go ≡ false → {m wide : ℕ} → printed ≡ Ok m → {last : Counts} (r : Result (Unit {0}) Unprinted)
      → Ended (length (lines_of (rule_of img) left (take held buf))) wide n last → Whole img last r
  ended_whole stops fine r e = record {
    records = g.reached.bytes;
    all_read = g.reached.counted ∙ sym e.read;
    all_printed = stands r (omega (arith, e.printed, g.reached.told, ap length all, length-append g.reached.text (lines_of (rule_of img) left (take held buf))));
    refused_ends = λ z. not_refused z;
    input_ends = λ _. stands r (⊎_elim (λ k. inl (omega (arith, k, e.read, e.asked))) (λ k. inr (omega (arith, k, e.read))) (feed_ends g stops fine));
  }
    where
      all : run_of (img ++ g.reached.bytes) ≡ g.reached.text ++ lines_of (rule_of img) left (take held buf)
      all =
          run_loaded img g.reached.bytes t.loads lines_by
          ∙ ap (lines_of (rule_of img) most_records) (sym (append-nil g.reached.bytes))
          ∙ g.reached.right []
          ∙ ap (λ (l : List ℕ). g.reached.text ++ lines_of (rule_of img) left l) (append-nil (take held buf))
