-- A record's line, and the turn of a loop over a block of records. Assumes nothing.
use Rattle.std.proofs.Common.{Bor, Option, Some, None}
use Rattle.std.specs.Iterator.Adapters.{take_source, take_count, take_steps}
use Rattle.std.specs.Slice.Iter.{chunks_exact_rest, chunks_exact_size, chunks_exact_steps}
use Rattle.std.specs.declared.iter.Take.{Take}
use Rattle.std.specs.declared.slice.ChunksExact.{ChunksExact}
use Rattle.ninterp.proofs.Chunks.{Chunked, Chunk, chunk_here, chunk_next, chunk_last}
use mathlib.Core.Path.{◌≡◌, sym, ap, ◌∙◌, subst}
use mathlib.Core.Logic.{inl, inr, ⊎_elim}
use mathlib.Core.List.{List}
use Prim.Native.Nat.{ℕ, ◌+◌, ◌-◌, ◌≤◌, ◌<◌}
use native.Mathlib.Omega.{arith}
use lib.ListN.{length, take, drop, length-drop}
use lib.Ieee.{Float}
use Rattle.answer.specs.declared.Answer.{Answer}
use Rattle.layout.specs.declared.Shape.{Shape}
use Rattle.lines.specs.Line.{line_of, longest}
use Rattle.lines.specs.Put.{line_into, line_end}
use Rattle.lines.specs.Scaffolding.{Wrote}
use Rattle.lines.specs.Stream.{Block}
use Rattle.lines.proofs.Shows.{line_wrote}
use Rattle.lines.proofs.Blocks.{Going, go_start, go_turn, go_done}
use Rattle.ninterp.specs.Records.{record_answer, record_rule, record_size}

module _ (s : Shape) (nodes values : List Float) where
  pub record_wrote : (rec : List ℕ) (a : Answer) (d : List ℕ) (to : ℕ) {e : List ℕ} {r : ℕ} → a ≡ record_answer s nodes values rec
      → to + longest ≤ length d → r ≡ line_end a d to → e ≡ line_into a d to → Wrote d to (line_of (record_answer s nodes values rec)) e r
  record_wrote rec a d to {e} {r} q room p b = subst (λ (x : Answer). Wrote d to (line_of x) e r) q (line_wrote a d to room p b)

  -- the loop over a block: `count` records are answered, and their lines are put
  pub record Answering (size most : ℕ) (records d e : List ℕ) (count written : ℕ) (it : Take (ChunksExact ℕ)) : Type 0 where
    pub at : ℕ
    pub going : Going (record_rule s nodes values) most records d e count at written
    pub chunks : Chunked size records at (most - count) it

  module _ (size : ℕ) (same : size ≡ record_size s) where
    pub block_begin : (most : ℕ) (records d : List ℕ) (it : Take (ChunksExact ℕ)) → Chunked size records 0 most it → Answering size most records d d 0 0 it
    block_begin most records d it k = record {
      at = 0;
      going = go_start (record_rule s nodes values) most records d;
      chunks = record { rest = k.rest; sized = k.sized; count = omega (arith, k.count) };
    }

    module _ {most : ℕ} {records d e : List ℕ} {count written : ℕ} {it : Take (ChunksExact ℕ)} (g : Answering size most records d e count written it) where
      pub block_full : length e - written < longest → Block (record_rule s nodes values) most records d e count written
      block_full h = go_done g.going (inr (inr (omega (arith, h, g.going.room, g.going.kept))))

      module _ (t : Take (ChunksExact ℕ)) (r : Option (Bor (List ℕ))) (h : take_steps chunks_exact_steps it r t) where
        pub block_last : r ≡ None → Block (record_rule s nodes values) most records d e count written
        block_last q = go_done g.going (⊎_elim (λ z. inl (omega (arith, z))) (λ l. inr (inl (omega (arith, same, l, length-drop g.at records, g.going.whole)))) (chunk_last it t r g.chunks h q))

        module _ (x : Bor (List ℕ)) (q : r ≡ Some x) where
          here : Chunk size records g.at (most - count) x.now
          here = chunk_here it t r g.chunks h x q

          block_more : count < most
          block_more = omega (arith, here.some)

          pub block_turn : {f : List ℕ} {n : ℕ} → longest ≤ length e - written → Wrote e written (line_of (record_answer s nodes values x.now)) f n → n ≤ written + longest → length f ≡ length e
              → Answering size most records d f (count + 1) n t
          block_turn {f} {n} room w small kept = record {
            at = g.at + size;
            going =
                subst (λ (k : ℕ). Going (record_rule s nodes values) most records d f (count + 1) (g.at + k) n) (sym same)
                (go_turn g.going block_more (omega (arith, same, here.fits, length-drop g.at records)) room (subst (λ (xs : List ℕ). Wrote e written (line_of (record_answer s nodes values xs)) f n) (here.bytes ∙ ap (λ (k : ℕ). take k (drop g.at records)) same) w) small kept);
            chunks = subst (λ (k : ℕ). Chunked size records (g.at + size) k t) (let one : most - count - 1 ≡ most - (count + 1) = omega arith in one) (chunk_next it t r g.chunks h x q);
          }

  -- no whole record at all
  pub block_none : (most : ℕ) (records d : List ℕ) → length records < record_size s → Block (record_rule s nodes values) most records d d 0 0
  block_none most records d h = go_done (go_start (record_rule s nodes values) most records d) (inr (inl (omega (arith, h))))
