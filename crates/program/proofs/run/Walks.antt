-- A walk over the records, a chunk at a time: what is still to be put is what is printed of the records left. Assumes nothing.
use mathlib.Core.Path.{◌≡◌, sym, ap, ◌∙◌}
use mathlib.Core.Logic.{◌⊎◌, inl, inr, ⊎_elim}
use mathlib.Core.List.{List, [], ◌++◌, append-nil}
use Prim.Native.Nat.{ℕ, zero, suc, ◌+◌, ◌-◌, ◌*◌, ◌≤◌, ◌<◌}
use native.Mathlib.Omega.{arith}
use lib.ListN.{length, take, drop, length-drop}
use lib.Seq.{drop-drop, take_all}
use Rattle.answer.specs.Faults.{refusal}
use Rattle.answer.specs.Answer.{refused}
use Rattle.lines.specs.Line.{line_of}
use Rattle.lines.specs.Stream.{Rule, lines_first, lines_of, Block}
use Rattle.lines.proofs.Blocks.{Answered, answered, lines_none}
use Rattle.lines.proofs.Runs.{lines_of-add}
use Rattle.program.specs.Scaffolding.{Placed, Fronted, end_of}
use Rattle.program.proofs.run.Places.{Putting, putting_start, putting_step, putting_end, end_said}

-- the records from `at` on are left, of which `left` may still be answered; `total` bytes are put, no more than a chunk for each record answered
pub record Walking (p : Rule) (limit : ℕ) (records d c e : List ℕ) (at left total : ℕ) : Type 0 where
  pub within : at ≤ length records
  pub chunk : length c ≡ 4096
  pub bound : total + 4096 * left ≤ 4096 * limit
  pub puts : Putting (lines_of p limit records) d e total (lines_of p left (drop at records))

pub walk_start : (p : Rule) (limit : ℕ) (records d c : List ℕ) → length c ≡ 4096 → Walking p limit records d c d 0 limit 0
walk_start p limit records d c h = record { within = omega arith; chunk = h; bound = omega arith; puts = putting_start (lines_of p limit records) d }

-- a whole record and a chunk with room for a line: at least one is answered
some_answered : (p : Rule) (left : ℕ) (rest c b : List ℕ) (count written : ℕ) → Answered p left rest c b count written → 0 < left → p.size ≤ length rest → p.longest ≤ length c → 0 < count
some_answered p left rest c b zero written a l h room =
    let w : written ≡ 0 = a.lines.next ∙ ap (λ (xs : List ℕ). 0 + length xs) (lines_none p rest) in
    ⊎_elim (λ s. absurd (omega (arith, s, l))) (λ s. ⊎_elim (λ t. absurd (omega (arith, t, h))) (λ t. absurd (omega (arith, t, room, w))) s) a.stop
some_answered p left rest c b (suc k) written a l h room = omega arith

-- what a chunk took: of the records in number and in bytes, and of the output
pub record Took (p : Rule) (records : List ℕ) (at left count written : ℕ) : Type 0 where
  pub some : 0 < count
  pub most : count ≤ left
  pub bytes : at + count * p.size ≤ length records
  pub short : written ≤ 4096

module _ {p : Rule} {limit : ℕ} {records d c e : List ℕ} {at left total : ℕ} (w : Walking p limit records d c e at left total) where
  rest_long : length (drop at records) ≡ length records - at
  rest_long = length-drop at records

  rest_whole : take (length records - at) (drop at records) ≡ drop at records
  rest_whole = take_all (length records - at) (drop at records) (omega (arith, rest_long))

  module _ {b : List ℕ} {count written : ℕ} (k : Block p left (take (length records - at) (drop at records)) c b count written) (kept : length b ≡ length c)
      (l : 0 < left) (h : p.size ≤ length records - at) (room : p.longest ≤ 4096) where
    done : Answered p left (drop at records) c b count written
    done = answered (rw rest_whole at k) kept

    pub took : Took p records at left count written
    took = record {
      some = some_answered p left (drop at records) c b count written done l (omega (arith, h, rest_long)) (omega (arith, room, w.chunk));
      most = done.within;
      bytes = omega (arith, done.whole, rest_long, w.within);
      short = omega (arith, done.room, w.chunk);
    }

    next : lines_of p left (drop at records) ≡ lines_first p count (drop at records) ++ lines_of p (left - count) (drop (at + count * p.size) records)
    next =
        let n : left ≡ count + (left - count) = omega (arith, done.within) in
        ap (λ (m : ℕ). lines_of p m (drop at records)) n
        ∙ lines_of-add p count (left - count) (drop at records) done.whole
        ∙ ap (λ (l : List ℕ). lines_first p count (drop at records) ++ lines_of p (left - count) l) (drop-drop (count * p.size) at records)

    pub walk_step : {f : List ℕ} (used : ℕ) → used ≡ count * p.size → Placed (lines_first p count (take (length records - at) (drop at records))) e total f written → length f ≡ length e
        → Walking p limit records d b f (at + used) (left - count) (total + written)
    walk_step {f} used u q same = record {
      within = omega (arith, u, took.bytes);
      chunk = kept ∙ w.chunk;
      bound = omega (arith, w.bound, took.some, took.most, took.short);
      puts = rw u (putting_step (lines_of p (left - count) (drop (at + count * p.size) records)) w.puts next (rw rest_whole at q) same);
    }

  -- the end: no record may come, or no whole one is left
  pub walk_end : p.cut ≡ line_of (refused (refusal 3 0 2)) → (left ≡ 0) ⊎ (length records - at < p.size) → {f : List ℕ} {n : ℕ}
      → Placed (end_of (length records - at) left) e total f n → length f ≡ length e → Fronted (lines_of p limit records) d f (total + n)
  walk_end cut s q same = putting_end (putting_step [] w.puts said q same)
    where
      last : (left ≡ 0) ⊎ (length (drop at records) < p.size)
      last = ⊎_elim inl (λ h. inr (omega (arith, h, rest_long))) s

      said : lines_of p left (drop at records) ≡ end_of (length records - at) left ++ []
      said = end_said p cut left (drop at records) last ∙ ap (λ (n : ℕ). end_of n left) rest_long ∙ sym (append-nil (end_of (length records - at) left))
