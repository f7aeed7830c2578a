-- Turn after turn: what the loop over the blocks keeps. Assumes nothing.
use mathlib.Core.Path.{◌≡◌, refl, sym, ap, ◌∙◌}
use mathlib.Core.Bool.{Bool, true, false}
use mathlib.Core.Logic.{◌⊎◌, inl, inr, ⊎_elim}
use mathlib.Core.List.{List, [], ◌++◌, append_assoc}
use Prim.Native.Nat.{ℕ, ◌+◌, ◌-◌, ◌*◌, ◌≤◌, ◌<◌}
use native.Mathlib.Nat.{zero-mul, add-mul}
use native.Mathlib.Omega.{arith}
use lib.ListN.{length, take, length-append}
use lib.Seq.{length-take-le}
use lib.Ieee.{Float}
use Rattle.answer.proofs.Orders.{clash}
use Rattle.layout.specs.declared.Shape.{Shape}
use Rattle.lines.specs.Stream.{Rule, lines_of}
use Rattle.program.specs.Run.{rule_of}
use Rattle.checks.specs.Numbers.{most_records}
use Rattle.program.specs.Whole.{TableOf, none_counted}
use Rattle.program.specs.declared.Counts.{Counts}
use Rattle.program.specs.declared.print.Unprinted.{Unprinted}
use Rattle.std.specs.Prelude.{Result, Ok, OnOk}
use Rattle.std.proofs.lemmas.Result.{IfOk-at_ok, on_ok_weaker}
use Rattle.program.proofs.front.Loads.{four_axes}
use Rattle.program.proofs.turns.Turning.{turns_left, fewer}
use Rattle.lookup.specs.declared.feed.Next.{Next}
use Rattle.lookup.specs.Scaffolding.{Room, Last, Stepped}

-- For some bytes, as many as were read so far, and some text, as long as what was printed: `rest` is held and `left` records may
-- still come, and whatever bytes come next, the text and what is printed of the rest and them is what is printed of all.
pub record Reached (p : Rule) (limit left : ℕ) (rest : List ℕ) (read printed : ℕ) : Type 0 where
  pub bytes : List ℕ
  pub text : List ℕ
  pub counted : length bytes ≡ read
  pub told : length text ≡ printed
  pub within : left ≤ limit
  pub spent : (limit - left) * p.size + length rest ≡ read
  pub right : (more : List ℕ) → lines_of p limit (bytes ++ more) ≡ text ++ lines_of p left (rest ++ more)

pub reached_start : (p : Rule) (limit : ℕ) → Reached p limit limit [] 0 0
reached_start p limit = record {
  bytes = [];
  text = [];
  counted = refl;
  told = refl;
  within = omega arith;
  spent = omega (arith, none);
  right = λ more. refl;
}
  where
    none : (limit - limit) * p.size ≡ 0
    none = ap (λ (n : ℕ). n * p.size) (omega arith) ∙ zero-mul p.size

pub reached_step : {p : Rule} {limit held left wide : ℕ} {b c : List ℕ} {before after : Counts} {n : Next} → held ≤ length b
    → Reached p limit left (take held b) before.read before.printed → Stepped p held left b c wide before after n
    → Reached p limit n.left (take n.held c) after.read after.printed
reached_step {p} {limit} {held} {left} {b = b} {c = c} {n = n} h g s = record {
  bytes = g.bytes ++ s.block;
  text = g.text ++ s.text;
  counted = omega (arith, length-append g.bytes s.block, g.counted, s.read);
  told = omega (arith, length-append g.text s.text, g.told, s.told);
  within = omega (arith, g.within, s.within);
  spent = omega (arith, sum, g.spent, s.spent, s.read, length-take-le held b h, length-take-le n.held c s.holds);
  right = λ more.
      ap (lines_of p limit) (append_assoc g.bytes s.block more)
      ∙ g.right (s.block ++ more)
      ∙ ap (λ (x : List ℕ). g.text ++ lines_of p left x) (sym (append_assoc (take held b) s.block more))
      ∙ ap (λ (x : List ℕ). g.text ++ x) (s.turned.right more)
      ∙ sym (append_assoc g.text s.text (lines_of p n.left (take n.held c ++ more)));
}
  where
    sum : (limit - n.left) * p.size ≡ (limit - left) * p.size + (left - n.left) * p.size
    sum = ap (λ (k : ℕ). k * p.size) (omega (arith, g.within, s.within)) ∙ add-mul (limit - left) (left - n.left) p.size

-- between two turns; of each turn no more is counted than the buffer and the output have, so the sums fit
pub record Feeding (p : Rule) (buf out : List ℕ) (held left : ℕ) (n : Counts) (go : Bool) (printed : Result ℕ Unprinted) : Type 0 where
  pub long : length buf ≡ 32768
  pub wide : length out ≡ 81920
  pub holds : held ≤ length buf
  pub reached : Reached p most_records left (take held buf) n.read n.printed
  pub filled : n.read ≤ n.asked
  pub last : go ≡ false → OnOk printed ((left ≡ 0) ⊎ ((n.read < n.asked) × (held < p.size)))
  pub few : n.asked + 32768 * turns_left left go ≤ 32768 * 1000001
  pub short : n.printed + 81920 * turns_left left go ≤ 81920 * 1000001

-- a record and a line have room
pub feed_room : {img : List ℕ} {shape : Shape} {nodes values : List Float} {buf out : List ℕ} {held left : ℕ} {n : Counts} {go : Bool} {printed : Result ℕ Unprinted}
    → TableOf img shape nodes values → Feeding (rule_of img) buf out held left n go printed → Room (rule_of img) (1 + 8 * shape.axes) held buf out n
feed_room {img} t g =
    let same = ap (λ (s : Shape). 1 + 8 * s.axes) t.shape_is in
    record {
      sized = same;
      holds = g.holds;
      whole = omega (arith, same, four_axes t, g.long);
      spaced = omega (arith, g.wide);
      asked = omega (arith, g.few, g.long);
      read = omega (arith, g.filled, g.few, g.long);
      printed = omega (arith, g.short, g.wide);
    }

pub feed_start : (p : Rule) (buf out : List ℕ) → length buf ≡ 32768 → length out ≡ 81920 → (n : Counts) → n ≡ none_counted → (printed : Result ℕ Unprinted)
    → Feeding p buf out 0 most_records n true printed
feed_start p buf out l w n e printed = record {
  long = l;
  wide = w;
  holds = omega arith;
  reached = rw e (reached_start p most_records);
  filled = omega (arith, ap (λ (x : Counts). x.read) e);
  last = λ h. clash true refl h;
  few = omega (arith, ap (λ (x : Counts). x.asked) e);
  short = omega (arith, ap (λ (x : Counts). x.printed) e);
}

module _ {p : Rule} {held left wide : ℕ} {buf after : List ℕ} {before counts : Counts} {n : Next} (s : Stepped p held left buf after wide before counts n) where
  pub turn_fewer : {go : Bool} → go ≡ true → turns_left n.left n.go < turns_left left go
  turn_fewer {go} e = fewer left n.left go n.go e s.within s.goes

  pub feed_step : {out late : List ℕ} {go : Bool} {printed : Result ℕ Unprinted} → Feeding p buf out held left before go printed → go ≡ true
      → length after ≡ length buf → length late ≡ length out → wide ≡ length out → Feeding p after late n.held n.left counts n.go n.printed
  feed_step g e l w q = record {
    long = l ∙ g.long;
    wide = w ∙ g.wide;
    holds = s.holds;
    reached = reached_step g.holds g.reached s;
    filled = omega (arith, g.filled, s.filled, s.asked, s.read);
    last = λ h. on_ok_weaker n.printed (⊎_elim inl (λ t. inr (omega (arith, t.0, g.filled, s.asked, s.read), t.1))) (s.stops h);
    few = omega (arith, turn_fewer e, g.few, g.long, s.asked);
    short = omega (arith, turn_fewer e, g.short, g.wide, s.told, s.short, q);
  }

-- after the last turn, where the output stands
module _ {p : Rule} {buf out : List ℕ} {held left : ℕ} {n : Counts} {go : Bool} {printed : Result ℕ Unprinted} (g : Feeding p buf out held left n go printed)
    (stops : go ≡ false) {m : ℕ} (fine : printed ≡ Ok m) where
  ends : (left ≡ 0) ⊎ ((n.read < n.asked) × (held < p.size))
  ends = IfOk-at_ok _ fine (g.last stops)

  pub feed_last : Last p left (take held buf)
  feed_last = ⊎_elim inl (λ t. inr (omega (arith, t.1, length-take-le held buf g.holds))) ends

  pub feed_ends : (n.read < n.asked) ⊎ (most_records * p.size ≤ n.read)
  feed_ends = ⊎_elim (λ z. inr (omega (arith, g.reached.spent, all z))) (λ t. inl t.0) ends
    where
      all : left ≡ 0 → (most_records - left) * p.size ≡ most_records * p.size
      all z = ap (λ (k : ℕ). (most_records - k) * p.size) z
