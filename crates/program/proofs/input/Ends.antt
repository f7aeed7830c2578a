-- Where the image ends, and what is printed at the input's end. Assumes nothing.
use mathlib.Core.Path.{◌≡◌, refl, sym, ap, ap₂, ◌∙◌}
use mathlib.Core.Bool.{Bool, true, false, ◌&&◌, ◌||◌, cond, and-false, or-true}
use mathlib.Core.Logic.{◌⊎◌, inl, inr}
use mathlib.Core.List.{List, [], ◌++◌}
use Prim.Native.Nat.{ℕ, ◌+◌, ◌≤◌, ◌<◌}
use native.Mathlib.Omega.{arith}
use borrow.Author.Tests.{leb-true, eqb-true, eqb-false, eq-eqb, ne_eqb, le-leb, lt-leb}
use lib.Dec.{leb, eqb}
use lib.ListN.{length, take, drop, length-append, length-drop, length-take}
use lib.Seq.{length-take-le, take_all, take-append-le, drop-append-le}
use Rattle.answer.specs.Faults.{refusal}
use Rattle.answer.specs.Answer.{refused}
use Rattle.answer.proofs.Orders.{clash}
use Rattle.lines.specs.Scaffolding.{Filled, Wrote}
use Rattle.lines.specs.Line.{line_of, longest}
use Rattle.lines.specs.Put.{line_into, line_end}
use Rattle.lines.specs.Stream.{Rule, lines_of}
use Rattle.lines.proofs.Feeds.{filled_count}
use Rattle.lines.proofs.Puts.{wrote_take, wrote_length}
use Rattle.lines.proofs.Runs.{cut_off, cut_none, cut_some}
use Rattle.lines.proofs.Shows.{line_wrote, line_fits}
use Rattle.little_endian.specs.Words.{of_bytes, word_at}
use Rattle.program.specs.Input.{image_size, image_in, nothing_more, end_into, end_size, goes_on}

module _ (input : List ℕ) (w : ℕ) (e : w ≡ word_at 4 input 4) where
  sized : (b : Bool) → (leb 40 w && leb w 36864) ≡ b → cond b w 40 ≡ image_size input
  unfolding image_size
  sized b q = ap (λ (t : Bool). cond t w 40) (sym q) ∙ ap (λ (n : ℕ). cond (leb 40 n && leb n 36864) n 40) e

  pub size_short : w < 40 → 40 ≡ image_size input
  size_short h = sized false (ap (λ (t : Bool). t && leb w 36864) (lt-leb 40 w h))

  pub size_long : 36864 < w → 40 ≡ image_size input
  size_long h = sized false (ap (λ (t : Bool). leb 40 w && t) (lt-leb w 36864 h) ∙ and-false (leb 40 w))

  pub size_stated : 40 ≤ w → w ≤ 36864 → w ≡ image_size input
  size_stated h k = sized true (ap₂ ◌&&◌ (le-leb 40 w h) (le-leb w 36864 k))

pub size_least : (input : List ℕ) → 40 ≤ image_size input
unfolding image_size
size_least input = go (leb 40 (word_at 4 input 4)) (leb-true 40 (word_at 4 input 4)) (leb (word_at 4 input 4) 36864)
  where
    go : (a : Bool) → (a ≡ true → 40 ≤ word_at 4 input 4) → (b : Bool) → 40 ≤ cond (a && b) (word_at 4 input 4) 40
    go true h true = h refl
    go true h false = omega arith
    go false h b = omega arith

pub size_most : (input : List ℕ) → image_size input ≤ 36864
unfolding image_size
size_most input = go (leb 40 (word_at 4 input 4)) (leb (word_at 4 input 4) 36864) (leb-true (word_at 4 input 4) 36864)
  where
    go : (a b : Bool) → (b ≡ true → word_at 4 input 4 ≤ 36864) → cond (a && b) (word_at 4 input 4) 40 ≤ 36864
    go true true h = h refl
    go true false h = omega arith
    go false b h = omega arith

module _ (rest left : ℕ) (out : List ℕ) where
  told : (b : Bool) → nothing_more rest left ≡ b → (cond b 0 (line_end (refused (refusal 3 0 2)) out 0) ≡ end_size rest left out) × (cond b out (line_into (refused (refusal 3 0 2)) out 0) ≡ end_into rest left out)
  unfolding end_size end_into
  told b q = (ap (λ (t : Bool). cond t 0 (line_end (refused (refusal 3 0 2)) out 0)) (sym q), ap (λ (t : Bool). cond t out (line_into (refused (refusal 3 0 2)) out 0)) (sym q))

  pub no_record_left : left ≡ 0 → (0 ≡ end_size rest left out) × (out ≡ end_into rest left out)
  unfolding nothing_more
  no_record_left h = told true (ap (λ (t : Bool). t || eqb rest 0) (eq-eqb left 0 h))

  pub no_byte_left : rest ≡ 0 → (0 ≡ end_size rest left out) × (out ≡ end_into rest left out)
  unfolding nothing_more
  no_byte_left h = told true (ap (λ (t : Bool). eqb left 0 || t) (eq-eqb rest 0 h) ∙ or-true (eqb left 0))

  pub cut_short : (left ≡ 0 → ⊥) → (rest ≡ 0 → ⊥) → (r : ℕ) (after : List ℕ) → r ≡ line_end (refused (refusal 3 0 2)) out 0 → after ≡ line_into (refused (refusal 3 0 2)) out 0
      → (r ≡ end_size rest left out) × (after ≡ end_into rest left out)
  unfolding nothing_more
  cut_short h k r after p q =
      let t = told false (ap₂ ◌||◌ (ne_eqb left 0 h) (ne_eqb rest 0 k)) in
      (p ∙ t.0, q ∙ t.1)

cut_fits : length (line_of (refused (refusal 3 0 2))) ≤ longest
unfolding refused refusal
cut_fits = line_fits (refused (refusal 3 0 2)) (omega arith) (omega arith) (omega arith)

-- what is printed at the end of an input whose last bytes are no whole record
pub end_told : (p : Rule) → p.cut ≡ line_of (refused (refusal 3 0 2)) → (held left : ℕ) (buf out : List ℕ) → held ≤ length buf → longest ≤ length out → held < p.size
    → (r : ℕ) (after : List ℕ) → r ≡ end_size held left out → after ≡ end_into held left out → (take r after ≡ lines_of p left (take held buf)) × (r ≤ length after)
end_told p cut held left buf out there room short r after e f = go (eqb left 0) (eqb-true left 0) (eqb-false left 0) (eqb held 0) (eqb-true held 0) (eqb-false held 0)
  where
    rest : length (take held buf) ≡ held
    rest = length-take-le held buf there

    nothing : (0 ≡ end_size held left out) → [] ≡ lines_of p left (take held buf) → (take r after ≡ lines_of p left (take held buf)) × (r ≤ length after)
    nothing z q = (ap (λ (k : ℕ). take k after) (e ∙ sym z) ∙ q, omega (arith, e, z))

    go : (a : Bool) → (a ≡ true → left ≡ 0) → (a ≡ false → left ≡ 0 → ⊥) → (b : Bool) → (b ≡ true → held ≡ 0) → (b ≡ false → held ≡ 0 → ⊥) → (take r after ≡ lines_of p left (take held buf)) × (r ≤ length after)
    go true y n b y' n' = nothing (no_record_left held left out (y refl)).0 (cut_off p left (take held buf) (y refl))
    go false y n true y' n' = nothing (no_byte_left held left out (y' refl)).0 (cut_none p left (take held buf) (inr (omega (arith, rest, short))) (rest ∙ y' refl))
    go false y n false y' n' =
        let t = cut_short held left out (n refl) (n' refl) (line_end (refused (refusal 3 0 2)) out 0) (line_into (refused (refusal 3 0 2)) out 0) refl refl in
        let w : Wrote out 0 (line_of (refused (refusal 3 0 2))) after r = line_wrote (refused (refusal 3 0 2)) out 0 (omega (arith, room)) (e ∙ sym t.0) (f ∙ sym t.1) in (
          wrote_take w ∙ sym cut ∙ cut_some p left (take held buf) (inr (omega (arith, rest, short))) (n refl) (λ z. n' refl (sym rest ∙ z)),
          omega (arith, w.next, wrote_length w (omega (arith, room, cut_fits)), room, cut_fits),
        )

-- ---- the image that is read

-- what was read of an input that ends early is all there is of the image
pub read_short : (input : List ℕ) → length input ≤ 40 → image_in input ≡ input
read_short input h = take_all (image_size input) input (omega (arith, h, size_least input))

-- the stated length is looked for in the first 40 bytes alone
pub head_enough : (head more : List ℕ) → 40 ≤ length head → image_size (head ++ more) ≡ image_size head
unfolding image_size word_at
head_enough head more h = ap (λ (l : List ℕ). cond (leb 40 (of_bytes l) && leb (of_bytes l) 36864) (of_bytes l) 40) same
  where
    same : take 4 (drop 4 (head ++ more)) ≡ take 4 (drop 4 head)
    same = ap (take 4) (drop-append-le 4 head more (omega (arith, h))) ∙ take-append-le 4 (drop 4 head) more (omega (arith, h, length-drop 4 head))

pub read_whole : (head more : List ℕ) → length head ≡ 40 → 40 + length more ≤ image_size head → image_in (head ++ more) ≡ head ++ more
read_whole head more h k = take_all (image_size (head ++ more)) (head ++ more) (omega (arith, h, k, head_enough head more (omega (arith, h)), length-append head more))

-- the size that was worked out, whatever of
pub size_within : (input : List ℕ) (size : ℕ) → size ≡ image_size input → (40 ≤ size) × (size ≤ 36864)
size_within input size e = (omega (arith, e, size_least input), omega (arith, e, size_most input))

pub head_read : (img : List ℕ) (got : ℕ) → got ≤ 40 → image_in (take got img) ≡ take got img
head_read img got h = read_short (take got img) (omega (arith, h, length-take got img))

pub image_read : (img after : List ℕ) (size r : ℕ) → 40 ≤ length img → size ≡ image_size (take 40 img) → Filled 40 img after r → r ≤ size → image_in (take r after) ≡ take r after
image_read img after size r l e f k =
    let h : length (take 40 img) ≡ 40 = length-take-le 40 img l in
    let n : 40 + length f.block ≡ r = filled_count l f in
    ap image_in f.bytes ∙ read_whole (take 40 img) f.block h (omega (arith, n, k, e)) ∙ sym f.bytes

-- ---- whether the program reads on
module _ (ok full : Bool) (left : ℕ) (whole : Bool) where
  pub output_failed : ok ≡ false → false ≡ goes_on ok full left whole
  unfolding goes_on
  output_failed h = sym (ap (λ (b : Bool). cond b (cond (eqb left 0) false (full || whole)) false) h)

  module _ (h : ok ≡ true) where
    pub limit_reached : left ≡ 0 → false ≡ goes_on ok full left whole
    unfolding goes_on
    limit_reached z = sym (ap₂ (λ (b c : Bool). cond b (cond c false (full || whole)) false) h (eq-eqb left 0 z))

    pub more_to_come : (left ≡ 0 → ⊥) → (full || whole) ≡ goes_on ok full left whole
    unfolding goes_on
    more_to_come z = sym (ap₂ (λ (b c : Bool). cond b (cond c false (full || whole)) false) h (ne_eqb left 0 z))

-- what it means that the program reads on, and that it does not though its output stands
module _ (full : Bool) (left : ℕ) (whole : Bool) where
  pub goes_on_means : (ok : Bool) → goes_on ok full left whole ≡ true → (left ≡ 0 → ⊥) × ((full ≡ true) ⊎ (whole ≡ true))
  unfolding goes_on
  goes_on_means ok h = go ok (eqb left 0) (eqb-false left 0) full whole h
    where
      go : (a b : Bool) → (b ≡ false → left ≡ 0 → ⊥) → (f w : Bool) → cond a (cond b false (f || w)) false ≡ true → (left ≡ 0 → ⊥) × ((f ≡ true) ⊎ (w ≡ true))
      go true false n true w e = (n refl, inl refl)
      go true false n false w e = (n refl, inr e)
      go true true n f w e = clash false e refl
      go false b n f w e = clash false e refl

  pub stops_means : goes_on true full left whole ≡ false → (left ≡ 0) ⊎ ((full ≡ false) × (whole ≡ false))
  unfolding goes_on
  stops_means h = go (eqb left 0) (eqb-true left 0) full whole h
    where
      go : (b : Bool) → (b ≡ true → left ≡ 0) → (f w : Bool) → cond b false (f || w) ≡ false → (left ≡ 0) ⊎ ((f ≡ false) × (w ≡ false))
      go true y f w e = inl (y refl)
      go false y true w e = clash true refl e
      go false y false w e = inr (refl, e)
