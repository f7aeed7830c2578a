-- The laws of a coverage report: its parts one after the other, what it goes by, and how long it is.
use mathlib.Core.Path.{◌≡◌, refl, sym, ap, ap₂, ◌∙◌}
use mathlib.Core.Bool.{Bool, true, false, cond}
use mathlib.Core.List.{List, [], ◌∷◌, ◌++◌}
use Prim.Native.Nat.{ℕ, zero, suc, ◌+◌, ◌-◌, ◌*◌, ◌^◌, ◌≤◌, ◌<◌, min}
use native.Mathlib.Nat.{add-zero, suc-mul}
use native.Mathlib.Numerals.{add-one}
use native.Mathlib.Omega.{arith}
use lib.Dec.{eqb}
use lib.ListN.{length, take, drop, get_or, length-append, length-take, length-drop, length-map, get_or-map}
use lib.Seq.{get_or-take, get_or-drop, drop-drop}
use borrow.Rule.Slice.PartMut.{mid_of}
use borrow.Author.Tests.{le-leb, lt-leb, eq-eqb}
use Rattle.answer.specs.Faults.{refusal}
use Rattle.answer.specs.Answer.{refused}
use Rattle.lines.specs.Line.{line_of, longest}
use Rattle.lines.specs.Digit.{decimal}
use Rattle.lines.specs.Put.{room_for}
use Rattle.lines.specs.Report.{cell_line, number_line, joined, cell_lines, number_lines, report_of}
use Rattle.lines.specs.Report.{held, cell_at, tally_report, report_most, report_into, report_end}
use Rattle.lines.specs.Scaffolding.{Wrote, fields_line}
use Rattle.lines.proofs.Digits.{decimal_most}
use Rattle.lines.proofs.Puts.{then, wrote_none}
use Rattle.lines.proofs.Fields.{cell_is, number_is}
use Rattle.lines.proofs.Shows.{line_fits}

-- ---- parts one after the other

pub joined_none : (f : ℕ → List ℕ) → joined 0 f ≡ []
unfolding joined
joined_none f = refl

pub joined-more : (n : ℕ) (f : ℕ → List ℕ) → joined (suc n) f ≡ joined n f ++ f n
unfolding joined
joined-more n f = refl

pub joined_same : (n : ℕ) (f g : ℕ → List ℕ) → ((i : ℕ) → i < n → f i ≡ g i) → joined n f ≡ joined n g
unfolding joined
joined_same zero f g h = refl
joined_same (suc n) f g h = ap₂ (λ (x y : List ℕ). x ++ y) (joined_same n f g (λ i l. h i (omega arith))) (h n (omega arith))

pub joined_most : (n m : ℕ) (f : ℕ → List ℕ) → ((i : ℕ) → i < n → length (f i) ≤ m) → length (joined n f) ≤ n * m
unfolding joined
joined_most zero m f h = omega arith
joined_most (suc n) m f h =
    rw length-append (omega (arith, joined_most n m f (λ i l. h i (omega arith)), h n (omega arith), suc-mul n m))

either_most : (t : Bool) (m : ℕ) (xs ys : List ℕ) → length xs ≤ m → length ys ≤ m → length (cond t xs ys) ≤ m
either_most true m xs ys h k = h
either_most false m xs ys h k = k

-- A loop that puts the parts from a place on: i of them are put, up to the place `next`, and none is longer than m.
pub record Joining (d : List ℕ) (at m : ℕ) (f : ℕ → List ℕ) (e : List ℕ) (i next : ℕ) : Type 0 where
  pub lines : Wrote d at (joined i f) e next
  pub room : next ≤ at + i * m

pub join_start : (d : List ℕ) (at m : ℕ) (f : ℕ → List ℕ) → Joining d at m f d 0 at
join_start d at m f = record { lines = rw joined_none (wrote_none d at); room = omega arith }

pub join_step : {d : List ℕ} {at m : ℕ} {f : ℕ → List ℕ} {e : List ℕ} {i next : ℕ} {xs e₁ : List ℕ} {r : ℕ}
    → Joining d at m f e i next → at ≤ length d → xs ≡ f i → length xs ≤ m → Wrote e next xs e₁ r → Joining d at m f e₁ (i + 1) r
join_step {d} {at} {m} {f} {e} {i} {next} {xs} {e₁} {r} g h q small w = record {
  lines = rw (add-one, joined-more) (then g.lines h (rw q at w));
  room = omega (arith, g.room, w.next, suc-mul i m);
}

pub join_skip : {d : List ℕ} {at m : ℕ} {f : ℕ → List ℕ} {e : List ℕ} {i next : ℕ} → Joining d at m f e i next → at ≤ length d → [] ≡ f i → Joining d at m f e (i + 1) next
join_skip {e = e} {next = next} g h q = join_step g h q (omega arith) (wrote_none e next)

pub join_end : {d : List ℕ} {at m n : ℕ} {f : ℕ → List ℕ} {e : List ℕ} {i next : ℕ} → Joining d at m f e i next → n ≡ i → Wrote d at (joined n f) e next
join_end g q = rw q g.lines

-- the parts of a report: the cells of an axis, the axes, the numbers
abbrev pub cell_part : ℕ → List ℕ → ℕ → List ℕ
cell_part axis cells i = cell_line axis i (cell_at cells axis i)

abbrev pub axis_part : ℕ → List ℕ → List ℕ → ℕ → List ℕ
axis_part axes counts cells a = joined (get_or (held (take axes counts)) a 0 - 1) (λ i. cell_line a i (cell_at cells a i))

abbrev pub number_part : List ℕ → ℕ → List ℕ
number_part numbers k = number_line (suc k) (get_or numbers (suc k) 0)

-- an item of a part of a list
pub part_at : (a k i : ℕ) (xs : List ℕ) → i < length (mid_of a k xs) → get_or (mid_of a k xs) i 0 ≡ get_or xs (a + i) 0
part_at a k i xs h = get_or-take k (drop a xs) i 0 (omega (arith, length-take k (drop a xs))) ∙ get_or-drop a xs i 0

-- ---- the line of a cell

pub cell_fits : (a i n : ℕ) → a < 10 → i < 100 → n < 2 ^ 32 → length (cell_line a i n) ≤ 21
unfolding cell_line
cell_fits a i n h k l = simp length-append (omega (arith, decimal_most 0 a (omega arith), decimal_most 1 i (omega arith), decimal_most 9 n (omega arith)))

pub cell_room : (a i n : ℕ) → a < 10 → i < 100 → n < 2 ^ 32 → length (fields_line ((99 ∷ 101 ∷ 108 ∷ 108 ∷ 32 ∷ []) ++ decimal a) (i ∷ n ∷ [])) ≤ 21
cell_room a i n h k l = rw cell_is (cell_fits a i n h k l)

-- ---- the line of a number

module _ (k n : ℕ) where
  pub number_none : n ≡ 0 → number_line k n ≡ []
  unfolding number_line
  number_none h = rw (eq-eqb n 0 h)

  pub number_fits : k < 100 → n < 2 ^ 32 → length (number_line k n) ≤ 17
  unfolding number_line
  number_fits h l =
      either_most (eqb n 0) 17 _ _ (omega arith)
      (simp length-append (omega (arith, decimal_most 1 k (omega arith), decimal_most 9 n (omega arith))))

  pub number_room : (n ≡ 0 → ⊥) → k < 100 → n < 2 ^ 32 → length (fields_line ((110 ∷ 111 ∷ 32 ∷ []) ++ decimal k) (n ∷ [])) ≤ 17
  number_room m h l = rw (number_is k n m) (number_fits h l)

-- ---- counts of nodes that are held at 64

pub held-length : (counts : List ℕ) → length (held counts) ≡ length counts
unfolding held
held-length counts = length-map counts (min 64)

pub held_at : (counts : List ℕ) (a : ℕ) → get_or (held counts) a 0 ≡ min 64 (get_or counts a 0)
unfolding held
held_at counts a = get_or-map (min 64) counts a 0

-- the cells of an axis among the first `axes`
pub held_cells : (axes : ℕ) (counts : List ℕ) (a many : ℕ) (f : ℕ → List ℕ) → a < axes → many ≡ min 64 (get_or counts a 0) - 1
    → joined many f ≡ joined (get_or (held (take axes counts)) a 0 - 1) f
held_cells axes counts a many f h e = rw (held_at (take axes counts) a, get_or-take axes counts a 0 h, e)

-- a loop over the first `axes` counts: the a-th is next, `rest` are there from it on, and no more than n are looked at
pub record Walking (counts : List ℕ) (axes : ℕ) (rest : List ℕ) (n a : ℕ) : Type 0 where
  pub left : n + a ≡ axes
  pub items : rest ≡ drop a counts
  pub within : a ≤ length counts

pub walk_start : (counts : List ℕ) (axes : ℕ) (rest : List ℕ) (n a : ℕ) → rest ≡ counts → n ≡ axes → a ≡ 0 → Walking counts axes rest n a
walk_start counts axes rest n a r e z = record { left = omega arith; items = rw z r; within = omega arith }

module _ {counts : List ℕ} {axes : ℕ} {rest : List ℕ} {n a : ℕ} (w : Walking counts axes rest n a) where
  module _ {nodes : ℕ} {others : List ℕ} (e : rest ≡ nodes ∷ others) where
    next : drop a counts ≡ nodes ∷ others
    next = sym w.items ∙ e

    pub walk_below : a < length counts
    walk_below = omega (arith, ap length next, length-drop a counts)

    pub walk_here : {j : ℕ} → j ≡ a → nodes ≡ get_or counts j 0
    walk_here q = sym (ap (λ (l : List ℕ). get_or l 0 0) next) ∙ get_or-drop a counts 0 0 ∙ ap (λ (k : ℕ). get_or counts k 0) (add-zero a ∙ sym q)

    pub walk_on : {m : ℕ} → m + 1 ≡ n → Walking counts axes others m (a + 1)
    walk_on l = record { left = omega (arith, w.left); items = sym (ap (drop 1) next) ∙ drop-drop 1 a counts; within = omega (arith, walk_below) }

  pub walk_end : (0 < n → length rest ≡ 0) → length (held (take axes counts)) ≡ a
  walk_end h = grind (arith, w.left, w.within, h, held-length (take axes counts), length-take axes counts, ap length w.items, length-drop a counts)

-- the counts of a table are as they are
pub held_same : (counts : List ℕ) → ((a : ℕ) → a < length counts → get_or counts a 0 ≤ 64) → held counts ≡ counts
unfolding held
held_same [] h = refl
held_same (n ∷ ns) h = ap₂ (λ (m : ℕ) (ms : List ℕ). m ∷ ms) first (held_same ns (λ a l. h (suc a) (omega arith)))
  where
    first : min 64 n ≡ n
    first = omega (arith, h 0 (omega arith))

-- ---- the laws of a report

-- THE LAW: a report goes by the counts of its cells and of the numbers from 1 to 20, and by nothing else
pub report_same : (counts : List ℕ) (cell other : ℕ → ℕ → ℕ) (number another : ℕ → ℕ) (past last : Bool)
    → ((a i : ℕ) → a < length counts → i < get_or counts a 0 - 1 → cell a i ≡ other a i)
    → ((k : ℕ) → 1 ≤ k → k ≤ 20 → number k ≡ another k) → past ≡ last
    → report_of counts cell number past ≡ report_of counts other another last
unfolding report_of
report_same counts cell other number another past last h k e = rw (cells, numbers, e)
  where
    cells : cell_lines counts cell ≡ cell_lines counts other
    cells = joined_same (length counts) _ _ (λ a l. joined_same (get_or counts a 0 - 1) _ _ (λ i m. ap (cell_line a i) (h a i l m)))

    numbers : number_lines number ≡ number_lines another
    numbers = joined_same 20 _ _ (λ j l. ap (number_line (suc j)) (k (suc j) (omega arith) (omega arith)))

-- of a tally whose table has no axis of more than 64 nodes
pub tally_report_lem : (axes : ℕ) (counts cells numbers : List ℕ) (past : Bool)
    → ((a : ℕ) → a < length (take axes counts) → get_or (take axes counts) a 0 ≤ 64)
    → tally_report axes counts cells numbers past ≡ report_of (take axes counts) (cell_at cells) (λ k. get_or numbers k 0) past
unfolding tally_report
tally_report_lem axes counts cells numbers past h =
    ap (λ (cs : List ℕ). report_of cs (cell_at cells) (λ k. get_or numbers k 0) past) (held_same (take axes counts) h)

past_fits : (past : Bool) → length (cond past (line_of (refused (refusal 17 0 0))) []) ≤ longest
unfolding refused refusal
past_fits past = either_most past longest _ _ (line_fits (refused (refusal 17 0 0)) (omega arith) (omega arith) (omega arith)) (omega arith)

-- of at most four axes, and of counts that 32 bits hold, no report is longer than is said
pub report_fits : (counts : List ℕ) (cell : ℕ → ℕ → ℕ) (number : ℕ → ℕ) (past : Bool) → length counts ≤ 4
    → ((a i : ℕ) → cell a i < 2 ^ 32) → ((k : ℕ) → number k < 2 ^ 32) → length (report_of (held counts) cell number past) ≤ report_most
unfolding report_of
report_fits counts cell number past four h k = simp length-append (omega (arith, held-length counts, cells, numbers, past_fits past))
  where
    axis : (a : ℕ) → a < length (held counts) → length (joined (get_or (held counts) a 0 - 1) (λ i. cell_line a i (cell a i))) ≤ 1323
    axis a l =
        let n : get_or (held counts) a 0 ≤ 64 = omega (arith, held_at counts a) in
        let m : a < 4 = omega (arith, held-length counts) in
        let s : length (joined (get_or (held counts) a 0 - 1) (λ i. cell_line a i (cell a i))) ≤ (get_or (held counts) a 0 - 1) * 21 =
        joined_most (get_or (held counts) a 0 - 1) 21 _ (λ i j. cell_fits a i (cell a i) (omega arith) (omega arith) (h a i)) in
        omega arith

    cells : length (cell_lines (held counts) cell) ≤ length (held counts) * 1323
    cells = joined_most (length (held counts)) 1323 _ axis

    numbers : length (number_lines number) ≤ 20 * 17
    numbers = joined_most 20 17 _ (λ j l. number_fits (suc j) (number (suc j)) (omega arith) (k (suc j)))

-- ---- the report put into a buffer

module _ (report d : List ℕ) where
  pub report_left : length d < report_most → ((0 ≡ report_end report d) × (d ≡ report_into report d)) × (0 ≤ length d)
  unfolding report_end report_into room_for
  report_left h = let t = lt-leb (0 + report_most) (length d) (omega arith) in ((rw t, rw t), omega arith)

  module _ {e : List ℕ} {r : ℕ} where
    pub report_put : report_most ≤ length d → Wrote d 0 report e r → r ≤ report_most
        → ((r ≡ report_end report d) × (e ≡ report_into report d)) × (r ≤ length d)
    unfolding report_end report_into room_for
    report_put h w l = let t = le-leb (0 + report_most) (length d) (omega arith) in ((rw t (omega (arith, w.next)), rw t w.bytes), omega arith)

    -- for a caller that saw to the room
    pub report_wrote : report_most ≤ length d → r ≡ report_end report d → e ≡ report_into report d → Wrote d 0 report e r
    unfolding report_end report_into room_for
    report_wrote h p q = let t = le-leb (0 + report_most) (length d) (omega arith) in record { bytes = rw t at q; next = (rw t at p) ∙ omega arith }

-- what the proofs of the code look for
pub ruleset reports = (join_start, join_step, join_end, part_at, cell_is, cell_room, number_is, number_none, number_room)
