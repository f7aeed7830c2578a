-- "each count equals the number of such records in the file, worked from the records themselves". Assumes nothing.
use mathlib.Core.Path.{◌≡◌, refl, sym, ap, ap₂, ◌∙◌}
use mathlib.Core.Bool.{Bool, true, false, not, ◌&&◌, cond}
use mathlib.Core.List.{List, [], ◌∷◌, map}
use Prim.Native.Nat.{ℕ, ◌+◌, ◌-◌, ◌*◌, ◌≤◌, ◌<◌}
use native.Mathlib.Omega.{arith}
use borrow.Author.Tests.{lt-ltb, le-ltb, eq-eqb, ne_eqb, eqb-true, eqb-false}
use lib.Dec.{eqb, ltb}
use lib.ListN.{length, take, get_or, length-map, length-take, get_or-eq_default}
use lib.Seq.{take_all, get_or-take}
use lib.Ieee.{Float, nan}
use Rattle.answer.specs.Faults.{good}
use Rattle.answer.proofs.Orders as orders
use Rattle.answer.proofs.Answers.{then_number}
use Rattle.answer.proofs.Tests.{by_lt, by_eq, and_false}
use Rattle.layout.specs.Shape.{counts_of}
use Rattle.layout.specs.Layout.{axis_of, tabulate}
use Rattle.layout.specs.declared.Shape.{Shape}
use Rattle.layout.proofs.Layouts.{get_d_tabulate}
use Rattle.checks.specs.Numbers.{most_records}
use Rattle.checks.specs.Shapes.{frame_fault}
use Rattle.checks.proofs.shapes.Frames.{shape_four, shape_enough, shape_few}
use Rattle.checks.proofs.table.Grids.{length-axis, frame_shape, frame_nodes, frame_axes}
use Rattle.axis.proofs.cells.Cells.{cell_inside}
use Rattle.tally.specs.declared.Tally.{Tally}
use Rattle.tally.specs.declared.Outcome.{Outcome}
use Rattle.tally.specs.Counts.{none_read, count_all, cell_count, number_count, how_many}
use Rattle.tally.proofs.Counts.{in_cell, refused_as}
use Rattle.tally.proofs.Sums.{many_none, many_map}
use Rattle.tally.proofs.Totals.{none_sized, cells_all, numbers_all, records_all, all_sized}
use Rattle.ninterp.specs.Records.{record_size, record_readings, record_fault, record_answer}
use Rattle.ninterp.specs.Coverage.{record_cell, fell_in, refused_by, records_read, cell_total, number_total}
use Rattle.ninterp.specs.Counting.{outcome_of}
use Rattle.ninterp.proofs.RecordsIn.{records_few}
use Rattle.ninterp.proofs.Afters.{tally_after}

-- ---- a record that is answered 0: the table passes its checks
module _ (s : Shape) (nodes values : List Float) (rec : List ℕ) (z : (record_answer s nodes values rec).number ≡ 0) where
  frame : good (frame_fault s (length nodes) (length values)) ≡ true
  unfolding record_answer record_fault
  frame = orders.first-passed _ _ (then_number _ _ z)

  four : s.axes ≤ 4
  four = shape_four s (frame_shape s nodes values frame)

  module _ (a : ℕ) (l : a < s.axes) where
    count : get_or (counts_of s) a 0 ≡ get_or s.counts a 0
    count = get_or-take s.axes s.counts a 0 l

    long : length (axis_of s nodes a) ≡ get_or (counts_of s) a 0
    long = length-axis (counts_of s) nodes (frame_nodes s nodes values frame) a (omega (arith, frame_axes s nodes values frame))

    -- an axis has at most 63 cells
    pub cells_few : get_or (counts_of s) a 0 - 1 ≤ 63
    cells_few = omega (arith, count, shape_few s (frame_shape s nodes values frame) a l)

    -- the cell is one of its axis
    pub cell_known : record_cell s nodes a rec < get_or (counts_of s) a 0 - 1
    unfolding record_cell
    cell_known =
        let e : 2 ≤ get_or s.counts a 0 = shape_enough s (frame_shape s nodes values frame) a l in
        omega (arith, count, long, cell_inside (axis_of s nodes a) (get_or (record_readings s rec) a nan) (omega (arith, e, count, long)))

-- ---- what became of a record
refused_as_lem : (n k : ℕ) → 1 ≤ k → not (eqb n 0) && eqb n k ≡ eqb n k
refused_as_lem n k h = go (eqb n 0) (eqb-true n 0)
  where
    go : (b : Bool) → (b ≡ true → n ≡ 0) → not b && eqb n k ≡ eqb n k
    go true e = let z : n ≡ 0 = e refl in sym (ne_eqb n k (λ q. omega arith))
    go false e = refl

module _ (s : Shape) (nodes values : List Float) where
  module _ (rec : List ℕ) where
    abbrev number : ℕ
    number = (record_answer s nodes values rec).number

    abbrev cells : ℕ → ℕ
    cells a = cond (ltb a s.axes) (record_cell s nodes a rec) 0

    abbrev accepted : Outcome
    accepted = record { number = 0; axes = s.axes; cells = tabulate 4 cells }

    abbrev turned : Outcome
    turned = record { number = number; axes = 0; cells = 0 ∷ 0 ∷ 0 ∷ 0 ∷ [] }

    by_number : (P : Outcome → Type 0) → (number ≡ 0 → P accepted) → ((number ≡ 0 → ⊥) → P turned)
        → P (outcome_of s nodes values rec)
    unfolding outcome_of
    by_number P p q = go (eqb number 0) (eqb-true number 0) (eqb-false number 0)
      where
        go : (b : Bool) → (b ≡ true → number ≡ 0) → (b ≡ false → number ≡ 0 → ⊥) → P (cond b accepted turned)
        go true y n = p (y refl)
        go false y n = q (n refl)

    outcome_number : (outcome_of s nodes values rec).number ≡ number
    outcome_number = by_number (λ o. o.number ≡ number) (λ z. sym z) (λ n. refl)

    pub outcome_refused : (k : ℕ) → 1 ≤ k → refused_as k (outcome_of s nodes values rec) ≡ refused_by s nodes values k rec
    unfolding refused_as refused_by
    outcome_refused k h = ap (λ (n : ℕ). not (eqb n 0) && eqb n k) outcome_number ∙ refused_as_lem number k h

    -- on an axis of the table, and on any other
    found_in : (i : ℕ) (a : ℕ) → s.axes ≤ 4 → a < s.axes
        → eqb (get_or (take s.axes (tabulate 4 cells)) a 63) i ≡ (ltb a s.axes && eqb (record_cell s nodes a rec) i)
    found_in i a h l =
        ap (λ (c : ℕ). eqb c i)
        (get_or-take s.axes (tabulate 4 cells) a 63 l
        ∙ get_d_tabulate 4 a cells 63 (omega arith)
        ∙ ap (λ (b : Bool). cond b (record_cell s nodes a rec) 0) (lt-ltb a s.axes l))
        ∙ sym (ap (λ (b : Bool). b && eqb (record_cell s nodes a rec) i) (lt-ltb a s.axes l))

    found_none : (i : ℕ) (a : ℕ) → i < 63 → s.axes ≤ a
        → eqb (get_or (take s.axes (tabulate 4 cells)) a 63) i ≡ (ltb a s.axes && eqb (record_cell s nodes a rec) i)
    found_none i a m l =
        ap (λ (c : ℕ). eqb c i) (get_or-eq_default (take s.axes (tabulate 4 cells)) 63 {n = a} (omega (arith, length-take s.axes (tabulate 4 cells))))
        ∙ ne_eqb 63 i (λ e. omega arith)
        ∙ sym (ap (λ (b : Bool). b && eqb (record_cell s nodes a rec) i) (le-ltb a s.axes l))

    pub outcome_cell : (a i : ℕ) → i < 63 → in_cell a i (outcome_of s nodes values rec) ≡ fell_in s nodes values a i rec
    unfolding in_cell fell_in
    outcome_cell a i m = by_number (λ o. in_cell a i o ≡ fell_in s nodes values a i rec) yes no
      where
        yes : number ≡ 0 → eqb (get_or (take s.axes (tabulate 4 cells)) a 63) i ≡ fell_in s nodes values a i rec
        yes z =
            by_lt a s.axes (λ l. found_in i a (four s nodes values rec z) l) (λ l. found_none i a m l)
            ∙ sym (ap (λ (b : Bool). b && (ltb a s.axes && eqb (record_cell s nodes a rec) i)) (eq-eqb number 0 z))

        no : (number ≡ 0 → ⊥) → in_cell a i turned ≡ fell_in s nodes values a i rec
        no n =
            let e : eqb number 0 ≡ false = ne_eqb number 0 n in
            ap (λ (b : Bool). b && eqb 63 i) e ∙ sym (ap (λ (b : Bool). b && (ltb a s.axes && eqb (record_cell s nodes a rec) i)) e)

    -- ---- in which cells it is not
    pub fell_refused : (a i : ℕ) → (number ≡ 0 → ⊥) → fell_in s nodes values a i rec ≡ false
    unfolding fell_in
    fell_refused a i n = ap (λ (b : Bool). b && (ltb a s.axes && eqb (record_cell s nodes a rec) i)) (ne_eqb number 0 n)

    pub fell_nowhere : (a i : ℕ) → s.axes ≤ a → fell_in s nodes values a i rec ≡ false
    unfolding fell_in
    fell_nowhere a i l =
        ap (λ (b : Bool). eqb number 0 && (b && eqb (record_cell s nodes a rec) i)) (le-ltb a s.axes l) ∙ and_false (eqb number 0) false refl

    -- and in which it is
    pub fell_accepted : (a i : ℕ) → number ≡ 0 → a < s.axes → fell_in s nodes values a i rec ≡ eqb (record_cell s nodes a rec) i
    unfolding fell_in
    fell_accepted a i z l =
        ap₂ (λ (b c : Bool). b && (c && eqb (record_cell s nodes a rec) i)) (eq-eqb number 0 z) (lt-ltb a s.axes l)

  -- ---- the records read, all of them
  module _ (input : List ℕ) where
    abbrev outcomes : List Outcome
    outcomes = map (outcome_of s nodes values) (records_read s input)

    read_all : take most_records outcomes ≡ outcomes
    read_all =
        take_all most_records outcomes
        (omega (arith, length-map (records_read s input) (outcome_of s nodes values), records_few (record_size s) most_records input))

    counts_all : (test : Outcome → Bool) (own : List ℕ → Bool) → ((rec : List ℕ) → test (outcome_of s nodes values rec) ≡ own rec)
        → how_many test (take most_records outcomes) ≡ how_many own (records_read s input)
    counts_all test own h = ap (how_many test) read_all ∙ many_map (outcome_of s nodes values) test own h (records_read s input)

    after_none : tally_after none_read s nodes values input ≡ count_all none_read outcomes
    unfolding tally_after none_read
    after_none = refl

    pub records_total : (tally_after none_read s nodes values input).records ≡ length (records_read s input)
    records_total =
        ap (λ (t : Tally). t.records) after_none
        ∙ records_all outcomes
        ∙ ap length read_all
        ∙ length-map (records_read s input) (outcome_of s nodes values)

    pub number_total_lem : (k : ℕ) → 1 ≤ k → k < 21
        → number_count (tally_after none_read s nodes values input) k ≡ number_total s nodes values input k
    unfolding number_total
    number_total_lem k h l =
        ap (λ (t : Tally). number_count t k) after_none
        ∙ numbers_all k l outcomes
        ∙ counts_all (refused_as k) (refused_by s nodes values k) (λ rec. outcome_refused rec k h)

    -- on an axis past the fourth nothing is counted, and no record is accepted
    past_four : (a i : ℕ) → 4 ≤ a → cell_count (count_all none_read outcomes) a i ≡ cell_total s nodes values input a i
    unfolding cell_total
    past_four a i f =
        get_or-eq_default (count_all none_read outcomes).cells 0 {n = a * 63 + i} (omega (arith, (all_sized outcomes none_read none_sized).cells))
        ∙ sym (many_none (fell_in s nodes values a i) (records_read s input) none)
      where
        none : (rec : List ℕ) → fell_in s nodes values a i rec ≡ false
        none rec = by_eq (number rec) 0 (λ z. fell_nowhere rec a i (omega (arith, four s nodes values rec z))) (λ n. fell_refused rec a i n)

    pub cell_total_lem : (a i : ℕ) → i < 63
        → cell_count (tally_after none_read s nodes values input) a i ≡ cell_total s nodes values input a i
    unfolding cell_total
    cell_total_lem a i l =
        ap (λ (t : Tally). cell_count t a i) after_none
        ∙ by_lt a 4 (λ f. cells_all a i f l outcomes ∙ counts_all (in_cell a i) (fell_in s nodes values a i) (λ rec. outcome_cell rec a i l)) (past_four a i)
