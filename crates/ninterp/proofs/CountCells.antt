-- What the code meets that finds out what became of a record: the turn of the loop over its cells, and each way through the test of its number.
-- Assumes nothing.
use mathlib.Core.Path.{◌≡◌, refl, sym, ap, ap₂, ◌∙◌}
use mathlib.Core.Bool.{cond}
use mathlib.Core.List.{List, ◌++◌}
use Prim.Native.Nat.{ℕ, zero, suc, ◌+◌, ◌-◌, ◌*◌, ◌≤◌, ◌<◌, min}
use native.Mathlib.Omega.{arith}
use borrow.Author.Tests.{eq-eqb, ne_eqb}
use lib.Dec.{ltb}
use lib.ListN.{length, take, drop, get_or, set}
use lib.Ieee.{Float, nan}
use Rattle.answer.specs.Faults.{◌or◌}
use Rattle.answer.proofs.Orders.{first-passed}
use Rattle.answer.proofs.Answers.{then_number}
use Rattle.little_endian.specs.Words.{float_at}
use Rattle.layout.specs.Shape.{counts_of, total}
use Rattle.layout.specs.Layout.{tabulate}
use Rattle.layout.specs.declared.Shape.{Shape}
use Rattle.layout.proofs.Totals.{ahead}
use Rattle.layout.proofs.Layouts.{get_d_tabulate, tabulate-step}
use Rattle.layout.proofs.Walks.{Walk, walk_axis, walk_on}
use Rattle.checks.specs.Numbers.{length_fault, axes_fault, values_fault}
use Rattle.checks.specs.Shapes.{frame_fault}
use Rattle.checks.proofs.shapes.Frames.{shape_four, shape_long}
use Rattle.checks.proofs.table.Grids.{frame_shape, frame_nodes}
use Rattle.axis.specs.Cells.{lower_index}
use Rattle.tally.specs.declared.Outcome.{Outcome}
use Rattle.ninterp.specs.Records.{record_size, record_readings, record_answer, record_fault, kind_answer}
use Rattle.ninterp.specs.Coverage.{record_cell}
use Rattle.ninterp.specs.Counting.{outcome_of}
use Rattle.ninterp.specs.Scaffolding.{FlatTable, four_of}

-- ---- the loop over the axes

-- axis a is next and starts at `at`; the cells of those before it are found
pub record Finding (s : Shape) (nodes : List Float) (rec found : List ℕ) (at a : ℕ) : Type 0 where
  pub within : a ≤ s.axes
  pub rest : at + total (drop a (counts_of s)) ≡ length nodes
  pub walk : Walk (counts_of s) nodes a at
  pub cells : found ≡ tabulate a (λ k. record_cell s nodes k rec) ++ drop a (four_of 0)

-- some of four, and zeros after them
zeros_after : (f : ℕ → ℕ) (n : ℕ) → n ≤ 4 → tabulate n f ++ drop n (four_of 0) ≡ tabulate 4 (λ k. cond (ltb k n) (f k) 0)
zeros_after f zero h = refl
zeros_after f (suc zero) h = refl
zeros_after f (suc (suc zero)) h = refl
zeros_after f (suc (suc (suc zero))) h = refl
zeros_after f (suc (suc (suc (suc zero)))) h = refl
zeros_after f (suc (suc (suc (suc (suc n))))) h = absurd (omega (arith, h))

module _ (s : Shape) (nodes : List Float) (rec : List ℕ) (w : FlatTable s nodes) where
  abbrev cell : ℕ → ℕ
  cell k = record_cell s nodes k rec

  pub find_begin : Finding s nodes rec (four_of 0) 0 0
  find_begin = record { within = omega arith; rest = omega (arith, w.flat); walk = refl; cells = refl }

  module _ {found : List ℕ} {at a : ℕ} (g : Finding s nodes rec found at a) where
    pub find_done : s.axes ≤ a → found ≡ tabulate 4 (λ k. cond (ltb k s.axes) (record_cell s nodes k rec) 0)
    find_done h =
        g.cells
        ∙ ap (λ (n : ℕ). tabulate n cell ++ drop n (four_of 0)) all
        ∙ zeros_after cell s.axes w.four
      where
        all : a ≡ s.axes
        all = omega (arith, h, g.within)

    module _ (here : a < s.axes) where
      open_one : total (drop a (counts_of s)) ≡ get_or s.counts a 0 + total (drop (a + 1) (counts_of s))
      unfolding total
      open_one = ap total (ahead s.counts s.axes a 0 here w.long)

      -- the axis lies within the nodes
      pub find_within : at + get_or s.counts a 0 ≤ length nodes
      find_within = omega (arith, open_one, g.rest)

      cut : at + get_or s.counts a 0 ≡ at + min (get_or s.counts a 0) (length nodes - at)
      cut = omega (arith, find_within)

      module _ (reading : Float) (e : reading ≡ float_at rec (1 + 8 * a)) where
        read : reading ≡ get_or (record_readings s rec) a nan
        unfolding record_readings
        read = e ∙ sym (get_d_tabulate s.axes a (λ k. float_at rec (1 + 8 * k)) nan here)

        pub find_again : (i : ℕ) → i ≡ lower_index (take (at + get_or s.counts a 0 - at) (drop at nodes)) reading
            → Finding s nodes rec (set found a i) (at + get_or s.counts a 0) (a + 1)
        unfolding record_cell
        find_again i q = record {
          within = omega (arith, here);
          rest = omega (arith, open_one, g.rest);
          walk = walk_on s.counts s.axes nodes a at (at + get_or s.counts a 0) w.long here g.walk cut;
          cells = ap₂ (λ (xs : List ℕ) (x : ℕ). set xs a x) g.cells same ∙ tabulate-step a cell (four_of 0) (omega (arith, here, w.four));
        }
          where
            same : i ≡ record_cell s nodes a rec
            same = q ∙ ap₂ lower_index (walk_axis s.counts s.axes nodes a at (at + get_or s.counts a 0) w.long here g.walk cut) read

-- ---- what became of a record
module _ (s : Shape) (nodes values : List Float) (rec : List ℕ) (n : ℕ) (e : n ≡ (record_answer s nodes values rec).number) where
  -- a record that is answered 0 is one of a table whose lengths were judged
  pub outcome_flat : n ≡ 0 → FlatTable s nodes
  unfolding record_answer record_fault
  outcome_flat z =
      let frame = first-passed (frame_fault s (length nodes) (length values)) (length_fault 2 (record_size s) (length rec) or axes_fault (counts_of s) nodes or values_fault values)
      (then_number (record_fault s nodes values rec) (kind_answer (get_or rec 0 0) s nodes values (record_readings s rec)) (sym e ∙ z)) in
      record {
        four = shape_four s (frame_shape s nodes values frame);
        long = shape_long s (frame_shape s nodes values frame);
        flat = frame_nodes s nodes values frame;
      }

  pub outcome_accepted : (cells : List ℕ) → n ≡ 0 → cells ≡ tabulate 4 (λ a. cond (ltb a s.axes) (record_cell s nodes a rec) 0)
      → record { number = 0; axes = s.axes; cells = cells } ≡ outcome_of s nodes values rec
  unfolding outcome_of
  outcome_accepted cells z q = simp (eq-eqb (record_answer s nodes values rec).number 0 (sym e ∙ z), q)

  pub outcome_refused : (n ≡ 0 → ⊥) → ◌≡◌ {A = Outcome} (record { number = n; axes = 0; cells = four_of 0 }) (outcome_of s nodes values rec)
  unfolding outcome_of
  outcome_refused z = simp (ne_eqb (record_answer s nodes values rec).number 0 (λ q. z (e ∙ q)), e)
