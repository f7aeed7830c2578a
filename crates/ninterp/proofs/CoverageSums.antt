-- "On each axis the cell counts plus the refused counts equal the records read": of every table and every file. Assumes nothing.
use mathlib.Core.Path.{◌≡◌, refl, sym, ap₂, ◌∙◌}
use mathlib.Core.Bool.{Bool}
use mathlib.Core.List.{List}
use Prim.Native.Nat.{ℕ, suc, ◌+◌, ◌-◌, ◌<◌}
use native.Mathlib.Omega.{arith}
use borrow.Author.Tests.{eq-eqb, ne_eqb}
use lib.Dec.{eqb}
use lib.ListN.{length, get_or}
use lib.Ieee.{Float}
use Rattle.answer.proofs.Tests.{by_eq}
use Rattle.layout.specs.Shape.{counts_of}
use Rattle.layout.specs.declared.Shape.{Shape}
use Rattle.tally.specs.Counts.{sum_to}
use Rattle.tally.proofs.Sums.{kinds, kinds_none, kinds_one, kinds_all}
use Rattle.ninterp.specs.Records.{record_answer}
use Rattle.ninterp.specs.Coverage.{record_cell, fell_in, refused_by, records_read, cell_total, number_total}
use Rattle.ninterp.proofs.Known.{number_known}
use Rattle.ninterp.proofs.Coverage.{cell_known, fell_accepted, fell_refused}

module _ (s : Shape) (nodes values : List Float) (a : ℕ) (h : a < s.axes) where
  -- how many cells the axis has
  abbrev width : ℕ
  width = get_or (counts_of s) a 0 - 1

  -- a record is in one cell of the axis, or refused by one number
  module _ (rec : List ℕ) where
    abbrev number : ℕ
    number = (record_answer s nodes values rec).number

    abbrev cell : ℕ
    cell = record_cell s nodes a rec

    abbrev inside : ℕ → Bool
    inside i = fell_in s nodes values a i rec

    abbrev refused : ℕ → Bool
    refused k = refused_by s nodes values (suc k) rec

    abbrev One : Type 0
    One = kinds inside width + kinds refused 20 ≡ 1

    accepted_one : number ≡ 0 → One
    unfolding refused_by
    accepted_one z = ap₂ (λ (x y : ℕ). x + y) cells numbers
      where
        fell : (i : ℕ) → inside i ≡ eqb cell i
        fell i = fell_accepted s nodes values rec a i z h

        cells : kinds inside width ≡ 1
        cells =
            kinds_one inside width cell (cell_known s nodes values rec z a h)
            (fell cell ∙ eq-eqb cell cell refl)
            (λ i n. fell i ∙ ne_eqb cell i (λ e. n (sym e)))

        numbers : kinds refused 20 ≡ 0
        numbers = kinds_none refused 20 (λ k l. ne_eqb number (suc k) (λ e. omega (arith, z, e)))

    refused-one : (number ≡ 0 → ⊥) → One
    unfolding refused_by
    refused-one n = ap₂ (λ (x y : ℕ). x + y) cells numbers
      where
        cells : kinds inside width ≡ 0
        cells = kinds_none inside width (λ i l. fell_refused s nodes values rec a i n)

        numbers : kinds refused 20 ≡ 1
        numbers =
            kinds_one refused 20 (number - 1) (omega (arith, n, number_known s nodes values rec))
            (eq-eqb number (suc (number - 1)) (omega (arith, n)))
            (λ k m. ne_eqb number (suc k) (λ e. m (omega (arith, e))))

    one_kind : One
    one_kind = by_eq number 0 accepted_one refused-one

  pub axis_sums : (input : List ℕ)
      → sum_to (cell_total s nodes values input a) (get_or (counts_of s) a 0 - 1) + sum_to (λ k. number_total s nodes values input (suc k)) 20 ≡ length (records_read s input)
  unfolding cell_total number_total
  axis_sums input = kinds_all (fell_in s nodes values a) (λ k. refused_by s nodes values (suc k)) width 20 one_kind (records_read s input)
