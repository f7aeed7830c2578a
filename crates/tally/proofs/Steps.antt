-- What the code that counts meets: each way through a test, and the turn of the loop over the axes. Assumes nothing.
use mathlib.Core.Path.{◌≡◌, refl, sym, ap, ap₂, ◌∙◌}
use mathlib.Core.Bool.{Bool, true, false, cond}
use mathlib.Core.List.{List}
use Prim.Native.Nat.{ℕ, ◌+◌, ◌≤◌, ◌<◌}
use native.Mathlib.Numerals.{add-one}
use borrow.Author.Tests.{lt-ltb, le-ltb, eq-eqb, ne_eqb}
use lib.ListN.{length, take, drop, get_or, drop_of_length-le}
use lib.Seq.{drop-cons}
use Rattle.std.proofs.Common.{Result, Ok, Err}
use Rattle.std.specs.Result.{is_err}
use Rattle.answer.specs.Faults.{Fault, good}
use Rattle.answer.specs.Rows.{said}
use Rattle.answer.specs.declared.Refusal.{Refusal}
use Rattle.answer.proofs.Checks.{passes, fails}
use Rattle.answer.proofs.Orders as orders
use Rattle.checks.specs.Numbers.{limit_fault}
use Rattle.tally.specs.declared.Tally.{Tally}
use Rattle.tally.specs.declared.Outcome.{Outcome}
use Rattle.tally.specs.Tally.{more, cell_more, cells_more, number_more, tallied, counted_of}

-- ---- a count
pub more_below : (n : ℕ) → n < 4294967295 → n + 1 ≡ more n
unfolding more
more_below n h = sym (ap (λ (t : Bool). cond t (n + 1) n) (lt-ltb n 4294967295 h))

pub more-held : (n : ℕ) → 4294967295 ≤ n → n ≡ more n
unfolding more
more-held n h = sym (ap (λ (t : Bool). cond t (n + 1) n) (le-ltb n 4294967295 h))

-- ---- the loop over the axes: what is left of them, from the present counts, makes what all make
module _ (found : List ℕ) (a : ℕ) (counts all : List ℕ) where
  pub cells_step : (next : List ℕ) → a < length found → next ≡ cell_more counts a (get_or found a 0)
      → cells_more counts a (drop a found) ≡ all → cells_more next (a + 1) (drop (a + 1) found) ≡ all
  unfolding cells_more
  cells_step next h e inv =
      ap₂ (λ (cs is : List ℕ). cells_more cs (a + 1) is) e (ap (λ (k : ℕ). drop k found) (add-one a))
      ∙ sym (ap (cells_more counts a) (drop-cons found a 0 h))
      ∙ inv

  pub cells_done : length found ≤ a → cells_more counts a (drop a found) ≡ all → counts ≡ all
  unfolding cells_more
  cells_done h inv = sym (ap (cells_more counts a) (drop_of_length-le found {i = a} h)) ∙ inv

-- ---- the limit, by whether its check gave a refusal
module _ {A : Type 0} where
  pub reached : (r : Result A Refusal) (f : Fault) → said r ≡ f → is_err r ≡ true → good f ≡ false
  reached (Ok x) f s h = orders.clash false h refl
  reached (Err e) f s h = fails A e f s

  pub ahead : (r : Result A Refusal) (f : Fault) → said r ≡ f → is_err r ≡ false → good f ≡ true
  ahead (Ok x) f s h = passes x f s
  ahead (Err e) f s h = orders.clash true refl h

-- ---- a record
module _ (t : Tally) (o : Outcome) where
  pub accepted : (cells : List ℕ) → o.number ≡ 0 → cells ≡ cells_more t.cells 0 (take o.axes o.cells)
      → record { records = t.records + 1; cells = cells; numbers = t.numbers } ≡ tallied t o
  unfolding tallied
  accepted cells z e = simp (eq-eqb o.number 0 z, e)

  pub refused-one : (numbers : List ℕ) → (o.number ≡ 0 → ⊥) → numbers ≡ number_more t.numbers o.number
      → record { records = t.records + 1; cells = t.cells; numbers = numbers } ≡ tallied t o
  unfolding tallied
  refused-one numbers z e = simp (ne_eqb o.number 0 z, e)

  pub counts-on : good (limit_fault t.records) ≡ true → (s : Tally) → s ≡ tallied t o → s ≡ (counted_of t o).tally
  unfolding counted_of
  counts-on h s q = q ∙ sym (orders.given-good (limit_fault t.records) (tallied t o) t h)

  pub counts_no_more : good (limit_fault t.records) ≡ false → t ≡ (counted_of t o).tally
  unfolding counted_of
  counts_no_more h = sym (orders.given_bad (limit_fault t.records) (tallied t o) t h)
