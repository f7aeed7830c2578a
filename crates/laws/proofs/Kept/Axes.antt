-- Laws of a loop over the axes of a table by the place where an axis begins, for any row that judges an axis by its number and its nodes: a step
-- that the code no longer takes. They hold as they did; no proof stands on them.
use mathlib.Core.Path.{◌≡◌, refl, sym, ap, ◌∙◌}
use mathlib.Core.List.{List}
use Prim.Native.Nat.{ℕ, ◌+◌, ◌-◌, ◌≤◌, ◌<◌, min}
use native.Mathlib.Omega.{arith}
use lib.ListN.{length, take, drop, get_or}
use lib.Seq.{length-take-le}
use Rattle.answer.specs.Faults.{Fault, no_fault, first_fault}
use Rattle.answer.proofs.Loops as loops
use Rattle.layout.proofs.Totals.{counts_least}
use Rattle.layout.proofs.Walks.{Walk, walk_axis, walk_on}
use Rattle.checks.proofs.table.Axes.{row_at}
use Rattle.laws.proofs.Kept as kept

-- r are the counts of a shape as they lie in memory: always four
pub record Four (counts r : List ℕ) : Type 0 where
  pub same : r ≡ counts
  pub four : length r ≡ 4

-- what is left of n axes, where axis a is next and starts at `at`
pub record Left {A : Type 0} (row : ℕ → List A → Fault) (counts : List ℕ) (nodes : List A) (n at a : ℕ) : Type 0 where
  pub inside : at ≤ length nodes
  pub walk : Walk (take n counts) nodes a at
  pub rows : loops.Left (row_at row (take n counts) nodes) (first_fault (row_at row (take n counts) nodes) 0 n) 0 n a

-- m axes are lent, and the first four of them are gone over, in the counts as they were read
module _ {A : Type 0} (row : ℕ → List A → Fault) (own counts : List ℕ) (nodes : List A) (m n : ℕ) (w : Four own counts) (least : n ≡ min m 4) where
  within : n ≤ length counts
  within = omega (arith, w.four, least)

  pub begin : Left row counts nodes n 0 0
  begin = record { inside = omega arith; walk = refl; rows = loops.begin (row_at row (take n counts) nodes) 0 n n (omega arith) }

  -- all rows, over the lent counts
  all : first_fault (row_at row (take n counts) nodes) 0 n ≡ first_fault (row_at row (take m own) nodes) 0 (length (take m own))
  all =
      ap (first_fault (row_at row (take n counts) nodes) 0) (sym (length-take-le n counts within))
      ∙ ap (λ (cs : List ℕ). first_fault (row_at row cs nodes) 0 (length cs)) (counts_least counts n m w.four least ∙ ap (take m) w.same)

  module _ (at a : ℕ) (l : Left row counts nodes n at a) where
    pub done : n ≤ a → (r : Fault) → r ≡ no_fault → r ≡ first_fault (row_at row (take m own) nodes) 0 (length (take m own))
    done h r e = kept.done (row_at row (take n counts) nodes) (first_fault (row_at row (take n counts) nodes) 0 n) 0 n a l.rows h r e ∙ all

    module _ (here : a < n) (end : ℕ) (q : end ≡ at + min (get_or counts a 0) (length nodes - at)) (r : Fault) (e : r ≡ row a (take (end - at) (drop at nodes))) where
      judged : r ≡ row_at row (take n counts) nodes a
      judged = e ∙ ap (row a) (walk_axis counts n nodes a at end within here l.walk q)

      pub stop : (r.number ≡ 0 → ⊥) → r ≡ first_fault (row_at row (take m own) nodes) 0 (length (take m own))
      stop h = kept.stop (row_at row (take n counts) nodes) (first_fault (row_at row (take n counts) nodes) 0 n) 0 n a l.rows here r judged h ∙ all

      pub again : r.number ≡ 0 → Left row counts nodes n end (a + 1)
      again h = record {
        inside = let i : at ≤ length nodes = l.inside in omega (arith, q);
        walk = walk_on counts n nodes a at end within here l.walk q;
        rows = kept.again (row_at row (take n counts) nodes) (first_fault (row_at row (take n counts) nodes) 0 n) 0 n a l.rows here r judged h;
      }
