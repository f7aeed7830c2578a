-- Laws of a count of a tally, each way through tests that the code no longer makes. They hold as they did; no proof stands on them.
use mathlib.Core.Path.{◌≡◌, sym, ap, ◌∙◌}
use mathlib.Core.Bool.{Bool, cond}
use mathlib.Core.List.{List}
use Prim.Native.Nat.{ℕ, ◌+◌, ◌*◌, ◌≤◌, ◌<◌}
use borrow.Author.Tests.{lt-ltb, le-ltb}
use lib.ListN.{get_or, set}
use Rattle.tally.specs.Tally.{more, more_at, cell_more, number_more}

module _ (counts : List ℕ) (a i : ℕ) where
  pub cell_in : (x : ℕ) → i < 63 → x ≡ more (get_or counts (a * 63 + i) 0) → set counts (a * 63 + i) x ≡ cell_more counts a i
  unfolding cell_more more_at
  cell_in x h e = ap (set counts (a * 63 + i)) e ∙ sym (ap (λ (t : Bool). cond t (more_at counts (a * 63 + i)) counts) (lt-ltb i 63 h))

  pub cell_out : 63 ≤ i → counts ≡ cell_more counts a i
  unfolding cell_more
  cell_out h = sym (ap (λ (t : Bool). cond t (more_at counts (a * 63 + i)) counts) (le-ltb i 63 h))

module _ (counts : List ℕ) (k : ℕ) where
  pub number_in : (x : ℕ) → k < 21 → x ≡ more (get_or counts k 0) → set counts k x ≡ number_more counts k
  unfolding number_more more_at
  number_in x h e = ap (set counts k) e ∙ sym (ap (λ (t : Bool). cond t (more_at counts k) counts) (lt-ltb k 21 h))

  pub number_out : 21 ≤ k → counts ≡ number_more counts k
  unfolding number_more
  number_out h = sym (ap (λ (t : Bool). cond t (more_at counts k) counts) (le-ltb k 21 h))
