-- Counting the elements that pass a test, on lists where those come first. Assumes nothing.
use Rattle.std.proofs.Common.{◌≡◌, ℕ, zero, suc, ◌+◌, ◌<◌, ◌≤◌, Bool, true, false, cond, List, [], ◌∷◌, length, refl, ◌∙◌, ap₂, zero-le, arith}
use lib.Ieee.{Float}
use Rattle.answer.proofs.Orders.{clash}
use Rattle.checks.specs.Nodes.{node}
use Rattle.axis.specs.Cells.{how_many}

module _ (test : Float → Bool) where
  -- r is the count, where each element before r passes and none from r on does
  pub record Splits (xs : List Float) (r : ℕ) : Type 0 where
    pub within : r ≤ length xs
    pub before : (k : ℕ) → k < r → test (node xs k) ≡ true
    pub from : (k : ℕ) → r ≤ k → k < length xs → test (node xs k) ≡ false

  pub count_is : (xs : List Float) (r : ℕ) → Splits xs r → how_many test xs ≡ r
  unfolding how_many
  count_is [] r s = let h : r ≤ 0 = s.within in omega arith
  count_is (x ∷ xs) zero s =
      ap₂ (λ (t : Bool) (c : ℕ). cond t 1 0 + c) (s.from 0 zero-le (omega arith))
      (count_is xs zero (record { within = zero-le; before = λ k l. absurd (omega arith); from = λ k l l'. s.from (suc k) zero-le (omega arith) }))
  count_is (x ∷ xs) (suc r) s =
      let w : suc r ≤ suc (length xs) = s.within in
      ap₂ (λ (t : Bool) (c : ℕ). cond t 1 0 + c) (s.before 0 (omega arith))
      (count_is xs r (record { within = omega arith; before = λ k l. s.before (suc k) (omega arith); from = λ k l l'. s.from (suc k) (omega arith) (omega arith) }))
      ∙ omega arith

  -- where an element that passes has only such before it, the count is where the list splits
  abbrev pub Falls : List Float → Type 0
  Falls xs = (i j : ℕ) → i ≤ j → j < length xs → test (node xs j) ≡ true → test (node xs i) ≡ true

  none_after : (xs : List Float) → Falls xs → test (node xs 0) ≡ false → (k : ℕ) → k < length xs → test (node xs k) ≡ false
  none_after xs f h k l = go (test (node xs k)) refl
    where
      go : (t : Bool) → test (node xs k) ≡ t → test (node xs k) ≡ false
      go true e = clash (test (node xs 0)) (f 0 k (omega arith) l e) h
      go false e = e

  pub count_splits : (xs : List Float) → Falls xs → Splits xs (how_many test xs)
  unfolding how_many
  count_splits [] f = record { within = zero-le; before = λ k l. absurd (omega arith); from = λ k l l'. absurd (omega arith) }
  count_splits (x ∷ xs) f = go (test x) refl (count_splits xs (λ i j l l' e. f (suc i) (suc j) (omega arith) (omega arith) e))
    where
      go : (t : Bool) → test x ≡ t → Splits xs (how_many test xs) → Splits (x ∷ xs) (cond t 1 0 + how_many test xs)
      go true e s = record {
        within = let h : how_many test xs ≤ length xs = s.within in omega arith;
        before = λ k l. first k l;
        from = λ k l l'. later k l l';
      }
        where
          first : (k : ℕ) → k < 1 + how_many test xs → test (node (x ∷ xs) k) ≡ true
          first zero l = e
          first (suc k) l = s.before k (omega arith)

          later : (k : ℕ) → 1 + how_many test xs ≤ k → k < suc (length xs) → test (node (x ∷ xs) k) ≡ false
          later zero l l' = absurd (omega arith)
          later (suc k) l l' = s.from k (omega arith) (omega arith)
      go false e s = record {
        within = let h : 0 + how_many test xs ≡ 0 = nothing in omega arith;
        before = λ k l. absurd (let h : 0 + how_many test xs ≡ 0 = nothing in omega arith);
        from = λ k l l'. none_after (x ∷ xs) f e k l';
      }
        where
          nothing : 0 + how_many test xs ≡ 0
          nothing =
              let z : how_many test xs ≡ 0 = count_is xs 0 (record { within = zero-le; before = λ k l. absurd (omega arith); from = λ k l l'. none_after (x ∷ xs) f e (suc k) (omega arith) }) in
              omega arith
