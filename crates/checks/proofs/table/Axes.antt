-- A loop over the axes of a table, for any row that judges an axis by its number and its nodes. Assumes nothing.
use mathlib.Core.Path.{◌≡◌, refl, sym, ap, ap₂, ◌∙◌, subst}
use mathlib.Core.Logic.{◌⊎◌, inl, inr}
use mathlib.Core.List.{List, [], ◌∷◌}
use Prim.Native.Nat.{ℕ, suc, ◌+◌, ◌≤◌, ◌<◌, min}
use native.Mathlib.Nat.{eq-or-lt_of_le}
use native.Mathlib.Numerals.{add-one}
use native.Mathlib.Omega.{arith}
use lib.ListN.{length, take, drop, get_or, drop_of_length-le}
use lib.Seq.{drop-cons}
use Rattle.std.proofs.Common.{Result, Ok, Err}
use Rattle.answer.specs.Faults.{Fault, first_fault}
use Rattle.answer.specs.Rows.{said}
use Rattle.answer.specs.declared.Refusal.{Refusal}
use Rattle.answer.proofs.Checks.{Handed}
use Rattle.answer.proofs.Loops as loops
use Rattle.layout.specs.Layout.{axes_of}
use Rattle.layout.proofs.Totals.{take_there}
use Rattle.layout.proofs.Walks.{length-axes}

-- what is not there is not looked at
drop_there : {A : Type 0} (n : ℕ) (l : List A) → drop (min n (length l)) l ≡ drop n l
drop_there n l = go (eq-or-lt_of_le small)
  where
    small : min n (length l) ≤ n
    small = omega arith

    go : (min n (length l) ≡ n) ⊎ (min n (length l) < n) → drop (min n (length l)) l ≡ drop n l
    go (inl q) = ap (λ (k : ℕ). drop k l) q
    go (inr q) = drop_of_length-le l {i = min n (length l)} (omega arith) ∙ sym (drop_of_length-le l {i = n} (omega arith))

heads : {A : Type 0} {x y : A} {xs ys : List A} → x ∷ xs ≡ y ∷ ys → x ≡ y
heads e = cc

tails : {A : Type 0} {x y : A} {xs ys : List A} → x ∷ xs ≡ y ∷ ys → xs ≡ ys
tails e = cc

-- where axis a is next, and `rest` are the nodes from it on
abbrev pub Walk : {A : Type 0} → List ℕ → List A → List A → ℕ → Type 0
Walk counts nodes rest a = drop a (axes_of counts nodes) ≡ axes_of (drop a counts) rest

module _ {A : Type 0} (counts : List ℕ) (nodes rest : List A) (a : ℕ) (w : Walk counts nodes rest a) (here : a < length counts) where
  abbrev count : ℕ
  count = get_or counts a 0

  both : get_or (axes_of counts nodes) a [] ∷ drop (suc a) (axes_of counts nodes) ≡ take count rest ∷ axes_of (drop (suc a) counts) (drop count rest)
  unfolding axes_of
  both =
      sym (drop-cons (axes_of counts nodes) a [] (omega (arith, length-axes counts nodes)))
      ∙ w
      ∙ ap (λ (cs : List ℕ). axes_of cs rest) (drop-cons counts a 0 here)

  pub axis_here : take (min count (length rest)) rest ≡ get_or (axes_of counts nodes) a []
  axis_here = take_there count rest ∙ sym (heads both)

  pub walk_on : Walk counts nodes (drop (min count (length rest)) rest) (a + 1)
  walk_on =
      ap (λ (k : ℕ). drop k (axes_of counts nodes)) (add-one a)
      ∙ tails both
      ∙ ap₂ axes_of (ap (λ (k : ℕ). drop k counts) (sym (add-one a))) (sym (drop_there count rest))

-- the row of axis k
abbrev pub row_at : {A : Type 0} → (ℕ → List A → Fault) → List ℕ → List A → ℕ → Fault
row_at fault counts nodes k = fault k (get_or (axes_of counts nodes) k [])

-- what is left of all axes, where axis a is next
pub record Left {A : Type 0} (fault : ℕ → List A → Fault) (counts : List ℕ) (nodes rest : List A) (a : ℕ) : Type 0 where
  pub walk : Walk counts nodes rest a
  pub rows : loops.Left (row_at fault counts nodes) (first_fault (row_at fault counts nodes) 0 (length counts)) 0 (length counts) a

module _ {A : Type 0} (fault : ℕ → List A → Fault) (counts : List ℕ) (nodes : List A) where
  pub begin : Left fault counts nodes nodes 0
  begin = record { walk = refl; rows = loops.begin _ 0 _ _ (omega arith) }

  module _ (rest : List A) (a : ℕ) (l : Left fault counts nodes rest a) where
    pub done : {B : Type 0} (x : B) → length counts ≤ a → said (Ok x) ≡ first_fault (row_at fault counts nodes) 0 (length counts)
    done x h = loops.done _ _ _ _ _ l.rows x h

    -- one axis: its nodes are split off, and its row said what it says
    module _ (here : a < length counts) (n : ℕ) (least : n ≡ min (get_or counts a 0) (length rest)) (grid : List A) (front : grid ≡ take n rest) where
      judged : fault a grid ≡ row_at fault counts nodes a
      judged = ap (fault a) (front ∙ ap (λ (k : ℕ). take k rest) least ∙ axis_here counts nodes rest a l.walk here)

      pub stop : (B : Type 0) (e : Refusal) → said {A = B} (Err e) ≡ fault a grid → {C : Type 0} (r : Result C Refusal) → Handed r e
          → said r ≡ first_fault (row_at fault counts nodes) 0 (length counts)
      stop B e s r h = loops.stop _ _ _ _ _ l.rows here B e (s ∙ judged) r h

      pub again : (others : List A) → others ≡ drop n rest → {B : Type 0} (x : B) → said (Ok x) ≡ fault a grid → Left fault counts nodes others (a + 1)
      again others back x s = record {
        walk = subst (λ (xs : List A). Walk counts nodes xs (a + 1)) (sym (back ∙ ap (λ (k : ℕ). drop k rest) least)) (walk_on counts nodes rest a l.walk here);
        rows = loops.again _ _ _ _ _ l.rows here x (s ∙ judged);
      }
