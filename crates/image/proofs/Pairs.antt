-- 18: the first two areas that share a byte. Assumes nothing.
use mathlib.Core.Path.{◌≡◌, refl, sym, ap, ◌∙◌, subst}
use mathlib.Core.Bool.{Bool, true, false}
use mathlib.Core.List.{List}
use mathlib.Core.Logic.{◌⊎◌, inl, inr}
use Prim.Native.Nat.{ℕ, zero, suc, ◌+◌, ◌-◌, ◌*◌, ◌≤◌, ◌<◌, max}
use native.Mathlib.Nat.{eq-or-lt_of_le}
use native.Mathlib.Omega.{arith}
use borrow.Author.Tests.{ltb-true, ltb-false}
use lib.Dec.{ltb}
use Rattle.answer.specs.Faults.{Fault, refusal, no_fault, good, first_fault}
use Rattle.answer.proofs.Orders as orders
use Rattle.answer.proofs.Firsts.{First, first_found, first-at}
use Rattle.checks.specs.Numbers.{sharing}
use Rattle.image.specs.Fields.{axes_field, area_of}
use Rattle.image.specs.Load.{pair_row, pairs_fault}
use Rattle.image.specs.Shared.{area_end, InArea, Share, Pair, Apart, Lower, Lowest, InTurn}
use Rattle.image.proofs.Sharing.{byte_from, byte_shared, shared_told, shared_passed, shared_apart, shared_bad}

-- the areas after area i, of so many axes, that share a byte with it: the first
abbrev pub pairs_with : List ℕ → ℕ → ℕ → Fault
pairs_with img axes i = first_fault (pair_row img i) (i + 1) (axes - i)

module _ (img : List ℕ) where
  -- ---- the test of two areas, and the byte that they share
  abbrev shares : ℕ → ℕ → Bool
  shares i j = sharing (area_of img i).at (8 * (area_of img i).floats) (area_of img j).at (8 * (area_of img j).floats)

  pub shares_byte : (i j : ℕ) → shares i j ≡ true → Share img i j
  shares_byte i j h =
      let b = byte_from (area_of img i).at (8 * (area_of img i).floats) (area_of img j).at (8 * (area_of img j).floats) h in
      record { byte = max (area_of img i).at (area_of img j).at; in_one = record { from = b.0.0; before = b.0.1 }; in_other = record { from = b.1.0; before = b.1.1 } }

  byte_shares : (i j : ℕ) → Share img i j → shares i j ≡ true
  byte_shares i j s = byte_shared (area_of img i).at (8 * (area_of img i).floats) (area_of img j).at (8 * (area_of img j).floats) s.byte s.in_one.from s.in_one.before s.in_other.from s.in_other.before

  row_good : (i j : ℕ) → (Share img i j → ⊥) → good (pair_row img i j) ≡ true
  row_good i j h = go (shares i j) refl
    where
      go : (b : Bool) → shares i j ≡ b → good (pair_row img i j) ≡ true
      go true e = absurd (h (shares_byte i j e))
      go false e = shared_passed _ _ _ _ i j e

  row_apart : (i j : ℕ) → good (pair_row img i j) ≡ true → Share img i j → ⊥
  row_apart i j h s = orders.clash (shares i j) (byte_shares i j s) (shared_apart _ _ _ _ i j h)

  row_told : (i j : ℕ) → Share img i j → pair_row img i j ≡ refusal 18 i j
  row_told i j s = shared_told _ _ _ _ i j (byte_shares i j s)

  row_bad : (i j : ℕ) → Share img i j → good (pair_row img i j) ≡ false
  row_bad i j s = ap good (row_told i j s) ∙ orders.bad_refused 17 i j

  abbrev axes : ℕ
  axes = axes_field img

  -- ---- all pairs
  pub pairs_none : Apart img → pairs_fault img ≡ no_fault
  unfolding pairs_fault
  pairs_none h = orders.none_good (pairs_with img axes) 0 axes each
    where
      each : (i : ℕ) → 0 ≤ i → i < 0 + axes → good (pairs_with img axes i) ≡ true
      each i l m = ap good (orders.none_good (pair_row img i) (i + 1) (axes - i) (λ j p q. row_good i j (h i j (record { ordered = omega arith; there = omega arith })))) ∙ orders.good-no_fault

  -- an area that shares nothing with any later one
  with_good : (i : ℕ) → good (pairs_with img axes i) ≡ true → (j : ℕ) → Pair img i j → good (pair_row img i j) ≡ true
  with_good i g j p = orders.all_passed (pair_row img i) (i + 1) (axes - i) g j (omega (arith, p.ordered)) (omega (arith, p.ordered, p.there))

  pub pairs-apart : good (pairs_fault img) ≡ true → Apart img
  unfolding pairs_fault
  pairs-apart g i j p = row_apart i j (with_good i (orders.all_passed (pairs_with img axes) 0 axes g i (omega arith) (omega (arith, p.ordered, p.there))) j p)

  -- the lowest pair is told
  pub pairs_tell : (i j : ℕ) → Lowest img i j → pairs_fault img ≡ refusal 18 i j
  unfolding pairs_fault
  pairs_tell i j s =
      first-at (pairs_with img axes) 0 axes i (omega arith) (omega (arith, s.pair.ordered, s.pair.there)) (ap good told ∙ orders.bad_refused 17 i j) before ∙ told
    where
      told : pairs_with img axes i ≡ refusal 18 i j
      told =
          first-at (pair_row img i) (i + 1) (axes - i) j (omega (arith, s.pair.ordered)) (omega (arith, s.pair.ordered, s.pair.there)) (row_bad i j s.share)
          (λ l p q. row_good i l (s.none_lower i l (record { ordered = omega arith; there = omega (arith, s.pair.there) }) (inr (refl, q))))
          ∙ row_told i j s.share

      before : (k : ℕ) → 0 ≤ k → k < i → good (pairs_with img axes k) ≡ true
      before k l m = ap good (orders.none_good (pair_row img k) (k + 1) (axes - k) (λ n p q. row_good k n (s.none_lower k n (record { ordered = omega arith; there = omega arith }) (inl m)))) ∙ orders.good-no_fault

  -- and what is told is the lowest pair
  pub pairs_lowest : good (pairs_fault img) ≡ false → (i : ℕ) × ((j : ℕ) × Lowest img i j)
  unfolding pairs_fault
  pairs_lowest g = (one.at, (other.at, found))
    where
      one : First (pairs_with img axes) 0 axes
      one = first_found (pairs_with img axes) 0 axes g

      other : First (pair_row img one.at) (one.at + 1) (axes - one.at)
      other = first_found (pair_row img one.at) (one.at + 1) (axes - one.at) one.bad

      lower : (k l : ℕ) → Pair img k l → Lower k l one.at other.at → Share img k l → ⊥
      lower k l p (inl m) = row_apart k l (with_good k (one.clear k (omega arith) m) l p)
      lower k l p (inr m) = row_apart k l (subst (λ (n : ℕ). good (pair_row img n l) ≡ true) (sym m.0) (other.clear l (omega (arith, m.0, p.ordered)) m.1))

      found : Lowest img one.at other.at
      found = record {
        pair = record { ordered = omega (arith, other.from); there = omega (arith, other.below, one.below) };
        share = shares_byte one.at other.at (shared_bad _ _ _ _ one.at other.at other.bad);
        none_lower = lower;
      }

  -- ---- areas that lie one after the other
  module _ (l : InTurn img) where
    before : (t u : ℕ) → t < u → u ≤ axes → area_end img (l.turn t) ≤ (area_of img (l.turn u)).at
    before t zero m n = absurd (omega arith)
    before t (suc u) m n = go (eq-or-lt_of_le m) (λ k. before t u k (omega arith))
      where
        go : (suc t ≡ suc u) ⊎ (suc t < suc u) → (t < u → area_end img (l.turn t) ≤ (area_of img (l.turn u)).at) → area_end img (l.turn t) ≤ (area_of img (l.turn (suc u))).at
        go (inl e) rest = subst (λ (k : ℕ). area_end img (l.turn k) ≤ (area_of img (l.turn (suc u))).at) (omega (arith, e)) (l.after u (omega arith))
        go (inr k) rest = omega (arith, rest (omega (arith, k)), l.after u (omega arith))

    -- the areas of two turns share nothing
    turned : (t u i j : ℕ) → l.turn t ≡ i → l.turn u ≡ j → t < u → u ≤ axes → (byte : ℕ) → InArea img i byte → InArea img j byte → ⊥
    turned t u i j e f m n byte p q =
        let ends : area_end img i ≤ (area_of img j).at = subst (λ (x : ℕ). area_end img x ≤ (area_of img j).at) e (subst (λ (y : ℕ). area_end img (l.turn t) ≤ (area_of img y).at) f (before t u m n)) in
        omega (arith, ends, p.before, q.from)

    apart_by : (i j : ℕ) → i < j → (one : (t : ℕ) × ((t ≤ axes) × (l.turn t ≡ i))) → (other : (t : ℕ) × ((t ≤ axes) × (l.turn t ≡ j))) → Share img i j → ⊥
    apart_by i j m one other s = go (ltb one.0 other.0) refl (ltb other.0 one.0) refl
      where
        go : (b : Bool) → ltb one.0 other.0 ≡ b → (c : Bool) → ltb other.0 one.0 ≡ c → ⊥
        go true e c f = turned one.0 other.0 i j one.1.1 other.1.1 (ltb-true one.0 other.0 e) other.1.0 s.byte s.in_one s.in_other
        go false e true f = turned other.0 one.0 j i other.1.1 one.1.1 (ltb-true other.0 one.0 f) one.1.0 s.byte s.in_other s.in_one
        go false e false f =
            let same : one.0 ≡ other.0 = omega (arith, ltb-false one.0 other.0 e, ltb-false other.0 one.0 f) in
            let one_is : i ≡ j = sym one.1.1 ∙ ap (λ (k : ℕ). l.turn k) same ∙ other.1.1 in
            omega (arith, one_is, m)

    pub turns_apart : Apart img
    turns_apart i j p s = apart_by i j p.ordered (l.each i (omega (arith, p.ordered, p.there))) (l.each j p.there) s
