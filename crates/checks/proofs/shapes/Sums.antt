-- The loop that sums and multiplies the counts, one after the other. Assumes nothing.
use mathlib.Core.Path.{◌≡◌, refl, sym, ap, ap₂, ◌∙◌, subst}
use mathlib.Core.List.{List, [], ◌∷◌}
use Prim.Native.Nat.{ℕ, zero, suc, ◌+◌, ◌*◌, ◌≤◌, ◌<◌}
use native.Mathlib.Nat.{mul_assoc}
use native.Mathlib.Numerals.{add-one}
use native.Mathlib.Omega.{arith}
use lib.ListN.{length, take, get_or}
use lib.Seq.{length-take-le, get_or-take, take_all}
use Rattle.layout.specs.Shape.{size, total}
use Rattle.layout.proofs.Totals.{size_bound, total_bound}
use Rattle.checks.specs.declared.shapes.Holding.{Holding}

-- what the first i counts make
pub record Sums (counts : List ℕ) (i nodes values : ℕ) : Type 0 where
  pub summed : nodes ≡ total (take i counts)
  pub times : values ≡ size (take i counts)

total_suc : (ns : List ℕ) (i : ℕ) → i < length ns → total (take i ns) + get_or ns i 0 ≡ total (take (suc i) ns)
unfolding total
total_suc [] i h = absurd (omega arith)
total_suc (n ∷ ns) zero h = omega arith
total_suc (n ∷ ns) (suc i) h = let k : total (take i ns) + get_or ns i 0 ≡ total (take (suc i) ns) = total_suc ns i (omega arith) in omega arith

size_suc : (ns : List ℕ) (i : ℕ) → i < length ns → size (take i ns) * get_or ns i 0 ≡ size (take (suc i) ns)
unfolding size
size_suc [] i h = absurd (omega arith)
size_suc (n ∷ ns) zero h = omega arith
size_suc (n ∷ ns) (suc i) h = mul_assoc n (size (take i ns)) (get_or ns i 0) ∙ ap (λ (k : ℕ). n * k) (size_suc ns i (omega arith))

pub begin : (counts : List ℕ) → Sums counts 0 0 1
unfolding total size
begin counts = record { summed = refl; times = refl }

module _ (counts : List ℕ) (i nodes values : ℕ) (s : Sums counts i nodes values) where
  module _ (more : i < length counts) where
    abbrev count : ℕ
    count = get_or counts i 0

    pub again : Sums counts (i + 1) (nodes + count) (values * count)
    again = record {
      summed = ap (λ (k : ℕ). k + count) s.summed ∙ total_suc counts i more ∙ ap (λ (k : ℕ). total (take k counts)) (sym (add-one i));
      times = ap (λ (k : ℕ). k * count) s.times ∙ size_suc counts i more ∙ ap (λ (k : ℕ). size (take k counts)) (sym (add-one i));
    }

    -- of few counts of few nodes
    module _ (four : length counts ≤ 4) (few : (a : ℕ) → a < length counts → get_or counts a 0 ≤ 64) where
      pub sum_fits : nodes + count ≤ 256
      sum_fits = omega (arith, again.summed, total_bound counts (i + 1) 0 (omega arith) (omega arith) (λ k l. few k (omega arith)))

      pub product_fits : values * count ≤ 16777216
      product_fits = omega (arith, again.times, size_bound counts (i + 1) 0 (omega arith) (omega arith) (λ k l. few k (omega arith)))

  pub done : length counts ≤ i → ◌≡◌ {A = Holding} (record { nodes = nodes; values = values }) (record { nodes = total counts; values = size counts })
  done h = ap₂ (λ (n v : ℕ). record { nodes = n; values = v }) (s.summed ∙ ap total (take_all i counts h)) (s.times ∙ ap size (take_all i counts h))

-- the counts of a shape
module _ (own : List ℕ) (n : ℕ) (within : n ≤ length own) (few : (a : ℕ) → a < n → get_or own a 0 ≤ 64) where
  pub counts_few : (a : ℕ) → a < length (take n own) → get_or (take n own) a 0 ≤ 64
  counts_few a h =
      let l : a < n = omega (arith, length-take-le n own within) in
      subst (λ (k : ℕ). k ≤ 64) (sym (get_or-take n own a 0 l)) (few a l)
