-- The cell of a reading, by counting the nodes below it: how a loop counts, and what the count gives. Assumes nothing.
use Rattle.std.specs.Int.{from_bool}
use Rattle.std.proofs.Common.{Bool, true, false, refl, ◌≡◌, ℕ, ◌+◌, ◌<◌, ◌≤◌, cond, List, ◌∷◌, length, get_or, drop, ap, add-one, arith, drop_of_length-le, drop-cons}
use lib.Ieee.{Float, nan, lt}
use Rattle.axis.specs.Cells.{how_many, count_below, lower_index}

module _ (xs : List Float) (p : Float) where
  abbrev left : ℕ → ℕ
  left i = how_many (λ x. lt x p) (drop i xs)

  -- so many of the first i nodes are below the reading
  pub record Counted (i count : ℕ) : Type 0 where
    pub few : count ≤ i
    pub rest : count + left i ≡ count_below xs p

  byte_few : (b : Bool) → from_bool b ≤ 1
  byte_few true = omega arith
  byte_few false = omega arith

  byte_is : (b : Bool) → from_bool b ≡ cond b 1 0
  byte_is true = refl
  byte_is false = refl

  -- one node more
  pub count_step : (i count one : ℕ) → i < length xs → one ≡ from_bool (lt (get_or xs i nan) p) → Counted i count → Counted (i + 1) (count + one)
  unfolding how_many
  count_step i count one h e c =
      let open-i : drop i xs ≡ get_or xs i nan ∷ drop (i + 1) xs = rw (add-one) (drop-cons xs i nan h) in
      let more : left i ≡ cond (lt (get_or xs i nan) p) 1 0 + left (i + 1) = ap (how_many (λ x. lt x p)) open-i in
      let byte : from_bool (lt (get_or xs i nan) p) ≡ cond (lt (get_or xs i nan) p) 1 0 = byte_is (lt (get_or xs i nan) p) in
      record { few = omega (arith, e, byte_few (lt (get_or xs i nan) p), c.few); rest = omega (arith, e, byte, more, c.rest) }

  pub count_end : (i count : ℕ) → length xs ≤ i → Counted i count → count ≡ count_below xs p
  unfolding how_many
  count_end i count h c =
      let none : left i ≡ 0 = ap (how_many (λ x. lt x p)) (drop_of_length-le xs h) in
      omega (arith, none, c.rest)

-- the cell lies on its axis
pub cell_inside : (nodes : List Float) (p : Float) → 2 ≤ length nodes → lower_index nodes p + 1 < length nodes
unfolding lower_index
cell_inside nodes p enough = omega (arith, enough)
