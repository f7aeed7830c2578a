-- Laws of the locations that a user would quote, on a good axis and a finite reading. Assumes nothing.
use Rattle.std.proofs.Common.{◌≡◌, ℕ, zero, suc, ◌+◌, ◌-◌, ◌<◌, min, true, false, List, [], ◌∷◌, length, pos, sym, refl, ap, ◌∙◌, subst, add-one, arith, Some}
use lib.Ieee.{Float, nan, inf, fin, binary64, lt, le, eq, sub, div, of_int, to_unsigned}
use lib.Ieee.Scale.{finite}
use Rattle.answer.specs.Answer.{plus_zero}
use Rattle.answer.proofs.Orders.{clash}
use Rattle.binary64.proofs.Order as order
use Rattle.binary64.proofs.Difference.{sub_above, sub_not_below, sub_keeps_order}
use Rattle.binary64.proofs.Quotient.{Unit, unit_finite, div_unit}
use Rattle.checks.specs.Nodes.{node, gap}
use Rattle.checks.specs.Passed.{Axis}
use Rattle.axis.specs.Uniform.{uniform_index, uniform_cell}
use Rattle.axis.specs.Cells.{how_many, lower_index}
use Rattle.axis.proofs.cells.Cells.{cell_inside}
use Rattle.axis.proofs.cells.Axes.{cell_high}
use Rattle.binary64.proofs.Held.{Held}
use Rattle.axis.proofs.picks.Laws.{from_lower, before_node, at_lower}
use Rattle.rust.specs.declared.AxisLocation.TheVariants.{Exact}
use Rattle.axis.specs.Locations.{fraction, axis_location}
use Rattle.axis.specs.Exact.{exact_node}
use Rattle.axis.proofs.exact.Exacts.{exact_lower, exact_upper}

-- what lies from 0 up to a finite number is finite
bounded : (a b : Float) → finite b ≡ true → le plus_zero a ≡ true → le a b ≡ true → finite a ≡ true
unfolding le lt eq
bounded nan b f h k = clash false h refl
bounded (inf true) b f h k = clash false h refl
bounded (inf false) nan f h k = clash false k refl
bounded (inf false) (inf t) f h k = clash false f refl
bounded (inf false) (fin t n d) f h k = clash false k refl
bounded (fin s m e) b f h k = refl

module _ (xs : List Float) (p : Float) (ax : Axis xs) (fp : finite p ≡ true) where
  abbrev first : Float
  first = node xs 0

  abbrev last : Float
  last = node xs (length xs - 1)

  abbrev l : ℕ
  l = lower_index xs p

  fits_l : l + 1 < length xs
  fits_l = cell_inside xs p ax.enough

  -- ---- a reading on a node is found at that node, in the cell below it
  module _ (i : ℕ) (il : i < length xs) (e : eq (node xs i) p ≡ true) where
    pub node_found : exact_node xs l p ≡ Some i
    node_found = go i il e (at_lower xs p ax fp i il e) (before_node xs p ax fp i il e)
      where
        go : (j : ℕ) → j < length xs → eq (node xs j) p ≡ true → l ≡ min (j - 1) (length xs - 2) → ((k : ℕ) → k < j → lt (node xs k) p ≡ true) → exact_node xs l p ≡ Some j
        go zero jl q a b = let z : l ≡ 0 = omega arith in subst (λ (n : ℕ). exact_node xs n p ≡ Some 0) (sym z) (sym (exact_lower xs 0 p q))
        go (suc j) jl q a b =
            let z : l ≡ j = omega arith in
            subst (λ (n : ℕ). exact_node xs n p ≡ Some (suc j)) (sym z)
            (sym (exact_upper xs j p (order.ne_of_lt (node xs j) p (ax.finites j (omega arith)) fp (b j (omega arith))) (subst (λ (n : ℕ). eq (node xs n) p ≡ true) (sym (add-one j)) q)) ∙ ap Some (add-one j))

    pub node-located : axis_location xs p ≡ Exact i
    unfolding axis_location
    node-located = rw node_found

  -- ---- the fraction of a reading in range is no NaN and lies between 0 and 1, both included
  module _ (held : Held xs) (u : le first p ≡ true) (v : le p last ≡ true) where
    abbrev low : Float
    low = node xs l

    abbrev high : Float
    high = node xs (l + 1)

    fin_low : finite low ≡ true
    fin_low = ax.finites l (omega (arith, fits_l))

    fin_high : finite high ≡ true
    fin_high = ax.finites (l + 1) fits_l

    pub fraction_unit : Unit (fraction xs l p)
    unfolding fraction gap
    fraction_unit = div_unit (sub binary64 p low) (gap xs l) (bounded (sub binary64 p low) (gap xs l) (ax.gaps l fits_l) over within) (ax.gaps l fits_l) over wide within
      where
        over : le plus_zero (sub binary64 p low) ≡ true
        over = sub_not_below p low fp fin_low (from_lower xs p ax fp u)

        within : le (sub binary64 p low) (sub binary64 high low) ≡ true
        within = sub_keeps_order high p low fin_high fp fin_low (cell_high xs p ax fp v) (from_lower xs p ax fp u)

        wide : lt plus_zero (sub binary64 high low) ≡ true
        wide = sub_above high low fin_high fin_low (held (l + 1)) (held l) (ax.rises l fits_l)

    pub fraction_finite : finite (fraction xs l p) ≡ true
    fraction_finite = unit_finite (fraction xs l p) fraction_unit

-- ---- the uniform index is not the lower index: on the axis 0, 1, 2, 3 the reading 1 is found in cell 1 by the one and in cell 0 by the other
abbrev pub whole : ℕ → Float
whole n = of_int binary64 (pos n)

pub uniform_differs : (uniform_index (whole 0) (whole 1) 4 (whole 1) ≡ 1) × (lower_index (whole 0 ∷ whole 1 ∷ whole 2 ∷ whole 3 ∷ []) (whole 1) ≡ 0)
unfolding uniform_index uniform_cell lower_index how_many sub div lt of_int to_unsigned
uniform_differs = (refl, refl)
