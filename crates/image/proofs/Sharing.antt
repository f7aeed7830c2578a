-- The areas by their numbers, and when two of them share a byte. Assumes nothing.
use mathlib.Core.Path.{◌≡◌, refl, sym, ap}
use mathlib.Core.Bool.{Bool, true, false, cond}
use mathlib.Core.List.{List}
use Prim.Native.Nat.{ℕ, ◌+◌, ◌≤◌, ◌<◌, min, max}
use native.Mathlib.Omega.{arith}
use borrow.Author.Tests.{lt-ltb, le-ltb, ltb-true}
use Rattle.answer.specs.Faults.{refusal, good}
use Rattle.answer.proofs.Orders.{row_met, row_passed, row_good, clash, passed-no_fault}
use Rattle.checks.specs.Numbers.{sharing, shared_fault}
use Rattle.layout.specs.Shape.{counts_of, size}
use Rattle.image.specs.Fields.{axes_field, count_field, offset_field, values_field, shape_of, area_of}
use Rattle.image.specs.declared.areas.Area.{Area}

-- ---- an area by its number
module _ (img : List ℕ) (k : ℕ) where
  abbrev either : Bool → Area
  either b = cond b (record { at = offset_field img k; floats = count_field img k }) (record { at = values_field img; floats = size (counts_of (shape_of img)) })

  pub area_axis : k < axes_field img → area_of img k ≡ record { at = offset_field img k; floats = count_field img k }
  unfolding area_of
  area_axis h = ap either (lt-ltb k (axes_field img) h)

  pub area_values : axes_field img ≤ k → area_of img k ≡ record { at = values_field img; floats = size (counts_of (shape_of img)) }
  unfolding area_of
  area_values h = ap either (le-ltb k (axes_field img) h)

  -- the same of where it begins, and of how many floats it has
  module _ (h : k < axes_field img) where
    pub axis_begins : (area_of img k).at ≡ offset_field img k
    axis_begins = ap (λ (x : Area). x.at) (area_axis h)

    pub axis_holds : (area_of img k).floats ≡ count_field img k
    axis_holds = ap (λ (x : Area). x.floats) (area_axis h)

  module _ (h : axes_field img ≤ k) where
    pub values_begin : (area_of img k).at ≡ values_field img
    values_begin = ap (λ (x : Area). x.at) (area_values h)

    pub values_hold : (area_of img k).floats ≡ size (counts_of (shape_of img))
    values_hold = ap (λ (x : Area). x.floats) (area_values h)

-- ---- two areas
module _ (at long at' long' : ℕ) where
  abbrev from : ℕ
  from = max at at'

  abbrev end : ℕ
  end = min (at + long) (at' + long')

  -- the byte that is shared, where one is: the first of the later area
  pub byte_from : sharing at long at' long' ≡ true → ((at ≤ from) × (from < at + long)) × ((at' ≤ from) × (from < at' + long'))
  unfolding sharing
  byte_from h = let l = ltb-true from end h in ((omega arith, omega (arith, l)), (omega arith, omega (arith, l)))

  -- any byte that lies in both is shared
  pub byte_shared : (byte : ℕ) → at ≤ byte → byte < at + long → at' ≤ byte → byte < at' + long' → sharing at long at' long' ≡ true
  unfolding sharing
  byte_shared byte l m p q = lt-ltb from end (omega (arith, l, m, p, q))

  -- ---- 18
  module _ (i j : ℕ) where
    pub shared_told : sharing at long at' long' ≡ true → shared_fault i j at long at' long' ≡ refusal 18 i j
    unfolding shared_fault
    shared_told h = sym (row_met (sharing at long at' long') 17 i j h)

    pub shared_passed : sharing at long at' long' ≡ false → good (shared_fault i j at long at' long') ≡ true
    unfolding shared_fault
    shared_passed h = passed-no_fault _ (row_passed (sharing at long at' long') 17 i j h)

    pub shared_apart : good (shared_fault i j at long at' long') ≡ true → sharing at long at' long' ≡ false
    unfolding shared_fault
    shared_apart h = row_good (sharing at long at' long') 17 i j h

    pub shared_bad : good (shared_fault i j at long at' long') ≡ false → sharing at long at' long' ≡ true
    shared_bad h = go (sharing at long at' long') refl
      where
        go : (b : Bool) → sharing at long at' long' ≡ b → sharing at long at' long' ≡ true
        go true e = e
        go false e = clash (good (shared_fault i j at long at' long')) (shared_passed e) h
