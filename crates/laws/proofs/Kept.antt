-- Theorems that the pages name, of steps that the code no longer takes: orders of checks by a fault's number, a count node by node, a
-- slice's turn value by value. They hold as they did; no proof stands on them. Beside them, by subject, are laws that no page names.
pub mod Orders
pub mod Axes
pub mod Words
pub mod Loads
pub mod Cells
pub mod Uniforms
pub mod Corners
pub mod Places
pub mod Digits
pub mod Records
pub mod Picks
pub mod Locations
pub mod Headers
pub mod Fronts
pub mod Tallies
pub mod Lines
pub mod Kinds
use mathlib.Core.Path.{◌≡◌, refl, sym, ap, ap₂, ◌∙◌, subst}
use mathlib.Core.Logic.{inl, inr}
use mathlib.Core.Bool.{Bool, true, false, cond}
use mathlib.Core.List.{List, [], ◌∷◌}
use Prim.Native.Nat.{ℕ, zero, suc, ◌+◌, ◌-◌, ◌*◌, ◌/◌, ◌%◌, ◌≤◌, ◌<◌}
use native.Mathlib.Nat.{mod-lt, div-add-mod', eq-or-lt_of_le}
use native.Mathlib.Numerals.{add-one}
use native.Mathlib.Omega.{arith}
use borrow.Author.Tests.{eq-eqb, ne_eqb, eqb-true, eqb-false}
use lib.Dec.{T, eqb}
use lib.ListN.{length, get_or, drop, drop_of_length-le}
use lib.Seq.{drop-cons}
use lib.Ieee.{Float, nan, lt, is_nan, inf, fin}
use Rattle.std.proofs.lemmas.List.Edits.{sets}
use Rattle.answer.specs.Faults.{Fault, no_fault, good, ◌or◌, first_fault}
use Rattle.answer.proofs.Orders as orders
use Rattle.answer.proofs.Loops as loops
use Rattle.layout.proofs.Layouts.{radix_div, radix_mod}
use Rattle.little_endian.specs.Words.{to_bytes}
use Rattle.axis.specs.Cells.{how_many, count_below}
use Rattle.ninterp.specs.Scaffolding.{four_of}
use Rattle.slices.specs.Scaffolding.{run_place}

-- ---- a fault's number, tested
pub passes : (r a : Fault) → r ≡ a → r.number ≡ 0 → good a ≡ true
unfolding good
passes r a e h = subst (λ (x : Fault). eqb x.number 0 ≡ true) e (eq-eqb r.number 0 h)

pub fails : (r a : Fault) → r ≡ a → (r.number ≡ 0 → ⊥) → good a ≡ false
unfolding good
fails r a e h = subst (λ (x : Fault). eqb x.number 0 ≡ false) e (ne_eqb r.number 0 h)

-- r is what a check gives
module _ (r a : Fault) (e : r ≡ a) where
  pub or_stops : (rest : Fault) → (r.number ≡ 0 → ⊥) → r ≡ (a or rest)
  or_stops rest h = e ∙ sym (orders.or_bad a rest (fails r a e h))

  pub or_goes_on : (s rest : Fault) → r.number ≡ 0 → s ≡ rest → s ≡ (a or rest)
  or_goes_on s rest h q = q ∙ sym (orders.or_good a rest (passes r a e h))

-- the same of two rows that one check answers for, in front of the rest
module _ (r a b : Fault) (e : r ≡ (a or b)) where
  pub pair_stops : (rest : Fault) → (r.number ≡ 0 → ⊥) → r ≡ (a or b or rest)
  pair_stops rest h = or_stops r (a or b) e rest h ∙ orders.or_assoc a b rest

  pub pair_goes_on : (s rest : Fault) → r.number ≡ 0 → s ≡ rest → s ≡ (a or b or rest)
  pair_goes_on s rest h q = or_goes_on r (a or b) e s rest h q ∙ orders.or_assoc a b rest

-- ---- a loop that judges place by place, r the fault of place i
module _ (f : ℕ → Fault) (whole : Fault) (from end i : ℕ) (l : loops.Left f whole from end i) where
  pub done : end ≤ i → (r : Fault) → r ≡ no_fault → r ≡ whole
  done h r e = loops.rest f whole from end i l r (e ∙ sym (orders.first_end f i end h))

  module _ (here : i < end) (r : Fault) (e : r ≡ f i) where
    pub stop : (r.number ≡ 0 → ⊥) → r ≡ whole
    stop h = loops.rest f whole from end i l r (e ∙ sym (orders.first_stop f i end here (fails r (f i) e h)))

    pub again : r.number ≡ 0 → loops.Left f whole from end (i + 1)
    again h = record { begun = omega (arith, l.begun); on = omega arith; order = l.order ∙ orders.first_step f i end here (passes r (f i) e h) }

-- ---- the nodes below a reading, counted one by one
module _ (xs : List Float) (p : Float) where
  abbrev left : ℕ → ℕ
  left i = how_many (λ x. lt x p) (drop i xs)

  -- one node more
  pub count-step : (i count one : ℕ) → i < length xs → one ≡ cond (lt (get_or xs i nan) p) 1 0 → count + left i ≡ count_below xs p → count + one + left (i + 1) ≡ count_below xs p
  unfolding how_many
  count-step i count one h e inv =
      let open-i : drop i xs ≡ get_or xs i nan ∷ drop (i + 1) xs = rw (add-one) (drop-cons xs i nan h) in
      let more : left i ≡ cond (lt (get_or xs i nan) p) 1 0 + left (i + 1) = ap (how_many (λ x. lt x p)) open-i in
      omega (arith, e, more, inv)

  pub count_end : (i count : ℕ) → length xs ≤ i → count + left i ≡ count_below xs p → count ≡ count_below xs p
  unfolding how_many
  count_end i count h inv =
      let none : left i ≡ 0 = ap (how_many (λ x. lt x p)) (drop_of_length-le xs h) in
      omega (arith, none, inv)

-- ---- a turn of the loop: t in runs of b, its run and its place in the run
module _ (t b : ℕ) (pos : 0 < b) where
  parts : t ≡ t / b * b + t % b
  parts = sym (div-add-mod' t b)

  module _ (last : t % b + 1 ≡ b) where
    whole : t + 1 ≡ (t / b + 1) * b + 0
    whole = omega (arith, parts)

    run_next : (t + 1) / b ≡ t / b + 1
    run_next = ap (λ (k : ℕ). k / b) whole ∙ radix_div (t / b + 1) b 0 pos

    run_first : (t + 1) % b ≡ 0
    run_first = ap (λ (k : ℕ). k % b) whole ∙ radix_mod (t / b + 1) b 0 pos

  module _ (more : (t % b + 1 ≡ b → ⊥)) where
    inside : t % b + 1 < b
    inside = elim (eq-or-lt_of_le (mod-lt t pos)) [ inl e ↦ absurd (more (omega arith)) | inr h ↦ omega arith ]

    within : t + 1 ≡ t / b * b + (t % b + 1)
    within = omega (arith, parts)

    run_same : (t + 1) / b ≡ t / b
    run_same = ap (λ (k : ℕ). k / b) within ∙ radix_div (t / b) b (t % b + 1) inside

    run_on : (t + 1) % b ≡ t % b + 1
    run_on = ap (λ (k : ℕ). k % b) within ∙ radix_mod (t / b) b (t % b + 1) inside

-- from and j are those of t
module _ (t inner n i : ℕ) (pos : 0 < inner) (in_axis : i < n) (from j : ℕ) (is-j : j ≡ t % inner) (is-from : from ≡ run_place n inner i t) where
  pub next_j : cond (eqb (j + 1) inner) 0 (j + 1) ≡ (t + 1) % inner
  next_j = go (eqb (j + 1) inner) (eqb-true (j + 1) inner) (eqb-false (j + 1) inner)
    where
      go : (x : Bool) → (x ≡ true → j + 1 ≡ inner) → (x ≡ false → j + 1 ≡ inner → ⊥) → cond x 0 (j + 1) ≡ (t + 1) % inner
      go true f g = sym (run_first t inner pos (let k : j + 1 ≡ inner = f refl in omega arith))
      go false f g = ap (λ (k : ℕ). k + 1) is-j ∙ sym (run_on t inner pos (λ e. g refl (ap (λ (k : ℕ). k + 1) is-j ∙ e)))

  -- one run further on, in a table whose runs lie n apart
  next_run : (m : ℕ) → i < m → from ≡ run_place m inner i t → t % inner + 1 ≡ inner → from + 1 + (m - 1) * inner ≡ ((t / inner + 1) * m + i) * inner + 0
  next_run zero l q k = absurd (omega arith)
  next_run (suc m) l q k = let z : suc m - 1 ≡ m = omega arith in ap (λ (x : ℕ). from + 1 + x * inner) z ∙ omega arith

  pub next_place : cond (eqb (j + 1) inner) (from + 1 + (n - 1) * inner) (from + 1) ≡ run_place n inner i (t + 1)
  next_place = go (eqb (j + 1) inner) (eqb-true (j + 1) inner) (eqb-false (j + 1) inner)
    where
      -- by the run of t + 1 and its place in the run
      by : {x y : ℕ} → (t + 1) / inner ≡ x → (t + 1) % inner ≡ y → run_place n inner i (t + 1) ≡ (x * n + i) * inner + y
      by d m = ap₂ (λ (q r : ℕ). (q * n + i) * inner + r) d m

      go : (x : Bool) → (x ≡ true → j + 1 ≡ inner) → (x ≡ false → j + 1 ≡ inner → ⊥) → cond x (from + 1 + (n - 1) * inner) (from + 1) ≡ run_place n inner i (t + 1)
      go true f g =
          let k : t % inner + 1 ≡ inner = let h : j + 1 ≡ inner = f refl in omega arith in
          next_run n in_axis is-from k ∙ sym (by (run_next t inner pos k) (run_first t inner pos k))
      go false f g =
          let k : (t % inner + 1 ≡ inner → ⊥) = λ e. g refl (ap (λ (x : ℕ). x + 1) is-j ∙ e) in
          let z : from + 1 ≡ (t / inner * n + i) * inner + (t % inner + 1) = omega arith in
          z ∙ sym (by (run_same t inner pos k) (run_on t inner pos k))

-- ---- four of one, bytes of which none is left, and numbers that are none
pub four_at_lem : (x a : ℕ) → a < 4 → get_or (four_of x) a 0 ≡ x
four_at_lem x zero l = refl
four_at_lem x (suc zero) l = refl
four_at_lem x (suc (suc zero)) l = refl
four_at_lem x (suc (suc (suc zero))) l = refl
four_at_lem x (suc (suc (suc (suc a)))) l = absurd (omega arith)

pub put_end_lem : (s : List ℕ) (j n i y : ℕ) → n ≤ i → sets s j (to_bytes (n - i) y) ≡ s
unfolding to_bytes
put_end_lem s j n i y h = let none : n - i ≡ 0 = omega arith in ap (λ (k : ℕ). sets s j (to_bytes k y)) none

pub is_nan_lem : (x : Float) → is_nan x ≡ true → x ≡ nan
unfolding is_nan
is_nan_lem nan e = refl
is_nan_lem (inf s) e = absurd (subst T (sym e) tt)
is_nan_lem (fin s m d) e = absurd (subst T (sym e) tt)
