-- The values of a slice written run by run: of every n runs, run i. Assumes nothing.
use mathlib.Core.Path.{◌≡◌, refl, sym, ap, ap₂, ◌∙◌}
use mathlib.Core.Logic.{inl, inr}
use mathlib.Core.List.{List, [], ◌∷◌, ◌++◌}
use Prim.Native.Nat.{ℕ, zero, suc, ◌+◌, ◌-◌, ◌*◌, ◌/◌, ◌≤◌, ◌<◌}
use native.Mathlib.Nat.{zero-add, suc-add, add-mul, one-mul, mul-le-mul_right, le_of_mul-le-mul_right, eq-or-lt_of_le, mul-div_cancel}
use native.Mathlib.Omega.{arith}
use lib.ListN.{length, set, take, drop, get_or, length-take, length-drop, length-append, get_or-append}
use lib.Seq.{get_or-take, get_or-drop, take_at, drop_at, drop-drop}
use lib.Ieee.{Float, nan}
use Rattle.std.proofs.Common.{append_assoc, add-one}
use borrow.Rule.Slice.PartMut.{put_mid}
use Rattle.layout.specs.Layout.{tabulate}
use Rattle.layout.proofs.Layouts.{horner, radix_div, radix_mod, tabulate_same, tabulate-step, length-tabulate}
use Rattle.slices.specs.Scaffolding.{Runs, run_place, run_values}

-- ---- lists by their items
listed : (xs : List Float) → xs ≡ tabulate (length xs) (λ j. get_or xs j nan)
listed [] = refl
listed (x ∷ xs) = ap (λ (l : List Float). x ∷ l) (listed xs)

tabulate-append : (a b : ℕ) (f : ℕ → Float) → tabulate (a + b) f ≡ tabulate a f ++ tabulate b (λ j. f (a + j))
tabulate-append zero b f = ap (λ (n : ℕ). tabulate n f) (zero-add b) ∙ tabulate_same b f (λ j. f (0 + j)) (λ j _. ap f (sym (zero-add j)))
tabulate-append (suc a) b f =
    ap (λ (n : ℕ). tabulate n f) (suc-add a b)
    ∙ ap (λ (l : List Float). f 0 ∷ l) (tabulate-append a b (λ k. f (suc k)))
    ∙ ap (λ (l : List Float). f 0 ∷ (tabulate a (λ k. f (suc k)) ++ l)) (tabulate_same b (λ j. f (suc (a + j))) (λ j. f (suc a + j)) (λ j _. ap f (sym (suc-add a j))))

-- ---- what is asked: none of the products is large
module _ {values : List Float} {n inner i room : ℕ} (w : Runs values n inner i room) where
  pub all_few : n * inner ≤ 4096
  all_few = w.few

  pub from_few : i * inner + inner ≤ n * inner
  from_few = omega (arith, mul-le-mul_right {m = i + 1} {n = n} inner (omega (arith, w.in_axis)), add-mul i 1 inner, one-mul inner)

  pub all_some : 0 < n * inner
  all_some = omega (arith, from_few, w.some)

  -- k times n runs are behind, and the next are there
  module _ (k : ℕ) (there : k * (n * inner) + n * inner ≤ length values) where
    next_time : k < w.times
    next_time = let q : (k + 1) * (n * inner) ≤ w.times * (n * inner) = omega (arith, w.whole, add-mul k 1 (n * inner), one-mul (n * inner)) in let p : k + 1 ≤ w.times = le_of_mul-le-mul_right q all_some in omega arith

    pub to_room : k * inner + inner ≤ room
    to_room = omega (arith, mul-le-mul_right {m = k + 1} {n = w.times} inner (omega (arith, next_time)), add-mul k 1 inner, one-mul inner, w.enough)

  pub count_is : length values / n ≡ w.times * inner
  count_is = let e : length values ≡ w.times * inner * n = omega (arith, w.whole) in ap (λ (m : ℕ). m / n) e ∙ mul-div_cancel (w.times * inner) (omega (arith, w.in_axis))

  -- where fewer than n runs are left, all are written
  pub all_times : (k : ℕ) → k * (n * inner) ≤ length values → length values < k * (n * inner) + n * inner → k * inner ≡ length values / n
  all_times k on less =
      let behind : k ≤ w.times = le_of_mul-le-mul_right (omega (arith, w.whole, on)) all_some in
      let not_more : k < w.times → ⊥ = λ m. let p : (k + 1) * (n * inner) ≤ w.times * (n * inner) = mul-le-mul_right (n * inner) (omega arith) in omega (arith, p, w.whole, less, add-mul k 1 (n * inner), one-mul (n * inner)) in
      let same : k ≡ w.times = elim (eq-or-lt_of_le behind) [ inl e ↦ e | inr m ↦ absurd (not_more m) ] in
      ap (λ (m : ℕ). m * inner) same ∙ sym count_is

-- ---- what is left of the values: the next runs, or too few
module _ (values : List Float) (at b size : ℕ) (rest : List Float) (on : at ≤ length values) (left : rest ≡ drop at values) (each : size ≡ b) where
  pub next_there : (all more : List Float) → rest ≡ all ++ more → length all ≡ size → at + b ≤ length values
  next_there all more e l = omega (arith, ap length (sym e ∙ left), length-append all more, length-drop at values, l, on)

  pub too_few : length rest < size → length values < at + b
  too_few h = omega (arith, h, ap length left, length-drop at values)

-- ---- the loops: k runs are written, and k times n runs are behind
pub record Going (values : List Float) (n inner i : ℕ) (out₀ out rest : List Float) (size k : ℕ) : Type 0 where
  pub each : size ≡ n * inner
  pub on : k * (n * inner) ≤ length values
  pub left : rest ≡ drop (k * (n * inner)) values
  pub done : out ≡ run_values values n inner i (k * inner) ++ drop (k * inner) out₀

-- ---- a turn: run i of the next n is written after those that are there
module _ (values : List Float) (n inner i k : ℕ) (within : i * inner + inner ≤ n * inner) (all rest : List Float) (next : drop (k * (n * inner)) values ≡ all ++ rest) (long : length all ≡ n * inner) where
  abbrev run : List Float
  run = take (i * inner + inner - i * inner) (drop (i * inner) all)

  long_run : length run ≡ inner
  long_run = omega (arith, length-take (i * inner + inner - i * inner) (drop (i * inner) all), length-drop (i * inner) all, long, within)

  value : (j : ℕ) → j < inner → get_or all (i * inner + j) nan ≡ get_or values (run_place n inner i (k * inner + j)) nan
  value j l =
      let inside : i * inner + j < length all = omega (arith, long, within) in
      let placed : k * (n * inner) + (i * inner + j) ≡ run_place n inner i (k * inner + j) =
      horner k n i inner j ∙ ap₂ (λ (q r : ℕ). (q * n + i) * inner + r) (sym (radix_div k inner j l)) (sym (radix_mod k inner j l)) in
      sym (get_or-append all rest nan (i * inner + j) inside)
      ∙ ap (λ (l : List Float). get_or l (i * inner + j) nan) (sym next)
      ∙ get_or-drop (k * (n * inner)) values (i * inner + j) nan
      ∙ ap (λ (m : ℕ). get_or values m nan) placed

  item : (j : ℕ) → j < inner → get_or run j nan ≡ get_or values (run_place n inner i (k * inner + j)) nan
  item j l =
      let near : j < i * inner + inner - i * inner = omega arith in
      get_or-take (i * inner + inner - i * inner) (drop (i * inner) all) j nan near ∙ get_or-drop (i * inner) all j nan ∙ value j l

  run_is : run ≡ tabulate inner (λ j. get_or values (run_place n inner i (k * inner + j)) nan)
  run_is = listed run ∙ ap (λ (m : ℕ). tabulate m (λ j. get_or run j nan)) long_run ∙ tabulate_same inner _ _ item

  pub rest_left : rest ≡ drop ((k + 1) * (n * inner)) values
  rest_left =
      let far : k * (n * inner) + n * inner ≡ (k + 1) * (n * inner) = omega (arith, add-mul k 1 (n * inner), one-mul (n * inner)) in
      sym (drop_at all rest (n * inner) long) ∙ ap (drop (n * inner)) (sym next) ∙ drop-drop (n * inner) (k * (n * inner)) values ∙ ap (λ (m : ℕ). drop m values) far

  pub run_put : (out₀ out part : List Float) → out ≡ run_values values n inner i (k * inner) ++ drop (k * inner) out₀ → part ≡ run
      → put_mid (k * inner) (k * inner + inner - k * inner) out part ≡ run_values values n inner i ((k + 1) * inner) ++ drop ((k + 1) * inner) out₀
  run_put out₀ out part e p =
      let there : length (run_values values n inner i (k * inner)) ≡ k * inner = length-tabulate (k * inner) (λ t. get_or values (run_place n inner i t) nan) in
      let written : take (k * inner) out ≡ run_values values n inner i (k * inner) = ap (take (k * inner)) e ∙ take_at (run_values values n inner i (k * inner)) (drop (k * inner) out₀) (k * inner) there in
      let beyond : drop (k * inner) out ≡ drop (k * inner) out₀ = ap (drop (k * inner)) e ∙ drop_at (run_values values n inner i (k * inner)) (drop (k * inner) out₀) (k * inner) there in
      let next_run : k * inner + inner ≡ (k + 1) * inner = omega (arith, add-mul k 1 inner, one-mul inner) in
      let next_open : k * inner + (k * inner + inner - k * inner) ≡ (k + 1) * inner = omega (arith, next_run) in
      ap₂ (λ (xs ys : List Float). xs ++ (part ++ drop (k * inner + inner - k * inner) ys)) written beyond
      ∙ ap (λ (ys : List Float). run_values values n inner i (k * inner) ++ (part ++ ys)) (drop-drop (k * inner + inner - k * inner) (k * inner) out₀ ∙ ap (λ (m : ℕ). drop m out₀) next_open)
      ∙ sym (append_assoc (run_values values n inner i (k * inner)) part (drop ((k + 1) * inner) out₀))
      ∙ ap (λ (xs : List Float). xs ++ drop ((k + 1) * inner) out₀)
      (ap (λ (xs : List Float). run_values values n inner i (k * inner) ++ xs) (p ∙ run_is) ∙ sym (tabulate-append (k * inner) inner (λ t. get_or values (run_place n inner i t) nan)) ∙ ap (run_values values n inner i) next_run)

-- ---- the same where a run is one value
pub value_put : (values : List Float) (n i k : ℕ) → i * 1 + 1 ≤ n * 1 → (all rest : List Float) → drop (k * (n * 1)) values ≡ all ++ rest → length all ≡ n * 1
    → (out₀ out : List Float) → out ≡ run_values values n 1 i (k * 1) ++ drop (k * 1) out₀ → k < length out₀
    → set out k (get_or all i nan) ≡ run_values values n 1 i ((k + 1) * 1) ++ drop ((k + 1) * 1) out₀
value_put values n i k within all rest next long out₀ out e room =
    let one : k * 1 ≡ k = omega arith in
    let here : get_or all i nan ≡ get_or values (run_place n 1 i k) nan =
    ap (λ (m : ℕ). get_or all m nan) (omega arith)
    ∙ value values n 1 i k within all rest next long 0 (omega arith)
    ∙ ap (λ (m : ℕ). get_or values (run_place n 1 i m) nan) (omega arith) in
    ap₂ (λ (xs : List Float) (x : Float). set xs k x) (e ∙ ap (λ (m : ℕ). run_values values n 1 i m ++ drop m out₀) one) here
    ∙ tabulate-step k (λ t. get_or values (run_place n 1 i t) nan) out₀ room
    ∙ ap (λ (m : ℕ). run_values values n 1 i m ++ drop m out₀) (omega arith)

-- ---- a run copied value by value
copied_suc : (xs d : List Float) (j : ℕ) → j < length xs → length xs ≡ length d → set (take j xs ++ drop j d) j (get_or xs j nan) ≡ take (suc j) xs ++ drop (suc j) d
copied_suc [] d j h e = absurd (omega arith)
copied_suc (x ∷ xs) [] j h e = absurd (omega arith)
copied_suc (x ∷ xs) (y ∷ d) zero h e = refl
copied_suc (x ∷ xs) (y ∷ d) (suc j) h e = ap (λ (l : List Float). x ∷ l) (copied_suc xs d j (omega arith) (omega arith))

pub copied : (xs d to : List Float) (j : ℕ) → j < length xs → length xs ≡ length d → to ≡ take j xs ++ drop j d → set to j (get_or xs j nan) ≡ take (j + 1) xs ++ drop (j + 1) d
copied xs d to j h e w =
    let same : set to j (get_or xs j nan) ≡ set (take j xs ++ drop j d) j (get_or xs j nan) = ap (λ (l : List Float). set l j (get_or xs j nan)) w in
    same ∙ copied_suc xs d j h e ∙ ap (λ (k : ℕ). take k xs ++ drop k d) (sym (add-one j))
