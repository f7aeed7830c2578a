-- Request C-12: accepted images become fewer, and nothing else changes. Assumes nothing.
use mathlib.Core.Path.{◌≡◌, refl, sym, ap, ap₂, ◌∙◌}
use mathlib.Core.Bool.{Bool, true, false}
use mathlib.Core.List.{List}
use mathlib.Core.Logic.{◌⊎◌, inl, inr}
use Prim.Native.Nat.{ℕ, zero, suc, ◌+◌, ◌*◌, ◌≤◌}
use native.Mathlib.Omega.{arith}
use lib.Dec.{ltb, lit≤}
use lib.ListN.{length}
use Rattle.answer.specs.Faults.{Fault, refusal, no_fault, good, ◌or◌, first_fault}
use Rattle.answer.proofs.Numbers.{when_upto, or_upto, first_upto}
use Rattle.answer.proofs.Orders as orders
use Rattle.answer.proofs.Tests.{either}
use Rattle.checks.specs.Numbers.{axes_count_fault, count_fault, product_fault, field_fault, short_fault, stated_fault, area_fault, room_fault, finite_fault, rise_fault, node_fault, nodes_fault, axes_fault, value_fault, values_fault}
use Rattle.layout.specs.Shape.{counts_of, size}
use Rattle.layout.specs.declared.Shape.{Shape}
use Rattle.image.specs.Fields.{axes_field, count_field, offset_field, values_field, shape_of}
use Rattle.image.specs.Head.{start_fault, count_row, offset_row, head_fault}
use Rattle.image.specs.Load.{area_row, areas_fault, pairs_fault, rooms_fault, contents_fault, load_fault, load_fault01}
use Rattle.image.specs.Shared.{Apart, Lowest}
use Rattle.image.proofs.Sharing.{axis_begins, axis_holds, values_begin, values_hold}
use Rattle.image.proofs.Pairs.{pairs_none, pairs_tell, pairs_lowest}

-- ---- document 01's 14: the axes' areas, then the values'
-- the last place of several, apart
last_apart : (f : ℕ → Fault) (i k n : ℕ) → i + k ≡ n → first_fault f i (suc k) ≡ (first_fault f i k or first_fault f n 1)
unfolding first_fault
last_apart f i zero n e = sym (orders.or_no_fault (first_fault f i 1)) ∙ ap (λ (m : ℕ). no_fault or first_fault f m 1) (omega (arith, e))
last_apart f i (suc k) n e = ap (λ (x : Fault). f i or x) (last_apart f (suc i) k n (omega (arith, e))) ∙ sym (orders.or_assoc (f i) (first_fault f (suc i) k) (first_fault f n 1))

-- one place alone
alone : (len k at n : ℕ) → (area_fault len k at n or no_fault) ≡ area_fault len k at n
unfolding area_fault
alone len k at n = go (good (area_fault len k at n)) refl
  where
    go : (b : Bool) → good (area_fault len k at n) ≡ b → (area_fault len k at n or no_fault) ≡ area_fault len k at n
    go true e = orders.or_good _ _ e ∙ orders.row_passed _ 13 k 0 (orders.row_good _ 13 k 0 e)
    go false e = orders.or_bad _ _ e

pub areas_before : (img : List ℕ) → areas_fault img ≡ (first_fault (λ a. area_fault (length img) a (offset_field img a) (count_field img a)) 0 (axes_field img) or area_fault (length img) (axes_field img) (values_field img) (size (counts_of (shape_of img))))
unfolding areas_fault first_fault
areas_before img =
    ap (first_fault (area_row img) 0) more
    ∙ last_apart (area_row img) 0 (axes_field img) (axes_field img) (omega arith)
    ∙ ap₂ (λ (x y : Fault). x or y)
    (orders.first_same (area_row img) _ 0 (axes_field img) (λ a l m. ap₂ (area_fault (length img) a) (axis_begins img a (omega (arith, m))) (axis_holds img a (omega (arith, m)))))
    (alone _ _ _ _ ∙ ap₂ (area_fault (length img) (axes_field img)) (values_begin img (axes_field img) (omega arith)) (values_hold img (axes_field img) (omega arith)))
  where
    more : axes_field img + 1 ≡ suc (axes_field img)
    more = omega arith

-- ---- document 01's numbers: none is above 15
ruleset upto = (or_upto, when_upto, first_upto, lit≤)

module _ (img : List ℕ) where
  counts_upto : (a : ℕ) → (count_row img a).number ≤ 15
  unfolding count_row count_fault field_fault refusal
  counts_upto a = either (λ (f : Fault). f.number ≤ 15) (ltb a (axes_field img)) (count_fault a (count_field img a)) (field_fault (8 + 2 * a) 0 (count_field img a)) (search upto) (search upto)

  head_upto : (head_fault img).number ≤ 15
  unfolding head_fault start_fault offset_row short_fault field_fault axes_count_fault stated_fault product_fault refusal
  head_upto = search (upto, counts_upto) depth 12

  areas_upto : (areas_fault img).number ≤ 15
  unfolding areas_fault area_fault refusal
  areas_upto = search upto

  contents_upto : (contents_fault img).number ≤ 15
  unfolding contents_fault axes_fault nodes_fault node_fault finite_fault rise_fault values_fault value_fault refusal
  contents_upto = search upto depth 12

rooms_upto : (s : Shape) (nodes values : ℕ) → (rooms_fault s nodes values).number ≤ 15
unfolding rooms_fault room_fault refusal
rooms_upto s nodes values = search upto

-- ---- a check that comes third of four: it is what is told, or it changes nothing
module _ (a b c d : Fault) where
  pub past_third : good c ≡ true → (a or b or c or d) ≡ (a or b or d)
  past_third h = ap (λ (f : Fault). a or b or f) (orders.or_good c d h)

  pub third : ((good a ≡ true) × ((good b ≡ true) × ((good c ≡ false) × ((a or b or c or d) ≡ c)))) ⊎ ((a or b or c or d) ≡ (a or b or d))
  third = go (good a) refl (good b) refl (good c) refl
    where
      go : (p : Bool) → good a ≡ p → (q : Bool) → good b ≡ q → (r : Bool) → good c ≡ r
          → ((good a ≡ true) × ((good b ≡ true) × ((good c ≡ false) × ((a or b or c or d) ≡ c)))) ⊎ ((a or b or c or d) ≡ (a or b or d))
      go false e q f r g = inr (orders.or_bad a (b or c or d) e ∙ sym (orders.or_bad a (b or d) e))
      go true e false f r g = inr (ap (λ (x : Fault). a or x) (orders.or_bad b (c or d) f ∙ sym (orders.or_bad b d f)))
      go true e true f true g = inr (past_third g)
      go true e true f false g = inl (e, (f, (g, orders.or_good a (b or c or d) e ∙ orders.or_good b (c or d) f ∙ orders.or_bad c d g)))

-- ---- 18, or document 01's answer
-- an image that is refused 18: what has passed before, and which two areas are told
pub record Told (img : List ℕ) (fault : Fault) : Type 0 where
  pub head : good (head_fault img) ≡ true
  pub areas : good (areas_fault img) ≡ true
  pub one : ℕ
  pub other : ℕ
  pub lowest : Lowest img one other
  pub is : fault ≡ refusal 18 one other

module _ (img : List ℕ) (nodes values : ℕ) where
  eighteen_or_not : Told img (load_fault img nodes values) ⊎ (load_fault img nodes values ≡ load_fault01 img nodes values)
  unfolding load_fault load_fault01
  eighteen_or_not = go (third (head_fault img) (areas_fault img) (pairs_fault img) (rooms_fault (shape_of img) nodes values or contents_fault img))
    where
      go : ((good (head_fault img) ≡ true) × ((good (areas_fault img) ≡ true) × ((good (pairs_fault img) ≡ false) × ((head_fault img or areas_fault img or pairs_fault img or rooms_fault (shape_of img) nodes values or contents_fault img) ≡ pairs_fault img))))
          ⊎ ((head_fault img or areas_fault img or pairs_fault img or rooms_fault (shape_of img) nodes values or contents_fault img) ≡ (head_fault img or areas_fault img or rooms_fault (shape_of img) nodes values or contents_fault img))
          → Told img (head_fault img or areas_fault img or pairs_fault img or rooms_fault (shape_of img) nodes values or contents_fault img)
          ⊎ ((head_fault img or areas_fault img or pairs_fault img or rooms_fault (shape_of img) nodes values or contents_fault img) ≡ (head_fault img or areas_fault img or rooms_fault (shape_of img) nodes values or contents_fault img))
      go (inl t) =
          let p = pairs_lowest img t.1.1.0 in
          inl (record { head = t.0; areas = t.1.0; one = p.0; other = p.1.0; lowest = p.1.1; is = t.1.1.1 ∙ pairs_tell img p.0 p.1.0 p.1.1 })
      go (inr e) = inr e

  load01_upto : (load_fault01 img nodes values).number ≤ 15
  unfolding load_fault01
  load01_upto = or_upto 15 _ _ (head_upto img) (or_upto 15 _ _ (areas_upto img) (or_upto 15 _ _ (rooms_upto (shape_of img) nodes values) (contents_upto img)))

  pub load_told : (load_fault img nodes values).number ≡ 18 → Told img (load_fault img nodes values)
  load_told h = go eighteen_or_not
    where
      go : Told img (load_fault img nodes values) ⊎ (load_fault img nodes values ≡ load_fault01 img nodes values) → Told img (load_fault img nodes values)
      go (inl t) = t
      go (inr e) = absurd (omega (arith, h, ap (λ (f : Fault). f.number) e, load01_upto))

  pub load_unchanged : ((load_fault img nodes values).number ≡ 18 → ⊥) → load_fault img nodes values ≡ load_fault01 img nodes values
  unfolding refusal
  load_unchanged h = go eighteen_or_not
    where
      go : Told img (load_fault img nodes values) ⊎ (load_fault img nodes values ≡ load_fault01 img nodes values) → load_fault img nodes values ≡ load_fault01 img nodes values
      go (inl t) = absurd (h (ap (λ (f : Fault). f.number) t.is))
      go (inr e) = e

  -- ---- what has no two areas that share a byte
  pub load_apart : Apart img → load_fault img nodes values ≡ load_fault01 img nodes values
  unfolding load_fault load_fault01
  load_apart h = past_third (head_fault img) (areas_fault img) (pairs_fault img) (rooms_fault (shape_of img) nodes values or contents_fault img) (ap good (pairs_none img h) ∙ orders.good-no_fault)

  -- ---- and where it is told
  pub load_eighteen : good (head_fault img) ≡ true → good (areas_fault img) ≡ true → (i j : ℕ) → Lowest img i j → load_fault img nodes values ≡ refusal 18 i j
  unfolding load_fault
  load_eighteen g k i j s =
      orders.or_good (head_fault img) _ g
      ∙ orders.or_good (areas_fault img) _ k
      ∙ orders.or_bad (pairs_fault img) (rooms_fault (shape_of img) nodes values or contents_fault img) (ap good (pairs_tell img i j s) ∙ orders.bad_refused 17 i j)
      ∙ pairs_tell img i j s
