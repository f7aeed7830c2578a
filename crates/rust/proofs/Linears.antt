-- Linear's text, which removes the exact axes from the last to the first and then locates again, is its text over the locations of all axes. Assumes nothing.
use Rattle.std.proofs.Common.{Option, Some, None}
use mathlib.Core.Path.{◌≡◌, refl, sym, ap, ap₂, ◌∙◌, subst}
use mathlib.Core.Bool.{Bool, true, false, cond}
use mathlib.Core.List.{List, [], ◌∷◌}
use Prim.Native.Nat.{ℕ, zero, suc, ◌^◌, ◌≤◌, ◌<◌}
use native.Mathlib.Nat.{mul-le-mul_right}
use native.Mathlib.Omega.{arith}
use borrow.Author.Tests.{eq-eqb, ne_eqb}
use lib.Dec.{eqb}
use lib.ListN.{length, get_or}
use lib.Ieee.{Float}
use Rattle.layout.specs.Shape.{size}
use Rattle.layout.specs.Layout.{tabulate, insert}
use Rattle.layout.proofs.Layouts.{size-cons, size_nil, length-tabulate, tabulate_same}
use Rattle.rust.specs.Utils.{at, frac_of, locate_lower_index, exact_index, matched, locate_axis}
use Rattle.rust.specs.Strategies.{Reduced, removed, reduced_at, reduced, vals_of, butterfly_from, blended_from, linear_text, uniform_lower, uniform_diff, zipped, linear_uniform_text}
use Rattle.rust.proofs.Located.{corner, corners, view, lowers, rust_linear}
use Rattle.rust.specs.Scaffolding.{butterfly, diffs}
use Rattle.rust.proofs.Passes.{blend_text}
use Rattle.rust.specs.declared.AxisLocation.{AxisLocation}
use Rattle.rust.specs.declared.AxisLocation.TheVariants.{Exact, Between}

-- a grid, a point and a shape of as many axes, no axis empty and each count 2 or more
abbrev pub Fitting : List (List Float) → List Float → List ℕ → Type 0
Fitting [] [] [] = Unit
Fitting [] [] (c ∷ cs) = ⊥
Fitting [] (p ∷ ps) cs = ⊥
Fitting (x ∷ xs) [] cs = ⊥
Fitting (x ∷ xs) (p ∷ ps) [] = ⊥
Fitting (x ∷ xs) (p ∷ ps) (c ∷ cs) = (1 ≤ length x) × ((2 ≤ c) × Fitting xs ps cs)

abbrev start : List (List Float) → List Float → List ℕ → (List ℕ → Float) → Reduced
start xs ps cs g = record { point = ps; grid = xs; shape = cs; values = g }

-- ---- the loop, axis 0 apart
abbrev onto : List Float → Float → ℕ → Reduced → (List ℕ → Float) → Reduced
onto x p c t v = record { point = p ∷ t.point; grid = x ∷ t.grid; shape = c ∷ t.shape; values = v }

upper : ℕ → Reduced → Reduced
upper zero s = s
upper (suc dim) s = upper dim (reduced_at (suc dim) s)

first-last : (m : ℕ) (s : Reduced) → reduced (suc m) s ≡ reduced_at 0 (upper m s)
unfolding upper
first-last zero s = refl
first-last (suc m) s = first-last m (reduced_at (suc m) s)

-- t is what s has behind its first axis, at node j of that axis
record Behind (x : List Float) (p : Float) (c j : ℕ) (s t : Reduced) : Type 0 where
  same : s ≡ onto x p c t s.values
  valued : (is : List ℕ) → s.values (j ∷ is) ≡ t.values is

module _ (x : List Float) (p : Float) (c j : ℕ) where
  turn : (dim : ℕ) (t : Reduced) (v : List ℕ → Float) → ((is : List ℕ) → v (j ∷ is) ≡ t.values is) → Behind x p c j (reduced_at (suc dim) (onto x p c t v)) (reduced_at dim t)
  turn dim t v h = go (eqb (length (get_or t.grid dim [])) 0) (exact_index (get_or t.grid dim []) (locate_lower_index (get_or t.grid dim []) (at t.point dim)) (at t.point dim))
    where
      go : (b : Bool) (m : Option ℕ) → Behind x p c j (cond b (onto x p c t v) (removed m (suc dim) (onto x p c t v))) (cond b t (removed m dim t))
      go true m = record { same = refl; valued = h }
      go false None = record { same = refl; valued = h }
      go false (Some pos) = record { same = refl; valued = λ is. h (insert dim pos is) }

  behind_turn : (dim : ℕ) (s t : Reduced) → Behind x p c j s t → Behind x p c j (reduced_at (suc dim) s) (reduced_at dim t)
  behind_turn dim s t b = subst (λ (z : Reduced). Behind x p c j (reduced_at (suc dim) z) (reduced_at dim t)) (sym b.same) (turn dim t s.values b.valued)

  behind : (m : ℕ) (s t : Reduced) → Behind x p c j s t → Behind x p c j (upper m s) (reduced m t)
  unfolding upper
  behind zero s t b = b
  behind (suc m) s t b = behind m (reduced_at (suc m) s) (reduced_at m t) (behind_turn m s t b)

-- ---- what is left after the loop
abbrev kept : {A : Type 0} → List AxisLocation → List A → List A
kept [] xs = xs
kept (q ∷ ls) [] = []
kept (Exact pos ∷ ls) (x ∷ xs) = kept ls xs
kept (Between lower frac ∷ ls) (x ∷ xs) = x ∷ kept ls xs

record Left (ls : List AxisLocation) (s t : Reduced) : Type 0 where
  points : t.point ≡ kept ls s.point
  grids : t.grid ≡ kept ls s.grid
  shapes : t.shape ≡ kept ls s.shape
  valued : (is : List ℕ) → length is ≡ length (lowers ls) → t.values is ≡ view ls s.values is

module _ (x : List Float) (p : Float) (c : ℕ) (xs : List (List Float)) (ps : List Float) (cs : List ℕ) (g : List ℕ → Float) (ls : List AxisLocation) (t : Reduced) (v : List ℕ → Float)
    (points : t.point ≡ kept ls ps) (grids : t.grid ≡ kept ls xs) (shapes : t.shape ≡ kept ls cs)
    (valued : (j : ℕ) (is : List ℕ) → length is ≡ length (lowers ls) → v (j ∷ is) ≡ view ls (λ js. g (j ∷ js)) is) where
  at_first : (m : Option ℕ) (lower : ℕ) (frac : Float) → Left (matched m lower frac ∷ ls) (start (x ∷ xs) (p ∷ ps) (c ∷ cs) g) (removed m 0 (onto x p c t v))
  at_first (Some pos) lower frac = record { points = points; grids = grids; shapes = shapes; valued = valued pos }
  at_first None lower frac = record { points = ap (λ r. p ∷ r) points; grids = ap (λ r. x ∷ r) grids; shapes = ap (λ r. c ∷ r) shapes; valued = each }
    where
      each : (is : List ℕ) → length is ≡ suc (length (lowers ls)) → v is ≡ view (Between lower frac ∷ ls) g is
      each [] e = absurd (omega arith)
      each (j ∷ is) e = valued j is (omega arith)

  first_left : 1 ≤ length x → Left (locate_axis x p ∷ ls) (start (x ∷ xs) (p ∷ ps) (c ∷ cs) g) (reduced_at 0 (onto x p c t v))
  unfolding locate_axis
  first_left some =
      subst (λ (b : Bool). Left (matched here lower frac ∷ ls) (start (x ∷ xs) (p ∷ ps) (c ∷ cs) g) (cond b (onto x p c t v) (removed here 0 (onto x p c t v))))
      (sym (ne_eqb (length x) 0 (λ e. omega arith)))
      (at_first here lower frac)
    where
      lower : ℕ
      lower = locate_lower_index x p

      frac : Float
      frac = frac_of x (locate_lower_index x p) p

      here : Option ℕ
      here = exact_index x (locate_lower_index x p) p

-- one axis more in front
left_more : (x : List Float) (p : Float) (c : ℕ) (xs : List (List Float)) (ps : List Float) (cs : List ℕ) (g : List ℕ → Float) (ls : List AxisLocation) → 1 ≤ length x
    → ((j : ℕ) → Left ls (start xs ps cs (λ is. g (j ∷ is))) (reduced (length cs) (start xs ps cs (λ is. g (j ∷ is)))))
    → Left (locate_axis x p ∷ ls) (start (x ∷ xs) (p ∷ ps) (c ∷ cs) g) (reduced (suc (length cs)) (start (x ∷ xs) (p ∷ ps) (c ∷ cs) g))
left_more x p c xs ps cs g ls some l =
    subst (λ (z : Reduced). Left (locate_axis x p ∷ ls) (start (x ∷ xs) (p ∷ ps) (c ∷ cs) g) z)
    (sym (first-last (length cs) (start (x ∷ xs) (p ∷ ps) (c ∷ cs) g) ∙ ap (reduced_at 0) (b 0).same))
    (first_left x p c xs ps cs g ls (reduced (length cs) (start xs ps cs (λ is. g (0 ∷ is)))) (upper (length cs) (start (x ∷ xs) (p ∷ ps) (c ∷ cs) g)).values (l 0).points (l 0).grids (l 0).shapes
    (λ j is e. (b j).valued is ∙ (l j).valued is e) some)
  where
    b : (j : ℕ) → Behind x p c j (upper (length cs) (start (x ∷ xs) (p ∷ ps) (c ∷ cs) g)) (reduced (length cs) (start xs ps cs (λ is. g (j ∷ is))))
    b j = behind x p c j (length cs) (start (x ∷ xs) (p ∷ ps) (c ∷ cs) g) (start xs ps cs (λ is. g (j ∷ is))) (record { same = refl; valued = λ is. refl })

left : (xs : List (List Float)) (ps : List Float) (cs : List ℕ) (g : List ℕ → Float) → Fitting xs ps cs → Left (zipped locate_axis xs ps) (start xs ps cs g) (reduced (length cs) (start xs ps cs g))
left [] [] [] g f = record { points = refl; grids = refl; shapes = refl; valued = λ is e. refl }
left [] [] (c ∷ cs) g f = absurd f
left [] (p ∷ ps) cs g f = absurd f
left (x ∷ xs) [] cs g f = absurd f
left (x ∷ xs) (p ∷ ps) [] g f = absurd f
left (x ∷ xs) (p ∷ ps) (c ∷ cs) g f = left_more x p c xs ps cs g (zipped locate_axis xs ps) f.0 (λ j. left xs ps cs (λ is. g (j ∷ is)) f.1.1)

-- ---- locating again on the axes that are left gives what the locations have
module _ (x : List Float) (p : Float) (c : ℕ) (xs : List (List Float)) (ps : List Float) (cs : List ℕ) (ls : List AxisLocation) where
  lowers_more : tabulate (length (kept ls cs)) (λ dim. locate_lower_index (get_or (kept ls xs) dim []) (at (kept ls ps) dim)) ≡ lowers ls
      → tabulate (length (kept (locate_axis x p ∷ ls) (c ∷ cs))) (λ dim. locate_lower_index (get_or (kept (locate_axis x p ∷ ls) (x ∷ xs)) dim []) (at (kept (locate_axis x p ∷ ls) (p ∷ ps)) dim)) ≡ lowers (locate_axis x p ∷ ls)
  unfolding locate_axis
  lowers_more e = go (exact_index x (locate_lower_index x p) p)
    where
      go : (m : Option ℕ) → let l = matched m (locate_lower_index x p) (frac_of x (locate_lower_index x p) p) in
          tabulate (length (kept (l ∷ ls) (c ∷ cs))) (λ dim. locate_lower_index (get_or (kept (l ∷ ls) (x ∷ xs)) dim []) (at (kept (l ∷ ls) (p ∷ ps)) dim)) ≡ lowers (l ∷ ls)
      go (Some pos) = e
      go None = ap (λ r. locate_lower_index x p ∷ r) e

  diffs-more : tabulate (length (kept ls cs)) (λ dim. frac_of (get_or (kept ls xs) dim []) (locate_lower_index (get_or (kept ls xs) dim []) (at (kept ls ps) dim)) (at (kept ls ps) dim)) ≡ diffs ls
      → tabulate (length (kept (locate_axis x p ∷ ls) (c ∷ cs)))
      (λ dim. frac_of (get_or (kept (locate_axis x p ∷ ls) (x ∷ xs)) dim []) (locate_lower_index (get_or (kept (locate_axis x p ∷ ls) (x ∷ xs)) dim []) (at (kept (locate_axis x p ∷ ls) (p ∷ ps)) dim)) (at (kept (locate_axis x p ∷ ls) (p ∷ ps)) dim))
      ≡ diffs (locate_axis x p ∷ ls)
  unfolding locate_axis
  diffs-more e = go (exact_index x (locate_lower_index x p) p)
    where
      go : (m : Option ℕ) → let l = matched m (locate_lower_index x p) (frac_of x (locate_lower_index x p) p) in
          tabulate (length (kept (l ∷ ls) (c ∷ cs))) (λ dim. frac_of (get_or (kept (l ∷ ls) (x ∷ xs)) dim []) (locate_lower_index (get_or (kept (l ∷ ls) (x ∷ xs)) dim []) (at (kept (l ∷ ls) (p ∷ ps)) dim)) (at (kept (l ∷ ls) (p ∷ ps)) dim)) ≡ diffs (l ∷ ls)
      go (Some pos) = e
      go None = ap (λ r. frac_of x (locate_lower_index x p) p ∷ r) e

lowers_left : (xs : List (List Float)) (ps : List Float) (cs : List ℕ) → Fitting xs ps cs
    → tabulate (length (kept (zipped locate_axis xs ps) cs)) (λ dim. locate_lower_index (get_or (kept (zipped locate_axis xs ps) xs) dim []) (at (kept (zipped locate_axis xs ps) ps) dim)) ≡ lowers (zipped locate_axis xs ps)
lowers_left [] [] [] f = refl
lowers_left [] [] (c ∷ cs) f = absurd f
lowers_left [] (p ∷ ps) cs f = absurd f
lowers_left (x ∷ xs) [] cs f = absurd f
lowers_left (x ∷ xs) (p ∷ ps) [] f = absurd f
lowers_left (x ∷ xs) (p ∷ ps) (c ∷ cs) f = lowers_more x p c xs ps cs (zipped locate_axis xs ps) (lowers_left xs ps cs f.1.1)

diffs_left : (xs : List (List Float)) (ps : List Float) (cs : List ℕ) → Fitting xs ps cs
    → tabulate (length (kept (zipped locate_axis xs ps) cs))
    (λ dim. frac_of (get_or (kept (zipped locate_axis xs ps) xs) dim []) (locate_lower_index (get_or (kept (zipped locate_axis xs ps) xs) dim []) (at (kept (zipped locate_axis xs ps) ps) dim)) (at (kept (zipped locate_axis xs ps) ps) dim)) ≡ diffs (zipped locate_axis xs ps)
diffs_left [] [] [] f = refl
diffs_left [] [] (c ∷ cs) f = absurd f
diffs_left [] (p ∷ ps) cs f = absurd f
diffs_left (x ∷ xs) [] cs f = absurd f
diffs_left (x ∷ xs) (p ∷ ps) [] f = absurd f
diffs_left (x ∷ xs) (p ∷ ps) (c ∷ cs) f = diffs-more x p c xs ps cs (zipped locate_axis xs ps) (diffs_left xs ps cs f.1.1)

-- ---- the values that are left are one exactly where no axis is
abbrev Wide : List ℕ → Type 0
Wide [] = Unit
Wide (c ∷ cs) = (2 ≤ c) × Wide cs

wide_size : (cs : List ℕ) → Wide cs → 1 ≤ size cs
wide_size [] w = omega (arith, size_nil)
wide_size (c ∷ cs) w = omega (arith, size-cons c cs, mul-le-mul_right (size cs) w.0, wide_size cs w.1)

wide_kept : (ls : List AxisLocation) (cs : List ℕ) → Wide cs → Wide (kept ls cs)
wide_kept [] cs w = w
wide_kept (q ∷ ls) [] w = tt
wide_kept (Exact pos ∷ ls) (c ∷ cs) w = wide_kept ls cs w.1
wide_kept (Between lower frac ∷ ls) (c ∷ cs) w = (w.0, wide_kept ls cs w.1)

fitting_wide : (xs : List (List Float)) (ps : List Float) (cs : List ℕ) → Fitting xs ps cs → Wide cs
fitting_wide [] [] [] f = tt
fitting_wide [] [] (c ∷ cs) f = absurd f
fitting_wide [] (p ∷ ps) cs f = absurd f
fitting_wide (x ∷ xs) [] cs f = absurd f
fitting_wide (x ∷ xs) (p ∷ ps) [] f = absurd f
fitting_wide (x ∷ xs) (p ∷ ps) (c ∷ cs) f = (f.1.0, fitting_wide xs ps cs f.1.1)

-- ---- the end of the text, of any values that are as the locations leave them
pub length_lowers : (ls : List AxisLocation) → length (lowers ls) ≡ length (diffs ls)
length_lowers [] = refl
length_lowers (Exact pos ∷ ls) = length_lowers ls
length_lowers (Between lower frac ∷ ls) = ap suc (length_lowers ls)

length_kept : (xs : List (List Float)) (ps : List Float) (cs : List ℕ) → Fitting xs ps cs → length (kept (zipped locate_axis xs ps) cs) ≡ length (lowers (zipped locate_axis xs ps))
length_kept xs ps cs f = sym (length-tabulate (length (kept (zipped locate_axis xs ps) cs)) _) ∙ ap length (lowers_left xs ps cs f)

length_corner : (ns : List ℕ) (mask : ℕ) → length (corner ns mask) ≡ length ns
length_corner [] mask = refl
length_corner (n ∷ ns) mask = ap suc (length_corner ns mask)

corners_same : (ns : List ℕ) (g h : List ℕ → Float) → ((is : List ℕ) → length is ≡ length ns → h is ≡ g is) → corners ns h ≡ corners ns g
unfolding corners
corners_same ns g h e = tabulate_same (2 ^ length ns) _ _ (λ mask l. e (corner ns mask) (length_corner ns mask))

alone : (ns : List ℕ) (fs : List Float) (g : List ℕ → Float) → length ns ≡ 0 → length fs ≡ 0 → butterfly fs (corners ns g) ≡ g []
unfolding butterfly corners
alone [] [] g n f = refl
alone [] (x ∷ fs) g n f = absurd (omega arith)
alone (i ∷ ns) fs g n f = absurd (omega arith)

module _ (ls : List AxisLocation) (g h : List ℕ → Float) (valued : (is : List ℕ) → length is ≡ length (lowers ls) → h is ≡ view ls g is) where
  ended : (cs : List ℕ) → Wide cs → length cs ≡ length (lowers ls)
      → cond (eqb (size cs) 1) (h (tabulate (length cs) (λ dim. 0))) (butterfly_from (length cs) 0 (diffs ls) (vals_of (length cs) (lowers ls) h)) ≡ rust_linear ls g
  unfolding rust_linear
  ended [] w n =
      ap (λ (b : Bool). cond b (h []) (butterfly_from 0 0 (diffs ls) (vals_of 0 (lowers ls) h))) (eq-eqb (size []) 1 size_nil)
      ∙ valued [] n
      ∙ sym (alone (lowers ls) (diffs ls) (view ls g) (sym n) (sym (n ∙ length_lowers ls)))
  ended (c ∷ cs) w n =
      ap (λ (b : Bool). cond b (h (tabulate (suc (length cs)) (λ dim. 0))) (butterfly_from (suc (length cs)) 0 (diffs ls) (vals_of (suc (length cs)) (lowers ls) h)))
      (ne_eqb (size (c ∷ cs)) 1 (λ e. omega (arith, e, size-cons c cs, mul-le-mul_right (size cs) w.0, wide_size cs w.1)))
      ∙ blend_text (suc (length cs)) (lowers ls) (diffs ls) h n (n ∙ length_lowers ls)
      ∙ ap (butterfly (diffs ls)) (corners_same (lowers ls) (view ls g) h valued)

-- what the text makes of the axes that are left
blended_left : (ls : List AxisLocation) (s t : Reduced) → Left ls s t
    → tabulate (length (kept ls s.shape)) (λ dim. locate_lower_index (get_or (kept ls s.grid) dim []) (at (kept ls s.point) dim)) ≡ lowers ls
    → tabulate (length (kept ls s.shape)) (λ dim. frac_of (get_or (kept ls s.grid) dim []) (locate_lower_index (get_or (kept ls s.grid) dim []) (at (kept ls s.point) dim)) (at (kept ls s.point) dim)) ≡ diffs ls
    → Wide (kept ls s.shape) → length (kept ls s.shape) ≡ length (lowers ls) → blended_from t ≡ rust_linear ls s.values
blended_left ls s t l e d w n =
    ap blended_from same
    ∙ ap₂ (λ (fs : List Float) (ns : List ℕ). cond (eqb (size (kept ls s.shape)) 1) (t.values (tabulate (length (kept ls s.shape)) (λ dim. 0)))
    (butterfly_from (length (kept ls s.shape)) 0 fs (vals_of (length (kept ls s.shape)) ns t.values))) d e
    ∙ ended ls s.values t.values l.valued (kept ls s.shape) w n
  where
    same : t ≡ start (kept ls s.grid) (kept ls s.point) (kept ls s.shape) t.values
    same =
        ap (λ z. start z t.point t.shape t.values) l.grids
        ∙ ap (λ z. start (kept ls s.grid) z t.shape t.values) l.points
        ∙ ap (λ z. start (kept ls s.grid) (kept ls s.point) z t.values) l.shapes

-- Linear's text is the text over the locations of all axes
pub linear-located : (xs : List (List Float)) (ps : List Float) (cs : List ℕ) (g : List ℕ → Float) → Fitting xs ps cs → linear_text cs g xs ps ≡ rust_linear (zipped locate_axis xs ps) g
unfolding linear_text
linear-located xs ps cs g f =
    blended_left (zipped locate_axis xs ps) (start xs ps cs g) (reduced (length cs) (start xs ps cs g)) (left xs ps cs g f) (lowers_left xs ps cs f) (diffs_left xs ps cs f)
    (wide_kept (zipped locate_axis xs ps) cs (fitting_wide xs ps cs f)) (length_kept xs ps cs f)

-- ---- axis by axis, as lists and by number
pub zipped-tabulate : {A : Type 0} (push : List Float → Float → A) (xs : List (List Float)) (ps : List Float) → length ps ≡ length xs → zipped push xs ps ≡ tabulate (length xs) (λ a. push (get_or xs a []) (at ps a))
zipped-tabulate push [] ps e = refl
zipped-tabulate push (x ∷ xs) [] e = absurd (omega arith)
zipped-tabulate push (x ∷ xs) (p ∷ ps) e = ap (λ r. push x p ∷ r) (zipped-tabulate push xs ps (omega arith))

-- ---- LinearUniform's text, which has no exact axis
abbrev pub uniform_at : List Float → Float → AxisLocation
uniform_at x p = Between (uniform_lower x p) (uniform_diff x p)

zipped_lowers : (xs : List (List Float)) (ps : List Float) → zipped uniform_lower xs ps ≡ lowers (zipped uniform_at xs ps)
zipped_lowers [] ps = refl
zipped_lowers (x ∷ xs) [] = refl
zipped_lowers (x ∷ xs) (p ∷ ps) = ap (λ r. uniform_lower x p ∷ r) (zipped_lowers xs ps)

zipped-diffs : (xs : List (List Float)) (ps : List Float) → zipped uniform_diff xs ps ≡ diffs (zipped uniform_at xs ps)
zipped-diffs [] ps = refl
zipped-diffs (x ∷ xs) [] = refl
zipped-diffs (x ∷ xs) (p ∷ ps) = ap (λ r. uniform_diff x p ∷ r) (zipped-diffs xs ps)

view_all : (xs : List (List Float)) (ps : List Float) (g : List ℕ → Float) (is : List ℕ) → length is ≡ length (lowers (zipped uniform_at xs ps)) → g is ≡ view (zipped uniform_at xs ps) g is
view_all [] ps g is e = refl
view_all (x ∷ xs) [] g is e = refl
view_all (x ∷ xs) (p ∷ ps) g [] e = absurd (omega arith)
view_all (x ∷ xs) (p ∷ ps) g (j ∷ is) e = view_all xs ps (λ js. g (j ∷ js)) is (omega arith)

pub linear_uniform-located : (xs : List (List Float)) (ps : List Float) (cs : List ℕ) (g : List ℕ → Float) → length ps ≡ length xs → length cs ≡ length xs
    → linear_uniform_text cs g xs ps ≡ rust_linear (zipped uniform_at xs ps) g
unfolding linear_uniform_text rust_linear
linear_uniform-located xs ps cs g e n =
    ap₂ (λ (fs : List Float) (ns : List ℕ). butterfly_from (length cs) 0 fs (vals_of (length cs) ns g)) (zipped-diffs xs ps) (zipped_lowers xs ps)
    ∙ blend_text (length cs) (lowers (zipped uniform_at xs ps)) (diffs (zipped uniform_at xs ps)) g many (many ∙ length_lowers (zipped uniform_at xs ps))
    ∙ ap (butterfly (diffs (zipped uniform_at xs ps))) (corners_same (lowers (zipped uniform_at xs ps)) (view (zipped uniform_at xs ps) g) g (view_all xs ps g))
  where
    many : length cs ≡ length (lowers (zipped uniform_at xs ps))
    many = n ∙ sym (length-tabulate (length xs) _) ∙ sym (ap length (zipped-tabulate uniform_lower xs ps e)) ∙ ap length (zipped_lowers xs ps)

pub fitting : (xs : List (List Float)) (ps : List Float) (cs : List ℕ) → length xs ≡ length cs → length ps ≡ length cs
    → ((a : ℕ) → a < length cs → 1 ≤ length (get_or xs a [])) → ((a : ℕ) → a < length cs → 2 ≤ get_or cs a 0) → Fitting xs ps cs
fitting [] [] [] x p some wide = tt
fitting [] [] (c ∷ cs) x p some wide = absurd (omega arith)
fitting [] (q ∷ ps) [] x p some wide = absurd (omega arith)
fitting [] (q ∷ ps) (c ∷ cs) x p some wide = absurd (omega arith)
fitting (y ∷ xs) [] [] x p some wide = absurd (omega arith)
fitting (y ∷ xs) [] (c ∷ cs) x p some wide = absurd (omega arith)
fitting (y ∷ xs) (q ∷ ps) [] x p some wide = absurd (omega arith)
fitting (y ∷ xs) (q ∷ ps) (c ∷ cs) x p some wide =
    (some 0 (omega arith), (wide 0 (omega arith), fitting xs ps cs (omega arith) (omega arith) (λ a l. some (suc a) (omega arith)) (λ a l. wide (suc a) (omega arith))))
