-- The laws of bytes moved to the front.
use mathlib.Core.Path.{◌≡◌, sym, ap, ◌∙◌}
use mathlib.Core.Bool.{Bool, cond}
use mathlib.Core.List.{List, ◌++◌}
use Prim.Native.Nat.{ℕ, ◌+◌, ◌-◌, ◌≤◌, ◌<◌}
use native.Mathlib.Nat.{zero-add}
use native.Mathlib.Omega.{arith}
use lib.ListN.{length, take, drop, length-take, length-drop}
use lib.Seq.{paste, take_at}
use Rattle.std.specs.List.{copy_within}
use borrow.Author.Tests.{le-leb, lt-leb}
use Rattle.lines.specs.Put.{room_for}
use Rattle.program.specs.Scaffolding.{shifted}

module _ (a : List ℕ) (from n : ℕ) where
  there : from + n ≤ length a → shifted a from n ≡ take n (drop from a) ++ drop n a
  unfolding shifted room_for
  there h = ap (λ (t : Bool). cond t (take n (drop from a) ++ drop n a) a) (le-leb (from + n) (length a) h)

  pub shift_left : length a < from + n → a ≡ shifted a from n
  unfolding shifted room_for
  shift_left h = ap (λ (t : Bool). cond t (take n (drop from a) ++ drop n a) a) (sym (lt-leb (from + n) (length a) h))

  pub shift_there : from ≤ length a → n ≤ length a - from → copy_within a from (from + n) 0 ≡ shifted a from n
  shift_there h k =
      let m : from + n - from ≡ n = omega arith in
      ap (paste a 0 (drop from a)) m
      ∙ ap (λ (i : ℕ). take n (drop from a) ++ drop i a) (zero-add n)
      ∙ sym (there (omega (arith, h, k)))

  -- ---- for callers: the bytes are at the front
  moved_length : from + n ≤ length a → length (take n (drop from a)) ≡ n
  moved_length h = simp (length-take, length-drop) (omega arith)

  pub shifted_front : from + n ≤ length a → take n (shifted a from n) ≡ take n (drop from a)
  shifted_front h = ap (take n) (there h) ∙ take_at (take n (drop from a)) (drop n a) n (moved_length h)
