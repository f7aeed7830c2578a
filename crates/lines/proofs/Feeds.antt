-- A block read after the bytes that are held.
use mathlib.Core.Path.{◌≡◌, sym, ap, ◌∙◌}
use mathlib.Core.List.{List, ◌++◌}
use Prim.Native.Nat.{ℕ, ◌+◌, ◌≤◌}
use native.Mathlib.Omega.{arith}
use lib.ListN.{length, take, length-append}
use lib.Seq.{length-take-le, take-append-add, take-append-le}
use Rattle.lines.specs.Scaffolding.{Filled}

pub filled : (b ys post : List ℕ) (held got : ℕ) → held ≤ length b → got ≤ length ys → Filled held b (take held b ++ (ys ++ post)) (held + got)
filled b ys post held got h g =
    let n : length (take held b) ≡ held = length-take-le held b h in
    record {
      block = take got ys;
      bytes =
          ap (λ (k : ℕ). take (k + got) (take held b ++ (ys ++ post))) (sym n)
          ∙ take-append-add (take held b) (ys ++ post) got
          ∙ ap (λ (l : List ℕ). take held b ++ l) (take-append-le got ys post g);
      within = simp length-append (omega arith);
    }

-- how many bytes the block has
pub filled_count : {held : ℕ} {b c : List ℕ} {r : ℕ} → held ≤ length b → (f : Filled held b c r) → held + length f.block ≡ r
filled_count {held} {b} {c} {r} h f =
    let n : length (take held b) ≡ held = length-take-le held b h in
    let m : length (take r c) ≡ r = length-take-le r c f.within in
    omega (arith, simp length-append at (ap length f.bytes))
