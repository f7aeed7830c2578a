-- Laws of whether so many bytes hold a whole record, by a test that the code no longer makes. They hold as they did; no proof stands on them.
use mathlib.Core.Path.{◌≡◌, refl, sym}
use mathlib.Core.Bool.{Bool, true, false}
use Prim.Native.Nat.{ℕ, ◌+◌, ◌-◌, ◌*◌, ◌/◌, ◌≤◌, ◌<◌}
use native.Mathlib.Omega.{arith}
use borrow.Author.Tests.{le-leb, lt-leb, leb-true, leb-false}
use lib.Dec.{leb}
use Rattle.layout.specs.declared.Shape.{Shape}
use Rattle.ninterp.specs.Records.{record_size}

pub whole_none : (s : Shape) (len : ℕ) → len ≡ 0 → false ≡ leb (record_size s) len
whole_none s len e = sym (lt-leb (record_size s) len (omega arith))

pub whole_by : (s : Shape) (len : ℕ) → (len ≡ 0 → ⊥) → leb s.axes ((len - 1) / 8) ≡ leb (record_size s) len
whole_by s len n = go (leb (record_size s) len) (leb-true (record_size s) len) (leb-false (record_size s) len)
  where
    go : (t : Bool) → (t ≡ true → record_size s ≤ len) → (t ≡ false → len < record_size s) → leb s.axes ((len - 1) / 8) ≡ t
    go true h k = let l : 1 + 8 * s.axes ≤ len = h refl in le-leb s.axes ((len - 1) / 8) (omega arith)
    go false h k = let l : len < 1 + 8 * s.axes = k refl in lt-leb s.axes ((len - 1) / 8) (omega arith)
