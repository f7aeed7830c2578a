-- Laws of decimal places counted one by one, a step that the code no longer takes. They hold as they did; no proof stands on them.
use mathlib.Core.Path.{◌≡◌}
use Prim.Native.Nat.{ℕ, zero, suc, ◌+◌, ◌/◌, ◌^◌, ◌≤◌, ◌<◌}
use native.Mathlib.Nat.{pow-suc}
use native.Mathlib.Omega.{arith}
use Rattle.lines.specs.Digit.{places}
use Rattle.lines.proofs.Digits.{places-one, places-more, places_most}

-- on the way: k - 1 digits are counted, and those of `left` are to be counted
pub record Counting (n left k : ℕ) : Type 0 where
  pub steps : ℕ
  pub enough : left < 10 ^ suc steps
  pub right : k + places steps left ≡ suc (places 19 n)

pub count_start : (n : ℕ) → n < 10 ^ 20 → Counting n n 1
count_start n h = record { steps = 19; enough = h; right = omega arith }

pub count-step : {n left k : ℕ} → Counting n left k → 10 ≤ left → Counting n (left / 10) (k + 1)
count-step {n} {left} {k} c h = go c.steps c.enough c.right
  where
    go : (s : ℕ) → left < 10 ^ suc s → k + places s left ≡ suc (places 19 n) → Counting n (left / 10) (k + 1)
    go zero l e = absurd (omega arith)
    go (suc s) l e = record { steps = s; enough = omega (arith, pow-suc 10 (suc s)); right = omega (arith, e, places-more s left h) }

pub count_end : {n left k : ℕ} → Counting n left k → left < 10 → k ≡ places 19 n
count_end {n} {left} {k} c h = omega (arith, c.right, places-one c.steps left h)

pub count_small : {n left k : ℕ} → Counting n left k → n < 10 ^ 20 → k ≤ 21
count_small {n} {left} {k} c h = omega (arith, c.right, places_most 19 19 n h)
