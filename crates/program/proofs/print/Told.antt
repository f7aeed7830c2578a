-- How long a text is that was printed or not, by what its printing tells. Assumes nothing.
use mathlib.Core.Path.{◌≡◌, ◌∙◌}
use Prim.Native.Nat.{ℕ}
use Rattle.std.specs.Prelude.{Result, Ok, Err, IfOk, IfErr, MatchResult}
use Rattle.program.specs.declared.print.Unprinted.{Unprinted}

pub told_is : {long : ℕ} {Q : Unprinted → Type 0} (printed : Result ℕ Unprinted) (told : ℕ) → MatchResult printed (λ n. told ≡ n) Q → ((e : Unprinted) → Q e → told ≡ e.bytes)
    → IfOk printed (λ n. n ≡ long) → IfErr printed (λ e. e.bytes ≡ long) → told ≡ long
told_is (Ok n) told h by ok err = h ∙ ok
told_is (Err e) told h by ok err = by e h ∙ err
