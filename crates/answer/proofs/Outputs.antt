-- What a call leaves in an output: a refusal leaves it as it was, and what lies beyond what is written is never touched. Assumes nothing.
use mathlib.Core.Path.{◌≡◌, refl, ap, ◌∙◌}
use mathlib.Core.Bool.{Bool, true, false, cond}
use mathlib.Core.List.{List, ◌++◌}
use lib.ListN.{length, take, drop}
use lib.Seq.{take_at, drop_at}
use Rattle.answer.specs.Faults.{good, given, filled_into}
use Rattle.answer.specs.Faults.{Fault}

pub refused_keeps : {A : Type 0} (a : Fault) (xs out : List A) → good a ≡ false → filled_into a xs out ≡ out
unfolding filled_into given
refused_keeps a xs out h = ap (λ (t : Bool). cond t (xs ++ drop (length xs) out) out) h

pub filled_good : {A : Type 0} (a : Fault) (xs out : List A) → good a ≡ true → filled_into a xs out ≡ xs ++ drop (length xs) out
unfolding filled_into given
filled_good a xs out h = ap (λ (t : Bool). cond t (xs ++ drop (length xs) out) out) h

pub given_front : {A : Type 0} (a : Fault) (xs out : List A) → good a ≡ true → take (length xs) (filled_into a xs out) ≡ xs
given_front a xs out h = ap (take (length xs)) (filled_good a xs out h) ∙ take_at xs (drop (length xs) out) (length xs) refl

pub beyond_kept : {A : Type 0} (a : Fault) (xs out : List A) → drop (length xs) (filled_into a xs out) ≡ drop (length xs) out
unfolding filled_into given
beyond_kept a xs out = go (good a)
  where
    go : (t : Bool) → drop (length xs) (cond t (xs ++ drop (length xs) out) out) ≡ drop (length xs) out
    go true = drop_at xs (drop (length xs) out) (length xs) refl
    go false = refl
