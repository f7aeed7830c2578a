-- "Success is 0, 0, 0 and the value"; "A refusal has value +0.0": of every lookup and record. Assumes nothing.
use mathlib.Core.List.{List}
use Prim.Native.Nat.{ℕ}
use lib.Dec.{eqb}
use lib.ListN.{get_or}
use lib.Ieee.{Float}
use Rattle.answer.proofs.Answers.{Told, value_told, refused-told, then_told}
use Rattle.answer.proofs.Tests.{either}
use Rattle.layout.specs.declared.Shape.{Shape}
use Rattle.blend.specs.Blend.{computed}
use Rattle.ninterp.specs.Tables.{nearest_answer, step_answer}
use Rattle.ninterp.specs.Linears.{linear_answer, linear_uniform_answer}
use Rattle.ninterp.specs.Records.{all_of, kind_answer, record_readings, record_fault, record_answer}

computed-told : (x : Float) → Told (computed x)
unfolding computed
computed-told x = then_told _ _ (value_told x)

module _ (s : Shape) (nodes values readings : List Float) where
  pub nearest-told : Told (nearest_answer s nodes values readings)
  unfolding nearest_answer
  nearest-told = then_told _ _ (value_told _)

  pub step-told : (directions : List ℕ) → Told (step_answer s nodes values readings directions)
  unfolding step_answer
  step-told directions = then_told _ _ (value_told _)

  pub linear-told : Told (linear_answer s nodes values readings)
  unfolding linear_answer
  linear-told = then_told _ _ (computed-told _)

  pub linear_uniform-told : Told (linear_uniform_answer s nodes values readings)
  unfolding linear_uniform_answer
  linear_uniform-told = then_told _ _ (computed-told _)

  kind_told : (kind : ℕ) → Told (kind_answer kind s nodes values readings)
  unfolding kind_answer
  kind_told kind =
      either Told (eqb kind 0) _ _ linear-told
      (either Told (eqb kind 1) _ _ linear_uniform-told
      (either Told (eqb kind 2) _ _ nearest-told
      (either Told (eqb kind 3) _ _ (step-told (all_of s 0))
      (either Told (eqb kind 4) _ _ (step-told (all_of s 1)) (refused-told 8 0 0)))))

pub record_told : (s : Shape) (nodes values : List Float) (rec : List ℕ) → Told (record_answer s nodes values rec)
unfolding record_answer
record_told s nodes values rec =
    then_told (record_fault s nodes values rec) _ (kind_told s nodes values (record_readings s rec) (get_or rec 0 0))
