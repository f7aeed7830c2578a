-- "Numbers the technician sees": what is wrong and where, and the algebra of orders of checks.
use Rattle.std.specs.Prelude.{Bool, cond, List, ◌++◌, ℕ, zero, suc, eqb, length, drop}

-- a number with its axis and place
pub record Fault : Type 0 where
  pub number : ℕ
  pub axis : ℕ
  pub place : ℕ

-- demand 1: "A refusal gives its number, axis and place"
unfoldable pub refusal : ℕ → ℕ → ℕ → Fault
refusal number axis place = record { number = number; axis = axis; place = place }

-- the number 0 is no fault
unfoldable pub no_fault : Fault
no_fault = refusal 0 0 0

-- whether nothing is wrong
unfoldable pub good : Fault → Bool
good f = eqb f.number 0

-- "Given exactly when": a row of the table
unfoldable pub when : Bool → Fault → Fault
when b f = cond b f no_fault

-- "The first fault found is answered": an order of checks is one line
infixr 20 ◌or◌
unfoldable pub ◌or◌ : Fault → Fault → Fault
f or g = cond (good f) g f

-- the first fault among the k places, or axes, from i on: "the lowest axis, then the lowest place"
unfoldable pub first_fault : (ℕ → Fault) → ℕ → ℕ → Fault
first_fault fault i zero = no_fault
first_fault fault i (suc k) = fault i or first_fault fault (suc i) k

-- what a call gives besides its answer: "any index, fraction or shape it would give is zero" on a refusal
unfoldable pub given : {A : Type 0} → Fault → A → A → A
given f x zeros = cond (good f) x zeros

-- an output after a call: filled from its front, its rest as it was; on a refusal as it was
unfoldable pub filled_into : {A : Type 0} → Fault → List A → List A → List A
filled_into f xs out = given f (xs ++ drop (length xs) out) out
