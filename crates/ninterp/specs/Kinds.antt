-- The kinds of a record by their bytes.
use Rattle.std.specs.Prelude.{◌≡◌, ℕ, Result, IfOk}
use Rattle.answer.specs.Rows.{said}
use Rattle.answer.specs.declared.Refusal.{Refusal}
use Rattle.checks.specs.Numbers.{unknown_kind_fault}
use Rattle.ninterp.specs.declared.records.kind.Kind.{Kind}
use Rattle.ninterp.specs.declared.records.kind.Kind.TheVariants.{Linear, LinearUniform, Nearest, StepLower, StepUpper}

-- "a kind byte (0 Linear, 1 LinearUniform, 2 Nearest, 3 Step all lower, 4 Step all upper)"
abbrev pub byte_of : Kind → ℕ
byte_of Linear = 0
byte_of LinearUniform = 1
byte_of Nearest = 2
byte_of StepLower = 3
byte_of StepUpper = 4

-- the kind of a byte, or 9
abbrev pub Decodes : ℕ → Result Kind Refusal → Type 0
Decodes byte r = (said r ≡ unknown_kind_fault byte) × IfOk r (λ kind. byte_of kind ≡ byte)
