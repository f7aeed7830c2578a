-- The kinds of a record, and the order of checks that tells one. Assumes nothing.
use Rattle.std.proofs.Common.{◌≡◌, refl, sym, ◌∙◌, ap, ℕ, ◌≤◌, ◌<◌, Result, Ok, Err, List, arith}
use lib.Ieee.{Float}
use Rattle.layout.specs.declared.Shape.{Shape}
use Rattle.std.specs.Prelude.{⊤}
use borrow.Author.Tests.{lt-ltb, le-ltb, eq-eqb, ne_eqb}
use lib.Dec.{ltb, eqb}
use Rattle.answer.specs.Faults.{Fault, refusal, when, ◌or◌}
use Rattle.answer.specs.Rows.{said, fault_of}
use Rattle.answer.specs.declared.Refusal.{Refusal}
use Rattle.answer.proofs.Checks.{Handed, said-ok, said-err, goes_on, passes_on, hands, stops}
use Rattle.answer.proofs.Orders.{when_true, when_false}
use Rattle.checks.specs.Numbers.{unknown_kind_fault}
use Rattle.ninterp.specs.declared.records.kind.Kind.{Kind}
use Rattle.ninterp.specs.declared.records.kind.Kind.TheVariants.{Linear, LinearUniform, Nearest, StepLower, StepUpper}
use Rattle.ninterp.specs.Kinds.{byte_of, Decodes}
use Rattle.ninterp.specs.Scaffolding.{kind_fault, kind_found}

pub byte_few : (kind : Kind) → byte_of kind ≤ 4
byte_few Linear = omega arith
byte_few LinearUniform = omega arith
byte_few Nearest = omega arith
byte_few StepLower = omega arith
byte_few StepUpper = omega arith

pub known : (kind : Kind) (byte : ℕ) → byte_of kind ≡ byte → Decodes byte (Ok kind)
known kind byte e = (said-ok kind ∙ sym (when_false (ltb 4 byte) (refusal 9 0 0) (le-ltb 4 byte (omega (arith, e, byte_few kind)))), e)

pub unknown : (r : Refusal) (byte : ℕ) → 4 < byte → fault_of r ≡ refusal 9 0 0 → Decodes byte (Err r)
unknown r byte h e = (said-err Kind r ∙ e ∙ sym (when_true (ltb 4 byte) (refusal 9 0 0) (lt-ltb 4 byte h)), tt)

byte_one : (kind : Kind) → byte_of kind ≡ 1 → kind ≡ LinearUniform
byte_one Linear e = absurd (omega (arith, e))
byte_one LinearUniform e = refl
byte_one Nearest e = absurd (omega (arith, e))
byte_one StepLower e = absurd (omega (arith, e))
byte_one StepUpper e = absurd (omega (arith, e))

-- ---- the order of checks, as the code goes: the table's, the kind's, and 8 of LinearUniform
module _ (byte : ℕ) (table uniform : Result ⊤ Refusal) where
  abbrev own : Fault
  own = when (eqb byte 1) (said uniform)

  pub table_stops : (e : Refusal) → table ≡ Err e → (r : Result Kind Refusal) → Handed r e → said r ≡ kind_fault byte (said table) (said uniform)
  table_stops e t r h = stops ⊤ e (said table) (ap (λ (x : Result ⊤ Refusal). said x) (sym t)) r h (unknown_kind_fault byte or own)

  module _ (x : ⊤) (t : table ≡ Ok x) where
    table_passes : (f : Fault) → f ≡ (unknown_kind_fault byte or own) → f ≡ kind_fault byte (said table) (said uniform)
    table_passes f h = goes_on x (said table) (ap (λ (y : Result ⊤ Refusal). said y) (sym t)) f (unknown_kind_fault byte or own) h

    pub kind_stops : (e : Refusal) → Decodes byte (Err e) → (r : Result Kind Refusal) → Handed r e → said r ≡ kind_fault byte (said table) (said uniform)
    kind_stops e d r h = table_passes (said r) (stops Kind e (unknown_kind_fault byte) d.0 r h own)

    module _ (kind : Kind) (d : Decodes byte (Ok kind)) where
      kind_passes : (f : Fault) → f ≡ own → f ≡ kind_fault byte (said table) (said uniform)
      kind_passes f h = table_passes f (goes_on kind (unknown_kind_fault byte) d.0 f own h)

      module _ (one : kind ≡ LinearUniform) where
        asked : own ≡ said uniform
        asked = when_true (eqb byte 1) (said uniform) (eq-eqb byte 1 (sym d.1 ∙ ap byte_of one))

        pub uniform_stops : (e : Refusal) → uniform ≡ Err e → (r : Result Kind Refusal) → Handed r e → said r ≡ kind_fault byte (said table) (said uniform)
        uniform_stops e u r h = kind_passes (said r) (hands ⊤ e (said uniform) (ap (λ (y : Result ⊤ Refusal). said y) (sym u)) r h ∙ sym asked)

        pub uniform_passes : (y : ⊤) → uniform ≡ Ok y → said (Ok kind) ≡ kind_fault byte (said table) (said uniform)
        uniform_passes y u = kind_passes (said (Ok kind)) (passes_on y (said uniform) (ap (λ (z : Result ⊤ Refusal). said z) (sym u)) kind ∙ sym asked)

      pub others_pass : (kind ≡ LinearUniform → ⊥) → said (Ok kind) ≡ kind_fault byte (said table) (said uniform)
      others_pass n = kind_passes (said (Ok kind)) (said-ok kind ∙ sym (when_false (eqb byte 1) (said uniform) (ne_eqb byte 1 (λ q. n (byte_one kind (d.1 ∙ q))))))

-- what a kind comes to
pub of_kind : (kind known : Kind) (s : Shape) (nodes values readings : List Float) → kind ≡ known → kind_found (byte_of known) s nodes values readings ≡ kind_found (byte_of kind) s nodes values readings
of_kind kind known s nodes values readings e = ap (λ (k : Kind). kind_found (byte_of k) s nodes values readings) (sym e)
