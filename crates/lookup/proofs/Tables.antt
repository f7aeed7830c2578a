-- The table of an image. Assumes nothing.
use mathlib.Core.Path.{subst}
use mathlib.Core.List.{List}
use Prim.Native.Nat.{ℕ}
use lib.Ieee.{Float}
use Rattle.layout.specs.declared.Shape.{Shape}
use Rattle.lines.specs.Stream.{Rule, Block}
use Rattle.ninterp.specs.Records.{record_rule}
use Rattle.program.specs.Run.{rule_of}
use Rattle.program.specs.Whole.{TableOf}
use Rattle.program.proofs.run.Inputs.{rule_is}

module _ {img : List ℕ} {shape : Shape} {nodes values : List Float} (t : TableOf img shape nodes values) where
  -- its records are answered by the rule of the image
  pub of_image : {most : ℕ} {input d e : List ℕ} {count written : ℕ}
      → Block (record_rule shape nodes values) most input d e count written → Block (rule_of img) most input d e count written
  of_image {most} {input} {d} {e} {count} {written} k = subst (λ (p : Rule). Block p most input d e count written) (rule_is t) k
