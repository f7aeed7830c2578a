-- From an input to the table and the records of its run. Assumes nothing.
use mathlib.Core.Path.{◌≡◌, refl, sym, ap, ap₂, ◌∙◌, subst}
use mathlib.Core.Bool.{Bool, true, false, cond}
use mathlib.Core.List.{List}
use Prim.Native.Nat.{ℕ, ◌-◌, ◌≤◌}
use native.Mathlib.Omega.{arith}
use borrow.Author.Tests.{eqb-true}
use lib.Dec.{eqb}
use lib.Ieee.{Float}
use lib.ListN.{length, take, drop, length-drop}
use lib.Seq.{take_all}
use Rattle.layout.specs.declared.Shape.{Shape}
use Rattle.lines.specs.Line.{line_of}
use Rattle.ninterp.specs.Records.{record_rule}
use Rattle.program.specs.Input.{image_in}
use Rattle.program.specs.Scaffolding.{Loads, text_of}
use Rattle.image.specs.Fields.{shape_of}
use Rattle.image.specs.Image.{nodes_in, values_in}
use Rattle.program.specs.Run.{rule_of, run_by, Texted}
use Rattle.program.specs.Whole.{TableOf}
use Rattle.program.specs.declared.front.Front.{Front}
use Rattle.program.specs.declared.run.RunAnswer.{RunAnswer}
use Rattle.program.proofs.front.Loads.{front_run}

-- the records of the table of an image are answered by its rule
pub rule_is : {img : List ℕ} {shape : Shape} {nodes values : List Float} → TableOf img shape nodes values → record_rule shape nodes values ≡ rule_of img
rule_is {img} {shape} {nodes} {values} t = ap (λ (s : Shape). record_rule s nodes values) t.shape_is ∙ ap₂ (record_rule _) t.nodes_are t.values_are

-- a text of a table and of the records that follow it
module _ (text : Shape → List Float → List Float → List ℕ → List ℕ) where
  abbrev by : List ℕ → List ℕ → List ℕ
  by img records = text (shape_of img) (nodes_in img) (values_in img) records

  module _ {input : List ℕ} {ns vs : List Float} {f : Front} (l : Loads input ns vs f) where
    abbrev own : List ℕ → List ℕ
    own records = text f.shape (take f.nodes ns) (take f.values vs) records

    -- by what the load answered it is what the program prints of the input
    by_load : text_of f.answer (own (drop f.size input)) ≡ run_by by input
    unfolding text_of
    by_load = go (eqb f.answer.number 0) (eqb-true f.answer.number 0) ∙ sym (front_run l by)
      where
        go : (b : Bool) → (b ≡ true → f.answer.number ≡ 0)
            → cond b (own (drop f.size input)) (line_of f.answer) ≡ cond b (by (image_in input) (drop f.size input)) (line_of f.answer)
        go true z = let t = l.table (z refl) in rw (t.shape_is, t.nodes_are, t.values_are)
        go false z = refl

    pub run_texted : f.size ≤ length input → {xs d e : List ℕ} {a : RunAnswer}
        → xs ≡ text_of f.answer (own (take (length input - f.size) (drop f.size input))) → Texted xs d e a → Texted (run_by by input) d e a
    run_texted h {xs} {d} {e} {a} q t =
        subst (λ (ys : List ℕ). Texted ys d e a)
        (q ∙ ap (λ (rs : List ℕ). text_of f.answer (own rs)) (take_all (length input - f.size) (drop f.size input) (omega (arith, length-drop f.size input))) ∙ by_load) t
