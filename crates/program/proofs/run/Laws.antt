-- One whole run: what is printed of an image and the bytes after it. Assumes nothing.
use mathlib.Core.Path.{◌≡◌, refl, sym, ap, ap₂, ◌∙◌}
use mathlib.Core.Bool.{Bool, true, false, cond}
use mathlib.Core.List.{List, ◌++◌}
use Prim.Native.Nat.{ℕ, ◌≤◌}
use native.Mathlib.Omega.{arith}
use lib.ListN.{length, take, drop}
use lib.Seq.{take_at, drop_at}
use Rattle.answer.specs.Faults.{good}
use Rattle.answer.specs.Answer.{refused}
use Rattle.lines.specs.Line.{line_of}
use Rattle.little_endian.specs.Words.{word_at}
use Rattle.image.specs.Load.{load_fault}
use Rattle.image.specs.Head.{head_fault}
use Rattle.image.proofs.Heads.{stated_length}
use Rattle.image.proofs.Laws.{load_means}
use Rattle.program.specs.Input.{image_size, image_in}
use Rattle.program.proofs.input.Ends.{head_enough, size_stated}
use Rattle.program.specs.Run.{run_by}

-- an image that loads is as long as it states, so what follows it is records
module _ (img more : List ℕ) (g : good (load_fault img 256 4096) ≡ true) where
  head : good (head_fault img) ≡ true
  head = (load_means img 256 4096 g).head

  stated : (word_at 4 img 4 ≡ length img) × ((40 ≤ word_at 4 img 4) × (word_at 4 img 4 ≤ 36864))
  stated = stated_length img head

  size : image_size (img ++ more) ≡ length img
  size = head_enough img more (omega (arith, stated)) ∙ sym (size_stated img (word_at 4 img 4) refl stated.1.0 stated.1.1) ∙ stated.0

  image : image_in (img ++ more) ≡ img
  image = ap (λ (n : ℕ). take n (img ++ more)) size ∙ take_at img more (length img) refl

  pub run_loaded : (text : List ℕ → List ℕ → List ℕ) → run_by text (img ++ more) ≡ text img more
  unfolding run_by
  run_loaded text =
      ap₂ (λ (i r : List ℕ). cond (good (load_fault i 256 4096)) (text i r) (line_of (refused (load_fault i 256 4096))))
      image (ap (λ (n : ℕ). drop n (img ++ more)) size ∙ drop_at img more (length img) refl)
      ∙ ap (λ (b : Bool). cond b (text img more) (line_of (refused (load_fault img 256 4096)))) g

-- what was read of an image that is refused is one line, whatever follows it
pub run_refused : (text : List ℕ → List ℕ → List ℕ) (input : List ℕ) → good (load_fault (image_in input) 256 4096) ≡ false
    → run_by text input ≡ line_of (refused (load_fault (image_in input) 256 4096))
unfolding run_by
run_refused text input h =
    ap (λ (b : Bool). cond b (text (image_in input) (drop (image_size input) input)) (line_of (refused (load_fault (image_in input) 256 4096)))) h
