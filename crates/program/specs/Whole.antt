-- "The program and one whole run": what a run of a program owes to the bytes that it counts. Which bytes `read` gave and `write` took no
-- contract can name.
use Rattle.std.specs.Prelude.{◌≡◌, true, false, ◌⊎◌, List, ◌++◌, ℕ, ◌+◌, ◌≤◌, ◌<◌, length, Float, Result, OnOk}
use Rattle.answer.specs.Faults.{good}
use Rattle.layout.specs.declared.Shape.{Shape}
use Rattle.image.specs.Fields.{shape_of}
use Rattle.image.specs.Image.{nodes_in, values_in}
use Rattle.image.specs.Load.{load_fault}
use Rattle.program.specs.Run.{run_by}
use Rattle.program.specs.declared.Counts.{Counts}
use Rattle.program.specs.declared.print.Unprinted.{Unprinted}

-- the table of an image that no check refuses: the shape, the nodes and the values are the image's
pub record TableOf (img : List ℕ) (shape : Shape) (nodes values : List Float) : Type 0 where
  pub loads : good (load_fault img 256 4096) ≡ true
  pub shape_is : shape ≡ shape_of img
  pub nodes_are : nodes ≡ nodes_in img
  pub values_are : values ≡ values_in img

-- before anything is asked for or printed
abbrev pub none_counted : Counts
none_counted = record { asked = 0; read = 0; printed = 0 }

-- A run of the program that prints such a text, and reads until the input ends or it has had enough: what follows an image, for some
-- records of as many bytes as were read.
pub record Ran (text : List ℕ → List ℕ → List ℕ) (enough : ℕ) (img : List ℕ) (n : Counts) (r : Result (Unit {0}) Unprinted) : Type 0 where
  pub records : List ℕ
  pub all_read : length records ≡ n.read
  -- where no write failed, as many bytes were printed as a run of the image and the records prints
  pub all_printed : OnOk r (n.printed ≡ length (run_by text (img ++ records)))
  -- "A refused image prints one line and ends": nothing more is asked for
  pub refused_ends : good (load_fault img 256 4096) ≡ false → n.asked + n.read ≡ 0
  -- "then records until input ends": where no write failed, fewer bytes came than were asked for, or enough of them did
  pub input_ends : good (load_fault img 256 4096) ≡ true → OnOk r ((n.read < n.asked) ⊎ (enough ≤ n.read))
