-- A line of a head and numbers, number by number, and the lines that are such.
use mathlib.Core.Path.{◌≡◌, refl, sym, ap, ◌∙◌}
use mathlib.Core.List.{List, [], ◌∷◌, ◌++◌, append_assoc, append-nil}
use Prim.Native.Nat.{ℕ, ◌+◌, ◌≤◌, ◌<◌}
use native.Mathlib.Numerals.{add-one}
use native.Mathlib.Omega.{arith}
use lib.ListN.{length, take, drop, get_or, length-append, take-append-drop}
use lib.Seq.{take-suc, drop-cons, take_all}
use borrow.Author.Tests.{ne_eqb}
use Rattle.lines.specs.Digit.{decimal}
use Rattle.lines.specs.Line.{no_line}
use Rattle.lines.specs.Report.{cell_line, number_line}
use Rattle.lines.specs.Scaffolding.{Wrote, fields, fields_line}
use Rattle.lines.proofs.Puts.{then}

fields-append : (ns ms : List ℕ) → fields (ns ++ ms) ≡ fields ns ++ fields ms
unfolding fields
fields-append [] ms = refl
fields-append (n ∷ ns) ms = ap (λ (l : List ℕ). (32 ∷ decimal n) ++ l) (fields-append ns ms) ∙ sym (append_assoc (32 ∷ decimal n) (fields ns) (fields ms))

fields-cons : (n : ℕ) (ns : List ℕ) → fields (n ∷ ns) ≡ (32 ∷ decimal n) ++ fields ns
unfolding fields
fields-cons n ns = refl

fields_nil : fields [] ≡ []
unfolding fields
fields_nil = refl

pub fields_front : (head : List ℕ) (first : ℕ) (ns : List ℕ) → length head + length (decimal first) ≤ length (fields_line (head ++ decimal first) ns)
unfolding fields_line
fields_front head first ns = simp length-append (omega arith)

-- what stands before the numbers after the first is the word here
module _ (word ns : List ℕ) where
  pub fields_start : {d : List ℕ} {at : ℕ} {e : List ℕ} {r : ℕ} → Wrote d at word e r → Wrote d at (word ++ fields []) e r
  fields_start w = rw (fields_nil, append-nil) w

  module _ (i : ℕ) where
    -- the first i numbers are written
    pub fields_room : length (fields_line word ns) ≡ length (word ++ fields (take i ns)) + length (fields (drop i ns)) + 1
    unfolding fields_line
    fields_room = simp length-append (omega (arith, simp length-append at (ap length split)))
      where
        split : fields ns ≡ fields (take i ns) ++ fields (drop i ns)
        split = ap fields (sym (take-append-drop i ns)) ∙ fields-append (take i ns) (drop i ns)

    pub fields_here : i < length ns → length (fields (drop i ns)) ≡ 1 + length (decimal (get_or ns i 0)) + length (fields (drop (i + 1) ns))
    fields_here h = rw (drop-cons ns i 0 h, add-one, fields-cons, length-append) (omega arith)

    module _ {d : List ℕ} {at : ℕ} {e : List ℕ} {next : ℕ} (w : Wrote d at (word ++ fields (take i ns)) e next) (h : at ≤ length d) {f : List ℕ} {r : ℕ} where
      pub fields_step : i < length ns → Wrote e next (32 ∷ []) f r → {g : List ℕ} {s : ℕ} → Wrote f r (decimal (get_or ns i 0)) g s → Wrote d at (word ++ fields (take (i + 1) ns)) g s
      fields_step l b v = rw more (then (then w h b) h v)
        where
          more : word ++ fields (take (i + 1) ns) ≡ word ++ fields (take i ns) ++ (32 ∷ []) ++ decimal (get_or ns i 0)
          more =
              ap (λ (k : ℕ). word ++ fields (take k ns)) (add-one i)
              ∙ ap (λ (t : List ℕ). word ++ fields t) (take-suc ns i 0 l)
              ∙ simp (fields-append, fields-cons, fields_nil, append-nil (decimal (get_or ns i 0)), append_assoc)

      pub fields_end : length ns ≤ i → Wrote e next (10 ∷ []) f r → Wrote d at (fields_line word ns) f r
      unfolding fields_line
      fields_end l b = rw (take_all i ns l) at (then w h b)

-- ---- the lines that are such

two : (w a s b t : List ℕ) → (w ++ a) ++ ((s ++ b) ++ []) ++ t ≡ w ++ a ++ s ++ b ++ t
two w a s b t = simp (append-nil b, append_assoc)

three : (w a s b c t : List ℕ) → (w ++ a) ++ ((s ++ b) ++ ((s ++ c) ++ [])) ++ t ≡ w ++ a ++ s ++ b ++ s ++ c ++ t
three w a s b c t = simp (append-nil c, append_assoc)

pub no_is : (number axis place : ℕ) → fields_line ((110 ∷ 111 ∷ 32 ∷ []) ++ decimal number) (axis ∷ place ∷ []) ≡ no_line number axis place
unfolding fields_line fields no_line
no_is number axis place = three (110 ∷ 111 ∷ 32 ∷ []) (decimal number) (32 ∷ []) (decimal axis) (decimal place) (10 ∷ [])

pub cell_is : (axis index count : ℕ) → fields_line ((99 ∷ 101 ∷ 108 ∷ 108 ∷ 32 ∷ []) ++ decimal axis) (index ∷ count ∷ []) ≡ cell_line axis index count
unfolding fields_line fields cell_line
cell_is axis index count = three (99 ∷ 101 ∷ 108 ∷ 108 ∷ 32 ∷ []) (decimal axis) (32 ∷ []) (decimal index) (decimal count) (10 ∷ [])

pub number_is : (number count : ℕ) → (count ≡ 0 → ⊥) → fields_line ((110 ∷ 111 ∷ 32 ∷ []) ++ decimal number) (count ∷ []) ≡ number_line number count
unfolding fields_line fields number_line
number_is number count h = rw (ne_eqb count 0 h) (two (110 ∷ 111 ∷ 32 ∷ []) (decimal number) (32 ∷ []) (decimal count) (10 ∷ []))

-- what the proofs of the code look for
pub ruleset writes = (fields_front, fields_room, fields_here)
