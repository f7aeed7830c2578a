-- "Loading checks": those of the header, in their order.
use Rattle.std.specs.Prelude.{cond, List, ℕ, ◌+◌, ◌-◌, ◌*◌, ltb, length}
use Rattle.answer.specs.Faults.{Fault, ◌or◌, first_fault}
use Rattle.checks.specs.Numbers.{axes_count_fault, count_fault, product_fault, field_fault, short_fault, stated_fault}
use Rattle.little_endian.specs.Words.{word_at}
use Rattle.image.specs.Fields.{axes_field, count_field, offset_field, shape_of}

-- "under 40 bytes (13); byte 0; byte 1 (1); bytes 2-3; length"
unfoldable pub start_fault : List ℕ → Fault
start_fault img =
    short_fault (length img)
    or field_fault 0 1 (word_at 1 img 0)
    or axes_count_fault (axes_field img)
    or field_fault 2 0 (word_at 2 img 2)
    or stated_fault (word_at 4 img 4) (length img)

-- "counts axis by axis (2, or 13 if unused)"
unfoldable pub count_row : List ℕ → ℕ → Fault
count_row img a = cond (ltb a (axes_field img)) (count_fault a (count_field img a)) (field_fault (8 + 2 * a) 0 (count_field img a))

-- "unused offsets", from the first that is not used
unfoldable pub offset_row : List ℕ → ℕ → Fault
offset_row img a = field_fault (16 + 4 * a) 0 (offset_field img a)

-- ".. counts ..; product (2); unused offsets; bytes 36-39"
unfoldable pub head_fault : List ℕ → Fault
head_fault img =
    start_fault img
    or first_fault (count_row img) 0 4
    or product_fault (shape_of img)
    or first_fault (offset_row img) (axes_field img) (4 - axes_field img)
    or field_fault 36 0 (word_at 4 img 36)
