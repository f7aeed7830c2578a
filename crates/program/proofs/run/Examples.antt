-- The paper's whole run, by computation; and as a call, its fifty bytes in an output of as many and of one less.
use mathlib.Core.Path.{◌≡◌, refl, sym, ap, ◌∙◌}
use mathlib.Core.Bool.{true}
use mathlib.Core.Logic.{inr}
use native.Mathlib.Omega.{arith}
use mathlib.Core.List.{List, [], ◌∷◌, ◌++◌, append-nil}
use Prim.Native.Nat.{ℕ, ◌*◌}
use lib.ListN.{drop}
use lib.Ieee.{of_bits, to_bits, lt, le, eq, add, sub, mul, div}
use Rattle.answer.specs.Faults.{refusal, no_fault, good, when, ◌or◌, first_fault, given}
use Rattle.answer.specs.Answer.{refused, answered, ◌then◌, fine}
use Rattle.checks.specs.Nodes.{gap}
use Rattle.checks.specs.Numbers.{rise_fault, node_fault, nodes_fault, axes_count_fault, count_fault, room_fault, length_fault, finite_fault, reading_fault, result_fault, product_fault, axes_fault, ranges_fault, value_fault, values_fault, readings_fault, range_fault, area_fault, field_fault, short_fault, stated_fault, sharing, shared_fault}
use Rattle.layout.specs.Shape.{size, total}
use Rattle.layout.specs.Layout.{axes_of, strides, place_by, table}
use Rattle.checks.specs.Shapes.{shape_fault, frame_fault}
use Rattle.little_endian.specs.Words.{of_bytes, word_at, float_at}
use Rattle.orders.specs.Orders.{lookup_fault}
use Rattle.blend.specs.Blend.{blended, computed}
use Rattle.image.proofs.Examples.{img}
use Rattle.image.specs.Image.{floats_at, nodes_from, nodes_in, values_in}
use Rattle.image.specs.Fields.{axes_field, count_field, offset_field, values_field, shape_of, area_of}
use Rattle.image.specs.Load.{areas_fault, pairs_fault, rooms_fault, contents_fault, load_fault}
use Rattle.image.specs.Head.{start_fault, count_row, offset_row, head_fault}
use Rattle.lines.specs.Digit.{glyph_of, digits, places, decimal}
use Rattle.lines.specs.Line.{ok_line, no_line, line_of}
use Rattle.lines.specs.Stream.{Rule, lines_first, lines_of}
use Rattle.lines.proofs.Runs.{lines_of-add, cut_none}
use Rattle.axis.specs.Cells.{how_many, lower_index}
use Rattle.axis.specs.Locations.{fraction, axis_location}
use Rattle.axis.specs.Exact.{exact_node}
use Rattle.axis.specs.Picks.{nearest_index}
use Rattle.ninterp.specs.Tables.{indices, picked, nearest_answer}
use Rattle.ninterp.specs.Linears.{locations, interpolated, linear_answer}
use Rattle.ninterp.specs.Records.{kind_answer, record_readings, record_fault, record_answer, record_rule}
use Rattle.program.specs.Run.{lines_by, run_of, text_fault, text_answer, run_answer}
use Rattle.program.proofs.run.Laws.{run_loaded}

-- kind 0 at 0.5, kind 2 at 1.0, kind 0 at 3.0
abbrev pub three : List ℕ
three = 0 ∷ 0 ∷ 0 ∷ 0 ∷ 0 ∷ 0 ∷ 0 ∷ 224 ∷ 63 ∷ 2 ∷ 0 ∷ 0 ∷ 0 ∷ 0 ∷ 0 ∷ 0 ∷ 240 ∷ 63 ∷ 0 ∷ 0 ∷ 0 ∷ 0 ∷ 0 ∷ 0 ∷ 0 ∷ 8 ∷ 64 ∷ []

abbrev rule : Rule
rule = record_rule (shape_of img) (nodes_in img) (values_in img)

abbrev printed : List ℕ
printed = 111 ∷ 107 ∷ 32 ∷ 52 ∷ 48 ∷ 50 ∷ 57 ∷ 48 ∷ 48 ∷ 48 ∷ 48 ∷ 48 ∷ 48 ∷ 48 ∷ 48 ∷ 48 ∷ 48 ∷ 48 ∷ 48 ∷ 10 ∷ 111 ∷ 107 ∷ 32 ∷ 52 ∷ 48 ∷ 51 ∷ 52 ∷ 48 ∷ 48 ∷ 48 ∷ 48 ∷ 48 ∷ 48 ∷ 48 ∷ 48 ∷ 48 ∷ 48 ∷ 48 ∷ 48 ∷ 10 ∷ 110 ∷ 111 ∷ 32 ∷ 49 ∷ 49 ∷ 32 ∷ 48 ∷ 32 ∷ 49 ∷ 10 ∷ []

pub loads : good (load_fault img 256 4096) ≡ true
unfolding load_fault head_fault start_fault short_fault field_fault axes_count_fault stated_fault count_row product_fault offset_row area_of area_fault areas_fault sharing shared_fault pairs_fault room_fault rooms_fault contents_fault axes_field count_field offset_field values_field shape_of floats_at nodes_from nodes_in values_in of_bytes word_at float_at size total axes_of axes_fault value_fault values_fault count_fault finite_fault rise_fault node_fault nodes_fault refusal answered no_fault good when ◌or◌ first_fault given of_bits sub lt
loads = refl

three_lines : lines_first rule 3 three ≡ printed
unfolding lines_first record_fault record_answer record_readings kind_answer linear_answer nearest_answer locations interpolated nearest_index indices picked how_many lower_index exact_node fraction axis_location line_of ok_line no_line glyph_of digits places decimal field_fault short_fault axes_count_fault stated_fault start_fault count_row product_fault offset_row head_fault area_fault areas_fault room_fault rooms_fault contents_fault load_fault axes_field count_field offset_field values_field shape_of floats_at nodes_from nodes_in values_in blended computed lookup_fault of_bytes word_at float_at shape_fault length_fault frame_fault axes_fault value_fault values_fault readings_fault range_fault ranges_fault size total axes_of strides place_by table gap count_fault finite_fault rise_fault node_fault nodes_fault reading_fault result_fault refusal refused ◌then◌ answered no_fault good when ◌or◌ first_fault given of_bits to_bits lt le eq add sub mul div
three_lines = refl

size_nine : rule.size ≡ 9
unfolding shape_of axes_field word_at of_bytes
size_nine = refl

nothing : [] ≡ lines_of rule 999997 []
nothing = cut_none rule 999997 [] (inr (omega (arith, size_nine))) refl

pub example_run : run_of (img ++ three) ≡ printed
example_run =
    run_loaded img three loads lines_by
    ∙ lines_of-add rule 3 999997 three (omega (arith, size_nine))
    ∙ rest
  where
    rest : lines_first rule 3 three ++ lines_of rule 999997 (drop (3 * rule.size) three) ≡ printed
    rest = ap (λ (n : ℕ). lines_first rule 3 three ++ lines_of rule 999997 (drop (3 * n) three)) size_nine ∙ ap (λ (l : List ℕ). lines_first rule 3 three ++ l) (sym nothing) ∙ append-nil (lines_first rule 3 three) ∙ three_lines

-- ---- as a call

pub example_fits : run_answer (img ++ three) 50 ≡ record { answer = fine; written = 50 }
unfolding text_answer text_fault room_fault when given good no_fault refusal ◌then◌
example_fits = ap (λ (l : List ℕ). text_answer l 50) example_run ∙ refl

pub example_refused : run_answer (img ++ three) 49 ≡ record { answer = refused (refusal 15 0 2); written = 0 }
unfolding text_answer text_fault room_fault when given good no_fault refusal ◌then◌
example_refused = ap (λ (l : List ℕ). text_answer l 49) example_run ∙ refl
