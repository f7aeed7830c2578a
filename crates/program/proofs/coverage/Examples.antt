-- "document 01's run gives `cell 0 0 2` and `no 11 1`", by computation.
use mathlib.Core.Path.{◌≡◌, refl, ◌∙◌}
use mathlib.Core.List.{List, [], ◌∷◌, ◌++◌}
use Prim.Native.Nat.{ℕ}
use lib.Ieee.{of_bits, lt, le, eq, add, sub, mul, div}
use Rattle.answer.specs.Faults.{refusal, no_fault, good, when, ◌or◌, first_fault, given}
use Rattle.answer.specs.Answer.{refused, answered, ◌then◌}
use Rattle.checks.specs.Nodes.{gap}
use Rattle.checks.specs.Numbers.{rise_fault, node_fault, nodes_fault, axes_count_fault, count_fault, length_fault, finite_fault, reading_fault, result_fault, product_fault, axes_fault, ranges_fault, value_fault, values_fault, readings_fault, range_fault}
use Rattle.layout.specs.Shape.{size, total}
use Rattle.layout.specs.Layout.{axes_of, strides, place_by, table}
use Rattle.checks.specs.Shapes.{shape_fault, frame_fault}
use Rattle.little_endian.specs.Words.{of_bytes, word_at, float_at}
use Rattle.orders.specs.Orders.{lookup_fault}
use Rattle.blend.specs.Blend.{blended, computed}
use Rattle.image.proofs.Examples.{img}
use Rattle.image.specs.Image.{floats_at, nodes_from, nodes_in, values_in}
use Rattle.image.specs.Fields.{axes_field, count_field, offset_field, values_field, shape_of}
use Rattle.lines.specs.Digit.{glyph_of, digits, places, decimal}
use Rattle.lines.specs.Report.{cell_line, number_line, joined, report_of}
use Rattle.axis.specs.Cells.{lower_index}
use Rattle.axis.specs.Cells as cells
use Rattle.axis.specs.Locations.{fraction, axis_location}
use Rattle.axis.specs.Exact.{exact_node}
use Rattle.axis.specs.Picks.{nearest_index}
use Rattle.tally.specs.Counts.{how_many}
use Rattle.ninterp.specs.Tables.{indices, picked, nearest_answer}
use Rattle.ninterp.specs.Linears.{locations, interpolated, linear_answer}
use Rattle.ninterp.specs.Records.{kind_answer, record_readings, record_fault, record_answer}
use Rattle.ninterp.specs.Coverage.{records_in, record_cell, fell_in, refused_by, cell_total, number_total, goes_past}
use Rattle.program.specs.Coverage.{coverage_report, report_by, coverage_of}
use Rattle.program.proofs.run.Laws.{run_loaded}
use Rattle.program.proofs.run.Examples.{three, loads}

abbrev printed : List ℕ
printed = 99 ∷ 101 ∷ 108 ∷ 108 ∷ 32 ∷ 48 ∷ 32 ∷ 48 ∷ 32 ∷ 50 ∷ 10 ∷ 110 ∷ 111 ∷ 32 ∷ 49 ∷ 49 ∷ 32 ∷ 49 ∷ 10 ∷ []

three_report : report_by img three ≡ printed
unfolding coverage_report report_of joined cell_line number_line glyph_of digits places decimal records_in record_cell fell_in refused_by cell_total number_total goes_past how_many lower_index cells.how_many record_fault record_answer record_readings kind_answer linear_answer nearest_answer locations interpolated nearest_index indices picked exact_node fraction axis_location axes_count_fault product_fault axes_field count_field offset_field values_field shape_of floats_at nodes_from nodes_in values_in blended computed lookup_fault of_bytes word_at float_at shape_fault length_fault frame_fault axes_fault value_fault values_fault readings_fault range_fault ranges_fault size total axes_of strides place_by table gap count_fault finite_fault rise_fault node_fault nodes_fault reading_fault result_fault refusal refused ◌then◌ answered no_fault good when ◌or◌ first_fault given of_bits lt le eq add sub mul div
three_report = refl

pub example_coverage : coverage_of (img ++ three) ≡ printed
example_coverage = run_loaded img three loads report_by ∙ three_report
