-- "one whole run": the image of the paper's example, by computation.
use mathlib.Core.Path.{◌≡◌, refl}
use mathlib.Core.Bool.{false}
use mathlib.Core.List.{List, [], ◌∷◌}
use Prim.Native.Nat.{ℕ, ◌+◌}
use lib.IntN.{pos}
use lib.Ieee.{fin, of_bits, sub, lt}
use Rattle.answer.specs.Faults.{refusal, no_fault, good, when, first_fault, given, ◌or◌}
use Rattle.answer.specs.Answer.{answered}
use Rattle.checks.specs.Numbers.{axes_count_fault, count_fault, room_fault, finite_fault, rise_fault, node_fault, nodes_fault, axes_fault, product_fault, value_fault, values_fault, area_fault, field_fault, short_fault, stated_fault, sharing, shared_fault}
use Rattle.layout.specs.Shape.{size, total}
use Rattle.layout.specs.Layout.{axes_of}
use Rattle.little_endian.specs.Words.{of_bytes, word_at, float_at}
use Rattle.image.specs.Image.{floats_at, nodes_from, nodes_in, values_in}
use Rattle.image.specs.Fields.{axes_field, count_field, offset_field, values_field, shape_of, area_of}
use Rattle.image.specs.Load.{areas_fault, pairs_fault, rooms_fault, contents_fault, load_fault, load_fault01}
use Rattle.image.specs.Shared.{area_end, Share}
use Rattle.image.proofs.Pairs.{shares_byte}
use Rattle.image.specs.Head.{start_fault, count_row, offset_row, head_fault}

-- 01 01 0000; length 72; counts 2 0 0 0; offsets 40 0 0 0; values at 56; zero; nodes 0.0, 2.0; values 10.0, 20.0
abbrev pub img : List ℕ
img = 1 ∷ 1 ∷ 0 ∷ 0 ∷ 72 ∷ 0 ∷ 0 ∷ 0 ∷ 2 ∷ 0 ∷ 0 ∷ 0 ∷ 0 ∷ 0 ∷ 0 ∷ 0 ∷ 40 ∷ 0 ∷ 0 ∷ 0 ∷ 0 ∷ 0 ∷ 0 ∷ 0 ∷ 0 ∷ 0 ∷ 0 ∷ 0 ∷ 0 ∷ 0 ∷ 0 ∷ 0 ∷ 56 ∷ 0 ∷ 0 ∷ 0 ∷ 0 ∷ 0 ∷ 0 ∷ 0 ∷ 0 ∷ 0 ∷ 0 ∷ 0 ∷ 0 ∷ 0 ∷ 0 ∷ 0 ∷ 0 ∷ 0 ∷ 0 ∷ 0 ∷ 0 ∷ 0 ∷ 0 ∷ 64 ∷ 0 ∷ 0 ∷ 0 ∷ 0 ∷ 0 ∷ 0 ∷ 36 ∷ 64 ∷ 0 ∷ 0 ∷ 0 ∷ 0 ∷ 0 ∷ 0 ∷ 52 ∷ 64 ∷ []

examples : (load_fault img 2 2 ≡ no_fault) × (load_fault img 1 2 ≡ refusal 15 0 0)
unfolding load_fault head_fault start_fault short_fault field_fault axes_count_fault stated_fault count_row product_fault offset_row area_of area_fault areas_fault sharing shared_fault pairs_fault room_fault rooms_fault contents_fault axes_field count_field offset_field values_field shape_of floats_at nodes_from nodes_in values_in of_bytes word_at float_at size total axes_of axes_fault value_fault values_fault count_fault finite_fault rise_fault node_fault nodes_fault refusal answered no_fault good when ◌or◌ first_fault given of_bits sub lt
examples = (refl, refl)

pub example_loads : load_fault img 2 2 ≡ no_fault
example_loads = examples.0

-- one place of room short, of the nodes
pub example_room : load_fault img 1 2 ≡ refusal 15 0 0
example_room = examples.1

pub example_values : values_in img ≡ fin false 5 (pos 1) ∷ fin false 5 (pos 2) ∷ []
unfolding values_in floats_at values_field shape_of axes_field count_field size of_bytes word_at float_at of_bits
example_values = refl

pub example_nodes : nodes_in img ≡ fin false 0 (pos 0) ∷ fin false 1 (pos 1) ∷ []
unfolding nodes_in nodes_from floats_at offset_field axes_field count_field of_bytes word_at float_at of_bits
example_nodes = refl

-- request C-12: "an image whose values began on the last axis node". 01 01 0000; length 64; counts 2 0 0 0; offsets 40 0 0 0; values at 48; zero; nodes 0.0, 2.0;
-- values 2.0, 20.0. Document 01 let it in, whose order of checks is `load_fault01`
abbrev pub overlapping : List ℕ
overlapping = 1 ∷ 1 ∷ 0 ∷ 0 ∷ 64 ∷ 0 ∷ 0 ∷ 0 ∷ 2 ∷ 0 ∷ 0 ∷ 0 ∷ 0 ∷ 0 ∷ 0 ∷ 0 ∷ 40 ∷ 0 ∷ 0 ∷ 0 ∷ 0 ∷ 0 ∷ 0 ∷ 0 ∷ 0 ∷ 0 ∷ 0 ∷ 0 ∷ 0 ∷ 0 ∷ 0 ∷ 0 ∷ 48 ∷ 0 ∷ 0 ∷ 0 ∷ 0 ∷ 0 ∷ 0 ∷ 0 ∷ 0 ∷ 0 ∷ 0 ∷ 0 ∷ 0 ∷ 0 ∷ 0 ∷ 0 ∷ 0 ∷ 0 ∷ 0 ∷ 0 ∷ 0 ∷ 0 ∷ 0 ∷ 64 ∷ 0 ∷ 0 ∷ 0 ∷ 0 ∷ 0 ∷ 0 ∷ 52 ∷ 64 ∷ []

overlaps : (load_fault01 overlapping 2 2 ≡ no_fault) × (load_fault overlapping 2 2 ≡ refusal 18 0 1)
unfolding load_fault01 load_fault head_fault start_fault short_fault field_fault axes_count_fault stated_fault count_row product_fault offset_row area_of area_fault areas_fault sharing shared_fault pairs_fault room_fault rooms_fault contents_fault axes_field count_field offset_field values_field shape_of floats_at nodes_from nodes_in values_in of_bytes word_at float_at size total axes_of axes_fault value_fault values_fault count_fault finite_fault rise_fault node_fault nodes_fault refusal answered no_fault good when ◌or◌ first_fault given of_bits sub lt
overlaps = (refl, refl)

pub overlap_was : load_fault01 overlapping 2 2 ≡ no_fault
overlap_was = overlaps.0

pub overlap_is : load_fault overlapping 2 2 ≡ refusal 18 0 1
overlap_is = overlaps.1

-- the values begin 8 bytes before the nodes end
pub overlap_begins : values_field overlapping + 8 ≡ area_end overlapping 0
unfolding area_of axes_field count_field offset_field values_field shape_of word_at of_bytes
overlap_begins = refl

pub overlap_axes : axes_field overlapping ≡ 1
unfolding axes_field word_at of_bytes
overlap_axes = refl

-- a header of three axes of two nodes, at 120, 40 and 48, and of values at 64; areas 0 and 3 share bytes, and 1 and 2. What lies in them is zeros
abbrev pub crossing : List ℕ
crossing = 1 ∷ 3 ∷ 0 ∷ 0 ∷ 136 ∷ 0 ∷ 0 ∷ 0 ∷ 2 ∷ 0 ∷ 2 ∷ 0 ∷ 2 ∷ 0 ∷ 0 ∷ 0 ∷ 120 ∷ 0 ∷ 0 ∷ 0 ∷ 40 ∷ 0 ∷ 0 ∷ 0 ∷ 48 ∷ 0 ∷ 0 ∷ 0 ∷ 0 ∷ 0 ∷ 0 ∷ 0 ∷ 64 ∷ 0 ∷ 0 ∷ 0 ∷ 0 ∷ 0 ∷ 0 ∷ 0 ∷ 0 ∷ 0 ∷ 0 ∷ 0 ∷ 0 ∷ 0 ∷ 0 ∷ 0 ∷ 0 ∷ 0 ∷ 0 ∷ 0 ∷ 0 ∷ 0 ∷ 0 ∷ 0 ∷ 0 ∷ 0 ∷ 0 ∷ 0 ∷ 0 ∷ 0 ∷ 0 ∷ 0 ∷ 0 ∷ 0 ∷ 0 ∷ 0 ∷ 0 ∷ 0 ∷ 0 ∷ 0 ∷ 0 ∷ 0 ∷ 0 ∷ 0 ∷ 0 ∷ 0 ∷ 0 ∷ 0 ∷ 0 ∷ 0 ∷ 0 ∷ 0 ∷ 0 ∷ 0 ∷ 0 ∷ 0 ∷ 0 ∷ 0 ∷ 0 ∷ 0 ∷ 0 ∷ 0 ∷ 0 ∷ 0 ∷ 0 ∷ 0 ∷ 0 ∷ 0 ∷ 0 ∷ 0 ∷ 0 ∷ 0 ∷ 0 ∷ 0 ∷ 0 ∷ 0 ∷ 0 ∷ 0 ∷ 0 ∷ 0 ∷ 0 ∷ 0 ∷ 0 ∷ 0 ∷ 0 ∷ 0 ∷ 0 ∷ 0 ∷ 0 ∷ 0 ∷ 0 ∷ 0 ∷ 0 ∷ 0 ∷ 0 ∷ 0 ∷ 0 ∷ 0 ∷ 0 ∷ 0 ∷ 0 ∷ 0 ∷ 0 ∷ 0 ∷ []

pub crossing_axes : axes_field crossing ≡ 3
unfolding axes_field word_at of_bytes
crossing_axes = refl

pub crossing_is : load_fault crossing 0 0 ≡ refusal 18 0 3
unfolding load_fault head_fault start_fault short_fault field_fault axes_count_fault stated_fault count_row product_fault offset_row area_of area_fault areas_fault sharing shared_fault pairs_fault axes_field count_field offset_field values_field shape_of of_bytes word_at size count_fault refusal no_fault good when ◌or◌ first_fault
crossing_is = refl

pub crossing_upper : Share crossing 1 2
unfolding sharing area_of axes_field count_field offset_field values_field shape_of word_at of_bytes
crossing_upper = shares_byte crossing 1 2 refl

pub crossing_lower : Share crossing 0 3
unfolding sharing area_of axes_field count_field offset_field values_field shape_of word_at of_bytes size
crossing_lower = shares_byte crossing 0 3 refl
