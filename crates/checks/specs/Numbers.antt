-- "Numbers the technician sees": the table of numbers, row by row in its order. Each row gives its fault exactly where its condition is met.
use Rattle.std.specs.Prelude.{Bool, false, not, ◌&&◌, ◌||◌, cond, List, [], ℕ, ◌+◌, ◌-◌, ◌*◌, ◌%◌, min, max, leb, ltb, eqb, negsuc, length, get_or, Float}
use Rattle.std.specs.Float.{fin, nan, binary64}
use Rattle.std.specs.Float.Ieee.{lt, sub, mul}
use Rattle.std.specs.Float.Ieee.Scale.{finite}
use Rattle.answer.specs.Faults.{Fault, refusal, when, ◌or◌, first_fault}
use Rattle.answer.specs.Answer.{plus_zero}
use Rattle.layout.specs.Shape.{counts_of, size}
use Rattle.layout.specs.Layout.{axes_of}
use Rattle.layout.specs.declared.Shape.{Shape}
use Rattle.checks.specs.Nodes.{node, gap}

-- ---- 1: "axes not 1 to 4"
unfoldable pub axes_count_fault : ℕ → Fault
axes_count_fault axes = when (not (leb 1 axes && leb axes 4)) (refusal 1 0 0)

-- ---- 2: "a count outside 2 to 64", "first such axis, 0"
unfoldable pub count_fault : ℕ → ℕ → Fault
count_fault axis count = when (not (leb 2 count && leb count 64)) (refusal 2 axis 0)

abbrev pub counts_fault : Shape → Fault
counts_fault s = first_fault (λ a. count_fault a (get_or s.counts a 0)) 0 s.axes

-- ".. else product above 4,096", "for the product 0, 0"
unfoldable pub product_fault : Shape → Fault
product_fault s = when (ltb 4096 (size (counts_of s))) (refusal 2 0 0)

-- ---- 3: "a lent length differs", "place 0 nodes, 1 values, 2 reading, 3 directions"
unfoldable pub length_fault : ℕ → ℕ → ℕ → Fault
length_fault place wanted lent = when (not (eqb lent wanted)) (refusal 3 0 place)

-- ---- 4: "node not finite"
unfoldable pub finite_fault : ℕ → ℕ → Float → Fault
finite_fault axis i x = when (not (finite x)) (refusal 4 axis i)

-- ---- 5: "node not above the one before"; 6: "difference of neighbours not finite"; "axis, upper node"
unfoldable pub rise_fault : ℕ → ℕ → Float → Float → Fault
rise_fault axis i before x =
    when (not (lt before x)) (refusal 5 axis i)
    or when (not (finite (sub binary64 x before))) (refusal 6 axis i)

-- "(4, 5, 6 at each node)": 5 and 6 where there is a node before
unfoldable pub node_fault : ℕ → List Float → ℕ → Fault
node_fault axis nodes i = finite_fault axis i (node nodes i) or when (ltb 0 i) (rise_fault axis i (node nodes (i - 1)) (node nodes i))

-- "node by node"
unfoldable pub nodes_fault : ℕ → List Float → Fault
nodes_fault axis nodes = first_fault (node_fault axis nodes) 0 (length nodes)

-- "each axis node by node"
unfoldable pub axes_fault : List ℕ → List Float → Fault
axes_fault counts nodes = first_fault (λ a. nodes_fault a (get_or (axes_of counts nodes) a [])) 0 (length counts)

-- ---- 7: "value not finite", "0, flat place"
unfoldable pub value_fault : List Float → ℕ → Fault
value_fault values i = when (not (finite (get_or values i nan))) (refusal 7 0 i)

unfoldable pub values_fault : List Float → Fault
values_fault values = first_fault (value_fault values) 0 (length values)

-- ---- 8: "axis not uniform", "axis, interval". "step is the first gap"; "The place named is the interval's lower node."
-- how far two gaps differ, "as rounded"
unfoldable pub apart : Float → Float → Float
apart x y = cond (lt y x) (sub binary64 x y) (sub binary64 y x)

unfoldable pub gap_fault : ℕ → List Float → Float → ℕ → Fault
gap_fault axis nodes tolerance i = when (lt tolerance (apart (gap nodes i) (gap nodes 0))) (refusal 8 axis i)

-- "Every later gap differs from it .. by at most the tolerance.": the n-2 gaps from gap 1 on
unfoldable pub uniform_fault : ℕ → List Float → Float → Fault
uniform_fault axis nodes tolerance = first_fault (gap_fault axis nodes tolerance) 1 (length nodes - 2)

-- "The default is step times 2^-42." (`negsuc 41` is -42)
unfoldable pub default_tolerance : List Float → Float
default_tolerance nodes = mul binary64 (gap nodes 0) (fin false 1 (negsuc 41))

abbrev pub default_fault : ℕ → List Float → Fault
default_fault axis nodes = uniform_fault axis nodes (default_tolerance nodes)

-- "8 for LinearUniform, all axes"
unfoldable pub axes_uniform_fault : List ℕ → List Float → Fault
axes_uniform_fault counts nodes = first_fault (λ a. default_fault a (get_or (axes_of counts nodes) a [])) 0 (length counts)

-- "a lent step not finite or not above 0", "for a step or tolerance 0, 0"
unfoldable pub lent_step_fault : Float → Fault
lent_step_fault step = when (not (finite step) || not (lt plus_zero step)) (refusal 8 0 0)

-- "a lent tolerance not finite or below 0"
unfoldable pub tolerance_fault : Float → Fault
tolerance_fault tolerance = when (not (finite tolerance) || lt tolerance plus_zero) (refusal 8 0 0)

-- ---- 9: "a direction other than 0 lower, 1 upper", "axis, 0"
unfoldable pub direction_fault : ℕ → ℕ → Fault
direction_fault axis direction = when (ltb 1 direction) (refusal 9 axis 0)

-- "9 for Step, all axes"
unfoldable pub directions_fault : List ℕ → Fault
directions_fault directions = first_fault (λ a. direction_fault a (get_or directions a 0)) 0 (length directions)

-- "(program: unknown kind)", "(program: 0, 0)"; the kinds are 0 to 4
abbrev pub unknown_kind_fault : ℕ → Fault
unknown_kind_fault kind = when (ltb 4 kind) (refusal 9 0 0)

-- ---- 10: "reading NaN or infinite", "axis, 0"
unfoldable pub reading_fault : ℕ → Float → Fault
reading_fault axis p = when (not (finite p)) (refusal 10 axis 0)

-- "10 for all axes"
unfoldable pub readings_fault : List Float → Fault
readings_fault readings = first_fault (λ a. reading_fault a (get_or readings a nan)) 0 (length readings)

-- ---- 11: "reading outside its axis", "axis; 0 below, 1 above"
unfoldable pub range_fault : ℕ → List Float → Float → Fault
range_fault axis nodes p =
    when (lt p (node nodes 0)) (refusal 11 axis 0)
    or when (lt (node nodes (length nodes - 1)) p) (refusal 11 axis 1)

-- "11 for all axes"
unfoldable pub ranges_fault : List ℕ → List Float → List Float → Fault
ranges_fault counts nodes readings =
    first_fault (λ a. range_fault a (get_or (axes_of counts nodes) a []) (get_or readings a nan)) 0 (length counts)

-- ---- 12: "computed result not finite", "0, 0; in a slice 0, flat place in the slice"
unfoldable pub result_fault : ℕ → Float → Fault
result_fault place x = when (not (finite x)) (refusal 12 0 place)

unfoldable pub results_fault : List Float → Fault
results_fault values = first_fault (λ i. result_fault i (get_or values i nan)) 0 (length values)

-- ---- 13: "image header wrong", "0, first byte of the field"
unfoldable pub field_fault : ℕ → ℕ → ℕ → Fault
field_fault place wanted x = when (not (eqb x wanted)) (refusal 13 0 place)

-- "under 40 bytes 0"
unfoldable pub short_fault : ℕ → Fault
short_fault len = when (ltb len 40) (refusal 13 0 0)

-- "length, equal to the lent length and 40 to 36,864", which stands at byte 4
unfoldable pub stated_fault : ℕ → ℕ → Fault
stated_fault stated len = when (not (eqb stated len && (leb 40 stated && leb stated 36864))) (refusal 13 0 4)

-- ---- 14: "Each offset is at least 40 and a multiple of 8, and its area ends inside the image"; "axis, or the number of axes for the values; 0"
unfoldable pub area_fault : ℕ → ℕ → ℕ → ℕ → Fault
area_fault len axis offset n = when (not (leb 40 offset && (eqb (offset % 8) 0 && leb (offset + 8 * n) len))) (refusal 14 axis 0)

-- ---- 15: "an output buffer too short", "place 0 nodes, 1 values, 2 image"
unfoldable pub room_fault : ℕ → ℕ → ℕ → Fault
room_fault place wanted room = when (ltb room wanted) (refusal 15 0 place)

-- ---- 16: "slice of a one-axis table, no such axis"
unfoldable pub no_axis_fault : ℕ → ℕ → Fault
no_axis_fault axes axis = when (leb axes 1 || not (ltb axis axes)) (refusal 16 0 0)

-- "slice of a one-axis table .. or not axis 0 for the two linears"
unfoldable pub not_first_fault : ℕ → ℕ → Fault
not_first_fault axes axis = when (leb axes 1 || not (eqb axis 0)) (refusal 16 0 0)

-- ---- 17, of request C-11: "axis 0, place 0", where 1,000,000 records were read already; document 01: "the first 1,000,000 records"
abbrev pub most_records : ℕ
most_records = 1000000

unfoldable pub limit_fault : ℕ → Fault
limit_fault read = when (leb most_records read) (refusal 17 0 0)

-- ---- 18, of request C-12: "No two of the axis and value areas may share a byte."
-- two areas, each of so many bytes from its offset on, share a byte: the later of them begins before the first of their ends
unfoldable pub sharing : ℕ → ℕ → ℕ → ℕ → Bool
sharing at long at' long' = ltb (max at at') (min (at + long) (at' + long'))

-- "axis and place the numbers of the two areas"
unfoldable pub shared_fault : ℕ → ℕ → ℕ → ℕ → ℕ → ℕ → Fault
shared_fault i j at long at' long' = when (sharing at long at' long') (refusal 18 i j)
