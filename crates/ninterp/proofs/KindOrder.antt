-- A record's answer in the order in which the code finds it. Assumes nothing.
use mathlib.Core.Path.{◌≡◌, refl, sym, ap, ap₂, ◌∙◌}
use mathlib.Core.Bool.{Bool, true, false}
use mathlib.Core.List.{List}
use Prim.Native.Nat.{ℕ, zero, suc, ◌+◌, ◌*◌, ◌≤◌, ◌<◌}
use native.Mathlib.Omega.{arith}
use borrow.Author.Tests.{lt-ltb, le-ltb, leb-true, leb-false, eq-eqb, ne_eqb}
use lib.Dec.{leb, ltb, eqb}
use lib.ListN.{length, take, get_or, length-take}
use lib.Ieee.{Float, nan}
use Rattle.answer.specs.Faults.{Fault, refusal, good, when, ◌or◌}
use Rattle.answer.specs.Answer.{refused, answered, ◌then◌}
use Rattle.answer.specs.declared.Answer.{Answer}
use Rattle.answer.proofs.Orders as orders
use Rattle.answer.specs.Rows.{said, fault_of}
use Rattle.answer.specs.declared.Refusal.{Refusal}
use Rattle.answer.proofs.Answers.{then_good, then_bad, then_or}
use Rattle.answer.proofs.Checks.{said-err, passes, fails, then_stops, then_goes_on}
use Rattle.std.proofs.Common.{Result, Ok, Err}
use Rattle.std.specs.Prelude.{⊤}
use Rattle.ninterp.specs.declared.records.kind.Kind.{Kind}
use Rattle.ninterp.specs.Kinds.{byte_of}
use Rattle.little_endian.specs.Words.{float_at}
use Rattle.checks.specs.Numbers.{unknown_kind_fault, direction_fault, length_fault, axes_fault, ranges_fault, values_fault, directions_fault, readings_fault, axes_uniform_fault}
use Rattle.checks.proofs.lent.Rows.{direction_fine, length_same, length-passed}
use Rattle.layout.specs.Shape.{counts_of}
use Rattle.checks.specs.Shapes.{frame_fault}
use Rattle.layout.specs.Layout.{tabulate}
use Rattle.layout.specs.declared.Shape.{Shape}
use Rattle.checks.proofs.shapes.Frames.{shape_four}
use Rattle.checks.proofs.table.Grids.{frame_shape}
use Rattle.layout.proofs.Layouts.{length-tabulate, get_d_tabulate}
use Rattle.orders.specs.Orders.{lookup_fault, step_fault, linear_uniform_fault}
use Rattle.ninterp.specs.Tables.{picked, nearest_answer, step_answer}
use Rattle.ninterp.specs.Scaffolding.{LookupJudged, Known, table_fault, kind_fault, kind_found}
use Rattle.axis.specs.Picks.{nearest_rule, step_rule}
use Rattle.axis.specs.Scaffolding.{pick_index}
use Rattle.ninterp.specs.Linears.{linear_answer, linear_uniform_answer}
use Rattle.ninterp.specs.Records.{all_of, kind_answer, record_readings, record_fault, record_answer, record_size}
use Rattle.ninterp.proofs.Located.{take_filled}
use Rattle.ninterp.proofs.Lookups.{judged, picks_nearest, picks_step}

three : (a b c rest : Fault) → ((a or b or c) or rest) ≡ (a or b or c or rest)
three a b c rest = orders.or_assoc a (b or c) rest ∙ ap (λ (x : Fault). a or x) (orders.or_assoc b c rest)

lent : (place wanted n : ℕ) → n ≡ wanted → (rest : Fault) → (length_fault place wanted n or rest) ≡ rest
lent place wanted n e rest = orders.or_good (length_fault place wanted n) rest (orders.passed-no_fault (length_fault place wanted n) (length_same place wanted n e))

-- an order of checks that is asked twice
again : (f : Fault) (a : Answer) → (f then f then a) ≡ (f then a)
again f a = go (good f) refl
  where
    go : (t : Bool) → good f ≡ t → (f then f then a) ≡ (f then a)
    go true e = then_good f (f then a) e
    go false e = then_bad f (f then a) e ∙ sym (then_bad f a e)

module _ (s : Shape) (nodes values readings : List Float) (read : length readings ≡ s.axes) where
  abbrev frame : Fault
  frame = frame_fault s (length nodes) (length values)

  abbrev uniform : Fault
  uniform = axes_uniform_fault (counts_of s) nodes

  abbrev inside : Fault
  inside = readings_fault readings or ranges_fault (counts_of s) nodes readings

  -- ---- each order of checks, of readings as many as the axes
  lookup_split : lookup_fault s nodes values readings ≡ (table_fault s nodes values or inside)
  unfolding lookup_fault
  lookup_split =
      ap (λ (x : Fault). frame or x) (lent 2 s.axes (length readings) read (axes_fault (counts_of s) nodes or values_fault values or inside))
      ∙ sym (three frame (axes_fault (counts_of s) nodes) (values_fault values) inside)

  uniform_split : linear_uniform_fault s nodes values readings ≡ (table_fault s nodes values or uniform or inside)
  unfolding linear_uniform_fault
  uniform_split =
      ap (λ (x : Fault). frame or x) (lent 2 s.axes (length readings) read (axes_fault (counts_of s) nodes or values_fault values or uniform or inside))
      ∙ sym (three frame (axes_fault (counts_of s) nodes) (values_fault values) (uniform or inside))

  all_pass : (d : ℕ) → d < 2 → good (directions_fault (all_of s d)) ≡ true
  unfolding directions_fault
  all_pass d l =
      ap good (orders.none_good (λ a. direction_fault a (get_or (all_of s d) a 0)) 0 (length (all_of s d))
      (λ a _ m. orders.passed-no_fault (direction_fault a (get_or (all_of s d) a 0)) (direction_fine a (get_or (all_of s d) a 0) (omega (arith, get_d_tabulate s.axes a (λ (_ : ℕ). d) 0 (omega (arith, m, length-tabulate s.axes (λ (_ : ℕ). d))))))))
      ∙ orders.good-no_fault

  step_split : (d : ℕ) → d < 2 → step_fault s nodes values readings (all_of s d) ≡ (table_fault s nodes values or inside)
  unfolding step_fault
  step_split d l =
      ap (λ (x : Fault). frame or x)
      (lent 2 s.axes (length readings) read (length_fault 3 s.axes (length (all_of s d)) or axes_fault (counts_of s) nodes or values_fault values or directions_fault (all_of s d) or inside)
      ∙ lent 3 s.axes (length (all_of s d)) (length-tabulate s.axes (λ (_ : ℕ). d)) (axes_fault (counts_of s) nodes or values_fault values or directions_fault (all_of s d) or inside)
      ∙ ap (λ (x : Fault). axes_fault (counts_of s) nodes or values_fault values or x) (orders.or_good (directions_fault (all_of s d)) inside (all_pass d l)))
      ∙ sym (three frame (axes_fault (counts_of s) nodes) (values_fault values) inside)

  -- ---- the kinds
  abbrev found : ℕ → Answer
  found kind = kind_found kind s nodes values readings

  abbrev table : Fault
  table = table_fault s nodes values

  abbrev own : ℕ → Fault
  own kind = when (eqb kind 1) uniform

  known : (kind : ℕ) → kind ≤ 4 → (rest : Answer) → (kind_fault kind table uniform then rest) ≡ (table then own kind then rest)
  known kind l rest =
      ap (λ (x : Fault). (table or x) then rest) (orders.or_good (unknown_kind_fault kind) (own kind) (orders.good-when (ltb 4 kind) (refusal 9 0 0) (le-ltb 4 kind l)))
      ∙ then_or table (own kind) rest

  plain : (kind : ℕ) → kind ≤ 4 → (kind ≡ 1 → ⊥) → (rest : Answer) → (kind_fault kind table uniform then rest) ≡ (table then rest)
  plain kind l n rest =
      known kind l rest ∙ ap (λ (x : Answer). table then x) (then_good (own kind) rest (orders.good-when (eqb kind 1) uniform (ne_eqb kind 1 n)))

  unknown : (kind : ℕ) → 4 < kind → (rest : Answer) → (kind_fault kind table uniform then rest) ≡ (table then refused (refusal 9 0 0))
  unknown kind l rest =
      then_or table (unknown_kind_fault kind or own kind) rest
      ∙ ap (λ (x : Answer). table then x)
      (then_or (unknown_kind_fault kind) (own kind) rest
      ∙ then_bad (unknown_kind_fault kind) (own kind then rest) (ap good nine ∙ orders.bad_refused 8 0 0)
      ∙ ap refused nine)
    where
      nine : unknown_kind_fault kind ≡ refusal 9 0 0
      nine = orders.when_true (ltb 4 kind) (refusal 9 0 0) (lt-ltb 4 kind l)

  -- a rule whose checks are the table's and the reading's, and whose value is the kind's
  of_rule : (kind : ℕ) → kind ≤ 4 → (kind ≡ 1 → ⊥) → (checks : Fault) (value : Answer) → kind_answer kind s nodes values readings ≡ (checks then value)
      → checks ≡ (table or inside) → value ≡ found kind
      → kind_answer kind s nodes values readings ≡ (kind_fault kind table uniform then inside then found kind)
  of_rule kind l n checks value e c v =
      e ∙ ap₂ (λ (x : Fault) (y : Answer). x then y) c v ∙ then_or table inside (found kind) ∙ sym (plain kind l n (inside then found kind))

  linear_order : kind_answer 0 s nodes values readings ≡ (kind_fault 0 table uniform then inside then found 0)
  unfolding kind_answer linear_answer kind_found
  linear_order = of_rule 0 (omega arith) (λ e. omega arith) (lookup_fault s nodes values readings) (found 0) refl lookup_split refl

  uniform_order : kind_answer 1 s nodes values readings ≡ (kind_fault 1 table uniform then inside then found 1)
  unfolding kind_answer linear_uniform_answer kind_found when
  uniform_order =
      ap (λ (x : Fault). x then found 1) uniform_split
      ∙ then_or table (uniform or inside) (found 1)
      ∙ ap (λ (x : Answer). table then x) (then_or uniform inside (found 1))
      ∙ sym (known 1 (omega arith) (inside then found 1))

  kind_unknown : (kind : ℕ) → 4 < kind → kind_answer kind s nodes values readings ≡ refused (refusal 9 0 0)
  unfolding kind_answer
  kind_unknown kind l = rw (ne_eqb kind 0 (λ e. omega arith), ne_eqb kind 1 (λ e. omega arith), ne_eqb kind 2 (λ e. omega arith), ne_eqb kind 3 (λ e. omega arith), ne_eqb kind 4 (λ e. omega arith))

  used : length (counts_of s) ≤ s.axes
  used = omega (arith, length-take s.axes s.counts)

  nearest_order : kind_answer 2 s nodes values readings ≡ (kind_fault 2 table uniform then inside then found 2)
  unfolding kind_answer nearest_answer kind_found
  nearest_order =
      of_rule 2 (omega arith) (λ e. omega arith) (lookup_fault s nodes values readings) (answered (picked nearest_rule (counts_of s) nodes values readings)) refl lookup_split
      (ap answered (sym (picks_nearest (counts_of s) nodes values readings (λ (_ : ℕ). 2) (λ a l. omega arith))))

  step_value : (d : ℕ) → d < 2 → picked (step_rule (all_of s d)) (counts_of s) nodes values readings ≡ picked (λ a. pick_index d) (counts_of s) nodes values readings
  step_value d h =
      sym (picks_step (counts_of s) nodes values readings (λ (_ : ℕ). d) (all_of s d)
      (λ a l. (sym (get_d_tabulate s.axes a (λ (_ : ℕ). d) 0 (omega (arith, used))), h)))

  lower_order : kind_answer 3 s nodes values readings ≡ (kind_fault 3 table uniform then inside then found 3)
  unfolding kind_answer step_answer kind_found
  lower_order =
      of_rule 3 (omega arith) (λ e. omega arith) (step_fault s nodes values readings (all_of s 0)) (answered (picked (step_rule (all_of s 0)) (counts_of s) nodes values readings)) refl (step_split 0 (omega arith))
      (ap answered (step_value 0 (omega arith)))

  upper_order : kind_answer 4 s nodes values readings ≡ (kind_fault 4 table uniform then inside then found 4)
  unfolding kind_answer step_answer kind_found
  upper_order =
      of_rule 4 (omega arith) (λ e. omega arith) (step_fault s nodes values readings (all_of s 1)) (answered (picked (step_rule (all_of s 1)) (counts_of s) nodes values readings)) refl (step_split 1 (omega arith))
      (ap answered (step_value 1 (omega arith)))

  kind_known : (kind : ℕ) → kind ≤ 4 → kind_answer kind s nodes values readings ≡ (kind_fault kind table uniform then inside then found kind)
  kind_known zero l = linear_order
  kind_known (suc zero) l = uniform_order
  kind_known (suc (suc zero)) l = nearest_order
  kind_known (suc (suc (suc zero))) l = lower_order
  kind_known (suc (suc (suc (suc zero)))) l = upper_order
  kind_known (suc (suc (suc (suc (suc k))))) l = absurd (omega (arith, l))

  -- what the table has, and then the kind's own answer: the table is judged once
  kind_judged : (kind : ℕ) → (table then kind_answer kind s nodes values readings) ≡ (kind_fault kind table uniform then inside then found kind)
  kind_judged kind = go (leb kind 4) (leb-true kind 4) (leb-false kind 4)
    where
      go : (t : Bool) → (t ≡ true → kind ≤ 4) → (t ≡ false → 4 < kind) → (table then kind_answer kind s nodes values readings) ≡ (kind_fault kind table uniform then inside then found kind)
      go true u v =
          ap (λ (x : Answer). table then x) (kind_known kind (u refl) ∙ known kind (u refl) (inside then found kind))
          ∙ again table (own kind then inside then found kind)
          ∙ sym (known kind (u refl) (inside then found kind))
      go false u v = ap (λ (x : Answer). table then x) (kind_unknown kind (v refl)) ∙ sym (unknown kind (v refl) (inside then found kind))

  pub kind_order : (four : length s.counts ≡ 4) (kind : ℕ) → (table_fault s nodes values then kind_answer kind s nodes values readings) ≡ (kind_fault kind (table_fault s nodes values) uniform then inside then found kind)
  kind_order four kind = kind_judged kind

  -- ---- what is known where a check passed
  module _ (table : good (table_fault s nodes values) ≡ true) where
    table_four : s.axes ≤ 4
    table_four = shape_four s (frame_shape s nodes values (orders.first-passed frame (axes_fault (counts_of s) nodes or values_fault values) table))

    pub point_judged : good inside ≡ true → LookupJudged s nodes values readings
    point_judged h =
        judged s nodes values readings (orders.first-passed frame (axes_fault (counts_of s) nodes or values_fault values) table) (orders.passed-no_fault (length_fault 2 s.axes (length readings)) (length_same 2 s.axes (length readings) read))
        (orders.first-passed (axes_fault (counts_of s) nodes) (values_fault values) (orders.second_passed frame (axes_fault (counts_of s) nodes or values_fault values) table)) h

-- ---- a record
pub length_readings : (s : Shape) (rec : List ℕ) → length (record_readings s rec) ≡ s.axes
unfolding record_readings
length_readings s rec = length-tabulate s.axes (λ a. float_at rec (1 + 8 * a))

-- of four readings those of a table's axes
read_four : (s : Shape) (rec : List ℕ) (xs : List Float) → xs ≡ tabulate 4 (λ a. float_at rec (1 + 8 * a)) → s.axes ≤ 4 → take s.axes xs ≡ record_readings s rec
unfolding record_readings
read_four s rec xs e h =
    take_filled xs s.axes nan (λ a. float_at rec (1 + 8 * a))
    (omega (arith, ap length e ∙ length-tabulate 4 (λ a. float_at rec (1 + 8 * a))))
    (λ k b. ap (λ (ys : List Float). get_or ys k nan) e ∙ get_d_tabulate 4 k (λ a. float_at rec (1 + 8 * a)) nan (omega arith))

read_enough : (s : Shape) (rec : List ℕ) (xs : List Float) → take s.axes xs ≡ record_readings s rec → s.axes ≤ length xs
read_enough s rec xs e =
    let n : length (take s.axes xs) ≡ s.axes = ap length e ∙ length_readings s rec in
    omega (arith, length-take s.axes xs)

module _ (s : Shape) (nodes values : List Float) (rec : List ℕ) where
  -- 1, 2, 3
  abbrev lengths : Fault
  lengths = frame_fault s (length nodes) (length values) or length_fault 2 (record_size s) (length rec)

  pub record_refused : good lengths ≡ false → record_answer s nodes values rec ≡ refused lengths
  unfolding record_answer record_fault
  record_refused h =
      ap (λ (x : Fault). x then kind_answer (get_or rec 0 0) s nodes values (record_readings s rec))
      (sym (orders.or_assoc (frame_fault s (length nodes) (length values)) (length_fault 2 (record_size s) (length rec)) (axes_fault (counts_of s) nodes or values_fault values))
      ∙ orders.or_bad lengths (axes_fault (counts_of s) nodes or values_fault values) h)
      ∙ then_bad lengths (kind_answer (get_or rec 0 0) s nodes values (record_readings s rec)) h

  -- as the code finds them
  pub lengths_stop : (A : Type 0) (e : Refusal) → said {A = A} (Err e) ≡ lengths → (x : Answer) → x ≡ refused (fault_of e) → x ≡ record_answer s nodes values rec
  lengths_stop A e h x q = q ∙ ap refused (sym (said-err A e) ∙ h) ∙ sym (record_refused (fails A e lengths h))

  pub lengths_pass : {A : Type 0} (x : A) → said (Ok x) ≡ lengths → length rec ≡ record_size s
  lengths_pass x h = length-passed 2 (record_size s) (length rec) (orders.second_passed (frame_fault s (length nodes) (length values)) _ (passes x lengths h))

  -- of a record of the right length
  pub record_exact : length rec ≡ record_size s → record_answer s nodes values rec ≡ (table_fault s nodes values then kind_answer (get_or rec 0 0) s nodes values (record_readings s rec))
  unfolding record_answer record_fault
  record_exact l =
      ap (λ (x : Fault). (frame_fault s (length nodes) (length values) or x) then kind_answer (get_or rec 0 0) s nodes values (record_readings s rec))
      (lent 2 (record_size s) (length rec) l (axes_fault (counts_of s) nodes or values_fault values))

-- ---- a whole record
module _ {s : Shape} {nodes values : List Float} {table uniform : Result ⊤ Refusal} (k : Known s nodes values table uniform) (rec : List ℕ) (sized : length rec ≡ record_size s) where
  abbrev byte : ℕ
  byte = get_or rec 0 0

  -- what was found of its kind, of the table and of 8
  abbrev before : Fault
  before = kind_fault byte (table_fault s nodes values) (axes_uniform_fault (counts_of s) nodes)

  same : kind_fault byte (said table) (said uniform) ≡ before
  same = ap₂ (kind_fault byte) k.judged k.spaced

  ordered : record_answer s nodes values rec ≡ (before then (readings_fault (record_readings s rec) or ranges_fault (counts_of s) nodes (record_readings s rec)) then kind_found byte s nodes values (record_readings s rec))
  ordered = record_exact s nodes values rec sized ∙ kind_judged s nodes values (record_readings s rec) (length_readings s rec) byte

  pub whole_stops : (e : Refusal) → said {A = Kind} (Err e) ≡ kind_fault (get_or rec 0 0) (said table) (said uniform) → (x : Answer) → x ≡ refused (fault_of e) → x ≡ record_answer s nodes values rec
  whole_stops e h x q = then_stops Kind e before (h ∙ same) x _ q ∙ sym ordered

  module _ (kind : Kind) (h : said (Ok kind) ≡ kind_fault (get_or rec 0 0) (said table) (said uniform)) where
    pub whole_table : good (table_fault s nodes values) ≡ true
    whole_table =
        orders.first-passed (table_fault s nodes values) (unknown_kind_fault byte or when (eqb byte 1) (axes_uniform_fault (counts_of s) nodes))
        (passes kind before (h ∙ same))

    whole_four : s.axes ≤ 4
    whole_four = table_four s nodes values (record_readings s rec) (length_readings s rec) whole_table

    -- of four readings its own
    module _ (xs : List Float) (e : xs ≡ tabulate 4 (λ a. float_at rec (1 + 8 * a))) where
      whole_readings : take s.axes xs ≡ record_readings s rec
      whole_readings = read_four s rec xs e whole_four

      pub whole_enough : s.axes ≤ length xs
      whole_enough = read_enough s rec xs whole_readings

      pub whole_count : length (take s.axes xs) ≡ s.axes
      whole_count = ap length whole_readings ∙ length_readings s rec

      pub whole_found : byte_of kind ≡ get_or rec 0 0 → (x : Answer)
          → x ≡ ((readings_fault (take s.axes xs) or ranges_fault (counts_of s) nodes (take s.axes xs)) then kind_found (byte_of kind) s nodes values (take s.axes xs))
          → x ≡ record_answer s nodes values rec
      whole_found b x q =
          then_goes_on kind before (h ∙ same) x _
          (q ∙ ap₂ (λ (n : ℕ) (ys : List Float). (readings_fault ys or ranges_fault (counts_of s) nodes ys) then kind_found n s nodes values ys) b whole_readings)
          ∙ sym ordered
