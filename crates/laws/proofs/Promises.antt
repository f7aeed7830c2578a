-- The page of promises (laws/specs/Promises.antt), statement by statement, by the theorems there are. Assumes nothing.
use mathlib.Core.Path.{◌≡◌, refl}
use mathlib.Core.Bool.{true}
use mathlib.Core.List.{List, [], ◌∷◌}
use Prim.Native.Nat.{ℕ, ◌+◌, ◌*◌}
use lib.ListN.{length, get_or}
use lib.Ieee.{Float}
use Rattle.answer.specs.Faults.{good}
use Rattle.answer.specs.Answer.{fine}
use Rattle.answer.proofs.Orders as orders
use Rattle.answer.proofs.Answers.{then_good, then_bad, then_number}
use Rattle.checks.specs.Numbers.{range_fault}
use Rattle.checks.proofs.lent.Rows.{length_same}
use Rattle.ninterp.specs.Tables.{nearest_answer, step_answer}
use Rattle.ninterp.specs.Linears.{linear_answer, linear_uniform_answer}
use Rattle.little_endian.specs.Words.{float_at}
use Rattle.layout.specs.Layout.{tabulate}
use Rattle.ninterp.specs.Records.{kind_answer, record_size, record_readings, record_fault, record_answer}
use Rattle.ninterp.proofs.Refusals.{nearest-told, step-told, linear-told, linear_uniform-told, record_told}
use Rattle.ninterp.proofs.UniformOverflow as wide
use Rattle.slices.specs.Slices.{slice_answer, nearest_slice, nearest_sliced, step_slice, step_sliced}
use Rattle.image.specs.Load.{load_answer}
use Rattle.writer.specs.Write.{write_answer}
use Rattle.slices.specs.LinearSlices.{linear_slice, linear_sliced, linear_uniform_slice, linear_uniform_sliced}
use Rattle.laws.specs.Calls.{Floats, Table, axes, axis, on, record_of}
use Rattle.laws.specs.Promises.{Accepted, Sliceable, Overflows, Demand1, Demand2, Demand3}
use Rattle.laws.proofs.Premises.{passes, accepted, uniform, range_passes, directed_lent, directed_passes}
use Rattle.laws.proofs.Primitives.{primitives}
use Rattle.laws.proofs.Judging as judging
use Rattle.laws.proofs.Giving as giving
use Rattle.laws.proofs.Slicing as slicing
use Rattle.laws.proofs.Leaving as leaving
use Rattle.laws.proofs.Slicing.{slice_good}
use Rattle.laws.proofs.Commuting as commuting
use Rattle.laws.proofs.Square as square
use Rattle.laws.proofs.Makes.{nearest_slice_made, step_slice_made}
use Rattle.laws.proofs.LinearMakes.{linear_slice_always}

pub demand-1 : Demand1
unfolding linear_answer linear_uniform_answer nearest_answer step_answer record_answer slice_answer linear_slice linear_sliced linear_uniform_slice linear_uniform_sliced nearest_slice nearest_sliced step_slice step_sliced load_answer write_answer
demand-1 = record {
  lookups_judge = (
    λ t ps h. judging.lookup_judged_lem t ps (then_number _ _ h),
    (
      λ t ps h. (judging.uniform_judged t ps (then_number _ _ h)).0,
      (λ t ps h. judging.lookup_judged_lem t ps (then_number _ _ h), λ ds t ps h. (judging.step_judged t ps ds (then_number _ _ h)).0),
    ),
  );
  uniform_judged = λ t ps h. (judging.uniform_judged t ps (then_number _ _ h)).1;
  directions_judged = λ t ps ds h. (judging.step_judged t ps ds (then_number _ _ h)).1;
  slices_judge = (
    λ t k p out h. judging.linear_slice_judged t k p out (slice_good _ t.shape k h),
    (
      λ t k p out h. judging.uniform_slice_judged t k p out (slice_good _ t.shape k h),
      (
        λ t k p out h. judging.nearest_judged t k p out (slice_good _ t.shape k h),
        λ ds t k p out h. judging.step_slice_judged t k p out ds (slice_good _ t.shape k h),
      ),
    ),
  );
  linear_slices_first = λ t k p out h. judging.linear_slice-first t k p out (slice_good _ t.shape k h);
  uniform_slices_judged = λ t k p out h. judging.uniform_slice_first t k p out (slice_good _ t.shape k h);
  step_slices_judged = λ t k p out ds h. judging.step_slice_directed t k p out ds (slice_good _ t.shape k h);
  load_judges = judging.load_judged;
  write_judges = judging.write_judged;
  record_judges = λ t rec h. judging.record_judged t rec (then_number _ _ h);
  primitives_give = primitives;
  lookups_tell = (
    λ t ps. judging.tells (linear-told t.shape t.nodes.list t.values.list ps.list),
    (
      λ t ps. judging.tells (linear_uniform-told t.shape t.nodes.list t.values.list ps.list),
      (
        λ t ps. judging.tells (nearest-told t.shape t.nodes.list t.values.list ps.list),
        λ ds t ps. judging.tells (step-told t.shape t.nodes.list t.values.list ps.list ds),
      ),
    ),
  );
  record_tells = λ t rec. judging.tells (record_told t.shape t.nodes.list t.values.list rec);
  lookups_refuse = λ t ps. ((λ h. then_bad _ _ h, λ h. then_bad _ _ h), (λ h. then_bad _ _ h, λ ds h. then_bad _ _ h));
  slices_refuse = λ t k p out. ((λ h. then_bad _ fine h, λ h. then_bad _ fine h), (λ h. then_bad _ fine h, λ ds h. then_bad _ fine h));
  record_refuses = λ t rec h. then_bad _ _ h;
  load_refuses = λ img ns vs h. then_bad _ fine h;
  write_refuses = λ t out h. then_bad _ fine h;
  load_gives = judging.load_given;
  slices_keep = (
    λ t k p out. judging.slice_keeps _ t.shape k _ out _ (judging.linear_fits t k p out),
    (
      λ t k p out. judging.slice_keeps _ t.shape k _ out _ (judging.uniform_fits t k p out),
      (λ t k p out. judging.slice_keeps _ t.shape k _ out _ (judging.nearest_fits t k p out), λ ds t k p out. judging.slice_keeps _ t.shape k _ out _ (judging.step_fits t k p out ds)),
    ),
  );
  load_keeps = judging.load_keeps;
  write_keeps = judging.write_keeps;
}

-- ---- nodes 0, 1 and 2 + 2^-42, the largest number at the last of them, and the reading there
overflows : Overflows
overflows = record {
  t = big;
  ps = at_last;
  accepted = good-table;
  uniform = uniform big good-table wide.wide_uniform;
  in_range = record { lent = refl; each = λ a l. record { finite_reading = (wide.wide_in_range).finites a l; low = (wide.wide_in_range).low a l; high = (wide.wide_in_range).high a l } };
  refusal-12 = wide.uniform_overflows;
}
  where
    at_last : Floats
    at_last = record { list = wide.last ∷ []; held = (wide.wide_held).2 }

    big : Table
    big = record { shape = wide.wide; four = refl; nodes = record { list = wide.nodes; held = (wide.wide_held).0 }; values = record { list = wide.values; held = (wide.wide_held).1 } }

    good-table : Accepted big
    good-table = accepted big wide.wide_accepted

-- a record of the right length on an accepted table is answered by its kind
record_gives : (t : Table) (rec : List ℕ) → Accepted t → length rec ≡ record_size t.shape → record_of t rec ≡ on t (kind_answer (get_or rec 0 0)) (tabulate (axes t) (λ a. float_at rec (1 + 8 * a)))
unfolding record_answer record_fault record_readings
record_gives t rec g e =
    then_good (record_fault t.shape t.nodes.list t.values.list rec) _
    (orders.both_passed _ _ (passes t g).frame (orders.both_passed _ _ (orders.passed-no_fault _ (length_same 2 (record_size t.shape) (length rec) e)) (orders.both_passed _ _ (passes t g).axes (passes t g).stored)))

pub demand-2 : Demand2
demand-2 = record {
  linear_gives = giving.linear_bits;
  nearest_gives = giving.nearest_bits;
  step_gives = λ t ps e ds g r s d. giving.step_bits t ps e g r s ds d;
  linear_uniform_gives = λ t ps e g u r s. giving.uniform_bits t ps e g r s u;
  linear_uniform_overflows = overflows;
  record_gives = record_gives;
  image_returns = giving.image_back;
}

-- a reading of the page passes 11
inside : (t : Table) (k : ℕ) (p : Float) (out : List Float) → Sliceable t k p out → good (range_fault k (axis t k) p) ≡ true
inside t k p out s = range_passes t k p (s.accepted.rising k s.there) k s.inside

pub demand-3 : Demand3
unfolding linear_slice linear_uniform_slice nearest_slice step_slice slice_answer
demand-3 = record {
  linear_slices = λ t p out s.
      then_good _ fine
      (linear_slice_always t.shape t.nodes.list t.values.list (passes t s.accepted) s.many p (length out) s.inside.finite_reading t.nodes.held t.values.held (inside t 0 p out s) s.room);
  linear_uniform_slices = leaving.uniform_slice_made;
  linear_uniform_slice_overflows = λ t p out i s u. leaving.uniform_slice_overflows t p out s u i;
  slices_leave = (leaving.linear_leaves, (leaving.linear_uniform_leaves, (leaving.nearest_leaves, λ ds t k p out. leaving.step_leaves t k p out ds)));
  linear_values_lem = leaving.linear_values_lem;
  linear_uniform_values = leaving.linear_uniform_values;
  nearest_values = leaving.nearest_values;
  step_values = leaving.step_values;
  nearest_slices = λ t k p out s.
      then_good _ fine
      (nearest_slice_made t.shape t.nodes.list t.values.list (passes t s.accepted) s.many p (length out) s.inside.finite_reading k s.there (inside t k p out s) s.room);
  step_slices = λ t k p out ds s d.
      then_good _ fine
      (step_slice_made t.shape t.nodes.list t.values.list (passes t s.accepted) s.many p (length out) s.inside.finite_reading k s.there (inside t k p out s) s.room ds (directed_lent t ds d) (directed_passes t ds d));
  linear-answers = slicing.linear-answers;
  linear_uniform-answers = slicing.uniform_answers;
  nearest-answers = slicing.nearest-answers;
  step-answers = slicing.step-answers;
  nearest_commute = commuting.nearest_commute;
  step_commute = commuting.step_commute;
  two_axes = square.two_axes;
  linear-stored = λ t ps at g o. (giving.stored_bits t ps at g o).0;
  nearest-stored = λ t ps at g o. (giving.stored_bits t ps at g o).1.0;
  step-stored = λ t ps at ds g o d. (giving.stored_bits t ps at g o).1.1 ds d;
}
