use mathlib.Core.Path.{ap, ◌∙◌}
use mathlib.Core.List.{List}
use Prim.Native.Nat.{ℕ}
use lib.Ieee.{Float}
use Rattle.answer.proofs.Checks.{stops, goes_on}
use Rattle.checks.specs.Numbers.{range_fault, room_fault}
use Rattle.orders.specs.Orders.{point_fault}
use Rattle.slices.proofs.Slices.{slice_count}
use Rattle.slices.proofs.remaining.point_fault.Goals as goal

pub returns-in_err-reading_fault : goal.returns-in_err-reading_fault
unfolding point_fault
returns-in_err-reading_fault c = stops _ _ _ c.in_err-reading_fault.ensures _ c.from_residual.ensures _

pub returns-in_err-range_fault : goal.returns-in_err-range_fault
unfolding point_fault
returns-in_err-range_fault c =
    let told = c.in_err-range_fault.ensures ∙ ap (λ (xs : List Float). range_fault c.args.axis xs c.args.point) c.axis_nodes-grid.ensures in
    goes_on _ _ c.in_ok-reading_fault.ensures _ _ (stops _ _ _ told _ c.from_residual-in_err-range_fault.ensures _)

pub returns : goal.returns
unfolding point_fault
returns c =
    let told = c.in_ok-range_fault.ensures ∙ ap (λ (xs : List Float). range_fault c.args.axis xs c.args.point) c.axis_nodes-grid.ensures in
    goes_on _ _ c.in_ok-reading_fault.ensures _ _
    (goes_on _ _ told _ _ (c.room_fault.ensures ∙ ap (λ (m : ℕ). room_fault 1 m c.args.room) (slice_count c.requires _ c.axis_nodes-grid.ensures)))
