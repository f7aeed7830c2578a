use Rattle.std.proofs.Common.{T, sym, subst, arith}
use lib.Ieee.{of_bits}
use Rattle.axis.proofs.uniform.Wholes.{above_minus_one, cell_near}
use Rattle.axis.specs.Uniform.{uniform_cell}
use Rattle.axis.proofs.uniform.uniform_cell.Goals as goal

pub truncating_f64_to_u64-whole-requires : goal.truncating_f64_to_u64-whole-requires
unfolding of_bits
truncating_f64_to_u64-whole-requires c = record { lower_bound = subst T (sym (above_minus_one _ c.if-t.false c.if-t-2.true)) tt; upper_bound = subst T (sym c.if-t-2.true) tt }

pub returns-then-t-2 : goal.returns-then-t-2
unfolding of_bits
returns-then-t-2 c = omega (arith, cell_near c.args.n c.args.t c.if-t.false c.if-t-2.true _ c.truncating_f64_to_u64-whole.ensures)

pub returns-else-t-2 : goal.returns-else-t-2
unfolding uniform_cell of_bits
returns-else-t-2 c = simp (c.if-t.false, c.if-t-2.false)
