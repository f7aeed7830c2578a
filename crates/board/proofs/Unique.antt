-- Each contract of an exported call, as it stands in the source (`Post`), allows one outcome: of the answer, and of each output.
use mathlib.Core.Path.{◌≡◌}
use mathlib.Core.List.{List}
use Prim.Native.Nat.{ℕ}
use lib.Ieee.{Float}
use Rattle.answer.proofs.Outcome.{one_outcome}
use Rattle.answer.specs.declared.Answer.{Answer}
use Rattle.utils.specs.declared.IndexAnswer.{IndexAnswer}
use Rattle.slices.specs.declared.SliceAnswer.{SliceAnswer}
use Rattle.image.specs.declared.LoadAnswer.{LoadAnswer}
use Rattle.writer.specs.declared.WriteAnswer.{WriteAnswer}
use Rattle.tally.specs.declared.Tally.{Tally}
use Rattle.board.specs.declared.plain.PlainExact.{PlainExact}
use Rattle.board.specs.declared.plain.PlainLocation.{PlainLocation}
use Rattle.board.proofs.primitives.ng_locate_lower_index.Reads as locate-lower-index
use Rattle.board.proofs.primitives.ng_locate_axis.Reads as locate-axis
use Rattle.board.proofs.primitives.ng_locate_step_index.Reads as locate-step-index
use Rattle.board.proofs.primitives.ng_exact_index.Reads as exact_index_lem
use Rattle.board.proofs.primitives.ng_locate_lower_index_uniform.Reads as locate-lower-index-uniform
use Rattle.board.proofs.primitives.ng_validate_uniform_grid.Reads as validate-uniform-grid
use Rattle.board.proofs.primitives.ng_validate_uniform_grid_epsilon.Reads as validate-uniform-grid-epsilon
use Rattle.board.proofs.lookups.ng_interpolate_linear.Reads as interpolate-linear
use Rattle.board.proofs.lookups.ng_interpolate_linear_uniform.Reads as interpolate-linear-uniform
use Rattle.board.proofs.lookups.ng_interpolate_nearest.Reads as interpolate-nearest
use Rattle.board.proofs.lookups.ng_interpolate_step.Reads as interpolate-step
use Rattle.board.proofs.cuts.ng_slice_linear.Reads as slice-linear
use Rattle.board.proofs.cuts.ng_slice_linear_uniform.Reads as slice-linear-uniform
use Rattle.board.proofs.cuts.ng_slice_nearest.Reads as slice-nearest
use Rattle.board.proofs.cuts.ng_slice_step.Reads as slice-step
use Rattle.board.proofs.images.ng_load.Reads as load
use Rattle.board.proofs.images.ng_write.Reads as write
use Rattle.board.proofs.tallies.ng_count_record.Reads as count-record

-- ---- the seven primitives
pub locate_lower_index_unique : (κs : _) (a : _) (r s : IndexAnswer) (x y : _) → locate-lower-index.Post κs a r x → locate-lower-index.Post κs a s y → r ≡ s
locate_lower_index_unique κs a r s x y p q = one_outcome r s _ p q

pub locate_axis_unique : (κs : _) (a : _) (r s : PlainLocation) (x y : _) → locate-axis.Post κs a r x → locate-axis.Post κs a s y → r ≡ s
locate_axis_unique κs a r s x y p q = one_outcome r s _ p q

pub locate_step_index_unique : (κs : _) (a : _) (r s : IndexAnswer) (x y : _) → locate-step-index.Post κs a r x → locate-step-index.Post κs a s y → r ≡ s
locate_step_index_unique κs a r s x y p q = one_outcome r s _ p q

pub exact_index_unique : (κs : _) (a : _) (r s : PlainExact) (x y : _) → exact_index_lem.Post κs a r x → exact_index_lem.Post κs a s y → r ≡ s
exact_index_unique κs a r s x y p q = one_outcome r s _ p q

pub locate_lower_index_uniform_unique : (κs : _) (a : _) (r s : IndexAnswer) (x y : _) → locate-lower-index-uniform.Post κs a r x → locate-lower-index-uniform.Post κs a s y → r ≡ s
locate_lower_index_uniform_unique κs a r s x y p q = one_outcome r s _ p q

pub validate_uniform_grid_unique : (κs : _) (a : _) (r s : Answer) (x y : _) → validate-uniform-grid.Post κs a r x → validate-uniform-grid.Post κs a s y → r ≡ s
validate_uniform_grid_unique κs a r s x y p q = one_outcome r s _ p q

pub validate_uniform_grid_epsilon_unique : (κs : _) (a : _) (r s : Answer) (x y : _) → validate-uniform-grid-epsilon.Post κs a r x → validate-uniform-grid-epsilon.Post κs a s y → r ≡ s
validate_uniform_grid_epsilon_unique κs a r s x y p q = one_outcome r s _ p q

-- ---- the four lookups
pub interpolate_linear_unique : (κs : _) (a : _) (r s : Answer) (x y : _) → interpolate-linear.Post κs a r x → interpolate-linear.Post κs a s y → r ≡ s
interpolate_linear_unique κs a r s x y p q = one_outcome r s _ p q

pub interpolate_linear_uniform_unique : (κs : _) (a : _) (r s : Answer) (x y : _) → interpolate-linear-uniform.Post κs a r x → interpolate-linear-uniform.Post κs a s y → r ≡ s
interpolate_linear_uniform_unique κs a r s x y p q = one_outcome r s _ p q

pub interpolate_nearest_unique : (κs : _) (a : _) (r s : Answer) (x y : _) → interpolate-nearest.Post κs a r x → interpolate-nearest.Post κs a s y → r ≡ s
interpolate_nearest_unique κs a r s x y p q = one_outcome r s _ p q

pub interpolate_step_unique : (κs : _) (a : _) (r s : Answer) (x y : _) → interpolate-step.Post κs a r x → interpolate-step.Post κs a s y → r ≡ s
interpolate_step_unique κs a r s x y p q = one_outcome r s _ p q

-- ---- the four slices
pub slice_linear_unique : (κs : _) (a : _) (r s : SliceAnswer) (x y : _) → slice-linear.Post κs a r x → slice-linear.Post κs a s y → r ≡ s
slice_linear_unique κs a r s x y p q = one_outcome r s _ p.0 q.0

pub slice_linear_output : (κs : _) (a : _) (r s : SliceAnswer) (x y : _) → slice-linear.Post κs a r x → slice-linear.Post κs a s y → ◌≡◌ {A = List Float} x.1.1.1.1.1.0.now y.1.1.1.1.1.0.now
slice_linear_output κs a r s x y p q = one_outcome x.1.1.1.1.1.0.now y.1.1.1.1.1.0.now _ p.1 q.1

pub slice_linear_uniform_unique : (κs : _) (a : _) (r s : SliceAnswer) (x y : _) → slice-linear-uniform.Post κs a r x → slice-linear-uniform.Post κs a s y → r ≡ s
slice_linear_uniform_unique κs a r s x y p q = one_outcome r s _ p.0 q.0

pub slice_linear_uniform_output : (κs : _) (a : _) (r s : SliceAnswer) (x y : _) → slice-linear-uniform.Post κs a r x → slice-linear-uniform.Post κs a s y → ◌≡◌ {A = List Float} x.1.1.1.1.1.0.now y.1.1.1.1.1.0.now
slice_linear_uniform_output κs a r s x y p q = one_outcome x.1.1.1.1.1.0.now y.1.1.1.1.1.0.now _ p.1 q.1

pub slice_nearest_unique : (κs : _) (a : _) (r s : SliceAnswer) (x y : _) → slice-nearest.Post κs a r x → slice-nearest.Post κs a s y → r ≡ s
slice_nearest_unique κs a r s x y p q = one_outcome r s _ p.0 q.0

pub slice_nearest_output : (κs : _) (a : _) (r s : SliceAnswer) (x y : _) → slice-nearest.Post κs a r x → slice-nearest.Post κs a s y → ◌≡◌ {A = List Float} x.1.1.1.1.1.0.now y.1.1.1.1.1.0.now
slice_nearest_output κs a r s x y p q = one_outcome x.1.1.1.1.1.0.now y.1.1.1.1.1.0.now _ p.1 q.1

pub slice_step_unique : (κs : _) (a : _) (r s : SliceAnswer) (x y : _) → slice-step.Post κs a r x → slice-step.Post κs a s y → r ≡ s
slice_step_unique κs a r s x y p q = one_outcome r s _ p.0 q.0

pub slice_step_output : (κs : _) (a : _) (r s : SliceAnswer) (x y : _) → slice-step.Post κs a r x → slice-step.Post κs a s y → ◌≡◌ {A = List Float} x.1.1.1.1.1.1.0.now y.1.1.1.1.1.1.0.now
slice_step_output κs a r s x y p q = one_outcome x.1.1.1.1.1.1.0.now y.1.1.1.1.1.1.0.now _ p.1 q.1

-- ---- the loader and the writer
pub load_unique : (κs : _) (a : _) (r s : LoadAnswer) (x y : _) → load.Post κs a r x → load.Post κs a s y → r ≡ s
load_unique κs a r s x y p q = one_outcome r s _ p.answer q.answer

pub load_nodes : (κs : _) (a : _) (r s : LoadAnswer) (x y : _) → load.Post κs a r x → load.Post κs a s y → ◌≡◌ {A = List Float} x.1.0.now y.1.0.now
load_nodes κs a r s x y p q = one_outcome x.1.0.now y.1.0.now _ p.nodes_out q.nodes_out

pub load_values : (κs : _) (a : _) (r s : LoadAnswer) (x y : _) → load.Post κs a r x → load.Post κs a s y → ◌≡◌ {A = List Float} x.1.1.0.now y.1.1.0.now
load_values κs a r s x y p q = one_outcome x.1.1.0.now y.1.1.0.now _ p.values_out q.values_out

pub write_unique : (κs : _) (a : _) (r s : WriteAnswer) (x y : _) → write.Post κs a r x → write.Post κs a s y → r ≡ s
write_unique κs a r s x y p q = one_outcome r s _ p.answer q.answer

pub write_image : (κs : _) (a : _) (r s : WriteAnswer) (x y : _) → write.Post κs a r x → write.Post κs a s y → ◌≡◌ {A = List ℕ} x.1.1.1.0.now y.1.1.1.0.now
write_image κs a r s x y p q = one_outcome x.1.1.1.0.now y.1.1.1.0.now _ p.image_out q.image_out

-- ---- the call that counts
pub count_record_unique : (κs : _) (a : _) (r s : Answer) (x y : _) → count-record.Post κs a r x → count-record.Post κs a s y → r ≡ s
count_record_unique κs a r s x y p q = one_outcome r s _ p.0 q.0

pub count_record_tally : (κs : _) (a : _) (r s : Answer) (x y : _) → count-record.Post κs a r x → count-record.Post κs a s y → ◌≡◌ {A = Tally} x.0.now y.0.now
count_record_tally κs a r s x y p q = one_outcome x.0.now y.0.now _ p.1 q.1
