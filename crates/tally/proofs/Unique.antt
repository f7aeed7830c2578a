-- Each contract of a public function, as it stands in the source (`Post`), allows one outcome.
use mathlib.Core.Path.{◌≡◌}
use Prim.Native.Nat.{ℕ}
use Rattle.answer.proofs.Outcome.{one_outcome}
use Rattle.tally.specs.declared.Tally.{Tally}
use Rattle.tally.specs.declared.TallyAnswer.{TallyAnswer}
use Rattle.tally.specs.Scaffolding.{tally_of}
use Rattle.tally.proofs.none_read.Reads as none_read
use Rattle.tally.proofs.counted.Reads as counted
use Rattle.tally.proofs.count_here.Reads as count-here

pub none_read_unique : (κs : _) (a : _) (r s : Tally) (x y : _) → none_read.Post κs a r x → none_read.Post κs a s y → r ≡ s
none_read_unique κs a r s x y p q = one_outcome r s _ p q

pub counted_unique : (κs : _) (a : _) (r s : TallyAnswer) (x y : _) → counted.Post κs a r x → counted.Post κs a s y → r ≡ s
counted_unique κs a r s x y p q = one_outcome r s _ p q

-- the number of records and both lists of counts, in one
pub count_here_unique : (κs : _) (a : _) (r s : ℕ) (x y : _) → count-here.Post κs a r x → count-here.Post κs a s y
    → tally_of r x.0.now x.1.0.now ≡ tally_of s y.0.now y.1.0.now
count_here_unique κs a r s x y p q = one_outcome (tally_of r x.0.now x.1.0.now) (tally_of s y.0.now y.1.0.now) _ p q
