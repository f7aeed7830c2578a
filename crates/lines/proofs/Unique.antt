-- Each contract of a public function, as it stands in the source (`Post`), allows one outcome.
use mathlib.Core.Path.{◌≡◌, sym, ap, ◌∙◌}
use mathlib.Core.List.{List}
use Prim.Native.Nat.{ℕ}
use lib.ListN.{length}
use Rattle.answer.proofs.Outcome.{one_outcome}
use Rattle.lines.specs.Put.{put}
use Rattle.lines.specs.Stream.{Rule, lines_first, count_of, Block}
use Rattle.lines.proofs.put_all.Reads as put_all_lem
use Rattle.lines.proofs.put_line.Reads as put-line
use Rattle.lines.proofs.report.put.Reads as report

pub put_line_unique : (κs : _) (a : _) (r s : ℕ) (x y : _) → put-line.Post κs a r x → put-line.Post κs a s y → r ≡ s
put_line_unique κs a r s x y p q = one_outcome r s _ p.0.0 q.0.0

pub put_line_bytes : (κs : _) (a : _) (r s : ℕ) (x y : _) → put-line.Post κs a r x → put-line.Post κs a s y → ◌≡◌ {A = List ℕ} x.1.0.now y.1.0.now
put_line_bytes κs a r s x y p q = one_outcome x.1.0.now y.1.0.now _ p.0.1 q.0.1

pub put_all_bytes : (κs : _) (a : _) (r s : _) (x y : _) → put_all_lem.Post κs a r x → put_all_lem.Post κs a s y → ◌≡◌ {A = List ℕ} x.1.0.now y.1.0.now
put_all_bytes κs a r s x y p q = one_outcome x.1.0.now y.1.0.now _ p q

pub report_unique : (κs : _) (a : _) (r s : ℕ) (x y : _) → report.Post κs a r x → report.Post κs a s y → r ≡ s
report_unique κs a r s x y p q = one_outcome r s _ p.0.0 q.0.0

pub report_bytes : (κs : _) (a : _) (r s : ℕ) (x y : _) → report.Post κs a r x → report.Post κs a s y
    → ◌≡◌ {A = List ℕ} x.1.1.1.1.1.0.now y.1.1.1.1.1.0.now
report_bytes κs a r s x y p q = one_outcome x.1.1.1.1.1.0.now y.1.1.1.1.1.0.now _ p.0.1 q.0.1

-- what a block is said to do is one outcome too, for any function whose contract says it
module _ {p : Rule} {most : ℕ} {input d e f : List ℕ} {m n v w : ℕ} (a : Block p most input d e m v) (b : Block p most input d f n w) where
  pub block_count_lem : m ≡ n
  block_count_lem = one_outcome m n (count_of p most input (length d)) a.many b.many

  pub block_written : v ≡ w
  block_written = a.long ∙ ap (λ (k : ℕ). length (lines_first p k input)) block_count_lem ∙ sym b.long

  pub block_bytes : e ≡ f
  block_bytes = a.bytes ∙ ap (λ (k : ℕ). put d 0 (lines_first p k input)) block_count_lem ∙ sym b.bytes
