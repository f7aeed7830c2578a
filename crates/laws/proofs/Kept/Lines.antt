-- Laws of lines and other bytes put into a buffer, and of which line it is, each way through tests that the code no longer makes. They hold as they
-- did; no proof stands on them.
use mathlib.Core.Path.{◌≡◌}
use mathlib.Core.Bool.{true, false}
use mathlib.Core.List.{List, [], ◌∷◌, ◌++◌}
use Prim.Native.Nat.{ℕ, ◌+◌, ◌≤◌}
use native.Mathlib.Omega.{arith}
use lib.Dec.{leb}
use lib.ListN.{length}
use borrow.Author.Tests.{eq-eqb, ne_eqb}
use Rattle.answer.specs.declared.Answer.{Answer}
use Rattle.lines.specs.Digit.{decimal}
use Rattle.lines.specs.Line.{ok_line, no_line, line_of, longest}
use Rattle.lines.specs.Put.{put, room_for, line_into, line_end, all_into}
use Rattle.lines.specs.Report.{number_line}
use Rattle.lines.specs.Scaffolding.{Wrote}

module _ (a : Answer) where
  pub line_ok : a.number ≡ 0 → line_of a ≡ ok_line a.value
  unfolding line_of
  line_ok h = rw (eq-eqb a.number 0 h)

  pub line_no : (a.number ≡ 0 → ⊥) → line_of a ≡ no_line a.number a.axis a.place
  unfolding line_of
  line_no h = rw (ne_eqb a.number 0 h)

-- ---- the line put into a buffer
module _ (a : Answer) (d : List ℕ) (at : ℕ) where
  pub line_left : leb (at + longest) (length d) ≡ false → ((at ≡ line_end a d at) × (d ≡ line_into a d at)) × (at ≤ at + longest)
  unfolding line_end line_into room_for
  line_left h = ((rw h, rw h), omega arith)

  module _ {e : List ℕ} {r : ℕ} where
    pub line-put : leb (at + longest) (length d) ≡ true → length (line_of a) ≤ longest → Wrote d at (line_of a) e r
        → ((r ≡ line_end a d at) × (e ≡ line_into a d at)) × (r ≤ at + longest)
    unfolding line_end line_into room_for
    line-put h l w = ((rw h w.next, rw h w.bytes), omega (arith, w.next))

-- ---- bytes put where they all have room
module _ (xs d : List ℕ) (at : ℕ) where
  pub all_left : leb (at + length xs) (length d) ≡ false → d ≡ all_into xs d at
  unfolding all_into room_for
  all_left h = rw h

  pub all_put : leb (at + length xs) (length d) ≡ true → {e : List ℕ} → e ≡ put d at xs → e ≡ all_into xs d at
  unfolding all_into room_for
  all_put h q = rw h q

-- ---- the line of a number of a report
module _ (k n : ℕ) where
  pub number_met : (n ≡ 0 → ⊥) → number_line k n ≡ (110 ∷ 111 ∷ 32 ∷ []) ++ decimal k ++ (32 ∷ []) ++ decimal n ++ (10 ∷ [])
  unfolding number_line
  number_met h = rw (ne_eqb n 0 h)
