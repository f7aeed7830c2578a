-- Checks, one after the other, in the code's terms: what a check said where it passed, and where it refused.
use Rattle.std.proofs.Common.{◌≡◌, refl, sym, ap, ◌∙◌, true, false, ℕ, Result, Ok, Err}
use Rattle.std.specs.Result.{IsErr, IsErrAnd}
use Rattle.answer.specs.Faults.{Fault, refusal, no_fault, good, ◌or◌, given}
use Rattle.answer.specs.Answer.{refused, ◌then◌}
use Rattle.answer.specs.Rows.{said, fault_of, number_of}
use Rattle.answer.specs.declared.Answer.{Answer}
use Rattle.answer.specs.declared.Refusal.{Refusal}
use Rattle.answer.specs.declared.Row.{Row}
use Rattle.answer.specs.declared.Row.TheVariants.{Axes, Count, Length, Node, Rise, Difference, Value, Uniform, Direction, Reading, Range, Computed, Header, Area, Room, Slice, Limit, Overlap}
use Rattle.answer.proofs.Answers.{then_good, then_bad}
use Rattle.answer.proofs.Orders as orders

-- what `?` gives of a refusal: the same
abbrev pub Handed : {B : Type 0} → Result B Refusal → Refusal → Type 0
Handed r e = IsErr r × IsErrAnd r (λ x. x ≡ e)

pub handed : (A : Type 0) {B : Type 0} (e : Refusal) (r : Result B Refusal) → Handed r e → said r ≡ said {A = A} (Err e)
unfolding said
handed A e (Ok x) h = absurd h.1
handed A e (Err x) h = ap fault_of h.1

-- ---- a refusal has a number, a check that passed has none
row_bad : (row : Row) (axis place : ℕ) → good (refusal (number_of row) axis place) ≡ false
row_bad Axes axis place = orders.bad_refused 0 axis place
row_bad Count axis place = orders.bad_refused 1 axis place
row_bad Length axis place = orders.bad_refused 2 axis place
row_bad Node axis place = orders.bad_refused 3 axis place
row_bad Rise axis place = orders.bad_refused 4 axis place
row_bad Difference axis place = orders.bad_refused 5 axis place
row_bad Value axis place = orders.bad_refused 6 axis place
row_bad Uniform axis place = orders.bad_refused 7 axis place
row_bad Direction axis place = orders.bad_refused 8 axis place
row_bad Reading axis place = orders.bad_refused 9 axis place
row_bad Range axis place = orders.bad_refused 10 axis place
row_bad Computed axis place = orders.bad_refused 11 axis place
row_bad Header axis place = orders.bad_refused 12 axis place
row_bad Area axis place = orders.bad_refused 13 axis place
row_bad Room axis place = orders.bad_refused 14 axis place
row_bad Slice axis place = orders.bad_refused 15 axis place
row_bad Limit axis place = orders.bad_refused 16 axis place
row_bad Overlap axis place = orders.bad_refused 17 axis place

pub bad-fault_of : (e : Refusal) → good (fault_of e) ≡ false
unfolding fault_of
bad-fault_of e = row_bad e.row e.axis e.place

pub said-err : (A : Type 0) (e : Refusal) → said {A = A} (Err e) ≡ fault_of e
unfolding said
said-err A e = refl

pub said-ok : {A : Type 0} (x : A) → said (Ok x) ≡ no_fault
unfolding said
said-ok x = refl

pub good_said : {A : Type 0} (x : A) → good (said (Ok x)) ≡ true
good_said x = ap good (said-ok x) ∙ orders.good-no_fault

-- ---- a check that passed
module _ {A : Type 0} (x : A) (a : Fault) (s : said (Ok x) ≡ a) where
  pub passes : good a ≡ true
  passes = sym (ap good s) ∙ good_said x

  -- what follows it is the rest
  pub goes_on : (b rest : Fault) → b ≡ rest → b ≡ (a or rest)
  goes_on b rest h = h ∙ sym (orders.or_good a rest passes)

  pub both_pass : {B C : Type 0} (y : B) (b : Fault) → said (Ok y) ≡ b → (z : C) → said (Ok z) ≡ (a or b)
  both_pass y b t z = goes_on (said (Ok z)) b (said-ok z ∙ sym (said-ok y) ∙ t)

  pub passes_on : {B : Type 0} (y : B) → said (Ok y) ≡ a
  passes_on y = said-ok y ∙ sym (said-ok x) ∙ s

  -- what is given besides, and the answer
  pub given_kept : {C : Type 0} (y v zeros : C) → y ≡ v → y ≡ given a v zeros
  given_kept y v zeros h = h ∙ sym (orders.given-good a v zeros passes)

  pub then_goes_on : (b v : Answer) → b ≡ v → b ≡ (a then v)
  then_goes_on b v h = h ∙ sym (then_good a v passes)

-- ---- a check that refused: in front of others it is the first fault
module _ (A : Type 0) (e : Refusal) (a : Fault) (s : said {A = A} (Err e) ≡ a) where
  pub fails : good a ≡ false
  fails = sym (ap good s) ∙ ap good (said-err A e) ∙ bad-fault_of e

  -- handed on by `?`
  module _ {B : Type 0} (r : Result B Refusal) (h : Handed r e) where
    pub hands : said r ≡ a
    hands = handed A e r h ∙ s

    pub stops : (rest : Fault) → said r ≡ (a or rest)
    stops rest = hands ∙ sym (orders.or_bad a rest fails)

  -- what is given besides, and the answer
  pub given-refused : {C : Type 0} (v zeros : C) → zeros ≡ given a v zeros
  given-refused v zeros = sym (orders.given_bad a v zeros fails)

  pub then_stops : (b v : Answer) → b ≡ refused (fault_of e) → b ≡ (a then v)
  then_stops b v h = h ∙ ap refused (sym (said-err A e) ∙ s) ∙ sym (then_bad a v fails)
