-- What the primitives owe, on plain values: the answers by cases, and what is known where a primitive's checks were passed.
use Rattle.std.proofs.Common.{◌≡◌, sym, ap, ap₂, ◌∙◌, true, List, ℕ, ◌<◌, min, arith, false, Option, None, Ok, Err}
use lib.Ieee.{Float}
use Rattle.answer.specs.Faults.{Fault, good, ◌or◌, given}
use Rattle.answer.specs.Answer.{refused, fine, ◌then◌}
use Rattle.answer.specs.Rows.{said, fault_of}
use Rattle.answer.specs.declared.Answer.{Answer}
use Rattle.answer.specs.declared.Refusal.{Refusal}
use Rattle.answer.proofs.Orders as orders
use Rattle.answer.proofs.Answers.{then_good, then_bad}
use Rattle.answer.proofs.Checks.{passes, fails, said-err}
use Rattle.checks.specs.Shapes.{axis_fault}
use Rattle.checks.specs.Numbers.{direction_fault, reading_fault}
use Rattle.checks.proofs.nodes.Rows.{axis_of_lem}
use Rattle.checks.proofs.numbers.Rows.{reading_finite}
use Rattle.checks.proofs.lent.Rows.{direction_passed}
use Rattle.axis.specs.Locations.{axis_location}
use Rattle.axis.specs.Scaffolding.{location_found, pick_found}
use Rattle.axis.specs.Steps.{step_index}
use Rattle.rust.specs.declared.AxisLocation.{AxisLocation}
use Rattle.rust.specs.declared.AxisLocation.TheVariants.{Exact}
use Rattle.axis.proofs.Located.{location_found_lem}
use Rattle.axis.proofs.picks.Picks.{step_found}
use Rattle.utils.specs.Calls.{index_answer, exact_answer, axis_answer, axis_reading_fault, directed_fault}
use Rattle.utils.specs.Scaffolding.{ReadableAxis}

-- ---- what a call answers whose checks refused or passed
module _ {A R : Type 0} (make : Answer → A → R) (T : Type 0) (f : Fault) (x zeros : A) where
  refuses : (e : Refusal) → said {A = T} (Err e) ≡ f → make (f then fine) (given f x zeros) ≡ make (refused (fault_of e)) zeros
  refuses e s = ap₂ make (then_bad f fine (fails T e f s) ∙ ap refused (sym s ∙ said-err T e)) (orders.given_bad f x zeros (fails T e f s))

  gives : (y : T) → said (Ok y) ≡ f → make (f then fine) (given f x zeros) ≡ make fine x
  gives y s = ap₂ make (then_good f fine (passes y f s)) (orders.given-good f x zeros (passes y f s))

module _ (f : Fault) where
  pub check_refused : (e : Refusal) → said {A = Unit {0}} (Err e) ≡ f → (f then fine) ≡ refused (fault_of e)
  check_refused e s = then_bad f fine (fails (Unit {0}) e f s) ∙ ap refused (sym s ∙ said-err (Unit {0}) e)

  pub check_passed : said {A = Unit {0}} (Ok tt) ≡ f → (f then fine) ≡ fine
  check_passed s = then_good f fine (passes tt f s)

module _ (f : Fault) (i : ℕ) where
  pub index_refused : (e : Refusal) → said {A = Unit {0}} (Err e) ≡ f → index_answer f i ≡ record { answer = refused (fault_of e); index = 0 }
  unfolding index_answer
  index_refused = refuses (λ a j. record { answer = a; index = j }) (Unit {0}) f i 0

  pub index_given : said {A = Unit {0}} (Ok tt) ≡ f → index_answer f i ≡ record { answer = fine; index = i }
  unfolding index_answer
  index_given = gives (λ a j. record { answer = a; index = j }) (Unit {0}) f i 0 tt

module _ (f : Fault) (i : Option ℕ) where
  pub node_refused : (e : Refusal) → said {A = Unit {0}} (Err e) ≡ f → exact_answer f i ≡ record { answer = refused (fault_of e); index = None }
  unfolding exact_answer
  node_refused = refuses (λ a j. record { answer = a; index = j }) (Unit {0}) f i None

  pub node_given : said {A = Unit {0}} (Ok tt) ≡ f → exact_answer f i ≡ record { answer = fine; index = i }
  unfolding exact_answer
  node_given = gives (λ a j. record { answer = a; index = j }) (Unit {0}) f i None tt

module _ (f : Fault) (l : AxisLocation) where
  pub location_refused : (e : Refusal) → said {A = AxisLocation} (Err e) ≡ f → axis_answer f l ≡ record { answer = refused (fault_of e); location = Exact 0 }
  unfolding axis_answer
  location_refused = refuses (λ a k. record { answer = a; location = k }) AxisLocation f l (Exact 0)

  pub location_given : (k : AxisLocation) → said (Ok k) ≡ f → axis_answer f l ≡ record { answer = fine; location = l }
  unfolding axis_answer
  location_given = gives (λ a j. record { answer = a; location = j }) AxisLocation f l (Exact 0)

-- ---- what is known where the checks were passed
module _ (nodes : List Float) (p : Float) where
  readable_good : good (axis_reading_fault nodes p) ≡ true → ReadableAxis nodes p
  unfolding axis_reading_fault
  readable_good h = record {
    axis = axis_of_lem nodes (orders.first-passed (axis_fault nodes) (reading_fault 0 p) h);
    reading = reading_finite 0 p (orders.second_passed (axis_fault nodes) (reading_fault 0 p) h);
  }

  pub readable : said {A = Unit {0}} (Ok tt) ≡ axis_reading_fault nodes p → ReadableAxis nodes p
  readable s = readable_good (passes tt (axis_reading_fault nodes p) s)

  directed_good : (direction : ℕ) → good (directed_fault direction nodes p) ≡ true → (direction < 2) × (pick_found direction nodes p ≡ step_index direction nodes p)
  unfolding directed_fault
  directed_good direction h =
      let later = orders.second_passed (axis_fault nodes) (direction_fault 0 direction or reading_fault 0 p) h in
      let judged : direction < 2 = direction_passed 0 direction (orders.first-passed (direction_fault 0 direction) (reading_fault 0 p) later) in (
        judged,
        step_found nodes p
            (axis_of_lem nodes (orders.first-passed (axis_fault nodes) (direction_fault 0 direction or reading_fault 0 p) h))
            (reading_finite 0 p (orders.second_passed (direction_fault 0 direction) (reading_fault 0 p) later))
            direction judged,
      )

  -- the pick of a direction that was judged is Step's index
  pub directed : (direction : ℕ) → said {A = Unit {0}} (Ok tt) ≡ directed_fault direction nodes p → step_index direction nodes p ≡ pick_found direction nodes p
  directed direction s = sym (directed_good direction (passes tt (directed_fault direction nodes p) s)).1

  -- where `locate_axis` found a location it is the paper's
  pub location_is : said {A = Unit {0}} (Ok tt) ≡ axis_reading_fault nodes p → axis_location nodes p ≡ location_found false nodes p
  location_is s = let g = readable s in sym (location_found_lem nodes p g.axis g.reading false)

-- what every answer is made by
pub ruleset answers = (check_refused, check_passed, index_refused, index_given, node_refused, node_given, location_refused, location_given, readable)
