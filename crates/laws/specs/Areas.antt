-- THE PAGE OF PROMISES, request C-12: areas must not overlap. Nothing but statements; `areas` (laws/proofs/Areas.antt) inhabits the record at the end.
use Rattle.std.specs.Prelude.{◌≡◌, true, List, [], ℕ, ◌+◌, ◌*◌, ◌≤◌, ◌<◌, length, take, Float}
use Rattle.answer.specs.Faults.{refusal, good, ◌or◌, first_fault, filled_into}
use Rattle.answer.specs.Answer.{refused, fine}
use Rattle.answer.specs.declared.Answer.{Answer}
use Rattle.layout.specs.Shape.{counts_of, size, total, no_shape}
use Rattle.checks.specs.Numbers.{area_fault}
use Rattle.image.specs.Fields.{axes_field, count_field, offset_field, values_field, shape_of, area_of}
use Rattle.image.specs.Image.{nodes_in, values_in}
use Rattle.image.specs.Head.{head_fault}
use Rattle.image.specs.Load.{areas_fault, load_fault01, answer_by, Loadable}
use Rattle.image.specs.Shared.{area_end, Share, Pair, Apart, Lowest, InTurn}
use Rattle.image.specs.declared.LoadAnswer.{LoadAnswer}
use Rattle.laws.specs.Calls.{Table, counts, load, write}
use Rattle.laws.specs.Promises.{Loaded}

-- what a load answered and left by document 01's order of checks (`load_fault01`, image/specs/Load.antt)
abbrev pub load01 : List ℕ → List Float → List Float → LoadAnswer × (List Float × List Float)
load01 img ns vs =
    let fault = load_fault01 img (length ns) (length vs) in
    (answer_by fault img, (filled_into fault (nodes_in img) ns, filled_into fault (values_in img) vs))

-- the image that a write left: the first bytes of its output
abbrev pub written : Table → List ℕ → List ℕ
written t out = take (write t out).0.length (write t out).1

-- what an 18 names: two areas that share a byte, the lowest such pair (`Lowest`, image/specs/Shared.antt), once the header and each area alone have passed
pub record Named (img : List ℕ) (answer : Answer) : Type 0 where
  pub one : ℕ
  pub other : ℕ
  pub lowest : Lowest img one other
  pub told : answer ≡ refused (refusal 18 one other)
  pub header : good (head_fault img) ≡ true
  pub after-14 : good (areas_fault img) ≡ true

-- a witness: "an image whose values began on the last axis node", of one axis; document 01 let it in
pub record Technician's : Type 0 where
  pub img : List ℕ
  pub ns : List Float
  pub vs : List Float
  pub one-axis : axes_field img ≡ 1
  pub begins : values_field img + 8 ≡ area_end img 0
  pub was : (load01 img ns vs).0.answer ≡ fine
  pub is : (load img ns vs).0.answer ≡ refused (refusal 18 0 1)

-- another, of three axes: of areas 1 and 2, and 0 and 3, that share a byte, 0 3 is told
pub record Crossed : Type 0 where
  pub img : List ℕ
  pub three_axes : axes_field img ≡ 3
  pub upper : Share img 1 2
  pub lower : Share img 0 3
  pub told : (load img [] []).0.answer ≡ refused (refusal 18 0 3)

-- ==== Request C-12
pub record Areas : Type 0 where
  -- an area has the number of its axis, "values counted last": where it begins, and how many floats are read there
  pub axis_areas : (img : List ℕ) (a : ℕ) → a < axes_field img → ((area_of img a).at ≡ offset_field img a) × ((area_of img a).floats ≡ count_field img a)
  pub values_area : (img : List ℕ) → ((area_of img (axes_field img)).at ≡ values_field img) × ((area_of img (axes_field img)).floats ≡ size (counts_of (shape_of img)))
  -- 14 goes over all of them, as document 01 has it: "axis, or the number of axes for the values"
  pub areas-of-01 : (img : List ℕ) → areas_fault img
      ≡ (first_fault (λ a. area_fault (length img) a (offset_field img a) (count_field img a)) 0 (axes_field img)
      or area_fault (length img) (axes_field img) (values_field img) (size (counts_of (shape_of img))))
  -- loading answers 0 exactly where every check is passed (`Loadable`, image/specs/Load.antt; the order is `load_fault`)
  pub loads : (img : List ℕ) (ns vs : List Float) → Loadable img (length ns) (length vs) → (load img ns vs).0.answer.number ≡ 0
  pub loads_only : (img : List ℕ) (ns vs : List Float) → (load img ns vs).0.answer.number ≡ 0 → Loadable img (length ns) (length vs)
  -- "No two of the axis and value areas may share a byte."
  pub loaded_apart : (img : List ℕ) (ns vs : List Float) → (load img ns vs).0.answer.number ≡ 0 → Apart img
  -- any two that do are refused 18, once the header and each area alone have passed, whatever the room and the contents
  pub shared_refused : (img : List ℕ) (ns vs : List Float) (i j : ℕ) → good (head_fault img) ≡ true → good (areas_fault img) ≡ true → Pair img i j → Share img i j
      → (load img ns vs).0.answer.number ≡ 18
  -- "18, axis and place the numbers of the two areas, lowest pair first, values counted last": it names two areas that do share a byte ..
  pub shared_named : (img : List ℕ) (ns vs : List Float) → (load img ns vs).0.answer.number ≡ 18 → Named img (load img ns vs).0.answer
  -- .. and is never given where no byte lies in two areas
  pub apart-not-18 : (img : List ℕ) (ns vs : List Float) → Apart img → (load img ns vs).0.answer.number ≡ 18 → ⊥
  pub crossed : Crossed
  -- "checked after 14 and before 15": the lowest pair is told whatever the outputs' lengths and the contents, and both outputs stay as they were
  pub before-15 : (img : List ℕ) (ns vs : List Float) (i j : ℕ) → good (head_fault img) ≡ true → good (areas_fault img) ≡ true → Lowest img i j
      → load img ns vs ≡ (record { answer = refused (refusal 18 i j); shape = no_shape }, (ns, vs))
  -- "Accepted images become fewer": the technician's was accepted
  pub technician's : Technician's
  -- "answers on them don't change": what is accepted now was accepted by document 01, with the same shape, nodes and values ..
  pub was_accepted : (img : List ℕ) (ns vs : List Float) → (load img ns vs).0.answer.number ≡ 0 → load img ns vs ≡ load01 img ns vs
  -- .. what document 01 accepted and no two areas of which share a byte is accepted now, with the same ..
  pub still_accepted : (img : List ℕ) (ns vs : List Float) → (load01 img ns vs).0.answer.number ≡ 0 → Apart img
      → ((load img ns vs).0.answer.number ≡ 0) × (load img ns vs ≡ load01 img ns vs)
  -- .. and every other answer is document 01's
  pub else_unchanged : (img : List ℕ) (ns vs : List Float) → ((load img ns vs).0.answer.number ≡ 18 → ⊥) → load img ns vs ≡ load01 img ns vs
  -- "The writer's images already comply": areas that lie one after the other, in any order, share nothing, and the writer's lie so
  pub in_turn_apart : (img : List ℕ) → InTurn img → Apart img
  pub written_in_turn : (t : Table) (out : List ℕ) → (write t out).0.answer.number ≡ 0 → InTurn (written t out)
  -- "so the return trip stands": a table that is written and loaded comes back (`image_returns`, Promises.antt); a table that was loaded is written, given
  -- room, and what is written loads as the image did, into any outputs
  pub image_again : (img : List ℕ) (ns vs : List Float) (t : Table) (out : List ℕ) → (load img ns vs).0.answer.number ≡ 0 → Loaded (load img ns vs) t
      → 40 + 8 * total (counts t) + 8 * size (counts t) ≤ length out
      → ((write t out).0.answer ≡ fine) × ((ns' vs' : List Float) → load (written t out) ns' vs' ≡ load img ns' vs')
