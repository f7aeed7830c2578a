use mathlib.Core.Path.{◌≡◌, ap, ◌∙◌}
use Rattle.answer.specs.Faults.{refusal}
use Rattle.answer.specs.Answer.{refused}
use Rattle.answer.specs.declared.Answer.{Answer}
use Rattle.lines.specs.Put.{line_into, line_end}
use Rattle.program.proofs.input.Ends.{no_record_left, no_byte_left, cut_short}
use Rattle.program.proofs.input.finish.Goals as goal

pub returns-then-left-eq0 : goal.returns-then-left-eq0
returns-then-left-eq0 c = no_record_left c.args.rest c.args.left c.args.out.now c.if-left-eq0.true

pub returns-then-rest-eq0 : goal.returns-then-rest-eq0
returns-then-rest-eq0 c = no_byte_left c.args.rest c.args.left c.args.out.now c.if-rest-eq0.true

pub returns : goal.returns
returns c =
    let told : c.from.result ≡ refused (refusal 3 0 2) = c.from.ensures ∙ ap refused c.at.ensures in
    cut_short c.args.rest c.args.left c.args.out.now c.if-left-eq0.false c.if-rest-eq0.false _ _
    (c.put_line.ensures.value.0 ∙ ap (λ (a : Answer). line_end a c.args.out.now 0) told)
    (c.put_line.ensures.value.1 ∙ ap (λ (a : Answer). line_into a c.args.out.now 0) told)
