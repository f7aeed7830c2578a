use mathlib.Core.Path.{◌≡◌, sym, ap, ◌∙◌}
use mathlib.Core.List.{List}
use Prim.Native.Nat.{ℕ}
use native.Mathlib.Omega.{arith}
use lib.ListN.{length, take}
use Rattle.lines.proofs.Puts.{wrote_take}
use Rattle.lines.proofs.Shows.{line_wrote}
use Rattle.program.specs.Run.{run_by}
use Rattle.std.proofs.lemmas.Result.{IfOk-weaker, IfErr-weaker}
use Rattle.program.proofs.refused.put_line.Goals as goal

pub line-requires : goal.line-requires
line-requires g c =
    let put : (by : List ℕ → List ℕ → List ℕ) → take c.put_line-end.result c.put_line-end.new.out ≡ run_by by c.args.img.now = (λ by. wrote_take (line_wrote c.args.answer c.args.out.now 0 (omega (arith, c.requires.0)) c.put_line-end.ensures.value.0 c.put_line-end.ensures.value.1) ∙ sym (c.requires.1 by)) in
    put

pub returns : goal.returns
returns g c =
    let put : (by : List ℕ → List ℕ → List ℕ) → take c.put_line-end.result c.put_line-end.new.out ≡ run_by by c.args.img.now = (λ by. wrote_take (line_wrote c.args.answer c.args.out.now 0 (omega (arith, c.requires.0)) c.put_line-end.ensures.value.0 c.put_line-end.ensures.value.1) ∙ sym (c.requires.1 by)) in
    record {
      printed = IfOk-weaker c.line.result _ _ (λ n q by. q ∙ ap length (put by)) c.line.ensures.printed;
      unprinted = IfErr-weaker c.line.result _ _ (λ e q by. q ∙ ap length (put by)) c.line.ensures.unprinted;
    }
