use Rattle.std.proofs.Common.{◌≡◌, sym, ap, subst, ◌∙◌}
use Rattle.std.proofs.lemmas.Result.{IfOk-weaker, IfErr-weaker}
use Rattle.model.specs.state.State.{State}
use Rattle.body.specs.Steps.{HasShape}
use Rattle.state_text.specs.Laws.{Fits}
use Rattle.state_text.specs.StateText.{state_text}
use Rattle.state_text.specs.LineWords.{AreLines, lines_of}
use Rattle.state_text.specs.Reading.{IsNoStateText}
use Rattle.state_text.proofs.StateLines.{state_lines}
use Rattle.state_text.proofs.Refused.{refused}
use Rattle.state_text.proofs.reading.read_state.Goals as goal

pub returns-in-Ok-clause-only : goal.returns-in-Ok-clause-only
returns-in-Ok-clause-only c =
    IfOk-weaker c.confirmed.result (λ found. found ≡ c.in-Ok.state) (λ found. (w : State) → HasShape w → Fits w → c.args.text.now ≡ state_text w → found ≡ w)
    (λ found same w shape fits e. same ∙ c.in-Ok.ensures w shape fits (subst (AreLines (lines_of w)) (sym (c.of-lines.ensures ∙ e)) (state_lines w shape fits)))
    c.confirmed.ensures.same

pub returns-in-Ok-clause-none : goal.returns-in-Ok-clause-none
returns-in-Ok-clause-none c =
    IfErr-weaker c.confirmed.result _ (IsNoStateText c.args.text.now)
    (λ fault none. refused c.args.text.now fault
    (λ w shape fits e. none (e ∙ ap state_text (sym (c.in-Ok.ensures w shape fits (subst (AreLines (lines_of w)) (sym (c.of-lines.ensures ∙ e)) (state_lines w shape fits)))))))
    c.confirmed.ensures.none

pub returns-in-Err-clause-none : goal.returns-in-Err-clause-none
returns-in-Err-clause-none c =
    refused c.args.text.now c.at.result (λ w shape fits e. c.at.ensures (c.in-Err.ensures w shape fits (subst (AreLines (lines_of w)) (sym (c.of-lines.ensures ∙ e)) (state_lines w shape fits))))
