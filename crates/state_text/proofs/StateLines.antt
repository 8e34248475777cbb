-- The text of a whole state is that of its lines.
use Rattle.model.specs.state.State.{State}
use Rattle.body.specs.Steps.{HasShape}
use Rattle.state_text.specs.Laws.{Fits}
use Rattle.state_text.specs.StateText.{state_text}
use Rattle.state_text.specs.LineWords.{AreLines, lines_of}
use Rattle.state_text.proofs.LineTexts.{text_of_lines}
use Rattle.state_text.proofs.PlainWords.{plain_lines}

pub state_lines : (w : State) → HasShape w → Fits w → AreLines (lines_of w) (state_text w)
state_lines w h fits = record { written = text_of_lines w; plain = plain_lines w h fits }
