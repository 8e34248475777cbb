-- A text that is refused is of no state, unless an allocation failed.
use Rattle.std.proofs.Common.{◌≡◌, ℕ, List}
use Rattle.model.specs.state.State.{State}
use Rattle.body.specs.Steps.{HasShape}
use Rattle.state_text.specs.declared.reading.fault.StateFault.{StateFault}
use Rattle.state_text.specs.declared.reading.fault.StateFault.TheVariants.{Outside, NoState, Memory}
use Rattle.state_text.specs.Laws.{Fits}
use Rattle.state_text.specs.StateText.{state_text}
use Rattle.state_text.specs.Reading.{IsNoStateText}

-- a fault that would be one of memory if the text was one of a state
pub refused : (text : List ℕ) (fault : StateFault) → ((w : State) → HasShape w → Fits w → text ≡ state_text w → fault ≡ Memory) → IsNoStateText text fault
refused text (Outside line) h = λ w shape fits e. let bad = h w shape fits e in cc
refused text (NoState line) h = λ w shape fits e. let bad = h w shape fits e in cc
refused text Memory h = tt
