-- What it is to read the text of a state.
use Rattle.std.specs.Prelude.{◌≡◌, ℕ, List, Result, MatchResult}
use Rattle.model.specs.state.State.{State}
use Rattle.body.specs.Steps.{HasShape}
use Rattle.state_text.specs.declared.reading.fault.StateFault.{StateFault}
use Rattle.state_text.specs.declared.reading.fault.StateFault.TheVariants as whole
use Rattle.state_text.specs.declared.reading.fault.LineFault.{LineFault}
use Rattle.state_text.specs.declared.reading.fault.LineFault.TheVariants.{Memory}
use Rattle.state_text.specs.Laws.{Fits}
use Rattle.state_text.specs.StateText.{state_text}
use Rattle.state_text.specs.LineWords.{AreLines}

-- ---- the whole

-- no state, of words of 64 bits, has this text
abbrev pub IsOfNoState : List ℕ → Type 0
IsOfNoState text = (w : State) → HasShape w → Fits w → text ≡ state_text w → ⊥

-- what a fault says of a text: it is of no state, unless an allocation failed
abbrev pub IsNoStateText : List ℕ → StateFault → Type 0
IsNoStateText text (whole.Outside line) = IsOfNoState text
IsNoStateText text (whole.NoState line) = IsOfNoState text
IsNoStateText text whole.Memory = Unit {0}

-- ---- its parts

-- so is what is read, unless an allocation failed
abbrev pub UnlessMemory : {X : Type 0} → Result X LineFault → (X → Type 0) → Type 0
UnlessMemory r P = MatchResult r P (λ fault. fault ≡ Memory)

-- of what was written of x a reader gives x
abbrev pub Gives : {X : Type 0} → Result X LineFault → X → Type 0
Gives r x = UnlessMemory r (λ y. y ≡ x)

-- a reader of lines gives x, and leaves a text of these lines
abbrev pub GivesBefore : {X : Type 0} → Result X LineFault → X → List (List (List ℕ)) → List ℕ → Type 0
GivesBefore r x more rest = UnlessMemory r (λ y. (y ≡ x) × AreLines more rest)
