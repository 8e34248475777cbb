-- What a condition answers of a world and its events.
use Rattle.std.specs.Prelude.{ℕ, ◌≡◌, Bool, List}
use Rattle.model.specs.access.Condition.{Condition, holds}
use Rattle.model.specs.state.State.{State, World, EventQueue}

-- the answer is the condition's meaning in every state with this world and these events
abbrev pub IsMeant : Condition → World → List EventQueue → ℕ → List ℕ → Bool → Type 0
IsMeant condition world events last_run cursors answer = (state : State) → state.world ≡ world → state.events ≡ events → answer ≡ holds condition last_run cursors state
