-- Whether systems left commands, and that where none did a sync point leaves the kind sets as they are.
use Rattle.std.proofs.Common.{ℕ, ◌+◌, ◌<◌, true, false, ◌==◌, ◌≡◌, List, [], ◌∷◌, ◌++◌, length, get_or, drop, refl, sym, ap, ◌∙◌, arith}
use Rattle.std.proofs.lemmas.Bool.{eqb-true, false≢true}
use Rattle.std.proofs.lemmas.List.{drop_more}
use Rattle.model.specs.Lists.{is_there}
use Rattle.model.specs.declared.entities.Entity.{Entity}
use Rattle.model.specs.state.State.{State}
use Rattle.model.specs.state.KindSets.{kind_sets_of}
use Rattle.model.specs.shown.Outcome.{Command}
use Rattle.model.proofs.serial.Engine.{synced_state}
use Rattle.command_queue.specs.Commands.{commands_of}
use Rattle.body.specs.Steps.{StateValue}
use Rattle.engine.proofs.SyncPointState.{Synced, state_synced}
use Rattle.engine.proofs.SameArchetypes.{kind_sets-release}

-- the commands of the systems from this one on
pub next_commands : (commands : List (List Command)) (level : List ℕ) (i d : ℕ) → i < length level →
    commands_of commands (drop i level) ≡ get_or commands (get_or level i d) [] ++ commands_of commands (drop (i + 1) level)
next_commands commands level i d l = ap (commands_of commands) (drop_more level i d l)

-- a list that isn't empty has something, and so has one with it in front
pub some_commands : {A : Type 0} (xs ys : List A) → (length xs == 0) ≡ false → is_there (xs ++ ys) ≡ true
some_commands [] ys e = absurd (false≢true (sym e))
some_commands (x ∷ xs) ys e = refl

-- an empty one has nothing
pub no_commands : {A : Type 0} (xs : List A) → (length xs == 0) ≡ true → xs ≡ []
no_commands [] e = refl
no_commands (x ∷ xs) e = let none = eqb-true (length (x ∷ xs)) 0 e in absurd (omega (arith, none))

pub nothing_there : {A : Type 0} (xs : List A) → is_there xs ≡ false → xs ≡ []
nothing_there [] e = refl
nothing_there (x ∷ xs) e = absurd (false≢true (sym e))

-- ---- a sync point without commands

pub quiet_synced : (ids : List Entity) (commands : List Command) (before after : StateValue) → Synced ids commands before after → commands ≡ [] →
    kind_sets_of after.state.world.slots ≡ kind_sets_of before.state.world.slots
quiet_synced ids commands before after synced none =
    ap (λ (state : State). kind_sets_of state.world.slots) (state_synced ids commands before after synced ∙ ap (λ (cs : List Command). synced_state ids cs before.state) none)
    ∙ kind_sets-release ids before.state.world.slots
