-- What commands say to the definitions.
use Rattle.std.specs.Prelude.{ℕ, List, [], get_or, flat_map}
use Rattle.model.specs.shown.Outcome as outcome
use Rattle.model.specs.shown.Outcome.Command.{Spawn, Insert, Remove, Despawn}
use Rattle.kinds.specs.Kind.{kind_number}
use Rattle.kinds.specs.Value.{value_number, value_words}
use Rattle.command_queue.specs.declared.command.Command.{Command}
use Rattle.command_queue.specs.declared.command.Command.TheVariants as the

-- a command, by the number of its kind and the words of its component
abbrev pub command_of : Command → outcome.Command
command_of (the.Spawn e) = Spawn e
command_of (the.Insert e value) = Insert e (value_number value) (value_words value)
command_of (the.Remove e kind) = Remove e (kind_number kind)
command_of (the.Despawn e) = Despawn e

-- the commands of the buffers of these numbers, one buffer after the other
abbrev pub commands_of : List (List outcome.Command) → List ℕ → List outcome.Command
commands_of buffers order = flat_map (λ n. get_or buffers n []) order

-- the index of the entity of a command
abbrev pub index_in : Command → ℕ
index_in (the.Spawn e) = e.index
index_in (the.Insert e value) = e.index
index_in (the.Remove e kind) = e.index
index_in (the.Despawn e) = e.index
