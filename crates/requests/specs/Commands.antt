-- The first words of requests.
use Rattle.std.specs.Prelude.{◌≡◌, ℕ, List, codes}
use Rattle.requests.specs.declared.command.Command.{Command}
use Rattle.requests.specs.declared.command.Command.TheVariants.{Hello, Run, Set, Emit, Spawn, Insert, Remove, Despawn, World, Entity, Query, Resources, Events, Values, Save, Digest, Mark, Back, Forget, Quit}

-- the word of a command
abbrev pub command_word : Command → List ℕ
command_word Hello = codes "hello"
command_word Run = codes "run"
command_word Set = codes "set"
command_word Emit = codes "emit"
command_word Spawn = codes "spawn"
command_word Insert = codes "insert"
command_word Remove = codes "remove"
command_word Despawn = codes "despawn"
command_word World = codes "world"
command_word Entity = codes "entity"
command_word Query = codes "query"
command_word Resources = codes "resources"
command_word Events = codes "events"
command_word Values = codes "values"
command_word Save = codes "save"
command_word Digest = codes "digest"
command_word Mark = codes "mark"
command_word Back = codes "back"
command_word Forget = codes "forget"
command_word Quit = codes "quit"

-- the word is that of the command
abbrev pub IsCommand : Command → List ℕ → Type 0
IsCommand command word = word ≡ command_word command
