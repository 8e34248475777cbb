-- What the code of a system does.
use Rattle.std.specs.Prelude.{ℕ, ◌==◌, Bool, true, false, ◌&&◌, ◌||◌, List}
use Rattle.std.specs.List.{list_any}
use Rattle.kinds.specs.Kind.{kind_number}
use Rattle.kinds.specs.declared.kind.Kind.{Kind}
use Rattle.kinds.specs.Res.{event_number, res_number}
use Rattle.script.specs.declared.instruction.Instruction.{Instruction}
use Rattle.script.specs.declared.instruction.Instruction.TheVariants.{Change, Compare, Has, Emit, Spawn, Insert, Remove, Despawn}
use Rattle.script.specs.declared.operands.Source.{Source}
use Rattle.script.specs.declared.operands.Source.TheVariants as source
use Rattle.script.specs.declared.operands.Subject.{Subject}
use Rattle.script.specs.declared.operands.Subject.TheVariants.{Row, Granted}
use Rattle.script.specs.declared.operands.Target.{Target}
use Rattle.script.specs.declared.operands.Target.TheVariants as target
use Rattle.script.specs.declared.operands.Values.{Values}
use Rattle.script.specs.declared.operands.Values.TheVariants.{Empty, One, Two, Many}
use Rattle.script.specs.declared.script_body.Block.{Block}
use Rattle.script.specs.declared.script_body.Rounds.{Rounds}
use Rattle.script.specs.declared.script_body.Rounds.TheVariants.{EachRow, EachEvent}
use Rattle.lints.specs.declared.deeds.Deed.{Deed}
use Rattle.lints.specs.declared.deeds.Deed.TheVariants as deed
use Rattle.lints.specs.declared.deeds.Thing.{Thing}
use Rattle.lints.specs.declared.deeds.Thing.TheVariants.{Component, Resource, Register}

-- ---- words of instructions

-- what is read is a field of a component, a resource or a register
abbrev pub is_source : Thing → Source → Bool
is_source (Component kind) (source.Field field) = kind_number field.kind == kind_number kind
is_source (Resource res) (source.Resource other) = res_number other == res_number res
is_source (Register register) (source.Register other) = other == register
is_source _ _ = false

-- what is written is
abbrev pub is_target : Thing → Target → Bool
is_target (Component kind) (target.Field field) = kind_number field.kind == kind_number kind
is_target (Resource res) (target.Resource other) = res_number other == res_number res
is_target (Register register) (target.Register other) = other == register
is_target _ _ = false

-- one of the values of a component is; of more than two it is not known, and no script has them
abbrev pub in_values : Thing → Values → Bool
in_values thing Empty = false
in_values thing (One value) = is_source thing value
in_values thing (Two first second) = is_source thing first || is_source thing second
in_values thing (Many named) = true

-- a command is about the row at hand, or about the id of a slot
abbrev pub is_row : Subject → Bool
is_row Row = true
is_row (Granted slot) = false

abbrev pub is_slot : ℕ → Subject → Bool
is_slot slot Row = false
is_slot slot (Granted other) = other == slot

-- ---- instructions

-- a thing is the component of a kind
abbrev pub is_component : Thing → Kind → Bool
is_component (Component own) kind = kind_number kind == kind_number own
is_component (Resource res) kind = false
is_component (Register register) kind = false

-- a thing is read, written or asked for
abbrev pub uses : Thing → Instruction → Bool
uses thing (Change operation target source) = is_target thing target || is_source thing source
uses thing (Compare relation left right passed) = is_source thing left || is_source thing right
uses thing (Has kind passed) = is_component thing kind
uses thing (Emit event source) = is_source thing source
uses thing (Insert subject kind values) = in_values thing values
uses thing _ = false

-- a thing is read or asked for
abbrev pub reads : Thing → Instruction → Bool
reads thing (Change operation target source) = is_source thing source
reads thing (Compare relation left right passed) = is_source thing left || is_source thing right
reads thing (Has kind passed) = is_component thing kind
reads thing (Emit event source) = is_source thing source
reads thing (Insert subject kind values) = in_values thing values
reads thing _ = false

-- a thing is written
abbrev pub writes : Thing → Instruction → Bool
writes thing (Change operation target source) = is_target thing target
writes thing _ = false

-- an event of a kind is emitted
abbrev pub emits : ℕ → Instruction → Bool
emits event (Emit other source) = event_number other == event
emits event _ = false

-- a command is about the row at hand
abbrev pub is_of_row : Instruction → Bool
is_of_row (Insert subject kind values) = is_row subject
is_of_row (Remove subject kind) = is_row subject
is_of_row (Despawn subject) = is_row subject
is_of_row _ = false

-- it is a command
abbrev pub is_command : Instruction → Bool
is_command (Spawn slot) = true
is_command (Insert subject kind values) = true
is_command (Remove subject kind) = true
is_command (Despawn subject) = true
is_command _ = false

-- it names the id of a slot
abbrev pub is_of_slot : ℕ → Instruction → Bool
is_of_slot slot (Spawn other) = other == slot
is_of_slot slot (Insert subject kind values) = is_slot slot subject
is_of_slot slot (Remove subject kind) = is_slot slot subject
is_of_slot slot (Despawn subject) = is_slot slot subject
is_of_slot slot _ = false

-- a component of a kind is inserted
abbrev pub inserts : ℕ → Instruction → Bool
inserts kind (Insert subject other values) = kind_number other == kind
inserts kind _ = false

-- an instruction does what is looked for
abbrev pub does : Deed → Instruction → Bool
does deed.Anything instruction = true
does (deed.Uses thing) instruction = uses thing instruction
does (deed.Reads thing) instruction = reads thing instruction
does (deed.Writes thing) instruction = writes thing instruction
does (deed.Emits event) instruction = emits (event_number event) instruction
does deed.Commands instruction = is_command instruction
does deed.OfRow instruction = is_of_row instruction
does (deed.OfSlot slot) instruction = is_of_slot slot instruction
does (deed.Inserts kind) instruction = inserts (kind_number kind) instruction

-- ---- blocks

-- a block runs for each row of the query of this number
abbrev pub is_each : ℕ → Rounds → Bool
is_each query (EachRow number) = number == query
is_each query _ = false

-- a block runs for each event of a kind
abbrev pub is_at_event : ℕ → Rounds → Bool
is_at_event event (EachEvent kind) = event_number kind == event
is_at_event event _ = false

-- some instruction does what is looked for: of some code, of one of some blocks, of one of those for each row of a query
abbrev pub done_in : Deed → List Instruction → Bool
done_in deed code = list_any (does deed) code

abbrev pub done_by : Deed → List Block → Bool
done_by deed blocks = list_any (λ block. done_in deed block.code.items) blocks

abbrev pub done_at : ℕ → Deed → List Block → Bool
done_at query deed blocks = list_any (λ block. is_each query block.rounds && done_in deed block.code.items) blocks

-- some block is for the events of a kind
abbrev pub hears : ℕ → List Block → Bool
hears event blocks = list_any (λ block. is_at_event event block.rounds) blocks
