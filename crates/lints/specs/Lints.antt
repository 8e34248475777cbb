-- What of a program file is likely a mistake.
use Rattle.std.specs.Prelude.{ℕ, ℤ, pos, ◌-◌, ◌==◌, nat_le, nat_lt, Bool, true, false, not, ◌&&◌, ◌||◌, List, [], ◌∷◌, get_or, length, map, Option, if◌then◌else◌, Vec}
use Rattle.std.specs.declared.alloc.Global.{Global}
use Rattle.std.specs.List.{HoldsAt, count_by, list_any}
use Rattle.std.specs.Option.{is_some, unwrap_or}
use Rattle.std.specs.Ordering.{int_eq}
use Rattle.ambiguity_report.specs.declared.report.Pair.{Pair}
use Rattle.kinds.specs.Kind.{kind_count, kind_number}
use Rattle.kinds.specs.Res.{event_number, every_res, res_number}
use Rattle.kinds.specs.declared.kind.Kind.{Kind}
use Rattle.kinds.specs.declared.kind.Kind.TheVariants.{Position}
use Rattle.kinds.specs.declared.res.Event.{Event}
use Rattle.kinds.specs.declared.res.Event.TheVariants.{Hit, Heal, Spark, Done}
use Rattle.kinds.specs.declared.res.Res.{Res}
use Rattle.kinds.specs.declared.res.Res.TheVariants.{Round}
use Rattle.kinds.specs.Value.{value_number}
use Rattle.kinds.specs.declared.value.Value.{Value}
use Rattle.model.specs.Lists.{has}
use Rattle.model.specs.access.Access.{names_resource}
use Rattle.model.specs.access.Condition.{access_of_condition}
use Rattle.model.specs.access.Query.{Term, writes as query_writes}
use Rattle.model.specs.access.Query.Term.{Entity, Opt, Read}
use Rattle.model.specs.steps.Schedule.{Schedule, ScheduledCondition, ScheduledSystem}
use Rattle.program_file.specs.declared.program_file.ChainTable.{ChainTable}
use Rattle.program_file.specs.declared.program_file.ProgramFile.{ProgramFile}
use Rattle.program_file.specs.declared.program_file.SystemTable.{SystemTable}
use Rattle.script.specs.declared.instruction.Instruction.{Instruction}
use Rattle.script.specs.declared.script_body.Block.{Block}
use Rattle.lints.specs.Collected.{Adds, Among, Either, Told, Tested}
use Rattle.lints.specs.Deeds.{done_at, done_by, hears}
use Rattle.lints.specs.Constants.{IsOfCondition}
use Rattle.lints.specs.Kinds.{every_kind, requires_kind}
use Rattle.lints.specs.Repeats.{IsOfItem, IsOfSetItem}
use Rattle.lints.specs.Skips.{IsUnreachable, crosses}
use Rattle.lints.specs.declared.deeds.Deed.TheVariants as deed
use Rattle.lints.specs.declared.deeds.Thing.TheVariants.{Component, Resource, Register}
use Rattle.lints.specs.declared.lint.Holder.TheVariants.{System}
use Rattle.lints.specs.declared.lint.Lint.{Lint}
use Rattle.lints.specs.declared.lint.Lint.TheVariants as lint

-- ---- kinds, resources and event kinds, by number

abbrev pub every_event : List Event
every_event = Hit ∷ Heal ∷ Spark ∷ Done ∷ []

unfoldable pub kind_at : ℕ → Kind
kind_at number = get_or every_kind number Position

unfoldable pub res_at : ℕ → Res
res_at number = get_or every_res number Round

unfoldable pub event_at : ℕ → Event
event_at number = get_or every_event number Hit

-- ---- queries of a system

-- a system has code; what it declares and doesn't use is looked at where it has
abbrev pub works : List Block → Bool
works blocks = done_by deed.Anything blocks

-- a term reads a kind and doesn't write it
abbrev pub is_reading : ℕ → Term → Bool
is_reading kind (Read own) = own == kind
is_reading kind (Opt own) = own == kind
is_reading kind _ = false

-- a query has such a term; it shows the entities of its rows
abbrev pub reads : List Term → ℕ → Bool
reads query kind = list_any (is_reading kind) query

abbrev pub is_entity : Term → Bool
is_entity Entity = true
is_entity _ = false

abbrev pub shows_entity : List Term → Bool
shows_entity query = list_any is_entity query

-- a `mut` term of a kind is never written; a `read` or `opt` term is never used; no command is about a row; no entity has what is required
abbrev pub is_unused_mut : List Block → List Term → ℕ → Kind → Bool
is_unused_mut blocks query number kind = works blocks && (query_writes query (kind_number kind) && not (done_at number (deed.Writes (Component kind)) blocks))

abbrev pub is_unread_term : List Block → List Term → ℕ → Kind → Bool
is_unread_term blocks query number kind = works blocks && (reads query (kind_number kind) && not (done_at number (deed.Uses (Component kind)) blocks))

abbrev pub is_unread_entity : List Block → List Term → ℕ → Bool
is_unread_entity blocks query number = works blocks && (shows_entity query && not (done_at number deed.OfRow blocks))

abbrev pub is_no_match : Bool → List Term → Kind → Bool
is_no_match present query kind = requires_kind query (kind_number kind) && not present

-- what is found of a kind in a query
abbrev pub IsOfKind : List Block → Bool → ℕ → ℕ → List Term → Kind → Lint → Type 0
IsOfKind blocks present system number query kind = Either (Tested (is_unused_mut blocks query number kind) (lint.UnusedMut system number kind))
    (Either (Tested (is_unread_term blocks query number kind) (lint.UnreadTerm system number kind)) (Tested (is_no_match present query kind) (lint.NoMatch system number kind)))

-- of a query
unfoldable pub IsOfKinds : List Block → List Bool → ℕ → ℕ → List Term → ℕ → Lint → Type 0
IsOfKinds blocks present system number query n = IsOfKind blocks (get_or present n false) system number query (kind_at n)

unfoldable pub IsOfQuery : List Block → List Bool → ℕ → ℕ → List Term → Lint → Type 0
IsOfQuery blocks present system number query = Either (Tested (is_unread_entity blocks query number) (lint.UnreadEntity system number)) (Among kind_count (IsOfKinds blocks present system number query))

-- of the queries of a system
unfoldable pub IsOfQueries : List Block → List Bool → ℕ → List (List Term) → ℕ → Lint → Type 0
IsOfQueries blocks present system queries n found = HoldsAt (λ query. IsOfQuery blocks present system n query found) queries n

-- ---- resources and events of a system

-- a resource is among some, and an event kind
abbrev pub has_res : List Res → Res → Bool
has_res list res = list_any (λ own. res_number own == res_number res) list

abbrev pub has_event : List Event → Event → Bool
has_event list event = list_any (λ own. event_number own == event_number event) list

-- one stands twice among some
abbrev pub is_res_twice : List Res → Res → Bool
is_res_twice list res = nat_lt 1 (count_by (λ own. res_number own == res_number res) list)

abbrev pub is_event_twice : List Event → Event → Bool
is_event_twice list event = nat_lt 1 (count_by (λ own. event_number own == event_number event) list)

-- a resource is read (`res`) and never used, or written (`res_mut`) and never so
abbrev pub is_unread_res : List Block → List Res → Res → Bool
is_unread_res blocks list res = works blocks && (has_res list res && not (done_by (deed.Uses (Resource res)) blocks))

abbrev pub is_unused_res_mut : List Block → List Res → Res → Bool
is_unused_res_mut blocks list res = works blocks && (has_res list res && not (done_by (deed.Writes (Resource res)) blocks))

-- an event kind is read, and no block is for it, or written and never emitted
abbrev pub is_unread_events : List Block → List Event → Event → Bool
is_unread_events blocks list event = works blocks && (has_event list event && not (hears (event_number event) blocks))

abbrev pub is_unused_writes : List Block → List Event → Event → Bool
is_unused_writes blocks list event = works blocks && (has_event list event && not (done_by (deed.Emits event) blocks))

abbrev pub IsOfRes : SystemTable → ℕ → Res → Lint → Type 0
IsOfRes t system res = Either (Tested (is_unread_res t.blocks.items t.res.items res) (lint.UnreadRes system res)) (Either (Tested (is_unused_res_mut t.blocks.items t.res_mut.items res) (lint.UnusedResMut system res)) (Tested (is_res_twice t.res.items res) (lint.RepeatedRes system res)))

unfoldable pub IsOfResources : SystemTable → ℕ → ℕ → Lint → Type 0
IsOfResources t system n = IsOfRes t system (res_at n)

abbrev pub IsOfEvent : SystemTable → ℕ → Event → Lint → Type 0
IsOfEvent t system event = Either (Tested (is_unread_events t.blocks.items t.reads.items event) (lint.UnreadEvents system event)) (Either (Tested (is_unused_writes t.blocks.items t.writes.items event) (lint.UnusedWrites system event)) (Tested (is_event_twice t.reads.items event) (lint.RepeatedEvents system event)))

unfoldable pub IsOfEvents : SystemTable → ℕ → ℕ → Lint → Type 0
IsOfEvents t system n = IsOfEvent t system (event_at n)

-- ---- commands of a system

-- it has Commands and issues none; or it does, and the last id that it is granted is not named
abbrev pub is_without_command : List Block → Option ℕ → Bool
is_without_command blocks spawns = is_some spawns && (works blocks && not (done_by deed.Commands blocks))

abbrev pub last_slot : Option ℕ → ℕ
last_slot spawns = unwrap_or spawns 0 - 1

abbrev pub is_unused_slot : List Block → Option ℕ → Bool
is_unused_slot blocks spawns = nat_lt 0 (unwrap_or spawns 0) && (done_by deed.Commands blocks && not (done_by (deed.OfSlot (last_slot spawns)) blocks))

abbrev pub IsOfCommands : List Block → Option ℕ → ℕ → Lint → Type 0
IsOfCommands blocks spawns system = Either (Tested (is_without_command blocks spawns) (lint.NoCommand system)) (Tested (is_unused_slot blocks spawns) (lint.UnusedSlot system (last_slot spawns)))

-- ---- blocks of a system

-- so many instructions of a block are looked at for what they skip: of a long one none
abbrev pub looked_at : List Instruction → ℕ
looked_at code = if nat_le (length code) 512 then length code else 0

unfoldable pub IsOfPair : List Instruction → ℕ → ℕ → ℕ → ℕ → Lint → Type 0
IsOfPair code system block first second = Tested (crosses code first second) (lint.CrossingSkip system block first second)

unfoldable pub IsOfInstruction : List Instruction → ℕ → ℕ → ℕ → Lint → Type 0
IsOfInstruction code system block place = Either (Told (IsUnreachable code place) (lint.Unreachable system block place)) (Among (length code) (IsOfPair code system block place))

abbrev pub IsOfBlock : List Instruction → ℕ → ℕ → Lint → Type 0
IsOfBlock code system block = Either (Tested (length code == 0) (lint.EmptyCode system block)) (Among (looked_at code) (IsOfInstruction code system block))

unfoldable pub IsOfBlocks : List Block → ℕ → ℕ → Lint → Type 0
IsOfBlocks blocks system n found = HoldsAt (λ (block : Block). IsOfBlock block.code.items system n found) blocks n

-- ---- registers of a system

-- a register is read and never written, or written and never read
abbrev pub is_unset_register : List Block → ℕ → Bool
is_unset_register blocks register = done_by (deed.Reads (Register register)) blocks && not (done_by (deed.Writes (Register register)) blocks)

abbrev pub is_unread_register : List Block → ℕ → Bool
is_unread_register blocks register = done_by (deed.Writes (Register register)) blocks && not (done_by (deed.Reads (Register register)) blocks)

unfoldable pub IsOfRegister : List Block → ℕ → ℕ → Lint → Type 0
IsOfRegister blocks system register = Either (Tested (is_unset_register blocks register) (lint.UnsetRegister system register)) (Tested (is_unread_register blocks register) (lint.UnreadRegister system register))

-- ---- a system

unfoldable pub IsOfSystem : List Bool → SystemTable → ℕ → Lint → Type 0
IsOfSystem present t system = Either (Among (length t.queries.items) (IsOfQueries t.blocks.items present system t.queries.items))
    (Either (Among 8 (IsOfResources t system))
    (Either (Among 4 (IsOfEvents t system))
    (Either (IsOfCommands t.blocks.items t.spawns system)
    (Either (Among (length t.blocks.items) (IsOfBlocks t.blocks.items system))
    (Either (Among 8 (IsOfRegister t.blocks.items system)) (IsOfItem t.item (System system)))))))

-- ---- a file

-- a component of a kind is on an entity, or a system inserts one
abbrev pub is_value_of : Kind → Value → Bool
is_value_of kind value = value_number value == kind_number kind

abbrev pub has_value_of : Kind → List Value → Bool
has_value_of kind values = list_any (is_value_of kind) values

abbrev pub is_given : List (Vec Value Global) → Kind → Bool
is_given entities kind = list_any (λ entity. has_value_of kind entity.items) entities

abbrev pub is_inserted : List SystemTable → Kind → Bool
is_inserted systems kind = list_any (λ (t : SystemTable). done_by (deed.Inserts kind) t.blocks.items) systems

abbrev pub is_present : List (Vec Value Global) → List SystemTable → Kind → Bool
is_present entities systems kind = is_given entities kind || is_inserted systems kind

-- the same of each kind, by number
abbrev pub present_kinds : List (Vec Value Global) → List SystemTable → List Bool
present_kinds entities systems = map (is_present entities systems) every_kind

-- events of a kind are written by a system; they are read by one, or a condition asks for them
abbrev pub is_written : Schedule → Event → Bool
is_written s event = list_any (λ (system : ScheduledSystem). has (event_number event) system.params.writes) s.systems

abbrev pub is_read_by_system : Schedule → Event → Bool
is_read_by_system s event = list_any (λ (system : ScheduledSystem). has (event_number event) system.params.reads) s.systems

abbrev pub is_asked_for : Schedule → Event → Bool
is_asked_for s event = list_any (λ (c : ScheduledCondition). has (event_number event) (access_of_condition c.condition).reads) s.conditions

abbrev pub is_heard : Schedule → Event → Bool
is_heard s event = is_read_by_system s event || is_asked_for s event

-- one is so, and the other not
abbrev pub is_unread : Schedule → Event → Bool
is_unread s event = is_written s event && not (is_heard s event)

abbrev pub is_unwritten : Schedule → Event → Bool
is_unwritten s event = is_heard s event && not (is_written s event)

-- a resource is written by a system; it is named by one, or a condition asks for it
abbrev pub is_changed : Schedule → Res → Bool
is_changed s res = list_any (λ (system : ScheduledSystem). has (res_number res) system.params.res_mut) s.systems

abbrev pub is_named_by_system : Schedule → Res → Bool
is_named_by_system s res = list_any (λ (system : ScheduledSystem). names_resource system.params (res_number res)) s.systems

abbrev pub is_named_by_condition : Schedule → Res → Bool
is_named_by_condition s res = list_any (λ (c : ScheduledCondition). names_resource (access_of_condition c.condition) (res_number res)) s.conditions

abbrev pub is_named : Schedule → Res → Bool
is_named s res = is_named_by_system s res || is_named_by_condition s res

-- what is found of an event kind, of a resource that has a value at the start, of a set with these members, and of a pair of the report
abbrev pub IsOfEventKind : Schedule → Event → Lint → Type 0
IsOfEventKind s event = Either (Tested (is_unread s event) (lint.UnreadEvent event)) (Tested (is_unwritten s event) (lint.UnwrittenEvent event))

unfoldable pub IsOfEventKinds : Schedule → ℕ → Lint → Type 0
IsOfEventKinds s n = IsOfEventKind s (event_at n)

abbrev pub is_zero : List ℤ → ℕ → Bool
is_zero values n = int_eq (get_or values n (pos 0)) (pos 0)

abbrev pub is_never_written : Schedule → Bool → Res → Bool
is_never_written s zero res = zero && (is_named s res && not (is_changed s res))

unfoldable pub IsOfStart : Schedule → List ℤ → ℕ → Lint → Type 0
IsOfStart s values n = Tested (is_never_written s (is_zero values n) (res_at n)) (lint.UnwrittenRes (res_at n))

unfoldable pub IsOfSet : List (Vec ℕ Global) → ℕ → Lint → Type 0
IsOfSet members n found = HoldsAt (λ numbers. Tested (length numbers.items == 0) (lint.NoMembers n) found) members n

unfoldable pub IsOfChain : List ChainTable → ℕ → Lint → Type 0
IsOfChain chains n found = HoldsAt (λ (chain : ChainTable). Tested (nat_lt (length chain.items.items) 2) (lint.LoneChain n) found) chains n

unfoldable pub IsOfRace : List Pair → ℕ → Lint → Type 0
IsOfRace pairs n found = HoldsAt (λ pair. Tested (not pair.silenced) (lint.Race pair) found) pairs n

unfoldable pub IsOfTable : List Bool → List SystemTable → ℕ → Lint → Type 0
IsOfTable present tables n found = HoldsAt (λ t. IsOfSystem present t n found) tables n

-- it is likely a mistake of a file whose schedule this is, whose sets have these members, and whose report has these pairs
unfoldable pub IsLint : ProgramFile → Schedule → List (Vec ℕ Global) → List Pair → Lint → Type 0
IsLint file s members pairs = Either (Among (length file.systems.items) (IsOfTable (present_kinds file.entities.items file.systems.items) file.systems.items))
    (Either (Among (length members) (IsOfSet members))
    (Either (Among (length file.sets.items) (IsOfSetItem file.sets.items))
    (Either (Among (length file.chains.items) (IsOfChain file.chains.items))
    (Either (Among (length s.conditions) (IsOfCondition s file.resources (present_kinds file.entities.items file.systems.items)))
    (Either (Among 4 (IsOfEventKinds s))
    (Either (Among 8 (IsOfStart s file.resources)) (Among (length pairs) (IsOfRace pairs))))))))

-- each of these is one, and where they are fewer than fifty each one is among them
abbrev pub AreLints : ProgramFile → Schedule → List (Vec ℕ Global) → List Pair → List Lint → Type 0
AreLints file s members pairs found = Adds (IsLint file s members pairs) [] found
