-- The text of a whole state, and the text of its values, which is the same without stamps and last runs.
use Rattle.std.specs.Prelude.{ℕ, suc, ℤ, List, [], ◌∷◌, ◌++◌, length, map, get_or, flat_map, codes}
use Rattle.std.specs.Fmt.{decimal, signed_decimal}
use Rattle.kinds.specs.declared.res.Res.{Res}
use Rattle.kinds.specs.declared.res.Event.{Event}
use Rattle.kinds.specs.declared.res.Event.TheVariants.{Hit, Heal, Spark, Done}
use Rattle.kinds.specs.Res.{res_number, res_name, every_res, event_number, event_name}
use Rattle.kinds.specs.Kind.{name_of_kind}
use Rattle.model.specs.state.State.{Component, Status, Slot, Resource, EventQueue, Memory, State, no_resource}
use Rattle.model.specs.state.State.Status.{Vacant, Granted, Living, Retired}
use Rattle.model.specs.state.Events.{queue_of}
use Rattle.state_text.specs.declared.form.Form.{Form}
use Rattle.state_text.specs.declared.form.Form.TheVariants.{Whole, Values}

-- ---- words, a space before each

-- a number, and numbers
abbrev pub number_text : ℕ → List ℕ
number_text n = 32 ∷ decimal n

abbrev pub numbers_text : List ℕ → List ℕ
numbers_text ns = flat_map number_text ns

-- an integer, and integers
abbrev pub word_text : ℤ → List ℕ
word_text z = 32 ∷ signed_decimal z

abbrev pub words_text : List ℤ → List ℕ
words_text zs = flat_map word_text zs

-- a stamp or a last run, which the values leave out
abbrev pub stamp_text : Form → ℕ → List ℕ
stamp_text Whole tick = number_text tick
stamp_text Values tick = []

-- ---- the head

-- the first word
abbrev pub form_name : Form → List ℕ
form_name Whole = codes "state"
form_name Values = codes "values"

-- the first line: the version of the format, and the numbers of systems, of conditions and of slots
abbrev pub head_line : Form → State → List ℕ
head_line form w =
    form_name form ++ codes " 1" ++ number_text (length w.systems) ++ number_text (length w.conditions) ++ number_text (length w.world.slots) ++ 10 ∷ []

-- the line of a count
abbrev pub count_line : List ℕ → ℕ → List ℕ
count_line name count = name ++ number_text count ++ 10 ∷ []

-- ---- resources and events

-- the line of a resource: its name, its value, when it was last changed
abbrev pub resource_line : Form → Res → Resource → List ℕ
resource_line form res r = res_name res ++ word_text r.value ++ stamp_text form r.changed ++ 10 ∷ []

-- the lines of some resources
abbrev pub resource_lines : Form → List Resource → List Res → List ℕ
resource_lines form resources list = flat_map (λ res. resource_line form res (get_or resources (res_number res) no_resource)) list

-- every event kind, by number
abbrev pub every_event : List Event
every_event = Hit ∷ Heal ∷ Spark ∷ Done ∷ []

-- the line of an event kind: its name, the number at which the newer buffer begins, the next number, the kept values, oldest first
abbrev pub event_line : Event → EventQueue → List ℕ
event_line kind queue =
    event_name kind ++ number_text queue.newer ++ number_text queue.next ++ words_text (map (λ e. e.value) queue.kept) ++ 10 ∷ []

-- the lines of some event kinds
abbrev pub event_lines : List EventQueue → List Event → List ℕ
event_lines queues list = flat_map (λ kind. event_line kind (queue_of queues (event_number kind))) list

-- ---- memories

-- the line of a memory: whose it is, its last run, its registers, its cursors
abbrev pub memory_line : Form → List ℕ → Memory → List ℕ
memory_line form name m = name ++ stamp_text form m.last_run ++ words_text m.registers ++ numbers_text m.cursors ++ 10 ∷ []

abbrev pub memory_lines : Form → List ℕ → List Memory → List ℕ
memory_lines form name memories = flat_map (memory_line form name) memories

-- ---- slots

-- the word of a status
abbrev pub status_name : Status → List ℕ
status_name Vacant = codes "vacant"
status_name Granted = codes "granted"
status_name Living = codes "live"
status_name Retired = codes "retired"

-- a component: the name of its kind, when it was added and last changed, its words
abbrev pub component_text : Form → Component → List ℕ
component_text form c =
    (32 ∷ name_of_kind c.kind) ++ stamp_text form c.cell.added ++ stamp_text form c.cell.changed ++ words_text c.cell.words

abbrev pub row_text : Form → List Component → List ℕ
row_text form row = flat_map (component_text form) row

-- the line of a slot: its status, its index, `v`, its generation, and its components, which it has none of unless it lives
abbrev pub slot_line : Form → ℕ → Slot → List ℕ
slot_line form index slot =
    status_name slot.status ++ number_text index ++ (118 ∷ decimal slot.generation) ++ row_text form slot.row ++ 10 ∷ []

-- the lines of slots, of which the first has this index
abbrev pub slot_lines : Form → ℕ → List Slot → List ℕ
slot_lines form index [] = []
slot_lines form index (slot ∷ slots) = slot_line form index slot ++ slot_lines form (suc index) slots

-- ---- the whole

-- the text of a state in a form
unfoldable pub text_in : Form → State → List ℕ
text_in form w =
    head_line form w
    ++ count_line (codes "clock") w.world.clock
    ++ count_line (codes "passed") w.passed_over
    ++ resource_lines form w.world.resources every_res
    ++ event_lines w.events every_event
    ++ memory_lines form (codes "system") w.systems
    ++ memory_lines form (codes "condition") w.conditions
    ++ slot_lines form 0 w.world.slots

-- the text of a whole state
abbrev pub state_text : State → List ℕ
state_text w = text_in Whole w

-- the text of its values: what `without_stamps` keeps
abbrev pub values_text : State → List ℕ
values_text w = text_in Values w
