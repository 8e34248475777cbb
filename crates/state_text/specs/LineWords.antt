-- The lines of the text of a whole state, as words.
use Rattle.std.specs.Prelude.{◌≡◌, ◌≢◌, ℕ, suc, true, nat_lt, List, [], ◌∷◌, ◌++◌, length, map, get_or, flat_map, codes, ◌≤◌, FitsSigned}
use Rattle.std.specs.Fmt.{decimal, signed_decimal}
use Rattle.std.specs.Int.{w64}
use Rattle.std.specs.List.{AllByRecursion}
use Rattle.kinds.specs.declared.res.Res.{Res}
use Rattle.kinds.specs.declared.res.Event.{Event}
use Rattle.kinds.specs.Res.{res_number, res_name, every_res, event_number, event_name}
use Rattle.kinds.specs.Kind.{name_of_kind}
use Rattle.kinds.specs.Components.{widths}
use Rattle.model.specs.state.State.{Component, Slot, Resource, EventQueue, Memory, State, World, no_resource}
use Rattle.model.specs.state.Events.{queue_of}
use Rattle.model.specs.state.Rows.{IsRising}
use Rattle.model.specs.state.Shape.{IsComponent, IsSlot}
use Rattle.state_text.specs.Laws.{FitsComponent}
use Rattle.state_text.specs.StateText.{every_event, status_name}

-- ---- what is written

-- a resource of a world at this clock, of 64 bits
abbrev pub IsResourceAt : ℕ → Resource → Type 0
IsResourceAt clock r = FitsSigned w64 r.value × (r.changed ≤ clock)

-- the world with these resources
abbrev pub with_resources : List Resource → World → World
with_resources resources w = record { slots = w.slots; resources = resources; clock = w.clock }

-- a slot of a world at this clock, of words of 64 bits
abbrev pub IsSlotAt : ℕ → Slot → Type 0
IsSlotAt clock slot = IsSlot widths clock slot × AllByRecursion FitsComponent slot.row

-- components in rising kinds, with no stamp above the clock
pub record IsRow (clock : ℕ) (row : List Component) : Type 0 where
  pub rising : IsRising row
  pub components : AllByRecursion (IsComponent widths clock) row

-- ---- the words of each line

abbrev pub head_words : ℕ → ℕ → ℕ → List (List ℕ)
head_words systems conditions slots = codes "state" ∷ codes "1" ∷ decimal systems ∷ decimal conditions ∷ decimal slots ∷ []

abbrev pub count_words : List ℕ → ℕ → List (List ℕ)
count_words name count = name ∷ decimal count ∷ []

abbrev pub resource_words : Res → Resource → List (List ℕ)
resource_words res r = res_name res ∷ signed_decimal r.value ∷ decimal r.changed ∷ []

abbrev pub event_words : Event → EventQueue → List (List ℕ)
event_words kind queue = event_name kind ∷ decimal queue.newer ∷ decimal queue.next ∷ map signed_decimal (map (λ e. e.value) queue.kept)

abbrev pub memory_words : List ℕ → Memory → List (List ℕ)
memory_words name m = name ∷ decimal m.last_run ∷ (map signed_decimal m.registers ++ map decimal m.cursors)

abbrev pub component_words : Component → List (List ℕ)
component_words c = name_of_kind c.kind ∷ decimal c.cell.added ∷ decimal c.cell.changed ∷ map signed_decimal c.cell.words

abbrev pub row_words : List Component → List (List ℕ)
row_words row = flat_map component_words row

-- an id: an index, `v`, a generation
abbrev pub id_word : ℕ → ℕ → List ℕ
id_word index generation = decimal index ++ 118 ∷ decimal generation

abbrev pub slot_words : ℕ → Slot → List (List ℕ)
slot_words index slot = status_name slot.status ∷ id_word index slot.generation ∷ row_words slot.row

-- ---- the lines

-- those of all slots, of which the first has this index, before others
abbrev pub slots_before : ℕ → List Slot → List (List (List ℕ)) → List (List (List ℕ))
slots_before index [] more = more
slots_before index (slot ∷ slots) more = slot_words index slot ∷ slots_before (suc index) slots more

abbrev pub memories_before : List ℕ → List Memory → List (List (List ℕ)) → List (List (List ℕ))
memories_before name memories more = map (memory_words name) memories ++ more

abbrev pub resources_before : List Resource → List Res → List (List (List ℕ)) → List (List (List ℕ))
resources_before resources list more = map (λ res. resource_words res (get_or resources (res_number res) no_resource)) list ++ more

abbrev pub queues_before : List EventQueue → List Event → List (List (List ℕ)) → List (List (List ℕ))
queues_before queues list more = map (λ kind. event_words kind (queue_of queues (event_number kind))) list ++ more

-- all lines of a state
abbrev pub lines_of : State → List (List (List ℕ))
lines_of w =
    head_words (length w.systems) (length w.conditions) (length w.world.slots)
    ∷ count_words (codes "clock") w.world.clock
    ∷ count_words (codes "passed") w.passed_over
    ∷ resources_before w.world.resources every_res
    (queues_before w.events every_event
    (memories_before (codes "system") w.systems
    (memories_before (codes "condition") w.conditions
    (slots_before 0 w.world.slots []))))

-- ---- their text

-- words with a space between each two
abbrev pub spaced : List (List ℕ) → List ℕ
spaced [] = []
spaced (word ∷ words) = word ++ flat_map (λ w. 32 ∷ w) words

-- a line with its end
abbrev pub line_text : List (List ℕ) → List ℕ
line_text words = spaced words ++ 10 ∷ []

-- one byte or more, each above a space
abbrev pub IsPlain : List ℕ → Type 0
IsPlain word = (word ≢ []) × AllByRecursion (λ b. nat_lt 32 b ≡ true) word

-- the text of these lines, of plain words
pub record AreLines (lines : List (List (List ℕ))) (text : List ℕ) : Type 0 where
  pub written : text ≡ flat_map line_text lines
  pub plain : AllByRecursion (λ line. AllByRecursion IsPlain line) lines
