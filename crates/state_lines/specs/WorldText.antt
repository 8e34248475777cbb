-- The text of a world.
use Rattle.std.specs.Prelude.{ℕ, suc, ℤ, cond, List, [], ◌∷◌, ◌++◌, flat_map, codes}
use Rattle.std.specs.Fmt.{decimal, signed_decimal}
use Rattle.kinds.specs.declared.res.Res.{Res}
use Rattle.kinds.specs.Res.{res_number, res_name, every_res}
use Rattle.kinds.specs.Kind.{name_of_kind}
use Rattle.model.specs.state.State.{Component, Slot, Resource, World, State, is_living}
use Rattle.model.specs.shown.Input.{value_of}

-- words with a space before each
abbrev pub words_text : List ℤ → List ℕ
words_text words = flat_map (λ word. 32 ∷ signed_decimal word) words

-- a component: the name of its kind and its words, a space before each
abbrev pub component_text : ℕ → List ℤ → List ℕ
component_text kind words = 32 ∷ name_of_kind kind ++ words_text words

-- the components of an entity
abbrev pub row_text : List Component → List ℕ
row_text row = flat_map (λ c. component_text c.kind c.cell.words) row

-- the line of an entity: its index, `v`, its generation, its components
abbrev pub entity_line : ℕ → ℕ → List Component → List ℕ
entity_line index generation row = decimal index ++ (118 ∷ decimal generation) ++ row_text row ++ 10 ∷ []

-- the line of an index, if its entity lives
abbrev pub slot_line : ℕ → Slot → List ℕ
slot_line index slot = cond (is_living slot.status) (entity_line index slot.generation slot.row) []

-- the lines of slots, of which the first has this index
abbrev pub slot_lines : ℕ → List Slot → List ℕ
slot_lines index [] = []
slot_lines index (slot ∷ slots) = slot_line index slot ++ slot_lines (suc index) slots

-- the line of a resource
abbrev pub resource_line : Res → ℤ → List ℕ
resource_line res value = res_name res ++ (32 ∷ signed_decimal value) ++ 10 ∷ []

-- the lines of some resources, with the values that they have
abbrev pub lines_of : List Res → List Resource → List ℕ
lines_of list resources = flat_map (λ res. resource_line res (value_of resources (res_number res))) list

-- the line of a count
abbrev pub count_line : List ℕ → ℕ → List ℕ
count_line name count = name ++ (32 ∷ decimal count) ++ 10 ∷ []

-- the lines of a world in which so many commands were passed over: its resources, its entities, that count
abbrev pub world_lines : World → ℕ → List ℕ
world_lines world passed_over = lines_of every_res world.resources ++ slot_lines 0 world.slots ++ count_line (codes "passed") passed_over

-- the text of a world after so many runs, in which so many commands were passed over
abbrev pub printed : ℕ → World → ℕ → List ℕ
printed runs world passed_over = count_line (codes "runs") runs ++ world_lines world passed_over

-- the text of a state after so many runs
abbrev pub world_text : ℕ → State → List ℕ
world_text runs state = printed runs state.world state.passed_over
