-- The text of the values is that of the state without stamps.
use Rattle.std.proofs.Common.{◌≡◌, ℕ, suc, List, [], ◌∷◌, ◌++◌, map, codes, refl, sym, ap, ap₂, ◌∙◌}
use Rattle.std.proofs.lemmas.List.{length-map}
use Rattle.std.proofs.Math.ListN.{get_or-map}
use Rattle.std.specs.Fmt.{decimal}
use Rattle.kinds.specs.declared.res.Res.{Res}
use Rattle.kinds.specs.Res.{res_number, every_res}
use Rattle.model.specs.state.State.{Component, Slot, Resource, Memory, State, no_resource}
use Rattle.model.specs.state.Agreement.{component_without_stamps, slot_without_stamps, resource_without_stamp, memory_without_last_run, without_stamps}
use Rattle.state_text.specs.declared.form.Form.TheVariants.{Values}
use Rattle.state_text.specs.StateText.{number_text, count_line, event_lines, every_event, status_name, head_line, component_text, row_text, slot_line, slot_lines, memory_line, memory_lines, resource_line, resource_lines, text_in, values_text}

-- rows, and slots
row : (cs : List Component) → row_text Values (map component_without_stamps cs) ≡ row_text Values cs
row [] = refl
row (c ∷ cs) = ap (λ rest. component_text Values c ++ rest) (row cs)

slot_of : (index : ℕ) (slot : Slot) → slot_line Values index (slot_without_stamps slot) ≡ slot_line Values index slot
slot_of index slot = λ i. status_name slot.status ++ number_text index ++ (118 ∷ decimal slot.generation) ++ row slot.row i ++ 10 ∷ []

slots : (index : ℕ) (list : List Slot) → slot_lines Values index (map slot_without_stamps list) ≡ slot_lines Values index list
slots index [] = refl
slots index (slot ∷ list) = ap₂ ◌++◌ (slot_of index slot) (slots (suc index) list)

-- memories
memories : (name : List ℕ) (list : List Memory) → memory_lines Values name (map memory_without_last_run list) ≡ memory_lines Values name list
memories name [] = refl
memories name (m ∷ list) = ap (λ rest. memory_line Values name m ++ rest) (memories name list)

-- resources
resources : (list : List Resource) (names : List Res) → resource_lines Values (map resource_without_stamp list) names ≡ resource_lines Values list names
resources list [] = refl
resources list (res ∷ names) =
    ap₂ ◌++◌ (ap (resource_line Values res) (get_or-map resource_without_stamp list (res_number res) no_resource)) (resources list names)

-- the head
head : (w : State) → head_line Values (without_stamps w) ≡ head_line Values w
head w = λ i.
    codes "values 1" ++ number_text (length-map w.systems memory_without_last_run i) ++ number_text (length-map w.conditions memory_without_last_run i)
    ++ number_text (length-map w.world.slots slot_without_stamps i) ++ 10 ∷ []

-- the whole text
pub values_without_stamps : (w : State) → values_text (without_stamps w) ≡ values_text w
unfolding text_in
values_without_stamps w = λ i.
    head w i ++ count_line (codes "clock") w.world.clock ++ count_line (codes "passed") w.passed_over ++ resources w.world.resources every_res i
    ++ event_lines w.events every_event ++ memories (codes "system") w.systems i ++ memories (codes "condition") w.conditions i ++ slots 0 w.world.slots i

pub values_alike : (v w : State) → without_stamps v ≡ without_stamps w → values_text v ≡ values_text w
values_alike v w same = sym (values_without_stamps v) ∙ ap values_text same ∙ values_without_stamps w
