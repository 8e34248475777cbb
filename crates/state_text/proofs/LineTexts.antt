-- The lines of the text of a whole state are written of its words.
use Rattle.std.proofs.Common.{◌≡◌, ℕ, suc, List, [], ◌∷◌, ◌++◌, length, map, flat_map, get_or, codes, append_assoc, append-nil, refl, sym, ap, ap₂, ◌∙◌}
use Rattle.std.proofs.lemmas.Grind.{flat_map-append}
use Rattle.std.specs.Fmt.{decimal, signed_decimal}
use Rattle.kinds.specs.declared.res.Res.{Res}
use Rattle.kinds.specs.declared.res.Event.{Event}
use Rattle.kinds.specs.Kind.{name_of_kind}
use Rattle.kinds.specs.Res.{res_number, res_name, every_res, event_number, event_name}
use Rattle.model.specs.state.State.{Component, Slot, Resource, EventQueue, Memory, State, no_resource}
use Rattle.model.specs.state.Events.{queue_of}
use Rattle.state_text.specs.declared.form.Form.TheVariants.{Whole}
use Rattle.state_text.specs.StateText.{number_text, numbers_text, word_text, words_text, head_line, count_line, resource_line, resource_lines, every_event, event_line, event_lines, memory_line, memory_lines, status_name, component_text, row_text, slot_line, slot_lines, text_in, state_text}
use Rattle.state_text.specs.LineWords.{head_words, count_words, resource_words, event_words, memory_words, component_words, row_words, slot_words, slots_before, memories_before, resources_before, queues_before, lines_of, line_text}

-- ---- words behind spaces

-- words with a space before each
abbrev behind : List (List ℕ) → List ℕ
behind words = flat_map (λ w. 32 ∷ w) words

behind_map : {X : Type 0} (f : X → List ℕ) (xs : List X) → behind (map f xs) ≡ flat_map (λ x. 32 ∷ f x) xs
behind_map f [] = refl
behind_map f (x ∷ xs) = ap (λ rest. (32 ∷ f x) ++ rest) (behind_map f xs)

two : (a b : List ℕ) → a ++ b ≡ a ++ (b ++ [])
two a b = ap (λ t. a ++ t) (sym (append-nil b))

three : (a b c : List ℕ) → a ++ b ++ c ≡ a ++ (b ++ (c ++ []))
three a b c = append_assoc a b c ∙ ap (λ t. a ++ t) (two b c)

five : (a b c d e : List ℕ) → a ++ b ++ c ++ d ++ e ≡ a ++ (b ++ (c ++ (d ++ (e ++ []))))
five a b c d e = simp (append_assoc, append-nil) refl

-- two words, and those of a list
with_list : (a b c t u : List ℕ) → t ≡ u → a ++ b ++ c ++ t ≡ a ++ (b ++ (c ++ u))
with_list a b c t u e = ap (λ x. a ++ b ++ c ++ x) e ∙ append_assoc (a ++ b) c u ∙ append_assoc a b (c ++ u)

-- ---- lines

head : (w : State) → head_line Whole w ≡ line_text (head_words (length w.systems) (length w.conditions) (length w.world.slots))
head w = ap (λ t. t ++ 10 ∷ []) (five (codes "state") (codes " 1") (number_text (length w.systems)) (number_text (length w.conditions)) (number_text (length w.world.slots)))

count : (name : List ℕ) (n : ℕ) → count_line name n ≡ line_text (count_words name n)
count name n = ap (λ t. t ++ 10 ∷ []) (two name (number_text n))

resource : (res : Res) (r : Resource) → resource_line Whole res r ≡ line_text (resource_words res r)
resource res r = ap (λ t. t ++ 10 ∷ []) (three (res_name res) (word_text r.value) (number_text r.changed))

queue : (kind : Event) (q : EventQueue) → event_line kind q ≡ line_text (event_words kind q)
queue kind q = ap (λ t. t ++ 10 ∷ []) (with_list (event_name kind) (number_text q.newer) (number_text q.next) _ _ (sym (behind_map signed_decimal (map (λ e. e.value) q.kept))))

memory : (name : List ℕ) (m : Memory) → memory_line Whole name m ≡ line_text (memory_words name m)
memory name m = ap (λ t. t ++ 10 ∷ []) (append_assoc (name ++ number_text m.last_run) (words_text m.registers) (numbers_text m.cursors)
    ∙ append_assoc name (number_text m.last_run) (words_text m.registers ++ numbers_text m.cursors)
    ∙ ap (λ t. name ++ (number_text m.last_run ++ t)) (ap₂ ◌++◌ (sym (behind_map signed_decimal m.registers)) (sym (behind_map decimal m.cursors))
    ∙ sym (flat_map-append (λ w. 32 ∷ w) (map signed_decimal m.registers) (map decimal m.cursors))))

component : (c : Component) → component_text Whole c ≡ behind (component_words c)
component c = with_list (32 ∷ name_of_kind c.kind) (number_text c.cell.added) (number_text c.cell.changed) _ _ (sym (behind_map signed_decimal c.cell.words))

row : (cs : List Component) → row_text Whole cs ≡ behind (row_words cs)
row [] = refl
row (c ∷ cs) = ap₂ ◌++◌ (component c) (row cs) ∙ sym (flat_map-append (λ w. 32 ∷ w) (component_words c) (row_words cs))

slot : (index : ℕ) (s : Slot) → slot_line Whole index s ≡ line_text (slot_words index s)
slot index s = ap (λ t. t ++ 10 ∷ []) (ap₂ ◌++◌ (append_assoc (status_name s.status) (number_text index) (118 ∷ decimal s.generation)) (row s.row)
    ∙ append_assoc (status_name s.status) (number_text index ++ 118 ∷ decimal s.generation) (behind (row_words s.row)))

-- ---- many lines

lines_map : {X : Type 0} (f : X → List ℕ) (words : X → List (List ℕ)) → ((x : X) → f x ≡ line_text (words x)) → (xs : List X) (more : List (List (List ℕ)))
    → flat_map f xs ++ flat_map line_text more ≡ flat_map line_text (map words xs ++ more)
lines_map f words each [] more = refl
lines_map f words each (x ∷ xs) more = append_assoc (f x) (flat_map f xs) (flat_map line_text more) ∙ ap₂ ◌++◌ (each x) (lines_map f words each xs more)

slots : (index : ℕ) (list : List Slot) → slot_lines Whole index list ≡ flat_map line_text (slots_before index list [])
slots index [] = refl
slots index (s ∷ list) = ap₂ ◌++◌ (slot index s) (slots (suc index) list)

eight : (a b c d e f g h : List ℕ) → a ++ b ++ c ++ d ++ e ++ f ++ g ++ h ≡ a ++ (b ++ (c ++ (d ++ (e ++ (f ++ (g ++ h))))))
eight a b c d e f g h = simp append_assoc refl

-- before others
resources : (rs : List Resource) (list : List Res) (more : List (List (List ℕ))) (rest : List ℕ) → rest ≡ flat_map line_text more
    → resource_lines Whole rs list ++ rest ≡ flat_map line_text (resources_before rs list more)
resources rs list more rest e =
    ap (λ t. resource_lines Whole rs list ++ t) e
    ∙ lines_map (λ res. resource_line Whole res (get_or rs (res_number res) no_resource)) (λ res. resource_words res (get_or rs (res_number res) no_resource))
    (λ res. resource res (get_or rs (res_number res) no_resource)) list more

queues : (qs : List EventQueue) (list : List Event) (more : List (List (List ℕ))) (rest : List ℕ) → rest ≡ flat_map line_text more
    → event_lines qs list ++ rest ≡ flat_map line_text (queues_before qs list more)
queues qs list more rest e =
    ap (λ t. event_lines qs list ++ t) e
    ∙ lines_map (λ kind. event_line kind (queue_of qs (event_number kind))) (λ kind. event_words kind (queue_of qs (event_number kind)))
    (λ kind. queue kind (queue_of qs (event_number kind))) list more

memories : (name : List ℕ) (ms : List Memory) (more : List (List (List ℕ))) (rest : List ℕ) → rest ≡ flat_map line_text more
    → memory_lines Whole name ms ++ rest ≡ flat_map line_text (memories_before name ms more)
memories name ms more rest e = ap (λ t. memory_lines Whole name ms ++ t) e ∙ lines_map (memory_line Whole name) (memory_words name) (memory name) ms more

-- the whole text, of any lists of resources and of event kinds
module _ (w : State) (list : List Res) (kinds : List Event) (name name' : List ℕ) where
  abbrev rest_of : List (List (List ℕ))
  rest_of =
      resources_before w.world.resources list
      (queues_before w.events kinds
      (memories_before name w.systems
      (memories_before name' w.conditions
      (slots_before 0 w.world.slots []))))

  rest_text : resource_lines Whole w.world.resources list ++ (event_lines w.events kinds ++ (memory_lines Whole name w.systems ++ (memory_lines Whole name' w.conditions ++ slot_lines Whole 0 w.world.slots)))
      ≡ flat_map line_text rest_of
  rest_text = resources w.world.resources list _ _ (queues w.events kinds _ _ (memories name w.systems _ _ (memories name' w.conditions _ _ (slots 0 w.world.slots))))

  whole : (a b c : List ℕ) (l m n : List (List ℕ)) → a ≡ line_text l → b ≡ line_text m → c ≡ line_text n
      → a ++ b ++ c ++ resource_lines Whole w.world.resources list ++ event_lines w.events kinds ++ memory_lines Whole name w.systems ++ memory_lines Whole name' w.conditions ++ slot_lines Whole 0 w.world.slots
      ≡ flat_map line_text (l ∷ m ∷ n ∷ rest_of)
  whole a b c l m n x y z =
      eight a b c (resource_lines Whole w.world.resources list) (event_lines w.events kinds) (memory_lines Whole name w.systems) (memory_lines Whole name' w.conditions) (slot_lines Whole 0 w.world.slots)
      ∙ ap₂ ◌++◌ x (ap₂ ◌++◌ y (ap₂ ◌++◌ z rest_text))

-- the whole text
pub text_of_lines : (w : State) → state_text w ≡ flat_map line_text (lines_of w)
unfolding text_in
text_of_lines w =
    whole w every_res every_event (codes "system") (codes "condition") (head_line Whole w) (count_line (codes "clock") w.world.clock) (count_line (codes "passed") w.passed_over)
    (head_words (length w.systems) (length w.conditions) (length w.world.slots)) (count_words (codes "clock") w.world.clock) (count_words (codes "passed") w.passed_over)
    (head w) (count (codes "clock") w.world.clock) (count (codes "passed") w.passed_over)
