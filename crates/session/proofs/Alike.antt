-- What looks and inputs show of states is the same where the states are equal but for stamps.
use Rattle.std.proofs.Common.{◌≡◌, ℕ, suc, Bool, true, false, not, cond, ◌&&◌, List, [], ◌∷◌, ◌++◌, map, flat_map, codes, Option, Some, None, option_map, refl, sym, ap, ap₂, ◌∙◌}
use Rattle.std.specs.Fmt.{decimal}
use Rattle.std.specs.List.{list_all, list_any}
use Rattle.std.proofs.lemmas.Bool.{false≢true, or_parts}
use Rattle.hex.specs.Hex.{encode_lower}
use Rattle.sha2.specs.Sha256.{sha256}
use Rattle.kinds.specs.declared.res.Res.{Res}
use Rattle.kinds.specs.Res.{every_res, res_number}
use Rattle.model.specs.declared.entities.Entity.{Entity}
use Rattle.model.specs.access.Query.{Term, is_filter, matches}
use Rattle.model.specs.access.Query.{Term as term}
use Rattle.model.specs.shown.Input.{fetch, is_row, passes, rows_from, shown_row, words_of}
use Rattle.model.specs.sessions.Inputs as inputs
use Rattle.model.specs.sessions.Inputs.{Input as input}
use Rattle.model.specs.state.Agreement.{cell_without_stamps, component_without_stamps, resource_without_stamp, slot_without_stamps, without_stamps}
use Rattle.model.specs.state.Commands.{is_alive}
use Rattle.model.specs.state.Rows.{cell_at, row_at}
use Rattle.model.specs.state.State.{Cell, Component, Resource, Slot, State, fresh_slot, is_living, no_resource}
use Rattle.model.proofs.agreement.Agreement.{cell_at-without_stamps, get_or-map, kinds-without_stamps}
use Rattle.model.proofs.agreement.Commands.{is_alive-without_stamps}
use Rattle.model.proofs.agreement.Levels.{passes-unfiltered}
use Rattle.model.proofs.sessions.Unstamped.{next_id-same}
use Rattle.requests.specs.Asked.{Asked}
use Rattle.requests.specs.Asked.{Asked as asked}
use Rattle.state_lines.specs.Looks.{entity_lines, query_lines, row_line}
use Rattle.state_lines.specs.WorldText.{component_text, count_line, lines_of, resource_line, row_text, slot_line, slot_lines}
use Rattle.state_text.proofs.Unstamped.{values_without_stamps}
use Rattle.session.specs.Answers.{lines_of_input}
use Rattle.session.specs.Lockstep.{is_told_alike}
use Rattle.session.specs.Looks.{seen_by}
use Rattle.session.specs.Replies.{changed_line, id_line}

-- ---- the world

-- the components of an entity
row : (cs : List Component) → row_text (map component_without_stamps cs) ≡ row_text cs
row [] = refl
row (c ∷ cs) = ap (λ rest. component_text c.kind c.cell.words ++ rest) (row cs)

-- slots
slot_of : (index : ℕ) (slot : Slot) → slot_line index (slot_without_stamps slot) ≡ slot_line index slot
slot_of index slot = λ i. cond (is_living slot.status) (decimal index ++ (118 ∷ decimal slot.generation) ++ row slot.row i ++ 10 ∷ []) []

slots : (index : ℕ) (list : List Slot) → slot_lines index (map slot_without_stamps list) ≡ slot_lines index list
slots index [] = refl
slots index (slot ∷ list) = ap₂ ◌++◌ (slot_of index slot) (slots (suc index) list)

-- resources
resources : (names : List Res) (list : List Resource) → lines_of names (map resource_without_stamp list) ≡ lines_of names list
resources [] list = refl
resources (res ∷ names) list =
    ap₂ ◌++◌ (ap (λ (r : Resource). resource_line res r.value) (get_or-map resource_without_stamp list (res_number res) no_resource)) (resources names list)

-- an entity
entity : (e : Entity) (list : List Slot) → entity_lines e (map slot_without_stamps list) ≡ entity_lines e list
entity e list = λ i. cond (is_alive-without_stamps list e i) (decimal e.index ++ (118 ∷ decimal e.generation) ++ components i ++ 10 ∷ []) []
  where
    components : row_text (row_at (map slot_without_stamps list) e.index) ≡ row_text (row_at list e.index)
    components = ap (λ (slot : Slot). row_text slot.row) (get_or-map slot_without_stamps list e.index fresh_slot) ∙ row (row_at list e.index)

-- ---- the rows of a query

-- the words of a cell
words : (cell : Option Cell) → words_of (option_map cell_without_stamps cell) ≡ words_of cell
words None = refl
words (Some cell) = refl

-- what a term fetches
fetched : (cs : List Component) (t : Term) → fetch (map component_without_stamps cs) t ≡ fetch cs t
fetched cs (term.Read k) = ap words_of (cell_at-without_stamps cs k) ∙ words (cell_at cs k)
fetched cs (term.Mut k) = ap words_of (cell_at-without_stamps cs k) ∙ words (cell_at cs k)
fetched cs (term.Opt k) = ap words_of (cell_at-without_stamps cs k) ∙ words (cell_at cs k)
fetched cs term.Entity = refl
fetched cs (term.With k) = refl
fetched cs (term.Without k) = refl
fetched cs (term.Added k) = refl
fetched cs (term.Changed k) = refl
fetched cs (term.AnyOf alternatives) = refl

all_fetched : (cs : List Component) (query : List Term) → map (fetch (map component_without_stamps cs)) query ≡ map (fetch cs) query
all_fetched cs [] = refl
all_fetched cs (t ∷ query) = ap₂ ◌∷◌ (fetched cs t) (all_fetched cs query)

-- without filters every row passes
passed : (since : ℕ) (cs ds : List Component) (query : List Term) → list_any is_filter query ≡ false → list_all (passes since cs) query ≡ list_all (passes since ds) query
passed since cs ds [] none = refl
passed since cs ds (t ∷ query) none =
    let parts = or_parts (is_filter t) (list_any is_filter query) none in
    ap₂ ◌&&◌ (passes-unfiltered since since cs ds t parts.0) (passed since cs ds query parts.1)

is_row-same : (query : List Term) (since : ℕ) (slot : Slot) → list_any is_filter query ≡ false → is_row query since (slot_without_stamps slot) ≡ is_row query since slot
is_row-same query since slot none = λ i.
    is_living slot.status && matches query (kinds-without_stamps slot.row i) && passed since (map component_without_stamps slot.row) slot.row query none i

shown-same : (query : List Term) (index : ℕ) (slot : Slot) → shown_row query index (slot_without_stamps slot) ≡ shown_row query index slot
shown-same query index slot = λ i. record { entity = record { index = index; generation = slot.generation }; values = all_fetched slot.row query i }

rows : (query : List Term) (since index : ℕ) (list : List Slot) → list_any is_filter query ≡ false → rows_from query since index (map slot_without_stamps list) ≡ rows_from query since index list
unfolding rows_from
rows query since index [] none = refl
rows query since index (slot ∷ list) none = λ i. cond (is_row-same query since slot none i)
    (shown-same query index slot i ∷ rows query since (suc index) list none i)
    (rows query since (suc index) list none i)

query_of : (since : ℕ) (query : List Term) (list : List Slot) → not (list_any is_filter query) ≡ true → query_lines since query (map slot_without_stamps list) ≡ query_lines since query list
query_of since query list told = ap (flat_map (row_line query)) (rows query since 0 list (unfiltered (list_any is_filter query) told))
  where
    unfiltered : (b : Bool) → not b ≡ true → b ≡ false
    unfiltered true e = absurd (false≢true e)
    unfiltered false e = refl

-- ---- what is seen

-- a look shows no stamp
unstamped : (look : Asked) (w : State) → is_told_alike look ≡ true → seen_by look (without_stamps w) ≡ seen_by look w
unstamped asked.Hello w told = refl
unstamped (asked.Run times) w told = refl
unstamped (asked.Put put) w told = refl
unstamped asked.World w told = λ i. resources every_res w.world.resources i ++ slots 0 w.world.slots i ++ count_line (codes "passed") w.passed_over
unstamped (asked.Entity e) w told = entity e w.world.slots
unstamped (asked.Query since query) w told = query_of since query w.world.slots told
unstamped asked.Resources w told = resources every_res w.world.resources
unstamped (asked.Events kind from) w told = refl
unstamped asked.Values w told = values_without_stamps w
unstamped asked.Save w told = absurd (false≢true told)
unstamped asked.Digest w told = ap (λ text. encode_lower (sha256 text) ++ 10 ∷ []) (values_without_stamps w)
unstamped (asked.Mark name) w told = refl
unstamped (asked.Back name) w told = refl
unstamped (asked.Forget name) w told = refl
unstamped asked.Quit w told = refl

-- so it shows the same of states that are equal but for stamps
pub seen_alike : (look : Asked) (v w : State) → is_told_alike look ≡ true → without_stamps v ≡ without_stamps w → seen_by look v ≡ seen_by look w
seen_alike look v w told same = sym (unstamped look v told) ∙ ap (seen_by look) same ∙ unstamped look w told

-- who lives in the one lives in the other
pub alive_alike : (v w : State) (e : Entity) → without_stamps v ≡ without_stamps w → is_alive v.world.slots e ≡ is_alive w.world.slots e
alive_alike v w e same = sym (is_alive-without_stamps v.world.slots e) ∙ ap (λ (x : State). is_alive x.world.slots e) same ∙ is_alive-without_stamps w.world.slots e

-- an input shows the same
pub lines_alike : (put : inputs.Input) (v w : State) → without_stamps v ≡ without_stamps w → lines_of_input put v ≡ lines_of_input put w
lines_alike (input.SetResource number value) v w same = refl
lines_alike (input.Emit kind value) v w same = refl
lines_alike (input.Spawn given) v w same = ap id_line (next_id-same v w same)
lines_alike (input.Insert e kind words) v w same = ap changed_line (alive_alike v w e same)
lines_alike (input.Remove e kind) v w same = ap changed_line (alive_alike v w e same)
lines_alike (input.Despawn e) v w same = ap changed_line (alive_alike v w e same)
