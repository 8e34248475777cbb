-- What is laid row by row over the shown rows is the overlay: the last row first, or in any order where no row stands twice.
use Rattle.std.proofs.Common.{◌≡◌, ◌≢◌, ℕ, zero, suc, ℤ, Bool, true, false, cond, refl, sym, ap, ap₂, ◌∙◌, List, [], ◌∷◌, map-id, Option, Some, None, ◌==◌, arith, ne_eqb, eq-eqb, eqb-true, ◌<◌}
use Rattle.std.specs.List.{AllByRecursion}
use Rattle.model.specs.Lists.{first_some, has, map_index, update_at}
use Rattle.model.specs.state.State.{Cell, Component, Slot, Resource, EventQueue, fresh_slot, no_resource, empty_queue}
use Rattle.model.specs.access.Query.{Term}
use Rattle.model.specs.state.Events.{send_all}
use Rattle.model.specs.shown.Input.{ShownRow, is_row, shown_row, rows_from}
use Rattle.model.specs.shown.Outcome.{words_in_row, words_in_query, words_written, value_written, events_sent}
use Rattle.model.specs.shown.Overlay.{cell_after, row_after, slot_after, slots_after, resource_after, resources_after, queues_after}
use Rattle.model.proofs.serial.Conflicts.{events_sent-none}
use Rattle.model.proofs.lists.Lists.{map_index-same, map_index-id, map_index-map_index, update_at-comm}

-- ---- one write after another

-- a function by index that changes one index alone
map_index-one : {A : Type 0} (f : ℕ → A → A) (e : ℕ) (h : A → A) → ((x : A) → f e x ≡ h x) → ((i : ℕ) (x : A) → e ≢ i → f i x ≡ x) → (xs : List A) → map_index f xs ≡ update_at e h xs
map_index-one f e h here others [] = refl
map_index-one f zero h here others (x ∷ xs) = ap₂ ◌∷◌ (here x) (map_index-id (λ i. f (suc i)) x xs (λ i. others (suc i) _ (λ same. cc)))
map_index-one f (suc e) h here others (x ∷ xs) =
    ap₂ ◌∷◌ (others zero x (λ same. cc)) (map_index-one (λ i. f (suc i)) e h here (λ i y differ. others (suc i) y (λ same. differ (cc))) xs)

-- of two writes the first stands
cell_after-first_some : (tick : ℕ) (o p : Option (List ℤ)) (c : Cell) → cell_after tick (first_some o p) c ≡ cell_after tick o (cell_after tick p c)
cell_after-first_some tick None p c = refl
cell_after-first_some tick (Some w) None c = refl
cell_after-first_some tick (Some w) (Some v) c = refl

row_after-first_some : (tick : ℕ) (f g : ℕ → Option (List ℤ)) (row : List Component) → row_after tick (λ k. first_some (f k) (g k)) row ≡ row_after tick f (row_after tick g row)
row_after-first_some tick f g [] = refl
row_after-first_some tick f g (c ∷ cs) = λ i. record { kind = c.kind; cell = cell_after-first_some tick (f c.kind) (g c.kind) c.cell i } ∷ row_after-first_some tick f g cs i

slot_after-first_some : (tick : ℕ) (f g : ℕ → Option (List ℤ)) (slot : Slot) → slot_after tick (λ k. first_some (f k) (g k)) slot ≡ slot_after tick f (slot_after tick g slot)
slot_after-first_some tick f g slot = λ i. record { generation = slot.generation; status = slot.status; row = row_after-first_some tick f g slot.row i }

-- two overlays after each other are the one in which of two writes that of the later overlay stands
pub slots_after-first_some : (tick : ℕ) (f g : ℕ → ℕ → Option (List ℤ)) (slots : List Slot)
    → slots_after tick (λ index kind. first_some (f index kind) (g index kind)) slots ≡ slots_after tick f (slots_after tick g slots)
unfolding slots_after
slots_after-first_some tick f g slots =
    map_index-same (λ index. slot_after tick (λ kind. first_some (f index kind) (g index kind))) (λ index slot. slot_after tick (f index) (slot_after tick (g index) slot)) fresh_slot slots
    (λ index. slot_after-first_some tick (f index) (g index) _)
    ∙ sym (map_index-map_index (λ index. slot_after tick (f index)) (λ index. slot_after tick (g index)) slots)

-- a slot without a write
slot_after-none : (tick : ℕ) (slot : Slot) → slot_after tick (λ kind. None) slot ≡ slot
slot_after-none tick slot = λ i. record { generation = slot.generation; status = slot.status; row = map-id slot.row i }

-- the overlay of nothing
pub slots_after-none : (tick : ℕ) (slots : List Slot) → slots_after tick (λ index kind. None) slots ≡ slots
unfolding slots_after
slots_after-none tick slots = map_index-id (λ index. slot_after tick (λ kind. None)) fresh_slot slots (λ index. slot_after-none tick _)

-- the overlay of one row
pub slots_after-one : (tick e : ℕ) (words : ℕ → Option (List ℤ)) (slots : List Slot)
    → slots_after tick (λ index kind. cond (e == index) (words kind) None) slots ≡ update_at e (slot_after tick words) slots
unfolding slots_after
slots_after-one tick e words slots = map_index-one (λ index. slot_after tick (λ kind. cond (e == index) (words kind) None)) e (slot_after tick words)
    (λ slot. ap (λ b. slot_after tick (λ kind. cond b (words kind) None) slot) (eq-eqb e e refl))
    (λ index slot differ. ap (λ b. slot_after tick (λ kind. cond b (words kind) None) slot) (ne_eqb e index differ) ∙ slot_after-none tick slot) slots

-- ---- row by row

-- the rows of a query laid, the last row first
abbrev pub laid_rows : ℕ → List Term → List ShownRow → List (List (Option (List ℤ))) → List Slot → List Slot
laid_rows tick query [] cells slots = slots
laid_rows tick query (row ∷ rows) [] slots = slots
laid_rows tick query (row ∷ rows) (values ∷ cells) slots = update_at row.entity.index (slot_after tick (words_in_row query values)) (laid_rows tick query rows cells slots)

-- the rows of each query laid, the last query first
abbrev pub laid_queries : ℕ → List (List Term) → List (List ShownRow) → List (List (List (Option (List ℤ)))) → List Slot → List Slot
laid_queries tick [] rows cells slots = slots
laid_queries tick (query ∷ queries) [] cells slots = slots
laid_queries tick (query ∷ queries) (rows ∷ more) [] slots = slots
laid_queries tick (query ∷ queries) (rows ∷ more) (cells ∷ others) slots = laid_rows tick query rows cells (laid_queries tick queries more others slots)

-- the overlay of one query is its rows laid
pub slots_after-query : (tick : ℕ) (query : List Term) (rows : List ShownRow) (cells : List (List (Option (List ℤ)))) (slots : List Slot)
    → slots_after tick (words_in_query query rows cells) slots ≡ laid_rows tick query rows cells slots
slots_after-query tick query [] cells slots = slots_after-none tick slots
slots_after-query tick query (row ∷ rows) [] slots = slots_after-none tick slots
slots_after-query tick query (row ∷ rows) (values ∷ cells) slots =
    slots_after-first_some tick (λ index kind. cond (row.entity.index == index) (words_in_row query values kind) None) (words_in_query query rows cells) slots
    ∙ slots_after-one tick row.entity.index (words_in_row query values) (slots_after tick (words_in_query query rows cells) slots)
    ∙ ap (update_at row.entity.index (slot_after tick (words_in_row query values))) (slots_after-query tick query rows cells slots)

-- the overlay of all queries is their rows laid
pub slots_after-queries : (tick : ℕ) (queries : List (List Term)) (rows : List (List ShownRow)) (cells : List (List (List (Option (List ℤ))))) (slots : List Slot)
    → slots_after tick (words_written queries rows cells) slots ≡ laid_queries tick queries rows cells slots
slots_after-queries tick [] rows cells slots = slots_after-none tick slots
slots_after-queries tick (query ∷ queries) [] cells slots = slots_after-none tick slots
slots_after-queries tick (query ∷ queries) (rows ∷ more) [] slots = slots_after-none tick slots
slots_after-queries tick (query ∷ queries) (rows ∷ more) (cells ∷ others) slots =
    slots_after-first_some tick (words_in_query query rows cells) (words_written queries more others) slots
    ∙ slots_after-query tick query rows cells (slots_after tick (words_written queries more others) slots)
    ∙ ap (laid_rows tick query rows cells) (slots_after-queries tick queries more others slots)

-- a row is at none of the others' indices
abbrev pub StandsApart : ℕ → List ShownRow → Type 0
StandsApart index rows = AllByRecursion (λ row. index ≢ row.entity.index) rows

-- no index stands twice
abbrev pub StandOnce : List ShownRow → Type 0
StandOnce [] = Unit {0}
StandOnce (row ∷ rows) = StandsApart row.entity.index rows × StandOnce rows

-- a change at an index beside rows can be laid before or after them
laid_rows-update_at : (tick index : ℕ) (f : Slot → Slot) (query : List Term) (rows : List ShownRow) (cells : List (List (Option (List ℤ)))) (slots : List Slot) → StandsApart index rows
    → laid_rows tick query rows cells (update_at index f slots) ≡ update_at index f (laid_rows tick query rows cells slots)
laid_rows-update_at tick index f query [] cells slots apart = refl
laid_rows-update_at tick index f query (row ∷ rows) [] slots apart = refl
laid_rows-update_at tick index f query (row ∷ rows) (values ∷ cells) slots apart =
    ap (update_at row.entity.index (slot_after tick (words_in_row query values))) (laid_rows-update_at tick index f query rows cells slots apart.1)
    ∙ update_at-comm row.entity.index index (slot_after tick (words_in_row query values)) f (laid_rows tick query rows cells slots) (λ same. apart.0 (sym same))

-- where no index stands twice, the first row can be laid first, as a loop does
pub laid_rows-first : (tick : ℕ) (query : List Term) (row : ShownRow) (rows : List ShownRow) (values : List (Option (List ℤ))) (cells : List (List (Option (List ℤ)))) (slots : List Slot)
    → StandsApart row.entity.index rows
    → laid_rows tick query (row ∷ rows) (values ∷ cells) slots ≡ laid_rows tick query rows cells (update_at row.entity.index (slot_after tick (words_in_row query values)) slots)
laid_rows-first tick query row rows values cells slots apart =
    sym (laid_rows-update_at tick row.entity.index (slot_after tick (words_in_row query values)) query rows cells slots apart)

-- the rows of a query are at none of the lower indices
rows_from-apart : (query : List Term) (last index first : ℕ) (slots : List Slot) → index < first → StandsApart index (rows_from query last first slots)
unfolding rows_from
rows_from-apart query last index first [] low = tt
rows_from-apart query last index first (slot ∷ slots) low = go (is_row query last slot) (rows_from-apart query last index (suc first) slots (omega arith))
  where
    go : (b : Bool) → StandsApart index (rows_from query last (suc first) slots)
        → StandsApart index (cond b (shown_row query first slot ∷ rows_from query last (suc first) slots) (rows_from query last (suc first) slots))
    go true rest = ((λ same. omega arith), rest)
    go false rest = rest

-- no index stands twice among the rows of a query
pub rows_from-once : (query : List Term) (last first : ℕ) (slots : List Slot) → StandOnce (rows_from query last first slots)
unfolding rows_from
rows_from-once query last first [] = tt
rows_from-once query last first (slot ∷ slots) = go (is_row query last slot) (rows_from-once query last (suc first) slots)
  where
    go : (b : Bool) → StandOnce (rows_from query last (suc first) slots)
        → StandOnce (cond b (shown_row query first slot ∷ rows_from query last (suc first) slots) (rows_from query last (suc first) slots))
    go true rest = (rows_from-apart query last first (suc first) slots (omega arith), rest)
    go false rest = rest

-- ---- resources and events

-- a resource without a write
pub resources_after-none : (tick : ℕ) (rs : List Resource) → resources_after tick (λ number. None) rs ≡ rs
unfolding resources_after
resources_after-none tick rs = map_index-id (λ number. resource_after tick None) no_resource rs (λ i. refl)

-- of two writes the first stands
resource_after-first_some : (tick : ℕ) (o p : Option ℤ) (r : Resource) → resource_after tick (first_some o p) r ≡ resource_after tick o (resource_after tick p r)
resource_after-first_some tick None p r = refl
resource_after-first_some tick (Some w) p r = refl

-- the writable resources laid, the last one first
abbrev pub laid_resources : ℕ → List ℕ → List (Option ℤ) → List Resource → List Resource
laid_resources tick [] values rs = rs
laid_resources tick (n ∷ ns) [] rs = rs
laid_resources tick (n ∷ ns) (v ∷ vs) rs = update_at n (resource_after tick v) (laid_resources tick ns vs rs)

-- one more writable resource
resources_after-one : (tick n : ℕ) (v : Option ℤ) (values : ℕ → Option ℤ) (rs : List Resource)
    → resources_after tick (λ number. first_some (cond (n == number) v None) (values number)) rs ≡ update_at n (resource_after tick v) (resources_after tick values rs)
unfolding resources_after
resources_after-one tick n v values rs =
    map_index-same (λ number. resource_after tick (first_some (cond (n == number) v None) (values number)))
    (λ number r. resource_after tick (cond (n == number) v None) (resource_after tick (values number) r)) no_resource rs
    (λ number. resource_after-first_some tick (cond (n == number) v None) (values number) _)
    ∙ sym (map_index-map_index (λ number. resource_after tick (cond (n == number) v None)) (λ number. resource_after tick (values number)) rs)
    ∙ map_index-one (λ number. resource_after tick (cond (n == number) v None)) n (resource_after tick v)
    (λ r. ap (λ b. resource_after tick (cond b v None) r) (eq-eqb n n refl))
    (λ number r differ. ap (λ b. resource_after tick (cond b v None) r) (ne_eqb n number differ)) (map_index (λ number. resource_after tick (values number)) rs)

-- the overlay of resources is each of them laid
pub resources_after-laid : (tick : ℕ) (ns : List ℕ) (vs : List (Option ℤ)) (rs : List Resource) → resources_after tick (value_written ns vs) rs ≡ laid_resources tick ns vs rs
resources_after-laid tick [] vs rs = resources_after-none tick rs
resources_after-laid tick (n ∷ ns) [] rs = resources_after-none tick rs
resources_after-laid tick (n ∷ ns) (v ∷ vs) rs = resources_after-one tick n v (value_written ns vs) rs ∙ ap (update_at n (resource_after tick v)) (resources_after-laid tick ns vs rs)

-- the overlay of no events
pub queues_after-none : (queues : List EventQueue) → queues_after (λ kind. []) queues ≡ queues
unfolding queues_after
queues_after-none queues = map_index-id (λ kind. send_all []) empty_queue queues (λ i. refl)

-- the event kinds laid, the last one first
abbrev pub laid_events : List ℕ → List (List ℤ) → List EventQueue → List EventQueue
laid_events [] sent queues = queues
laid_events (k ∷ ks) [] queues = queues
laid_events (k ∷ ks) (xs ∷ sent) queues = update_at k (send_all xs) (laid_events ks sent queues)

-- no kind stands twice
abbrev pub KindsOnce : List ℕ → Type 0
KindsOnce [] = Unit {0}
KindsOnce (k ∷ ks) = (has k ks ≡ false) × KindsOnce ks

-- one more event kind
queues_after-one : (k : ℕ) (xs : List ℤ) (events : ℕ → List ℤ) (queues : List EventQueue) → events k ≡ []
    → queues_after (λ kind. cond (k == kind) xs (events kind)) queues ≡ update_at k (send_all xs) (queues_after events queues)
unfolding queues_after
queues_after-one k xs events queues none =
    map_index-same (λ kind. send_all (cond (k == kind) xs (events kind))) (λ kind q. cond (k == kind) (send_all xs) (λ r. r) (send_all (events kind) q)) empty_queue queues
    (λ kind. both kind _)
    ∙ sym (map_index-map_index (λ kind. cond (k == kind) (send_all xs) (λ r. r)) (λ kind. send_all (events kind)) queues)
    ∙ map_index-one (λ kind. cond (k == kind) (send_all xs) (λ r. r)) k (send_all xs)
    (λ q. ap (λ b. cond b (send_all xs) (λ r. r) q) (eq-eqb k k refl))
    (λ kind q differ. ap (λ b. cond b (send_all xs) (λ r. r) q) (ne_eqb k kind differ)) (map_index (λ kind. send_all (events kind)) queues)
  where
    both : (kind : ℕ) (q : EventQueue) → send_all (cond (k == kind) xs (events kind)) q ≡ cond (k == kind) (send_all xs) (λ r. r) (send_all (events kind) q)
    both kind q = go (k == kind) refl
      where
        go : (b : Bool) → (k == kind) ≡ b → send_all (cond b xs (events kind)) q ≡ cond b (send_all xs) (λ r. r) (send_all (events kind) q)
        go true e = ap (λ ys. send_all xs (send_all ys q)) (sym none ∙ ap events (eqb-true k kind e))
        go false e = refl

-- the overlay of events is each kind laid, where no kind stands twice
pub queues_after-laid : (ks : List ℕ) (sent : List (List ℤ)) (queues : List EventQueue) → KindsOnce ks → queues_after (events_sent ks sent) queues ≡ laid_events ks sent queues
queues_after-laid [] sent queues once = queues_after-none queues
queues_after-laid (k ∷ ks) [] queues once = queues_after-none queues
queues_after-laid (k ∷ ks) (xs ∷ sent) queues once = queues_after-one k xs (events_sent ks sent) queues (events_sent-none ks sent k once.0)
    ∙ ap (update_at k (send_all xs)) (queues_after-laid ks sent queues once.1)
