-- The columns that a world lent come home with what was written.
use Rattle.std.proofs.Common.{◌≡◌, ℕ, zero, suc, ℤ, Bool, true, false, cond, ◌==◌, ◌&&◌, ◌||◌, List, [], ◌∷◌, ◌++◌, inl, inr, length, map, slice_get, Option, Some, None, option_map, refl, sym, ap, ap₂, subst, ◌∙◌, append_assoc, append-nil}
use Rattle.std.specs.List.{AllByRecursion, list_any}
use Rattle.std.proofs.lemmas.Bool.{eq-eqb, and_from, or_left, or_right}
use Rattle.std.proofs.lemmas.List.{length-map, map-append}
use Rattle.std.proofs.lemmas.Option.{slice_get-map}
use Rattle.model.specs.Lists.{first_some, is_number, IsIn}
use Rattle.model.specs.declared.entities.Entity.{Entity}
use Rattle.model.specs.state.State.{Cell, Slot, World}
use Rattle.model.specs.state.Rows.{IsRising}
use Rattle.model.specs.state.Shape.{IsSlot, IsWorld}
use Rattle.model.specs.access.Query.{Term, written}
use Rattle.model.specs.shown.Input.{ShownRow}
use Rattle.model.specs.shown.Outcome.{words_in_row, words_in_query, untouched_rows}
use Rattle.model.specs.shown.Overlay.{cell_after, slots_after}
use Rattle.model.proofs.lists.Each.{each-weaker}
use Rattle.model.proofs.lists.Lists.{list_any-IsIn, IsIn_left, IsIn_right}
use Rattle.kinds.specs.Components.{widths}
use Rattle.archetype_store.specs.declared.columns.TakenColumn.{TakenColumn}
use Rattle.archetype_store.specs.Layout.{Archetype, archetype_at, column_home, with_home, has_index, IsLayoutOf}
use Rattle.archetype_store.specs.Slot.{cell_of}
use Rattle.archetype_store.specs.Store.{StoreValue, with_slots, slots_with}
use Rattle.archetype_store.specs.Lending.{all_home, IsAway, CanComeHome}
use Rattle.archetype_store.specs.Overlays.{IsAfter, is_reached, AreReached}
use Rattle.archetype_store.proofs.ColumnOverlays.{entities_all_home, same_again, taken_close}
use Rattle.archetype_store.proofs.ColumnLoans.{laid_home, cells_past}
use Rattle.body.specs.Columns.{Column, cells_after, column_after}
use Rattle.body.specs.Sheet.{Sheet, WritesReach}
use Rattle.body.specs.Together.{words_of_sheet, words_of_all, IsAlone}
use Rattle.body.specs.Lent.{taken_of, lent_of, lent_in, columns_written, lent_after, with_away, IsLent, IsOfEntities, AreLent}
use Rattle.body.proofs.Gets.{all-get, map-same-get}
use Rattle.body.proofs.Alongside.{close-together, reach-together, cells-stored}
use Rattle.body.proofs.Lendings.{place_of, places_lent, homes_back, homes_layout, all_home-join, can_come-join, lent_in-append, each_lent, can_come-each}

-- ---- nothing written

none_written : (b : Bool) (v : Option (List ℤ)) → first_some (cond b (let o : Option (List ℤ) = None in o) None) v ≡ v
none_written true v = refl
none_written false v = refl

untouched_row : (query terms : List Term) (kind : ℕ) → words_in_row query (map (λ term. None) terms) kind ≡ None
untouched_row [] terms kind = refl
untouched_row (t ∷ ts) [] kind = refl
untouched_row (t ∷ ts) (u ∷ us) kind = none_written (is_number kind (written t)) (words_in_row ts (map (λ term. None) us) kind) ∙ untouched_row ts us kind

none_here : (b : Bool) (u v : Option (List ℤ)) → u ≡ None → first_some (cond b u None) v ≡ v
none_here true u v h = ap (λ o. first_some o v) h
none_here false u v h = refl

untouched_query : (query : List Term) (rows : List ShownRow) (index kind : ℕ) → words_in_query query rows (untouched_rows query rows) index kind ≡ None
untouched_query query [] index kind = refl
untouched_query query (row ∷ rows) index kind =
    none_here (row.entity.index == index) (words_in_row query (map (λ term. None) query) kind) (words_in_query query rows (untouched_rows query rows) index kind) (untouched_row query query kind)
    ∙ untouched_query query rows index kind

cells_untouched : (tick : ℕ) (words : ℕ → ℕ → Option (List ℤ)) (kind : ℕ) (entities : List Entity) (cells : List Cell) → ((i k : ℕ) → words i k ≡ None) → cells_after tick words kind entities cells ≡ cells
cells_untouched tick words kind entities [] h = refl
cells_untouched tick words kind [] (c ∷ cs) h = refl
cells_untouched tick words kind (e ∷ es) (c ∷ cs) h = ap₂ ◌∷◌ (ap (λ o. cell_after tick o c) (h e.index kind)) (cells_untouched tick words kind es cs h)

columns_untouched : (tick : ℕ) (words : ℕ → ℕ → Option (List ℤ)) (columns : List Column) → ((i k : ℕ) → words i k ≡ None) → map (column_after tick words) columns ≡ columns
columns_untouched tick words [] h = refl
columns_untouched tick words (c ∷ cs) h =
    ap₂ ◌∷◌ (ap (λ cells. let d : Column = record { archetype = c.archetype; entities = c.entities; is_written = c.is_written; kind = c.kind; cells = cells; room = c.room } in d) (cells_untouched tick words c.kind c.entities c.cells h))
    (columns_untouched tick words cs h)

lent_untouched : (sheets : List Sheet) → AllByRecursion (λ (s : Sheet). s.cells ≡ untouched_rows s.terms s.rows) sheets → lent_after sheets ≡ lent_in (map (λ (s : Sheet). s.taken) sheets)
lent_untouched [] h = refl
lent_untouched (s ∷ ss) h =
    ap₂ (λ columns others. lent_of columns ++ others)
    (columns_untouched s.tick (words_of_sheet s) s.taken (λ i k. ap (λ cells. words_in_query s.terms s.rows cells i k) h.0 ∙ untouched_query s.terms s.rows i k))
    (lent_untouched ss h.1)

-- ---- columns that come home as they left

lent_is_away : (w : StoreValue) (c : TakenColumn) → IsWorld widths w.state → IsLent w c → IsAway w c
lent_is_away w c world h = record {
  away = h.away;
  same_length = sym (length-map c.column.cells (λ cell. Some cell)) ∙ ap length h.cells_are ∙ length-map (archetype_at w.layout c.archetype).entities (λ e. cell_of w.state.slots e c.column.kind);
  past = cells_past w.state.clock w.state.slots c.column.kind (archetype_at w.layout c.archetype).entities c.column.cells world.slots h.cells_are;
}

-- they can, where nothing is written
pub untouched_come : (w : StoreValue) (sheets : List Sheet) → IsWorld widths w.state → AllByRecursion (λ (s : Sheet). s.cells ≡ untouched_rows s.terms s.rows) sheets → AreLent w (map (λ (s : Sheet). s.taken) sheets) →
    CanComeHome (lent_after sheets) w
untouched_come w sheets world untouched lent =
    subst (λ cs. CanComeHome cs w) (sym (lent_untouched sheets untouched))
    (can_come-each (lent_in (map (λ (s : Sheet). s.taken) sheets)) w (each-weaker (IsLent w) (IsAway w) (λ c h. lent_is_away w c world h) (lent_in (map (λ (s : Sheet). s.taken) sheets)) lent.each) lent.once)

state_still : (cs : List TakenColumn) (w : StoreValue) → IsLayoutOf w.state.slots w.layout → AllByRecursion (λ (slot : Slot). IsRising slot.row) w.state.slots → AllByRecursion (IsLent w) cs → (all_home cs w).state ≡ w.state
state_still [] w laid rise h = refl
state_still (c ∷ cs) w laid rise h =
    ap (with_slots (slots_with (archetype_at (all_home cs w).layout c.archetype).entities c.column.kind c.column.cells)) (state_still cs w laid rise h.1)
    ∙ ap (λ es. with_slots (slots_with es c.column.kind c.column.cells) w.state) (entities_all_home w cs c.archetype)
    ∙ ap (λ slots. with_slots (λ _. slots) w.state) (same_again w.state.slots w.layout c.archetype c.column.kind c.column.cells laid rise h.0.cells_are)

laid_away : (cs : List TakenColumn) (slots : List Slot) (layout : List Archetype) → IsLayoutOf slots layout → IsLayoutOf slots (with_away cs layout)
laid_away [] slots layout h = h
laid_away (c ∷ cs) slots layout h = laid_away cs slots (with_home false c.archetype c.column.kind layout) (laid_home slots false c.archetype c.column.kind layout h)

-- what comes home with nothing written leaves the world as it was before
pub untouched_back : (state : World) (layout : List Archetype) (tick : ℕ) (sheets : List Sheet) → IsLayoutOf state.slots layout → IsWorld widths state →
    AllByRecursion (λ (s : Sheet). s.cells ≡ untouched_rows s.terms s.rows) sheets →
    AllByRecursion (λ (c : TakenColumn). column_home (archetype_at layout c.archetype) c.column.kind ≡ Some true) (lent_in (map (λ (s : Sheet). s.taken) sheets)) →
    AreLent (record { state = state; layout = with_away (lent_in (map (λ (s : Sheet). s.taken) sheets)) layout }) (map (λ (s : Sheet). s.taken) sheets) →
    all_home (lent_after sheets) (record { state = state; layout = with_away (lent_in (map (λ (s : Sheet). s.taken) sheets)) layout }) ≡ record { state = state; layout = layout }
untouched_back state layout tick sheets laid world untouched home lent =
    let cs = lent_in (map (λ (s : Sheet). s.taken) sheets) in
    let w : StoreValue = record { state = state; layout = with_away cs layout } in
    let rise = each-weaker (IsSlot widths state.clock) (λ (slot : Slot). IsRising slot.row) (λ x h. h.rising) state.slots world.slots in
    ap (λ xs. all_home xs w) (lent_untouched sheets untouched)
    ∙ ap₂ (λ s l. let v : StoreValue = record { state = s; layout = l } in v)
    (state_still cs w (laid_away cs state.slots layout laid) rise lent.each)
    (homes_layout cs w ∙ homes_back cs layout home lent.once)

-- ---- columns that come home with what was written through all

any_at : {A : Type 0} (test : A → Bool) (xs : List A) (i : ℕ) (x : A) → slice_get xs i ≡ Some x → test x ≡ true → list_any test xs ≡ true
any_at test [] i x e h = absurd (cc)
any_at test (y ∷ ys) zero x e h = let same : y ≡ x = cc in or_left (test y) (list_any test ys) (ap test same ∙ h)
any_at test (y ∷ ys) (suc i) x e h = or_right (test y) (list_any test ys) (any_at test ys i x e h)

in_lent_of : (columns : List Column) (j : ℕ) (c : Column) → slice_get columns j ≡ Some c → c.is_written ≡ true → IsIn (taken_of c) (lent_of columns)
in_lent_of [] j c e h = absurd (cc)
in_lent_of (d ∷ ds) zero c e h =
    let same : c ≡ d = cc in
    subst (λ b. IsIn (taken_of c) (cond b (taken_of d ∷ lent_of ds) (lent_of ds))) (sym (ap (λ (x : Column). x.is_written) (sym same) ∙ h)) (inl (ap taken_of same))
in_lent_of (d ∷ ds) (suc j) c e h = go d.is_written (in_lent_of ds j c e h)
  where
    go : (b : Bool) → IsIn (taken_of c) (lent_of ds) → IsIn (taken_of c) (cond b (taken_of d ∷ lent_of ds) (lent_of ds))
    go true i = inr i
    go false i = i

in_lent_in : (queries : List (List Column)) (n : ℕ) (columns : List Column) (c : TakenColumn) → slice_get queries n ≡ Some columns → IsIn c (lent_of columns) → IsIn c (lent_in queries)
in_lent_in [] n columns c e i = absurd (cc)
in_lent_in (x ∷ xs) zero columns c e i = let same : columns ≡ x = cc in IsIn_left c (lent_of x) (lent_in xs) (subst (λ cs. IsIn c (lent_of cs)) same i)
in_lent_in (x ∷ xs) (suc n) columns c e i = IsIn_right c (lent_of x) (lent_in xs) (in_lent_in xs n columns c e i)

module _ (w : StoreValue) (tick : ℕ) (sheets : List Sheet) (ticks : AllByRecursion (λ (s : Sheet). s.tick ≡ tick) sheets) (lent : AreLent w (map (λ (s : Sheet). s.taken) sheets)) where
  -- the own writes of each query are those of all, in its columns
  written_through : ((n : ℕ) (s : Sheet) → slice_get sheets n ≡ Some s → IsAlone sheets n s) → lent_in (map (λ (s : Sheet). map (column_after tick (words_of_all sheets)) s.taken) sheets) ≡ lent_after sheets
  written_through alone = ap lent_in (map-same-get (λ (s : Sheet). map (column_after tick (words_of_all sheets)) s.taken) columns_written sheets
      (λ n s there. ap (λ t. map (column_after t (words_of_all sheets)) s.taken) (sym (all-get (λ (x : Sheet). x.tick ≡ tick) sheets n s ticks there)) ∙ sym (close-together sheets n s there (alone n s there))))

  column_is_after : (words : ℕ → ℕ → Option (List ℤ)) (c : Column) → IsOfEntities w c → IsLent w (taken_of c) → IsAfter w tick words (taken_of (column_after tick words c))
  column_is_after words c of_it h =
      cells-stored tick words c.kind c.entities c.cells (λ e. cell_of w.state.slots e c.kind) (h.cells_are ∙ ap (map (λ e. cell_of w.state.slots e c.kind)) (sym of_it))
      ∙ ap (map (λ e. option_map (cell_after tick (words e.index c.kind)) (cell_of w.state.slots e c.kind))) of_it

  trivially : (ss : List Sheet) → AllByRecursion (λ (s : Sheet). Unit {0}) ss
  trivially [] = tt
  trivially (s ∷ ss) = (tt, trivially ss)

  each_after : ((n : ℕ) (s : Sheet) → slice_get sheets n ≡ Some s → IsAlone sheets n s) → AllByRecursion (IsAfter w tick (words_of_all sheets)) (lent_after sheets)
  each_after alone = subst (AllByRecursion (IsAfter w tick (words_of_all sheets))) (written_through alone)
      (each_lent (IsLent w) (IsAfter w tick (words_of_all sheets)) (IsOfEntities w) (λ s. Unit {0}) (λ s. tick) (λ s. words_of_all sheets)
      (λ s c always of_it one. column_is_after (words_of_all sheets) c of_it one) sheets (trivially sheets) lent.entities_are lent.each)

  each_reached : ((n : ℕ) (s : Sheet) → slice_get sheets n ≡ Some s → WritesReach (words_of_sheet s) s.taken) → AreReached w.layout (lent_after sheets) (words_of_all sheets)
  each_reached reach index kind words h =
      let found = reach-together sheets reach index kind words h in
      let by = found.reached in
      let column = column_after found.sheet.tick (words_of_sheet found.sheet) by.column in
      let there = slice_get-map columns_written sheets found.query ∙ ap (option_map columns_written) found.there in
      let at = slice_get-map (column_after found.sheet.tick (words_of_sheet found.sheet)) found.sheet.taken by.at ∙ ap (option_map (column_after found.sheet.tick (words_of_sheet found.sheet))) by.there in
      let theirs = all-get (λ (cs : List Column). AllByRecursion (IsOfEntities w) cs) (map (λ (s : Sheet). s.taken) sheets) found.query found.sheet.taken lent.entities_are
      (slice_get-map (λ (s : Sheet). s.taken) sheets found.query ∙ ap (option_map (λ (s : Sheet). s.taken)) found.there) in
      let of_it = all-get (IsOfEntities w) found.sheet.taken by.at by.column theirs by.there in
      let has_it = ap (has_index index) (sym of_it) ∙ any_at (λ (e : Entity). e.index == index) by.column.entities by.place by.entity by.entity_is (eq-eqb by.entity.index index by.index_is) in
      list_any-IsIn (λ (c : TakenColumn). has_index index (archetype_at w.layout c.archetype).entities && (kind == c.column.kind)) (taken_of column) (lent_after sheets)
      (in_lent_in (map columns_written sheets) found.query (columns_written found.sheet) (taken_of column) there (in_lent_of (columns_written found.sheet) by.at column at by.written_is))
      (and_from (has_index index (archetype_at w.layout by.column.archetype).entities) (kind == by.column.kind) has_it (eq-eqb kind by.column.kind (sym by.kind_is)))

-- columns of queries that leave each other alone come home as the writes of all laid over the world
pub lent_close : (w : StoreValue) (tick : ℕ) (sheets : List Sheet) → IsLayoutOf w.state.slots w.layout → IsWorld widths w.state → AllByRecursion (λ (s : Sheet). s.tick ≡ tick) sheets →
    ((n : ℕ) (s : Sheet) → slice_get sheets n ≡ Some s → IsAlone sheets n s) → ((n : ℕ) (s : Sheet) → slice_get sheets n ≡ Some s → WritesReach (words_of_sheet s) s.taken) →
    AreLent w (map (λ (s : Sheet). s.taken) sheets) → (all_home (lent_after sheets) w).state ≡ with_slots (slots_after tick (words_of_all sheets)) w.state
lent_close w tick sheets laid world ticks alone reach lent =
    taken_close w tick (words_of_all sheets) (lent_after sheets) laid world (each_after w tick sheets ticks lent alone) (each_reached w tick sheets ticks lent reach)

-- ---- the clock

-- ---- one column after the other

pub lent_of-append : (xs ys : List Column) → lent_of (xs ++ ys) ≡ lent_of xs ++ lent_of ys
lent_of-append [] ys = refl
lent_of-append (x ∷ xs) ys = go x.is_written (lent_of-append xs ys)
  where
    go : (b : Bool) → lent_of (xs ++ ys) ≡ lent_of xs ++ lent_of ys → cond b (taken_of x ∷ lent_of (xs ++ ys)) (lent_of (xs ++ ys)) ≡ cond b (taken_of x ∷ lent_of xs) (lent_of xs) ++ lent_of ys
    go true e = ap (λ zs. taken_of x ∷ zs) e
    go false e = e

-- the last column of some comes home first
module _ (before after : List Column) (last : Column) (w : StoreValue) (is : before ≡ after ++ last ∷ []) (can : CanComeHome (lent_of before) w) where
  parts : CanComeHome (lent_of (last ∷ [])) w × CanComeHome (lent_of after) (all_home (lent_of (last ∷ [])) w)
  parts = can_come-join (lent_of after) (lent_of (last ∷ [])) w (subst (λ cs. CanComeHome cs w) (ap lent_of is ∙ lent_of-append after (last ∷ [])) can)

  pub last-can : CanComeHome (lent_of (last ∷ [])) w
  last-can = parts.0

  pub others-can : CanComeHome (lent_of after) (all_home (lent_of (last ∷ [])) w)
  others-can = parts.1

  pub last-first : all_home (lent_of after) (all_home (lent_of (last ∷ [])) w) ≡ all_home (lent_of before) w
  last-first = sym (all_home-join (lent_of after) (lent_of (last ∷ [])) w) ∙ ap (λ cs. all_home cs w) (sym (ap lent_of is ∙ lent_of-append after (last ∷ [])))

-- the columns of the last query come home first
lent_after-append : (xs : List Sheet) (y : Sheet) → lent_after (xs ++ y ∷ []) ≡ lent_after xs ++ lent_of (columns_written y)
lent_after-append xs y =
    ap lent_in (map-append columns_written xs (y ∷ [])) ∙ lent_in-append (map columns_written xs) (columns_written y ∷ []) ∙ ap (λ cs. lent_after xs ++ cs) (append-nil (lent_of (columns_written y)))

module _ (before after : List Sheet) (last : Sheet) (w : StoreValue) (is : before ≡ after ++ last ∷ []) (can : CanComeHome (lent_after before) w) where
  sheet-parts : CanComeHome (lent_of (columns_written last)) w × CanComeHome (lent_after after) (all_home (lent_of (columns_written last)) w)
  sheet-parts = can_come-join (lent_after after) (lent_of (columns_written last)) w (subst (λ cs. CanComeHome cs w) (ap lent_after is ∙ lent_after-append after last) can)

  pub query-can : CanComeHome (lent_of (columns_written last)) w
  query-can = sheet-parts.0

  pub queries-can : CanComeHome (lent_after after) (all_home (lent_of (columns_written last)) w)
  queries-can = sheet-parts.1

  pub query-first : all_home (lent_after after) (all_home (lent_of (columns_written last)) w) ≡ all_home (lent_after before) w
  query-first = sym (all_home-join (lent_after after) (lent_of (columns_written last)) w) ∙ ap (λ cs. all_home cs w) (sym (ap lent_after is ∙ lent_after-append after last))

-- one query more whose writes are in its columns
pub reach-more : (all before after closed : List Sheet) (last : Sheet) → all ≡ before ++ closed → before ≡ after ++ last ∷ [] → all ≡ after ++ (last ∷ closed)
reach-more all before after closed last e f = e ∙ ap (λ xs. xs ++ closed) f ∙ append_assoc after (last ∷ []) closed

-- all that is written is written in columns that the world lent
pub lent_reach : (w : StoreValue) (tick : ℕ) (sheets : List Sheet) → AllByRecursion (λ (s : Sheet). s.tick ≡ tick) sheets → ((n : ℕ) (s : Sheet) → slice_get sheets n ≡ Some s → WritesReach (words_of_sheet s) s.taken) →
    AreLent w (map (λ (s : Sheet). s.taken) sheets) → AreReached w.layout (lent_in (map (λ (s : Sheet). s.taken) sheets)) (words_of_all sheets)
lent_reach w tick sheets ticks reach lent index kind words h =
    sym (reached_places w.layout (lent_in (map (λ (s : Sheet). s.taken) sheets)) index kind)
    ∙ ap (λ cs. is_reached w.layout cs index kind) (sym (places_lent sheets))
    ∙ reached_places w.layout (lent_after sheets) index kind
    ∙ each_reached w tick sheets ticks lent reach index kind words h
  where
    reached_places : (layout : List Archetype) (cs : List TakenColumn) (i k : ℕ) → is_reached layout (map place_of cs) i k ≡ is_reached layout cs i k
    reached_places layout [] i k = refl
    reached_places layout (c ∷ cs) i k = ap (λ b. (has_index i (archetype_at layout c.archetype).entities && (k == c.column.kind)) || b) (reached_places layout cs i k)
