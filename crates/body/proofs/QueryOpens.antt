-- A query as it opens over the columns that it takes, and queries that open one after the other.
use Rattle.std.proofs.Common.{◌≡◌, ℕ, zero, suc, ◌+◌, ◌<◌, Bool, true, false, cond, List, [], ◌∷◌, ◌++◌, length, get_or, map, take, slice_get, Option, Some, option_map, refl, sym, ap, ap₂, ◌∙◌, subst, arith}
use Rattle.std.specs.List.{AllByRecursion}
use Rattle.std.proofs.lemmas.Bool.{or_left}
use Rattle.std.proofs.lemmas.List.{append-nil, length-append, map-append}
use Rattle.std.proofs.lemmas.Option.{slice_get-map, slice_get-get_or, slice_get_within}
use Rattle.kinds.specs.Components.{widths}
use Rattle.model.specs.Lists.{has}
use Rattle.model.specs.state.State.{Slot, World}
use Rattle.model.specs.state.Shape.{IsWorld}
use Rattle.model.specs.access.Query.{Term, matches, touches, writes}
use Rattle.model.specs.access.Conflict.{QueriesConflictAt}
use Rattle.model.specs.access.SelfConflict.{TwoConflictAt}
use Rattle.model.specs.shown.Input.{ShownRow, rows_of}
use Rattle.model.specs.shown.Outcome.{untouched_rows, untouched_cells}
use Rattle.model.proofs.lists.Each.{each-append, each-weaker}
use Rattle.column_store.specs.Order.{AreApart}
use Rattle.archetype_store.specs.declared.columns.TakenColumn.{TakenColumn}
use Rattle.archetype_store.specs.Layout.{Archetype, archetype_at, column_home, with_home, IsLayoutOf}
use Rattle.archetype_store.specs.Slot.{column_cells}
use Rattle.archetype_store.specs.Store.{StoreValue}
use Rattle.archetype_store.proofs.ColumnLoans.{kinds_home}
use Rattle.query_plan.specs.declared.row.Row.{Row}
use Rattle.query_plan.specs.Picks.{Picked, picked_from, picks_of}
use Rattle.query_plan.specs.Standing.{IsStanding, ArePickedHome}
use Rattle.query_plan.proofs.PickedHome.{from_picked}
use Rattle.body.specs.Apart.{IsPicked, IsOver}
use Rattle.body.specs.Columns.{Column}
use Rattle.body.specs.Lent.{taken_of, lent_of, lent_in, with_away, with_back, AreOfOtherPlaces, IsOfEntities, AreLent}
use Rattle.body.specs.Opened.{IsPickedOf, ArePickedOf}
use Rattle.body.specs.Out.{IsWrittenBy}
use Rattle.body.specs.Picked.{picked_own, picked_read, AreHeldOf}
use Rattle.body.specs.SeenOver.{AreTogether}
use Rattle.body.specs.Sheet.{Sheet, IsPlan, row_of}
use Rattle.body.specs.SlotTable.{AreSlotsOf}
use Rattle.body.proofs.Aloneness.{apart-alone}
use Rattle.body.proofs.Gets.{same-some, all-get, in-get}
use Rattle.body.proofs.Lendings.{homes_back, home_other, entities_away, with_away-append, lent_in-append, lent_next}
use Rattle.body.proofs.Openings.{opens-over, kinds-within as has-within}
use Rattle.body.proofs.Pickings.{picks-are, IsPickIn}

-- ---- one query

pub held-many : (w : StoreValue) (ps : List Picked) (cs : List Column) → AreHeldOf w ps cs → length cs ≡ length ps
held-many w [] [] h = refl
held-many w [] (c ∷ cs) h = absurd h
held-many w (p ∷ ps) [] h = absurd h
held-many w (p ∷ ps) (c ∷ cs) h = ap suc (held-many w ps cs h.1)

pub split-many : (ps : List Picked) → length (picked_own ps ++ picked_read ps) ≡ length ps
split-many [] = refl
split-many (p ∷ ps) = go p.is_written (split-many ps)
  where
    go : (b : Bool) → length (picked_own ps ++ picked_read ps) ≡ length ps → length (cond b (p ∷ picked_own ps) (picked_own ps) ++ cond b (picked_read ps) (p ∷ picked_read ps)) ≡ suc (length ps)
    go true e = ap suc e
    go false e = let a = length-append (picked_own ps) (p ∷ picked_read ps) in let b = length-append (picked_own ps) (picked_read ps) in omega arith

pub picked-within : (terms : List Term) (w : StoreValue) (m : ℕ) (columns : List Column) → length w.layout < m → AllByRecursion (IsPickedOf terms w) columns → AllByRecursion (λ (c : Column). c.archetype < m) columns
picked-within terms w m columns l h = each-weaker (IsPickedOf terms w) (λ (c : Column). c.archetype < m) (λ c p. (let k = has-within w.layout c.archetype c.kind p.picked.held in omega arith)) columns h

-- what a query opens over, and what it shows then
pub open-over : (tick last : ℕ) (query terms : List Term) (w : StoreValue) (many : ℕ) (tables : List (List (Option ℕ))) (rows : List Row) (columns : List Column) →
    IsLayoutOf w.state.slots w.layout → IsWorld widths w.state → AllByRecursion (λ (a : Archetype). AreApart a.entities) w.layout → w.state.clock < tick →
    map (λ (row : Row). row.entity) rows ≡ map (λ (row : ShownRow). row.entity) (rows_of query last w.state.slots) → AllByRecursion (IsStanding w.state.slots w.layout) rows →
    ArePickedOf query w columns → AreSlotsOf terms many columns tables → terms ≡ query → many ≡ suc (length w.layout) →
    IsPlan tick terms tables rows columns × (map (row_of tables columns terms) rows ≡ rows_of query last w.state.slots)
open-over tick last query terms w many tables rows columns laid world apart coming entities standing picked slots same count =
    let both = opens-over tick last query w tables rows columns laid world apart coming entities standing picked
    (subst (λ n. AreSlotsOf query n columns tables) count (subst (λ ts. AreSlotsOf ts many columns tables) same slots)) in
    (subst (λ ts. IsPlan tick ts tables rows columns) (sym same) both.0, ap (λ ts. map (row_of tables columns ts) rows) same ∙ both.1)

-- ---- lent columns, one by one

each-lent : (P : TakenColumn → Type 0) (columns : List Column) → ((j : ℕ) (c : Column) → slice_get columns j ≡ Some c → c.is_written ≡ true → P (taken_of c)) → AllByRecursion P (lent_of columns)
each-lent P [] h = tt
each-lent P (c ∷ cs) h = go c.is_written refl (each-lent P cs (λ j d e w. h (suc j) d e w))
  where
    go : (b : Bool) → c.is_written ≡ b → AllByRecursion P (lent_of cs) → AllByRecursion P (cond b (taken_of c ∷ lent_of cs) (lent_of cs))
    go true e more = (h zero c refl e, more)
    go false e more = more

each-lent-in : (P : TakenColumn → Type 0) (sheets : List Sheet) → ((m : ℕ) (s : Sheet) → slice_get sheets m ≡ Some s → AllByRecursion P (lent_of s.taken)) → AllByRecursion P (lent_in (map (λ (s : Sheet). s.taken) sheets))
each-lent-in P [] h = tt
each-lent-in P (s ∷ ss) h = each-append P (lent_of s.taken) (lent_in (map (λ (t : Sheet). t.taken) ss)) (h zero s refl) (each-lent-in P ss (λ m t e. h (suc m) t e))

-- own columns of which no two are of one archetype and kind
others-lent : (columns : List Column) → ((i j : ℕ) (one other : Column) → slice_get columns i ≡ Some one → slice_get columns j ≡ Some other → one.archetype ≡ other.archetype → one.kind ≡ other.kind → i ≡ j) → AreOfOtherPlaces (lent_of columns)
others-lent [] h = tt
others-lent (c ∷ cs) h = go c.is_written (others-lent cs (λ i j one other e f a k. (let s = h (suc i) (suc j) one other e f a k in omega arith)))
  where
    go : (b : Bool) → AreOfOtherPlaces (lent_of cs) → AreOfOtherPlaces (cond b (taken_of c ∷ lent_of cs) (lent_of cs))
    go true more = (each-lent (λ (d : TakenColumn). c.archetype ≡ d.archetype → c.kind ≡ d.column.kind → ⊥) cs (λ j d e w a k. (let s = h zero (suc j) c d refl e a k in omega arith)), more)
    go false more = more

-- ---- layouts that differ in what is at home

kinds-flag : (b : Bool) (n k : ℕ) (layout : List Archetype) → map (λ (a : Archetype). a.kinds) (with_home b n k layout) ≡ map (λ (a : Archetype). a.kinds) layout
kinds-flag b n k [] = refl
kinds-flag b zero k (a ∷ layout) = refl
kinds-flag b (suc n) k (a ∷ layout) = ap (λ xs. a.kinds ∷ xs) (kinds-flag b n k layout)

kinds-away : (cs : List TakenColumn) (layout : List Archetype) → map (λ (a : Archetype). a.kinds) (with_away cs layout) ≡ map (λ (a : Archetype). a.kinds) layout
kinds-away [] layout = refl
kinds-away (c ∷ cs) layout = kinds-away cs (with_home false c.archetype c.column.kind layout) ∙ kinds-flag false c.archetype c.column.kind layout

pub kinds-at-away : (cs : List TakenColumn) (layout : List Archetype) (m : ℕ) → (archetype_at (with_away cs layout) m).kinds ≡ (archetype_at layout m).kinds
kinds-at-away [] layout m = refl
kinds-at-away (c ∷ cs) layout m = kinds-at-away cs (with_home false c.archetype c.column.kind layout) m ∙ kinds_home false c.archetype c.column.kind m layout

still-home : (cs : List TakenColumn) (layout : List Archetype) (n k : ℕ) → AllByRecursion (λ (c : TakenColumn). c.archetype ≡ n → c.column.kind ≡ k → ⊥) cs → column_home (archetype_at layout n) k ≡ Some true → column_home (archetype_at (with_away cs layout) n) k ≡ Some true
still-home [] layout n k d h = h
still-home (c ∷ cs) layout n k d h = still-home cs (with_home false c.archetype c.column.kind layout) n k d.1 (home_other false c.archetype c.column.kind n k layout d.0 ∙ h)

-- what a query picks of one is what it picks of the other
picked-same : (terms : List Term) (state : World) (cs : List TakenColumn) (layout : List Archetype) (columns : List Column) → ArePickedOf terms (record { state = state; layout = with_away cs layout }) columns → ArePickedOf terms (record { state = state; layout = layout }) columns
picked-same terms state cs layout columns h = record {
  each = each-weaker (IsPickedOf terms (record { state = state; layout = with_away cs layout })) (IsPickedOf terms (record { state = state; layout = layout }))
      (λ c p. record {
        picked = record {
          entities_are = p.picked.entities_are ∙ entities_away cs layout c.archetype;
          matched = subst (λ ks. matches terms (λ kind. has kind ks) ≡ true) (kinds-at-away cs layout c.archetype) p.picked.matched;
          held = subst (λ ks. has c.kind ks ≡ true) (kinds-at-away cs layout c.archetype) p.picked.held;
          touched = p.picked.touched;
        };
        own = p.own;
        cells_are = p.cells_are;
      }) columns h.each;
  unlike = h.unlike;
  all = λ n kind m there t.
      h.all n kind (subst (λ ks. matches terms (λ k. has k ks) ≡ true) (sym (kinds-at-away cs layout n)) m) (subst (λ ks. has kind ks ≡ true) (sym (kinds-at-away cs layout n)) there) t;
}

-- a column that a query takes is at home where those that it picks are
column-home : (query : List Term) (w : StoreValue) (c : Column) → ArePickedHome query w.layout → IsPickedOf query w c → column_home (archetype_at w.layout c.archetype) c.kind ≡ Some true
column-home query w c home p =
    subst (λ n. column_home (archetype_at w.layout n) c.kind ≡ Some true) (let z : 0 + c.archetype ≡ c.archetype = omega arith in z)
    (from_picked query (λ n k. column_home (archetype_at w.layout n) k ≡ Some true) c.kind p.picked.touched 0 c.archetype w.layout home p.picked.matched p.picked.held)

-- ---- queries one after the other

-- queries that were opened one after the other over a world, and the world now
pub record AreOpened (tick last : ℕ) (w : StoreValue) (queries : List (List Term)) (opened : List Sheet) (now : StoreValue) : Type 0 where
  pub terms : map (λ (s : Sheet). s.terms) opened ≡ queries
  pub rows : AllByRecursion (λ (s : Sheet). s.rows ≡ rows_of s.terms last w.state.slots) opened
  pub untouched : AllByRecursion (λ (s : Sheet). s.cells ≡ untouched_rows s.terms s.rows) opened
  pub ticks : AllByRecursion (λ (s : Sheet). s.tick ≡ tick) opened
  pub taken : AllByRecursion (λ (s : Sheet). ArePickedOf s.terms w s.taken) opened
  pub spots : AllByRecursion (λ (c : TakenColumn). column_home (archetype_at w.layout c.archetype) c.column.kind ≡ Some true) (lent_in (map (λ (s : Sheet). s.taken) opened))
  pub lent : AreLent now (map (λ (s : Sheet). s.taken) opened)
  pub away : now ≡ record { state = w.state; layout = with_away (lent_in (map (λ (s : Sheet). s.taken) opened)) w.layout }

pub opened-none : (tick last : ℕ) (w : StoreValue) (opened : List Sheet) → opened ≡ [] → AreOpened tick last w [] opened w
opened-none tick last w opened e = subst (λ xs. AreOpened tick last w [] xs w) (sym e) (record {
  terms = refl;
  rows = tt;
  untouched = tt;
  ticks = tt;
  taken = tt;
  spots = tt;
  lent = record { each = tt; once = tt; entities_are = tt };
  away = refl;
})

-- an element of a front
get-take : {A : Type 0} (xs : List A) (i m : ℕ) (x d : A) → slice_get (take i xs) m ≡ Some x → (m < i) × (get_or xs m d ≡ x)
get-take [] zero m x d e = absurd (cc)
get-take [] (suc i) m x d e = absurd (cc)
get-take (y ∷ ys) zero m x d e = absurd (cc)
get-take (y ∷ ys) (suc i) zero x d e = (omega arith, same-some y x e)
get-take (y ∷ ys) (suc i) (suc m) x d e = let more = get-take ys i m x d e in ((let l : m < i = more.0 in omega arith), more.1)

-- the terms of a query that was opened
terms-at : (queries : List (List Term)) (i : ℕ) (opened : List Sheet) → map (λ (s : Sheet). s.terms) opened ≡ take i queries → (m : ℕ) (t : Sheet) → slice_get opened m ≡ Some t → (m < i) × (get_or queries m [] ≡ t.terms)
terms-at queries i opened e m t there =
    get-take queries i m t.terms [] (ap (λ ts. slice_get ts m) (sym e) ∙ slice_get-map (λ (s : Sheet). s.terms) opened m ∙ ap (option_map (λ (s : Sheet). s.terms)) there)

module _ (tick last : ℕ) (w : StoreValue) (queries : List (List Term)) (i : ℕ) (query : List Term) (opened : List Sheet) (now : StoreValue)
    (are : AreOpened tick last w (take i queries) opened now) (is : get_or queries i [] ≡ query) (apart : (kind : ℕ) → TwoConflictAt queries kind → ⊥) (home : ArePickedHome query w.layout) where
  -- what was lent before is elsewhere than what the query picks
  elsewhere : (p : Picked) → IsPickIn query w.layout p → AllByRecursion (λ (c : TakenColumn). c.archetype ≡ p.archetype → c.column.kind ≡ p.kind → ⊥) (lent_in (map (λ (s : Sheet). s.taken) opened))
  elsewhere p here =
      each-lent-in (λ (c : TakenColumn). c.archetype ≡ p.archetype → c.column.kind ≡ p.kind → ⊥) opened (λ m t there.
      each-lent (λ (c : TakenColumn). c.archetype ≡ p.archetype → c.column.kind ≡ p.kind → ⊥) t.taken (λ j c e own a k.
      (let theirs = all-get (IsPickedOf t.terms w) t.taken j c (all-get (λ (s : Sheet). ArePickedOf s.terms w s.taken) opened m t are.taken there).each e in
      let at = terms-at queries i opened are.terms m t there in
      apart p.kind (record {
        first = m;
        second = i;
        differ = (let l : m < i = at.0 in λ x. omega arith);
        conflict = subst (λ ts. QueriesConflictAt ts (get_or queries i []) p.kind) (sym at.1) (subst (λ ts. QueriesConflictAt t.terms ts p.kind) (sym is) (record {
          kinds = λ kind. has kind (archetype_at w.layout p.archetype).kinds;
          first_matches = subst (λ n. matches t.terms (λ kind. has kind (archetype_at w.layout n).kinds) ≡ true) a theirs.picked.matched;
          second_matches = here.matched;
          holds = here.held;
          first_touches = subst (λ kind. touches t.terms kind ≡ true) k theirs.picked.touched;
          second_touches = here.touched;
          one_writes = or_left (writes t.terms p.kind) (writes query p.kind) (ap (writes t.terms) (sym k) ∙ sym theirs.own ∙ own);
        }));
      }))))

  each-home : (ps : List Picked) → AllByRecursion (IsPickIn query w.layout) ps → AllByRecursion (λ (p : Picked). column_home (archetype_at w.layout p.archetype) p.kind ≡ Some true) ps →
      AllByRecursion (λ (p : Picked). column_home (archetype_at (with_away (lent_in (map (λ (s : Sheet). s.taken) opened)) w.layout) p.archetype) p.kind ≡ Some true) ps
  each-home [] a h = tt
  each-home (p ∷ ps) a h = (still-home (lent_in (map (λ (s : Sheet). s.taken) opened)) w.layout p.archetype p.kind (elsewhere p a.0) h.0, each-home ps a.1 h.1)

  -- what the query picks is still at home
  pub home-next : ArePickedHome query now.layout
  home-next = subst (λ (v : StoreValue). ArePickedHome query v.layout) (sym are.away)
      (subst (λ kinds. AllByRecursion (λ (p : Picked). column_home (archetype_at (with_away (lent_in (map (λ (s : Sheet). s.taken) opened)) w.layout) p.archetype) p.kind ≡ Some true) (picked_from query 0 kinds))
      (sym (kinds-away (lent_in (map (λ (s : Sheet). s.taken) opened)) w.layout)) (each-home (picks_of query w.layout) (picks-are query w.layout) home))

  module _ (q : Sheet) (new : StoreValue) (terms : q.terms ≡ query) (rows : q.rows ≡ rows_of query last now.state.slots) (cells : q.cells ≡ untouched_rows q.terms q.rows) (taken : ArePickedOf query now q.taken) (at : q.tick ≡ tick)
      (away : new ≡ record { state = now.state; layout = with_away (lent_of q.taken) now.layout }) where
    state-is : now.state ≡ w.state
    state-is = ap (λ (v : StoreValue). v.state) are.away

    taken-first : ArePickedOf query w q.taken
    taken-first = picked-same query w.state (lent_in (map (λ (s : Sheet). s.taken) opened)) w.layout q.taken (subst (λ v. ArePickedOf query v q.taken) are.away taken)

    lent-all : lent_in (map (λ (s : Sheet). s.taken) (opened ++ q ∷ [])) ≡ lent_in (map (λ (s : Sheet). s.taken) opened) ++ lent_of q.taken
    lent-all = ap lent_in (map-append (λ (s : Sheet). s.taken) opened (q ∷ [])) ∙ lent_in-append (map (λ (s : Sheet). s.taken) opened) (q.taken ∷ []) ∙ ap (λ xs. lent_in (map (λ (s : Sheet). s.taken) opened) ++ xs) (append-nil (lent_of q.taken))

    one-more : (P : Sheet → Type 0) → AllByRecursion P opened → P q → AllByRecursion P (opened ++ q ∷ [])
    one-more P h p = each-append P opened (q ∷ []) h (p, tt)

    -- one query more is opened
    pub opened-more : take (i + 1) queries ≡ take i queries ++ query ∷ [] → AreOpened tick last w (take (i + 1) queries) (opened ++ q ∷ []) new
    opened-more next = record {
      terms = map-append (λ (s : Sheet). s.terms) opened (q ∷ []) ∙ ap₂ (λ xs x. xs ++ x ∷ []) are.terms terms ∙ sym next;
      rows = one-more (λ (s : Sheet). s.rows ≡ rows_of s.terms last w.state.slots) are.rows (rows ∙ ap₂ (λ ts (v : World). rows_of ts last v.slots) (sym terms) state-is);
      untouched = one-more (λ (s : Sheet). s.cells ≡ untouched_rows s.terms s.rows) are.untouched cells;
      ticks = one-more (λ (s : Sheet). s.tick ≡ tick) are.ticks at;
      taken = one-more (λ (s : Sheet). ArePickedOf s.terms w s.taken) are.taken (subst (λ ts. ArePickedOf ts w q.taken) (sym terms) taken-first);
      spots = subst (AllByRecursion (λ (c : TakenColumn). column_home (archetype_at w.layout c.archetype) c.column.kind ≡ Some true)) (sym lent-all)
          (each-append (λ (c : TakenColumn). column_home (archetype_at w.layout c.archetype) c.column.kind ≡ Some true) (lent_in (map (λ (s : Sheet). s.taken) opened)) (lent_of q.taken) are.spots
          (each-lent (λ (c : TakenColumn). column_home (archetype_at w.layout c.archetype) c.column.kind ≡ Some true) q.taken (λ j c e own. column-home query w c home (all-get (IsPickedOf query w) q.taken j c taken-first.each e))));
      lent = subst (λ (v : StoreValue). AreLent v (map (λ (s : Sheet). s.taken) (opened ++ q ∷ []))) (sym away)
          (subst (AreLent (record { state = now.state; layout = with_away (lent_of q.taken) now.layout })) (sym (map-append (λ (s : Sheet). s.taken) opened (q ∷ [])))
          (lent_next now.state now.layout (map (λ (s : Sheet). s.taken) opened) q.taken are.lent
          (each-lent (λ (c : TakenColumn). (column_home (archetype_at now.layout c.archetype) c.column.kind ≡ Some true) × (map (λ cell. Some cell) c.column.cells ≡ column_cells now.state.slots (archetype_at now.layout c.archetype).entities c.column.kind)) q.taken
          (λ j c e own. (let p = all-get (IsPickedOf query now) q.taken j c taken.each e in (column-home query now c home-next p, p.cells_are ∙ ap (λ es. column_cells now.state.slots es c.kind) p.picked.entities_are))))
          (others-lent q.taken taken.unlike)
          (each-weaker (IsPickedOf query now) (IsOfEntities now) (λ c p. p.picked.entities_are) q.taken taken.each)));
      away = away ∙ ap (λ (v : StoreValue). let x : StoreValue = record { state = v.state; layout = with_away (lent_of q.taken) v.layout } in x) are.away
          ∙ ap (λ layout. let x : StoreValue = record { state = w.state; layout = layout } in x) (sym (with_away-append (lent_in (map (λ (s : Sheet). s.taken) opened)) (lent_of q.taken) w.layout) ∙ ap (λ cs. with_away cs w.layout) (sym lent-all));
    }

-- ---- all of them

rows-mapped : (last : ℕ) (slots : List Slot) (opened : List Sheet) → AllByRecursion (λ (s : Sheet). s.rows ≡ rows_of s.terms last slots) opened → map (λ (s : Sheet). s.rows) opened ≡ map (λ query. rows_of query last slots) (map (λ (s : Sheet). s.terms) opened)
rows-mapped last slots [] h = refl
rows-mapped last slots (s ∷ ss) h = ap₂ ◌∷◌ h.0 (rows-mapped last slots ss h.1)

cells-mapped : (opened : List Sheet) → AllByRecursion (λ (s : Sheet). s.cells ≡ untouched_rows s.terms s.rows) opened →
    map (λ (s : Sheet). s.cells) opened ≡ untouched_cells (map (λ (s : Sheet). s.terms) opened) (map (λ (s : Sheet). s.rows) opened)
cells-mapped [] h = refl
cells-mapped (s ∷ ss) h = ap₂ ◌∷◌ h.0 (cells-mapped ss h.1)

module _ (tick last : ℕ) (w : StoreValue) (queries : List (List Term)) (opened : List Sheet) (now : StoreValue) (are : AreOpened tick last w queries opened now) where
  pub opened-rows : map (λ (s : Sheet). s.rows) opened ≡ map (λ query. rows_of query last w.state.slots) queries
  opened-rows = rows-mapped last w.state.slots opened are.rows ∙ ap (map (λ query. rows_of query last w.state.slots)) are.terms

  pub opened-cells : map (λ (s : Sheet). s.cells) opened ≡ untouched_cells (map (λ (s : Sheet). s.terms) opened) (map (λ (s : Sheet). s.rows) opened)
  opened-cells = cells-mapped opened are.untouched

  pub opened-back : with_back (lent_in (map (λ (s : Sheet). s.taken) opened)) now.layout ≡ w.layout
  opened-back = ap (λ (v : StoreValue). with_back (lent_in (map (λ (s : Sheet). s.taken) opened)) v.layout) are.away ∙ homes_back (lent_in (map (λ (s : Sheet). s.taken) opened)) w.layout are.spots are.lent.once

  -- what is lent is written by the queries
  pub opened-written : AllByRecursion (IsWrittenBy queries w.layout) (lent_in (map (λ (s : Sheet). s.taken) opened))
  opened-written = each-lent-in (IsWrittenBy queries w.layout) opened (λ m t there.
      each-lent (IsWrittenBy queries w.layout) t.taken (λ j c e own.
      (let p = all-get (IsPickedOf t.terms w) t.taken j c (all-get (λ (s : Sheet). ArePickedOf s.terms w s.taken) opened m t are.taken there).each e in record {
        query = t.terms;
        declared = in-get queries m t.terms (ap (λ ts. slice_get ts m) (sym are.terms) ∙ slice_get-map (λ (s : Sheet). s.terms) opened m ∙ ap (option_map (λ (s : Sheet). s.terms)) there);
        matched = p.picked.matched;
        held = p.picked.held;
        writing = sym p.own ∙ own;
      })))

  over : (m : ℕ) (t : Sheet) → slice_get opened m ≡ Some t → IsOver w.state.slots w.layout last t
  over m t there = record {
    rows_are = all-get (λ (s : Sheet). s.rows ≡ rows_of s.terms last w.state.slots) opened m t are.rows there;
    columns_are = each-weaker (IsPickedOf t.terms w) (IsPicked t.terms w.layout) (λ c p. p.picked) t.taken (all-get (λ (s : Sheet). ArePickedOf s.terms w s.taken) opened m t are.taken there).each;
  }

  query-of : (m : ℕ) (t : Sheet) → slice_get opened m ≡ Some t → get_or queries m [] ≡ t.terms
  query-of m t there =
      let at : slice_get queries m ≡ Some t.terms = ap (λ ts. slice_get ts m) (sym are.terms) ∙ slice_get-map (λ (s : Sheet). s.terms) opened m ∙ ap (option_map (λ (s : Sheet). s.terms)) there in
      same-some (get_or queries m []) t.terms (sym (slice_get-get_or queries m [] (slice_get_within queries m t.terms at)) ∙ at)

  pub opened-together : IsLayoutOf w.state.slots w.layout → ((kind : ℕ) → TwoConflictAt queries kind → ⊥) → AreTogether tick opened
  opened-together laid apart = record {
    ticks = are.ticks;
    alone = λ n s there.
        apart-alone w.state.slots w.layout last opened n s laid there over
        (λ m t other differ kind conflict. apart kind (record {
          first = n;
          second = m;
          differ = (λ e. differ (sym e));
          conflict = subst (λ ts. QueriesConflictAt ts (get_or queries m []) kind) (sym (query-of n s there)) (subst (λ ts. QueriesConflictAt s.terms ts kind) (sym (query-of m t other)) conflict);
        }));
  }
