-- A walk over the indices finds the rows of a query by the marks of its archetypes.
use Rattle.std.proofs.Common.{◌≡◌, ℕ, zero, suc, ◌+◌, ◌<◌, ◌≤◌, Bool, true, false, cond, not, ◌||◌, ◌&&◌, ◌==◌, ◌⊎◌, inl, inr, List, [], ◌∷◌, ◌++◌, length, take, drop, get_or, set, map, Some, None, refl, sym, ap, ap₂, subst, ◌∙◌, append_assoc, append-nil, arith}
use Rattle.std.proofs.Math.Bool.{and-true}
use Rattle.std.specs.List.{list_any, list_all}
use Rattle.std.proofs.lemmas.Bool.{cases_eq, cases_lt, and_parts, and_from, or_left, or_right, or_parts, eq-eqb, ne_eqb}
use Rattle.std.proofs.lemmas.List.{drop_more, drop_all, take_more, map-append, length-set, get_or-set_same, get_or-set_other}
use Rattle.std.proofs.lemmas.List.Folds.{list_any-append}
use Rattle.std.proofs.lemmas.Option.{slice_get_within, slice_get-get_or, cond_some}
use Rattle.model.specs.declared.entities.Entity.{Entity}
use Rattle.model.specs.Lists.{has, is_there}
use Rattle.model.specs.state.State.{Component, Slot, fresh_slot, is_living}
use Rattle.model.specs.state.Rows.{row_at, kinds_of}
use Rattle.model.specs.state.Commands.{is_alive}
use Rattle.model.specs.access.Query.{Term, matches}
use Rattle.model.specs.access.Query.Term.{Entity as Id, Read, Mut, Opt, With, Without, Added, Changed, AnyOf}
use Rattle.model.specs.shown.Input.{ShownRow, passes, rows_of}
use Rattle.model.proofs.lists.Bools.{or_false}
use Rattle.model.proofs.lists.Each.{each-at}
use Rattle.model.proofs.progress.Width.{and_false as and_no}
use Rattle.archetype_store.specs.declared.locations.RowPlace.{RowPlace}
use Rattle.archetype_store.specs.Layout.{Archetype, archetype_at, IsLayoutOf}
use Rattle.archetype_store.specs.Places.{IsRowPlace}
use Rattle.archetype_store.specs.Slot.{bare_of}
use Rattle.query_plan.specs.declared.row.Row.{Row}
use Rattle.query_plan.specs.Candidates.{numbers_where, AreCandidates}
use Rattle.query_plan.specs.Marks.{asks_stamps, matches_at, AreMarks, AreMarksAmong, IsRowOf}
use Rattle.query_plan.specs.Standing.{is_row_at, chosen}
use Rattle.query_plan.proofs.Chosen.{whose}
use Rattle.query_plan.proofs.Gathered.{living_generation, rows_chosen, from_zero}
use Rattle.query_plan.proofs.BareRows.{all_free, cond_none}
use Rattle.query_plan.proofs.EveryRow.{nobody-past, none_there}
use Rattle.query_plan.proofs.Walks.{all_live, all_matched}

-- ---- terms

-- a term that asks for no stamps is passed by all
free_term : (last : ℕ) (row : List Component) (t : Term) → asks_stamps t ≡ false → passes last row t ≡ true
free_term last row Id h = refl
free_term last row (Read k) h = refl
free_term last row (Mut k) h = refl
free_term last row (Opt k) h = refl
free_term last row (With k) h = refl
free_term last row (Without k) h = refl
free_term last row (Added k) h = absurd (cc)
free_term last row (Changed k) h = absurd (cc)
free_term last row (AnyOf alternatives) h = refl

free_terms : (last : ℕ) (row : List Component) (query : List Term) → list_any asks_stamps query ≡ false → list_all (passes last row) query ≡ true
free_terms last row [] h = refl
free_terms last row (t ∷ ts) h =
    let p = or_parts (asks_stamps t) (list_any asks_stamps ts) h in
    and_from (passes last row t) (list_all (passes last row) ts) (free_term last row t p.0) (free_terms last row ts p.1)

-- ---- marks

-- the number of an archetype that passes a test is among theirs
has_where : (test : List ℕ → Bool) (m : ℕ) (layout : List Archetype) (n : ℕ) → n < length layout → test (archetype_at layout n).kinds ≡ true → has (m + n) (numbers_where test m layout) ≡ true
has_where test m [] n l is = absurd (omega arith)
has_where test m (a ∷ others) zero l is =
    ap (λ b. has (m + 0) (cond b (m ∷ numbers_where test (suc m) others) (numbers_where test (suc m) others))) is
    ∙ or_left (m == m + 0) (has (m + 0) (numbers_where test (suc m) others)) (eq-eqb m (m + 0) (omega arith))
has_where test m (a ∷ others) (suc n) l is = go (test a.kinds) (ap (λ k. has k (numbers_where test (suc m) others)) (let e : m + suc n ≡ suc m + n = omega arith in e) ∙ has_where test (suc m) others n (omega arith) is)
  where
    go : (b : Bool) → has (m + suc n) (numbers_where test (suc m) others) ≡ true → has (m + suc n) (cond b (m ∷ numbers_where test (suc m) others) (numbers_where test (suc m) others)) ≡ true
    go true h = or_right (m == m + suc n) (has (m + suc n) (numbers_where test (suc m) others)) h
    go false h = h

-- so the marks among candidates are all
pub marks_known : (query : List Term) (layout : List Archetype) (ns : List ℕ) (marks : List Bool) → AreCandidates query layout ns → AreMarksAmong query layout ns marks → AreMarks query layout marks
marks_known query layout ns marks c m = record { as_many = m.as_many; each = λ n l. m.each n ∙ go n l (matches_at query layout n) refl }
  where
    go : (n : ℕ) → n < length layout → (b : Bool) → matches_at query layout n ≡ b → (has n ns && b) ≡ b
    go n l true is = ap (λ h. h && true) (ap (has n) c.theirs ∙ ap (λ k. has k (numbers_where c.test 0 layout)) (let e : n ≡ 0 + n = omega arith in e) ∙ has_where c.test 0 layout n l (c.passed (archetype_at layout n).kinds is))
    go n l false is = and_no (has n ns)

-- one archetype more
module _ (query : List Term) (layout : List Archetype) (ns : List ℕ) (i n : ℕ) (marks : List Bool) (l : i < length ns) (here : n ≡ get_or ns i 0)
    (so_far : AreMarksAmong query layout (take i ns) marks) where
  more : (k : ℕ) → (has k (take i ns) || (n == k)) ≡ has k (take (i + 1) ns)
  more k =
      ap (λ b. has k (take i ns) || b) (sym (or_false (n == k)))
      ∙ sym (list_any-append (λ x. x == k) (take i ns) (n ∷ []))
      ∙ ap (λ m. has k (take i ns ++ m ∷ [])) here ∙ ap (has k) (sym (take_more ns i 0 l))

  others : (k : ℕ) → (n ≡ k → ⊥) → has k (take i ns) ≡ has k (take (i + 1) ns)
  others k apart = sym (or_false (has k (take i ns))) ∙ ap (λ b. has k (take i ns) || b) (sym (ne_eqb n k apart)) ∙ more k

  -- that the query doesn't match
  pub mark_passed : matches_at query layout n ≡ false → AreMarksAmong query layout (take (i + 1) ns) marks
  mark_passed unlike = record { as_many = so_far.as_many; each = λ k. so_far.each k ∙ go k (cases_eq n k) }
    where
      go : (k : ℕ) → (n ≡ k) ⊎ (n ≡ k → ⊥) → (has k (take i ns) && matches_at query layout k) ≡ (has k (take (i + 1) ns) && matches_at query layout k)
      go k (inl same) =
          let none : matches_at query layout k ≡ false = ap (matches_at query layout) (sym same) ∙ unlike in
          ap (λ b. has k (take i ns) && b) none ∙ and_no (has k (take i ns)) ∙ sym (ap (λ b. has k (take (i + 1) ns) && b) none ∙ and_no (has k (take (i + 1) ns)))
      go k (inr apart) = ap (λ b. b && matches_at query layout k) (others k apart)

  -- that it matches
  pub mark_set : n < length layout → matches_at query layout n ≡ true → AreMarksAmong query layout (take (i + 1) ns) (set marks n true)
  mark_set known like = record { as_many = length-set marks n true ∙ so_far.as_many; each = λ k. go k (cases_eq n k) }
    where
      within : n < length marks
      within = let m = so_far.as_many in omega arith

      go : (k : ℕ) → (n ≡ k) ⊎ (n ≡ k → ⊥) → get_or (set marks n true) k false ≡ (has k (take (i + 1) ns) && matches_at query layout k)
      go k (inl same) =
          ap (λ m. get_or (set marks n true) m false) (sym same) ∙ get_or-set_same marks n true false within
          ∙ sym (and_from (has k (take (i + 1) ns)) (matches_at query layout k) (sym (more k) ∙ or_right (has k (take i ns)) (n == k) (eq-eqb n k same)) (ap (matches_at query layout) (sym same) ∙ like))
      go k (inr apart) = get_or-set_other marks n k true false (λ e. apart (sym e)) ∙ so_far.each k ∙ ap (λ b. b && matches_at query layout k) (others k apart)

-- no marks
pub no_marks : (query : List Term) (layout : List Archetype) (marks : List Bool) → length marks ≡ length layout → ((k : ℕ) → get_or marks k false ≡ false) → AreMarksAmong query layout [] marks
no_marks query layout marks many none = record { as_many = many; each = none }

-- ---- an index

module _ (query : List Term) (slots : List Slot) (layout : List Archetype) (i : ℕ) where
  -- a row that its place tells
  module _ (laid : IsLayoutOf slots layout) (free : list_any asks_stamps query ≡ false) (marks : List Bool) (are : AreMarks query layout marks) (at : RowPlace) (is : IsRowPlace layout i at) where
    abbrev es : List Entity
    es = (archetype_at layout at.archetype).entities

    abbrev d : Entity
    d = record { index = 0; generation = 0 }

    place_within : at.place < length es
    place_within = slice_get_within es at.place at.entity is.there

    got : get_or es at.place d ≡ at.entity
    got = let same : Some (get_or es at.place d) ≡ Some at.entity = sym (slice_get-get_or es at.place d place_within) ∙ is.there in cc

    pub archetype_within : at.archetype < length layout
    archetype_within = go (cases_lt at.archetype (length layout))
      where
        go : (at.archetype < length layout) ⊎ (length layout ≤ at.archetype) → at.archetype < length layout
        go (inl l) = l
        go (inr past) = let none = ap length (nobody-past layout at.archetype past) in absurd (omega (arith, none, place_within))

    lives : is_alive slots at.entity ≡ true
    lives = subst (λ e. is_alive slots e ≡ true) got (each-at (λ (e : Entity). is_alive slots e ≡ true) es at.place d place_within (all_live query 0 slots layout laid at.archetype))

    slot_lives : is_living (get_or slots i fresh_slot).status ≡ true
    slot_lives =
        let s = get_or slots at.entity.index fresh_slot in
        ap (λ k. is_living (get_or slots k fresh_slot).status) (sym is.whose) ∙ (and_parts (is_living s.status) (s.generation == at.entity.generation) lives).0

    mark_is : matches query (kinds_of (get_or slots i fresh_slot).row) ≡ get_or marks at.archetype false
    mark_is =
        let P = λ (e : Entity). matches query (kinds_of (row_at slots e.index)) ≡ matches_at query layout at.archetype in
        ap (λ k. matches query (kinds_of (row_at slots k))) (sym is.whose)
        ∙ subst P got (each-at P es at.place d place_within (all_matched query 0 slots layout laid at.archetype)) ∙ sym (are.each at.archetype archetype_within)

    -- it is one of the query just where its archetype is marked
    pub marked_row : (last : ℕ) → is_row_at query last slots i ≡ get_or marks at.archetype false
    marked_row last =
        let s = get_or slots i fresh_slot in
        ap₂ (λ a b. a && b && list_all (passes last s.row) query) slot_lives mark_is
        ∙ ap (λ b. get_or marks at.archetype false && b) (free_terms last s.row query free) ∙ and-true (get_or marks at.archetype false)

    pub row_found : (row : Row) → get_or marks at.archetype false ≡ true → row ≡ record { entity = at.entity; archetype = at.archetype; place = at.place } → IsRowOf query slots layout i row
    row_found row marked same = subst (IsRowOf query slots layout i) (sym same) (record {
      is = λ last. marked_row last ∙ marked;
      whose = ap₂ (λ k g. let e : Entity = record { index = k; generation = g } in e) is.whose
          (sym (living_generation slots at.entity lives) ∙ ap (λ k. (get_or slots k fresh_slot).generation) is.whose);
      stands = inl is.there;
    })

  -- one that has no components
  module _ (match : matches query (λ k. false) ≡ true) (none : is_there (get_or slots i fresh_slot).row ≡ false) where
    no_row : (get_or slots i fresh_slot).row ≡ []
    no_row = none_there (get_or slots i fresh_slot).row (ap not none)

    bare_row : (last : ℕ) (b : Bool) → is_living (get_or slots i fresh_slot).status ≡ b → is_row_at query last slots i ≡ b
    bare_row last b lives =
        let s = get_or slots i fresh_slot in
        ap₂ (λ a (row : List Component). a && matches query (kinds_of row) && list_all (passes last row) query) lives no_row
        ∙ ap₂ (λ m a. b && m && a) match (all_free last query match) ∙ three b
      where
        three : (c : Bool) → (c && true && true) ≡ c
        three true = refl
        three false = refl

    test_is : (is_living (get_or slots i fresh_slot).status && not (is_there (get_or slots i fresh_slot).row)) ≡ is_living (get_or slots i fresh_slot).status
    test_is = ap (λ b. is_living (get_or slots i fresh_slot).status && not b) none ∙ and-true (is_living (get_or slots i fresh_slot).status)

    pub bare_found : (e : Entity) (count : ℕ) → count ≡ length layout → bare_of i (get_or slots i fresh_slot) ≡ Some e → IsRowOf query slots layout i (record { entity = e; archetype = count; place = i })
    bare_found e count many is =
        let s = get_or slots i fresh_slot in
        let p = cond_some (is_living s.status && not (is_there s.row)) (record { index = i; generation = s.generation }) e is in
        record {
          is = λ last. bare_row last true (sym test_is ∙ p.0);
          whose = sym p.1;
          stands = inr (many, ap (λ (x : Entity). x.index) p.1, ap (λ (x : Entity). is_there (get_or slots x.index fresh_slot).row) (sym p.1) ∙ none);
        }

    pub bare_none : bare_of i (get_or slots i fresh_slot) ≡ None → (last : ℕ) → is_row_at query last slots i ≡ false
    bare_none is last =
        let s = get_or slots i fresh_slot in
        bare_row last false (sym test_is ∙ cond_none (is_living s.status && not (is_there s.row)) (record { index = i; generation = s.generation }) is)

  -- none such is asked for
  pub none_asked : matches query (λ k. false) ≡ false → is_there (get_or slots i fresh_slot).row ≡ false → (last : ℕ) → is_row_at query last slots i ≡ false
  none_asked unlike none last =
      let s = get_or slots i fresh_slot in
      let bare : s.row ≡ [] = none_there s.row (ap not none) in
      ap (λ (row : List Component). is_living s.status && matches query (kinds_of row) && list_all (passes last row) query) bare
      ∙ ap (λ m. is_living s.status && m && list_all (passes last []) query) unlike ∙ ap (λ b. b && list_all (passes last []) query) (and_no (is_living s.status))

-- ---- indices, one by one

module _ (query : List Term) (slots : List Slot) (layout : List Archetype) (i : ℕ) (rows : List Row) (l : i < length slots)
    (so_far : (last : ℕ) → map whose rows ++ chosen (is_row_at query last slots) i (drop i slots) ≡ chosen (is_row_at query last slots) 0 slots) where
  next : (last : ℕ) (b : Bool) → is_row_at query last slots i ≡ b → chosen (is_row_at query last slots) i (drop i slots)
      ≡ cond b (record { index = i; generation = (get_or slots i fresh_slot).generation } ∷ chosen (is_row_at query last slots) (i + 1) (drop (i + 1) slots)) (chosen (is_row_at query last slots) (i + 1) (drop (i + 1) slots))
  next last b is =
      let t = is_row_at query last slots in
      let e : Entity = record { index = i; generation = (get_or slots i fresh_slot).generation } in
      ap (chosen t i) (drop_more slots i fresh_slot l)
      ∙ ap₂ (λ c k. cond c (e ∷ chosen t k (drop (i + 1) slots)) (chosen t k (drop (i + 1) slots))) is (let h : suc i ≡ i + 1 = omega arith in h)

  -- one with a row
  pub index_taken : (row : Row) → IsRowOf query slots layout i row → (last : ℕ) →
      map whose (rows ++ row ∷ []) ++ chosen (is_row_at query last slots) (i + 1) (drop (i + 1) slots) ≡ chosen (is_row_at query last slots) 0 slots
  index_taken row is last =
      let rest = chosen (is_row_at query last slots) (i + 1) (drop (i + 1) slots) in
      ap (λ (es : List Entity). es ++ rest) (map-append whose rows (row ∷ []))
      ∙ append_assoc (map whose rows) (row.entity ∷ []) rest
      ∙ ap (λ e. map whose rows ++ e ∷ rest) is.whose
      ∙ ap (λ es. map whose rows ++ es) (sym (next last true (is.is last))) ∙ so_far last

  -- one without
  pub index_passed : ((last : ℕ) → is_row_at query last slots i ≡ false) → (last : ℕ) → map whose rows ++ chosen (is_row_at query last slots) (i + 1) (drop (i + 1) slots) ≡ chosen (is_row_at query last slots) 0 slots
  index_passed none last = ap (λ es. map whose rows ++ es) (sym (next last false (none last))) ∙ so_far last

-- all indices
pub indices_done : (query : List Term) (slots : List Slot) (i : ℕ) (rows : List Row) → length slots ≤ i →
    ((last : ℕ) → map whose rows ++ chosen (is_row_at query last slots) i (drop i slots) ≡ chosen (is_row_at query last slots) 0 slots) →
    (last : ℕ) → map whose rows ≡ map (λ (row : ShownRow). row.entity) (rows_of query last slots)
indices_done query slots i rows l h last =
    sym (append-nil (map whose rows)) ∙ ap (λ es. map whose rows ++ es) (sym (ap (chosen (is_row_at query last slots) i) (drop_all i slots l))) ∙ h last
    ∙ sym (rows_chosen query last slots 0 slots (from_zero query last slots))
