-- Archetypes that a query may match: those that it doesn't match have no rows and no picks.
use Rattle.std.proofs.Common.{◌≡◌, ℕ, zero, suc, ◌+◌, ◌<◌, ◌≤◌, Bool, true, false, cond, ◌==◌, ◌&&◌, ◌||◌, ◌⊎◌, inl, inr, List, [], ◌∷◌, ◌++◌, length, get_or, map, take, drop, ◌-◌, refl, sym, ap, ap₂, subst, ◌∙◌, append_assoc, append-nil, arith}
use Rattle.std.specs.List.{AllByRecursion, list_any, list_all}
use Rattle.std.proofs.lemmas.Bool.{and_parts, or_cases, eqb-true}
use Rattle.std.proofs.lemmas.List.{length-append, length-map, get_or-map, drop_more, drop_all, take_all}
use Rattle.std.proofs.Math.Seq.{get_or-append_seam}
use Rattle.model.specs.declared.entities.Entity.{Entity}
use Rattle.model.specs.Lists.{has}
use Rattle.model.specs.state.State.{Slot, fresh_slot, is_living}
use Rattle.model.specs.state.Rows.{row_at, kinds_of}
use Rattle.model.specs.access.Query.{Term, matches}
use Rattle.model.specs.shown.Input.{passes}
use Rattle.archetype_store.specs.Layout.{Archetype, archetype_at, has_index, IsLayoutOf}
use Rattle.query_plan.specs.Picks.{Picked, picked_in, picked_of, picked_from, picks_of}
use Rattle.query_plan.specs.Standing.{is_row_at, is_row_among, chosen, archetypes_between}
use Rattle.query_plan.specs.Candidates.{numbers_where, picked_at, AreCandidates}
use Rattle.query_plan.proofs.Chosen.{chosen_same}
use Rattle.query_plan.proofs.Walks.{all_matched}
use Rattle.model.proofs.lists.Bools.{false_is}

-- ---- numbers of archetypes

-- the archetypes whose kinds pass a test
abbrev pub passing : (List ℕ → Bool) → List Archetype → List Archetype
passing test [] = []
passing test (a ∷ others) = cond (test a.kinds) (a ∷ passing test others) (passing test others)

module _ (test : List ℕ → Bool) where
  seam : (before : List Archetype) (a : Archetype) (others : List Archetype) → (before ++ a ∷ []) ++ others ≡ before ++ a ∷ others
  seam before a others = append_assoc before (a ∷ []) others

  longer : (before : List Archetype) (a : Archetype) → length (before ++ a ∷ []) ≡ suc (length before)
  longer before a = length-append before (a ∷ []) ∙ omega arith

  at_seam : (before : List Archetype) (a : Archetype) (others : List Archetype) → archetype_at (before ++ a ∷ others) (length before) ≡ a
  at_seam before a others = get_or-append_seam before a others (record { kinds = []; entities = []; homes = [] })

  found_from : (before layout : List Archetype) → map (archetype_at (before ++ layout)) (numbers_where test (length before) layout) ≡ passing test layout
  found_from before [] = refl
  found_from before (a ∷ others) =
      go (test a.kinds) (ap₂ (λ (ls : List Archetype) n. map (archetype_at ls) (numbers_where test n others)) (sym (seam before a others)) (sym (longer before a)) ∙ found_from (before ++ a ∷ []) others)
    where
      go : (b : Bool) → map (archetype_at (before ++ a ∷ others)) (numbers_where test (suc (length before)) others) ≡ passing test others →
          map (archetype_at (before ++ a ∷ others)) (cond b (length before ∷ numbers_where test (suc (length before)) others) (numbers_where test (suc (length before)) others))
          ≡ cond b (a ∷ passing test others) (passing test others)
      go true h = ap₂ ◌∷◌ (at_seam before a others) h
      go false h = h

  pub found : (layout : List Archetype) → map (archetype_at layout) (numbers_where test 0 layout) ≡ passing test layout
  found layout = found_from [] layout

  known_from : (n : ℕ) (layout : List Archetype) → AllByRecursion (λ m. m < n + length layout) (numbers_where test n layout)
  known_from n [] = tt
  known_from n (a ∷ others) = go (test a.kinds) (subst (λ k. AllByRecursion (λ m. m < k) (numbers_where test (suc n) others)) (let e : suc n + length others ≡ n + suc (length others) = omega arith in e) (known_from (suc n) others))
    where
      go : (b : Bool) → AllByRecursion (λ m. m < n + suc (length others)) (numbers_where test (suc n) others) →
          AllByRecursion (λ m. m < n + suc (length others)) (cond b (n ∷ numbers_where test (suc n) others) (numbers_where test (suc n) others))
      go true h = (omega arith, h)
      go false h = h

  pub known : (layout : List Archetype) → AllByRecursion (λ m. m < length layout) (numbers_where test 0 layout)
  known layout = subst (λ k. AllByRecursion (λ m. m < k) (numbers_where test 0 layout)) (let e : 0 + length layout ≡ length layout = omega arith in e) (known_from 0 layout)

  -- ---- a test that all pass that pass another

  any_passing : (p : Archetype → Bool) (layout : List Archetype) → ((n : ℕ) → n < length layout → p (archetype_at layout n) ≡ true → test (archetype_at layout n).kinds ≡ true) →
      list_any p (passing test layout) ≡ list_any p layout
  any_passing p [] h = refl
  any_passing p (a ∷ others) h = go (test a.kinds) refl (any_passing p others (λ n l is. h (suc n) (omega arith) is))
    where
      none : (b : Bool) → p a ≡ b → test a.kinds ≡ false → list_any p others ≡ (b || list_any p others)
      none true is fails = false_is (test a.kinds) fails (h zero (omega arith) is)
      none false is fails = refl

      go : (b : Bool) → test a.kinds ≡ b → list_any p (passing test others) ≡ list_any p others → list_any p (cond b (a ∷ passing test others) (passing test others)) ≡ (p a || list_any p others)
      go true e ih = ap (λ c. p a || c) ih
      go false e ih = ih ∙ none (p a) refl e ∙ refl

  -- ---- picks

  module _ (query : List Term) (passed : (kinds : List ℕ) → matches query (λ kind. has kind kinds) ≡ true → test kinds ≡ true) where
    no_picks : (n : ℕ) (kinds : List ℕ) → test kinds ≡ false → [] ≡ picked_of query n kinds
    no_picks n kinds fails = go (matches query (λ kind. has kind kinds)) refl
      where
        go : (b : Bool) → matches query (λ kind. has kind kinds) ≡ b → [] ≡ cond b (picked_in query n kinds) []
        go true is = false_is (test kinds) fails (passed kinds is)
        go false is = refl

    picks_from : (before layout : List Archetype) → picked_at query (before ++ layout) (numbers_where test (length before) layout) ≡ picked_from query (length before) (map (λ a. a.kinds) layout)
    picks_from before [] = refl
    picks_from before (a ∷ others) =
        go (test a.kinds) refl (ap₂ (λ (ls : List Archetype) n. picked_at query ls (numbers_where test n others)) (sym (seam before a others)) (sym (longer before a))
        ∙ picks_from (before ++ a ∷ []) others ∙ ap (λ n. picked_from query n (map (λ (b : Archetype). b.kinds) others)) (longer before a))
      where
        go : (b : Bool) → test a.kinds ≡ b → picked_at query (before ++ a ∷ others) (numbers_where test (suc (length before)) others) ≡ picked_from query (suc (length before)) (map (λ (c : Archetype). c.kinds) others) →
            picked_at query (before ++ a ∷ others) (cond b (length before ∷ numbers_where test (suc (length before)) others) (numbers_where test (suc (length before)) others))
            ≡ picked_of query (length before) a.kinds ++ picked_from query (suc (length before)) (map (λ (c : Archetype). c.kinds) others)
        go true is ih = ap₂ (λ (c : Archetype) (ps : List Picked). picked_of query (length before) c.kinds ++ ps) (at_seam before a others) ih
        go false is ih = ih ∙ ap (λ (ps : List Picked). ps ++ picked_from query (suc (length before)) (map (λ (c : Archetype). c.kinds) others)) (no_picks (length before) a.kinds is)

pub candidates_known : (query : List Term) (layout : List Archetype) (ns : List ℕ) → AreCandidates query layout ns → AllByRecursion (λ n. n < length layout) ns
candidates_known query layout ns c = subst (AllByRecursion (λ n. n < length layout)) (sym c.theirs) (known c.test layout)

pub candidates_picked : (query : List Term) (layout : List Archetype) (ns : List ℕ) → AreCandidates query layout ns → picked_at query layout ns ≡ picks_of query layout
candidates_picked query layout ns c = ap (picked_at query layout) c.theirs ∙ picks_from c.test query c.passed [] layout

-- ---- rows

-- what holds of the indices of all holds of each that is there
of_index : (P : ℕ → Type 0) (k : ℕ) (es : List Entity) → AllByRecursion (λ e. P e.index) es → has_index k es ≡ true → P k
of_index P k [] h there = absurd (cc)
of_index P k (e ∷ es) h there = go (or_cases (e.index == k) (has_index k es) there) (of_index P k es h.1)
  where
    go : ((e.index == k) ≡ true) ⊎ (has_index k es ≡ true) → (has_index k es ≡ true → P k) → P k
    go (inl same) rest = subst P (eqb-true e.index k same) h.0
    go (inr later) rest = rest later

pub candidates_among : (query : List Term) (last : ℕ) (slots : List Slot) (layout : List Archetype) (ns : List ℕ) → IsLayoutOf slots layout → AreCandidates query layout ns →
    (k : ℕ) → is_row_among query last slots (map (archetype_at layout) ns) k ≡ is_row_among query last slots layout k
candidates_among query last slots layout ns laid c k =
    let p = λ (a : Archetype). has_index k a.entities && is_row_at query last slots k in
    ap (λ ms. list_any p (map (archetype_at layout) ms)) c.theirs ∙ ap (list_any p) (found c.test layout)
    ∙ any_passing c.test p layout
    (λ n l is.
    let a = archetype_at layout n in
    let both = and_parts (has_index k a.entities) (is_row_at query last slots k) is in
    let s = get_or slots k fresh_slot in
    let row = and_parts (is_living s.status && matches query (kinds_of s.row)) (list_all (passes last s.row) query) both.1 in
    let match = (and_parts (is_living s.status) (matches query (kinds_of s.row)) row.0).1 in
    let same = of_index (λ i. matches query (kinds_of (row_at slots i)) ≡ matches query (λ kind. has kind a.kinds)) k a.entities (all_matched query last slots layout laid n) both.0 in
    c.passed a.kinds (sym same ∙ match))

-- so what is chosen of these is what is chosen of all
pub candidates_chosen : (query : List Term) (last : ℕ) (slots : List Slot) (layout : List Archetype) (ns : List ℕ) (end : ℕ) → end ≡ length ns → IsLayoutOf slots layout → AreCandidates query layout ns →
    chosen (is_row_among query last slots (archetypes_between 0 end (map (archetype_at layout) ns))) 0 slots ≡ chosen (is_row_among query last slots layout) 0 slots
candidates_chosen query last slots layout ns end many laid c =
    let L = map (archetype_at layout) ns in
    let whole : archetypes_between 0 end L ≡ L = take_all (end - 0) L (let e = length-map ns (archetype_at layout) in omega arith) in
    ap (λ among. chosen (is_row_among query last slots among) 0 slots) whole
    ∙ chosen_same (is_row_among query last slots L) (is_row_among query last slots layout) 0 slots (λ k _. candidates_among query last slots layout ns laid c k)

-- a single one of these
pub single_between : (layout : List Archetype) (ns : List ℕ) (first end n d : ℕ) → end - first ≡ 1 → first < length ns → n ≡ get_or ns first d →
    archetype_at layout n ∷ [] ≡ archetypes_between first end (map (archetype_at layout) ns)
single_between layout ns first end n d one l is =
    let L = map (archetype_at layout) ns in
    let none : Archetype = record { kinds = []; entities = []; homes = [] } in
    let there : archetype_at layout n ≡ get_or L first none = ap (archetype_at layout) is ∙ sym (get_or-map (archetype_at layout) ns first d none l) in
    ap (λ a. a ∷ []) there ∙ sym (ap₂ take one (drop_more L first none (let e = length-map ns (archetype_at layout) in omega arith)))

-- ---- picks, archetype by archetype

pub one_picked : (query : List Term) (layout : List Archetype) (ns : List ℕ) (i n d : ℕ) (kinds : List ℕ) (before next : List Picked) → i < length ns → n ≡ get_or ns i d → kinds ≡ (archetype_at layout n).kinds →
    before ++ picked_at query layout (drop i ns) ≡ picked_at query layout ns → next ≡ before ++ picked_of query n kinds → next ++ picked_at query layout (drop (i + 1) ns) ≡ picked_at query layout ns
one_picked query layout ns i n d kinds before next l is theirs h pushed =
    ap (λ (ps : List Picked). ps ++ picked_at query layout (drop (i + 1) ns)) (pushed ∙ ap (λ ks. before ++ picked_of query n ks) theirs)
    ∙ append_assoc before (picked_of query n (archetype_at layout n).kinds) (picked_at query layout (drop (i + 1) ns))
    ∙ ap (λ (ps : List Picked). before ++ ps) (sym (ap (picked_at query layout) (drop_more ns i d l ∙ ap (λ m. m ∷ drop (i + 1) ns) (sym is))))
    ∙ h

pub all_picked : (query : List Term) (layout : List Archetype) (ns : List ℕ) (i : ℕ) (before : List Picked) → length ns ≤ i → before ++ picked_at query layout (drop i ns) ≡ picked_at query layout ns → before ≡ picked_at query layout ns
all_picked query layout ns i before l h = sym (append-nil before) ∙ ap (λ ms. before ++ picked_at query layout ms) (sym (drop_all i ns l)) ∙ h

-- ---- all archetypes

pub all_are_candidates : (query : List Term) (layout : List Archetype) (ns : List ℕ) → ns ≡ numbers_where (λ kinds. true) 0 layout → AreCandidates query layout ns
all_are_candidates query layout ns is = record { test = λ kinds. true; theirs = is; passed = λ kinds h. refl }

-- one archetype more
pub all_more : (layout : List Archetype) (i : ℕ) (before next : List ℕ) → i < length layout → next ≡ before ++ i ∷ [] →
    before ++ numbers_where (λ kinds. true) i (drop i layout) ≡ numbers_where (λ kinds. true) 0 layout → next ++ numbers_where (λ kinds. true) (i + 1) (drop (i + 1) layout) ≡ numbers_where (λ kinds. true) 0 layout
all_more layout i before next l pushed h =
    let none : Archetype = record { kinds = []; entities = []; homes = [] } in
    ap₂ (λ (ms : List ℕ) n. ms ++ numbers_where (λ kinds. true) n (drop (i + 1) layout)) pushed (let e : i + 1 ≡ suc i = omega arith in e)
    ∙ append_assoc before (i ∷ []) (numbers_where (λ kinds. true) (suc i) (drop (i + 1) layout))
    ∙ ap (λ ls. before ++ numbers_where (λ kinds. true) i ls) (sym (drop_more layout i none l)) ∙ h

pub all_done : (layout : List Archetype) (i : ℕ) (before : List ℕ) → length layout ≤ i → before ++ numbers_where (λ kinds. true) i (drop i layout) ≡ numbers_where (λ kinds. true) 0 layout →
    before ≡ numbers_where (λ kinds. true) 0 layout
all_done layout i before l h = sym (append-nil before) ∙ ap (λ ls. before ++ numbers_where (λ kinds. true) i ls) (sym (drop_all i layout l)) ∙ h
