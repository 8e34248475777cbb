-- How a world gets its entities and resources.
use Rattle.std.proofs.Common.{◌≡◌, ℕ, zero, suc, ◌+◌, ◌-◌, ◌^◌, ◌<◌, ◌≤◌, ℤ, Bool, ◌==◌, ◌||◌, cond, List, [], ◌∷◌, ◌++◌, length, get_or, take, drop, map, fold, replicate, refl, ap, ap₂, sym, subst, ◌∙◌, arith, false, Some}
use Rattle.std.specs.Prelude.{Vec}
use Rattle.std.specs.List.{AllByRecursion}
use Rattle.std.specs.declared.alloc.Global.{Global}
use Rattle.std.proofs.lemmas.Bool.{eq-eqb, ne_eqb}
use Rattle.std.proofs.lemmas.List.Sums.{fold-append}
use Rattle.std.proofs.lemmas.List.{take_all, drop_all, append-nil, take_more, length-map, map-append}
use Rattle.model.specs.declared.entities.Entity.{Entity}
use Rattle.model.specs.Lists.{map_index, update_at}
use Rattle.model.specs.state.State.{Slot, World, fresh_slot, Component, is_living, is_granted}
use Rattle.model.specs.state.Ids.{granted_slot, grant, granted_ids, has_ids, with_room}
use Rattle.model.specs.state.Loaded.{Given, slot_given, row_given}
use Rattle.model.specs.state.Rows.{IsRising, insert_component}
use Rattle.model.specs.state.Shape.{IsComponent}
use Rattle.model.proofs.lists.Lists.{map_index-same}
use Rattle.model.proofs.shape.Rows.{each-insert, rising-insert, component-new, component-changed}
use Rattle.entity_table.specs.Ids.{slot_at}
use Rattle.archetype_store.specs.declared.fault.GrantFault.{GrantFault}
use Rattle.archetype_store.specs.declared.fault.GrantFault.TheVariants as granting
use Rattle.program.specs.Fault.{fault_of_grant}
use Rattle.program.specs.Refused.{IsUngiven}
use Rattle.entity_table.proofs.Grants.{first_granted, first_ids, grant-is, granted_ids-is, has_ids-false}
use Rattle.model.specs.state.State.{Resource, no_resource}
use Rattle.model.specs.shown.Overlay.{resource_after}
use Rattle.model.specs.state.Loaded.{resource_given}
use Rattle.archetype_store.specs.Store.{with_slots, with_resource}
use Rattle.archetype_store.specs.Changes.{slot_left, change_at, changed, AreOfOtherIndices, CanChange}
use Rattle.archetype_store.specs.declared.change.EntityChange.{EntityChange}
use Rattle.kinds.proofs.Wide.{value_width}
use Rattle.kinds.specs.Components.{widths}
use Rattle.kinds.specs.declared.value.Value.{Value}
use Rattle.kinds.specs.Value.{value_number, value_words}
use Rattle.program.specs.Load.{given_of, entity_given, with_entities, with_resources, IsGiven, AreGiven}

written-next : {A B : Type 0} (g : A → B) (f : B → B) (i : ℕ) (xs : List A) (ys : List B) (x : A) (y : B) → i < length xs → length ys ≡ length xs
    → f (get_or ys i y) ≡ g (get_or xs i x) → update_at i f (map g (take i xs) ++ drop i ys) ≡ map g (take (suc i) xs) ++ drop (suc i) ys
written-next g f i [] ys x y l e h = absurd (omega arith)
written-next g f i (a ∷ xs) [] x y l e h = absurd (omega arith)
written-next g f zero (a ∷ xs) (b ∷ ys) x y l e h = ap (λ c. c ∷ ys) h
written-next g f (suc i) (a ∷ xs) (b ∷ ys) x y l e h = ap (λ bs. g a ∷ bs) (written-next g f i xs ys x y (omega arith) (omega arith) h)

-- one more element is written
pub written-more : {A B : Type 0} (g : A → B) (f : B → B) (i : ℕ) (xs : List A) (ys : List B) (x : A) (y : B) → i < length xs → length ys ≡ length xs
    → f (get_or ys i y) ≡ g (get_or xs i x) → update_at i f (map g (take i xs) ++ drop i ys) ≡ map g (take (i + 1) xs) ++ drop (i + 1) ys
written-more g f i xs ys x y l e h = written-next g f i xs ys x y l e h ∙ ap (λ k. map g (take k xs) ++ drop k ys) (let e : suc i ≡ i + 1 = omega arith in e)

-- ---- the ids of a world without entities

first_granted-fresh : (n : ℕ) → first_granted n (replicate n fresh_slot) ≡ replicate n (granted_slot fresh_slot)
first_granted-fresh zero = refl
first_granted-fresh (suc n) = ap (λ slots. granted_slot fresh_slot ∷ slots) (first_granted-fresh n)

length-first_ids-fresh : (b n : ℕ) → length (first_ids b n (replicate n fresh_slot)) ≡ n
length-first_ids-fresh b zero = refl
length-first_ids-fresh b (suc n) = ap suc (length-first_ids-fresh (suc b) n)

room-empty : (n : ℕ) → with_room n [] ≡ replicate n fresh_slot
unfolding with_room
room-empty n = ap (λ k. replicate k fresh_slot) (let e : n - 0 ≡ n = omega arith in e)

-- the slots that it has after a grant
pub grant-empty : (n : ℕ) → grant n [] ≡ replicate n (granted_slot fresh_slot)
grant-empty n = grant-is n [] ∙ ap (first_granted n) (room-empty n) ∙ first_granted-fresh n

-- so many ids are granted
pub length-granted_ids-empty : (n : ℕ) → length (granted_ids n []) ≡ n
length-granted_ids-empty n = ap length (granted_ids-is n [] ∙ ap (first_ids 0 n) (room-empty n)) ∙ length-first_ids-fresh 0 n

-- there are none for more entities than there are indices
pub too-many : (n : ℕ) → 2 ^ 32 ≤ n → has_ids n [] ≡ false
too-many n many = has_ids-false n [] (let e : n - 0 ≡ n = omega arith in omega arith)

-- what is told where ids are not granted
pub ungiven : (n : ℕ) (error : GrantFault) → (error ≡ granting.IdsSpent → has_ids n [] ≡ false) → IsUngiven n (fault_of_grant error)
ungiven n granting.IdsSpent spent = spent refl
ungiven n granting.Memory spent = tt

-- ---- the components of one entity

row-more : (given : List Given) (g : Given) → row_given (given ++ g ∷ []) ≡ insert_component 1 g.kind g.words (row_given given)
row-more given g = fold-append (λ row g. insert_component 1 g.kind g.words row) [] given (g ∷ [])

given-so-far : (k : ℕ) (components : List Value) (value : Value) → k < length components → value ≡ get_or components k value
    → map given_of (take (k + 1) components) ≡ map given_of (take k components) ++ given_of value ∷ []
given-so-far k components value l e = ap (map given_of) (take_more components k value l ∙ ap (λ v. take k components ++ v ∷ []) (sym e)) ∙ map-append given_of (take k components) (value ∷ [])

-- one more component
pub row-next : (k : ℕ) (components : List Value) (value : Value) (row more : List Component) → k < length components → value ≡ get_or components k value → row ≡ row_given (map given_of (take k components))
    → more ≡ insert_component 1 (value_number value) (value_words value) row → more ≡ row_given (map given_of (take (k + 1) components))
row-next k components value row more l e so_far put =
    put ∙ ap (insert_component 1 (value_number value) (value_words value)) so_far
    ∙ sym (ap row_given (given-so-far k components value l e) ∙ row-more (map given_of (take k components)) (given_of value))

-- its components are of a world at any clock
module _ (clock : ℕ) (started : 1 ≤ clock) where
  rising-given : (given : List Given) (row : List Component) → IsRising row → IsRising (fold (λ row g. insert_component 1 g.kind g.words row) row given)
  rising-given [] row h = h
  rising-given (g ∷ gs) row h = rising-given gs (insert_component 1 g.kind g.words row) (rising-insert 1 g.kind g.words row h)

  components-given : (given : List Given) (row : List Component) → AllByRecursion (λ g. length g.words ≡ widths g.kind) given
      → AllByRecursion (IsComponent widths clock) row → AllByRecursion (IsComponent widths clock) (fold (λ row g. insert_component 1 g.kind g.words row) row given)
  components-given [] row w h = h
  components-given (g ∷ gs) row w h = components-given gs (insert_component 1 g.kind g.words row) w.1
      (each-insert (IsComponent widths clock) 1 g.kind g.words row (component-new widths clock 1 g.kind g.words started w.0) (component-changed widths clock 1 g.kind g.words started w.0) h)

-- ---- what becomes of the ids

-- one more id
pub given-more : (es : List Entity) (gs : List (List Given)) (cs : List EntityChange) (e : Entity) (g : List Given) (c : EntityChange) → AreGiven es gs cs → IsGiven e g c
    → AreGiven (es ++ e ∷ []) (gs ++ g ∷ []) (cs ++ c ∷ [])
given-more [] [] [] e g c h last = (last, tt)
given-more [] [] (d ∷ ds) e g c h last = absurd h
given-more [] (k ∷ ks) cs e g c h last = absurd h
given-more (f ∷ fs) [] cs e g c h last = absurd h
given-more (f ∷ fs) (k ∷ ks) [] e g c h last = absurd h
given-more (f ∷ fs) (k ∷ ks) (d ∷ ds) e g c h last = (h.0, given-more fs ks ds e g c h.1 last)

pub given-next : (i : ℕ) (ids : List Entity) (entities : List (Vec Value Global)) (changes more : List EntityChange) (e : Entity) (row : Vec Value Global) (c : EntityChange) → i < length entities → length ids ≡ length entities
    → e ≡ get_or ids i e → row ≡ get_or entities i row → AreGiven (take i ids) (map entity_given (take i entities)) changes → IsGiven e (entity_given row) c → more ≡ changes ++ c ∷ []
    → AreGiven (take (i + 1) ids) (map entity_given (take (i + 1) entities)) more
given-next i ids entities changes more e row c l many id at so_far is pushed =
    subst (λ es. AreGiven es (map entity_given (take (i + 1) entities)) more) (ap (λ x. take i ids ++ x ∷ []) id ∙ sym (take_more ids i e (omega arith)))
    (subst (λ gs. AreGiven (take i ids ++ e ∷ []) gs more) (sym (ap (map entity_given) (take_more entities i row l ∙ ap (λ x. take i entities ++ x ∷ []) (sym at)) ∙ map-append entity_given (take i entities) (row ∷ [])))
    (subst (AreGiven (take i ids ++ e ∷ []) (map entity_given (take i entities) ++ entity_given row ∷ [])) (sym pushed)
    (given-more (take i ids) (map entity_given (take i entities)) changes e (entity_given row) c so_far is)))

pub given-all : (i : ℕ) (ids : List Entity) (entities : List (Vec Value Global)) (changes : List EntityChange) → length entities ≤ i → length ids ≡ length entities
    → AreGiven (take i ids) (map entity_given (take i entities)) changes → AreGiven ids (map entity_given entities) changes
given-all i ids entities changes l many h =
    subst (λ es. AreGiven es (map entity_given entities) changes) (take_all i ids (omega arith)) (subst (λ (xs : List (Vec Value Global)). AreGiven (take i ids) (map entity_given xs) changes) (take_all i entities l) h)

-- so many ids of a world that had none, from one on
abbrev ids_from : ℕ → ℕ → List Entity
ids_from b n = first_ids b n (replicate n fresh_slot)

later : (b k : ℕ) (gs : List (List Given)) (cs : List EntityChange) → k < b → AreGiven (ids_from b (length gs)) gs cs → AllByRecursion (λ (d : EntityChange). (d.entity.index == k) ≡ false) cs
later b k [] [] l h = tt
later b k [] (c ∷ cs) l h = absurd h
later b k (g ∷ gs) [] l h = absurd h
later b k (g ∷ gs) (c ∷ cs) l h = (ne_eqb c.entity.index k (λ e. (let i : c.entity.index ≡ b = ap (λ (x : Entity). x.index) h.0.entity in omega arith)), later (suc b) k gs cs (omega arith) h.1)

apart : (b : ℕ) (gs : List (List Given)) (cs : List EntityChange) → AreGiven (ids_from b (length gs)) gs cs → AreOfOtherIndices cs
apart b [] [] h = tt
apart b [] (c ∷ cs) h = absurd h
apart b (g ∷ gs) [] h = absurd h
apart b (g ∷ gs) (c ∷ cs) h =
    (subst (λ k. AllByRecursion (λ (d : EntityChange). (d.entity.index == k) ≡ false) cs) (sym (ap (λ (x : Entity). x.index) h.0.entity)) (later (suc b) b gs cs (omega arith) h.1), apart (suc b) gs cs h.1)

get_or-replicate : {A : Type 0} (n i : ℕ) (x d : A) → i < n → get_or (replicate n x) i d ≡ x
get_or-replicate zero i x d l = absurd (omega arith)
get_or-replicate (suc n) zero x d l = refl
get_or-replicate (suc n) (suc i) x d l = get_or-replicate n i x d (omega arith)

module _ (w : World) (n : ℕ) (granted : w.slots ≡ replicate n (granted_slot fresh_slot)) (started : 1 ≤ w.clock) where
  can : (b : ℕ) (gs : List (List Given)) (cs : List EntityChange) → AllByRecursion (AllByRecursion (λ g. length g.words ≡ widths g.kind)) gs → b + length gs ≤ n → AreGiven (ids_from b (length gs)) gs cs
      → AllByRecursion (CanChange w) cs
  can b [] [] fit l h = tt
  can b [] (c ∷ cs) fit l h = absurd h
  can b (g ∷ gs) [] fit l h = absurd h
  can b (g ∷ gs) (c ∷ cs) fit l h =
      let index : c.entity.index ≡ b = ap (λ (x : Entity). x.index) h.0.entity in
      let here : slot_at w.slots c.entity.index ≡ granted_slot fresh_slot = ap (λ slots. slot_at slots c.entity.index) granted ∙ get_or-replicate n c.entity.index (granted_slot fresh_slot) fresh_slot (omega arith) in (
        record {
          held = ap (λ (s : Slot). is_living s.status || is_granted s.status) here;
          generation = ap (λ (s : Slot). s.generation) here ∙ sym (ap (λ (x : Entity). x.generation) h.0.entity);
          rising = subst IsRising (sym h.0.row) (rising-given w.clock started g [] tt);
          components = subst (AllByRecursion (IsComponent widths w.clock)) (sym h.0.row) (components-given w.clock started g [] fit.0 tt);
        },
        can (suc b) gs cs fit.1 (omega arith) h.1,
      )

-- what the changes make of the slots
slots-given : (b : ℕ) (gs : List (List Given)) (cs : List EntityChange) (f : ℕ → Slot → Slot) → AreGiven (ids_from b (length gs)) gs cs → ((j : ℕ) (s : Slot) → b ≤ j → f j s ≡ change_at cs j s)
    → map_index (λ j. f (b + j)) (replicate (length gs) (granted_slot fresh_slot)) ≡ map slot_given gs
slots-given b [] cs f h is = refl
slots-given b (g ∷ gs) [] f h is = absurd h
slots-given b (g ∷ gs) (c ∷ cs) f h is =
    let index : c.entity.index ≡ b = ap (λ (x : Entity). x.index) h.0.entity in
    let fresh : Slot = granted_slot fresh_slot in
    let first : f (b + 0) fresh ≡ slot_given g = ap (λ k. f k fresh) (let e : b + 0 ≡ b = omega arith in e) ∙ is b fresh (omega arith)
    ∙ ap (λ (t : Bool). cond t (slot_left c.fate fresh) (change_at cs b fresh)) (eq-eqb b c.entity.index (sym index)) ∙ h.0.left fresh in
    let passed : (j : ℕ) (s : Slot) → suc b ≤ j → f j s ≡ change_at cs j s
    = λ j s l. is j s (omega arith) ∙ ap (λ (t : Bool). cond t (slot_left c.fate s) (change_at cs j s)) (ne_eqb j c.entity.index (λ e. omega arith)) in
    ap₂ ◌∷◌ first (map_index-same (λ j. f (b + suc j)) (λ j. f (suc b + j)) fresh (replicate (length gs) fresh) (λ i. ap (λ k. f k (get_or (replicate (length gs) fresh) i fresh)) (let e : b + suc i ≡ suc b + i = omega arith in e))
    ∙ slots-given (suc b) gs cs f h.1 passed)

-- ---- the entities

entities-fit : (entities : List (Vec Value Global)) → AllByRecursion (AllByRecursion (λ g. length g.words ≡ widths g.kind)) (map entity_given entities)
entities-fit [] = tt
entities-fit (e ∷ es) = (values-fit e.items, entities-fit es)
  where
    values-fit : (values : List Value) → AllByRecursion (λ (g : Given). length g.words ≡ widths g.kind) (map given_of values)
    values-fit [] = tt
    values-fit (v ∷ vs) = (value_width v, values-fit vs)

-- as many ids as are asked for
pub length-ids : (n : ℕ) (slots : List Slot) (ids : List Entity) → slots ≡ [] → ids ≡ granted_ids n slots → length ids ≡ n
length-ids n slots ids empty is = ap length (is ∙ ap (granted_ids n) empty) ∙ length-granted_ids-empty n

module _ (entities : List (Vec Value Global)) (n : ℕ) (w0 w1 : World) (ids : List Entity) (cs : List EntityChange) (empty : w0.slots ≡ []) (count : n ≡ length entities)
    (given_ids : ids ≡ granted_ids n w0.slots) (given : AreGiven ids (map entity_given entities) cs) (granted : w1 ≡ with_slots (grant n) w0) where
  all : List (List Given)
  all = map entity_given entities

  many : n ≡ length (map entity_given entities)
  many = count ∙ sym (length-map entities entity_given)

  theirs : AreGiven (ids_from 0 (length (map entity_given entities))) (map entity_given entities) cs
  theirs = subst (λ es. AreGiven es (map entity_given entities) cs) (given_ids ∙ ap (granted_ids n) empty ∙ granted_ids-is n [] ∙ ap (first_ids 0 n) (room-empty n) ∙ ap (ids_from 0) many) given

  slots-granted : w1.slots ≡ replicate n (granted_slot fresh_slot)
  slots-granted = ap (λ (w : World). w.slots) granted ∙ ap (grant n) empty ∙ grant-empty n

  pub entities-apart : AreOfOtherIndices cs
  entities-apart = apart 0 (map entity_given entities) cs theirs

  pub entities-can : 1 ≤ w0.clock → AllByRecursion (CanChange w1) cs
  entities-can started = can w1 n slots-granted (subst (λ k. 1 ≤ k) (sym (ap (λ (w : World). w.clock) granted)) started) 0 (map entity_given entities) cs (entities-fit entities) (let m = many in omega arith) theirs

  -- the world with all of them
  pub entities-given : with_slots (changed cs) w1 ≡ with_entities (map entity_given entities) w0
  entities-given =
      ap (with_slots (changed cs)) granted
      ∙ ap (λ slots. (let w : World = record { slots = slots; resources = w0.resources; clock = w0.clock } in w))
      (ap (changed cs) (ap (grant n) empty ∙ grant-empty n ∙ ap (λ k. replicate k (granted_slot fresh_slot)) many)
      ∙ map_index-same (change_at cs) (λ j. change_at cs (0 + j)) fresh_slot (replicate (length (map entity_given entities)) (granted_slot fresh_slot)) (λ i. ap (λ k. change_at cs k (get_or (replicate (length (map entity_given entities)) (granted_slot fresh_slot)) i fresh_slot)) (let e : i ≡ 0 + i = omega arith in e))
      ∙ slots-given 0 (map entity_given entities) cs (change_at cs) theirs (λ j s l. refl))

-- ---- the resources

-- one more resource
pub resources-more : (i k : ℕ) (values : List ℤ) (resources : List Resource) (value d : ℤ) (w0 w1 w2 : World) → i < length values → length resources ≡ length values → k ≡ i
    → value ≡ get_or values i d
    → w1 ≡ record { slots = w0.slots; resources = map resource_given (take i values) ++ drop i resources; clock = w0.clock }
    → w2 ≡ with_resource k value 1 w1
    → w2 ≡ record { slots = w0.slots; resources = map resource_given (take (i + 1) values) ++ drop (i + 1) resources; clock = w0.clock }
resources-more i k values resources value d w0 w1 w2 l e same is first second =
    second ∙ ap (λ n. with_resource n value 1 w1) same ∙ ap (with_resource i value 1) first
    ∙ ap (λ rs. (let w : World = record { slots = w0.slots; resources = rs; clock = w0.clock } in w))
    (written-more resource_given (resource_after 1 (Some value)) i values resources d no_resource l e (ap resource_given is))

-- the world after the last resource
pub resources-all : (k : ℕ) (values : List ℤ) (resources : List Resource) (w0 w1 : World) → length values ≤ k → length resources ≡ length values
    → w1 ≡ record { slots = w0.slots; resources = map resource_given (take k values) ++ drop k resources; clock = w0.clock } → w1 ≡ with_resources values w0
resources-all k values resources w0 w1 l e is = is ∙ ap (λ rs. (let w : World = record { slots = w0.slots; resources = rs; clock = w0.clock } in w))
    (ap (λ front. map resource_given front ++ drop k resources) (take_all k values l)
    ∙ ap (λ back. map resource_given values ++ back) (drop_all k resources (omega arith)) ∙ append-nil (map resource_given values))
