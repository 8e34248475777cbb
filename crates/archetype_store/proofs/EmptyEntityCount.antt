-- Somebody lives without components just where more live than the archetypes have entities.
use Rattle.archetype_store.proofs.Common.{ℕ, zero, suc, ◌+◌, ◌<◌, ◌≤◌, nat_lt, Bool, true, false, ◌==◌, not, ◌≡◌, ◌≢◌, ◌⊎◌, List, [], ◌∷◌, ◌++◌, length, map, refl, sym, ap, ap₂, ◌∙◌, subst, inl, inr, arith, lt-ltb, length-append, sum_by, slice_get, Some, AllByRecursion, list_any, eq-eqb, and_parts, and_from, false≢true, has, head_or, tail_of, update_at, IsIn, is_there, Entity, Slot, Component, fresh_slot, is_living, row_at, is_alive, freed, get_or-update_at_other, IsIn_from_any, list_any-IsIn, ==-same, is_same, AreApart, slot_at, lives_at, living_count, Archetype, IsArchetype, archetype_at, is_in_archetype, AreOfOtherKinds, IsLayoutOf, lives_empty, entity_count, entities_seen, ArchetypeView, eqb-true}
use Rattle.std.proofs.lemmas.Bool.{le-ltb}
use Rattle.std.proofs.lemmas.List.Sums.{sum_by-cons}
use Rattle.model.proofs.progress.Width.{IsOnce}
use Rattle.model.proofs.lists.Lists.{has-IsIn, IsIn_from_has, IsIn-append, IsIn_left, IsIn_right}
use Rattle.column_store.proofs.Apart.{same_self, same_entity}
use Rattle.entity_table.proofs.Counting.{count-less, count-none, none-count}
use Rattle.entity_table.proofs.Releases.{lives-freed}
use Rattle.archetype_store.proofs.LivingSets.{IsPlaceFor, place-for, any-at, within-end}

-- ---- numbers, each once

-- one number in front of lists, none of which has it, and two lists with none in common
once-append : (ns ms : List ℕ) → IsOnce ns → IsOnce ms → ((k : ℕ) → IsIn k ns → IsIn k ms → ⊥) → IsOnce (ns ++ ms)
once-append [] ms once others apart = others
once-append (n ∷ ns) ms once others apart = (absent (has n (ns ++ ms)) refl, once-append ns ms once.1 others (λ k i j. apart k (inr i) j))
  where
    neither : IsIn n ns ⊎ IsIn n ms → ⊥
    neither (inl i) = false≢true (sym once.0 ∙ has-IsIn n ns i)
    neither (inr j) = apart n (inl refl) j

    absent : (b : Bool) → has n (ns ++ ms) ≡ b → b ≡ false
    absent true e = absurd (neither (IsIn-append n ns ms (IsIn_from_has n (ns ++ ms) e)))
    absent false e = refl

-- a number that isn't 0
above_zero : (n : ℕ) → (n ≡ 0 → ⊥) → 0 < n
above_zero zero h = absurd (h refl)
above_zero (suc n) h = omega arith

-- ---- slots of which some are freed

-- the slots with these indices freed
abbrev freed_all : List ℕ → List Slot → List Slot
freed_all [] slots = slots
freed_all (i ∷ is) slots = freed_all is (update_at i freed slots)

lives-other : (i j : ℕ) (slots : List Slot) → i ≢ j → lives_at (update_at i freed slots) j ≡ lives_at slots j
lives-other i j slots other = ap (λ (s : Slot). is_living s.status) (get_or-update_at_other i j freed slots fresh_slot other)

-- who doesn't live still doesn't
dead-other : (i j : ℕ) (slots : List Slot) → lives_at slots j ≡ false → lives_at (update_at i freed slots) j ≡ false
dead-other i j [] h = h
dead-other zero zero (x ∷ xs) h = lives-freed x
dead-other zero (suc j) (x ∷ xs) h = h
dead-other (suc i) zero (x ∷ xs) h = h
dead-other (suc i) (suc j) (x ∷ xs) h = dead-other i j xs h

-- whose index is freed doesn't live
dead-here : (i : ℕ) (slots : List Slot) → lives_at (update_at i freed slots) i ≡ false
dead-here i [] = refl
dead-here zero (x ∷ xs) = lives-freed x
dead-here (suc i) (x ∷ xs) = dead-here i xs

dead-stays : (is : List ℕ) (slots : List Slot) (j : ℕ) → lives_at slots j ≡ false → lives_at (freed_all is slots) j ≡ false
dead-stays [] slots j h = h
dead-stays (i ∷ is) slots j h = dead-stays is (update_at i freed slots) j (dead-other i j slots h)

dead-freed : (is : List ℕ) (slots : List Slot) (j : ℕ) → IsIn j is → lives_at (freed_all is slots) j ≡ false
dead-freed [] slots j i = absurd i
dead-freed (i ∷ is) slots j (inl e) = dead-stays is (update_at i freed slots) j (subst (λ k. lives_at (update_at i freed slots) k ≡ false) (sym e) (dead-here i slots))
dead-freed (i ∷ is) slots j (inr later) = dead-freed is (update_at i freed slots) j later

-- who isn't among them lives as before
lives-freed_all : (is : List ℕ) (slots : List Slot) (j : ℕ) → (IsIn j is → ⊥) → lives_at (freed_all is slots) j ≡ lives_at slots j
lives-freed_all [] slots j other = refl
lives-freed_all (i ∷ is) slots j other =
    lives-freed_all is (update_at i freed slots) j (λ later. other (inr later)) ∙ lives-other i j slots (λ e. other (inl (sym e)))

-- as many live as are freed and live on
count-freed_all : (is : List ℕ) (slots : List Slot) → IsOnce is → ((j : ℕ) → IsIn j is → lives_at slots j ≡ true) →
    living_count slots ≡ length is + living_count (freed_all is slots)
count-freed_all [] slots once lives = omega arith
count-freed_all (i ∷ is) slots once lives =
    let one : living_count slots ≡ suc (living_count (update_at i freed slots)) = count-less freed i slots (lives i (inl refl)) (lives-freed (slot_at slots i)) in
    let rest : living_count (update_at i freed slots) ≡ length is + living_count (freed_all is (update_at i freed slots)) =
    count-freed_all is (update_at i freed slots) once.1
    (λ j k. lives-other i j slots (λ e. false≢true (sym once.0 ∙ has-IsIn i is (subst (λ m. IsIn m is) (sym e) k))) ∙ lives j (inr k)) in
    omega (arith, one, rest)

-- ---- the indices of entities

abbrev indices_of : List Entity → List ℕ
indices_of es = map (λ (e : Entity). e.index) es

-- an entity of these with the index
record IsOfIndex (es : List Entity) (index : ℕ) : Type 0 where
  entity : Entity
  among : IsIn entity es
  same : entity.index ≡ index

of-index : (es : List Entity) (index : ℕ) → IsIn index (indices_of es) → IsOfIndex es index
of-index [] index i = absurd i
of-index (e ∷ es) index (inl same) = record { entity = e; among = inl refl; same = sym same }
of-index (e ∷ es) index (inr i) = let r = of-index es index i in record { entity = r.entity; among = inr r.among; same = r.same }

index-in : (es : List Entity) (e : Entity) → IsIn e es → IsIn e.index (indices_of es)
index-in [] e i = absurd i
index-in (x ∷ es) e (inl same) = inl (ap (λ (y : Entity). y.index) same)
index-in (x ∷ es) e (inr i) = inr (index-in es e i)

-- ids of which no two are one
abbrev pub AreOthers : List Entity → Type 0
AreOthers [] = Unit {0}
AreOthers (e ∷ es) = ((x : Entity) → IsIn x es → is_same e x ≡ false) × AreOthers es

-- where an entity among these is
found : (es : List Entity) (e : Entity) → IsIn e es → (p : ℕ) × (slice_get es p ≡ Some e)
found [] e i = absurd i
found (x ∷ es) e (inl same) = (zero, ap (λ (y : Entity). Some y) (sym same))
found (x ∷ es) e (inr i) = let (p, at) = found es e i in (suc p, at)

-- ids of which none is there twice are such
apart-others : (es : List Entity) → AreApart es → AreOthers es
apart-others [] apart = tt
apart-others (e ∷ es) apart = (λ x i. other x i (is_same e x) refl, apart-others es (λ p q x f g. let same : suc p ≡ suc q = apart (suc p) (suc q) x f g in omega (arith, same)))
  where
    other : (x : Entity) → IsIn x es → (b : Bool) → is_same e x ≡ b → b ≡ false
    other x i false h = refl
    other x i true h =
        let (p, at) = found es x i in
        let no : 0 ≡ suc p = apart 0 (suc p) x (ap (λ (y : Entity). Some y) (same_entity e x h)) at in
        absurd (omega (arith, no))

-- ---- those who live in archetypes

module _ (slots : List Slot) where
  -- two that live have one generation where they have one index
  same_alive : (d e : Entity) → is_alive slots d ≡ true → is_alive slots e ≡ true → d.index ≡ e.index → is_same d e ≡ true
  same_alive d e p q same =
      let here = slot_at slots d.index in
      let there = slot_at slots e.index in
      let first : here.generation ≡ d.generation = eqb-true here.generation d.generation (and_parts (is_living here.status) (here.generation == d.generation) p).1 in
      let second : there.generation ≡ e.generation = eqb-true there.generation e.generation (and_parts (is_living there.status) (there.generation == e.generation) q).1 in
      and_from (d.index == e.index) (d.generation == e.generation) (eq-eqb d.index e.index same)
      (eq-eqb d.generation e.generation (sym first ∙ ap (λ i. (slot_at slots i).generation) same ∙ second))

  once-of : (es : List Entity) → ((e : Entity) → IsIn e es → is_alive slots e ≡ true) → AreOthers es → IsOnce (indices_of es)
  once-of [] alive others = tt
  once-of (e ∷ es) alive others = (absent (has e.index (indices_of es)) refl, once-of es (λ x i. alive x (inr i)) others.1)
    where
      twice : IsOfIndex es e.index → ⊥
      twice r = false≢true (sym (others.0 r.entity r.among) ∙ same_alive e r.entity (alive e (inl refl)) (alive r.entity (inr r.among)) (sym r.same))

      absent : (b : Bool) → has e.index (indices_of es) ≡ b → b ≡ false
      absent true h = absurd (twice (of-index es e.index (IsIn_from_has e.index (indices_of es) h)))
      absent false h = refl

-- who is listed is in the archetype, and who is in it is listed there by its index
in-archetype : (e : Entity) (a : Archetype) → IsIn e a.entities → is_in_archetype e a ≡ true
in-archetype e a i = list_any-IsIn (λ x. is_same x e) e a.entities i (same_self e)

index-listed : (e : Entity) (a : Archetype) → is_in_archetype e a ≡ true → IsIn e.index (indices_of a.entities)
index-listed e a h =
    let found = IsIn_from_any (λ (x : Entity). is_same x e) a.entities h in
    subst (λ i. IsIn i (indices_of a.entities)) (eqb-true found.0.index e.index (and_parts (found.0.index == e.index) (found.0.generation == e.generation) found.2).0)
    (index-in a.entities found.0 found.1)

-- the indices of all entities of archetypes
abbrev indices_in : List Archetype → List ℕ
indices_in [] = []
indices_in (a ∷ layout) = indices_of a.entities ++ indices_in layout

-- how many entities they have
abbrev pub entities_of : List Archetype → ℕ
entities_of [] = 0
entities_of (a ∷ layout) = length a.entities + entities_of layout

length-indices_of : (es : List Entity) → length (indices_of es) ≡ length es
length-indices_of [] = refl
length-indices_of (e ∷ es) = ap suc (length-indices_of es)

length-indices : (layout : List Archetype) → length (indices_in layout) ≡ entities_of layout
length-indices [] = refl
length-indices (a ∷ layout) =
    length-append (indices_of a.entities) (indices_in layout) ∙ ap₂ (λ n m. n + m) (length-indices_of a.entities) (length-indices layout)

-- an entity of an archetype with the index
record IsLaidAt (layout : List Archetype) (index : ℕ) : Type 0 where
  number : ℕ
  entity : Entity
  is_in : is_in_archetype entity (archetype_at layout number) ≡ true
  same : entity.index ≡ index

laid-at : (layout : List Archetype) (index : ℕ) → IsIn index (indices_in layout) → IsLaidAt layout index
laid-at [] index i = absurd i
laid-at (a ∷ layout) index i = go (IsIn-append index (indices_of a.entities) (indices_in layout) i) (laid-at layout index)
  where
    first : IsOfIndex a.entities index → IsLaidAt (a ∷ layout) index
    first r = record { number = zero; entity = r.entity; is_in = in-archetype r.entity a r.among; same = r.same }

    later : IsLaidAt layout index → IsLaidAt (a ∷ layout) index
    later r = record { number = suc r.number; entity = r.entity; is_in = r.is_in; same = r.same }

    go : IsIn index (indices_of a.entities) ⊎ IsIn index (indices_in layout) → (IsIn index (indices_in layout) → IsLaidAt layout index) → IsLaidAt (a ∷ layout) index
    go (inl j) more = first (of-index a.entities index j)
    go (inr j) more = later (more j)

in-indices : (layout : List Archetype) (n : ℕ) (e : Entity) → is_in_archetype e (archetype_at layout n) ≡ true → IsIn e.index (indices_in layout)
in-indices [] n e h = absurd (false≢true h)
in-indices (a ∷ layout) zero e h = IsIn_left e.index (indices_of a.entities) (indices_in layout) (index-listed e a h)
in-indices (a ∷ layout) (suc n) e h = IsIn_right e.index (indices_of a.entities) (indices_in layout) (in-indices layout n e h)

-- what holds of each archetype holds of one that has an entity
peopled-at : (P : Archetype → Type 0) (layout : List Archetype) (n : ℕ) (e : Entity) → is_in_archetype e (archetype_at layout n) ≡ true → AllByRecursion P layout → P (archetype_at layout n)
peopled-at P [] n e h all = absurd (false≢true h)
peopled-at P (a ∷ layout) zero e h all = all.0
peopled-at P (a ∷ layout) (suc n) e h all = peopled-at P layout n e h all.1

-- each index comes once
once-in : (slots : List Slot) (layout : List Archetype) →
    ((n : ℕ) (e : Entity) → is_in_archetype e (archetype_at layout n) ≡ true → (is_alive slots e ≡ true) × (map (λ c. c.kind) (row_at slots e.index) ≡ (archetype_at layout n).kinds)) →
    AreOfOtherKinds layout → AllByRecursion (λ a. AreOthers a.entities) layout → IsOnce (indices_in layout)
once-in slots [] theirs unlike others = tt
once-in slots (a ∷ layout) theirs unlike others =
    once-append (indices_of a.entities) (indices_in layout)
    (once-of slots a.entities (λ e i. (theirs zero e (in-archetype e a i)).0) others.0)
    (once-in slots layout (λ n e h. theirs (suc n) e h) unlike.1 others.1)
    (λ k i j. apart k (of-index a.entities k i) (laid-at layout k j))
  where
    apart : (k : ℕ) → IsOfIndex a.entities k → IsLaidAt layout k → ⊥
    apart k r q =
        let here = (theirs zero r.entity (in-archetype r.entity a r.among)).1 in
        let there = (theirs (suc q.number) q.entity q.is_in).1 in
        peopled-at (λ b. a.kinds ≢ b.kinds) layout q.number q.entity q.is_in unlike.0
        (sym here ∙ ap (λ i. map (λ (c : Component). c.kind) (row_at slots i)) (r.same ∙ sym q.same) ∙ there)

-- ---- who lives without components

module _ (slots : List Slot) (layout : List Archetype) (laid : IsLayoutOf slots layout) (others : AllByRecursion (λ a. AreOthers a.entities) layout) where
  abbrev indices : List ℕ
  indices = indices_in layout

  -- who has an index of them lives
  theirs_live : (j : ℕ) → IsIn j indices → lives_at slots j ≡ true
  theirs_live j i =
      let r = laid-at layout j i in
      let slot = slot_at slots r.entity.index in
      ap (lives_at slots) (sym r.same) ∙ (and_parts (is_living slot.status) (slot.generation == r.entity.generation) (laid.theirs r.number r.entity r.is_in).0).0

  counted : living_count slots ≡ entities_of layout + living_count (freed_all indices slots)
  counted =
      count-freed_all indices slots (once-in slots layout laid.theirs laid.unlike others) theirs_live
      ∙ ap (λ n. n + living_count (freed_all indices slots)) (length-indices layout)

  -- no more entities are in archetypes than live
  pub laid_living : entities_of layout ≤ living_count slots
  laid_living = let e = counted in omega (arith, e)

  -- who lives and has no index of them has no components
  empty_or_in : (j : ℕ) → lives_at slots j ≡ true → (row : List Component) → row_at slots j ≡ row → is_there row ≡ true → IsIn j indices
  empty_or_in j lives row same there =
      let slot = slot_at slots j in
      let e : Entity = record { index = j; generation = slot.generation } in
      let found = laid.every e (and_from (is_living slot.status) (slot.generation == slot.generation) lives (==-same slot.generation)) (ap is_there same ∙ there) in
      in-indices layout found.0 e found.1

  -- where none lives without components none is left
  none_left : list_any lives_empty slots ≡ false → living_count (freed_all indices slots) ≡ 0
  none_left none = count-none (freed_all indices slots) (λ j. go j (has j indices) refl)
    where
      empty : (j : ℕ) → lives_at slots j ≡ true → (IsIn j indices → ⊥) → (row : List Component) → row_at slots j ≡ row → ⊥
      empty j lives other [] same =
          let passes : lives_empty (slot_at slots j) ≡ true = and_from (is_living (slot_at slots j).status) (not (is_there (slot_at slots j).row)) lives (ap (λ row. not (is_there row)) same) in
          false≢true (sym none ∙ any-at lives_empty slots j (within-end slots j lives) passes)
      empty j lives other (c ∷ cs) same = other (empty_or_in j lives (c ∷ cs) same refl)

      dead : (j : ℕ) → (IsIn j indices → ⊥) → (b : Bool) → lives_at slots j ≡ b → b ≡ false
      dead j other true e = absurd (empty j e other (row_at slots j) refl)
      dead j other false e = refl

      go : (j : ℕ) → (b : Bool) → has j indices ≡ b → lives_at (freed_all indices slots) j ≡ false
      go j true e = dead-freed indices slots j (IsIn_from_has j indices e)
      go j false e =
          let other : IsIn j indices → ⊥ = λ i. false≢true (sym e ∙ has-IsIn j indices i) in
          lives-freed_all indices slots j other ∙ dead j other (lives_at slots j) refl

  -- where some does some is
  some_left : IsPlaceFor lives_empty slots → living_count (freed_all indices slots) ≡ 0 → ⊥
  some_left r none =
      let slot = slot_at slots r.index in
      let parts = and_parts (is_living slot.status) (not (is_there slot.row)) r.passes in
      false≢true (sym (none-count (freed_all indices slots) r.index none) ∙ lives-freed_all indices slots r.index (unlisted slot.row refl parts.1) ∙ parts.0)
    where
      unlisted : (row : List Component) → (slot_at slots r.index).row ≡ row → not (is_there row) ≡ true → IsIn r.index indices → ⊥
      unlisted (c ∷ cs) same h i = false≢true h
      unlisted [] same h i =
          let q = laid-at layout r.index i in
          let kinds = (laid.theirs q.number q.entity q.is_in).1 in
          let archetype = peopled-at IsArchetype layout q.number q.entity q.is_in laid.each in
          archetype.shape.some (sym kinds ∙ ap (λ i. map (λ (c : Component). c.kind) (row_at slots i)) q.same ∙ ap (map (λ (c : Component). c.kind)) same)

  -- somebody lives without components just where more live than the archetypes have
  pub more_live : nat_lt (entities_of layout) (living_count slots) ≡ list_any lives_empty slots
  more_live = go (list_any lives_empty slots) refl
    where
      go : (b : Bool) → list_any lives_empty slots ≡ b → nat_lt (entities_of layout) (living_count slots) ≡ b
      go true e =
          let left = above_zero (living_count (freed_all indices slots)) (some_left (place-for lives_empty slots e)) in
          lt-ltb (entities_of layout) (living_count slots) (omega (arith, counted, left))
      go false e = le-ltb (entities_of layout) (living_count slots) (omega (arith, counted, none_left e))

-- ---- views of archetypes

-- views of the archetypes of a layout have as many entities
pub entities_seen_are : (views : List ArchetypeView) (layout : List Archetype) → map entities_seen views ≡ map (λ a. a.entities) layout → sum_by entity_count views ≡ entities_of layout
entities_seen_are [] [] e = refl
entities_seen_are [] (a ∷ layout) e = absurd (omega (arith, ap length e))
entities_seen_are (view ∷ views) [] e = absurd (omega (arith, ap length e))
entities_seen_are (view ∷ views) (a ∷ layout) e =
    sum_by-cons entity_count view views ∙ ap₂ (λ n m. n + m) (ap length (ap (head_or []) e)) (entities_seen_are views layout (ap tail_of e))

-- no two entities of an archetype are one
pub others_seen : (views : List ArchetypeView) (layout : List Archetype) → map entities_seen views ≡ map (λ a. a.entities) layout →
    AllByRecursion (λ view. AreApart (entities_seen view)) views → AllByRecursion (λ a. AreOthers a.entities) layout
others_seen [] [] e apart = tt
others_seen [] (a ∷ layout) e apart = absurd (omega (arith, ap length e))
others_seen (view ∷ views) [] e apart = absurd (omega (arith, ap length e))
others_seen (view ∷ views) (a ∷ layout) e apart =
    (subst AreOthers (ap (head_or []) e) (apart-others (entities_seen view) apart.0), others_seen views layout (ap tail_of e) apart.1)
