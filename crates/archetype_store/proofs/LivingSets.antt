-- The numbers of the kinds of the archetypes, and where an entity lives without components that of the empty set, are those of the living.
use Rattle.archetype_store.proofs.Common.{ℕ, zero, suc, ◌^◌, ◌<◌, Bool, true, false, not, ◌==◌, ◌≡◌, ◌⊎◌, List, [], ◌∷◌, length, get_or, map, refl, sym, ap, ◌∙◌, subst, inl, inr, arith, bit_or, AllByRecursion, list_any, and_parts, and_from, false≢true, IsIn, is_there, Entity, Slot, Component, fresh_slot, is_living, row_at, is_alive, with_number, kind_sets_of, list_any-IsIn, IsIn_from_any, ==-same, is_same, Archetype, archetype_at, is_in_archetype, IsArchetype, IsLayoutOf, set_number, numbers_with, first_numbers, lives_empty}
use Rattle.model.specs.state.KindSets.{kinds_number}
use Rattle.std.proofs.lemmas.Bool.{or_cases}
use Rattle.model.specs.declarations.Hierarchy.{IsRising}
use Rattle.model.proofs.serial.There.{number_here, number_stays}
use Rattle.model.proofs.serial.KindLists.{IsOfLiving, number-cases, with_number-rises, kind_sets-only}
use Rattle.column_store.proofs.Apart.{same_self}

-- ---- one number

-- the number of a row's kinds
pub number-same : (row : List Component) → kinds_number row ≡ set_number (map (λ c. c.kind) row)
unfolding kinds_number
number-same [] = refl
number-same (c ∷ cs) = ap (bit_or (2 ^ c.kind)) (number-same cs)

-- ---- numbers with those of more sets

-- they rise
numbers_with-rise : (sets : List (List ℕ)) (ns : List ℕ) → IsRising ns → IsRising (numbers_with sets ns)
numbers_with-rise [] ns rise = rise
numbers_with-rise (kinds ∷ sets) ns rise = numbers_with-rise sets (with_number (set_number kinds) ns) (with_number-rises (set_number kinds) ns rise)

-- those that were there stay
numbers_with-stay : (n : ℕ) (sets : List (List ℕ)) (ns : List ℕ) → IsIn n ns → IsIn n (numbers_with sets ns)
numbers_with-stay n [] ns i = i
numbers_with-stay n (kinds ∷ sets) ns i = numbers_with-stay n sets (with_number (set_number kinds) ns) (number_stays (set_number kinds) n ns i)

-- that of each set is there
numbers_with-each : (kinds : List ℕ) (sets : List (List ℕ)) (ns : List ℕ) → IsIn kinds sets → IsIn (set_number kinds) (numbers_with sets ns)
numbers_with-each kinds [] ns i = absurd i
numbers_with-each kinds (first ∷ sets) ns (inl e) =
    numbers_with-stay (set_number kinds) sets (with_number (set_number first) ns)
    (subst (λ n. IsIn n (with_number (set_number first) ns)) (ap set_number (sym e)) (number_here (set_number first) ns))
numbers_with-each kinds (first ∷ sets) ns (inr i) = numbers_with-each kinds sets (with_number (set_number first) ns) i

-- a set of a number
record IsSetOf (n : ℕ) (sets : List (List ℕ)) : Type 0 where
  pub kinds : List ℕ
  pub among : IsIn kinds sets
  pub number : n ≡ set_number kinds

-- none but these are there
numbers_with-cases : (n : ℕ) (sets : List (List ℕ)) (ns : List ℕ) → IsIn n (numbers_with sets ns) → IsIn n ns ⊎ IsSetOf n sets
numbers_with-cases n [] ns i = inl i
numbers_with-cases n (kinds ∷ sets) ns i = go (numbers_with-cases n sets (with_number (set_number kinds) ns) i)
  where
    old : (n ≡ set_number kinds) ⊎ IsIn n ns → IsIn n ns ⊎ IsSetOf n (kinds ∷ sets)
    old (inl e) = inr (record { kinds = kinds; among = inl refl; number = e })
    old (inr j) = inl j

    go : IsIn n (with_number (set_number kinds) ns) ⊎ IsSetOf n sets → IsIn n ns ⊎ IsSetOf n (kinds ∷ sets)
    go (inl j) = old (number-cases (set_number kinds) n ns j)
    go (inr r) = inr (record { kinds = r.kinds; among = inr r.among; number = r.number })

-- ---- those who live without components

-- the index of one that passes
pub record IsPlaceFor (test : Slot → Bool) (slots : List Slot) : Type 0 where
  pub index : ℕ
  pub passes : test (get_or slots index fresh_slot) ≡ true

-- where some slot passes there is an index of one
pub place-for : (test : Slot → Bool) (slots : List Slot) → list_any test slots ≡ true → IsPlaceFor test slots
place-for test [] h = absurd (false≢true h)
place-for test (slot ∷ slots) h = go (or_cases (test slot) (list_any test slots) h) (λ f. place-for test slots f)
  where
    next : IsPlaceFor test slots → IsPlaceFor test (slot ∷ slots)
    next r = record { index = suc r.index; passes = r.passes }

    go : (test slot ≡ true) ⊎ (list_any test slots ≡ true) → (list_any test slots ≡ true → IsPlaceFor test slots) → IsPlaceFor test (slot ∷ slots)
    go (inl e) more = record { index = zero; passes = e }
    go (inr f) more = next (more f)

-- where the slot of an index passes some does
pub any-at : (test : Slot → Bool) (slots : List Slot) (index : ℕ) → index < length slots → test (get_or slots index fresh_slot) ≡ true → list_any test slots ≡ true
any-at test [] index l h = absurd (omega arith)
any-at test (slot ∷ slots) zero l h = list_any-IsIn test slot (slot ∷ slots) (inl refl) h
any-at test (slot ∷ slots) (suc index) l h = go (IsIn_from_any test slots (any-at test slots index (omega arith) h))
  where
    go : (x : Slot) × IsIn x slots × (test x ≡ true) → list_any test (slot ∷ slots) ≡ true
    go found = list_any-IsIn test found.0 (slot ∷ slots) (inr found.1) found.2

-- an index past the end has no one who lives
pub within-end : (slots : List Slot) (index : ℕ) → is_living (get_or slots index fresh_slot).status ≡ true → index < length slots
within-end [] index h = absurd (false≢true h)
within-end (slot ∷ slots) zero h = omega arith
within-end (slot ∷ slots) (suc index) h = let l : index < length slots = within-end slots index h in omega arith

-- ---- archetypes

-- an archetype of the layout
pub record IsArchetypeOf (layout : List Archetype) (kinds : List ℕ) : Type 0 where
  pub number : ℕ
  pub kinds_are : (archetype_at layout number).kinds ≡ kinds
  pub peopled : is_there (archetype_at layout number).entities ≡ true

-- kinds of the layout are those of an archetype with entities
archetype-of : (layout : List Archetype) (kinds : List ℕ) → AllByRecursion IsArchetype layout → IsIn kinds (map (λ a. a.kinds) layout) → IsArchetypeOf layout kinds
archetype-of [] kinds each i = absurd i
archetype-of (a ∷ layout) kinds each (inl e) = record { number = zero; kinds_are = sym e; peopled = each.0.peopled }
archetype-of (a ∷ layout) kinds each (inr i) =
    let r = archetype-of layout kinds each.1 i in record { number = suc r.number; kinds_are = r.kinds_are; peopled = r.peopled }

-- the kinds of an archetype that has someone are of the layout
kinds-in : (layout : List Archetype) (n : ℕ) (e : Entity) → is_in_archetype e (archetype_at layout n) ≡ true → IsIn (archetype_at layout n).kinds (map (λ a. a.kinds) layout)
kinds-in [] n e h = absurd (false≢true h)
kinds-in (a ∷ layout) zero e h = inl refl
kinds-in (a ∷ layout) (suc n) e h = inr (kinds-in layout n e h)

-- ---- all of them

module _ (slots : List Slot) (layout : List Archetype) (laid : IsLayoutOf slots layout) where
  -- one who lives without components has no kinds
  of-empty : IsPlaceFor lives_empty slots → IsOfLiving slots 0
  unfolding kinds_number
  of-empty r = go (row_at slots r.index) refl (and_parts (is_living slot.status) (not (is_there slot.row)) r.passes)
    where
      slot : Slot
      slot = get_or slots r.index fresh_slot

      go : (row : List Component) → row_at slots r.index ≡ row → (is_living slot.status ≡ true) × (not (is_there row) ≡ true) → IsOfLiving slots 0
      go [] same h = record { index = r.index; lives = h.0; kinds = ap kinds_number (sym same) }
      go (c ∷ cs) same h = absurd (false≢true h.1)

  -- the number of the empty set is there for one who lives
  of-first : (n : ℕ) (without : Bool) → list_any lives_empty slots ≡ without → IsIn n (first_numbers without) → IsOfLiving slots n
  of-first n true e (inl zeroed) = subst (IsOfLiving slots) (sym zeroed) (of-empty (place-for lives_empty slots e))
  of-first n true e (inr i) = absurd i
  of-first n false e i = absurd i

  -- that of an archetype is one of its entities'
  of-archetype : (n : ℕ) (kinds : List ℕ) → n ≡ set_number kinds → IsArchetypeOf layout kinds → IsOfLiving slots n
  of-archetype n kinds number r = go (archetype_at layout r.number).entities refl r.peopled
    where
      go : (es : List Entity) → (archetype_at layout r.number).entities ≡ es → is_there es ≡ true → IsOfLiving slots n
      go [] same h = absurd (false≢true h)
      go (e ∷ es) same h =
          let theirs = laid.theirs r.number e (ap (λ xs. list_any (λ x. is_same x e) xs) same ∙ list_any-IsIn (λ x. is_same x e) e (e ∷ es) (inl refl) (same_self e)) in
          let slot = get_or slots e.index fresh_slot in
          record {
            index = e.index;
            lives = (and_parts (is_living slot.status) (slot.generation == e.generation) theirs.0).0;
            kinds = number ∙ ap set_number (sym r.kinds_are) ∙ ap set_number (sym theirs.1) ∙ sym (number-same (row_at slots e.index));
          }

  -- each of the numbers is of one who lives
  theirs_are : (n : ℕ) → IsIn n (numbers_with (map (λ a. a.kinds) layout) (first_numbers (list_any lives_empty slots))) → IsOfLiving slots n
  theirs_are n i = go (numbers_with-cases n (map (λ a. a.kinds) layout) (first_numbers (list_any lives_empty slots)) i)
    where
      go : IsIn n (first_numbers (list_any lives_empty slots)) ⊎ IsSetOf n (map (λ a. a.kinds) layout) → IsOfLiving slots n
      go (inl j) = of-first n (list_any lives_empty slots) refl j
      go (inr r) = of-archetype n r.kinds r.number (archetype-of layout r.kinds laid.each r.among)

  -- where there is one without components 0 is there
  first-there : (without : Bool) → without ≡ true → IsIn 0 (first_numbers without)
  first-there true e = inl refl
  first-there false e = absurd (false≢true e)

  -- the number of each who lives is there
  each_listed : (index : ℕ) → is_living (get_or slots index fresh_slot).status ≡ true →
      IsIn (kinds_number (row_at slots index)) (numbers_with (map (λ a. a.kinds) layout) (first_numbers (list_any lives_empty slots)))
  unfolding kinds_number
  each_listed index lives = go (row_at slots index) refl
    where
      slot : Slot
      slot = get_or slots index fresh_slot

      entity : Entity
      entity = record { index = index; generation = slot.generation }

      alive : is_alive slots entity ≡ true
      alive = and_from (is_living slot.status) (slot.generation == slot.generation) lives (==-same slot.generation)

      go : (row : List Component) → row_at slots index ≡ row → IsIn (kinds_number row) (numbers_with (map (λ a. a.kinds) layout) (first_numbers (list_any lives_empty slots)))
      go [] same =
          let empty : lives_empty slot ≡ true = and_from (is_living slot.status) (not (is_there slot.row)) lives (ap (λ row. not (is_there row)) same) in
          numbers_with-stay 0 (map (λ a. a.kinds) layout) (first_numbers (list_any lives_empty slots))
          (first-there (list_any lives_empty slots) (any-at lives_empty slots index (within-end slots index lives) empty))
      go (c ∷ cs) same =
          let found = laid.every entity alive (ap is_there same) in
          let theirs = laid.theirs found.0 entity found.1 in
          subst (λ n. IsIn n (numbers_with (map (λ a. a.kinds) layout) (first_numbers (list_any lives_empty slots))))
          (ap set_number (sym theirs.1 ∙ ap (map (λ d. d.kind)) same) ∙ sym (number-same (c ∷ cs)))
          (numbers_with-each (archetype_at layout found.0).kinds (map (λ a. a.kinds) layout) (first_numbers (list_any lives_empty slots)) (kinds-in layout found.0 entity found.1))

  -- the first numbers rise
  first-rises : (without : Bool) → IsRising (first_numbers without)
  first-rises true = ((λ k e. absurd (false≢true e)), tt)
  first-rises false = tt

  -- the numbers are the kind sets of the living
  pub living_sets : numbers_with (map (λ a. a.kinds) layout) (first_numbers (list_any lives_empty slots)) ≡ kind_sets_of slots
  living_sets = kind_sets-only slots (numbers_with (map (λ a. a.kinds) layout) (first_numbers (list_any lives_empty slots)))
      (numbers_with-rise (map (λ a. a.kinds) layout) (first_numbers (list_any lives_empty slots)) (first-rises (list_any lives_empty slots)))
      theirs_are each_listed
