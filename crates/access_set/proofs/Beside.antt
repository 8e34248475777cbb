-- The search of a query that writes and conflicts with another, and of a number that stands twice.
use Rattle.std.proofs.Common.{ℕ, ◌+◌, ◌<◌, ◌≤◌, ◌≡◌, ◌≢◌, Bool, true, false, ◌||◌, inl, inr, List, ◌∷◌, length, map, get_or, sym, ap, ap₂, ◌∙◌, subst, arith}
use Rattle.std.proofs.lemmas.Bool.{both_ways, cases_lt, or_left}
use Rattle.std.proofs.lemmas.List.{get_or_default}
use Rattle.model.specs.Lists.{has}
use Rattle.model.specs.access.QueryFaults.{has_twice}
use Rattle.access_set.specs.declared.footprint.Footprint.{Footprint}
use Rattle.access_set.specs.Footprints.{footprints_meet, is_writing, no_kinds, MeetsBeside, HasMeetingWriter}

-- ---- a query beside others

-- two footprints at their places meet where they meet as they were read
read_meet : (footprints : List Footprint) (n m : ℕ) (one other : Footprint) → n < length footprints → m < length footprints →
    one ≡ get_or footprints n one → other ≡ get_or footprints m other →
    footprints_meet one other ≡ footprints_meet (get_or footprints n no_kinds) (get_or footprints m no_kinds)
read_meet footprints n m one other low below first second =
    ap₂ footprints_meet (first ∙ get_or_default footprints n one no_kinds low) (second ∙ get_or_default footprints m other no_kinds below)

-- one that meets another is found
pub beside_found : (footprints : List Footprint) (n m : ℕ) (one other : Footprint) → n < length footprints → m < length footprints → n ≢ m →
    one ≡ get_or footprints n one → other ≡ get_or footprints m other → true ≡ footprints_meet one other → MeetsBeside footprints n
beside_found footprints n m one other low below differ first second meet =
    (m, below, differ, sym (meet ∙ read_meet footprints n m one other low below first second))

-- one at a place meets none of those before another place
abbrev pub MeetsNone : List Footprint → ℕ → ℕ → Type 0
MeetsNone footprints n i = (m : ℕ) → m < i → n ≢ m → footprints_meet (get_or footprints n no_kinds) (get_or footprints m no_kinds) ≡ true → ⊥

-- nor the one at that place, where they don't meet as they were read
pub none_beside_met : (footprints : List Footprint) (n i : ℕ) (one other : Footprint) (met : Bool) → n < length footprints → i < length footprints →
    one ≡ get_or footprints n one → other ≡ get_or footprints i other → met ≡ footprints_meet one other → met ≡ false →
    MeetsNone footprints n i → MeetsNone footprints n (i + 1)
none_beside_met footprints n i one other met low below first second is unmet none m less differ meet = elim (cases_lt m i) [
  | inl before ↦ none m before differ meet
  | inr more ↦ let same : m ≡ i = omega arith in
      both_ways met unmet (is ∙ (read_meet footprints n i one other low below first second
      ∙ subst (λ (j : ℕ). footprints_meet (get_or footprints n no_kinds) (get_or footprints j no_kinds) ≡ true) same meet))
]

-- nor itself
pub none_beside_self : (footprints : List Footprint) (n i : ℕ) → n ≡ i → MeetsNone footprints n i → MeetsNone footprints n (i + 1)
none_beside_self footprints n i here none m less differ meet = elim (cases_lt m i) [
  | inl before ↦ none m before differ meet
  | inr more ↦ let same : n ≡ m = omega arith in absurd (differ same)
]

-- past the last place it meets none
pub none_beside : (footprints : List Footprint) (n i : ℕ) → length footprints ≤ i → MeetsNone footprints n i → MeetsBeside footprints n → ⊥
none_beside footprints n i past none (m, below, differ, meet) = none m (omega arith) differ meet

-- ---- a query that writes

-- one that writes and meets another is found
pub writer_found : (footprints : List Footprint) (n : ℕ) (one : Footprint) → n < length footprints → one ≡ get_or footprints n one → true ≡ is_writing one →
    MeetsBeside footprints n → HasMeetingWriter footprints
writer_found footprints n one low is writing beside =
    (n, low, sym (writing ∙ ap is_writing (is ∙ get_or_default footprints n one no_kinds low)), beside)

-- none of those before a place writes and meets another
abbrev pub NoWriter : List Footprint → ℕ → Type 0
NoWriter footprints i = (n : ℕ) → n < i → is_writing (get_or footprints n no_kinds) ≡ true → MeetsBeside footprints n → ⊥

-- nor the one at that place, where it meets none
pub no_writer_beside : (footprints : List Footprint) (i : ℕ) → (MeetsBeside footprints i → ⊥) → NoWriter footprints i → NoWriter footprints (i + 1)
no_writer_beside footprints i alone none n less writing beside = elim (cases_lt n i) [
  | inl before ↦ none n before writing beside
  | inr more ↦ let same : n ≡ i = omega arith in alone (subst (MeetsBeside footprints) same beside)
]

-- nor where it doesn't write
pub no_writer_still : (footprints : List Footprint) (i : ℕ) (one : Footprint) (writes : Bool) → i < length footprints → one ≡ get_or footprints i one →
    writes ≡ is_writing one → writes ≡ false → NoWriter footprints i → NoWriter footprints (i + 1)
no_writer_still footprints i one writes low at is unset none n less writing beside = elim (cases_lt n i) [
  | inl before ↦ none n before writing beside
  | inr more ↦ let same : n ≡ i = omega arith in
      both_ways writes unset (is ∙ (ap is_writing (at ∙ get_or_default footprints i one no_kinds low)
      ∙ subst (λ (j : ℕ). is_writing (get_or footprints j no_kinds) ≡ true) same writing))
]

-- past the last place there is none
pub no_writer : (footprints : List Footprint) (i : ℕ) → length footprints ≤ i → NoWriter footprints i → HasMeetingWriter footprints → ⊥
no_writer footprints i past none (n, low, writing, beside) = none n (omega arith) writing beside

-- ---- a number that stands twice

-- it does so in the whole where it stands again behind the first of what is left
pub twice_found : {A : Type 0} (f : A → ℕ) (all rest more : List A) (one : A) → has_twice (map f all) ≡ has_twice (map f rest) → rest ≡ one ∷ more →
    true ≡ has (f one) (map f more) → true ≡ has_twice (map f all)
twice_found f all rest more one same is found =
    sym (same ∙ (ap (λ xs. has_twice (map f xs)) is ∙ or_left (has (f one) (map f more)) (has_twice (map f more)) (sym found)))
