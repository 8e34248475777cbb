-- The least datum of a conflict, from the least number of each sort; and that what parameters name has the number of something.
use Rattle.std.proofs.Common.{ℕ, ◌+◌, ◌<◌, ◌≤◌, true, ◌≡◌, ◌==◌, inl, inr, List, [], ◌∷◌, map, Some, None, subst, sym, arith, eqb-true, ltb-true}
use Rattle.std.proofs.lemmas.Bool.{false≢true, or_cases, cases_lt}
use Rattle.kinds.specs.declared.res.Res.{Res}
use Rattle.kinds.specs.declared.res.Event.{Event}
use Rattle.kinds.specs.Kind.{kind_count, kind_number, NumbersAreBelow}
use Rattle.kinds.specs.Res.{res_number, event_number}
use Rattle.kinds.proofs.Numbers.{res_below, event_below}
use Rattle.query.specs.declared.term.Term.{Term}
use Rattle.query.specs.declared.term.Term.TheVariants.{Entity, Read, Mut, Opt, With, Without, Added, Changed, Or}
use Rattle.query.specs.Term.{term_of}
use Rattle.model.specs.Lists.{has, is_number, IsIn}
use Rattle.model.specs.access.Query.{Term as ModelTerm, touched, touches}
use Rattle.model.specs.access.Access.{Params, names_resource, names_event}
use Rattle.model.specs.access.Conflict.{Datum, ConflictAt, is_below, IsLeastDatum}
use Rattle.model.specs.access.Conflict.Datum.{OfKind, OfResource, OfEvent}
use Rattle.access_set.specs.Datum.{IsLeastAt, AreKnownKinds}

-- ---- what is named has the number of something

-- a number that a function gives of some element is below a bound that all its numbers are below
below_bound : {A : Type 0} (f : A → ℕ) (bound : ℕ) → ((x : A) → f x < bound) → (xs : List A) (n : ℕ) → has n (map f xs) ≡ true → n < bound
below_bound f bound below [] n h = absurd (false≢true h)
below_bound f bound below (x ∷ xs) n h = elim (or_cases (f x == n) (has n (map f xs)) h) [
  | inl e ↦ subst (λ (k : ℕ). k < bound) (eqb-true (f x) n e) (below x)
  | inr e ↦ below_bound f bound below xs n e
]

-- resources
pub known_resources : (a : Params) (read written : List Res) → map res_number read ≡ a.res → map res_number written ≡ a.res_mut → (number : ℕ) → names_resource a number ≡ true → number < 8
known_resources a read written r w number h = elim (or_cases (has number a.res) (has number a.res_mut) h) [
  | inl e ↦ below_bound res_number 8 res_below read number (subst (λ (xs : List ℕ). has number xs ≡ true) (sym r) e)
  | inr e ↦ below_bound res_number 8 res_below written number (subst (λ (xs : List ℕ). has number xs ≡ true) (sym w) e)
]

-- event kinds
pub known_events : (a : Params) (read written : List Event) → map event_number read ≡ a.reads → map event_number written ≡ a.writes → (kind : ℕ) → names_event a kind ≡ true → kind < 4
known_events a read written r w kind h = elim (or_cases (has kind a.reads) (has kind a.writes) h) [
  | inl e ↦ below_bound event_number 4 event_below read kind (subst (λ (xs : List ℕ). has kind xs ≡ true) (sym r) e)
  | inr e ↦ below_bound event_number 4 event_below written kind (subst (λ (xs : List ℕ). has kind xs ≡ true) (sym w) e)
]

known_term : NumbersAreBelow → (t : Term) (k : ℕ) → is_number k (touched (term_of t)) ≡ true → k < kind_count
known_term below Entity k e = absurd (false≢true e)
known_term below (With kind) k e = absurd (false≢true e)
known_term below (Without kind) k e = absurd (false≢true e)
known_term below (Or alternatives) k e = absurd (false≢true e)
known_term below (Read kind) k e = subst (λ (n : ℕ). n < kind_count) (eqb-true (kind_number kind) k e) (below kind)
known_term below (Mut kind) k e = subst (λ (n : ℕ). n < kind_count) (eqb-true (kind_number kind) k e) (below kind)
known_term below (Opt kind) k e = subst (λ (n : ℕ). n < kind_count) (eqb-true (kind_number kind) k e) (below kind)
known_term below (Added kind) k e = subst (λ (n : ℕ). n < kind_count) (eqb-true (kind_number kind) k e) (below kind)
known_term below (Changed kind) k e = subst (λ (n : ℕ). n < kind_count) (eqb-true (kind_number kind) k e) (below kind)

-- kinds of components
pub known_kinds : NumbersAreBelow → (terms : List Term) → AreKnownKinds (map term_of terms)
known_kinds below [] k h = absurd (false≢true h)
known_kinds below (t ∷ terms) k h = elim (or_cases (is_number k (touched (term_of t))) (touches (map term_of terms) k) h) [
  | inl e ↦ known_term below t k e
  | inr e ↦ known_kinds below terms k e
]

-- ---- past the last number there is no conflict

pub kind_within : (a b : Params) → ((query : List ModelTerm) → IsIn query a.queries → AreKnownKinds query) → (kind : ℕ) → ConflictAt a b (OfKind kind) → kind < kind_count
kind_within a b known kind c = known c.0 c.2 kind (c.4).first_touches

-- ---- the least of all

-- a kind
pub least_at_kind : (a b : Params) (kind : ℕ) → IsLeastAt (λ k. ConflictAt a b (OfKind k)) (Some kind) → IsLeastDatum a b (Some (OfKind kind))
least_at_kind a b kind least = (least.0, below)
  where
    below : (e : Datum) → is_below e (OfKind kind) ≡ true → ConflictAt a b e → ⊥
    below (OfKind k) h c = least.1 k (ltb-true k kind h) c
    below (OfResource k) h c = absurd (false≢true h)
    below (OfEvent k) h c = absurd (false≢true h)

-- a resource, where they conflict at no kind
pub least_at_resource : (a b : Params) (number : ℕ) → IsLeastAt (λ k. ConflictAt a b (OfKind k)) None → IsLeastAt (λ k. ConflictAt a b (OfResource k)) (Some number)
    → IsLeastDatum a b (Some (OfResource number))
least_at_resource a b number none least = (least.0, below)
  where
    below : (e : Datum) → is_below e (OfResource number) ≡ true → ConflictAt a b e → ⊥
    below (OfKind k) h c = none k c
    below (OfResource k) h c = least.1 k (ltb-true k number h) c
    below (OfEvent k) h c = absurd (false≢true h)

-- an event kind, where they conflict at neither
pub least_at_event : (a b : Params) (kind : ℕ) → IsLeastAt (λ k. ConflictAt a b (OfKind k)) None → IsLeastAt (λ k. ConflictAt a b (OfResource k)) None
    → IsLeastAt (λ k. ConflictAt a b (OfEvent k)) (Some kind) → IsLeastDatum a b (Some (OfEvent kind))
least_at_event a b kind no_kind no_resource least = (least.0, below)
  where
    below : (e : Datum) → is_below e (OfEvent kind) ≡ true → ConflictAt a b e → ⊥
    below (OfKind k) h c = no_kind k c
    below (OfResource k) h c = no_resource k c
    below (OfEvent k) h c = least.1 k (ltb-true k kind h) c

-- none, where they conflict at none of the three
pub least_nowhere : (a b : Params) → IsLeastAt (λ k. ConflictAt a b (OfKind k)) None → IsLeastAt (λ k. ConflictAt a b (OfResource k)) None
    → IsLeastAt (λ k. ConflictAt a b (OfEvent k)) None → IsLeastDatum a b None
least_nowhere a b no_kind no_resource no_event (OfKind k, c) = no_kind k c
least_nowhere a b no_kind no_resource no_event (OfResource k, c) = no_resource k c
least_nowhere a b no_kind no_resource no_event (OfEvent k, c) = no_event k c

-- ---- the search for the least

-- none of the numbers below one more has a property
pub none_more : (P : ℕ → Type 0) (i n : ℕ) → n ≡ i → ((j : ℕ) → j < i → P j → ⊥) → (P n → ⊥) → (j : ℕ) → j < i + 1 → P j → ⊥
none_more P i n same below here j low p = elim (cases_lt j i) [
  | inl less ↦ below j less p
  | inr more ↦ let at : j ≡ n = omega arith in here (subst P at p)
]

-- the first number with the property, where none below has it
pub first_is_least : (P : ℕ → Type 0) (i n : ℕ) → n ≡ i → ((j : ℕ) → j < i → P j → ⊥) → P n → IsLeastAt P (Some n)
first_is_least P i n same below here = (here, λ j low. below j (omega arith))

-- none, where no number below a bound has the property, and none has it past the bound
pub none_is_least : (P : ℕ → Type 0) (bound i : ℕ) → bound ≤ i → ((m : ℕ) → P m → m < bound) → ((m : ℕ) → m < i → P m → ⊥) → IsLeastAt P None
none_is_least P bound i past within below n p = let low : n < bound = within n p in below n (omega arith) p
