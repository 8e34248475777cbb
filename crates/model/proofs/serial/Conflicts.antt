-- From a datum that two accesses share to one at which they meet, and from accesses that don't meet to writes that don't.
use Rattle.std.proofs.Common.{ℕ, ℤ, Bool, true, false, cond, ◌||◌, ◌==◌, ◌≡◌, ◌⊎◌, List, [], ◌∷◌, Option, Some, None, refl, sym, ap, ◌∙◌, inl, inr}
use Rattle.std.proofs.lemmas.Bool.{or_left, or_right, or_parts, eqb-true, false≢true}
use Rattle.model.specs.Lists.{has, IsIn, is_number, first_some}
use Rattle.model.specs.access.Query.{Term, admits, matches, touched, written, touches, writes}
use Rattle.model.specs.access.Query.Term.{Mut}
use Rattle.model.specs.access.Access.{Params, names_resource, names_event}
use Rattle.model.specs.access.Conflict.{Datum, QueriesConflictAt, Conflict, ConflictAt}
use Rattle.model.specs.access.Conflict.Datum.{OfKind, OfResource, OfEvent}
use Rattle.model.specs.access.Meeting.{IsAmong, MeetAt, Meet}
use Rattle.model.specs.state.State.{Slot}
use Rattle.model.specs.state.Rows.{row_at, kinds_of}
use Rattle.model.specs.shown.Outcome.{value_written, events_sent}
use Rattle.model.proofs.order.Histories.{any_weaker}
use Rattle.model.proofs.lists.Lists.{IsIn_from_any, list_all-IsIn}

-- ---- words

-- two accesses that don't meet, where these kind sets may be there
abbrev pub ApartBy : Option (List ℕ) → Params → Params → Type 0
ApartBy there a b = Meet there a b → ⊥

-- some query that matches these kinds writes the kind
pub record WritesIn (queries : List (List Term)) (kinds : ℕ → Bool) (kind : ℕ) : Type 0 where
  pub query : List Term
  pub is_in : IsIn query queries
  pub admitted : matches query kinds ≡ true
  pub wrote : writes query kind ≡ true

-- writes by index and kind go only where some query that matches the kinds of the entity writes, and these kinds may be there
pub record WritesWithin (there : Option (List ℕ)) (queries : List (List Term)) (slots : List Slot) (words : ℕ → ℕ → Option (List ℤ)) : Type 0 where
  pub at : (index kind : ℕ) (value : List ℤ) → words index kind ≡ Some value → WritesIn queries (kinds_of (row_at slots index)) kind
  pub among : (index kind : ℕ) (value : List ℤ) → words index kind ≡ Some value → IsAmong there (kinds_of (row_at slots index))

-- ---- small steps

-- either order of two tests
pub or_swap : (a b : Bool) → (a || b) ≡ true → (b || a) ≡ true
or_swap true b h = or_right b true refl
or_swap false b h = or_left b false h

-- an option with no value is none
pub none_from_no : {A : Type 0} (o : Option A) → ((x : A) → o ≡ Some x → ⊥) → o ≡ None
none_from_no None h = refl
none_from_no (Some x) h = absurd (h x refl)

-- a value of the first of two options is of one of them
pub first_some-cases : {A : Type 0} (o p : Option A) (x : A) → first_some o p ≡ Some x → (o ≡ Some x) ⊎ (p ≡ Some x)
first_some-cases None p x h = inr h
first_some-cases (Some y) p x h = inl h

-- a term that writes a kind touches it
touched_from_written : (kind : ℕ) (t : Term) → is_number kind (written t) ≡ true → is_number kind (touched t) ≡ true
touched_from_written kind (Mut k) h = h
touched_from_written kind t h = absurd (false≢true h)

-- a query that writes a kind touches it
pub touches_from_writes : (q : List Term) (kind : ℕ) → writes q kind ≡ true → touches q kind ≡ true
touches_from_writes q kind h = any_weaker (λ t. is_number kind (written t)) (λ t. is_number kind (touched t)) (touched_from_written kind) q h

-- a term that writes a kind requires it
holds_from_written : (kinds : ℕ → Bool) (kind : ℕ) (t : Term) → is_number kind (written t) ≡ true → admits kinds t ≡ true → kinds kind ≡ true
holds_from_written kinds kind (Mut k) h a = ap kinds (sym (eqb-true k kind h)) ∙ a
holds_from_written kinds kind t h a = absurd (false≢true h)

-- a query that writes a kind matches only what holds it
pub holds_from_writes : (q : List Term) (kinds : ℕ → Bool) (kind : ℕ) → matches q kinds ≡ true → writes q kind ≡ true → kinds kind ≡ true
holds_from_writes q kinds kind m h =
    let r : (t : Term) × IsIn t q × (is_number kind (written t) ≡ true) = IsIn_from_any (λ t. is_number kind (written t)) q h in
    holds_from_written kinds kind r.0 r.2 (list_all-IsIn (admits kinds) r.0 q m r.1)

-- ---- conflicts

-- a conflict of two queries is one from the other side, by the same set of kinds
abbrev queries_conflict_swap : (q r : List Term) (kind : ℕ) → QueriesConflictAt q r kind → QueriesConflictAt r q kind
queries_conflict_swap q r kind c = record {
  kinds = c.kinds;
  first_matches = c.second_matches;
  second_matches = c.first_matches;
  holds = c.holds;
  first_touches = c.second_touches;
  second_touches = c.first_touches;
  one_writes = or_swap (writes q kind) (writes r kind) c.one_writes;
}

-- a conflict at a datum is one from the other side
conflict_at_swap : (a b : Params) (d : Datum) → ConflictAt a b d → ConflictAt b a d
conflict_at_swap a b (OfKind kind) c = (c.1, c.0, c.3, c.2, queries_conflict_swap c.0 c.1 kind c.4)
conflict_at_swap a b (OfResource n) c = record { first_names = c.second_names; second_names = c.first_names; one_writes = or_swap (has n a.res_mut) (has n b.res_mut) c.one_writes }
conflict_at_swap a b (OfEvent k) c = record { first_names = c.second_names; second_names = c.first_names; one_writes = or_swap (has k a.writes) (has k b.writes) c.one_writes }

-- a conflict is one from the other side
pub conflict_swap : (a b : Params) → Conflict a b → Conflict b a
conflict_swap a b c = (c.0, conflict_at_swap a b c.0 c.1)

-- to meet at a datum is to do so from the other side
meet_at_swap : (there : Option (List ℕ)) (a b : Params) (d : Datum) → MeetAt there a b d → MeetAt there b a d
meet_at_swap there a b (OfKind kind) c = (c.1, c.0, c.3, c.2, queries_conflict_swap c.0 c.1 kind c.4, c.5)
meet_at_swap there a b (OfResource n) c = conflict_at_swap a b (OfResource n) c
meet_at_swap there a b (OfEvent k) c = conflict_at_swap a b (OfEvent k) c

-- to meet is to do so from the other side
pub meet_swap : (there : Option (List ℕ)) (a b : Params) → Meet there a b → Meet there b a
meet_swap there a b c = (c.0, meet_at_swap there a b c.0 c.1)

-- accesses that meet at a datum conflict there
pub conflict_at_from_meet : (there : Option (List ℕ)) (a b : Params) (d : Datum) → MeetAt there a b d → ConflictAt a b d
conflict_at_from_meet there a b (OfKind kind) c = (c.0, c.1, c.2, c.3, c.4)
conflict_at_from_meet there a b (OfResource n) c = c
conflict_at_from_meet there a b (OfEvent k) c = c

-- accesses that meet conflict
pub conflict_from_meet : (there : Option (List ℕ)) (a b : Params) → Meet there a b → Conflict a b
conflict_from_meet there a b c = (c.0, conflict_at_from_meet there a b c.0 c.1)

-- accesses that conflict at a datum meet there, where any kind set may be there
meet_at_from_conflict : (a b : Params) (d : Datum) → ConflictAt a b d → MeetAt None a b d
meet_at_from_conflict a b (OfKind kind) c = (c.0, c.1, c.2, c.3, c.4, tt)
meet_at_from_conflict a b (OfResource n) c = c
meet_at_from_conflict a b (OfEvent k) c = c

-- accesses that conflict meet, where any kind set may be there
pub meet_from_conflict : (a b : Params) → Conflict a b → Meet None a b
meet_from_conflict a b c = (c.0, meet_at_from_conflict a b c.0 c.1)

-- accesses that don't conflict don't meet, whatever kind sets may be there
pub apart_by : (there : Option (List ℕ)) (a b : Params) → (Conflict a b → ⊥) → ApartBy there a b
apart_by there a b h c = h (conflict_from_meet there a b c)

-- accesses are apart from either side
pub apart_swap : (there : Option (List ℕ)) (a b : Params) → ApartBy there a b → ApartBy there b a
apart_swap there a b h c = h (meet_swap there b a c)

-- one writes what the other's query touches
pub seen_conflict : (there : Option (List ℕ)) (a b : Params) (kinds : ℕ → Bool) (kind : ℕ) (r : List Term) → WritesIn a.queries kinds kind → IsAmong there kinds →
    IsIn r b.queries → matches r kinds ≡ true → touches r kind ≡ true → Meet there a b
seen_conflict there a b kinds kind r w among i m t = (
  OfKind kind,
  (
    w.query,
    r,
    w.is_in,
    i,
    record {
      kinds = kinds;
      first_matches = w.admitted;
      second_matches = m;
      holds = holds_from_writes w.query kinds kind w.admitted w.wrote;
      first_touches = touches_from_writes w.query kind w.wrote;
      second_touches = t;
      one_writes = or_left (writes w.query kind) (writes r kind) w.wrote;
    },
    among,
  ),
)

-- both write one kind of one entity
pub writers_conflict : (there : Option (List ℕ)) (a b : Params) (kinds : ℕ → Bool) (kind : ℕ) → WritesIn a.queries kinds kind → WritesIn b.queries kinds kind →
    IsAmong there kinds → Meet there a b
writers_conflict there a b kinds kind w v among = seen_conflict there a b kinds kind v.query w among v.is_in v.admitted (touches_from_writes v.query kind v.wrote)

-- one writes a resource that the other names
pub resource_conflict : (there : Option (List ℕ)) (a b : Params) (n : ℕ) → has n a.res_mut ≡ true → names_resource b n ≡ true → Meet there a b
resource_conflict there a b n h r = (
  OfResource n,
  record {
    first_names = or_right (has n a.res) (has n a.res_mut) h;
    second_names = r;
    one_writes = or_left (has n a.res_mut) (has n b.res_mut) h;
  },
)

-- one writes an event kind that the other names
pub event_conflict : (there : Option (List ℕ)) (a b : Params) (k : ℕ) → has k a.writes ≡ true → names_event b k ≡ true → Meet there a b
event_conflict there a b k h r = (
  OfEvent k,
  record {
    first_names = or_right (has k a.reads) (has k a.writes) h;
    second_names = r;
    one_writes = or_left (has k a.writes) (has k b.writes) h;
  },
)

-- ---- apart: components

-- what one writes the other's queries don't touch
pub unseen : (there : Option (List ℕ)) (a b : Params) (slots : List Slot) (f : ℕ → ℕ → Option (List ℤ)) (r : List Term) → ApartBy there a b →
    WritesWithin there a.queries slots f → IsIn r b.queries →
    (index kind : ℕ) → matches r (kinds_of (row_at slots index)) ≡ true → touches r kind ≡ true → f index kind ≡ None
unseen there a b slots f r h w i index kind m t =
    none_from_no (f index kind) (λ x e. h (seen_conflict there a b (kinds_of (row_at slots index)) kind r (w.at index kind x e) (w.among index kind x e) i m t))

-- at most one of the two writes a component
pub one_writer : (there : Option (List ℕ)) (a b : Params) (slots : List Slot) (f g : ℕ → ℕ → Option (List ℤ)) → ApartBy there a b →
    WritesWithin there a.queries slots f → WritesWithin there b.queries slots g →
    (index kind : ℕ) → (f index kind ≡ None) ⊎ (g index kind ≡ None)
one_writer there a b slots f g h w v index kind = go (f index kind) refl
  where
    go : (o : Option (List ℤ)) → f index kind ≡ o → (f index kind ≡ None) ⊎ (g index kind ≡ None)
    go None e = inl e
    go (Some x) e = inr (none_from_no (g index kind)
        (λ y d. h (writers_conflict there a b (kinds_of (row_at slots index)) kind (w.at index kind x e) (v.at index kind y d) (w.among index kind x e))))

-- ---- apart: resources

-- what isn't named isn't written
pub value_written-none : (ns : List ℕ) (values : List (Option ℤ)) (n : ℕ) → has n ns ≡ false → value_written ns values n ≡ None
value_written-none [] values n h = refl
value_written-none (m ∷ ms) [] n h = refl
value_written-none (m ∷ ms) (v ∷ vs) n h = go (m == n) (or_parts (m == n) (has n ms) h).0 (value_written-none ms vs n (or_parts (m == n) (has n ms) h).1)
  where
    go : (b : Bool) → b ≡ false → value_written ms vs n ≡ None → first_some (cond b v None) (value_written ms vs n) ≡ None
    go true e r = absurd (false≢true (sym e))
    go false e r = r

-- what one writes the other doesn't name
pub unread_resource : (there : Option (List ℕ)) (a b : Params) (values : List (Option ℤ)) (n : ℕ) → ApartBy there a b → names_resource b n ≡ true →
    value_written a.res_mut values n ≡ None
unread_resource there a b values n h r = go (has n a.res_mut) refl
  where
    go : (t : Bool) → has n a.res_mut ≡ t → value_written a.res_mut values n ≡ None
    go true e = absurd (h (resource_conflict there a b n e r))
    go false e = value_written-none a.res_mut values n e

-- at most one of the two writes a resource
pub one_setter : (there : Option (List ℕ)) (a b : Params) (values others : List (Option ℤ)) (n : ℕ) → ApartBy there a b →
    (value_written a.res_mut values n ≡ None) ⊎ (value_written b.res_mut others n ≡ None)
one_setter there a b values others n h = go (has n b.res_mut) refl
  where
    go : (t : Bool) → has n b.res_mut ≡ t → (value_written a.res_mut values n ≡ None) ⊎ (value_written b.res_mut others n ≡ None)
    go true e = inl (unread_resource there a b values n h (or_right (has n b.res) (has n b.res_mut) e))
    go false e = inr (value_written-none b.res_mut others n e)

-- ---- apart: events

-- what isn't named isn't sent
pub events_sent-none : (ks : List ℕ) (events : List (List ℤ)) (k : ℕ) → has k ks ≡ false → events_sent ks events k ≡ []
events_sent-none [] events k h = refl
events_sent-none (j ∷ js) [] k h = refl
events_sent-none (j ∷ js) (e ∷ es) k h = go (j == k) (or_parts (j == k) (has k js) h).0 (events_sent-none js es k (or_parts (j == k) (has k js) h).1)
  where
    go : (b : Bool) → b ≡ false → events_sent js es k ≡ [] → cond b e (events_sent js es k) ≡ []
    go true p r = absurd (false≢true (sym p))
    go false p r = r

-- what one sends the other doesn't name
pub unread_event : (there : Option (List ℕ)) (a b : Params) (events : List (List ℤ)) (k : ℕ) → ApartBy there a b → names_event b k ≡ true →
    events_sent a.writes events k ≡ []
unread_event there a b events k h r = go (has k a.writes) refl
  where
    go : (t : Bool) → has k a.writes ≡ t → events_sent a.writes events k ≡ []
    go true e = absurd (h (event_conflict there a b k e r))
    go false e = events_sent-none a.writes events k e

-- at most one of the two sends events of a kind
pub one_sender : (there : Option (List ℕ)) (a b : Params) (events others : List (List ℤ)) (k : ℕ) → ApartBy there a b →
    (events_sent a.writes events k ≡ []) ⊎ (events_sent b.writes others k ≡ [])
one_sender there a b events others k h = go (has k b.writes) refl
  where
    go : (t : Bool) → has k b.writes ≡ t → (events_sent a.writes events k ≡ []) ⊎ (events_sent b.writes others k ≡ [])
    go true e = inl (unread_event there a b events k h (or_right (has k b.reads) (has k b.writes) e))
    go false e = inr (events_sent-none b.writes others k e)
