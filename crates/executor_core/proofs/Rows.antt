-- The rows of a core: made bit by bit, what they say, and the core that has accepted nothing.
use Rattle.std.proofs.Common.{ℕ, ◌+◌, ◌/◌, ◌%◌, ◌<◌, ◌≤◌, Bool, true, false, ◌||◌, ◌==◌, nat_lt, ◌≡◌, ◌≢◌, ◌⊎◌, ◌↔◌, inl, inr, List, [], ◌∷◌, ◌++◌, length, get_or, set, take, drop, Option, Some, None, unwrap_or, refl, sym, ap, ◌∙◌, subst, arith, ltb-true}
use Rattle.std.proofs.lemmas.Bool.{both_ways, false≢true, false_from_ne_true, or_cases, or_left, or_right, eqb-true, eq-eqb, cases_lt, cases_order}
use Rattle.std.proofs.lemmas.List.{append-nil, drop_all, take_all, length-set, get_or-set_same, get_or-set_other, get_or_default, get_or_past}
use Rattle.number_set.specs.Members.{contains}
use Rattle.model.specs.access.Access.{Params, no_params}
use Rattle.model.specs.access.Conflict.Datum.{OfKind, OfResource, OfEvent}
use Rattle.model.specs.access.Meeting.{Meet}
use Rattle.model.specs.access.Condition.{access_of_condition}
use Rattle.model.specs.steps.Schedule.{Schedule, ScheduledSystem, ScheduledCondition, params_of, access_of}
use Rattle.model.proofs.lists.Bits.{no_bit}
use Rattle.model.proofs.serial.Conflicts.{conflict_from_meet, meet_from_conflict}
use Rattle.schedule_builder.specs.Rows.{IsRow, IsRival, AreRows}
use Rattle.schedule_builder.specs.Conditions.{IsClash}
use Rattle.executor_core.specs.Stands.{Stand, MeetsAmong, ClashesAmong, IsPassed, IsQuiet, Stands, AreMeetings, IsCleared, due_of}
use Rattle.executor_core.specs.Judges.{AreRoomy}
use Rattle.executor_core.specs.Meetings.{IsMeeting, IsClashing}

-- ---- a row

-- a system that is none of the rivals leaves a row as it is
pub not_rival : (M : ℕ → Type 0) (row rivals : List ℕ) (system : ℕ) → contains rivals system ≡ false → (m : ℕ) →
    (contains row m ≡ true) ↔ ((contains row m ≡ true) ⊎ ((system ≡ m) × (contains rivals m ≡ true) × M m))
not_rival M row rivals system none m = (
  (λ h. inl h),
  (λ o. elim o [
    | inl h ↦ h
    | inr p ↦ absurd (both_ways (contains rivals system) none (subst (λ (k : ℕ). contains rivals k ≡ true) (sym p.0) p.1))
  ]),
)

-- so does one that doesn't meet
pub not_meeting : (M : ℕ → Type 0) (row rivals : List ℕ) (system : ℕ) → (M system → ⊥) → (m : ℕ) →
    (contains row m ≡ true) ↔ ((contains row m ≡ true) ⊎ ((system ≡ m) × (contains rivals m ≡ true) × M m))
not_meeting M row rivals system none m = (
  (λ h. inl h),
  (λ o. elim o [ inl h ↦ h | inr p ↦ absurd (none (subst M (sym p.0) p.2)) ]),
)

-- a rival that meets becomes a member
pub is_noted : (M : ℕ → Type 0) (row new rivals : List ℕ) (system : ℕ) → ((n : ℕ) → contains new n ≡ ((system == n) || contains row n)) → contains rivals system ≡ true → M system → (m : ℕ) →
    (contains new m ≡ true) ↔ ((contains row m ≡ true) ⊎ ((system ≡ m) × (contains rivals m ≡ true) × M m))
is_noted M row new rivals system members rival meets m = (
  (λ e. elim (or_cases (system == m) (contains row m) (sym (members m) ∙ e)) [
    | inl same ↦
        let here : system ≡ m = eqb-true system m same in
        inr (here, subst (λ (k : ℕ). contains rivals k ≡ true) here rival, subst M here meets)
    | inr before ↦ inl before
  ]),
  (λ o. members m ∙ elim o [
    | inl before ↦ or_right (system == m) (contains row m) before
    | inr p ↦ or_left (system == m) (contains row m) (eq-eqb system m p.0)
  ]),
)

-- the members among the first systems
abbrev pub AreFirstMembers : (ℕ → Type 0) → List ℕ → List ℕ → ℕ → Type 0
AreFirstMembers M row rivals bound = (m : ℕ) → (contains row m ≡ true) ↔ ((m < bound) × (contains rivals m ≡ true) × M m)

-- at first none
pub none_noted : (M : ℕ → Type 0) (row rivals : List ℕ) → ((m : ℕ) → contains row m ≡ false) → AreFirstMembers M row rivals 0
none_noted M row rivals empty = λ m. ((λ e. absurd (both_ways (contains row m) (empty m) e)), (λ p. absurd (omega (arith, p.0))))

-- one system more
pub one_noted : (M : ℕ → Type 0) (row new rivals : List ℕ) (system : ℕ) → AreFirstMembers M row rivals system →
    ((m : ℕ) → (contains new m ≡ true) ↔ ((contains row m ≡ true) ⊎ ((system ≡ m) × (contains rivals m ≡ true) × M m))) → AreFirstMembers M new rivals (system + 1)
one_noted M row new rivals system before noted = λ m. (
  (λ e. elim ((noted m).0 e) [
    | inl old ↦ let p : (m < system) × (contains rivals m ≡ true) × M m = (before m).0 old in (omega (arith, p.0), p.1, p.2)
    | inr p ↦ (omega (arith, p.0), p.1, p.2)
  ]),
  (λ p. (noted m).1 (elim (cases_order m system) [
    | inl same ↦ inr (sym same, p.1, p.2)
    | inr other ↦ elim other [ inl below ↦ inl ((before m).1 (below, p.1, p.2)) | inr above ↦ absurd (omega (arith, p.0)) ]
  ])),
)

-- all of them, where all that meet are rivals
pub all_noted : (count bound : ℕ) (M : ℕ → Type 0) (row rivals : List ℕ) → length row ≡ count / 64 + 1 → bound ≡ count → AreFirstMembers M row rivals bound →
    ((m : ℕ) → m < count → M m → contains rivals m ≡ true) → IsRow count (λ m. (m < count) × M m) row
all_noted count bound M row rivals room end members among = record {
  room = room;
  members = λ m. (
    (λ e. let p : (m < bound) × (contains rivals m ≡ true) × M m = (members m).0 e in (omega (arith, p.0), p.2)),
    (λ p. (members m).1 (omega (arith, p.0), among m p.0 p.1, p.1)),
  );
}

-- none of them, where there are no rivals
pub none_meet : (count : ℕ) (M : ℕ → Type 0) (row rivals : List ℕ) → length row ≡ count / 64 + 1 → ((m : ℕ) → contains row m ≡ false) → ((m : ℕ) → contains rivals m ≡ false) →
    ((m : ℕ) → m < count → M m → contains rivals m ≡ true) → IsRow count (λ m. (m < count) × M m) row
none_meet count M row rivals room empty none among = record {
  room = room;
  members = λ m. (
    (λ e. absurd (both_ways (contains row m) (empty m) e)),
    (λ p. absurd (both_ways (contains rivals m) (none m) (among m p.0 p.1))),
  );
}

-- a row that is found at a place of as many
pub row_there : (count made : ℕ) (rows : List (List ℕ)) (n : ℕ) (row : List ℕ) → AreRoomy count made rows → n < made → row ≡ get_or rows n row → row ≡ get_or rows n []
row_there count made rows n row roomy below is = is ∙ get_or_default rows n row [] (omega (arith, roomy.long, below))

-- has room for all systems
pub row_roomy : (count made : ℕ) (rows : List (List ℕ)) (n : ℕ) (row : List ℕ) → AreRoomy count made rows → n < made → row ≡ get_or rows n row → length row ≡ count / 64 + 1
row_roomy count made rows n row roomy below is = ap (λ (xs : List ℕ). length xs) (row_there count made rows n row roomy below is) ∙ roomy.each n below

-- ---- rows

-- rows made anew up to a place, and behind it rows with room
pub record AreRenewed (count made : ℕ) (P : ℕ → ℕ → Type 0) (rows : List (List ℕ)) (number : ℕ) : Type 0 where
  pub roomy : AreRoomy count made rows
  pub each : (n : ℕ) → n < number → IsRow count (P n) (get_or rows n [])

-- one row more
pub renewed_more : (count made number : ℕ) (P : ℕ → ℕ → Type 0) (rows : List (List ℕ)) (row : List ℕ) → number < made → AreRenewed count made P rows number → IsRow count (P number) row →
    AreRenewed count made P (set rows number row) (number + 1)
renewed_more count made number P rows row low are new = record {
  roomy = record {
    long = length-set rows number row ∙ are.roomy.long;
    each = λ n below. elim (cases_order n number) [
      | inl same ↦ subst (λ (k : ℕ). length (get_or (set rows number row) k []) ≡ count / 64 + 1) (sym same) (ap length (get_or-set_same rows number row [] inside) ∙ new.room)
      | inr other ↦ ap length (get_or-set_other rows number n row [] (apart n number other)) ∙ are.roomy.each n below
    ];
  };
  each = λ n below. elim (cases_order n number) [
    | inl same ↦ subst (λ (k : ℕ). IsRow count (P k) (get_or (set rows number row) k [])) (sym same)
        (subst (λ (r : List ℕ). IsRow count (P number) r) (sym (get_or-set_same rows number row [] inside)) new)
    | inr other ↦ subst (λ (r : List ℕ). IsRow count (P n) r) (sym (get_or-set_other rows number n row [] (apart n number other))) (are.each n (before n other below))
  ];
}
  where
    inside : number < length rows
    inside = omega (arith, are.roomy.long, low)

    apart : (n m : ℕ) → (n < m) ⊎ (m < n) → n ≢ m
    apart n m (inl l) e = omega arith
    apart n m (inr l) e = omega arith

    before : (n : ℕ) → (n < number) ⊎ (number < n) → n < number + 1 → n < number
    before n (inl l) below = l
    before n (inr l) below = absurd (omega arith)

-- rows have room
pub roomy_of : (count made : ℕ) (P : ℕ → ℕ → Type 0) (rows : List (List ℕ)) → AreRows count made P rows → AreRoomy count made rows
roomy_of count made P rows are = record { long = are.long; each = λ n low. (are.each n low).room }

-- a row that isn't there has no members
no_member : (m : ℕ) → contains [] m ≡ false
no_member m = no_bit (m % 64)

-- rows say what they were made for, also past their end where nothing is to be said
pub rows_say : (count made : ℕ) (P : ℕ → ℕ → Type 0) (rows : List (List ℕ)) → AreRows count made P rows → ((n m : ℕ) → made ≤ n → P n m → ⊥) → (n m : ℕ) →
    (contains (get_or rows n []) m ≡ true) ↔ P n m
rows_say count made P rows are none n m = elim (cases_lt n made) [
  | inl low ↦ (are.each n low).members m
  | inr past ↦ (
    (λ e. absurd (both_ways (contains [] m) (no_member m) (subst (λ (row : List ℕ). contains row m ≡ true) (get_or_past rows n [] (omega (arith, are.long))) e))),
    (λ p. absurd (none n m past p)),
  )
]

-- ---- past the end

-- nobody meets what touches nothing
meets_nothing : (there : Option (List ℕ)) (a : Params) → Meet there a no_params → ⊥
meets_nothing there a (OfKind kind, m) = m.3
meets_nothing there a (OfResource number, m) = false≢true m.second_names
meets_nothing there a (OfEvent kind, m) = false≢true m.second_names

-- so no system meets one past the end
pub past_system : (s : Schedule) (there : Option (List ℕ)) (a : Params) (n : ℕ) → length s.systems ≤ n → Meet there a (params_of s n) → ⊥
past_system s there a n past m = meets_nothing there a
    (subst (λ (x : ScheduledSystem). Meet there a x.params) (get_or_past s.systems n _ past) m)

-- nor what a condition past the end asks about
pub past_condition : (s : Schedule) (there : Option (List ℕ)) (a : Params) (c : ℕ) → length s.conditions ≤ c → Meet there a (access_of s c) → ⊥
past_condition s there a c past m = meets_nothing there a
    (subst (λ (x : ScheduledCondition). Meet there a (access_of_condition x.condition)) (get_or_past s.conditions c _ past) m)

-- ---- a core

-- rows made anew say who meets
pub met_renewed : (s : Schedule) (rows : List (List ℕ)) (sets : List ℕ) → AreRows (length s.systems) (length s.systems) (IsMeeting s sets) rows → (n m : ℕ) →
    (contains (get_or rows n []) m ≡ true) ↔ ((m < length s.systems) × Meet (Some sets) (params_of s m) (params_of s n))
met_renewed s rows sets are = rows_say (length s.systems) (length s.systems) (IsMeeting s sets) rows are
    (λ n m past p. past_system s (Some sets) (params_of s m) n past p.1)

-- and who meets what a condition asks about
pub clashed_renewed : (s : Schedule) (rows : List (List ℕ)) (sets : List ℕ) → AreRows (length s.systems) (length s.conditions) (IsClashing s sets) rows → (c m : ℕ) →
    (contains (get_or rows c []) m ≡ true) ↔ ((m < length s.systems) × Meet (Some sets) (params_of s m) (access_of s c))
clashed_renewed s rows sets are = rows_say (length s.systems) (length s.conditions) (IsClashing s sets) rows are
    (λ c m past p. past_condition s (Some sets) (params_of s m) c past p.1)

-- what a list holds whose part of its own length was put in place
pub whole_put : (rows items : List (List ℕ)) (count : ℕ) → length rows ≡ count → length items ≡ count → take count (rows ++ drop (length rows) items) ≡ rows
whole_put rows items count put held =
    ap (λ (rest : List (List ℕ)). take count (rows ++ rest)) (drop_all (length rows) items (omega (arith, put, held)))
    ∙ (ap (take count) (append-nil rows) ∙ take_all count rows (omega (arith, put)))

-- rows of rivals say who meets by any kind set
met_first : (core : Stand) → AreRows (length core.schedule.systems) (length core.schedule.systems) (IsRival core.schedule.systems) core.met → (n m : ℕ) → MeetsAmong core None n m
met_first core are n m rows =
    let say = rows_say (length core.schedule.systems) (length core.schedule.systems) (IsRival core.schedule.systems) core.met are
    (λ i k past p. past_system core.schedule None (params_of core.schedule k) i past (meet_from_conflict _ _ p.1)) n m in (
      (λ e. let p : IsRival core.schedule.systems n m = say.0 e in (p.0, meet_from_conflict _ _ p.1)),
      (λ p. say.1 (p.0, conflict_from_meet None _ _ p.1)),
    )

clashed_first : (core : Stand) → AreRows (length core.schedule.systems) (length core.schedule.conditions) (IsClash core.schedule.systems core.schedule.conditions) core.clashed → (c m : ℕ) →
    ClashesAmong core None c m
clashed_first core are c m rows =
    let say = rows_say (length core.schedule.systems) (length core.schedule.conditions) (IsClash core.schedule.systems core.schedule.conditions) core.clashed are
    (λ i k past p. past_condition core.schedule None (params_of core.schedule k) i past (meet_from_conflict _ _ p.1)) c m in (
      (λ e. let p : IsClash core.schedule.systems core.schedule.conditions c m = say.0 e in (p.0, meet_from_conflict _ _ p.1)),
      (λ p. say.1 (p.0, conflict_from_meet None _ _ p.1)),
    )

-- a core that has accepted nothing
pub record IsFirst (core : Stand) : Type 0 where
  pub begun : (n : ℕ) → contains core.begun n ≡ false
  pub over : (n : ℕ) → contains core.over n ≡ false
  pub asked : (n : ℕ) → contains core.asked n ≡ false
  pub yes : (n : ℕ) → contains core.yes n ≡ false
  pub done : core.done ≡ 0
  pub from : core.from ≡ 0
  pub due : core.due ≡ None
  pub met : AreRows (length core.schedule.systems) (length core.schedule.systems) (IsRival core.schedule.systems) core.met
  pub clashed : AreRows (length core.schedule.systems) (length core.schedule.conditions) (IsClash core.schedule.systems core.schedule.conditions) core.clashed

-- rows aren't due, and are
pub none-due : (d : Option (List ℕ)) (there : List ℕ) → d ≡ None → d ≡ Some there → ⊥
none-due None there e f = absurd (cc)
none-due (Some sets) there e f = absurd (cc)

-- it stands for the empty history of a run that records no kind sets
pub stands_first : (core : Stand) → IsFirst core → Stands core None []
stands_first core is = record {
  lawful = tt;
  begins = λ n. sym (is.begun n);
  ends = λ n. sym (is.over n);
  asks = λ c. sym (is.asked c);
  yeses = λ c. sym (is.yes c);
  syncs = λ k. sym (false_from_ne_true (nat_lt k core.done) (λ e. let low : k < core.done = ltb-true k core.done e in omega (arith, is.done)));
  passed = λ k low. absurd (omega (arith, is.from));
  meets = met_first core is.met;
  clashes = clashed_first core is.clashed;
  due = λ there e. absurd (none-due core.due there is.due e);
  listed = tt;
}

-- and with its rows made anew for that of one that records these
pub stands_opened : (core new : Stand) (sets : List ℕ) → Stands core None [] → ◌≡◌ {A = Stand} new (record core { due = new.due; met = new.met; clashed = new.clashed }) →
    ((n m : ℕ) → MeetsAmong new (Some sets) n m) → ((c m : ℕ) → ClashesAmong new (Some sets) c m) → ((there : List ℕ) → new.due ≡ Some there → IsQuiet new × (Some sets ≡ Some there)) → Stands new (Some (sets ∷ [])) []
stands_opened core new sets stands rest meets clashes due = record {
  lawful = tt;
  begins = λ n. stands.begins n ∙ ap (λ (s : Stand). contains s.begun n) (sym rest);
  ends = λ n. stands.ends n ∙ ap (λ (s : Stand). contains s.over n) (sym rest);
  asks = λ c. stands.asks c ∙ ap (λ (s : Stand). contains s.asked c) (sym rest);
  yeses = λ c. stands.yeses c ∙ ap (λ (s : Stand). contains s.yes c) (sym rest);
  syncs = λ k. stands.syncs k ∙ ap (λ (s : Stand). nat_lt k s.done) (sym rest);
  passed = subst IsPassed (sym rest) stands.passed;
  meets = meets;
  clashes = clashes;
  due = due;
  listed = refl;
}

-- a core that has accepted nothing, with rows by these kind sets, stands for the opening of a run that records them
pub stands_begun : (core : Stand) (sets : List ℕ) → IsCleared core → AreMeetings core sets → Stands core (Some (sets ∷ [])) []
stands_begun core sets is are = record {
  lawful = tt;
  begins = λ n. sym (is.begun n);
  ends = λ n. sym (is.over n);
  asks = λ c. sym (is.asked c);
  yeses = λ c. sym (is.yes c);
  syncs = λ k. sym (false_from_ne_true (nat_lt k core.done) (λ e. let low : k < core.done = ltb-true k core.done e in omega (arith, is.done)));
  passed = λ k low. absurd (omega (arith, is.from));
  meets = are.meets;
  clashes = are.clashes;
  due = λ there e. ((λ m b. absurd (both_ways _ (is.begun m) b)), are.due there e);
  listed = refl;
}

-- rows that stay are by the kind sets by which they were
pub meetings_same : (core new : Stand) (sets : List ℕ) → ◌≡◌ {A = Stand} new (record new { schedule = core.schedule; met = core.met; clashed = core.clashed; due = core.due }) → AreMeetings core sets → AreMeetings new sets
meetings_same core new sets rest are = record {
  meets = λ n m. subst (λ (s : Stand). MeetsAmong s (Some sets) n m) (sym rest) (are.meets n m);
  clashes = λ c m. subst (λ (s : Stand). ClashesAmong s (Some sets) c m) (sym rest) (are.clashes c m);
  due = λ there e. are.due there (sym (ap (λ (s : Stand). s.due) rest) ∙ e);
}

-- so it is with other rows
pub cleared_renewed : (core new : Stand) → ◌≡◌ {A = Stand} new (record core { due = new.due; met = new.met; clashed = new.clashed }) → IsCleared core → IsCleared new
cleared_renewed core new rest is = record {
  begun = λ n. ap (λ (s : Stand). contains s.begun n) rest ∙ is.begun n;
  over = λ n. ap (λ (s : Stand). contains s.over n) rest ∙ is.over n;
  asked = λ c. ap (λ (s : Stand). contains s.asked c) rest ∙ is.asked c;
  yes = λ c. ap (λ (s : Stand). contains s.yes c) rest ∙ is.yes c;
  done = ap (λ (s : Stand). s.done) rest ∙ is.done;
  from = ap (λ (s : Stand). s.from) rest ∙ is.from;
}

-- the kind sets of rows that are due are those that were noted
pub due-sets : (is : Bool) (noted there : List ℕ) → due_of is noted ≡ Some there → noted ≡ there
due-sets false noted there e = absurd (cc)
due-sets true noted there e = ap (λ (d : Option (List ℕ)). unwrap_or d noted) e
