-- Sets of systems: one more member, and one more row.
use Rattle.std.proofs.Common.{ℕ, ◌+◌, ◌/◌, ◌<◌, ◌≤◌, ◌≡◌, ◌↔◌, Bool, true, false, ◌&&◌, ◌||◌, eqb, inl, inr, List, [], ◌∷◌, ◌++◌, length, take, get_or, refl, sym, ap, ◌∙◌, subst, arith}
use Rattle.std.proofs.lemmas.List.{take_more, take_all, get_or_default, get_or_push, get_or_append_left, length_push}
use Rattle.std.proofs.lemmas.Bool.{or_cases, or_left, or_right, and_parts, and_from, eqb-true, eq-eqb, cases_lt}
use Rattle.number_set.specs.Members.{contains}
use Rattle.model.specs.Lists.{has}
use Rattle.model.specs.access.Access.{Params, no_params}
use Rattle.model.specs.access.Conflict.{Conflict}
use Rattle.model.specs.steps.Schedule.{ScheduledSystem}
use Rattle.schedule_builder.specs.Rows.{system_in, IsRow, IsBefore, AreRows}
use Rattle.model.proofs.lists.Places.{has-append}

or_turned : (a b : Bool) → (a || b) ≡ (b || (a || false))
or_turned true true = refl
or_turned true false = refl
or_turned false true = refl
or_turned false false = refl

-- the set of the first numbers of a list, with one more
pub list_more : (row longer xs : List ℕ) (i : ℕ) → i < length xs → ((n : ℕ) → contains longer n ≡ (eqb (get_or xs i 0) n || contains row n)) →
    ((n : ℕ) → contains row n ≡ has n (take i xs)) → (n : ℕ) → contains longer n ≡ has n (take (i + 1) xs)
list_more row longer xs i low inserted same n =
    inserted n
    ∙ (ap (λ b. eqb (get_or xs i 0) n || b) (same n)
    ∙ (or_turned (eqb (get_or xs i 0) n) (has n (take i xs))
    ∙ (sym (has-append n (take i xs) (get_or xs i 0 ∷ []))
    ∙ ap (λ (ys : List ℕ). has n ys) (sym (take_more xs i 0 low)))))

-- the systems among the first that conflict with an access, with one more
pub clash_more : (systems : List ScheduledSystem) (row longer : List ℕ) (access : Params) (other : ℕ) (test : Bool) →
    (test ≡ true) ↔ Conflict (system_in systems other).params access →
    ((n : ℕ) → contains longer n ≡ ((test && eqb other n) || contains row n)) →
    ((n : ℕ) → (contains row n ≡ true) ↔ ((n < other) × Conflict (system_in systems n).params access)) →
    (n : ℕ) → (contains longer n ≡ true) ↔ ((n < other + 1) × Conflict (system_in systems n).params access)
clash_more systems row longer access other test tells inserted same n = (
  (λ e. elim (or_cases (test && eqb other n) (contains row n) (sym (inserted n) ∙ e)) [
    | inl new ↦
        let both = and_parts test (eqb other n) new in
        let here : other ≡ n = eqb-true other n both.1 in
        (omega arith, subst (λ (m : ℕ). Conflict (system_in systems m).params access) here (tells.0 both.0))
    | inr old ↦ let found = (same n).0 old in let low : n < other = found.0 in (omega arith, found.1)
  ]),
  (λ (low, conflict). inserted n ∙ elim (cases_lt n other) [
    | inl below ↦ or_right (test && eqb other n) (contains row n) ((same n).1 (below, conflict))
    | inr above ↦
        let here : n ≡ other = omega arith in
        or_left (test && eqb other n) (contains row n)
        (and_from test (eqb other n) (tells.1 (subst (λ (m : ℕ). Conflict (system_in systems m).params access) here conflict)) (eq-eqb other n (sym here)))
  ]),
)

-- one more row
pub rows_more : (count made : ℕ) (P : ℕ → ℕ → Type 0) (rows : List (List ℕ)) (row : List ℕ) → AreRows count made P rows → IsRow count (P made) row →
    AreRows count (made + 1) P (rows ++ row ∷ [])
rows_more count made P rows row are new = record {
  long = length_push rows row ∙ ap (λ (k : ℕ). k + 1) are.long;
  each = λ n low. elim (cases_lt n made) [
    | inl below ↦ subst (λ (r : List ℕ). IsRow count (P n) r) (sym (get_or_append_left rows (row ∷ []) [] n (omega (arith, are.long)))) (are.each n below)
    | inr above ↦
        let here : made ≡ n = omega arith in
        subst (λ (r : List ℕ). IsRow count (P n) r) (sym (get_or_push rows row [] n (are.long ∙ here))) (subst (λ (k : ℕ). IsRow count (P k) row) here new)
  ];
}

-- what was read of a system is what the schedule has of it
pub read_system : (systems : List ScheduledSystem) (n : ℕ) (s : ScheduledSystem) → n < length systems → s ≡ get_or systems n s → system_in systems n ≡ s
read_system systems n s low is = get_or_default systems n (record { params = no_params; predecessors = []; level = 0 }) s low ∙ sym is

-- a test of a conflict tells of the system whose parameters were read
pub tells_conflict : (a p access : Params) (test : Bool) → a ≡ p → (test ≡ true) ↔ Conflict p access → (test ≡ true) ↔ Conflict a access
tells_conflict a p access test first tells = subst (λ (x : Params). (test ≡ true) ↔ Conflict x access) (sym first) tells

-- the systems that conflict with an access that was read
pub clashes_read : (count : ℕ) (systems : List ScheduledSystem) (a p : Params) (row : List ℕ) → a ≡ p →
    IsRow count (λ m. (m < length systems) × Conflict (system_in systems m).params p) row →
    IsRow count (λ m. (m < length systems) × Conflict (system_in systems m).params a) row
clashes_read count systems a p row same is = subst (λ (x : Params). IsRow count (λ m. (m < length systems) × Conflict (system_in systems m).params x) row) (sym same) is

-- a set of listed systems is one of the system that has the list
pub listed_row : (count : ℕ) (systems : List ScheduledSystem) (n : ℕ) (listed row : List ℕ) → listed ≡ (system_in systems n).predecessors →
    IsRow count (λ m. has m listed ≡ true) row → IsRow count (IsBefore systems n) row
listed_row count systems n listed row same is = subst (λ (xs : List ℕ). IsRow count (λ m. has m xs ≡ true) row) same is

-- a set with just the members of a list
pub row_of_list : (count : ℕ) (row xs : List ℕ) (i : ℕ) → length xs ≤ i → length row ≡ count / 64 + 1 → ((m : ℕ) → contains row m ≡ has m (take i xs)) →
    IsRow count (λ m. has m xs ≡ true) row
row_of_list count row xs i past room same =
    let each : (m : ℕ) → contains row m ≡ has m xs = λ m. same m ∙ ap (λ (ys : List ℕ). has m ys) (take_all i xs past) in
    record { room = room; members = λ m. ((λ e. sym (each m) ∙ e), (λ e. each m ∙ e)) }

-- a number below a bound has its bit within the room
pub within_room : (m count room : ℕ) → m < count → room ≡ count / 64 + 1 → m / 64 < room
within_room m count room low same = let here : m / 64 < count / 64 + 1 = omega arith in omega arith
