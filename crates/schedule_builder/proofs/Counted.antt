-- What a run counts down, from the rows of predecessors and the levels of the systems.
use Rattle.std.proofs.Common.{ℕ, ◌+◌, ◌<◌, ◌≡◌, true, false, ◌==◌, inl, inr, List, [], ◌∷◌, ◌++◌, length, map, take, get_or, sym, ap, ◌∙◌, subst, arith}
use Rattle.std.proofs.lemmas.List.{get_or-map, get_or_past, get_or_push, get_or_append_left, length_push, take-append-le, take_all, length-map}
use Rattle.std.proofs.lemmas.Bool.{false≢true, false_from_ne_true, or_cases, or_left, or_right, cases_lt, ne_eqb, eq-eqb, eqb-true}
use Rattle.number_set.specs.Members.{contains}
use Rattle.model.specs.Lists.{has}
use Rattle.model.specs.access.Access.{no_params}
use Rattle.model.specs.steps.Schedule.{ScheduledSystem}
use Rattle.model.proofs.lists.Lists.{same_tests}
use Rattle.schedule_builder.specs.Rows.{system_in, IsBefore, AreRows}
use Rattle.model.specs.Counts.{count_below}
use Rattle.schedule_builder.specs.Counts.{waits_for, is_at, IsListing, IsAfter, HasCounts}
use Rattle.schedule_builder.proofs.Counting.{count_same, count_none}
use Rattle.model.proofs.lists.Places.{has-append}

-- ---- lists of systems

-- a list of the numbers below one with a property, with that one where it has it
pub listing_more : (Q : ℕ → Type 0) (n : ℕ) (xs longer : List ℕ) → IsListing (λ m. (m < n) × Q m) xs → longer ≡ xs ++ n ∷ [] → Q n → IsListing (λ m. (m < n + 1) × Q m) longer
listing_more Q n xs longer is same here = subst (λ (ys : List ℕ). IsListing (λ m. (m < n + 1) × Q m) ys) (sym same) (record {
  names = λ m. (
    (λ e. elim (or_cases (has m xs) (has m (n ∷ [])) (sym (has-append m xs (n ∷ [])) ∙ e)) [
      | inl old ↦ let p = (is.names m).0 old in let low : m < n = p.0 in (omega arith, p.1)
      | inr new ↦ elim (or_cases (n == m) false new) [
        | inl at ↦ let i : n ≡ m = eqb-true n m at in (omega arith, subst Q i here)
        | inr none ↦ absurd (false≢true none)
      ]
    ]),
    (λ p. has-append m xs (n ∷ []) ∙ elim (cases_lt m n) [
      | inl below ↦ or_left (has m xs) (has m (n ∷ [])) ((is.names m).1 (below, p.1))
      | inr above ↦ let low : m < n + 1 = p.0 in let at : n ≡ m = omega arith in or_right (has m xs) (has m (n ∷ [])) (or_left (n == m) false (eq-eqb n m at))
    ]),
  );
  once = λ i low. elim (cases_lt i (length xs)) [
    | inl inside ↦
        (ap (λ (k : ℕ). has k (take i (xs ++ n ∷ []))) (get_or_append_left xs (n ∷ []) 0 i inside)
        ∙ ap (λ (ys : List ℕ). has (get_or xs i 0) ys) (take-append-le i xs (n ∷ []) (omega arith)))
        ∙ is.once i inside
    | inr past ↦
        let long : length (xs ++ n ∷ []) ≡ length xs + 1 = length_push xs n in
        let at : length xs ≡ i = omega arith in
        (ap (λ (k : ℕ). has k (take i (xs ++ n ∷ []))) (get_or_push xs n 0 i at)
        ∙ ap (λ (ys : List ℕ). has n ys) (take-append-le i xs (n ∷ []) (omega arith) ∙ take_all i xs (omega arith)))
        ∙ false_from_ne_true (has n xs) (λ e. let p = (is.names n).0 e in let low : n < n = p.0 in omega arith)
  ];
})

-- and without it where it has not
pub listing_same : (Q : ℕ → Type 0) (n : ℕ) (xs : List ℕ) → IsListing (λ m. (m < n) × Q m) xs → (Q n → ⊥) → IsListing (λ m. (m < n + 1) × Q m) xs
listing_same Q n xs is gone = record {
  names = λ m. (
    (λ e. let p = (is.names m).0 e in let low : m < n = p.0 in (omega arith, p.1)),
    (λ p. elim (cases_lt m n) [
      | inl below ↦ (is.names m).1 (below, p.1)
      | inr above ↦ let low : m < n + 1 = p.0 in let at : m ≡ n = omega arith in absurd (gone (subst Q at p.1))
    ]),
  );
  once = is.once;
}

-- ---- all counts of a schedule

-- the systems in whose rows one is are those to which it has an edge
after_from : (systems : List ScheduledSystem) (rows : List (List ℕ)) (n : ℕ) (xs : List ℕ) → AreRows (length systems) (length systems) (IsBefore systems) rows →
    IsListing (λ m. (m < length rows) × (contains (get_or rows m []) n ≡ true)) xs → IsListing (IsAfter systems n) xs
after_from systems rows n xs are is = record {
  names = λ m. (
    (λ e. let p = (is.names m).0 e in let low : m < length systems = omega (arith, are.long, p.0) in (low, ((are.each m low).members n).0 p.1)),
    (λ p. let low : m < length systems = p.0 in (is.names m).1 (omega (arith, are.long), ((are.each m low).members n).1 p.1)),
  );
  once = is.once;
}

-- the members of a row are counted
waits_from : (systems : List ScheduledSystem) (rows : List (List ℕ)) (n : ℕ) → AreRows (length systems) (length systems) (IsBefore systems) rows →
    get_or (map (λ (row : List ℕ). count_below (contains row) (length rows)) rows) n 0 ≡ count_below (waits_for systems n) (length systems)
waits_from systems rows n are = elim (cases_lt n (length systems)) [
  | inl low ↦
      get_or-map (λ (row : List ℕ). count_below (contains row) (length rows)) rows n [] 0 (omega (arith, are.long))
      ∙ (ap (λ (bound : ℕ). count_below (contains (get_or rows n [])) bound) are.long
      ∙ count_same (contains (get_or rows n [])) (waits_for systems n) (length systems)
      (λ m _. same_tests (contains (get_or rows n []) m) (waits_for systems n m) ((are.each n low).members m).0 ((are.each n low).members m).1))
  | inr past ↦
      get_or_past (map (λ (row : List ℕ). count_below (contains row) (length rows)) rows) n 0 (omega (arith, are.long, length-map rows (λ (row : List ℕ). count_below (contains row) (length rows))))
      ∙ sym (count_none (waits_for systems n) (length systems)
      (λ m _. ap (λ (s : ScheduledSystem). has m s.predecessors) (get_or_past systems n (record { params = no_params; predecessors = []; level = 0 }) past)))
]

-- no system is of a level past the last
sizes_from : (systems : List ScheduledSystem) (levels k : ℕ) (sizes : List ℕ) → ((n : ℕ) → n < length systems → (system_in systems n).level < levels) → length sizes ≡ levels →
    ((j : ℕ) → j < levels → get_or sizes j 0 ≡ count_below (is_at systems j) (length systems)) → get_or sizes k 0 ≡ count_below (is_at systems k) (length systems)
sizes_from systems levels k sizes below long each = elim (cases_lt k levels) [
  | inl low ↦ each k low
  | inr past ↦
      get_or_past sizes k 0 (omega arith)
      ∙ sym (count_none (is_at systems k) (length systems) (λ m low. let level : (system_in systems m).level < levels = below m low in ne_eqb (system_in systems m).level k (λ e. omega arith)))
]

pub has_counts : (systems : List ScheduledSystem) (rows lists : List (List ℕ)) (levels : ℕ) (waits sizes : List ℕ) → AreRows (length systems) (length systems) (IsBefore systems) rows →
    length lists ≡ length rows → ((n : ℕ) → n < length rows → IsListing (λ m. (m < length rows) × (contains (get_or rows m []) n ≡ true)) (get_or lists n [])) →
    waits ≡ map (λ (row : List ℕ). count_below (contains row) (length rows)) rows →
    ((n : ℕ) → n < length systems → (system_in systems n).level < levels) → length sizes ≡ levels →
    ((j : ℕ) → j < levels → get_or sizes j 0 ≡ count_below (is_at systems j) (length systems)) → HasCounts systems lists waits sizes
unfolding HasCounts
has_counts systems rows lists levels waits sizes are long listed counted below size each = record {
  long = long ∙ are.long;
  after = λ n low. after_from systems rows n (get_or lists n []) are (listed n (omega (arith, are.long)));
  waits = λ n. ap (λ (xs : List ℕ). get_or xs n 0) counted ∙ waits_from systems rows n are;
  sizes = λ k. sizes_from systems levels k sizes below size each;
}
