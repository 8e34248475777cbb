-- The counts of a core: what they say of the systems that aren't over, and what an end takes from them.
use Rattle.std.proofs.Common.{ℕ, ◌+◌, ◌<◌, ◌≡◌, ◌≢◌, ◌↔◌, Bool, true, false, not, ◌&&◌, ◌||◌, ◌==◌, cond, inl, inr, List, [], length, get_or, refl, sym, ap, ◌∙◌, subst, arith}
use Rattle.std.proofs.lemmas.Bool.{both_ways, false_from_ne_true, true_from_ne_false, and_parts, and_from, and_left, and_right, not-true, not_from_true, not_from_false, or_left, eq-eqb, ne_eqb, eqb-true, cases_lt, cases_eq, cases_Bool}
use Rattle.std.proofs.lemmas.List.{get_or_past}
use Rattle.number_set.specs.Members.{contains}
use Rattle.model.specs.Lists.{has}
use Rattle.model.specs.access.Access.{no_params}
use Rattle.model.specs.steps.Schedule.{ScheduledSystem, level_of}
use Rattle.model.specs.steps.Built.{IsBuilt}
use Rattle.schedule_builder.specs.Rows.{system_in}
use Rattle.model.specs.Counts.{count_below}
use Rattle.schedule_builder.specs.Counts.{waits_for, is_at, IsListing, IsAfter}
use Rattle.schedule_builder.proofs.Counting.{count_same, count_one_more, count_some, count_none, none_passes, some_passes}
use Rattle.executor_core.specs.Stands.{Stand}
use Rattle.executor_core.specs.Judges.{AllOver, IsOpen, AreCounted, holds_up, is_left_at}

-- ---- what the counts say

-- nothing is left of what a system waits for exactly where all with an edge to it are over
pub tells_after : (core : Stand) (n count : ℕ) (told : Bool) → IsBuilt core.schedule → count ≡ count_below (holds_up core.schedule.systems core.over n) (length core.schedule.systems) →
    ((told ≡ true) ↔ (count ≡ 0)) → (told ≡ true) ↔ AllOver core n
tells_after core n count told built counted tells = (
  (λ e m edge. true_from_ne_false (contains core.over m) (λ o. both_ways (holds_up core.schedule.systems core.over n m)
      (none_passes (holds_up core.schedule.systems core.over n) (length core.schedule.systems) (sym counted ∙ tells.0 e) m (built.sources m n edge))
      (and_from (waits_for core.schedule.systems n m) (not (contains core.over m)) edge (not_from_false (contains core.over m) o)))),
  (λ over. tells.1 (counted ∙ count_none (holds_up core.schedule.systems core.over n) (length core.schedule.systems)
      (λ m low. false_from_ne_true (holds_up core.schedule.systems core.over n m) (λ e.
      let both = and_parts (waits_for core.schedule.systems n m) (not (contains core.over m)) e in
      both_ways (contains core.over m) (not-true (contains core.over m) both.1) (over m both.0))))),
)

-- and something is left of a level exactly where some system of it isn't over
pub tells_open : (core : Stand) (k count : ℕ) (told : Bool) → count ≡ count_below (is_left_at core.schedule.systems core.over k) (length core.schedule.systems) →
    ((told ≡ true) ↔ (count ≡ 0)) → (not told ≡ true) ↔ IsOpen core k
tells_open core k count told counted tells = (
  (λ e.
      let some : count ≢ 0 = λ z. both_ways told (not-true told e) (tells.1 z) in
      let found = some_passes (is_left_at core.schedule.systems core.over k) (length core.schedule.systems) (omega (arith, counted, some)) in
      let both = and_parts (is_at core.schedule.systems k found.0) (not (contains core.over found.0)) found.2 in
      (found.0, found.1, eqb-true (level_of core.schedule found.0) k both.0, not-true (contains core.over found.0) both.1)),
  (λ (m, low, level, o). not_from_false told (false_from_ne_true told (λ e.
      let some : 0 < count_below (is_left_at core.schedule.systems core.over k) (length core.schedule.systems) = count_some (is_left_at core.schedule.systems core.over k) (length core.schedule.systems) m low
      (and_from (is_at core.schedule.systems k m) (not (contains core.over m)) (eq-eqb (level_of core.schedule m) k level) (not_from_false (contains core.over m) o)) in
      let none : count ≡ 0 = tells.0 e in
      omega arith))),
)

-- ---- at first

and_not : (a b : Bool) → b ≡ false → a ≡ (a && not b)
and_not true b e = sym (not_from_false b e)
and_not false b e = refl

-- where nothing is over the counts are those of all systems
pub counted_first : (systems : List ScheduledSystem) (over_set waits left : List ℕ) → ((n : ℕ) → contains over_set n ≡ false) →
    ((n : ℕ) → get_or waits n 0 ≡ count_below (waits_for systems n) (length systems)) → ((k : ℕ) → get_or left k 0 ≡ count_below (is_at systems k) (length systems)) →
    AreCounted systems over_set waits left
counted_first systems over_set waits left none before sizes = record {
  waits = λ n. before n ∙ count_same (waits_for systems n) (holds_up systems over_set n) (length systems) (λ m _. and_not (waits_for systems n m) (contains over_set m) (none m));
  left = λ k. sizes k ∙ count_same (is_at systems k) (is_left_at systems over_set k) (length systems) (λ m _. and_not (is_at systems k m) (contains over_set m) (none m));
}

-- ---- an end

-- a system that waits for another is one
edge_known : (systems : List ScheduledSystem) (n m : ℕ) → waits_for systems n m ≡ true → n < length systems
edge_known systems n m e = elim (cases_lt n (length systems)) [
  | inl low ↦ low
  | inr past ↦ absurd (both_ways (waits_for systems n m)
      (ap (λ (s : ScheduledSystem). has m s.predecessors) (get_or_past systems n (record { params = no_params; predecessors = []; level = 0 }) past)) e)
]

-- a test of the systems that aren't over, where one more is: the others pass as before
others_same : (test : ℕ → Bool) (over_set more : List ℕ) (system : ℕ) → ((n : ℕ) → contains more n ≡ ((system == n) || contains over_set n)) → (m : ℕ) → m ≢ system →
    (test m && not (contains over_set m)) ≡ (test m && not (contains more m))
others_same test over_set more system members m apart =
    ap (λ b. test m && not b) (sym (members m ∙ ap (λ b. b || contains over_set m) (ne_eqb system m (λ e. apart (sym e)))))

-- it counts one less, where the test is passed
one_less : (test : ℕ → Bool) (over_set more : List ℕ) (system bound : ℕ) → ((n : ℕ) → contains more n ≡ ((system == n) || contains over_set n)) → contains over_set system ≡ false → system < bound →
    test system ≡ true → count_below (λ m. test m && not (contains over_set m)) bound ≡ count_below (λ m. test m && not (contains more m)) bound + 1
one_less test over_set more system bound members fresh low passes =
    count_one_more (λ m. test m && not (contains over_set m)) (λ m. test m && not (contains more m)) bound system low
    (and_from (test system) (not (contains over_set system)) passes (not_from_false (contains over_set system) fresh))
    (and_right (test system) (not (contains more system)) (not_from_true (contains more system) (members system ∙ or_left (system == system) (contains over_set system) (eq-eqb system system refl))))
    (others_same test over_set more system members)

-- and as many, where it isn't
as_many : (test : ℕ → Bool) (over_set more : List ℕ) (system bound : ℕ) → ((n : ℕ) → contains more n ≡ ((system == n) || contains over_set n)) →
    test system ≡ false → count_below (λ m. test m && not (contains over_set m)) bound ≡ count_below (λ m. test m && not (contains more m)) bound
as_many test over_set more system bound members fails =
    count_same (λ m. test m && not (contains over_set m)) (λ m. test m && not (contains more m)) bound (λ m _. elim (cases_eq m system) [
      | inl same ↦
          let no : test m ≡ false = ap test same ∙ fails in
          and_left (test m) (not (contains over_set m)) no ∙ sym (and_left (test m) (not (contains more m)) no)
      | inr apart ↦ others_same test over_set more system members m apart
    ])

-- something is left of the counts of those that wait for a system that isn't over
pub some_left : (systems : List ScheduledSystem) (over_set waits left listed : List ℕ) (system : ℕ) → AreCounted systems over_set waits left → IsListing (IsAfter systems system) listed →
    system < length systems → contains over_set system ≡ false → (n : ℕ) → has n listed ≡ true → 0 < get_or waits n 0
some_left systems over_set waits left listed system are is low fresh n e =
    subst (λ (c : ℕ). 0 < c) (sym (are.waits n)) (count_some (holds_up systems over_set n) (length systems) system low
    (and_from (waits_for systems n system) (not (contains over_set system)) ((is.names n).0 e).1 (not_from_false (contains over_set system) fresh)))

-- and of that of its level
pub level_left : (systems : List ScheduledSystem) (over_set waits left : List ℕ) (system : ℕ) → AreCounted systems over_set waits left →
    system < length systems → contains over_set system ≡ false → 0 < get_or left (system_in systems system).level 0
level_left systems over_set waits left system are low fresh =
    subst (λ (c : ℕ). 0 < c) (sym (are.left (system_in systems system).level)) (count_some (is_left_at systems over_set (system_in systems system).level) (length systems) system low
    (and_from (is_at systems (system_in systems system).level system) (not (contains over_set system)) (eq-eqb (system_in systems system).level (system_in systems system).level refl) (not_from_false (contains over_set system) fresh)))

-- the counts with one taken from each of those are the counts where the system is over too
pub counted_less : (systems : List ScheduledSystem) (over_set more waits waits' left left' listed : List ℕ) (system : ℕ) → AreCounted systems over_set waits left → IsListing (IsAfter systems system) listed →
    system < length systems → contains over_set system ≡ false → ((n : ℕ) → contains more n ≡ ((system == n) || contains over_set n)) →
    ((n : ℕ) → get_or waits' n 0 + cond (has n listed) 1 0 ≡ get_or waits n 0) →
    get_or left' (system_in systems system).level 0 + 1 ≡ get_or left (system_in systems system).level 0 → ((k : ℕ) → k ≢ (system_in systems system).level → get_or left' k 0 ≡ get_or left k 0) →
    AreCounted systems more waits' left'
counted_less systems over_set more waits waits' left left' listed system are is low fresh members lowered level rest = record {
  waits = λ n. elim (cases_Bool (has n listed)) [
    | inl e ↦
        let down : get_or waits' n 0 + cond true 1 0 ≡ get_or waits n 0 = subst (λ b. get_or waits' n 0 + cond b 1 0 ≡ get_or waits n 0) e (lowered n) in
        let was = are.waits n in
        let now = one_less (waits_for systems n) over_set more system (length systems) members fresh low ((is.names n).0 e).1 in
        omega arith
    | inr e ↦
        let down : get_or waits' n 0 + cond false 1 0 ≡ get_or waits n 0 = subst (λ b. get_or waits' n 0 + cond b 1 0 ≡ get_or waits n 0) e (lowered n) in
        let was = are.waits n in
        let now = as_many (waits_for systems n) over_set more system (length systems) members
        (false_from_ne_true (waits_for systems n system) (λ w. both_ways (has n listed) e ((is.names n).1 (edge_known systems n system w, w)))) in
        omega arith
  ];
  left = λ k. elim (cases_eq k (system_in systems system).level) [
    | inl same ↦
        let was = are.left (system_in systems system).level in
        let now = one_less (is_at systems (system_in systems system).level) over_set more system (length systems) members fresh low (eq-eqb (system_in systems system).level (system_in systems system).level refl) in
        subst (λ (j : ℕ). get_or left' j 0 ≡ count_below (is_left_at systems more j) (length systems)) (sym same) (omega arith)
    | inr apart ↦ rest k apart ∙ (are.left k ∙ as_many (is_at systems k) over_set more system (length systems) members (ne_eqb (system_in systems system).level k (λ e. apart (sym e))))
  ];
}
