-- Lists of numbers in rising order.
use Rattle.std.proofs.Common.{ℕ, ◌+◌, ◌<◌, ◌≤◌, ◌≡◌, ◌↔◌, true, false, eqb, inl, inr, List, [], ◌∷◌, ◌++◌, length, get_or, sym, ap, ◌∙◌, subst, arith}
use Rattle.std.proofs.lemmas.Bool.{false≢true, or_cases, or_left, or_right, eqb-true, eq-eqb, cases_lt}
use Rattle.std.proofs.lemmas.List.{get_or_default, get_or_past}
use Rattle.model.specs.Lists.{has}
use Rattle.model.specs.access.Access.{Params}
use Rattle.model.specs.access.Condition.{access_of_condition}
use Rattle.model.specs.access.Condition.Condition.{RunOnce}
use Rattle.model.specs.access.Conflict.{Conflict}
use Rattle.model.specs.steps.Schedule.{ScheduledSystem, ScheduledCondition}
use Rattle.schedule_builder.specs.Rows.{system_in, IsRow, AreRows}
use Rattle.schedule_builder.specs.Conditions.{condition_in, IsCovering, IsClash, IsRisingListing, HasConditionRows}
use Rattle.model.proofs.lists.Places.{has-append}

-- the numbers with a property below a bound, listed, with one more that has it
pub named_more : (P : ℕ → Type 0) (xs : List ℕ) (n : ℕ) → P n → ((m : ℕ) → (has m xs ≡ true) ↔ ((m < n) × P m)) →
    (m : ℕ) → (has m (xs ++ n ∷ []) ≡ true) ↔ ((m < n + 1) × P m)
named_more P xs n here names m = (
  (λ e. elim (or_cases (has m xs) (has m (n ∷ [])) (sym (has-append m xs (n ∷ [])) ∙ e)) [
    | inl old ↦ let found = (names m).0 old in let low : m < n = found.0 in (omega arith, found.1)
    | inr new ↦ elim (or_cases (eqb n m) false new) [
      | inl same ↦ let is : n ≡ m = eqb-true n m same in (omega arith, subst P is here)
      | inr none ↦ absurd (false≢true none)
    ]
  ]),
  (λ (low, p). has-append m xs (n ∷ []) ∙ elim (cases_lt m n) [
    | inl below ↦ or_left (has m xs) (has m (n ∷ [])) ((names m).1 (below, p))
    | inr above ↦ let is : n ≡ m = omega arith in or_right (has m xs) (has m (n ∷ [])) (or_left (eqb n m) false (eq-eqb n m is))
  ]),
)

-- and with one more that has it not
pub named_same : (P : ℕ → Type 0) (xs : List ℕ) (n : ℕ) → (P n → ⊥) → ((m : ℕ) → (has m xs ≡ true) ↔ ((m < n) × P m)) →
    (m : ℕ) → (has m xs ≡ true) ↔ ((m < n + 1) × P m)
named_same P xs n not names m = (
  (λ e. let found = (names m).0 e in let low : m < n = found.0 in (omega arith, found.1)),
  (λ (low, p). elim (cases_lt m n) [
    | inl below ↦ (names m).1 (below, p)
    | inr above ↦ let is : m ≡ n = omega arith in absurd (not (subst P is p))
  ]),
)

-- what was read of a condition is what the schedule has of it
pub read_condition : (conditions : List ScheduledCondition) (n : ℕ) (c : ScheduledCondition) → n < length conditions → c ≡ get_or conditions n c → condition_in conditions n ≡ c
read_condition conditions n c low is = get_or_default conditions n (record { condition = RunOnce; covers = [] }) c low ∙ sym is

-- the systems that conflict with an access that was read of a condition
pub clashes_of : (count : ℕ) (systems : List ScheduledSystem) (conditions : List ScheduledCondition) (n : ℕ) (access : Params) (row : List ℕ) →
    access ≡ access_of_condition (condition_in conditions n).condition → IsRow count (λ m. (m < length systems) × Conflict (system_in systems m).params access) row →
    IsRow count (IsClash systems conditions n) row
clashes_of count systems conditions n access row same is = subst (λ (x : Params). IsRow count (λ m. (m < length systems) × Conflict (system_in systems m).params x) row) same is

-- what is found out of the conditions of a schedule once
pub has_condition_rows : (systems : List ScheduledSystem) (conditions : List ScheduledCondition) (asked_by clashed : List (List ℕ)) → length asked_by ≡ length systems →
    ((n : ℕ) → n < length systems → IsRisingListing (IsCovering conditions n) (get_or asked_by n [])) → AreRows (length systems) (length conditions) (IsClash systems conditions) clashed →
    HasConditionRows systems conditions asked_by clashed
unfolding HasConditionRows
has_condition_rows systems conditions asked_by clashed long each rows = record { long = long; covering = each; clashes = rows }

-- no condition of a number past the last covers a system
pub covering_all : (conditions : List ScheduledCondition) (n k : ℕ) (xs : List ℕ) → length conditions ≤ k → ((c : ℕ) → (has c xs ≡ true) ↔ ((c < k) × IsCovering conditions n c)) → (c : ℕ) → (has c xs ≡ true) ↔ IsCovering conditions n c
covering_all conditions n k xs past names c = (
  (λ e. let found = (names c).0 e in found.1),
  (λ covers. elim (cases_lt c k) [
    | inl low ↦ (names c).1 (low, covers)
    | inr above ↦ absurd (false≢true (sym (ap (λ (x : ScheduledCondition). has n x.covers) (get_or_past conditions c (record { condition = RunOnce; covers = [] }) (omega arith))) ∙ covers))
  ]),
)
