-- The conditions of declared items by number, and what is wrong with one.
use Rattle.std.specs.Prelude.{ℕ, ◌<◌, ◌≡◌, ◌↔◌, ◌⊎◌, true, ◌==◌, if◌then◌else◌, List, [], ◌∷◌, ◌++◌, Option, Some, None, length, get_or, map}
use Rattle.model.specs.Lists.{has, IsIn}
use Rattle.model.specs.access.Query.{Term, writes}
use Rattle.model.specs.access.QueryFaults.{query_fault}
use Rattle.model.specs.access.Condition.{Condition, queries_of}
use Rattle.model.specs.access.Condition.Condition.{RunOnce}
use Rattle.model.specs.declarations.Declarations.{Declared, declared_conditions}
use Rattle.model.specs.declarations.ScheduleOrder.{IsSilence}
use Rattle.model.specs.steps.Schedule.{ScheduledCondition}
use Rattle.cycle_search.specs.declared.order.Order.{Order}
use Rattle.system_set.specs.Pairs.{pairs_of}

-- the conditions of all items, in order, and the item of each
abbrev pub asked_of : Declared → List Condition
asked_of d = map (λ c. c.1) (declared_conditions d)

abbrev pub owners_of : Declared → List ℕ
owners_of d = map (λ c. c.0) (declared_conditions d)

-- ---- queries at fault

-- a query of a condition by its number, none where it has no such query
abbrev pub asked_query : List Condition → ℕ → ℕ → List Term
asked_query conditions c number = get_or (queries_of (get_or conditions c RunOnce)) number []

-- no query of the first so many conditions is at fault
abbrev pub AreGoodConditionsBelow : List Condition → ℕ → Type 0
AreGoodConditionsBelow conditions count = (m k : ℕ) → m < count → query_fault (asked_query conditions m k) ≡ None

-- the first condition with a query at fault and its first such query, with the least fault of that, or that none is
abbrev pub TellsBadCondition : List Condition → Option (ℕ × ℕ × ℕ) → Type 0
TellsBadCondition conditions None = AreGoodConditionsBelow conditions (length conditions)
TellsBadCondition conditions (Some (c, number, fault)) = (c < length conditions) × (query_fault (asked_query conditions c number) ≡ Some fault)
    × AreGoodConditionsBelow conditions c × ((k : ℕ) → k < number → query_fault (asked_query conditions c k) ≡ None)

-- ---- conditions that write

-- one of these queries writes a kind
abbrev pub HasWriting : List (List Term) → Type 0
HasWriting queries = (number : ℕ) × (kind : ℕ) × (writes (get_or queries number []) kind ≡ true)

-- none of the first so many conditions writes
abbrev pub AreReadingBelow : List Condition → ℕ → Type 0
AreReadingBelow conditions count = (c : ℕ) → c < count → HasWriting (queries_of (get_or conditions c RunOnce)) → ⊥

-- the first condition that writes, or that none does
abbrev pub TellsWriting : List Condition → Option ℕ → Type 0
TellsWriting conditions None = AreReadingBelow conditions (length conditions)
TellsWriting conditions (Some c) = (c < length conditions) × HasWriting (queries_of (get_or conditions c RunOnce)) × AreReadingBelow conditions c

-- ---- conditions of a schedule

-- a condition of a schedule by what it asks and the systems that it covers
abbrev pub scheduled_condition : Condition → List ℕ → ScheduledCondition
scheduled_condition condition covers = record { condition = condition; covers = covers }

-- the conditions, each with the systems that it covers
pub record AreScheduledConditions (asked : List Condition) (coverage : List (List ℕ)) (conditions : List ScheduledCondition) : Type 0 where
  pub long : length conditions ≡ length asked
  pub each : (c : ℕ) → c < length asked → get_or conditions c (scheduled_condition RunOnce []) ≡ scheduled_condition (get_or asked c RunOnce) (get_or coverage c [])

-- ---- systems that may be ambiguous

-- what a pair has beside a number
abbrev pub other_in : Order → ℕ → List ℕ
other_in pair n = (if pair.first == n then pair.second ∷ [] else []) ++ (if pair.second == n then pair.first ∷ [] else [])

-- for each of so many systems those with which a pair has it, either way
pub record AreSilences (count : ℕ) (pairs : List Order) (lists : List (List ℕ)) : Type 0 where
  pub long : length lists ≡ count
  pub each : (m n : ℕ) → m < count → (has n (get_or lists m []) ≡ true) ↔ (IsIn (m, n) (pairs_of pairs) ⊎ IsIn (n, m) (pairs_of pairs))

-- the lists of a schedule are those that are declared
abbrev pub AreDeclaredSilences : Declared → List (List ℕ) → Type 0
AreDeclaredSilences d lists = (length lists ≡ length d.systems) × ((m n : ℕ) → m < length lists → (has n (get_or lists m []) ≡ true) ↔ (IsSilence d m n ⊎ IsSilence d n m))
