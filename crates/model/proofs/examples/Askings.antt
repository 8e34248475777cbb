-- Each condition by itself on states made by hand, and the cursors of several readers in one condition.
use Rattle.std.proofs.Common.{◌≡◌, ℕ, ℤ, pos, Bool, true, false, List, [], ◌∷◌, refl}
use Rattle.model.specs.state.State.{State, EventQueue, empty_queue}
use Rattle.model.specs.access.Query.Term.{Read, With, Added}
use Rattle.model.specs.state.Events.{send_all}
use Rattle.model.specs.access.Condition.{Condition, holds, cursors_after}
use Rattle.model.specs.access.Condition.Condition.{RunOnce, ResourceEquals, ResourceAtLeast, ResourceChanged, AnyWith, OnEvent, Not, And, Or}
use Rattle.model.specs.state.Loaded.{loaded}
use Rattle.model.proofs.examples.Bodies.{health, frozen, round, total, hit, given, plain, computed}

-- the event kinds beside hit
abbrev heal : ℕ
heal = 1

abbrev spark : ℕ
spark = 2

-- Round is 5; one entity has health; of hit one event is kept, of heal two, of spark three, numbered from 0
abbrev queue : List ℤ → EventQueue
queue values = send_all values empty_queue

abbrev state : State
state = record (loaded (plain [] []) ((given health (pos 1 ∷ []) ∷ []) ∷ []) (pos 5 ∷ pos 0 ∷ pos 0 ∷ pos 0 ∷ pos 0 ∷ pos 0 ∷ pos 0 ∷ pos 0 ∷ [])) {
  events = queue (pos 4 ∷ []) ∷ queue (pos 4 ∷ pos 5 ∷ []) ∷ queue (pos 4 ∷ pos 5 ∷ pos 6 ∷ []) ∷ empty_queue ∷ [];
}

-- whether a condition holds there, for a last run and cursors
abbrev asks_at : ℕ → List ℕ → Condition → Bool
asks_at last cursors c = holds c last cursors state

-- ---- each by itself

first_time : asks_at 0 [] RunOnce ≡ true
first_time = refl

asked_before : asks_at 1 [] RunOnce ≡ false
asked_before = refl

equal : asks_at 0 [] (ResourceEquals round (pos 5)) ≡ true
equal = refl

not_equal : asks_at 0 [] (ResourceEquals round (pos 6)) ≡ false
not_equal = refl

at_least_less : asks_at 0 [] (ResourceAtLeast round (pos 4)) ≡ true
at_least_less = refl

at_least_same : asks_at 0 [] (ResourceAtLeast round (pos 5)) ≡ true
at_least_same = refl

at_least_more : asks_at 0 [] (ResourceAtLeast round (pos 6)) ≡ false
at_least_more = refl

-- as loaded a resource has the stamp 1
changed : asks_at 0 [] (ResourceChanged total) ≡ true
changed = refl

not_changed : asks_at 1 [] (ResourceChanged total) ≡ false
not_changed = refl

some_row : asks_at 1 [] (AnyWith (Read health ∷ [])) ≡ true
unfolding computed
some_row = refl

no_row : asks_at 1 [] (AnyWith (With frozen ∷ [])) ≡ false
unfolding computed
no_row = refl

-- filters of a condition compare with its own last run
added_row : asks_at 0 [] (AnyWith (Added health ∷ [])) ≡ true
unfolding computed
added_row = refl

added_before : asks_at 1 [] (AnyWith (Added health ∷ [])) ≡ false
unfolding computed
added_before = refl

unread_event : asks_at 1 (0 ∷ []) (OnEvent hit) ≡ true
unread_event = refl

read_event : asks_at 1 (1 ∷ []) (OnEvent hit) ≡ false
read_event = refl

negated : asks_at 0 [] (Not RunOnce) ≡ false
negated = refl

-- ---- both, and either

abbrev yes : Condition
yes = ResourceEquals round (pos 5)

abbrev no : Condition
no = ResourceEquals round (pos 6)

both : asks_at 0 [] (And yes yes) ≡ true
both = refl

first_alone : (asks_at 0 [] (And yes no) ≡ false) × (asks_at 0 [] (Or yes no) ≡ true)
first_alone = (refl, refl)

second_alone : (asks_at 0 [] (And no yes) ≡ false) × (asks_at 0 [] (Or no yes) ≡ true)
second_alone = (refl, refl)

neither : (asks_at 0 [] (And no no) ≡ false) × (asks_at 0 [] (Or no no) ≡ false)
neither = (refl, refl)

-- ---- three readers under brackets: each has its own cursor, from the left, also where the answer is decided without it

-- hit from 1 on: none; heal from 1 on: one; spark from 3 on: none
second_of_either : asks_at 1 (1 ∷ 1 ∷ 3 ∷ []) (And (Or (OnEvent hit) (OnEvent heal)) (OnEvent spark)) ≡ false
second_of_either = refl

-- hit from 1 on: none; heal from 3 on: none; spark from 2 on: one
second_of_both : asks_at 1 (1 ∷ 3 ∷ 2 ∷ []) (Or (And (OnEvent hit) (OnEvent heal)) (OnEvent spark)) ≡ true
second_of_both = refl

-- hit from 0 on: one; heal from 2 on: none; spark from 1 on: two
from_the_left : asks_at 1 (0 ∷ 2 ∷ 1 ∷ []) (And (OnEvent hit) (And (Not (OnEvent heal)) (OnEvent spark))) ≡ true
from_the_left = refl

-- what is left of the cursors after all three
left_over : cursors_after (And (Or (OnEvent hit) (OnEvent heal)) (Not (OnEvent spark))) (1 ∷ 2 ∷ 3 ∷ 4 ∷ []) ≡ 4 ∷ []
left_over = refl
