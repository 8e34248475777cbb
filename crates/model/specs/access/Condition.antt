-- Run conditions: what they ask about, and what they mean.
use Rattle.std.specs.Prelude.{ℕ, ℤ, pos, Bool, false, not, ◌&&◌, ◌||◌, ◌==◌, nat_lt, int_le, List, [], ◌∷◌, ◌++◌, get_or, None}
use Rattle.std.specs.Ordering.{int_eq}
use Rattle.model.specs.Lists.{head_or, tail_of, is_there}
use Rattle.model.specs.state.State.{State, no_resource}
use Rattle.model.specs.access.Query.{Term}
use Rattle.model.specs.access.Access.{Params}
use Rattle.model.specs.state.Events.{unread, queue_of}
use Rattle.model.specs.shown.Input.{ShownRow, rows_of, value_of}

-- a run condition
pub data Condition : Type 0 where
  RunOnce : Condition
  ResourceEquals ResourceAtLeast : (number : ℕ) → (value : ℤ) → Condition
  ResourceChanged : (number : ℕ) → Condition
  AnyWith : (query : List Term) → Condition
  OnEvent : (kind : ℕ) → Condition
  Not : Condition → Condition
  And Or : Condition → Condition → Condition

-- ---- what a condition asks about, in order

-- its queries
abbrev pub queries_of : Condition → List (List Term)
queries_of (AnyWith q) = q ∷ []
queries_of (Not c) = queries_of c
queries_of (And c d) = queries_of c ++ queries_of d
queries_of (Or c d) = queries_of c ++ queries_of d
queries_of _ = []

-- its resources
abbrev pub resources_of : Condition → List ℕ
resources_of (ResourceEquals n v) = n ∷ []
resources_of (ResourceAtLeast n v) = n ∷ []
resources_of (ResourceChanged n) = n ∷ []
resources_of (Not c) = resources_of c
resources_of (And c d) = resources_of c ++ resources_of d
resources_of (Or c d) = resources_of c ++ resources_of d
resources_of _ = []

-- the resources of which it asks whether they changed
abbrev pub watched_of : Condition → List ℕ
watched_of (ResourceChanged n) = n ∷ []
watched_of (Not c) = watched_of c
watched_of (And c d) = watched_of c ++ watched_of d
watched_of (Or c d) = watched_of c ++ watched_of d
watched_of _ = []

-- the event kinds of its readers
abbrev pub events_of : Condition → List ℕ
events_of (OnEvent k) = k ∷ []
events_of (Not c) = events_of c
events_of (And c d) = events_of c ++ events_of d
events_of (Or c d) = events_of c ++ events_of d
events_of _ = []

-- its access: all of it read
abbrev pub access_of_condition : Condition → Params
access_of_condition c = record { queries = queries_of c; res = resources_of c; res_mut = []; reads = events_of c; writes = []; spawns = None }

-- ---- its meaning on a state

-- the cursors after those of its readers
abbrev pub cursors_after : Condition → List ℕ → List ℕ
cursors_after (OnEvent k) cursors = tail_of cursors
cursors_after (Not c) cursors = cursors_after c cursors
cursors_after (And c d) cursors = cursors_after d (cursors_after c cursors)
cursors_after (Or c d) cursors = cursors_after d (cursors_after c cursors)
cursors_after _ cursors = cursors

-- whether it holds in a state, for its last run and its cursors. Both sides of `and` and `or` are evaluated
abbrev pub holds : Condition → ℕ → List ℕ → State → Bool
holds RunOnce last cursors w = last == 0
holds (ResourceEquals n v) last cursors w = int_eq (value_of w.world.resources n) v
holds (ResourceAtLeast n v) last cursors w = int_le v (value_of w.world.resources n)
holds (ResourceChanged n) last cursors w = nat_lt last (get_or w.world.resources n no_resource).changed
holds (AnyWith q) last cursors w = is_there (rows_of q last w.world.slots)
holds (OnEvent k) last cursors w = is_there (unread (queue_of w.events k) (head_or 0 cursors))
holds (Not c) last cursors w = not (holds c last cursors w)
holds (And c d) last cursors w = holds c last cursors w && holds d last (cursors_after c cursors) w
holds (Or c d) last cursors w = holds c last cursors w || holds d last (cursors_after c cursors) w

-- ---- its meaning on what it is asked about

-- what one part of a condition is asked about: whether it was never asked, the value of a resource, whether a resource is newer
-- than the last run, the rows of a query, the unread events of a kind; for two parts both
pub data Asked : Type 0 where
  Never : Bool → Asked
  Value : ℤ → Asked
  IsNewer : Bool → Asked
  Rows : List ShownRow → Asked
  Unread : List ℤ → Asked
  Both : Asked → Asked → Asked

-- what a condition is asked about in a state, for its last run and its cursors
abbrev pub asked : Condition → ℕ → List ℕ → State → Asked
asked RunOnce last cursors w = Never (last == 0)
asked (ResourceEquals n v) last cursors w = Value (value_of w.world.resources n)
asked (ResourceAtLeast n v) last cursors w = Value (value_of w.world.resources n)
asked (ResourceChanged n) last cursors w = IsNewer (nat_lt last (get_or w.world.resources n no_resource).changed)
asked (AnyWith q) last cursors w = Rows (rows_of q last w.world.slots)
asked (OnEvent k) last cursors w = Unread (unread (queue_of w.events k) (head_or 0 cursors))
asked (Not c) last cursors w = asked c last cursors w
asked (And c d) last cursors w = Both (asked c last cursors w) (asked d last (cursors_after c cursors) w)
asked (Or c d) last cursors w = Both (asked c last cursors w) (asked d last (cursors_after c cursors) w)

-- the parts of what is asked
abbrev pub flag_of : Asked → Bool
flag_of (Never b) = b
flag_of (IsNewer b) = b
flag_of (Rows rows) = is_there rows
flag_of (Unread events) = is_there events
flag_of (Value v) = false
flag_of (Both a b) = false

abbrev pub asked_value : Asked → ℤ
asked_value (Value v) = v
asked_value _ = pos 0

abbrev pub left_of : Asked → Asked
left_of (Both a b) = a
left_of a = a

abbrev pub right_of : Asked → Asked
right_of (Both a b) = b
right_of a = a

-- what a condition answers on what it is asked about
abbrev pub means : Condition → Asked → Bool
means RunOnce a = flag_of a
means (ResourceEquals n v) a = int_eq (asked_value a) v
means (ResourceAtLeast n v) a = int_le v (asked_value a)
means (ResourceChanged n) a = flag_of a
means (AnyWith q) a = flag_of a
means (OnEvent k) a = flag_of a
means (Not c) a = not (means c a)
means (And c d) a = means c (left_of a) && means d (right_of a)
means (Or c d) a = means c (left_of a) || means d (right_of a)
