-- Which systems stand for others where a drawing is folded.
use Rattle.std.specs.Prelude.{ℕ, ◌==◌, ◌&&◌, nat_le, Bool, false, cond, List, [], ◌∷◌, length, get_or, Option, Some, None}
use Rattle.model.specs.Lists.{has}
use Rattle.model.specs.steps.Schedule.{Schedule, ScheduledSystem, level_of}
use Rattle.schedule_drawing.specs.Places.{next_row, leader_of}

-- the first of these sets of which a system is a member, where the first has this number
abbrev pub first_from : ℕ → ℕ → List (List ℕ) → Option ℕ
first_from n k [] = None
first_from n k (members ∷ sets) = cond (has n members) (Some k) (first_from n (next_row k) sets)

-- the same for each system, where the first has this number
abbrev pub holders_from : List (List ℕ) → ℕ → List ScheduledSystem → List (Option ℕ)
holders_from sets n [] = []
holders_from sets n (x ∷ systems) = first_from n 0 sets ∷ holders_from sets (next_row n) systems

-- the set that holds each system: none where there are at most 60 systems
abbrev pub holders_of : Schedule → List (List ℕ) → List (Option ℕ)
holders_of s sets = cond (nat_le (length s.systems) 60) [] (holders_from sets 0 s.systems)

-- the set that holds a system
abbrev pub holder_of : List (Option ℕ) → ℕ → Option ℕ
holder_of holders n = get_or holders n None

-- whether a set is this one
abbrev pub is_set : ℕ → Option ℕ → Bool
is_set k None = false
is_set k (Some j) = j == k

-- whether a set holds a system, of a level
abbrev pub is_held_at : Schedule → List (Option ℕ) → ℕ → ℕ → ℕ → Bool
is_held_at s holders k level n = is_set k (holder_of holders n) && (level_of s n == level)

-- the first of these systems that a set holds, of a level; another where there is none
abbrev pub first_in_order : Schedule → List (Option ℕ) → ℕ → ℕ → ℕ → List ℕ → ℕ
first_in_order s holders k level other [] = other
first_in_order s holders k level other (n ∷ order) = cond (is_held_at s holders k level n) n (first_in_order s holders k level other order)

-- the leader of a system, by the set that holds it: itself, or the first in schedule order that the set holds, of its level
abbrev pub leader_by : Schedule → List (Option ℕ) → ℕ → Option ℕ → ℕ
leader_by s holders n None = n
leader_by s holders n (Some k) = first_in_order s holders k (level_of s n) n s.order

abbrev pub leader_for : Schedule → List (Option ℕ) → ℕ → ℕ
leader_for s holders n = leader_by s holders n (holder_of holders n)

-- those of all systems, where the first has this number
abbrev pub leaders_from : Schedule → List (Option ℕ) → ℕ → List ScheduledSystem → List ℕ
leaders_from s holders n [] = []
leaders_from s holders n (x ∷ systems) = leader_for s holders n ∷ leaders_from s holders (next_row n) systems

abbrev pub leaders_of : Schedule → List (Option ℕ) → List ℕ
leaders_of s holders = leaders_from s holders 0 s.systems

-- how many of these systems have a leader, behind so many
abbrev pub led_from : List ℕ → ℕ → ℕ → List ℕ → ℕ
led_from leaders leader count [] = count
led_from leaders leader count (n ∷ order) = led_from leaders leader (cond (leader_of leaders n == leader) (next_row count) count) order
