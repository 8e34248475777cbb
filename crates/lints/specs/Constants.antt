-- Conditions that always answer alike, by what no system writes and no entity has.
use Rattle.std.specs.Prelude.{ℕ, ℤ, pos, ◌==◌, ◌&&◌, ◌||◌, int_le, not, Bool, true, false, List, get_or, Option, Some, None, option_map, if◌then◌else◌}
use Rattle.std.specs.List.{HoldsAt, list_any}
use Rattle.std.specs.Ordering.{int_eq}
use Rattle.kinds.specs.Kind.{kind_number}
use Rattle.kinds.specs.declared.kind.Kind.{Kind}
use Rattle.model.specs.Lists.{has}
use Rattle.model.specs.access.Condition.{Condition}
use Rattle.model.specs.access.Query.{Term}
use Rattle.model.specs.steps.Schedule.{Schedule, ScheduledCondition, ScheduledSystem}
use Rattle.lints.specs.Collected.{Either, Tested}
use Rattle.lints.specs.Kinds.{every_kind, requires_kind}
use Rattle.lints.specs.declared.lint.Lint.{Lint}
use Rattle.lints.specs.declared.lint.Lint.TheVariants as lint

-- ---- what is known

-- some system writes a resource, or events of a kind, by number
abbrev pub writes_resource : Schedule → ℕ → Bool
writes_resource s n = list_any (λ (system : ScheduledSystem). has n system.params.res_mut) s.systems

abbrev pub writes_event : Schedule → ℕ → Bool
writes_event s k = list_any (λ (system : ScheduledSystem). has k system.params.writes) s.systems

-- the value of a resource at the start; a kind is on some entity or is inserted
abbrev pub start_at : List ℤ → ℕ → ℤ
start_at values n = get_or values n (pos 0)

abbrev pub is_there : List Bool → ℕ → Bool
is_there present n = get_or present n false

-- a query requires a kind that is not
abbrev pub is_unmet : List Bool → List Term → Bool
is_unmet present query = list_any (λ kind. requires_kind query (kind_number kind) && not (is_there present (kind_number kind))) every_kind

-- ---- answers that are known

-- an answer, where nothing changes it
abbrev pub unless : Bool → Bool → Option Bool
unless changes answer = if changes then None else Some answer

-- no, where something never is
abbrev pub no_where : Bool → Option Bool
no_where never = if never then Some false else None

-- both hold: one that doesn't settles it; one or the other does: one that does settles it
abbrev pub both : Option Bool → Option Bool → Option Bool
both (Some false) b = Some false
both (Some true) b = b
both None (Some false) = Some false
both None (Some true) = None
both None None = None

abbrev pub one_of : Option Bool → Option Bool → Option Bool
one_of (Some true) b = Some true
one_of (Some false) b = b
one_of None (Some true) = Some true
one_of None (Some false) = None
one_of None None = None

-- the answer that a condition always gives; that a resource changed is not known, since it is so once
abbrev pub decided : Schedule → List ℤ → List Bool → Condition → Option Bool
decided s values present Condition.RunOnce = None
decided s values present (Condition.ResourceEquals n value) = unless (writes_resource s n) (int_eq (start_at values n) value)
decided s values present (Condition.ResourceAtLeast n value) = unless (writes_resource s n) (int_le value (start_at values n))
decided s values present (Condition.ResourceChanged n) = None
decided s values present (Condition.AnyWith query) = no_where (is_unmet present query)
decided s values present (Condition.OnEvent k) = unless (writes_event s k) false
decided s values present (Condition.Not c) = option_map not (decided s values present c)
decided s values present (Condition.And c d) = both (decided s values present c) (decided s values present d)
decided s values present (Condition.Or c d) = one_of (decided s values present c) (decided s values present d)

-- an answer is known, and is this one
abbrev pub says_yes : Option Bool → Bool
says_yes None = false
says_yes (Some answer) = answer

abbrev pub says_no : Option Bool → Bool
says_no None = false
says_no (Some answer) = not answer

-- what is found of a condition
abbrev pub IsOfAnswer : Option Bool → ℕ → Lint → Type 0
IsOfAnswer answer n = Either (Tested (says_yes answer) (lint.ConstantCondition n true)) (Tested (says_no answer) (lint.ConstantCondition n false))

unfoldable pub IsOfCondition : Schedule → List ℤ → List Bool → ℕ → Lint → Type 0
IsOfCondition s values present n found = HoldsAt (λ (c : ScheduledCondition). IsOfAnswer (decided s values present c.condition) n found) s.conditions n
