-- Which systems meet a system, and which a condition, where these are the kind sets that are there.
use Rattle.std.specs.Prelude.{ℕ, ◌<◌, List, length, Some}
use Rattle.model.specs.access.Meeting.{Meet}
use Rattle.model.specs.steps.Schedule.{Schedule, params_of, access_of}

-- a system meets another
abbrev pub IsMeeting : Schedule → List ℕ → ℕ → ℕ → Type 0
IsMeeting s sets n m = (m < length s.systems) × Meet (Some sets) (params_of s m) (params_of s n)

-- a system meets what a condition asks about
abbrev pub IsClashing : Schedule → List ℕ → ℕ → ℕ → Type 0
IsClashing s sets c m = (m < length s.systems) × Meet (Some sets) (params_of s m) (access_of s c)
