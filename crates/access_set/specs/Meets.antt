-- Where two accesses conflict, in three parts, as they are looked for.
use Rattle.std.specs.Prelude.{ℕ}
use Rattle.model.specs.access.Access.{Params}
use Rattle.model.specs.access.Conflict.{ConflictAt}
use Rattle.model.specs.access.Conflict.Datum.{OfKind, OfResource, OfEvent}

-- at some kind
abbrev pub MeetAtKind : Params → Params → Type 0
MeetAtKind a b = (kind : ℕ) × ConflictAt a b (OfKind kind)

-- at some resource
abbrev pub MeetAtResource : Params → Params → Type 0
MeetAtResource a b = (number : ℕ) × ConflictAt a b (OfResource number)

-- at some event kind
abbrev pub MeetAtEvent : Params → Params → Type 0
MeetAtEvent a b = (kind : ℕ) × ConflictAt a b (OfEvent kind)
