-- What a search for queries at fault tells.
use Rattle.std.specs.Prelude.{ℕ, ◌<◌, ◌≡◌, List, [], Option, Some, None, length, get_or}
use Rattle.model.specs.access.Query.{Term}
use Rattle.model.specs.declarations.Declarations.{Declared}
use Rattle.model.specs.access.QueryFaults.{query_fault}
use Rattle.model.specs.declarations.Refusals.{query_of}

-- no query of a number below one is at fault
abbrev pub AreGoodBelow : List (List Term) → ℕ → Type 0
AreGoodBelow queries number = (k : ℕ) → k < number → query_fault (get_or queries k []) ≡ None

-- the first query at fault, with its least fault, or that none is
abbrev pub TellsFault : List (List Term) → Option (ℕ × ℕ) → Type 0
TellsFault queries None = AreGoodBelow queries (length queries)
TellsFault queries (Some (number, fault)) = (query_fault (get_or queries number []) ≡ Some fault) × AreGoodBelow queries number

-- no query of a system of a number below one is at fault
abbrev pub AreGoodSystemsBelow : Declared → ℕ → Type 0
AreGoodSystemsBelow d item = (m k : ℕ) → m < item → query_fault (query_of d m k) ≡ None

-- the first system with a query at fault and its first such query, with the least fault of that, or that none is
abbrev pub TellsFirstFault : Declared → Option (ℕ × ℕ × ℕ) → Type 0
TellsFirstFault d None = AreGoodSystemsBelow d (length d.systems)
TellsFirstFault d (Some (item, number, fault)) = (item < length d.systems) × (query_fault (query_of d item number) ≡ Some fault) × AreGoodSystemsBelow d item × ((k : ℕ) → k < number → query_fault (query_of d item k) ≡ None)
