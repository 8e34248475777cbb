-- The number and the text of a fault of a query.
use Rattle.std.specs.Prelude.{ℕ, List, codes}
use Rattle.query.specs.declared.check.BadQuery.{BadQuery}
use Rattle.query.specs.declared.check.BadQuery.TheVariants.{RequiredExcluded, FetchedTwice, OptExcluded, OrMisused}

-- the number of a fault
abbrev pub fault_number : BadQuery → ℕ
fault_number RequiredExcluded = 1
fault_number FetchedTwice = 2
fault_number OptExcluded = 3
fault_number OrMisused = 4

-- the number as it is printed
abbrev pub bad_query_text : BadQuery → List ℕ
bad_query_text RequiredExcluded = codes "1"
bad_query_text FetchedTwice = codes "2"
bad_query_text OptExcluded = codes "3"
bad_query_text OrMisused = codes "4"
