use Rattle.std.proofs.Common.{List, take}
use Rattle.model.specs.Lists.{IsIn}
use Rattle.model.specs.access.Query.{Term}
use Rattle.access_set.specs.Datum.{AreKnownKinds}
use Rattle.access_set.proofs.datum.are_known_kinds.Given as goal

abbrev pub invariant-loop-query : goal.invariant-loop-query
invariant-loop-query l = (query : List Term) → IsIn query (take l.query-index l.queries) → AreKnownKinds query
