-- Tables where a row can be laid: one may be made, and one has other room.
use Rattle.archetype_store.proofs.Common.{ℕ, List, Option, TableValue, EntityLocation, AreRowsKnown, IsGrown}
use Rattle.archetype_store.proofs.RowNumbers.{known_kept}

-- nothing else than one more table
pub grown_known : (T T1 : List TableValue) (P : List (Option EntityLocation)) (N : List ℕ) → IsGrown T T1 → AreRowsKnown T P N → AreRowsKnown T1 P N
grown_known T T1 P N grown h = known_kept T T1 P N grown.entities h
