-- The nearest of some names is near.
use Rattle.std.proofs.Common.{◌≡◌, ℕ, List, length, get_or, IfSome, subst}
use Rattle.std.specs.Borrow.{Bor}
use Rattle.std.proofs.lemmas.Option.{slice_get-get_or}
use Rattle.explaining.specs.Near.{IsNear, IsNearest, NoneIsNearer, distance}
use Rattle.explaining.specs.declared.names.Candidate.{Candidate}

pub near_of : (word : List ℕ) (names : List (Bor (List ℕ))) (nearest : Candidate) (d : Bor (List ℕ)) → IsNearest word names (length names) nearest → IsNear word names (get_or names nearest.number d)
near_of word names nearest d h =
    let name = get_or names nearest.number d in
    let there = slice_get-get_or names nearest.number d h.within in
    let far : nearest.distance ≡ distance word name.now = subst (λ found. IfSome found (λ name. nearest.distance ≡ distance word name.now)) there h.far in
    record { number = nearest.number; there = there; least = subst (NoneIsNearer word names (length names)) far h.least }
