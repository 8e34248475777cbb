-- The members of sets in sets, computed.
use Rattle.std.proofs.Common.{◌≡◌, false, [], ◌∷◌, refl}
use Rattle.model.specs.declarations.Hierarchy.{Hierarchy, Reaches, reaches_within, members_of}
use Rattle.model.proofs.order.Hierarchies.{reaches_from_test}

-- three sets and four systems: the first two sets are in the third; one system in each of these two, one in both, one in none
abbrev nested : Hierarchy
nested = record { sets = 3; items = 7; inside = (0, 2) ∷ (1, 2) ∷ (3, 0) ∷ (4, 1) ∷ (5, 0) ∷ (5, 1) ∷ [] }

first_members : members_of nested 0 ≡ 3 ∷ 5 ∷ []
first_members = refl

second_members : members_of nested 1 ≡ 4 ∷ 5 ∷ []
second_members = refl

-- a system that is in both sets is a member once
all_members : members_of nested 2 ≡ 3 ∷ 4 ∷ 5 ∷ []
all_members = refl

-- a set is reached through the set between
through : Reaches nested 3 2
through = reaches_from_test 3 nested 3 2 refl

-- a system in no set reaches none
in_none : reaches_within 3 nested 6 2 ≡ false
in_none = refl
