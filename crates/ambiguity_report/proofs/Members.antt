-- The members of a condition, as they are read.
use Rattle.std.proofs.Common.{ℕ, suc, ◌<◌, ◌≡◌, ◌↔◌, inl, inr, Bool, true, false, not, List, [], ◌∷◌, length, get_or, sym, subst, arith}
use Rattle.std.proofs.lemmas.Bool.{both_ways, not-true, not_from_false, false_from_ne_true}
use Rattle.std.proofs.lemmas.List.{get_or_default}
use Rattle.std.specs.List.{All, Any}
use Rattle.model.specs.Lists.{has, IsIn}
use Rattle.model.specs.steps.Schedule.{Schedule, condition_at}
use Rattle.model.specs.steps.Built.{IsBuilt}
use Rattle.model.specs.steps.Ambiguity.{Before, IsMember}
use Rattle.model.proofs.lists.Lists.{IsIn_from_has}
use Rattle.ambiguity_report.specs.Races.{IsOutside}
use Rattle.ambiguity_report.proofs.Reaching.{has_at}

-- what is in a list stands at a place of it
place_in : (n : ℕ) (xs : List ℕ) → IsIn n xs → (k : ℕ) × (k < length xs) × ((d : ℕ) → get_or xs k d ≡ n)
place_in n [] h = absurd h
place_in n (x ∷ xs) (inl same) = (0, omega arith, λ d. sym same)
place_in n (x ∷ xs) (inr later) = let r = place_in n xs later in (suc r.0, omega (arith, r.1), r.2)

-- a system that a list of covered systems has at a place is a member
pub member_at : (s : Schedule) → IsBuilt s → (c : ℕ) (members : List ℕ) → members ≡ (condition_at s c).covers → (k d : ℕ) → k < length members → IsMember s c (get_or members k d)
member_at s built c members same k d low =
    let here : has (get_or members k d) members ≡ true = subst (λ (n : ℕ). has n members ≡ true) (get_or_default members k 0 d low) (has_at members k low) in
    let covered : has (get_or members k d) (condition_at s c).covers ≡ true = subst (λ (xs : List ℕ). has (get_or members k d) xs ≡ true) same here in
    record { known = built.covered c (get_or members k d) covered; covered = covered }

-- a member stands at a place
place_of : (s : Schedule) (c : ℕ) (members : List ℕ) → members ≡ (condition_at s c).covers → (m : ℕ) → IsMember s c m → (k : ℕ) × (k < length members) × ((d : ℕ) → get_or members k d ≡ m)
place_of s c members same m member = place_in m members (IsIn_from_has m members (subst (λ (xs : List ℕ). has m xs ≡ true) (sym same) member.covered))

-- a system before each of these is before every member, and the other way round
pub before_every : (s : Schedule) (c n : ℕ) (members : List ℕ) → members ≡ (condition_at s c).covers → All (Before s n) members → (m : ℕ) → IsMember s c m → Before s n m
before_every s c n members same all m member = let p = place_of s c members same m member in subst (Before s n) (p.2 0) (all p.0 0 p.1)

before_all : (s : Schedule) → IsBuilt s → (c n : ℕ) (members : List ℕ) → members ≡ (condition_at s c).covers → ((m : ℕ) → IsMember s c m → Before s n m) → All (Before s n) members
before_all s built c n members same every = λ k d low. every (get_or members k d) (member_at s built c members same k d low)

-- a system after one of these is after a member, and the other way round
after_member : (s : Schedule) → IsBuilt s → (c n : ℕ) (members : List ℕ) → members ≡ (condition_at s c).covers → Any (λ m. Before s m n) members → (m : ℕ) × IsMember s c m × Before s m n
after_member s built c n members same one =
    (one.1, subst (IsMember s c) one.3 (member_at s built c members same one.0 one.1 one.2), one.4)

after_any : (s : Schedule) (c n : ℕ) (members : List ℕ) → members ≡ (condition_at s c).covers → (m : ℕ) → IsMember s c m → Before s m n → Any (λ m. Before s m n) members
after_any s c n members same m member before = let p = place_of s c members same m member in (p.0, m, p.1, p.2 m, before)

-- a system that is none of these, nor before each, is outside where it is after none
pub outside_tells : (s : Schedule) → IsBuilt s → (c n : ℕ) (members : List ℕ) → members ≡ (condition_at s c).covers → has n members ≡ false → (every one : Bool) → every ≡ false →
    (every ≡ true) ↔ All (Before s n) members → (one ≡ true) ↔ Any (λ m. Before s m n) members → (not one ≡ true) ↔ IsOutside s c n
outside_tells s built c n members same none every one not_every every_tells one_tells = (
  (λ e. record {
    no_member = λ member. both_ways (has n members) none (subst (λ (xs : List ℕ). has n xs ≡ true) (sym same) member.covered);
    not_before = λ all. both_ways every not_every (every_tells.1 (before_all s built c n members same all));
    not_after = λ m member before. both_ways one (not-true one e) (one_tells.1 (after_any s c n members same m member before));
  }),
  (λ outside. not_from_false one (false_from_ne_true one (λ e. let found = after_member s built c n members same (one_tells.0 e) in outside.not_after found.0 found.1 found.2))),
)
