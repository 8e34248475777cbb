-- Sets that are in themselves, and circles of sets, from what is found of their pairs.
use Rattle.std.proofs.Common.{ℕ, ◌<◌, ◌≤◌, ◌≡◌, List, [], ◌∷◌, ◌++◌, length, take, get_or, Option, Some, None, sym, ap, ◌∙◌, arith}
use Rattle.model.specs.declarations.Walks.{IsWalk}
use Rattle.model.specs.declarations.Hierarchy.{IsHeld, HasNoSelf, IsFirstSelf, HasNoSetCycle, IsReportedSetCycle}
use Rattle.cycle_search.specs.declared.order.Order.{Order}
use Rattle.cycle_search.specs.Cycles.{IsStep, IsRankable, IsRound, BeginsLeast}
use Rattle.cycle_search.proofs.Walks.{walk_weaker, no_round}
use Rattle.system_set.specs.Pairs.{hierarchy_of, TellsSelf}
use Rattle.system_set.proofs.Reaching.{held_place, held_of_step, step_of_held}

-- the pair at the last place puts its item into itself
record IsLast (orders : List Order) (k : ℕ) (o : Order) : Type 0 where
  low : k < length orders
  here : (d : Order) → get_or orders k d ≡ o

first_here : (orders : List Order) (k : ℕ) (o : Order) → IsLast orders k o → (j : ℕ) (d : Order) → j ≡ k → (get_or orders j d).first ≡ o.first
first_here orders k o last j d same = ap (λ (i : ℕ). (get_or orders i d).first) same ∙ ap (λ (x : Order). x.first) (last.here d)

-- ---- what is told of all pairs

pub no_self : (sets items : ℕ) (orders : List Order) (least : Option ℕ) → least ≡ None → TellsSelf orders (length orders) least → HasNoSelf (hierarchy_of sets items orders)
no_self sets items orders None is tells = λ n held.
    let r = held_place orders n n held in
    let d : Order = record { first = 0; second = 0 } in
    let here = r.2 d in
    tells r.0 d r.1 (here.0 ∙ sym here.1)
no_self sets items orders (Some m) is tells = absurd (cc)

pub first_self : (sets items : ℕ) (orders : List Order) (n : ℕ) → TellsSelf orders (length orders) (Some n) → IsFirstSelf (hierarchy_of sets items orders) n
first_self sets items orders n tells = record {
  itself = held_of_step orders n n tells.0;
  first = λ m low held.
      let r = held_place orders m m held in
      let d : Order = record { first = 0; second = 0 } in
      let here = r.2 d in
      let least : n ≤ (get_or orders r.0 d).first = tells.1 r.0 d r.1 (here.0 ∙ sym here.1) in
      let same : (get_or orders r.0 d).first ≡ m = here.0 in
      omega arith;
}

-- ---- circles

pub no_set_cycle : (sets items : ℕ) (orders : List Order) → IsRankable (IsStep orders) → HasNoSetCycle (hierarchy_of sets items orders)
no_set_cycle sets items orders rank circle c =
    let long : 2 ≤ length circle = c.two in
    no_round (IsStep orders) rank circle (omega arith) (walk_weaker (IsHeld (hierarchy_of sets items orders)) (IsStep orders) (step_of_held orders) (circle ++ take 1 circle) c.held)

two_of : (sets items : ℕ) (orders : List Order) → HasNoSelf (hierarchy_of sets items orders) → (circle : List ℕ) → 0 < length circle → IsWalk (IsStep orders) (circle ++ take 1 circle) → 2 ≤ length circle
two_of sets items orders none [] some walk = absurd (omega arith)
two_of sets items orders none (x ∷ []) some walk = absurd (none x (held_of_step orders x x walk.0))
two_of sets items orders none (x ∷ y ∷ circle) some walk = omega arith

pub told_set_cycle : (sets items : ℕ) (orders : List Order) → HasNoSelf (hierarchy_of sets items orders) → (circle : List ℕ) → IsRound (IsStep orders) circle → BeginsLeast circle →
    IsReportedSetCycle (hierarchy_of sets items orders) circle
told_set_cycle sets items orders none circle round least = record {
  cycle = record {
    two = two_of sets items orders none circle round.some round.walk;
    once = round.once;
    held = walk_weaker (IsStep orders) (IsHeld (hierarchy_of sets items orders)) (held_of_step orders) (circle ++ take 1 circle) round.walk;
  };
  earliest = least;
}

-- ranks of pairs are ranks of what is held
pub held_rankable : (sets items : ℕ) (pairs : List Order) → IsRankable (IsStep pairs) → IsRankable (IsHeld (hierarchy_of sets items pairs))
held_rankable sets items pairs r = record { rank = r.rank; bound = r.bound; bounded = r.bounded; falls = λ m n held. r.falls m n (step_of_held pairs m n held) }

pub step_rankable : (sets items : ℕ) (pairs : List Order) → IsRankable (IsHeld (hierarchy_of sets items pairs)) → IsRankable (IsStep pairs)
step_rankable sets items pairs r = record { rank = r.rank; bound = r.bound; bounded = r.bounded; falls = λ m n step. r.falls m n (held_of_step pairs m n step) }
