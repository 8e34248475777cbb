-- What marks tell of the two items of an order.
use Rattle.std.proofs.Common.{ℕ, ◌+◌, ◌<◌, ◌≤◌, ◌≡◌, Bool, true, false, ◌⊎◌, inl, inr, List, [], ◌∷◌, ◌++◌, length, take, get_or, Option, Some, None, refl, sym, subst, arith}
use Rattle.std.specs.List.{All}
use Rattle.std.proofs.lemmas.List.{get_or_default}
use Rattle.std.proofs.lemmas.Bool.{both_ways}
use Rattle.model.specs.declarations.Walks.{IsWalk}
use Rattle.model.specs.declarations.Hierarchy.{Hierarchy, IsHeld, Reaches}
use Rattle.model.specs.declarations.Edges.{IsCrossed, HasNoCrossing, IsCrossing, IsShared, AreApart, IsSharing}
use Rattle.model.proofs.lists.Firsts.{each_more, first_here}
use Rattle.cycle_search.specs.declared.order.Order.{Order}
use Rattle.system_set.specs.Pairs.{pair_of, pairs_of, hierarchy_of, IsPlaced, ArePlaced, is_marked, AreSound, IsSpread}
use Rattle.system_set.specs.Ordered.{TellsReach, TellsCrossed, TellsShared, IsBoth}
use Rattle.system_set.proofs.Reaching.{held_place, marked_from, marked_known}

-- marks that are sound and spread tell what reaches the set
pub reach_told : (sets items : ℕ) (pairs : List Order) (holder item : ℕ) (marks : List Bool) (b : Bool) → AreSound pairs holder marks → All (IsSpread marks holder) pairs →
    is_marked marks item ≡ b → TellsReach (hierarchy_of sets items pairs) item holder b
reach_told sets items pairs holder item marks true sound spread is = sound.sound item is
reach_told sets items pairs holder item marks false sound spread is = λ reaches. both_ways _ is (marked_from pairs holder marks spread reaches.0 item reaches.1)

-- what is reached is a set
pub reached_set : (sets items : ℕ) (pairs : List Order) → ArePlaced sets items pairs → (between : List ℕ) (item holder : ℕ) → IsWalk (IsHeld (hierarchy_of sets items pairs)) (item ∷ (between ++ holder ∷ [])) → holder < sets
reached_set sets items pairs placed [] item holder walk =
    let r = held_place pairs item holder walk.0 in
    let d : Order = record { first = 0; second = 0 } in
    let here = r.2 d in
    let at : IsPlaced sets items (get_or pairs r.0 d) = placed.placed r.0 d r.1 in
    subst (λ (x : ℕ). x < sets) here.1 at.holder
reached_set sets items pairs placed (x ∷ between) item holder walk = reached_set sets items pairs placed between x holder walk.1

pub no_set_reached : (sets items : ℕ) (pairs : List Order) (item holder : ℕ) → ArePlaced sets items pairs → sets ≤ holder → TellsReach (hierarchy_of sets items pairs) item holder false
no_set_reached sets items pairs item holder placed past = λ reaches. let low : holder < sets = reached_set sets items pairs placed reaches.0 item holder reaches.1 in omega arith

-- what is read at a place stands there
pub read : (orders : List Order) (i : ℕ) (d : Order) → i < length orders → get_or orders i d ≡ get_or orders i (get_or orders i d)
read orders i d low = get_or_default orders i d (get_or orders i d) low

-- ---- crossings

pub crossing_more : (h : Hierarchy) (orders : List Order) (i : ℕ) (d : Order) → i < length orders → HasNoCrossing h (pairs_of (take i orders)) → TellsCrossed h (get_or orders i d) None →
    HasNoCrossing h (pairs_of (take (i + 1) orders))
crossing_more h orders i d low each none = each_more (λ p. IsCrossed h p → ⊥) pair_of orders i (get_or orders i d) low (read orders i d low) each none

is_crossed : (h : Hierarchy) (o p : Order) → (pair_of o ≡ (p.first, p.second)) ⊎ (pair_of o ≡ (p.second, p.first)) → Reaches h p.first p.second → IsCrossed h (pair_of o)
is_crossed h o p (inl same) reaches = subst (λ q. IsCrossed h q) (sym same) (inl reaches)
is_crossed h o p (inr same) reaches = subst (λ q. IsCrossed h q) (sym same) (inr reaches)

pub crossing_some : (h : Hierarchy) (orders : List Order) (i : ℕ) (d p : Order) → i < length orders → HasNoCrossing h (pairs_of (take i orders)) → TellsCrossed h (get_or orders i d) (Some p) →
    IsCrossing h (pairs_of orders) p.first p.second
crossing_some h orders i d p low each told = record {
  order = pair_of (get_or orders i d);
  first =
      first_here (λ q. IsCrossed h q → ⊥) (IsCrossed h) pair_of orders i (get_or orders i d) low (read orders i d low) each
      (is_crossed h (get_or orders i d) p told.0 told.1);
  between = told.0;
  held = told.1;
}

-- ---- shared systems

-- a member of a set is marked
both_of : (sets items : ℕ) (pairs : List Order) (o : Order) (first second : List Bool) → All (IsSpread first o.first) pairs → All (IsSpread second o.second) pairs →
    (n : ℕ) → IsShared (hierarchy_of sets items pairs) (pair_of o) n → IsBoth sets first second n
both_of sets items pairs o first second whole also n shared = record {
  system = shared.0.system;
  in_first = marked_from pairs o.first first whole shared.0.reaches.0 n shared.0.reaches.1;
  in_second = marked_from pairs o.second second also shared.1.reaches.0 n shared.1.reaches.1;
}

shared_of : (sets items : ℕ) (pairs : List Order) (o : Order) (first second : List Bool) → length first ≡ items → AreSound pairs o.first first → AreSound pairs o.second second →
    (n : ℕ) → IsBoth sets first second n → IsShared (hierarchy_of sets items pairs) (pair_of o) n
shared_of sets items pairs o first second long sound also n both =
    let low : n < length first = marked_known first n both.in_first in (
      record { system = both.system; known = omega (arith, low, long); reaches = sound.sound n both.in_first },
      record { system = both.system; known = omega (arith, low, long); reaches = also.sound n both.in_second },
    )

pub shared_none : (sets items : ℕ) (pairs : List Order) (o : Order) (first second : List Bool) → All (IsSpread first o.first) pairs → All (IsSpread second o.second) pairs →
    ((m : ℕ) → m < length first → IsBoth sets first second m → ⊥) → TellsShared (hierarchy_of sets items pairs) o None
shared_none sets items pairs o first second whole also none = λ n shared.
    let both = both_of sets items pairs o first second whole also n shared in
    none n (marked_known first n both.in_first) both

pub shared_some : (sets items : ℕ) (pairs : List Order) (o : Order) (first second : List Bool) (n : ℕ) → length first ≡ items → AreSound pairs o.first first → AreSound pairs o.second second →
    All (IsSpread first o.first) pairs → All (IsSpread second o.second) pairs → IsBoth sets first second n → ((m : ℕ) → m < n → IsBoth sets first second m → ⊥) →
    TellsShared (hierarchy_of sets items pairs) o (Some n)
shared_some sets items pairs o first second n long sound sounds whole also both least =
    (shared_of sets items pairs o first second long sound sounds n both, λ m low shared. least m low (both_of sets items pairs o first second whole also m shared))

pub shared_by_search : (sets items : ℕ) (pairs : List Order) (o : Order) (first second : List Bool) (found : Option ℕ) → length first ≡ items → AreSound pairs o.first first → AreSound pairs o.second second →
    All (IsSpread first o.first) pairs → All (IsSpread second o.second) pairs →
    ((n : ℕ) → found ≡ Some n → IsBoth sets first second n × ((m : ℕ) → m < n → IsBoth sets first second m → ⊥)) → (found ≡ None → (m : ℕ) → m < length first → IsBoth sets first second m → ⊥) →
    TellsShared (hierarchy_of sets items pairs) o found
shared_by_search sets items pairs o first second None long sound sounds whole also some none = shared_none sets items pairs o first second whole also (none refl)
shared_by_search sets items pairs o first second (Some n) long sound sounds whole also some none =
    let r = some n refl in shared_some sets items pairs o first second n long sound sounds whole also r.0 r.1

-- a system is no set
pub not_sets : (sets items : ℕ) (pairs : List Order) (o : Order) → ArePlaced sets items pairs → (sets ≤ o.first) ⊎ (sets ≤ o.second) → TellsShared (hierarchy_of sets items pairs) o None
not_sets sets items pairs o placed (inl past) = λ n shared. no_set_reached sets items pairs n o.first placed past shared.0.reaches
not_sets sets items pairs o placed (inr past) = λ n shared. no_set_reached sets items pairs n o.second placed past shared.1.reaches

pub sharing_more : (h : Hierarchy) (orders : List Order) (i : ℕ) (d : Order) → i < length orders → AreApart h (pairs_of (take i orders)) → TellsShared h (get_or orders i d) None →
    AreApart h (pairs_of (take (i + 1) orders))
sharing_more h orders i d low each none = each_more (λ p. (n : ℕ) → IsShared h p n → ⊥) pair_of orders i (get_or orders i d) low (read orders i d low) each none

pub sharing_some : (h : Hierarchy) (orders : List Order) (i : ℕ) (d : Order) (n : ℕ) → i < length orders → AreApart h (pairs_of (take i orders)) → TellsShared h (get_or orders i d) (Some n) →
    IsSharing h (pairs_of orders) (get_or orders i d).first (get_or orders i d).second n
sharing_some h orders i d n low each told = record {
  order =
      first_here (λ p. (m : ℕ) → IsShared h p m → ⊥) (λ p. (m : ℕ) × IsShared h p m) pair_of orders i (get_or orders i d) low (read orders i d low) each
      (n, told.0);
  shared = told.0;
  least = told.1;
}
