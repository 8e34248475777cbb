-- Orders of items with themselves, and the items of a cycle.
use Rattle.std.proofs.Common.{◌≡◌, ℕ, zero, suc, ◌<◌, ◌≤◌, ◌+◌, inl, inr, List, [], ◌∷◌, ◌++◌, length, take, get_or, arith, subst, refl, sym, ap, ◌∙◌}
use Rattle.std.specs.List.{All}
use Rattle.std.proofs.lemmas.List.{take_more, take_all, map-append}
use Rattle.model.specs.Lists.{IsIn}
use Rattle.model.specs.declarations.Walks.{IsFirstBad, IsWalk}
use Rattle.model.specs.declarations.Declarations.{Declared, items_of, hierarchy_of, declared_orders}
use Rattle.model.specs.declarations.Hierarchy.{Hierarchy, IsHeld, IsFirstSelf, IsSetCycle}
use Rattle.model.specs.declarations.Edges.{HasNoLoop, IsLoop, IsCrossed, IsCrossing, IsShared, IsSharing, IsFollowed, IsCycle}
use Rattle.model.proofs.lists.Firsts.{each_more, each_all, first_here}
use Rattle.cycle_search.specs.declared.order.Order.{Order}
use Rattle.cycle_search.specs.Orders.{IsBetween}
use Rattle.system_set.specs.Pairs.{pair_of, pairs_of, ArePlaced}
use Rattle.system_set.proofs.EdgeLists.{member_known}
use Rattle.system_set.proofs.Ordered.{read}
use Rattle.schedule_builder.specs.Orders.{AreDeclared, IsWhole}

-- ---- orders of an item with itself

pub loop_more : (orders : List Order) (i : ℕ) (d : Order) → i < length orders → HasNoLoop (pairs_of (take i orders)) → ((get_or orders i d).first ≡ (get_or orders i d).second → ⊥) → HasNoLoop (pairs_of (take (i + 1) orders))
loop_more orders i d low each other = each_more (λ o. o.0 ≡ o.1 → ⊥) pair_of orders i (get_or orders i d) low (read orders i d low) each other

pub loop_none : (orders : List Order) (i : ℕ) → length orders ≤ i → HasNoLoop (pairs_of (take i orders)) → HasNoLoop (pairs_of orders)
loop_none orders i past each = each_all (λ o. o.0 ≡ o.1 → ⊥) pair_of orders i past each

pub loop_here : (orders : List Order) (i : ℕ) (d : Order) → i < length orders → HasNoLoop (pairs_of (take i orders)) → (get_or orders i d).first ≡ (get_or orders i d).second → IsLoop (pairs_of orders) (get_or orders i d).first
loop_here orders i d low each same =
    subst (λ (k : ℕ). IsFirstBad (λ o. o.0 ≡ o.1 → ⊥) (λ o. o.0 ≡ o.1) (pairs_of orders) ((get_or orders i d).first, k)) (sym same)
    (first_here (λ o. o.0 ≡ o.1 → ⊥) (λ o. o.0 ≡ o.1) pair_of orders i (get_or orders i d) low (read orders i d low) each same)

-- ---- sets put into sets, one after the other

-- a hierarchy with these pairs
abbrev pub with_pairs : ℕ → ℕ → List (ℕ × ℕ) → Hierarchy
with_pairs sets items inside = record { sets = sets; items = items; inside = inside }

pub pairs_more : (pairs : List Order) (i : ℕ) (d : Order) → i < length pairs → pairs_of (take (i + 1) pairs) ≡ pairs_of (take i pairs) ++ pair_of (get_or pairs i d) ∷ []
pairs_more pairs i d low = ap pairs_of (take_more pairs i d low) ∙ map-append pair_of (take i pairs) (get_or pairs i d ∷ [])

pub put_more : (sets items : ℕ) (pairs : List Order) (i : ℕ) (d : Order) (old new : Hierarchy) → i < length pairs → old ≡ with_pairs sets items (pairs_of (take i pairs)) →
    new ≡ with_pairs old.sets old.items (old.inside ++ pair_of (get_or pairs i d) ∷ []) → new ≡ with_pairs sets items (pairs_of (take (i + 1) pairs))
put_more sets items pairs i d old new low is made =
    made ∙ (ap (λ (h : Hierarchy). with_pairs h.sets h.items (h.inside ++ pair_of (get_or pairs i d) ∷ [])) is ∙ ap (with_pairs sets items) (sym (pairs_more pairs i d low)))

pub put_all : (sets items : ℕ) (pairs : List Order) (i : ℕ) (h : Hierarchy) (inside : List (ℕ × ℕ)) → length pairs ≤ i → h ≡ with_pairs sets items (pairs_of (take i pairs)) → pairs_of pairs ≡ inside → h ≡ with_pairs sets items inside
put_all sets items pairs i h inside past is same = is ∙ ap (with_pairs sets items) (ap pairs_of (take_all i pairs past) ∙ same)

-- ---- what is told is of items

pub pair_in : (orders : List Order) (k : ℕ) (o : Order) → k < length orders → IsIn ((get_or orders k o).first, (get_or orders k o).second) (pairs_of orders)
pair_in [] k o l = absurd (omega arith)
pair_in (x ∷ orders) zero o l = inl refl
pair_in (x ∷ orders) (suc k) o l = inr (pair_in orders k o (omega arith))

-- pairs of items and sets, and orders of items, as they were read
pub placed_of : (d : Declared) (inside orders plain silences : List Order) → IsWhole d → AreDeclared d inside orders plain silences → length d.sets ≤ length (items_of d) → ArePlaced (length d.sets) (length (items_of d)) inside
placed_of d inside orders plain silences w a few = record {
  few = few;
  placed = λ k o l.
      let here : Order = get_or inside k o in
      let there : IsIn (here.first, here.second) (hierarchy_of d).inside = subst (λ ps. IsIn (here.first, here.second) ps) a.held (pair_in inside k o l) in
      let both = w.held here.first here.second there in
      record { item = both.0; holder = both.1 };
}

pub between_of : (bound : ℕ) (orders : List Order) (ps : List (ℕ × ℕ)) → pairs_of orders ≡ ps → ((m n : ℕ) → IsIn (m, n) ps → (m < bound) × (n < bound)) → All (IsBetween bound) orders
between_of bound orders ps e h = λ k o l.
    let here : Order = get_or orders k o in
    let there : IsIn (here.first, here.second) ps = subst (λ qs. IsIn (here.first, here.second) qs) e (pair_in orders k o l) in
    let both = h here.first here.second there in
    record { first = both.0; second = both.1 }

first_in : {A : Type 0} (Good Bad : A → Type 0) (xs : List A) (x : A) → IsFirstBad Good Bad xs x → IsIn x xs
first_in Good Bad [] x h = absurd h
first_in Good Bad (y ∷ xs) x (inl h) = inl h.0
first_in Good Bad (y ∷ xs) x (inr h) = inr (first_in Good Bad xs x h.1)

pub self_known : (d : Declared) (n : ℕ) → IsWhole d → IsFirstSelf (hierarchy_of d) n → n < length (items_of d)
self_known d n w f = (w.held n n f.itself).0

pub loop_known : (d : Declared) (n : ℕ) → IsWhole d → IsLoop (declared_orders d) n → n < length (items_of d)
loop_known d n w f = (w.ordered n n (first_in (λ o. o.0 ≡ o.1 → ⊥) (λ o. o.0 ≡ o.1) (declared_orders d) (n, n) f)).0

pub crossing_known : (d : Declared) (m n : ℕ) → IsWhole d → IsCrossing (hierarchy_of d) (declared_orders d) m n → (m < length (items_of d)) × (n < length (items_of d))
crossing_known d m n w c =
    let there : IsIn c.order (declared_orders d) = first_in (λ o. IsCrossed (hierarchy_of d) o → ⊥) (IsCrossed (hierarchy_of d)) (declared_orders d) c.order c.first in
    elim c.between [
      | inl same ↦ w.ordered m n (subst (λ o. IsIn o (declared_orders d)) same there)
      | inr same ↦ let both = w.ordered n m (subst (λ o. IsIn o (declared_orders d)) same there) in (both.1, both.0)
    ]

pub sharing_known : (d : Declared) (m n k : ℕ) → IsWhole d → IsSharing (hierarchy_of d) (declared_orders d) m n k → (m < length (items_of d)) × (n < length (items_of d)) × (k < length (items_of d))
sharing_known d m n k w s =
    let both = w.ordered m n (first_in (λ o. (j : ℕ) → IsShared (hierarchy_of d) o j → ⊥) (λ o. (j : ℕ) × IsShared (hierarchy_of d) o j) (declared_orders d) (m, n) s.order) in
    (both.0, both.1, s.shared.0.known)

step_from : (Step : ℕ → ℕ → Type 0) (xs : List ℕ) (y : ℕ) → IsWalk Step (xs ++ y ∷ []) → (k d : ℕ) → k < length xs → (n : ℕ) × Step (get_or xs k d) n
step_from Step [] y w k d l = absurd (omega arith)
step_from Step (x ∷ []) y w zero d l = (y, w.0)
step_from Step (x ∷ []) y w (suc k) d l = absurd (omega arith)
step_from Step (x ∷ z ∷ xs) y w zero d l = (z, w.0)
step_from Step (x ∷ z ∷ xs) y w (suc k) d l = step_from Step (z ∷ xs) y w.1 k d (omega arith)

circle_known : (Step : ℕ → ℕ → Type 0) (bound : ℕ) → ((m n : ℕ) → Step m n → m < bound) → (items : List ℕ) → IsWalk Step (items ++ take 1 items) → (k d : ℕ) → k < length items → get_or items k d < bound
circle_known Step bound below [] walk k d l = absurd (omega arith)
circle_known Step bound below (x ∷ items) walk k d l = let s = step_from Step (x ∷ items) x walk k d l in below (get_or (x ∷ items) k d) s.0 s.1

pub sets_known : (d : Declared) (items : List ℕ) → IsWhole d → IsSetCycle (hierarchy_of d) items → (k e : ℕ) → k < length items → get_or items k e < length (items_of d)
sets_known d items w c = circle_known (IsHeld (hierarchy_of d)) (length (items_of d)) (λ m n h. (w.held m n h).0) items c.held

followed_known : (d : Declared) → IsWhole d → (m n : ℕ) → IsFollowed (hierarchy_of d) (declared_orders d) m n → m < length (items_of d)
followed_known d w m n (inl o) = (w.ordered m n o).0
followed_known d w m n (inr e) = member_known (hierarchy_of d) e.first m e.from

pub items_known : (d : Declared) (items : List ℕ) → IsWhole d → IsCycle (hierarchy_of d) (declared_orders d) items → (k e : ℕ) → k < length items → get_or items k e < length (items_of d)
items_known d items w c = circle_known (IsFollowed (hierarchy_of d) (declared_orders d)) (length (items_of d)) (followed_known d w) items c.followed

-- what is told of sets and orders is told of the declared ones
pub told_of : (P : Hierarchy → List (ℕ × ℕ) → Type 0) (h k : Hierarchy) (ps qs : List (ℕ × ℕ)) → h ≡ k → ps ≡ qs → P h ps → P k qs
told_of P h k ps qs e f p = subst (λ (x : Hierarchy). P x qs) e (subst (λ ys. P h ys) f p)
