-- Round trips over nodes are cycles of items, and ranks of nodes are ranks of items.
use Rattle.std.proofs.Common.{ℕ, zero, suc, ◌+◌, ◌-◌, ◌<◌, ◌≤◌, ◌≡◌, Bool, true, false, eqb, cond, nat_lt, ◌⊎◌, inl, inr, List, [], ◌∷◌, ◌++◌, length, map, take, get_or, refl, sym, ap, ◌∙◌, subst, arith, append-nil, ltb-true, lt-ltb, le-ltb, eq-eqb}
use Rattle.std.specs.List.{All}
use Rattle.std.proofs.lemmas.List.Elements.{filter_more}
use Rattle.std.proofs.lemmas.Bool.{false≢true, both_ways, or_cases, or_left, or_right, cases_lt}
use Rattle.model.specs.Lists.{has, IsIn}
use Rattle.model.specs.declarations.Walks.{IsOnceEach, IsWalk}
use Rattle.model.specs.declarations.Hierarchy.{Hierarchy, IsHeld, Reaches, IsMember}
use Rattle.model.specs.declarations.Edges.{IsMemberOf, HasNoLoop, HasNoCrossing, AreApart, IsFollowed, IsCycle, HasNoCycle, IsReportedCycle}
use Rattle.model.proofs.lists.Lists.{IsIn-append, IsIn_left, IsIn_right}
use Rattle.model.proofs.lists.Members.{in-map}
use Rattle.model.proofs.lists.Firsts.{each_in}
use Rattle.cycle_search.specs.declared.order.Order.{Order}
use Rattle.cycle_search.specs.Orders.{IsBetween}
use Rattle.cycle_search.specs.Cycles.{IsStep, IsRankable, IsRound, BeginsLeast}
use Rattle.cycle_search.proofs.Walks.{walk_weaker, no_round}
use Rattle.system_set.specs.Pairs.{pair_of, pairs_of, hierarchy_of, IsPlaced, ArePlaced}
use Rattle.system_set.specs.Nodes.{enter_of, leave_of, enter_step, leave_step, cross_step, steps_of, items_among}
use Rattle.system_set.proofs.Circles.{held_rankable}
use Rattle.system_set.proofs.Reaching.{held_place, step_of_held, has_push as has_end}

-- ---- lists

-- what is in a list that a function makes is made of what is in the other
pub from_map : {A B : Type 0} (f : A → B) (xs : List A) (y : B) → IsIn y (map f xs) → (x : A) × IsIn x xs × (y ≡ f x)
from_map f [] y h = absurd h
from_map f (x ∷ xs) y (inl same) = (x, inl refl, same)
from_map f (x ∷ xs) y (inr more) = let r = from_map f xs y more in (r.0, inr r.1, r.2)

abbrev order_of : ℕ → ℕ → Order
order_of m n = record { first = m; second = n }

-- an order that stands in a list puts its first before its second
step_in : (orders : List Order) (o : Order) → IsIn o orders → IsStep orders o.first o.second
step_in [] o h = absurd h
step_in (x ∷ xs) o (inl same) = (0, omega arith, sym same)
step_in (x ∷ xs) o (inr more) = let r = step_in xs o more in (suc r.0, omega (arith, r.1), r.2)

in_step : (orders : List Order) (m n : ℕ) → IsStep orders m n → IsIn (order_of m n) orders
in_step [] m n s = let low : s.0 < 0 = s.1 in absurd (omega arith)
in_step (x ∷ xs) m n (zero, low, same) = inl (sym same)
in_step (x ∷ xs) m n (suc k, low, same) = inr (in_step xs m n (k, omega (arith, low), same))

-- ---- nodes

enter_set : (h : Hierarchy) (n : ℕ) → n < h.sets → enter_of h.sets h.items n ≡ h.items + n
enter_set h n low = ap (λ (b : Bool). cond b (h.items + n) n) (lt-ltb n h.sets low)

enter_system : (h : Hierarchy) (n : ℕ) → h.sets ≤ n → enter_of h.sets h.items n ≡ n
enter_system h n high = go (nat_lt n h.sets) refl
  where
    go : (b : Bool) → nat_lt n h.sets ≡ b → cond b (h.items + n) n ≡ n
    go true e = let low : n < h.sets = ltb-true n h.sets e in absurd (omega arith)
    go false e = refl

leave_set : (h : Hierarchy) (n : ℕ) → n < h.sets → leave_of h.sets h.items n ≡ h.items + h.sets + n
leave_set h n low = ap (λ (b : Bool). cond b (h.items + h.sets + n) n) (lt-ltb n h.sets low)

leave_system : (h : Hierarchy) (n : ℕ) → h.sets ≤ n → leave_of h.sets h.items n ≡ n
leave_system h n high = go (nat_lt n h.sets) refl
  where
    go : (b : Bool) → nat_lt n h.sets ≡ b → cond b (h.items + h.sets + n) n ≡ n
    go true e = let low : n < h.sets = ltb-true n h.sets e in absurd (omega arith)
    go false e = refl

-- pairs put items into sets, and orders are of items
record IsWhole (h : Hierarchy) (orders : List (ℕ × ℕ)) : Type 0 where
  few : h.sets ≤ h.items
  placed : (item holder : ℕ) → IsHeld h item holder → (item < h.items) × (holder < h.sets)
  between : (m n : ℕ) → IsIn (m, n) orders → (m < h.items) × (n < h.items)

-- the four kinds of steps
record IsDown (h : Hierarchy) (m n : ℕ) : Type 0 where
  item : ℕ
  holder : ℕ
  held : IsHeld h item holder
  from : m ≡ enter_of h.sets h.items holder
  to : n ≡ enter_of h.sets h.items item

record IsUp (h : Hierarchy) (m n : ℕ) : Type 0 where
  item : ℕ
  holder : ℕ
  held : IsHeld h item holder
  from : m ≡ leave_of h.sets h.items item
  to : n ≡ leave_of h.sets h.items holder

record IsOver (h : Hierarchy) (orders : List (ℕ × ℕ)) (m n : ℕ) : Type 0 where
  first : ℕ
  second : ℕ
  ordered : IsIn (first, second) orders
  from : m ≡ leave_of h.sets h.items first
  to : n ≡ enter_of h.sets h.items second

abbrev IsNodeStep : Hierarchy → List (ℕ × ℕ) → ℕ → ℕ → Type 0
IsNodeStep h orders m n = IsDown h m n ⊎ (IsUp h m n ⊎ (IsIn (m, n) orders ⊎ IsOver h orders m n))

-- ---- where a walk over nodes is, after it was last at an item

record IsLeaving (h : Hierarchy) (s node : ℕ) : Type 0 where
  holder : ℕ
  set : holder < h.sets
  here : node ≡ h.items + h.sets + holder
  member : IsMember h holder s

record IsEntering (h : Hierarchy) (orders : List (ℕ × ℕ)) (s node : ℕ) : Type 0 where
  first : ℕ
  second : ℕ
  ordered : IsIn (first, second) orders
  from : IsMemberOf h first s
  holder : ℕ
  set : holder < h.sets
  here : node ≡ h.items + holder
  within : (holder ≡ second) ⊎ Reaches h holder second

abbrev IsAt : Hierarchy → List (ℕ × ℕ) → ℕ → ℕ → Type 0
IsAt h orders s node = ((node ≡ s) × (s < h.items)) ⊎ (IsLeaving h s node ⊎ IsEntering h orders s node)

-- the next node: an item that follows, or further on the way
abbrev IsNext : Hierarchy → List (ℕ × ℕ) → ℕ → ℕ → Type 0
IsNext h orders s node = ((node < h.items) × IsFollowed h orders s node) ⊎ ((h.items ≤ node) × IsAt h orders s node)

-- one more set on the way
onward : (h : Hierarchy) (between : List ℕ) (n holder outer : ℕ) → IsWalk (IsHeld h) (n ∷ (between ++ holder ∷ [])) → IsHeld h holder outer →
    IsWalk (IsHeld h) (n ∷ ((between ++ holder ∷ []) ++ outer ∷ []))
onward h [] n holder outer walk held = (walk.0, (held, tt))
onward h (x ∷ xs) n holder outer walk held = (walk.0, onward h xs x holder outer walk.1 held)

further : (h : Hierarchy) (n holder outer : ℕ) → Reaches h n holder → IsHeld h holder outer → Reaches h n outer
further h n holder outer reaches held = (reaches.0 ++ holder ∷ [], onward h reaches.0 n holder outer reaches.1 held)

-- an item in a set that is the second of an order, or in it
inner : (h : Hierarchy) (item holder second : ℕ) → IsHeld h item holder → (holder ≡ second) ⊎ Reaches h holder second → Reaches h item second
inner h item holder second held (inl same) = ([], (subst (λ (x : ℕ). IsHeld h item x) same held, tt))
inner h item holder second held (inr reaches) = (holder ∷ reaches.0, (held, reaches.1))

entered : (h : Hierarchy) (orders : List (ℕ × ℕ)) (s first second item node : ℕ) → IsIn (first, second) orders → IsMemberOf h first s → item < h.items →
    (item ≡ second) ⊎ Reaches h item second → node ≡ enter_of h.sets h.items item → IsNext h orders s node
entered h orders s first second item node ordered from known within to = elim (cases_lt item h.sets) [
  | inl set ↦
      let here : node ≡ h.items + item = to ∙ enter_set h item set in
      inr (omega arith, inr (inr (record { first = first; second = second; ordered = ordered; from = from; holder = item; set = set; here = here; within = within })))
  | inr system ↦
      let here : node ≡ item = to ∙ enter_system h item system in
      let member : IsMemberOf h second item = elim within [
        | inl same ↦ inl (record { system = system; known = known; same = sym same })
        | inr reaches ↦ inr (record { system = system; known = known; reaches = reaches })
      ] in
      inl (omega arith, inr (record { first = first; second = second; ordered = ordered; from = from; to = subst (λ (x : ℕ). IsMemberOf h second x) (sym here) member }))
]

-- a step from an item
step_item : (h : Hierarchy) (orders : List (ℕ × ℕ)) → IsWhole h orders → (s node next : ℕ) → node ≡ s → s < h.items → IsNodeStep h orders node next → IsNext h orders s next
step_item h orders whole s node next at low (inl d) =
    let known = whole.placed d.item d.holder d.held in
    let set : d.holder < h.sets = known.1 in
    let here : node ≡ h.items + d.holder = d.from ∙ enter_set h d.holder set in
    absurd (omega arith)
step_item h orders whole s node next at low (inr (inl u)) =
    let known = whole.placed u.item u.holder u.held in
    let set : u.holder < h.sets = known.1 in
    let to : next ≡ h.items + h.sets + u.holder = u.to ∙ leave_set h u.holder set in
    elim (cases_lt u.item h.sets) [
      | inl inside ↦ let here : node ≡ h.items + h.sets + u.item = u.from ∙ leave_set h u.item inside in absurd (omega arith)
      | inr system ↦
          let here : u.item ≡ s = sym (leave_system h u.item system) ∙ (sym u.from ∙ at) in
          let held : IsHeld h s u.holder = subst (λ (x : ℕ). IsHeld h x u.holder) here u.held in
          inr (
            omega arith,
            inr (inl (record {
              holder = u.holder;
              set = set;
              here = to;
              member = record { system = omega arith; known = low; reaches = ([], (held, tt)) };
            })),
          )
    ]
step_item h orders whole s node next at low (inr (inr (inl o))) =
    let known = whole.between node next o in
    let below : next < h.items = known.1 in
    inl (below, inl (subst (λ (x : ℕ). IsIn (x, next) orders) at o))
step_item h orders whole s node next at low (inr (inr (inr o))) =
    let known = whole.between o.first o.second o.ordered in
    elim (cases_lt o.first h.sets) [
      | inl inside ↦ let here : node ≡ h.items + h.sets + o.first = o.from ∙ leave_set h o.first inside in absurd (omega arith)
      | inr system ↦
          let here : o.first ≡ s = sym (leave_system h o.first system) ∙ (sym o.from ∙ at) in
          entered h orders s o.first o.second o.second next o.ordered (inl (record { system = omega arith; known = low; same = here })) known.1 (inl refl) o.to
    ]

-- from where a set is left
step_leaving : (h : Hierarchy) (orders : List (ℕ × ℕ)) → IsWhole h orders → (s node next : ℕ) → IsLeaving h s node → IsNodeStep h orders node next → IsNext h orders s next
step_leaving h orders whole s node next at (inl d) =
    let known = whole.placed d.item d.holder d.held in
    let set : d.holder < h.sets = known.1 in
    let here : node ≡ h.items + d.holder = d.from ∙ enter_set h d.holder set in
    let there : node ≡ h.items + h.sets + at.holder = at.here in
    absurd (omega arith)
step_leaving h orders whole s node next at (inr (inl u)) =
    let known = whole.placed u.item u.holder u.held in
    let set : u.holder < h.sets = known.1 in
    let to : next ≡ h.items + h.sets + u.holder = u.to ∙ leave_set h u.holder set in
    let there : node ≡ h.items + h.sets + at.holder = at.here in
    elim (cases_lt u.item h.sets) [
      | inl inside ↦
          let here : node ≡ h.items + h.sets + u.item = u.from ∙ leave_set h u.item inside in
          let same : u.item ≡ at.holder = omega arith in
          let held : IsHeld h at.holder u.holder = subst (λ (x : ℕ). IsHeld h x u.holder) same u.held in
          let member = at.member in
          inr (
            omega arith,
            inr (inl (record {
              holder = u.holder;
              set = set;
              here = to;
              member = record { system = member.system; known = member.known; reaches = further h s at.holder u.holder member.reaches held };
            })),
          )
      | inr system ↦ let here : node ≡ u.item = u.from ∙ leave_system h u.item system in let low : u.item < h.items = known.0 in absurd (omega arith)
    ]
step_leaving h orders whole s node next at (inr (inr (inl o))) =
    let known = whole.between node next o in
    let low : node < h.items = known.0 in
    let there : node ≡ h.items + h.sets + at.holder = at.here in
    absurd (omega arith)
step_leaving h orders whole s node next at (inr (inr (inr o))) =
    let known = whole.between o.first o.second o.ordered in
    let there : node ≡ h.items + h.sets + at.holder = at.here in
    elim (cases_lt o.first h.sets) [
      | inl inside ↦
          let here : node ≡ h.items + h.sets + o.first = o.from ∙ leave_set h o.first inside in
          let same : at.holder ≡ o.first = omega arith in
          entered h orders s o.first o.second o.second next o.ordered (inr (subst (λ (x : ℕ). IsMember h x s) same at.member)) known.1 (inl refl) o.to
      | inr system ↦ let here : node ≡ o.first = o.from ∙ leave_system h o.first system in let low : o.first < h.items = known.0 in absurd (omega arith)
    ]

-- from where a set is entered
step_entering : (h : Hierarchy) (orders : List (ℕ × ℕ)) → IsWhole h orders → (s node next : ℕ) → IsEntering h orders s node → IsNodeStep h orders node next → IsNext h orders s next
step_entering h orders whole s node next at (inl d) =
    let known = whole.placed d.item d.holder d.held in
    let set : d.holder < h.sets = known.1 in
    let here : node ≡ h.items + d.holder = d.from ∙ enter_set h d.holder set in
    let there : node ≡ h.items + at.holder = at.here in
    let same : d.holder ≡ at.holder = omega arith in
    let held : IsHeld h d.item at.holder = subst (λ (x : ℕ). IsHeld h d.item x) same d.held in
    entered h orders s at.first at.second d.item next at.ordered at.from known.0 (inr (inner h d.item at.holder at.second held at.within)) d.to
step_entering h orders whole s node next at (inr (inl u)) =
    let known = whole.placed u.item u.holder u.held in
    let there : node ≡ h.items + at.holder = at.here in
    let set : at.holder < h.sets = at.set in
    elim (cases_lt u.item h.sets) [
      | inl inside ↦ let here : node ≡ h.items + h.sets + u.item = u.from ∙ leave_set h u.item inside in absurd (omega arith)
      | inr system ↦ let here : node ≡ u.item = u.from ∙ leave_system h u.item system in let low : u.item < h.items = known.0 in absurd (omega arith)
    ]
step_entering h orders whole s node next at (inr (inr (inl o))) =
    let known = whole.between node next o in
    let low : node < h.items = known.0 in
    let there : node ≡ h.items + at.holder = at.here in
    absurd (omega arith)
step_entering h orders whole s node next at (inr (inr (inr o))) =
    let known = whole.between o.first o.second o.ordered in
    let there : node ≡ h.items + at.holder = at.here in
    let set : at.holder < h.sets = at.set in
    elim (cases_lt o.first h.sets) [
      | inl inside ↦ let here : node ≡ h.items + h.sets + o.first = o.from ∙ leave_set h o.first inside in absurd (omega arith)
      | inr system ↦ let here : node ≡ o.first = o.from ∙ leave_system h o.first system in let low : o.first < h.items = known.0 in absurd (omega arith)
    ]

step_at : (h : Hierarchy) (orders : List (ℕ × ℕ)) → IsWhole h orders → (s node next : ℕ) → IsAt h orders s node → IsNodeStep h orders node next → IsNext h orders s next
step_at h orders whole s node next (inl at) step = step_item h orders whole s node next at.0 at.1 step
step_at h orders whole s node next (inr (inl at)) step = step_leaving h orders whole s node next at step
step_at h orders whole s node next (inr (inr at)) step = step_entering h orders whole s node next at step

-- ---- a walk over nodes, at its items

among_item : (items n : ℕ) (nodes : List ℕ) → n < items → items_among items (n ∷ nodes) ≡ n ∷ items_among items nodes
among_item items n nodes low = ap (λ (b : Bool). cond b (n ∷ items_among items nodes) (items_among items nodes)) (lt-ltb n items low)

among_node : (items n : ℕ) (nodes : List ℕ) → items ≤ n → items_among items (n ∷ nodes) ≡ items_among items nodes
among_node items n nodes high = go (nat_lt n items) refl
  where
    go : (b : Bool) → nat_lt n items ≡ b → cond b (n ∷ items_among items nodes) (items_among items nodes) ≡ items_among items nodes
    go true e = let low : n < items = ltb-true n items e in absurd (omega arith)
    go false e = refl

among_append : (items : ℕ) (xs ys : List ℕ) → items_among items (xs ++ ys) ≡ items_among items xs ++ items_among items ys
among_append items [] ys = refl
among_append items (x ∷ xs) ys = elim (cases_lt x items) [
  | inl low ↦
      among_item items x (xs ++ ys) low
      ∙ (ap (λ (zs : List ℕ). x ∷ zs) (among_append items xs ys) ∙ ap (λ (zs : List ℕ). zs ++ items_among items ys) (sym (among_item items x xs low)))
  | inr high ↦ among_node items x (xs ++ ys) high ∙ (among_append items xs ys ∙ ap (λ (zs : List ℕ). zs ++ items_among items ys) (sym (among_node items x xs high)))
]

walk_at : (h : Hierarchy) (orders : List (ℕ × ℕ)) → IsWhole h orders → (nodes : List ℕ) (s node : ℕ) → IsAt h orders s node → IsWalk (IsNodeStep h orders) (node ∷ nodes) →
    IsWalk (IsFollowed h orders) (s ∷ items_among h.items nodes)
walk_at h orders whole [] s node at walk = tt
walk_at h orders whole (next ∷ nodes) s node at walk = elim (step_at h orders whole s node next at walk.0) [
  | inl item ↦
      let low : next < h.items = item.0 in
      subst (λ (xs : List ℕ). IsWalk (IsFollowed h orders) (s ∷ xs)) (sym (among_item h.items next nodes low))
      (item.1, walk_at h orders whole nodes next next (inl (refl, low)) walk.1)
  | inr way ↦
      subst (λ (xs : List ℕ). IsWalk (IsFollowed h orders) (s ∷ xs)) (sym (among_node h.items next nodes way.0))
      (walk_at h orders whole nodes s next way.1 walk.1)
]

among_has : (items n : ℕ) (nodes : List ℕ) → has n (items_among items nodes) ≡ true → has n nodes ≡ true
among_has items n [] e = absurd (false≢true e)
among_has items n (x ∷ nodes) e = elim (cases_lt x items) [
  | inl low ↦ elim (or_cases (eqb x n) (has n (items_among items nodes)) (subst (λ (xs : List ℕ). has n xs ≡ true) (among_item items x nodes low) e)) [
    | inl here ↦ or_left (eqb x n) (has n nodes) here
    | inr there ↦ or_right (eqb x n) (has n nodes) (among_has items n nodes there)
  ]
  | inr high ↦ or_right (eqb x n) (has n nodes) (among_has items n nodes (subst (λ (xs : List ℕ). has n xs ≡ true) (among_node items x nodes high) e))
]

among_lacks : (items n : ℕ) (nodes : List ℕ) → has n nodes ≡ false → has n (items_among items nodes) ≡ false
among_lacks items n nodes none = go (has n (items_among items nodes)) refl
  where
    go : (b : Bool) → has n (items_among items nodes) ≡ b → b ≡ false
    go true e = absurd (both_ways _ none (among_has items n nodes e))
    go false e = refl

among_once : (items : ℕ) (nodes : List ℕ) → IsOnceEach nodes → IsOnceEach (items_among items nodes)
among_once items [] once = tt
among_once items (x ∷ nodes) once = elim (cases_lt x items) [
  | inl low ↦
      subst (λ (xs : List ℕ). IsOnceEach xs) (sym (among_item items x nodes low)) (among_lacks items x nodes once.0, among_once items nodes once.1)
  | inr high ↦ subst (λ (xs : List ℕ). IsOnceEach xs) (sym (among_node items x nodes high)) (among_once items nodes once.1)
]

-- ---- no item follows itself

no_self_edge : (h : Hierarchy) (orders : List (ℕ × ℕ)) → HasNoLoop orders → HasNoCrossing h orders → AreApart h orders → (n first second : ℕ) → IsIn (first, second) orders →
    IsMemberOf h first n → IsMemberOf h second n → ⊥
no_self_edge h orders loop crossing apart n first second o (inl a) (inl b) = each_in (λ p. p.0 ≡ p.1 → ⊥) orders loop (first, second) o (a.same ∙ sym b.same)
no_self_edge h orders loop crossing apart n first second o (inl a) (inr b) =
    each_in (λ p. Reaches h p.0 p.1 ⊎ Reaches h p.1 p.0 → ⊥) orders crossing (first, second) o (inl (subst (λ (x : ℕ). Reaches h x second) (sym a.same) b.reaches))
no_self_edge h orders loop crossing apart n first second o (inr a) (inl b) =
    each_in (λ p. Reaches h p.0 p.1 ⊎ Reaches h p.1 p.0 → ⊥) orders crossing (first, second) o (inr (subst (λ (x : ℕ). Reaches h x first) (sym b.same) a.reaches))
no_self_edge h orders loop crossing apart n first second o (inr a) (inr b) =
    each_in (λ p. (m : ℕ) → IsMember h p.0 m × IsMember h p.1 m → ⊥) orders apart (first, second) o n (a, b)

not_followed : (h : Hierarchy) (orders : List (ℕ × ℕ)) → HasNoLoop orders → HasNoCrossing h orders → AreApart h orders → (n : ℕ) → IsFollowed h orders n n → ⊥
not_followed h orders loop crossing apart n (inl o) = each_in (λ p. p.0 ≡ p.1 → ⊥) orders loop (n, n) o refl
not_followed h orders loop crossing apart n (inr e) = no_self_edge h orders loop crossing apart n e.first e.second e.ordered e.from e.to

-- ---- a round trip has an item

record IsInner (h : Hierarchy) (orders : List (ℕ × ℕ)) (m n : ℕ) : Type 0 where
  step : IsNodeStep h orders m n
  first : h.items ≤ m
  second : h.items ≤ n

abbrev height : Hierarchy → (ℕ → ℕ) → ℕ → ℕ → ℕ
height h rank bound n = cond (nat_lt n (h.items + h.sets)) (bound - rank (n - h.items)) (bound + 1 + rank (n - (h.items + h.sets)))

height_enter : (h : Hierarchy) (rank : ℕ → ℕ) (bound n x : ℕ) → x < h.sets → n ≡ h.items + x → height h rank bound n ≡ bound - rank x
height_enter h rank bound n x low same =
    let less : n < h.items + h.sets = omega arith in
    let offset : n - h.items ≡ x = omega arith in
    ap (λ (b : Bool). cond b (bound - rank (n - h.items)) (bound + 1 + rank (n - (h.items + h.sets)))) (lt-ltb n (h.items + h.sets) less) ∙ ap (λ (y : ℕ). bound - rank y) offset

height_leave : (h : Hierarchy) (rank : ℕ → ℕ) (bound n x : ℕ) → n ≡ h.items + h.sets + x → height h rank bound n ≡ bound + 1 + rank x
height_leave h rank bound n x same = go (nat_lt n (h.items + h.sets)) refl
  where
    go : (b : Bool) → nat_lt n (h.items + h.sets) ≡ b → cond b (bound - rank (n - h.items)) (bound + 1 + rank (n - (h.items + h.sets))) ≡ bound + 1 + rank x
    go true e = let less : n < h.items + h.sets = ltb-true n (h.items + h.sets) e in absurd (omega arith)
    go false e = let offset : n - (h.items + h.sets) ≡ x = omega arith in ap (λ (y : ℕ). bound + 1 + rank y) offset

height_bound : (h : Hierarchy) (r : IsRankable (IsHeld h)) (n : ℕ) → height h r.rank r.bound n ≤ r.bound + 1 + r.bound
height_bound h r n = go (nat_lt n (h.items + h.sets))
  where
    go : (b : Bool) → cond b (r.bound - r.rank (n - h.items)) (r.bound + 1 + r.rank (n - (h.items + h.sets))) ≤ r.bound + 1 + r.bound
    go true = omega arith
    go false = let low : r.rank (n - (h.items + h.sets)) ≤ r.bound = r.bounded (n - (h.items + h.sets)) in omega arith

inner_falls : (h : Hierarchy) (orders : List (ℕ × ℕ)) → IsWhole h orders → (r : IsRankable (IsHeld h)) → (m n : ℕ) → h.items ≤ m → h.items ≤ n → IsNodeStep h orders m n →
    height h r.rank r.bound n < height h r.rank r.bound m
inner_falls h orders whole r m n low high (inl d) =
    let known = whole.placed d.item d.holder d.held in
    let set : d.holder < h.sets = known.1 in
    let below : d.item < h.items = known.0 in
    let from : height h r.rank r.bound m ≡ r.bound - r.rank d.holder = height_enter h r.rank r.bound m d.holder set (d.from ∙ enter_set h d.holder set) in
    elim (cases_lt d.item h.sets) [
      | inl inside ↦
          let to : height h r.rank r.bound n ≡ r.bound - r.rank d.item = height_enter h r.rank r.bound n d.item inside (d.to ∙ enter_set h d.item inside) in
          let falls : r.rank d.holder < r.rank d.item = r.falls d.item d.holder d.held in
          let top : r.rank d.item ≤ r.bound = r.bounded d.item in
          omega arith
      | inr system ↦ let here : n ≡ d.item = d.to ∙ enter_system h d.item system in absurd (omega arith)
    ]
inner_falls h orders whole r m n low high (inr (inl u)) =
    let known = whole.placed u.item u.holder u.held in
    let set : u.holder < h.sets = known.1 in
    let below : u.item < h.items = known.0 in
    let to : height h r.rank r.bound n ≡ r.bound + 1 + r.rank u.holder = height_leave h r.rank r.bound n u.holder (u.to ∙ leave_set h u.holder set) in
    elim (cases_lt u.item h.sets) [
      | inl inside ↦
          let from : height h r.rank r.bound m ≡ r.bound + 1 + r.rank u.item = height_leave h r.rank r.bound m u.item (u.from ∙ leave_set h u.item inside) in
          let falls : r.rank u.holder < r.rank u.item = r.falls u.item u.holder u.held in
          omega arith
      | inr system ↦ let here : m ≡ u.item = u.from ∙ leave_system h u.item system in absurd (omega arith)
    ]
inner_falls h orders whole r m n low high (inr (inr (inl o))) = let below : m < h.items = (whole.between m n o).0 in absurd (omega arith)
inner_falls h orders whole r m n low high (inr (inr (inr o))) =
    let known = whole.between o.first o.second o.ordered in
    let first : o.first < h.items = known.0 in
    let second : o.second < h.items = known.1 in
    elim (cases_lt o.first h.sets) [
      | inl inside ↦
          let from : height h r.rank r.bound m ≡ r.bound + 1 + r.rank o.first = height_leave h r.rank r.bound m o.first (o.from ∙ leave_set h o.first inside) in
          elim (cases_lt o.second h.sets) [
            | inl also ↦
                let to : height h r.rank r.bound n ≡ r.bound - r.rank o.second = height_enter h r.rank r.bound n o.second also (o.to ∙ enter_set h o.second also) in
                omega arith
            | inr system ↦ let here : n ≡ o.second = o.to ∙ enter_system h o.second system in absurd (omega arith)
          ]
      | inr system ↦ let here : m ≡ o.first = o.from ∙ leave_system h o.first system in absurd (omega arith)
    ]

inner_rankable : (h : Hierarchy) (orders : List (ℕ × ℕ)) → IsWhole h orders → IsRankable (IsHeld h) → IsRankable (IsInner h orders)
inner_rankable h orders whole r = record {
  rank = height h r.rank r.bound;
  bound = r.bound + 1 + r.bound;
  bounded = height_bound h r;
  falls = λ m n i. inner_falls h orders whole r m n i.first i.second i.step;
}

walk_inner : (h : Hierarchy) (orders : List (ℕ × ℕ)) (nodes : List ℕ) → ((n : ℕ) → has n nodes ≡ true → h.items ≤ n) → IsWalk (IsNodeStep h orders) nodes → IsWalk (IsInner h orders) nodes
walk_inner h orders [] high walk = tt
walk_inner h orders (x ∷ []) high walk = tt
walk_inner h orders (x ∷ y ∷ nodes) high walk = (
  record {
    step = walk.0;
    first = high x (or_left (eqb x x) (has x (y ∷ nodes)) (eq-eqb x x refl));
    second = high y (or_right (eqb x y) (has y (y ∷ nodes)) (or_left (eqb y y) (has y nodes) (eq-eqb y y refl)));
  },
  walk_inner h orders (y ∷ nodes) (λ n e. high n (or_right (eqb x n) (has n (y ∷ nodes)) e)) walk.1,
)

begins_item : (h : Hierarchy) (orders : List (ℕ × ℕ)) → IsWhole h orders → IsRankable (IsHeld h) → (first : ℕ) (rest : List ℕ) →
    IsWalk (IsNodeStep h orders) (first ∷ (rest ++ first ∷ [])) → BeginsLeast (first ∷ rest) → first < h.items
begins_item h orders whole r first rest walk least = elim (cases_lt first h.items) [
  | inl low ↦ low
  | inr high ↦
      let above : (n : ℕ) → has n (first ∷ (rest ++ first ∷ [])) ≡ true → h.items ≤ n = λ n e. elim (has_end n first (first ∷ rest) e) [
        | inl among ↦ let begins : first ≤ n = least n among in omega arith
        | inr last ↦ omega arith
      ] in
      absurd (no_round (IsInner h orders) (inner_rankable h orders whole r) (first ∷ rest) (omega arith) (walk_inner h orders (first ∷ (rest ++ first ∷ [])) above walk))
]

-- ---- the cycle that is told

told_by : (h : Hierarchy) (orders : List (ℕ × ℕ)) → HasNoLoop orders → HasNoCrossing h orders → AreApart h orders → (first : ℕ) (rest : List ℕ) →
    IsWalk (IsFollowed h orders) (first ∷ (rest ++ first ∷ [])) → 2 ≤ length (first ∷ rest)
told_by h orders loop crossing apart first [] walk = absurd (not_followed h orders loop crossing apart first walk.0)
told_by h orders loop crossing apart first (x ∷ rest) walk = omega arith

told : (h : Hierarchy) (orders : List (ℕ × ℕ)) → IsWhole h orders → IsRankable (IsHeld h) → HasNoLoop orders → HasNoCrossing h orders → AreApart h orders → (nodes : List ℕ) →
    IsRound (IsNodeStep h orders) nodes → BeginsLeast nodes → IsReportedCycle h orders (items_among h.items nodes)
told h orders whole r loop crossing apart [] round least = let some : 0 < 0 = round.some in absurd (omega arith)
told h orders whole r loop crossing apart (first ∷ rest) round least =
    let low : first < h.items = begins_item h orders whole r first rest round.walk least in
    let begins : items_among h.items (first ∷ rest) ≡ first ∷ items_among h.items rest = among_item h.items first rest low in
    let whole_walk = walk_at h orders whole (rest ++ first ∷ []) first first (inl (refl, low)) round.walk in
    let walk : IsWalk (IsFollowed h orders) (first ∷ (items_among h.items rest ++ first ∷ [])) =
    subst (λ (xs : List ℕ). IsWalk (IsFollowed h orders) (first ∷ xs))
    (among_append h.items rest (first ∷ []) ∙ ap (λ (xs : List ℕ). items_among h.items rest ++ xs) (among_item h.items first [] low)) whole_walk in
    let once : IsOnceEach (first ∷ items_among h.items rest) = subst (λ (xs : List ℕ). IsOnceEach xs) begins (among_once h.items (first ∷ rest) round.once) in
    let cycle : IsCycle h orders (first ∷ items_among h.items rest) =
    record { two = told_by h orders loop crossing apart first (items_among h.items rest) walk; once = once; followed = walk } in
    subst (λ (xs : List ℕ). IsReportedCycle h orders xs) (sym begins) (record {
      cycle = cycle;
      earliest = λ n e. least n (among_has h.items n (first ∷ rest) (subst (λ (xs : List ℕ). has n xs ≡ true) (sym begins) e));
    })

-- ---- ranks

up_falls : (h : Hierarchy) (rank : ℕ → ℕ) → ((item holder : ℕ) → IsHeld h item holder → rank (leave_of h.sets h.items holder) < rank (leave_of h.sets h.items item)) → (between : List ℕ) (n holder : ℕ) →
    IsWalk (IsHeld h) (n ∷ (between ++ holder ∷ [])) → rank (leave_of h.sets h.items holder) < rank (leave_of h.sets h.items n)
up_falls h rank falls [] n holder walk = falls n holder walk.0
up_falls h rank falls (x ∷ between) n holder walk =
    let here : rank (leave_of h.sets h.items x) < rank (leave_of h.sets h.items n) = falls n x walk.0 in
    let there : rank (leave_of h.sets h.items holder) < rank (leave_of h.sets h.items x) = up_falls h rank falls between x holder walk.1 in
    omega arith

down_falls : (h : Hierarchy) (rank : ℕ → ℕ) → ((item holder : ℕ) → IsHeld h item holder → rank (enter_of h.sets h.items item) < rank (enter_of h.sets h.items holder)) → (between : List ℕ) (n holder : ℕ) →
    IsWalk (IsHeld h) (n ∷ (between ++ holder ∷ [])) → rank (enter_of h.sets h.items n) < rank (enter_of h.sets h.items holder)
down_falls h rank falls [] n holder walk = falls n holder walk.0
down_falls h rank falls (x ∷ between) n holder walk =
    let here : rank (enter_of h.sets h.items n) < rank (enter_of h.sets h.items x) = falls n x walk.0 in
    let there : rank (enter_of h.sets h.items x) < rank (enter_of h.sets h.items holder) = down_falls h rank falls between x holder walk.1 in
    omega arith

member_up : (h : Hierarchy) (rank : ℕ → ℕ) → ((item holder : ℕ) → IsHeld h item holder → rank (leave_of h.sets h.items holder) < rank (leave_of h.sets h.items item)) → (item n : ℕ) →
    IsMemberOf h item n → rank (leave_of h.sets h.items item) ≤ rank n
member_up h rank falls item n (inl a) =
    let same : leave_of h.sets h.items item ≡ n = ap (leave_of h.sets h.items) a.same ∙ leave_system h n a.system in
    let equal : rank (leave_of h.sets h.items item) ≡ rank n = ap rank same in
    omega arith
member_up h rank falls item n (inr a) =
    let less : rank (leave_of h.sets h.items item) < rank (leave_of h.sets h.items n) = up_falls h rank falls a.reaches.0 n item a.reaches.1 in
    let equal : rank (leave_of h.sets h.items n) ≡ rank n = ap rank (leave_system h n a.system) in
    omega arith

member_down : (h : Hierarchy) (rank : ℕ → ℕ) → ((item holder : ℕ) → IsHeld h item holder → rank (enter_of h.sets h.items item) < rank (enter_of h.sets h.items holder)) → (item n : ℕ) →
    IsMemberOf h item n → rank n ≤ rank (enter_of h.sets h.items item)
member_down h rank falls item n (inl a) =
    let same : enter_of h.sets h.items item ≡ n = ap (enter_of h.sets h.items) a.same ∙ enter_system h n a.system in
    let equal : rank (enter_of h.sets h.items item) ≡ rank n = ap rank same in
    omega arith
member_down h rank falls item n (inr a) =
    let less : rank (enter_of h.sets h.items n) < rank (enter_of h.sets h.items item) = down_falls h rank falls a.reaches.0 n item a.reaches.1 in
    let equal : rank (enter_of h.sets h.items n) ≡ rank n = ap rank (enter_system h n a.system) in
    omega arith

followed_falls : (h : Hierarchy) (orders : List (ℕ × ℕ)) (r : IsRankable (IsNodeStep h orders)) (m n : ℕ) → IsFollowed h orders m n → r.rank n < r.rank m
followed_falls h orders r m n (inl o) = r.falls m n (inr (inr (inl o)))
followed_falls h orders r m n (inr e) =
    let enter = enter_of h.sets h.items in
    let leave = leave_of h.sets h.items in
    let up : r.rank (leave e.first) ≤ r.rank m =
    member_up h r.rank (λ item holder held. r.falls (leave item) (leave holder) (inr (inl (record { item = item; holder = holder; held = held; from = refl; to = refl })))) e.first m e.from in
    let over : r.rank (enter e.second) < r.rank (leave e.first) =
    r.falls (leave e.first) (enter e.second) (inr (inr (inr (record { first = e.first; second = e.second; ordered = e.ordered; from = refl; to = refl })))) in
    let down : r.rank n ≤ r.rank (enter e.second) =
    member_down h r.rank (λ item holder held. r.falls (enter holder) (enter item) (inl (record { item = item; holder = holder; held = held; from = refl; to = refl }))) e.second n e.to in
    omega arith

followed_rankable : (h : Hierarchy) (orders : List (ℕ × ℕ)) → IsRankable (IsNodeStep h orders) → IsRankable (IsFollowed h orders)
followed_rankable h orders r = record { rank = r.rank; bound = r.bound; bounded = r.bounded; falls = followed_falls h orders r }

no_cycle : (h : Hierarchy) (orders : List (ℕ × ℕ)) → IsRankable (IsFollowed h orders) → HasNoCycle h orders
no_cycle h orders r items c = let long : 2 ≤ length items = c.two in no_round (IsFollowed h orders) r items (omega arith) c.followed

-- ---- the steps that the search is given

in_orders : (orders : List Order) (o : Order) → IsIn o orders → IsIn (pair_of o) (pairs_of orders)
in_orders orders o h = in-map pair_of orders o h

node_of_step : (sets items : ℕ) (pairs orders : List Order) (m n : ℕ) → IsStep (steps_of sets items pairs orders) m n → IsNodeStep (hierarchy_of sets items pairs) (pairs_of orders) m n
node_of_step sets items pairs orders m n s =
    let enters : List Order = map (enter_step sets items) pairs in
    let leaves : List Order = map (leave_step sets items) pairs in
    elim (IsIn-append (order_of m n) ((enters ++ leaves) ++ orders) (map (cross_step sets items) orders) (in_step (steps_of sets items pairs orders) m n s)) [
      | inl front ↦ elim (IsIn-append (order_of m n) (enters ++ leaves) orders front) [
        | inl moves ↦ elim (IsIn-append (order_of m n) enters leaves moves) [
          | inl down ↦
              let r = from_map (enter_step sets items) pairs (order_of m n) down in
              inl (record { item = r.0.first; holder = r.0.second; held = in_orders pairs r.0 r.1; from = ap (λ (o : Order). o.first) r.2; to = ap (λ (o : Order). o.second) r.2 })
          | inr up ↦
              let r = from_map (leave_step sets items) pairs (order_of m n) up in
              inr (inl (record { item = r.0.first; holder = r.0.second; held = in_orders pairs r.0 r.1; from = ap (λ (o : Order). o.first) r.2; to = ap (λ (o : Order). o.second) r.2 }))
        ]
        | inr plain ↦ inr (inr (inl (in_orders orders (order_of m n) plain)))
      ]
      | inr over ↦
          let r = from_map (cross_step sets items) orders (order_of m n) over in
          inr (inr (inr (record { first = r.0.first; second = r.0.second; ordered = in_orders orders r.0 r.1; from = ap (λ (o : Order). o.first) r.2; to = ap (λ (o : Order). o.second) r.2 })))
    ]

-- the order of a pair that is among them
order_in : (orders : List Order) (m n : ℕ) → IsIn (m, n) (pairs_of orders) → IsIn (order_of m n) orders
order_in orders m n h = in_step orders m n (step_of_held orders m n h)

step_of_node : (sets items : ℕ) (pairs orders : List Order) (m n : ℕ) → IsNodeStep (hierarchy_of sets items pairs) (pairs_of orders) m n → IsStep (steps_of sets items pairs orders) m n
step_of_node sets items pairs orders m n (inl d) =
    let enters : List Order = map (enter_step sets items) pairs in
    let leaves : List Order = map (leave_step sets items) pairs in
    let crosses : List Order = map (cross_step sets items) orders in
    let o : Order = order_of d.item d.holder in
    let made : IsIn (enter_step sets items o) enters = in-map (enter_step sets items) pairs o (order_in pairs d.item d.holder d.held) in
    let there = step_in (steps_of sets items pairs orders) (enter_step sets items o)
    (IsIn_left _ ((enters ++ leaves) ++ orders) crosses (IsIn_left _ (enters ++ leaves) orders (IsIn_left _ enters leaves made))) in
    subst (λ (x : ℕ). IsStep (steps_of sets items pairs orders) x n) (sym d.from) (subst (λ (y : ℕ). IsStep (steps_of sets items pairs orders) (enter_of sets items d.holder) y) (sym d.to) there)
step_of_node sets items pairs orders m n (inr (inl u)) =
    let enters : List Order = map (enter_step sets items) pairs in
    let leaves : List Order = map (leave_step sets items) pairs in
    let crosses : List Order = map (cross_step sets items) orders in
    let o : Order = order_of u.item u.holder in
    let made : IsIn (leave_step sets items o) leaves = in-map (leave_step sets items) pairs o (order_in pairs u.item u.holder u.held) in
    let there = step_in (steps_of sets items pairs orders) (leave_step sets items o)
    (IsIn_left _ ((enters ++ leaves) ++ orders) crosses (IsIn_left _ (enters ++ leaves) orders (IsIn_right _ enters leaves made))) in
    subst (λ (x : ℕ). IsStep (steps_of sets items pairs orders) x n) (sym u.from) (subst (λ (y : ℕ). IsStep (steps_of sets items pairs orders) (leave_of sets items u.item) y) (sym u.to) there)
step_of_node sets items pairs orders m n (inr (inr (inl o))) =
    let enters : List Order = map (enter_step sets items) pairs in
    let leaves : List Order = map (leave_step sets items) pairs in
    let crosses : List Order = map (cross_step sets items) orders in
    step_in (steps_of sets items pairs orders) (order_of m n)
    (IsIn_left _ ((enters ++ leaves) ++ orders) crosses (IsIn_right _ (enters ++ leaves) orders (order_in orders m n o)))
step_of_node sets items pairs orders m n (inr (inr (inr v))) =
    let enters : List Order = map (enter_step sets items) pairs in
    let leaves : List Order = map (leave_step sets items) pairs in
    let crosses : List Order = map (cross_step sets items) orders in
    let o : Order = order_of v.first v.second in
    let made : IsIn (cross_step sets items o) crosses = in-map (cross_step sets items) orders o (order_in orders v.first v.second v.ordered) in
    let there = step_in (steps_of sets items pairs orders) (cross_step sets items o) (IsIn_right _ ((enters ++ leaves) ++ orders) crosses made) in
    subst (λ (x : ℕ). IsStep (steps_of sets items pairs orders) x n) (sym v.from) (subst (λ (y : ℕ). IsStep (steps_of sets items pairs orders) (leave_of sets items v.first) y) (sym v.to) there)

-- ---- what the search is given, and what it tells

is_whole : (sets items : ℕ) (pairs orders : List Order) → ArePlaced sets items pairs → All (IsBetween items) orders → IsWhole (hierarchy_of sets items pairs) (pairs_of orders)
is_whole sets items pairs orders placed between = record {
  few = placed.few;
  placed = λ item holder held.
      let r = held_place pairs item holder held in
      let d : Order = record { first = 0; second = 0 } in
      let here = r.2 d in
      let at : IsPlaced sets items (get_or pairs r.0 d) = placed.placed r.0 d r.1 in
      (subst (λ (x : ℕ). x < items) here.0 at.item, subst (λ (x : ℕ). x < sets) here.1 at.holder);
  between = λ m n o.
      let r = held_place orders m n o in
      let d : Order = record { first = 0; second = 0 } in
      let here = r.2 d in
      let at : IsBetween items (get_or orders r.0 d) = between r.0 d r.1 in
      (subst (λ (x : ℕ). x < items) here.0 at.first, subst (λ (x : ℕ). x < items) here.1 at.second);
}

node_low : (h : Hierarchy) (n : ℕ) → h.sets ≤ h.items → n < h.items → (enter_of h.sets h.items n < h.items + h.sets + h.sets) × (leave_of h.sets h.items n < h.items + h.sets + h.sets)
node_low h n few low = elim (cases_lt n h.sets) [
  | inl set ↦
      let e : enter_of h.sets h.items n ≡ h.items + n = enter_set h n set in
      let l : leave_of h.sets h.items n ≡ h.items + h.sets + n = leave_set h n set in
      (omega arith, omega arith)
  | inr system ↦
      let e : enter_of h.sets h.items n ≡ n = enter_system h n system in
      let l : leave_of h.sets h.items n ≡ n = leave_system h n system in
      (omega arith, omega arith)
]

node_between : (h : Hierarchy) (orders : List (ℕ × ℕ)) → IsWhole h orders → (m n : ℕ) → IsNodeStep h orders m n → (m < h.items + h.sets + h.sets) × (n < h.items + h.sets + h.sets)
node_between h orders whole m n (inl d) =
    let known = whole.placed d.item d.holder d.held in
    let holder : d.holder < h.items = omega (arith, known.1, whole.few) in
    (subst (λ (x : ℕ). x < h.items + h.sets + h.sets) (sym d.from) (node_low h d.holder whole.few holder).0, subst (λ (x : ℕ). x < h.items + h.sets + h.sets) (sym d.to) (node_low h d.item whole.few known.0).0)
node_between h orders whole m n (inr (inl u)) =
    let known = whole.placed u.item u.holder u.held in
    let holder : u.holder < h.items = omega (arith, known.1, whole.few) in
    (subst (λ (x : ℕ). x < h.items + h.sets + h.sets) (sym u.from) (node_low h u.item whole.few known.0).1, subst (λ (x : ℕ). x < h.items + h.sets + h.sets) (sym u.to) (node_low h u.holder whole.few holder).1)
node_between h orders whole m n (inr (inr (inl o))) = let known = whole.between m n o in (omega (arith, known.0), omega (arith, known.1))
node_between h orders whole m n (inr (inr (inr v))) =
    let known = whole.between v.first v.second v.ordered in
    (subst (λ (x : ℕ). x < h.items + h.sets + h.sets) (sym v.from) (node_low h v.first whole.few known.0).1, subst (λ (x : ℕ). x < h.items + h.sets + h.sets) (sym v.to) (node_low h v.second whole.few known.1).0)

at_step : (orders : List Order) (k : ℕ) (d : Order) → k < length orders → IsStep orders (get_or orders k d).first (get_or orders k d).second
at_step [] k d low = absurd (omega arith)
at_step (o ∷ orders) zero d low = (0, omega arith, refl)
at_step (o ∷ orders) (suc k) d low = let r = at_step orders k d (omega arith) in (suc r.0, omega (arith, r.1), r.2)

pub steps_inside : (sets items count : ℕ) (pairs orders steps : List Order) → ArePlaced sets items pairs → All (IsBetween items) orders → steps ≡ steps_of sets items pairs orders → count ≡ items + sets + sets →
    (k : ℕ) (d : Order) → k < length steps → IsBetween count (get_or steps k d)
steps_inside sets items count pairs orders steps placed between same counted k d low =
    let h : Hierarchy = hierarchy_of sets items pairs in
    let o : Order = get_or steps k d in
    let step : IsStep (steps_of sets items pairs orders) o.first o.second = subst (λ (xs : List Order). IsStep xs o.first o.second) same (at_step steps k d low) in
    let both = node_between h (pairs_of orders) (is_whole sets items pairs orders placed between) o.first o.second (node_of_step sets items pairs orders o.first o.second step) in
    record { first = omega (arith, both.0); second = omega (arith, both.1) }

pub tells_none : (sets items : ℕ) (pairs orders steps : List Order) → steps ≡ steps_of sets items pairs orders → IsRankable (IsStep steps) →
    HasNoCycle (hierarchy_of sets items pairs) (pairs_of orders) × IsRankable (IsFollowed (hierarchy_of sets items pairs) (pairs_of orders))
tells_none sets items pairs orders steps same r =
    let h : Hierarchy = hierarchy_of sets items pairs in
    let nodes : IsRankable (IsNodeStep h (pairs_of orders)) = record {
      rank = r.rank;
      bound = r.bound;
      bounded = r.bounded;
      falls = λ m n s. r.falls m n (subst (λ (xs : List Order). IsStep xs m n) (sym same) (step_of_node sets items pairs orders m n s));
    } in
    let ranks = followed_rankable h (pairs_of orders) nodes in
    (no_cycle h (pairs_of orders) ranks, ranks)

pub tells_some : (sets items : ℕ) (pairs orders steps : List Order) (nodes : List ℕ) → ArePlaced sets items pairs → All (IsBetween items) orders → IsRankable (IsStep pairs) →
    HasNoLoop (pairs_of orders) → HasNoCrossing (hierarchy_of sets items pairs) (pairs_of orders) → AreApart (hierarchy_of sets items pairs) (pairs_of orders) →
    steps ≡ steps_of sets items pairs orders → IsRound (IsStep steps) nodes → BeginsLeast nodes → IsReportedCycle (hierarchy_of sets items pairs) (pairs_of orders) (items_among items nodes)
tells_some sets items pairs orders steps nodes placed between ranked loop crossing apart same round least =
    let h : Hierarchy = hierarchy_of sets items pairs in
    let over : IsRound (IsNodeStep h (pairs_of orders)) nodes = record {
      some = round.some;
      once = round.once;
      walk = walk_weaker (IsStep steps) (IsNodeStep h (pairs_of orders)) (λ m n s. node_of_step sets items pairs orders m n (subst (λ (xs : List Order). IsStep xs m n) same s)) (nodes ++ take 1 nodes) round.walk;
    } in
    told h (pairs_of orders) (is_whole sets items pairs orders placed between) (held_rankable sets items pairs ranked) loop crossing apart nodes over least

-- one more node among the items
pub kept_more : (items : ℕ) (nodes found more : List ℕ) (i : ℕ) → i < length nodes → found ≡ items_among items (take i nodes) → get_or nodes i 0 < items → more ≡ found ++ get_or nodes i 0 ∷ [] → more ≡ items_among items (take (i + 1) nodes)
kept_more items nodes found more i low is less new =
    new ∙ ap (λ xs. xs ++ get_or nodes i 0 ∷ []) is
    ∙ ap (λ b. items_among items (take i nodes) ++ cond b (get_or nodes i 0 ∷ []) []) (sym (lt-ltb (get_or nodes i 0) items less))
    ∙ sym (filter_more (λ n. nat_lt n items) nodes i 0 low)

-- one more node that is none of them
pub left_more : (items : ℕ) (nodes found : List ℕ) (i : ℕ) → i < length nodes → found ≡ items_among items (take i nodes) → items ≤ get_or nodes i 0 → found ≡ items_among items (take (i + 1) nodes)
left_more items nodes found i low is past =
    is ∙ sym (append-nil (items_among items (take i nodes)))
    ∙ ap (λ b. items_among items (take i nodes) ++ cond b (get_or nodes i 0 ∷ []) []) (sym (le-ltb (get_or nodes i 0) items past))
    ∙ sym (filter_more (λ n. nat_lt n items) nodes i 0 low)
