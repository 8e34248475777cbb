-- The systems of a schedule with their predecessors, and what is lawful of a built schedule.
use Rattle.std.proofs.Common.{◌≡◌, ℕ, zero, suc, ◌<◌, ◌≤◌, ◌+◌, ◌^◌, inl, inr, Bool, true, false, cond, eqb, List, [], ◌∷◌, ◌++◌, length, map, get_or, arith, refl, subst, sym, ap, ◌∙◌}
use Rattle.std.specs.List.{filter}
use Rattle.std.proofs.lemmas.Bool.{false≢true, or_cases, or_left, or_right, eqb-true, eq-eqb, cases_lt}
use Rattle.std.proofs.lemmas.Bool.Decides.{eqb_tells}
use Rattle.std.proofs.lemmas.List.{same_lists, get_or-map, length-map, get_or_push, get_or_append_left, length_push, get_or_past, get_or_default, length-append}
use Rattle.model.specs.Lists.{has, IsIn}
use Rattle.model.specs.access.Query.{Term, writes}
use Rattle.model.specs.access.Access.{Params, no_params}
use Rattle.model.specs.access.SelfConflict.{ConflictWithin}
use Rattle.model.specs.declarations.Declarations.{Declared, DeclaredSystem, plain_item, items_of, hierarchy_of, declared_orders}
use Rattle.model.specs.declarations.Edges.{IsFollowed}
use Rattle.model.specs.declarations.Refusals.{HasNoSelfConflict}
use Rattle.model.specs.steps.Schedule.{ScheduledSystem, ScheduledCondition, has_edge, level_of, covers, access_of}
use Rattle.model.specs.steps.Ambiguity.{Reaches, Before}
use Rattle.model.specs.declarations.ScheduleOrder.{IsScheduleOrder, IsDeclaredEdge, HasDeclaredEdges, HasDeclaredSystems}
use Rattle.schedule_builder.proofs.ScheduleOrders.{split_at}
use Rattle.model.specs.steps.Built.{IsBuilt}
use Rattle.cycle_search.specs.declared.order.Order.{Order}
use Rattle.cycle_search.specs.Orders.{IsBetween}
use Rattle.system_set.specs.Edges.{AreEdges}
use Rattle.system_set.proofs.Reaching.{held_of_step, step_of_held}
use Rattle.system_set.proofs.EdgeLists.{member_known}
use Rattle.cycle_search.specs.Cycles.{IsStep, IsRankable}
use Rattle.schedule_builder.specs.Rows.{AreApart}
use Rattle.schedule_builder.specs.ScheduleOrder.{schedule_with, schedule_of, system_with, items_before, scheduled, IsEdge, HasSourcesBelow, AreRising, AreScheduled}

-- ---- predecessors

step_later : (orders : List Order) (o : Order) (m n : ℕ) → IsStep orders m n → IsStep (o ∷ orders) m n
step_later orders o m n s = (suc s.0, omega (arith, s.1), s.2)

abbrev order_of : ℕ → ℕ → Order
order_of m n = record { first = m; second = n }

before_cons : (orders : List Order) (o : Order) (n : ℕ) (b : Bool) → eqb o.second n ≡ b → items_before (o ∷ orders) n ≡ cond b (o.first ∷ items_before orders n) (items_before orders n)
before_cons orders o n true e = ap (λ (b : Bool). map (λ (x : Order). x.first) (cond b (o ∷ filter (λ (x : Order). eqb x.second n) orders) (filter (λ (x : Order). eqb x.second n) orders))) e
before_cons orders o n false e = ap (λ (b : Bool). map (λ (x : Order). x.first) (cond b (o ∷ filter (λ (x : Order). eqb x.second n) orders) (filter (λ (x : Order). eqb x.second n) orders))) e

step_of_has : (orders : List Order) (m n : ℕ) → has m (items_before orders n) ≡ true → IsStep orders m n
step_of_has [] m n h = absurd (false≢true h)
step_of_has (o ∷ orders) m n h = elim (eqb_tells o.second n) [
  | inl f ↦
      let read : has m (o.first ∷ items_before orders n) ≡ true = subst (λ (xs : List ℕ). has m xs ≡ true) (before_cons orders o n true f.0) h in
      elim (or_cases (eqb o.first m) (has m (items_before orders n)) read) [
        | inl e ↦ (0, omega arith, ap (λ (x : ℕ). order_of x o.second) (eqb-true o.first m e) ∙ ap (λ (x : ℕ). order_of m x) f.1)
        | inr e ↦ step_later orders o m n (step_of_has orders m n e)
      ]
  | inr f ↦ step_later orders o m n (step_of_has orders m n (subst (λ (xs : List ℕ). has m xs ≡ true) (before_cons orders o n false f.0) h))
]

has_of_place : (orders : List Order) (m n k : ℕ) → k < length orders → get_or orders k (order_of m n) ≡ order_of m n → has m (items_before orders n) ≡ true
has_of_place [] m n k l e = absurd (omega arith)
has_of_place (o ∷ orders) m n zero l e =
    let second : eqb o.second n ≡ true = eq-eqb o.second n (ap (λ (x : Order). x.second) e) in
    subst (λ (xs : List ℕ). has m xs ≡ true) (sym (before_cons orders o n true second)) (or_left (eqb o.first m) (has m (items_before orders n)) (eq-eqb o.first m (ap (λ (x : Order). x.first) e)))
has_of_place (o ∷ orders) m n (suc k) l e =
    let later : has m (items_before orders n) ≡ true = has_of_place orders m n k (omega arith) e in
    elim (eqb_tells o.second n) [
      | inl f ↦ subst (λ (xs : List ℕ). has m xs ≡ true) (sym (before_cons orders o n true f.0)) (or_right (eqb o.first m) (has m (items_before orders n)) later)
      | inr f ↦ subst (λ (xs : List ℕ). has m xs ≡ true) (sym (before_cons orders o n false f.0)) later
    ]

-- ---- edges

edge_inside : {levels : List ℕ} (orders : List Order) (systems : List DeclaredSystem) (built : List ScheduledSystem) → AreScheduled orders levels systems built → (m n : ℕ) → n < length systems → has_edge (schedule_of built []) m n ≡ has m (items_before orders n)
edge_inside orders systems built a m n l = ap (λ (s : ScheduledSystem). has m s.predecessors) (a.each n l)

edge_outside : (built : List ScheduledSystem) (m n : ℕ) → length built ≤ n → has_edge (schedule_of built []) m n ≡ false
edge_outside built m n l = ap (λ (s : ScheduledSystem). has m s.predecessors) (get_or_past built n (record { params = no_params; predecessors = []; level = 0 }) l)

pub step_of_edge : {levels : List ℕ} (orders : List Order) (systems : List DeclaredSystem) (built : List ScheduledSystem) → AreScheduled orders levels systems built → (m n : ℕ) → IsEdge built m n → IsStep orders m n
step_of_edge orders systems built a m n e = elim (cases_lt n (length systems)) [
  | inl l ↦ step_of_has orders m n (sym (edge_inside orders systems built a m n l) ∙ e)
  | inr l ↦ absurd (false≢true (sym (edge_outside built m n (omega (arith, a.long))) ∙ e))
]

-- what was read stands there
read_again : (orders : List Order) (k : ℕ) (o : Order) → k < length orders → get_or orders k (get_or orders k o) ≡ get_or orders k o
read_again orders k o low = sym (get_or_default orders k o (get_or orders k o) low)

-- how many items there are
pub items_count : (d : Declared) → length (items_of d) ≡ length d.sets + length d.systems
items_count d = length-append d.sets (map (λ (s : DeclaredSystem). s.item) d.systems) ∙ ap (λ (k : ℕ). length d.sets + k) (length-map d.systems (λ (s : DeclaredSystem). s.item))

-- an edge is of two systems
pub edge_known : (d : Declared) (m n : ℕ) → IsDeclaredEdge d m n → (m < length d.systems) × (n < length d.systems)
edge_known d m n e =
    let count = items_count d in
    let first : length d.sets + m < length (items_of d) = member_known (hierarchy_of d) e.first (length d.sets + m) e.from in
    let second : length d.sets + n < length (items_of d) = member_known (hierarchy_of d) e.second (length d.sets + n) e.to in
    (omega (arith, count, first), omega (arith, count, second))

edge_of_step : (d : Declared) (edges : List Order) → AreEdges (hierarchy_of d) (declared_orders d) edges → (m n : ℕ) → IsStep edges m n → IsDeclaredEdge d m n
edge_of_step d edges are m n s = (are.tells m n).0 (held_of_step edges m n s)

pub declared_edges : {levels : List ℕ} (edges : List Order) (d : Declared) (built : List ScheduledSystem) (order : List ℕ) → AreEdges (hierarchy_of d) (declared_orders d) edges → AreScheduled edges levels d.systems built → HasDeclaredEdges d (schedule_of built order)
declared_edges edges d built order are a m n = (
  (λ e. edge_of_step d edges are m n (step_of_edge edges d.systems built a m n e)),
  (λ h. let s = step_of_held edges m n ((are.tells m n).1 h) in edge_inside edges d.systems built a m n (edge_known d m n h).1 ∙ has_of_place edges m n s.0 s.1 s.2),
)

pub edges_rankable : {levels : List ℕ} (edges : List Order) (d : Declared) (built : List ScheduledSystem) → AreEdges (hierarchy_of d) (declared_orders d) edges → AreScheduled edges levels d.systems built →
    IsRankable (IsFollowed (hierarchy_of d) (declared_orders d)) → IsRankable (IsEdge built)
edges_rankable edges d built are a r = record {
  rank = λ n. r.rank (length d.sets + n);
  bound = r.bound;
  bounded = λ n. r.bounded (length d.sets + n);
  falls = λ m n e. r.falls (length d.sets + m) (length d.sets + n) (inr (edge_of_step d edges are m n (step_of_edge edges d.systems built a m n e)));
}

pub edges_from : {levels : List ℕ} (edges : List Order) (d : Declared) (built : List ScheduledSystem) → AreEdges (hierarchy_of d) (declared_orders d) edges → AreScheduled edges levels d.systems built → HasSourcesBelow built
edges_from edges d built are a m n e =
    let o = edge_known d m n (edge_of_step d edges are m n (step_of_edge edges d.systems built a m n e)) in
    omega (arith, o.0, a.long)

pub edges_small : (edges : List Order) (d : Declared) → AreEdges (hierarchy_of d) (declared_orders d) edges → length d.systems ≤ 256 → (k : ℕ) (o : Order) → k < length edges → IsBetween (2 ^ 32) (get_or edges k o)
edges_small edges d are few k o low =
    let here : Order = get_or edges k o in
    let step : IsStep edges here.first here.second = (k, low, read_again edges k o low) in
    let known = edge_known d here.first here.second (edge_of_step d edges are here.first here.second step) in
    record { first = omega (arith, known.0); second = omega (arith, known.1) }

pub declared_systems : {levels : List ℕ} (edges : List Order) (d : Declared) (built : List ScheduledSystem) (order : List ℕ) → AreScheduled edges levels d.systems built → HasDeclaredSystems d (schedule_of built order)
declared_systems edges d built order a =
    let systems = d.systems in
    let f : ScheduledSystem → Params = λ s. s.params in
    let g : DeclaredSystem → Params = λ s. s.params in
    let none : DeclaredSystem = record { item = plain_item []; params = no_params } in
    let nothing : ScheduledSystem = record { params = no_params; predecessors = []; level = 0 } in
    same_lists (map f built) (map g systems) (length-map built f ∙ (a.long ∙ sym (length-map systems g))) (λ k x l.
    let low : k < length built = omega (arith, length-map built f) in
    let inside : k < length systems = omega (arith, a.long) in
    get_or-map f built k nothing x low ∙ (ap f (a.each k inside) ∙ sym (get_or-map g systems k none x inside)))

pub levels_are : (edges : List Order) (levels : List ℕ) (systems : List DeclaredSystem) (built : List ScheduledSystem) → AreScheduled edges levels systems built → (n : ℕ) → n < length systems → level_of (schedule_of built []) n ≡ get_or levels n 0
levels_are edges levels systems built a n l = ap (λ (s : ScheduledSystem). s.level) (a.each n l)

-- where no level is given, all are of level 0
pub flat_levels : (edges : List Order) (systems : List DeclaredSystem) (built : List ScheduledSystem) → AreScheduled edges [] systems built → (n : ℕ) → level_of (schedule_of built []) n ≡ 0
flat_levels edges systems built a n = elim (cases_lt n (length systems)) [
  | inl l ↦ ap (λ (s : ScheduledSystem). s.level) (a.each n l)
  | inr l ↦ ap (λ (s : ScheduledSystem). s.level) (get_or_past built n (record { params = no_params; predecessors = []; level = 0 }) (omega (arith, a.long)))
]

pub flat_rises : (edges : List Order) (systems : List DeclaredSystem) (built : List ScheduledSystem) → AreScheduled edges [] systems built → AreRising built
flat_rises edges systems built a m n e = omega (arith, flat_levels edges systems built a m, flat_levels edges systems built a n)

-- ---- a built schedule

pub is_built : {levels : List ℕ} (edges : List Order) (d : Declared) (built : List ScheduledSystem) (conditions : List ScheduledCondition) (syncs : ℕ) (order : List ℕ) (silences : List (List ℕ)) → AreEdges (hierarchy_of d) (declared_orders d) edges
    → AreScheduled edges levels d.systems built → length d.systems ≤ 256 → length conditions ≤ 512 → IsScheduleOrder (schedule_of built order) → AreRising built → ((n : ℕ) → n < length built → level_of (schedule_of built []) n < syncs) → syncs ≤ 257
    → ((c n : ℕ) → covers (schedule_with built conditions syncs order silences) c n ≡ true → n < length d.systems)
    → ((c : ℕ) (query : List Term) → IsIn query (access_of (schedule_with built conditions syncs order silences) c).queries → (kind : ℕ) → writes query kind ≡ false)
    → IsBuilt (schedule_with built conditions syncs order silences)
is_built edges d built conditions syncs order silences are a few few_conditions s rising below few_syncs covered reading = record {
  few_systems = omega (arith, a.long);
  few_conditions = few_conditions;
  few_syncs = few_syncs;
  sources = edges_from edges d built are a;
  rising = λ m n e. rising m n e;
  levels = λ n l. below n l;
  listed = s.whole;
  known = λ n h. let p = split_at n order h in (s.next p.0 p.1 n p.2).placeable.known;
  once = λ front rest n e. (s.next front rest n e).placeable.open_yet;
  after = λ front rest n e m edge. (s.next front rest n e).placeable.after m (edges_from edges d built are a m n edge) (Before.ByPath (Reaches.Edge m n edge));
  covered = λ c n h. let known : n < length d.systems = covered c n h in omega (arith, a.long, known);
  reading = reading;
}

-- systems whose parameters don't conflict among themselves as declared don't in the schedule
pub are_apart : {levels : List ℕ} (edges : List Order) (d : Declared) (built : List ScheduledSystem) → AreScheduled edges levels d.systems built → HasNoSelfConflict d → AreApart built
are_apart edges d built a none = record {
  apart = λ n l h.
      let low : n < length d.systems = omega (arith, a.long) in
      none n low (subst (λ (p : Params). ConflictWithin p) (ap (λ (s : ScheduledSystem). s.params) (a.each n low)) h);
}

-- systems without their names have the same schedule
pub scheduled_as : (edges : List Order) (systems : List DeclaredSystem) (built : List ScheduledSystem) → AreScheduled edges [] (map system_with (map (λ s. s.params) systems)) built → AreScheduled edges [] systems built
scheduled_as edges systems built a =
    let params : List Params = map (λ (s : DeclaredSystem). s.params) systems in
    let long : length (map system_with params) ≡ length systems = length-map params system_with ∙ length-map systems (λ (s : DeclaredSystem). s.params) in
    record {
      long = a.long ∙ long;
      each = λ n low. a.each n (omega (arith, long)) ∙ ap (λ (p : Params). scheduled edges n p 0) (params_at systems n low);
    }
  where
    params_at : (systems : List DeclaredSystem) (n : ℕ) → n < length systems → (get_or (map system_with (map (λ s. s.params) systems)) n (system_with no_params)).params ≡ (get_or systems n (system_with no_params)).params
    params_at [] n low = absurd (omega arith)
    params_at (s ∷ systems) zero low = refl
    params_at (s ∷ systems) (suc n) low = params_at systems n (omega arith)

-- ---- one more system

pub scheduled_more : (orders : List Order) (systems : List DeclaredSystem) (built : List ScheduledSystem) (s : DeclaredSystem) → AreScheduled orders [] systems built → AreScheduled orders [] (systems ++ s ∷ []) (built ++ scheduled orders (length built) s.params 0 ∷ [])
scheduled_more orders systems built s a =
    let none : DeclaredSystem = record { item = plain_item []; params = no_params } in
    let nothing : ScheduledSystem = record { params = no_params; predecessors = []; level = 0 } in
    let new : ScheduledSystem = scheduled orders (length built) s.params 0 in
    record {
      long = length_push built new ∙ (ap (λ (k : ℕ). k + 1) a.long ∙ sym (length_push systems s));
      each = λ n l. elim (cases_lt n (length systems)) [
        | inl low ↦ get_or_append_left built (new ∷ []) nothing n (omega (arith, a.long)) ∙ (a.each n low ∙ ap (λ (x : DeclaredSystem). scheduled orders n x.params 0) (sym (get_or_append_left systems (s ∷ []) none n low)))
        | inr high ↦
            let at : length systems ≡ n = omega (arith, length_push systems s) in
            let here : length built ≡ n = a.long ∙ at in
            get_or_push built new nothing n here ∙ (ap (λ (k : ℕ). scheduled orders k s.params 0) here ∙ ap (λ (x : DeclaredSystem). scheduled orders n x.params 0) (sym (get_or_push systems s none n at)))
      ];
    }
