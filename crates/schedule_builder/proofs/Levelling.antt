-- The levels of declared systems: those that were found are the greatest numbers of deferring edges on paths.
use Rattle.std.proofs.Common.{◌≡◌, ℕ, zero, suc, ◌<◌, ◌≤◌, ◌+◌, ◌⊎◌, inl, inr, Bool, true, false, ◌&&◌, cond, eqb, is_some, List, [], ◌∷◌, ◌++◌, length, map, flat_map, get_or, refl, arith, subst, sym, ap, ◌∙◌}
use Rattle.std.specs.List.{filter}
use Rattle.std.proofs.lemmas.Bool.{false≢true, or_cases, or_left, or_right, eqb-true, eq-eqb, cases_lt, and_parts as both_parts, and_from as both_from}
use Rattle.std.proofs.lemmas.List.{get_or_push, get_or_append_left, length_push}
use Rattle.model.specs.Lists.{has, IsIn}
use Rattle.model.specs.access.Access.{no_params}
use Rattle.model.specs.declarations.Declarations.{Declared, DeclaredItem, DeclaredSystem, declared_at, items_of, orders_before, orders_after, orders_in, plain_orders_in, orders_along, plain_orders_along, from_each, hierarchy_of, declared_orders, plain_orders}
use Rattle.model.specs.declarations.Edges.{IsEdge as IsEdgeOf, IsFollowed}
use Rattle.model.specs.declarations.ScheduleOrder.{IsScheduleOrder, IsDeclaredEdge, IsDeferring, HasPath, IsLevel, HasLevels}
use Rattle.model.specs.declarations.ScheduleOrder.HasPath.{Begins, Goes, Defers}
use Rattle.model.specs.steps.Schedule.{ScheduledSystem, ScheduledCondition, level_of}
use Rattle.model.specs.steps.Ambiguity.{Reaches, Before}
use Rattle.cycle_search.specs.declared.order.Order.{Order}
use Rattle.cycle_search.specs.Cycles.{IsRankable}
use Rattle.system_set.specs.Pairs.{pairs_of}
use Rattle.system_set.specs.Edges.{AreEdges}
use Rattle.model.proofs.lists.Lists.{IsIn-append as in_either, IsIn_left as in_front, IsIn_right as in_back}
use Rattle.schedule_builder.specs.ScheduleOrder.{schedule_with, schedule_of, IsEdge, AreRising, AreScheduled}
use Rattle.schedule_builder.specs.Levels.{has_commands, deferring_before, AreLevels, AreSyncs, AreLevelledBy}
use Rattle.schedule_builder.proofs.Assembly.{edge_known, declared_edges, levels_are}

-- ---- plain orders are orders

within_from : {A : Type 0} (x : A) (f g : ℕ → DeclaredItem → List A) → ((n : ℕ) (i : DeclaredItem) → IsIn x (f n i) → IsIn x (g n i)) → (n : ℕ) (items : List DeclaredItem) → IsIn x (from_each f n items) → IsIn x (from_each g n items)
within_from x f g w n [] h = h
within_from x f g w n (i ∷ items) h = elim (in_either x (f n i) (from_each f (suc n) items) h) [
  | inl k ↦ in_front x (g n i) (from_each g (suc n) items) (w n i k)
  | inr k ↦ in_back x (g n i) (from_each g (suc n) items) (within_from x f g w (suc n) items k)
]

within_flat : {A B : Type 0} (x : B) (f g : A → List B) → ((a : A) → IsIn x (f a) → IsIn x (g a)) → (xs : List A) → IsIn x (flat_map f xs) → IsIn x (flat_map g xs)
within_flat x f g w [] h = h
within_flat x f g w (a ∷ xs) h = elim (in_either x (f a) (flat_map f xs) h) [
  | inl k ↦ in_front x (g a) (flat_map g xs) (w a k)
  | inr k ↦ in_back x (g a) (flat_map g xs) (within_flat x f g w xs k)
]

along_within : (x : ℕ × ℕ) (ps : List (ℕ × ℕ)) (b : Bool) → IsIn x (cond b [] ps) → IsIn x ps
along_within x ps true h = absurd h
along_within x ps false h = h

plain_within : (d : Declared) (x : ℕ × ℕ) → IsIn x (plain_orders d) → IsIn x (declared_orders d)
plain_within d x h = elim (in_either x (from_each (plain_orders_in d) 0 (items_of d)) (flat_map (plain_orders_along d) d.chains) h) [
  | inl k ↦ in_front x (from_each (orders_in d) 0 (items_of d)) (flat_map (orders_along d) d.chains)
      (within_from x (plain_orders_in d) (orders_in d) (λ n i. in_front x (plain_orders_in d n i) (orders_before d n i.before_ignore_deferred ++ orders_after d n i.after_ignore_deferred)) 0 (items_of d) k)
  | inr k ↦ in_back x (from_each (orders_in d) 0 (items_of d)) (flat_map (orders_along d) d.chains)
      (within_flat x (plain_orders_along d) (orders_along d) (λ c. along_within x (orders_along d c) c.ignores_deferred) d.chains k)
]

plain_edge : (d : Declared) (m n : ℕ) → IsEdgeOf (hierarchy_of d) (plain_orders d) m n → IsEdgeOf (hierarchy_of d) (declared_orders d) m n
plain_edge d m n e = record { first = e.first; second = e.second; ordered = plain_within d (e.first, e.second) e.ordered; from = e.from; to = e.to }

-- ---- deferring edges, as they were found

-- whether an order defers a system, as a test
abbrev is_deferring : List ScheduledSystem → ℕ → Order → Bool
is_deferring systems n o = eqb o.second n && has_commands systems o.first

found_by : (systems : List ScheduledSystem) (orders : List Order) (m n : ℕ) (o : Order) (b : Bool) → is_deferring systems n o ≡ b
    → has m (map (λ (x : Order). x.first) (cond b (o ∷ filter (is_deferring systems n) orders) (filter (is_deferring systems n) orders))) ≡ true
    → ((has m (deferring_before systems orders n) ≡ true) → IsIn (m, n) (pairs_of orders) × (has_commands systems m ≡ true)) → IsIn (m, n) (pairs_of (o ∷ orders)) × (has_commands systems m ≡ true)
found_by systems orders m n o true e h later = elim (or_cases (eqb o.first m) (has m (deferring_before systems orders n)) h) [
  | inl f ↦
      let both = both_parts (eqb o.second n) (has_commands systems o.first) e in
      let first : o.first ≡ m = eqb-true o.first m f in
      let second : o.second ≡ n = eqb-true o.second n both.0 in
      (inl (ap (λ (x : ℕ). (x, n)) (sym first) ∙ ap (λ (x : ℕ). (o.first, x)) (sym second)), subst (λ (x : ℕ). has_commands systems x ≡ true) first both.1)
  | inr f ↦ let r = later f in (inr r.0, r.1)
]
found_by systems orders m n o false e h later = let r = later h in (inr r.0, r.1)

deferring_found : (systems : List ScheduledSystem) (orders : List Order) (m n : ℕ) → has m (deferring_before systems orders n) ≡ true → IsIn (m, n) (pairs_of orders) × (has_commands systems m ≡ true)
deferring_found systems [] m n h = absurd (false≢true h)
deferring_found systems (o ∷ orders) m n h = found_by systems orders m n o (is_deferring systems n o) refl h (deferring_found systems orders m n)

has_by : (systems : List ScheduledSystem) (orders : List Order) (m n : ℕ) (o : Order) (b : Bool) → is_deferring systems n o ≡ b → has m (deferring_before systems orders n) ≡ true
    → has m (map (λ (x : Order). x.first) (cond b (o ∷ filter (is_deferring systems n) orders) (filter (is_deferring systems n) orders))) ≡ true
has_by systems orders m n o true e h = or_right (eqb o.first m) (has m (deferring_before systems orders n)) h
has_by systems orders m n o false e h = h

has_here : (systems : List ScheduledSystem) (orders : List Order) (m n : ℕ) (o : Order) (b : Bool) → is_deferring systems n o ≡ b → b ≡ true → o.first ≡ m
    → has m (map (λ (x : Order). x.first) (cond b (o ∷ filter (is_deferring systems n) orders) (filter (is_deferring systems n) orders))) ≡ true
has_here systems orders m n o true e t same = or_left (eqb o.first m) (has m (deferring_before systems orders n)) (eq-eqb o.first m same)
has_here systems orders m n o false e t same = absurd (false≢true t)

deferring_has : (systems : List ScheduledSystem) (orders : List Order) (m n : ℕ) → IsIn (m, n) (pairs_of orders) → has_commands systems m ≡ true → has m (deferring_before systems orders n) ≡ true
deferring_has systems [] m n h k = absurd h
deferring_has systems (o ∷ orders) m n (inl e) k =
    let first : o.first ≡ m = sym (ap (λ (p : ℕ × ℕ). p.0) e) in
    let second : o.second ≡ n = sym (ap (λ (p : ℕ × ℕ). p.1) e) in
    has_here systems orders m n o (is_deferring systems n o) refl
    (both_from (eqb o.second n) (has_commands systems o.first) (eq-eqb o.second n second) (subst (λ (x : ℕ). has_commands systems x ≡ true) (sym first) k)) first
deferring_has systems (o ∷ orders) m n (inr h) k = has_by systems orders m n o (is_deferring systems n o) refl (deferring_has systems orders m n h k)

-- ---- deferring edges, as they are declared

commands_same : (edges : List Order) (d : Declared) (flat : List ScheduledSystem) → AreScheduled edges [] d.systems flat → (m : ℕ) → m < length d.systems → has_commands flat m ≡ is_some (declared_at d m).params.spawns
commands_same edges d flat a m l = ap (λ (s : ScheduledSystem). is_some s.params.spawns) (a.each m l)

pub deferring_of : (edges plain : List Order) (d : Declared) (flat : List ScheduledSystem) → AreScheduled edges [] d.systems flat → AreEdges (hierarchy_of d) (plain_orders d) plain → (m n : ℕ) → has m (deferring_before flat plain n) ≡ true → IsDeferring d m n
deferring_of edges plain d flat a are m n h =
    let f = deferring_found flat plain m n h in
    let edge = (are.tells m n).0 f.0 in
    let known = edge_known d m n (plain_edge d (length d.sets + m) (length d.sets + n) edge) in
    record { commands = sym (commands_same edges d flat a m known.0) ∙ f.1; plain = edge }

of_deferring : (edges plain : List Order) (d : Declared) (flat : List ScheduledSystem) → AreScheduled edges [] d.systems flat → AreEdges (hierarchy_of d) (plain_orders d) plain → (m n : ℕ) → IsDeferring d m n → has m (deferring_before flat plain n) ≡ true
of_deferring edges plain d flat a are m n h =
    let known = edge_known d m n (plain_edge d (length d.sets + m) (length d.sets + n) h.plain) in
    deferring_has flat plain m n ((are.tells m n).1 h.plain) (commands_same edges d flat a m known.0 ∙ h.commands)

deferring_edge : (d : Declared) (m n : ℕ) → IsDeferring d m n → IsDeclaredEdge d m n
deferring_edge d m n h = plain_edge d (length d.sets + m) (length d.sets + n) h.plain

pub deferring_within : (edges plain : List Order) (d : Declared) (flat : List ScheduledSystem) → AreEdges (hierarchy_of d) (declared_orders d) edges → AreScheduled edges [] d.systems flat → AreEdges (hierarchy_of d) (plain_orders d) plain
    → (m n : ℕ) → has m (deferring_before flat plain n) ≡ true → IsEdge flat m n
deferring_within edges plain d flat all a are m n h = (declared_edges edges d flat [] all a m n).1 (deferring_edge d m n (deferring_of edges plain d flat a are m n h))

-- ---- levels are those of paths

-- what the levels of all systems are, by declared edges
record AreDeclaredLevels (d : Declared) (level : ℕ → ℕ) : Type 0 where
  rises : (m n : ℕ) → IsDeclaredEdge d m n → level m ≤ level n
  defers : (m n : ℕ) → IsDeferring d m n → level m + 1 ≤ level n
  attained : (n : ℕ) → n < length d.systems → (level n ≡ 0) ⊎ (((m : ℕ) × IsDeclaredEdge d m n × (level n ≡ level m)) ⊎ ((m : ℕ) × IsDeferring d m n × (level n ≡ level m + 1)))

declared_levels : (edges plain : List Order) (d : Declared) (flat : List ScheduledSystem) (levels : List ℕ) → AreEdges (hierarchy_of d) (declared_orders d) edges → AreScheduled edges [] d.systems flat → AreEdges (hierarchy_of d) (plain_orders d) plain
    → AreLevels flat plain levels → AreDeclaredLevels d (λ n. get_or levels n 0)
declared_levels edges plain d flat levels all a are h = record {
  rises = λ m n e. let known = edge_known d m n e in (h.each n (omega (arith, a.long, known.1))).rises m ((declared_edges edges d flat [] all a m n).1 e);
  defers = λ m n e. let known = edge_known d m n (deferring_edge d m n e) in (h.each n (omega (arith, a.long, known.1))).defers m (of_deferring edges plain d flat a are m n e);
  attained = λ n l. elim (h.each n (omega (arith, a.long))).attained [
    | inl z ↦ inl z
    | inr r ↦ elim r [
      | inl p ↦ inr (inl (p.0, (declared_edges edges d flat [] all a p.0 n).0 p.1, p.2))
      | inr p ↦ inr (inr (p.0, deferring_of edges plain d flat a are p.0 n p.1, p.2))
    ]
  ];
}

paths_below : (d : Declared) (level : ℕ → ℕ) → AreDeclaredLevels d level → (n count : ℕ) → HasPath d n count → count ≤ level n
paths_below d level h n count (Begins k) = omega arith
paths_below d level h n count (Goes m k c path edge plain) = let low : c ≤ level m = paths_below d level h m c path in let up : level m ≤ level k = h.rises m k edge in omega arith
paths_below d level h n count (Defers m k c path edge) = let low : c ≤ level m = paths_below d level h m c path in let up : level m + 1 ≤ level k = h.defers m k edge in omega arith

path_to : (d : Declared) (level : ℕ → ℕ) (r : IsRankable (IsFollowed (hierarchy_of d) (declared_orders d))) → AreDeclaredLevels d level → (gap n : ℕ) → n < length d.systems → r.bound < r.rank (length d.sets + n) + gap → HasPath d n (level n)
path_to d level r h zero n l high = let top : r.rank (length d.sets + n) ≤ r.bound = r.bounded (length d.sets + n) in absurd (omega arith)
path_to d level r h (suc gap) n l high = elim (h.attained n l) [
  | inl z ↦ subst (λ (k : ℕ). HasPath d n k) (sym z) (Begins n)
  | inr w ↦ elim w [
    | inl p ↦
        let up : r.rank (length d.sets + n) < r.rank (length d.sets + p.0) = r.falls (length d.sets + p.0) (length d.sets + n) (inr p.1) in
        let before : HasPath d p.0 (level p.0) = path_to d level r h gap p.0 (edge_known d p.0 n p.1).0 (omega arith) in
        let same : level n ≡ level p.0 = p.2 in
        subst (λ (k : ℕ). HasPath d n k) (sym same) (Goes p.0 n (level p.0) before p.1 (λ deferring. let more : level p.0 + 1 ≤ level n = h.defers p.0 n deferring in omega arith))
    | inr p ↦
        let edge = deferring_edge d p.0 n p.1 in
        let up : r.rank (length d.sets + n) < r.rank (length d.sets + p.0) = r.falls (length d.sets + p.0) (length d.sets + n) (inr edge) in
        let before : HasPath d p.0 (level p.0) = path_to d level r h gap p.0 (edge_known d p.0 n edge).0 (omega arith) in
        let same : level n ≡ level p.0 + 1 = p.2 in
        let next : suc (level p.0) ≡ level n = omega arith in
        subst (λ (k : ℕ). HasPath d n k) next (Defers p.0 n (level p.0) before p.1)
  ]
]

-- ---- the schedule with its levels

pub levelled_scheduled : (edges : List Order) (levels : List ℕ) (systems : List DeclaredSystem) (flat built : List ScheduledSystem) → AreScheduled edges [] systems flat → AreLevelledBy levels flat built → AreScheduled edges levels systems built
levelled_scheduled edges levels systems flat built a l = record {
  long = l.long ∙ a.long;
  each = λ n k. l.each n (omega (arith, a.long)) ∙ ap (λ (s : ScheduledSystem). record s { level = get_or levels n 0 }) (a.each n k);
}

pub levels_rise : (edges plain : List Order) (d : Declared) (flat built : List ScheduledSystem) (levels : List ℕ) → AreEdges (hierarchy_of d) (declared_orders d) edges → AreScheduled edges [] d.systems flat → AreEdges (hierarchy_of d) (plain_orders d) plain
    → AreLevels flat plain levels → AreScheduled edges levels d.systems built → AreRising built
levels_rise edges plain d flat built levels all a are h b m n e =
    let edge : IsDeclaredEdge d m n = (declared_edges edges d built [] all b m n).0 e in
    let known = edge_known d m n edge in
    let up : get_or levels m 0 ≤ get_or levels n 0 = (declared_levels edges plain d flat levels all a are h).rises m n edge in
    omega (arith, levels_are edges levels d.systems built b m known.0, levels_are edges levels d.systems built b n known.1)

pub levels_below : (edges : List Order) (d : Declared) (built : List ScheduledSystem) (levels : List ℕ) (syncs : ℕ) → AreScheduled edges levels d.systems built → length levels ≡ length d.systems → AreSyncs levels syncs
    → (n : ℕ) → n < length built → level_of (schedule_of built []) n < syncs
levels_below edges d built levels syncs b long s n l =
    let low : get_or levels n 0 < syncs = s.below n (omega (arith, b.long, long)) in
    omega (arith, levels_are edges levels d.systems built b n (omega (arith, b.long)))

pub has_levels : {conditions : List ScheduledCondition} {silences : List (List ℕ)} (edges plain : List Order) (d : Declared) (flat built : List ScheduledSystem) (levels order : List ℕ) (syncs : ℕ) → AreEdges (hierarchy_of d) (declared_orders d) edges → AreScheduled edges [] d.systems flat → AreEdges (hierarchy_of d) (plain_orders d) plain
    → IsRankable (IsFollowed (hierarchy_of d) (declared_orders d)) → AreLevels flat plain levels → AreScheduled edges levels d.systems built → AreSyncs levels syncs → HasLevels d (schedule_with built conditions syncs order silences)
has_levels edges plain d flat built levels order syncs all a are r h b s =
    let found = declared_levels edges plain d flat levels all a are h in
    let level : ℕ → ℕ = λ n. get_or levels n 0 in
    let long : length levels ≡ length d.systems = h.long ∙ a.long in
    record {
      levels = λ n l.
          let known : n < length d.systems = omega (arith, b.long) in
          let same : get_or levels n 0 ≡ level_of (schedule_of built []) n = sym (levels_are edges levels d.systems built b n known) in
          subst (λ (k : ℕ). IsLevel d n k) same (record { path = path_to d level r found (suc r.bound) n known (omega arith); greatest = paths_below d level found n });
      below = levels_below edges d built levels syncs b long s;
      least = elim s.least [
        | inl one ↦ inl one
        | inr p ↦
            let known : p.0 < length d.systems = omega (arith, p.1, long) in
            let same : level_of (schedule_of built []) p.0 ≡ get_or levels p.0 0 = levels_are edges levels d.systems built b p.0 known in
            let top : syncs ≡ get_or levels p.0 0 + 1 = p.2 in
            let next : syncs ≡ suc (level_of (schedule_of built []) p.0) = omega arith in
            inr (p.0, omega (arith, known, b.long), next)
      ];
    }

-- the schedule order doesn't depend on how many sync points there are
reaches_with : {conditions : List ScheduledCondition} {silences : List (List ℕ)} (systems : List ScheduledSystem) (syncs : ℕ) (order : List ℕ) (m n : ℕ) → Reaches (schedule_with systems conditions syncs order silences) m n → Reaches (schedule_of systems order) m n
reaches_with systems syncs order m n (Reaches.Edge i j e) = Reaches.Edge i j e
reaches_with systems syncs order m n (Reaches.Onward i j k e rest) = Reaches.Onward i j k e (reaches_with systems syncs order j k rest)

reaches_without : {conditions : List ScheduledCondition} {silences : List (List ℕ)} (systems : List ScheduledSystem) (syncs : ℕ) (order : List ℕ) (m n : ℕ) → Reaches (schedule_of systems order) m n → Reaches (schedule_with systems conditions syncs order silences) m n
reaches_without systems syncs order m n (Reaches.Edge i j e) = Reaches.Edge i j e
reaches_without systems syncs order m n (Reaches.Onward i j k e rest) = Reaches.Onward i j k e (reaches_without systems syncs order j k rest)

before_with : {conditions : List ScheduledCondition} {silences : List (List ℕ)} (systems : List ScheduledSystem) (syncs : ℕ) (order : List ℕ) (m n : ℕ) → Before (schedule_with systems conditions syncs order silences) m n → Before (schedule_of systems order) m n
before_with systems syncs order m n (Before.ByPath path) = Before.ByPath (reaches_with systems syncs order m n path)
before_with systems syncs order m n (Before.ByLevel low) = Before.ByLevel low

before_without : {conditions : List ScheduledCondition} {silences : List (List ℕ)} (systems : List ScheduledSystem) (syncs : ℕ) (order : List ℕ) (m n : ℕ) → Before (schedule_of systems order) m n → Before (schedule_with systems conditions syncs order silences) m n
before_without systems syncs order m n (Before.ByPath path) = Before.ByPath (reaches_without systems syncs order m n path)
before_without systems syncs order m n (Before.ByLevel low) = Before.ByLevel low

pub order_with : {conditions : List ScheduledCondition} {silences : List (List ℕ)} (systems : List ScheduledSystem) (syncs : ℕ) (order : List ℕ) → IsScheduleOrder (schedule_of systems order) → IsScheduleOrder (schedule_with systems conditions syncs order silences)
order_with {conditions} {silences} systems syncs order s = record {
  next = λ front rest n e.
      let here = s.next front rest n e in
      record {
        placeable = record { known = here.placeable.known; open_yet = here.placeable.open_yet; after = λ m l b. here.placeable.after m l (before_with {conditions = conditions} {silences = silences} systems syncs order m n b) };
        least = λ m l q. here.least m l (record { known = q.known; open_yet = q.open_yet; after = λ k j b. q.after k j (before_without {conditions = conditions} {silences = silences} systems syncs order k m b) });
      };
  whole = λ n l. s.whole n l;
}

-- ---- one more system with its level

pub levelled_more : (levels : List ℕ) (systems built : List ScheduledSystem) (s new : ScheduledSystem) → AreLevelledBy levels systems built → new ≡ record s { level = get_or levels (length built) 0 } → AreLevelledBy levels (systems ++ s ∷ []) (built ++ new ∷ [])
levelled_more levels systems built s new a same =
    let nothing : ScheduledSystem = record { params = no_params; predecessors = []; level = 0 } in
    record {
      long = length_push built new ∙ (ap (λ (k : ℕ). k + 1) a.long ∙ sym (length_push systems s));
      each = λ n l. elim (cases_lt n (length systems)) [
        | inl low ↦ get_or_append_left built (new ∷ []) nothing n (omega (arith, a.long)) ∙ (a.each n low ∙ ap (λ (x : ScheduledSystem). record x { level = get_or levels n 0 }) (sym (get_or_append_left systems (s ∷ []) nothing n low)))
        | inr high ↦
            let at : length systems ≡ n = omega (arith, length_push systems s) in
            let here : length built ≡ n = a.long ∙ at in
            get_or_push built new nothing n here ∙ (same ∙ (ap (λ (k : ℕ). record s { level = get_or levels k 0 }) here ∙ ap (λ (x : ScheduledSystem). record x { level = get_or levels n 0 }) (sym (get_or_push systems s nothing n at))))
      ];
    }
