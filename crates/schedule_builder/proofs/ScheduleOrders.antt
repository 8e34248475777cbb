-- The schedule order: one more system, and why it ends with every system.
use Rattle.std.proofs.Common.{◌≡◌, ℕ, zero, suc, ◌<◌, ◌≤◌, ◌+◌, Bool, true, false, not, ◌&&◌, eqb, cond, nat_lt, Option, None, Some, ◌⊎◌, List, [], ◌∷◌, ◌++◌, length, get_or, refl, arith, subst, sym, ap, ◌∙◌, append_assoc, inl, inr}
use Rattle.std.specs.List.{list_all}
use Rattle.std.proofs.lemmas.Bool.{false≢true, or_cases, or_left, or_right, eqb-true, eq-eqb, cases_lt, and_parts as both_parts, and_from as both_from}
use borrow.Author.Tests.{ltb-true, ltb-false}
use Rattle.model.specs.Lists.{has}
use Rattle.model.specs.steps.Schedule.{ScheduledSystem, system_at, level_of}
use Rattle.model.specs.steps.Ambiguity.{Reaches, Before}
use Rattle.model.specs.declarations.ScheduleOrder.{IsNextPlaced, IsScheduleOrder}
use Rattle.cycle_search.specs.Cycles.{IsRankable}
use Rattle.model.proofs.faults.Judging.{passed_all as all_pass}
use Rattle.schedule_builder.specs.ScheduleOrder.{schedule_of, can_place, IsEdge, HasSourcesBelow, IsOpen, IsNextOpen, IsSequence, AreRising, IsLowest, TellsLowestAmong, lower_level}

-- ---- tests on each of a list's numbers

passes : (p : ℕ → Bool) (xs : List ℕ) (m : ℕ) → list_all p xs ≡ true → has m xs ≡ true → p m ≡ true
passes p [] m a h = absurd (false≢true h)
passes p (x ∷ xs) m a h =
    let both = both_parts (p x) (list_all p xs) a in
    elim (or_cases (eqb x m) (has m xs) h) [
      | inl e ↦ subst (λ (y : ℕ). p y ≡ true) (eqb-true x m e) both.0
      | inr e ↦ passes p xs m both.1 e
    ]

failing_by : (p : ℕ → Bool) (x : ℕ) (xs : List ℕ) (b : Bool) → p x ≡ b → ((list_all p xs ≡ false) → (m : ℕ) × (has m xs ≡ true) × (p m ≡ false)) → (b && list_all p xs) ≡ false → (m : ℕ) × (has m (x ∷ xs) ≡ true) × (p m ≡ false)
failing_by p x xs false e rest h = (x, or_left (eqb x x) (has x xs) (eq-eqb x x refl), e)
failing_by p x xs true e rest h = let r = rest h in (r.0, or_right (eqb x r.0) (has r.0 xs) r.1, r.2)

failing : (p : ℕ → Bool) (xs : List ℕ) → list_all p xs ≡ false → (m : ℕ) × (has m xs ≡ true) × (p m ≡ false)
failing p [] h = absurd (false≢true (sym h))
failing p (x ∷ xs) h = failing_by p x xs (p x) refl (failing p xs) h

-- ---- what can be placed

not_true : (b : Bool) → not b ≡ true → b ≡ false
not_true false h = refl
not_true true h = absurd (false≢true h)

false_not : (b : Bool) → b ≡ false → not b ≡ true
false_not b h = ap not h

-- the level of a system of a list
abbrev level_in : List ScheduledSystem → ℕ → ℕ
level_in systems n = level_of (schedule_of systems []) n

-- whether the predecessors of a system are placed
abbrev are_before : List ScheduledSystem → List Bool → ℕ → Bool
are_before systems placed n = list_all (λ m. get_or placed m false) (system_at (schedule_of systems []) n).predecessors

placed_or_not : (b : Bool) → (b ≡ true) ⊎ (b ≡ false)
placed_or_not true = inl refl
placed_or_not false = inr refl

-- what is lower than the lowest open level is placed
lower_placed : (systems : List ScheduledSystem) (placed : List Bool) (order : List ℕ) (lowest m : ℕ) → ((k : ℕ) → get_or placed k false ≡ has k order) → IsLowest systems placed (length systems) lowest → m < length systems → level_in systems m < lowest → has m order ≡ true
lower_placed systems placed order lowest m same low l below = elim (placed_or_not (get_or placed m false)) [
  | inl e ↦ sym (same m) ∙ e
  | inr e ↦ let least : lowest ≤ level_in systems m = low.least m l e in absurd (omega arith)
]

placeable : (systems : List ScheduledSystem) (placed : List Bool) (order : List ℕ) (lowest n : ℕ) → ((m : ℕ) → get_or placed m false ≡ has m order) → IsLowest systems placed (length systems) lowest → n < length systems → can_place systems placed lowest n ≡ true → IsOpen systems order n
placeable systems placed order lowest n same low l h =
    let both = both_parts (not (get_or placed n false)) (eqb (level_in systems n) lowest && are_before systems placed n) h in
    let rest = both_parts (eqb (level_in systems n) lowest) (are_before systems placed n) both.1 in
    let level : level_in systems n ≡ lowest = eqb-true (level_in systems n) lowest rest.0 in
    record {
      known = l;
      open_yet = sym (same n) ∙ not_true (get_or placed n false) both.0;
      after = λ m e. sym (same m) ∙ passes (λ k. get_or placed k false) (system_at (schedule_of systems []) n).predecessors m rest.1 e;
      lower = λ m k below. lower_placed systems placed order lowest m same low k (subst (λ (x : ℕ). level_in systems m < x) level below);
    }

-- an open system is of the lowest open level
open_lowest : (systems : List ScheduledSystem) (placed : List Bool) (order : List ℕ) (lowest n : ℕ) → ((m : ℕ) → get_or placed m false ≡ has m order) → IsLowest systems placed (length systems) lowest → IsOpen systems order n → level_in systems n ≡ lowest
open_lowest systems placed order lowest n same low p =
    let least : lowest ≤ level_in systems n = low.least n p.known (same n ∙ p.open_yet) in
    let high : lowest < level_in systems n → ⊥ = λ more.
    false≢true (sym low.open_yet ∙ (same low.system ∙ p.lower low.system low.known (subst (λ (x : ℕ). x < level_in systems n) (sym low.same) more))) in
    omega arith

can_place-of : (systems : List ScheduledSystem) (placed : List Bool) (order : List ℕ) (lowest n : ℕ) → ((m : ℕ) → get_or placed m false ≡ has m order) → IsLowest systems placed (length systems) lowest → IsOpen systems order n → can_place systems placed lowest n ≡ true
can_place-of systems placed order lowest n same low p =
    both_from (not (get_or placed n false)) (eqb (level_in systems n) lowest && are_before systems placed n)
    (false_not (get_or placed n false) (same n ∙ p.open_yet))
    (both_from (eqb (level_in systems n) lowest) (are_before systems placed n)
    (eq-eqb (level_in systems n) lowest (open_lowest systems placed order lowest n same low p))
    (all_pass (λ k. get_or placed k false) (system_at (schedule_of systems []) n).predecessors (λ m e. same m ∙ p.after m e)))

pub next_is : (systems : List ScheduledSystem) (placed : List Bool) (order : List ℕ) (lowest n : ℕ) → ((m : ℕ) → get_or placed m false ≡ has m order) → IsLowest systems placed (length systems) lowest → n < length systems → can_place systems placed lowest n ≡ true → ((k : ℕ) → k < n → can_place systems placed lowest k ≡ false) → IsNextOpen systems order n
next_is systems placed order lowest n same low l h below = record {
  is_open = placeable systems placed order lowest n same low l h;
  least = λ m k p. false≢true (sym (below m k) ∙ can_place-of systems placed order lowest m same low p);
}

-- ---- the lowest open level, one system after the other

lowest_wider : (systems : List ScheduledSystem) (placed : List Bool) (n lowest : ℕ) → get_or placed n false ≡ true → IsLowest systems placed n lowest → IsLowest systems placed (n + 1) lowest
lowest_wider systems placed n lowest e low = record {
  system = low.system;
  known = omega (arith, low.known);
  open_yet = low.open_yet;
  same = low.same;
  least = λ m l f. elim (cases_lt m n) [
    | inl k ↦ low.least m k f
    | inr k ↦ let at : n ≡ m = omega arith in absurd (false≢true (sym f ∙ subst (λ (x : ℕ). get_or placed x false ≡ true) at e))
  ];
}

lowest_here : (systems : List ScheduledSystem) (placed : List Bool) (n lowest : ℕ) → get_or placed n false ≡ false → ((m : ℕ) → m < n → get_or placed m false ≡ false → lowest ≤ level_in systems m) → lowest ≡ level_in systems n → IsLowest systems placed (n + 1) lowest
lowest_here systems placed n lowest e least same = record {
  system = n;
  known = omega arith;
  open_yet = e;
  same = sym same;
  least = λ m l f. elim (cases_lt m n) [
    | inl k ↦ least m k f
    | inr k ↦ let at : n ≡ m = omega arith in subst (λ (x : ℕ). lowest ≤ level_in systems x) at (omega (arith, same))
  ];
}

lowest_stays : (systems : List ScheduledSystem) (placed : List Bool) (n lowest : ℕ) → lowest ≤ level_in systems n → IsLowest systems placed n lowest → IsLowest systems placed (n + 1) lowest
lowest_stays systems placed n lowest h low = record {
  system = low.system;
  known = omega (arith, low.known);
  open_yet = low.open_yet;
  same = low.same;
  least = λ m l f. elim (cases_lt m n) [
    | inl k ↦ low.least m k f
    | inr k ↦ let at : n ≡ m = omega arith in subst (λ (x : ℕ). lowest ≤ level_in systems x) at h
  ];
}

lesser_by : (systems : List ScheduledSystem) (placed : List Bool) (n known : ℕ) (b : Bool) → nat_lt known (level_in systems n) ≡ b → get_or placed n false ≡ false → IsLowest systems placed n known → IsLowest systems placed (n + 1) (cond b known (level_in systems n))
lesser_by systems placed n known true e f low = let l : known < level_in systems n = ltb-true known (level_in systems n) e in lowest_stays systems placed n known (omega arith) low
lesser_by systems placed n known false e f low =
    let l : level_in systems n ≤ known = ltb-false known (level_in systems n) e in
    lowest_here systems placed n (level_in systems n) f (λ m k g. let least : known ≤ level_in systems m = low.least m k g in omega arith) refl

pub lowest_more : (systems : List ScheduledSystem) (placed : List Bool) (n : ℕ) (lowest : Option ℕ) (b : Bool) → get_or placed n false ≡ b → TellsLowestAmong systems placed n lowest → TellsLowestAmong systems placed (n + 1) (lower_level lowest b (level_in systems n))
lowest_more systems placed n None true e h = λ m l. elim (cases_lt m n) [
  | inl k ↦ h m k
  | inr k ↦ let at : n ≡ m = omega arith in subst (λ (x : ℕ). get_or placed x false ≡ true) at e
]
lowest_more systems placed n (Some low) true e h = lowest_wider systems placed n low e h
lowest_more systems placed n None false e h = lowest_here systems placed n (level_in systems n) e (λ m k f. absurd (false≢true (sym f ∙ h m k))) refl
lowest_more systems placed n (Some known) false e h = lesser_by systems placed n known (nat_lt known (level_in systems n)) refl e h

-- ---- one more system

no_nil : (front : List ℕ) (m : ℕ) (rest : List ℕ) → [] ≡ front ++ m ∷ rest → ⊥
no_nil [] m rest e = cc
no_nil (x ∷ front) m rest e = cc

push_split : (P : List ℕ → ℕ → Type 0) (xs : List ℕ) (n : ℕ) → ((front rest : List ℕ) (m : ℕ) → xs ≡ front ++ m ∷ rest → P front m) → P xs n → (front rest : List ℕ) (m : ℕ) → xs ++ n ∷ [] ≡ front ++ m ∷ rest → P front m
push_split P [] n h p [] rest m e = let same : n ≡ m = cc in subst (λ (k : ℕ). P [] k) same p
push_split P [] n h p (y ∷ front) rest m e = let tail : [] ≡ front ++ m ∷ rest = cc in absurd (no_nil front m rest tail)
push_split P (x ∷ xs) n h p [] rest m e = let same : x ≡ m = cc in subst (λ (k : ℕ). P [] k) same (h [] xs x refl)
push_split P (x ∷ xs) n h p (y ∷ front) rest m e =
    let same : x ≡ y = cc in
    let tail : xs ++ n ∷ [] ≡ front ++ m ∷ rest = cc in
    let here : P (x ∷ front) m = push_split (λ f k. P (x ∷ f) k) xs n (λ f r k q. h (x ∷ f) r k (ap (λ (zs : List ℕ). x ∷ zs) q)) p front rest m tail in
    subst (λ (k : ℕ). P (k ∷ front) m) same here

pub sequence_more : (systems : List ScheduledSystem) (order : List ℕ) (n : ℕ) → IsSequence systems order → IsNextOpen systems order n → IsSequence systems (order ++ n ∷ [])
sequence_more systems order n s p = push_split (IsNextOpen systems) order n s p

-- ---- the end

stuck_at : (systems : List ScheduledSystem) (placed : List Bool) (lowest : ℕ) → ((k : ℕ) → k < length systems → can_place systems placed lowest k ≡ false) → (n : ℕ) → n < length systems → get_or placed n false ≡ false → level_in systems n ≡ lowest → (m : ℕ) × (IsEdge systems m n) × (get_or placed m false ≡ false)
stuck_at systems placed lowest none n l open_yet level =
    let stuck : (true && (true && are_before systems placed n)) ≡ false =
    subst (λ (b : Bool). (true && (b && are_before systems placed n)) ≡ false) (eq-eqb (level_in systems n) lowest level)
    (subst (λ (b : Bool). (b && (eqb (level_in systems n) lowest && are_before systems placed n)) ≡ false) (false_not (get_or placed n false) open_yet) (none n l)) in
    failing (λ m. get_or placed m false) (system_at (schedule_of systems []) n).predecessors stuck

unplaced_left : (systems : List ScheduledSystem) (placed : List Bool) (lowest : ℕ) (r : IsRankable (IsEdge systems)) → HasSourcesBelow systems → AreRising systems → IsLowest systems placed (length systems) lowest
    → ((k : ℕ) → k < length systems → can_place systems placed lowest k ≡ false)
    → (gap n : ℕ) → n < length systems → get_or placed n false ≡ false → level_in systems n ≡ lowest → r.bound ≤ r.rank n + gap → ⊥
unplaced_left systems placed lowest r sources rising low none zero n l open_yet level high =
    let f = stuck_at systems placed lowest none n l open_yet level in
    let up : r.rank n < r.rank f.0 = r.falls f.0 n f.1 in
    let top : r.rank f.0 ≤ r.bound = r.bounded f.0 in
    omega arith
unplaced_left systems placed lowest r sources rising low none (suc gap) n l open_yet level high =
    let f = stuck_at systems placed lowest none n l open_yet level in
    let up : r.rank n < r.rank f.0 = r.falls f.0 n f.1 in
    let under : level_in systems f.0 ≤ level_in systems n = rising f.0 n f.1 in
    let over : lowest ≤ level_in systems f.0 = low.least f.0 (sources f.0 n f.1) f.2 in
    let same : level_in systems f.0 ≡ lowest = omega (arith, level) in
    unplaced_left systems placed lowest r sources rising low none gap f.0 (sources f.0 n f.1) f.2 same (omega arith)

-- where a system is open, one can be placed
pub never_stuck : (systems : List ScheduledSystem) (placed : List Bool) (lowest : ℕ) → IsRankable (IsEdge systems) → HasSourcesBelow systems → AreRising systems → IsLowest systems placed (length systems) lowest
    → ((k : ℕ) → k < length systems → can_place systems placed lowest k ≡ false) → ⊥
never_stuck systems placed lowest r sources rising low none = unplaced_left systems placed lowest r sources rising low none r.bound low.system low.known low.open_yet low.same (omega arith)

-- ---- by edges, and by what is before

pub has-front : (m : ℕ) (front rest : List ℕ) → has m front ≡ true → has m (front ++ rest) ≡ true
has-front m [] rest h = absurd (false≢true h)
has-front m (x ∷ front) rest h = elim (or_cases (eqb x m) (has m front) h) [
  | inl e ↦ or_left (eqb x m) (has m (front ++ rest)) e
  | inr e ↦ or_right (eqb x m) (has m (front ++ rest)) (has-front m front rest e)
]

-- a number of a list stands at some place of it
pub split_at : (m : ℕ) (xs : List ℕ) → has m xs ≡ true → (front : List ℕ) × (rest : List ℕ) × (xs ≡ front ++ m ∷ rest)
split_at m [] h = absurd (false≢true h)
split_at m (x ∷ xs) h = elim (or_cases (eqb x m) (has m xs) h) [
  | inl e ↦ ([], xs, ap (λ (y : ℕ). y ∷ xs) (eqb-true x m e))
  | inr e ↦ let at = split_at m xs e in (x ∷ at.0, at.1, ap (λ (ys : List ℕ). x ∷ ys) at.2)
]

-- what has an edge to a placed system is placed
closed : (systems : List ScheduledSystem) (order front rest : List ℕ) → IsSequence systems order → order ≡ front ++ rest
    → (k m : ℕ) → has m front ≡ true → IsEdge systems k m → has k front ≡ true
closed systems order front rest s e k m h edge =
    let at = split_at m front h in
    let whole : order ≡ at.0 ++ m ∷ (at.1 ++ rest) = e ∙ ap (λ (xs : List ℕ). xs ++ rest) at.2 ∙ append_assoc at.0 (m ∷ at.1) rest in
    let before : has k at.0 ≡ true = (s at.0 (at.1 ++ rest) m whole).is_open.after k edge in
    subst (λ (xs : List ℕ). has k xs ≡ true) (sym at.2) (has-front k at.0 (m ∷ at.1) before)

-- so is what a path of edges leads from
reached : (systems : List ScheduledSystem) (order front rest : List ℕ) (n : ℕ) → IsSequence systems order → order ≡ front ++ n ∷ rest
    → (m : ℕ) → Reaches (schedule_of systems order) m n → has m front ≡ true
reached systems order front rest n s e m (Reaches.Edge i j h) = (s front rest n e).is_open.after m h
reached systems order front rest n s e m (Reaches.Onward i k j h onward) = closed systems order front (n ∷ rest) s e m k (reached systems order front rest n s e k onward) h

-- and all that is before
before_placed : (systems : List ScheduledSystem) (order front rest : List ℕ) (n : ℕ) → IsSequence systems order → order ≡ front ++ n ∷ rest
    → (m : ℕ) → m < length systems → Before (schedule_of systems order) m n → has m front ≡ true
before_placed systems order front rest n s e m l (Before.ByPath path) = reached systems order front rest n s e m path
before_placed systems order front rest n s e m l (Before.ByLevel low) = (s front rest n e).is_open.lower m l low

next_placed : (systems : List ScheduledSystem) (order front rest : List ℕ) (n : ℕ) → HasSourcesBelow systems → IsSequence systems order → order ≡ front ++ n ∷ rest
    → IsNextPlaced (schedule_of systems order) front n
next_placed systems order front rest n sources s e =
    let here = s front rest n e in
    record {
      placeable = record { known = here.is_open.known; open_yet = here.is_open.open_yet; after = λ m l. before_placed systems order front rest n s e m l };
      least = λ m l q. here.least m l (record { known = q.known; open_yet = q.open_yet; after = λ k edge. q.after k (sources k m edge) (Before.ByPath (Reaches.Edge k m edge)); lower = λ k j below. q.after k j (Before.ByLevel below) });
    }

pub schedule_order : (systems : List ScheduledSystem) (placed : List Bool) (order : List ℕ) → HasSourcesBelow systems → ((m : ℕ) → get_or placed m false ≡ has m order) → IsSequence systems order → ((k : ℕ) → k < length systems → get_or placed k false ≡ true)
    → IsScheduleOrder (schedule_of systems order)
schedule_order systems placed order sources same s all = record {
  next = λ front rest n e. next_placed systems order front rest n sources s e;
  whole = λ n l. sym (same n) ∙ all n l;
}

pub lowest_all : (systems : List ScheduledSystem) (placed : List Bool) (n : ℕ) (lowest : Option ℕ) → n ≡ length systems → TellsLowestAmong systems placed n lowest → TellsLowestAmong systems placed (length systems) lowest
lowest_all systems placed n lowest e h = subst (λ (k : ℕ). TellsLowestAmong systems placed k lowest) e h
