-- The levels of systems, one system after the other, and what they are of paths.
use Rattle.std.proofs.Common.{◌≡◌, ℕ, zero, suc, ◌<◌, ◌≤◌, ◌+◌, ◌⊎◌, inl, inr, Bool, true, false, eqb, List, [], ◌∷◌, ◌++◌, length, get_or, take, refl, arith, subst, sym, ap, ◌∙◌, append_assoc, get_or-set_other, get_or-set_same}
use Rattle.std.proofs.Math.ListN.{set}
use Rattle.std.proofs.lemmas.Bool.{false≢true, or_cases, or_left, or_right, eqb-true, eq-eqb, cases_lt}
use Rattle.std.proofs.lemmas.List.{take_more, take_all, length-take-le, length-set, get_or_append_left, get_or_push, length_push}
use Rattle.model.specs.Lists.{has}
use Rattle.model.specs.steps.Schedule.{ScheduledSystem, system_at}
use Rattle.model.specs.steps.Ambiguity.{Reaches, Before}
use Rattle.model.specs.declarations.ScheduleOrder.{IsScheduleOrder}
use Rattle.cycle_search.specs.declared.order.Order.{Order}
use Rattle.schedule_builder.specs.ScheduleOrder.{schedule_of, IsEdge, HasSourcesBelow}
use Rattle.schedule_builder.specs.Levels.{deferring_before, IsGreatest, IsLevelled, AreLevels, AreSyncs}
use Rattle.schedule_builder.proofs.ScheduleOrders.{split_at, has-front as has_front}

-- ---- one more number of a list

has_pushed : (m : ℕ) (xs : List ℕ) (x : ℕ) → has m (xs ++ x ∷ []) ≡ true → (has m xs ≡ true) ⊎ (x ≡ m)
has_pushed m [] x h = elim (or_cases (eqb x m) false h) [ inl e ↦ inr (eqb-true x m e) | inr e ↦ absurd (false≢true e) ]
has_pushed m (y ∷ xs) x h = elim (or_cases (eqb y m) (has m (xs ++ x ∷ [])) h) [
  | inl e ↦ inl (or_left (eqb y m) (has m xs) e)
  | inr e ↦ elim (has_pushed m xs x e) [ inl k ↦ inl (or_right (eqb y m) (has m xs) k) | inr k ↦ inr k ]
]

has_last : (x : ℕ) (xs : List ℕ) → has x (xs ++ x ∷ []) ≡ true
has_last x [] = or_left (eqb x x) false (eq-eqb x x refl)
has_last x (y ∷ xs) = or_right (eqb y x) (has x (xs ++ x ∷ [])) (has_last x xs)

taken : (m : ℕ) (xs : List ℕ) (i d : ℕ) → i < length xs → has m (take (i + 1) xs) ≡ true → (has m (take i xs) ≡ true) ⊎ (get_or xs i d ≡ m)
taken m xs i d l h = has_pushed m (take i xs) (get_or xs i d) (subst (λ (ys : List ℕ). has m ys ≡ true) (take_more xs i d l) h)

-- ---- the greatest of some levels

pub greatest_none : (start : ℕ) (systems levels : List ℕ) (added : ℕ) → IsGreatest start (take 0 systems) levels added start
greatest_none start systems levels added = record { starts = omega arith; above = λ m h. absurd (false≢true h); attained = inl refl }

pub greatest_more : (start : ℕ) (systems levels : List ℕ) (added level new i d : ℕ) → i < length systems → IsGreatest start (take i systems) levels added level → level ≤ new → get_or levels (get_or systems i d) 0 + added ≤ new
    → (new ≡ level) ⊎ (new ≡ get_or levels (get_or systems i d) 0 + added) → IsGreatest start (take (i + 1) systems) levels added new
greatest_more start systems levels added level new i d l g up over either =
    let x : ℕ = get_or systems i d in
    let more = take_more systems i d l in
    record {
      starts = omega (arith, g.starts);
      above = λ m h. elim (taken m systems i d l h) [
        | inl k ↦ let before : get_or levels m 0 + added ≤ level = g.above m k in omega arith
        | inr k ↦ subst (λ (y : ℕ). get_or levels y 0 + added ≤ new) k over
      ];
      attained = elim either [
        | inl e ↦ elim g.attained [
          | inl s ↦ inl (e ∙ s)
          | inr p ↦ inr (p.0, subst (λ (ys : List ℕ). has p.0 ys ≡ true) (sym more) (has_front p.0 (take i systems) (x ∷ []) p.1), e ∙ p.2)
        ]
        | inr e ↦ inr (x, subst (λ (ys : List ℕ). has x ys ≡ true) (sym more) (has_last x (take i systems)), e)
      ];
    }

pub greatest_as : (start : ℕ) (xs ys levels other : List ℕ) (added level : ℕ) → xs ≡ ys → levels ≡ other → IsGreatest start xs levels added level → IsGreatest start ys other added level
greatest_as start xs ys levels other added level e f g = subst (λ (zs : List ℕ). IsGreatest start ys zs added level) f (subst (λ (zs : List ℕ). IsGreatest start zs levels added level) e g)

pub greatest_all : (start : ℕ) (systems levels : List ℕ) (added level i : ℕ) → length systems ≤ i → IsGreatest start (take i systems) levels added level → IsGreatest start systems levels added level
greatest_all start systems levels added level i l g = subst (λ (xs : List ℕ). IsGreatest start xs levels added level) (take_all i systems l) g

-- ---- one more sync point

pub syncs_none : (levels : List ℕ) → AreSyncs (take 0 levels) 1
syncs_none levels = record { below = λ n l. absurd (omega arith); least = inl refl }

pub syncs_more : (levels : List ℕ) (i d syncs new : ℕ) → i < length levels → AreSyncs (take i levels) syncs → syncs ≤ new → get_or levels i d + 1 ≤ new → (new ≡ syncs) ⊎ (new ≡ get_or levels i d + 1) → AreSyncs (take (i + 1) levels) new
syncs_more levels i d syncs new l a up over either =
    let front : List ℕ = take i levels in
    let x : ℕ = get_or levels i d in
    let more = take_more levels i d l in
    let long : length front ≡ i = length-take-le i levels (omega arith) in
    subst (λ (xs : List ℕ). AreSyncs xs new) (sym more) (record {
      below = λ n k. elim (cases_lt n (length front)) [
        | inl low ↦ let was : get_or front n 0 < syncs = a.below n low in omega (arith, get_or_append_left front (x ∷ []) 0 n low)
        | inr high ↦ let at : length front ≡ n = omega (arith, length_push front x) in omega (arith, get_or_push front x 0 n at)
      ];
      least = elim either [
        | inl e ↦ elim a.least [
          | inl one ↦ inl (e ∙ one)
          | inr p ↦ inr (p.0, omega (arith, p.1, length_push front x), e ∙ (p.2 ∙ ap (λ (y : ℕ). y + 1) (sym (get_or_append_left front (x ∷ []) 0 p.0 p.1))))
        ]
        | inr e ↦ inr (length front, omega (arith, length_push front x), e ∙ ap (λ (y : ℕ). y + 1) (sym (get_or_push front x 0 (length front) refl)))
      ];
    })

pub syncs_all : (levels : List ℕ) (i syncs : ℕ) → length levels ≤ i → AreSyncs (take i levels) syncs → AreSyncs levels syncs
syncs_all levels i syncs l a = subst (λ (xs : List ℕ). AreSyncs xs syncs) (take_all i levels l) a

-- ---- levels along an order in which what is before a system stands before it

-- the first so many systems of the order have their levels, none is higher than there are systems before it
pub record AreLevelsAlong (systems : List ScheduledSystem) (plain : List Order) (order levels : List ℕ) (i : ℕ) : Type 0 where
  pub long : length levels ≡ length systems
  pub each : (n : ℕ) → has n (take i order) ≡ true → IsLevelled systems plain levels n
  pub low : (n : ℕ) → get_or levels n 0 ≤ i

-- what has an edge to one of the first systems of the order is one of these
closed : (systems : List ScheduledSystem) (order front rest : List ℕ) → IsScheduleOrder (schedule_of systems order) → HasSourcesBelow systems → order ≡ front ++ rest → (k m : ℕ) → has m front ≡ true → IsEdge systems k m → has k front ≡ true
closed systems order front rest s sources e k m h edge =
    let at = split_at m front h in
    let whole : order ≡ at.0 ++ m ∷ (at.1 ++ rest) = e ∙ ap (λ (xs : List ℕ). xs ++ rest) at.2 ∙ append_assoc at.0 (m ∷ at.1) rest in
    let before : has k at.0 ≡ true = (s.next at.0 (at.1 ++ rest) m whole).placeable.after k (sources k m edge) (Before.ByPath (Reaches.Edge k m edge)) in
    subst (λ (xs : List ℕ). has k xs ≡ true) (sym at.2) (has_front k at.0 (m ∷ at.1) before)

apart : (m n : ℕ) (xs : List ℕ) → has m xs ≡ true → has n xs ≡ false → m ≡ n → ⊥
apart m n xs h k e = false≢true (sym k ∙ subst (λ (x : ℕ). has x xs ≡ true) e h)

other_level : (levels : List ℕ) (n m level : ℕ) → (m ≡ n → ⊥) → get_or (set levels n level) m 0 ≡ get_or levels m 0
other_level levels n m level differ = rw get_or-set_other refl

-- the levels of the first systems stay
levelled_stays : (systems : List ScheduledSystem) (plain : List Order) (levels : List ℕ) (n level k : ℕ) → (k ≡ n → ⊥) → ((m : ℕ) → IsEdge systems m k → m ≡ n → ⊥) → ((m j : ℕ) → has m (deferring_before systems plain j) ≡ true → IsEdge systems m j)
    → IsLevelled systems plain levels k → IsLevelled systems plain (set levels n level) k
levelled_stays systems plain levels n level k differ apart_edges within h =
    let new : List ℕ = set levels n level in
    let same : get_or new k 0 ≡ get_or levels k 0 = other_level levels n k level differ in
    let other : (m : ℕ) → IsEdge systems m k → get_or new m 0 ≡ get_or levels m 0 = λ m e. other_level levels n m level (apart_edges m e) in
    record {
      rises = λ m e. let up : get_or levels m 0 ≤ get_or levels k 0 = h.rises m e in omega (arith, other m e, same);
      defers = λ m d. let up : get_or levels m 0 + 1 ≤ get_or levels k 0 = h.defers m d in omega (arith, other m (within m k d), same);
      attained = elim h.attained [
        | inl z ↦ inl (same ∙ z)
        | inr r ↦ elim r [
          | inl p ↦ inr (inl (p.0, p.1, same ∙ (p.2 ∙ sym (other p.0 p.1))))
          | inr p ↦ inr (inr (p.0, p.1, same ∙ (p.2 ∙ ap (λ (x : ℕ). x + 1) (sym (other p.0 (within p.0 k p.1))))))
        ]
      ];
    }

-- and the next one has its own
levelled_here : (systems : List ScheduledSystem) (plain : List Order) (levels : List ℕ) (n base level : ℕ) → n < length levels → ((m : ℕ) → IsEdge systems m n → m ≡ n → ⊥) → ((m j : ℕ) → has m (deferring_before systems plain j) ≡ true → IsEdge systems m j)
    → IsGreatest 0 (system_at (schedule_of systems []) n).predecessors levels 0 base → IsGreatest base (deferring_before systems plain n) levels 1 level → IsLevelled systems plain (set levels n level) n
levelled_here systems plain levels n base level l apart_edges within g h =
    let new : List ℕ = set levels n level in
    let here : get_or new n 0 ≡ level = rw get_or-set_same refl in
    let other : (m : ℕ) → IsEdge systems m n → get_or new m 0 ≡ get_or levels m 0 = λ m e. other_level levels n m level (apart_edges m e) in
    record {
      rises = λ m e. let up : get_or levels m 0 + 0 ≤ base = g.above m e in omega (arith, other m e, here, h.starts);
      defers = λ m d. let up : get_or levels m 0 + 1 ≤ level = h.above m d in omega (arith, other m (within m n d), here);
      attained = elim h.attained [
        | inl s ↦ elim g.attained [
          | inl z ↦ inl (here ∙ (s ∙ z))
          | inr p ↦ inr (inl (p.0, p.1, let eq : base ≡ get_or levels p.0 0 + 0 = p.2 in omega (arith, here, s, eq, other p.0 p.1)))
        ]
        | inr p ↦ inr (inr (p.0, p.1, let eq : level ≡ get_or levels p.0 0 + 1 = p.2 in omega (arith, here, eq, other p.0 (within p.0 n p.1))))
      ];
    }

pub levels_none : (systems : List ScheduledSystem) (plain : List Order) (order levels : List ℕ) → length levels ≡ length systems → ((n : ℕ) → get_or levels n 0 ≡ 0) → AreLevelsAlong systems plain order levels 0
levels_none systems plain order levels long zeros = record { long = long; each = λ n h. absurd (false≢true h); low = λ n. omega (arith, zeros n) }

order_split : (order : List ℕ) (i d : ℕ) → i < length order → (rest : List ℕ) × (order ≡ take i order ++ get_or order i d ∷ rest)
order_split [] i d l = absurd (omega arith)
order_split (x ∷ order) zero d l = (order, refl)
order_split (x ∷ order) (suc i) d l = let r = order_split order i d (omega arith) in (r.0, ap (λ (ys : List ℕ). x ∷ ys) r.1)

-- the next system of an order is one, and has its own place
pub next_known : (systems : List ScheduledSystem) (order : List ℕ) (i d : ℕ) → i < length order → IsScheduleOrder (schedule_of systems order) → get_or order i d < length systems
next_known systems order i d l s = let r = order_split order i d l in (s.next (take i order) r.0 (get_or order i d) r.1).placeable.known

by_test : (k n : ℕ) (b : Bool) → eqb k n ≡ b → (k ≡ n) ⊎ (k ≡ n → ⊥)
by_test k n true e = inl (eqb-true k n e)
by_test k n false e = inr (λ same. false≢true (sym e ∙ eq-eqb k n same))

cases_eq : (k n : ℕ) → (k ≡ n) ⊎ (k ≡ n → ⊥)
cases_eq k n = by_test k n (eqb k n) refl

level_low : (levels predecessors deferring : List ℕ) (base level i : ℕ) → ((k : ℕ) → get_or levels k 0 ≤ i) → IsGreatest 0 predecessors levels 0 base → IsGreatest base deferring levels 1 level → level ≤ i + 1
level_low levels predecessors deferring base level i low g h =
    let under : base ≤ i = elim g.attained [ inl z ↦ omega arith | inr p ↦ let eq : base ≡ get_or levels p.0 0 + 0 = p.2 in omega (arith, low p.0) ] in
    elim h.attained [ inl z ↦ omega arith | inr p ↦ let eq : level ≡ get_or levels p.0 0 + 1 = p.2 in omega (arith, low p.0) ]

pub levels_more : (systems : List ScheduledSystem) (plain : List Order) (order levels : List ℕ) (i d base level : ℕ) → i < length order → IsScheduleOrder (schedule_of systems order) → HasSourcesBelow systems
    → ((m j : ℕ) → has m (deferring_before systems plain j) ≡ true → IsEdge systems m j) → AreLevelsAlong systems plain order levels i
    → IsGreatest 0 (system_at (schedule_of systems []) (get_or order i d)).predecessors levels 0 base → IsGreatest base (deferring_before systems plain (get_or order i d)) levels 1 level
    → AreLevelsAlong systems plain order (set levels (get_or order i d) level) (i + 1)
levels_more systems plain order levels i d base level l s sources within a g h =
    let n : ℕ = get_or order i d in
    let front : List ℕ = take i order in
    let r = order_split order i d l in
    let next = s.next front r.0 n r.1 in
    let fresh : has n front ≡ false = next.placeable.open_yet in
    let before_n : (m : ℕ) → IsEdge systems m n → has m front ≡ true = λ m e. next.placeable.after m (sources m n e) (Before.ByPath (Reaches.Edge m n e)) in
    let apart_n : (m : ℕ) → IsEdge systems m n → m ≡ n → ⊥ = λ m e. apart m n front (before_n m e) fresh in
    let known : n < length levels = omega (arith, a.long, next.placeable.known) in
    record {
      long = length-set levels n level ∙ a.long;
      each = λ k e. elim (taken k order i d l e) [
        | inl old ↦
            levelled_stays systems plain levels n level k (apart k n front old fresh)
            (λ m edge. apart m n front (closed systems order front (n ∷ r.0) s sources r.1 m k old edge) fresh) within (a.each k old)
        | inr same ↦ subst (λ (x : ℕ). IsLevelled systems plain (set levels n level) x) same (levelled_here systems plain levels n base level known apart_n within g h)
      ];
      low = λ k. elim (cases_eq k n) [
        | inl same ↦
            let here : get_or (set levels n level) n 0 ≡ level = rw get_or-set_same refl in
            let top : level ≤ i + 1 = level_low levels (system_at (schedule_of systems []) n).predecessors (deferring_before systems plain n) base level i a.low g h in
            subst (λ (x : ℕ). get_or (set levels n level) x 0 ≤ i + 1) (sym same) (omega (arith, here))
        | inr differ ↦ omega (arith, other_level levels n k level differ, a.low k)
      ];
    }

pub levels_all : (systems : List ScheduledSystem) (plain : List Order) (order levels : List ℕ) (i : ℕ) → length order ≤ i → i ≤ 256 → IsScheduleOrder (schedule_of systems order) → AreLevelsAlong systems plain order levels i → AreLevels systems plain levels
levels_all systems plain order levels i l few s a = record {
  long = a.long;
  each = λ n known. a.each n (subst (λ (xs : List ℕ). has n xs ≡ true) (sym (take_all i order l)) (s.whole n known));
  low = λ n. omega (arith, a.low n);
}
