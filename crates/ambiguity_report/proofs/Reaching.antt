-- Which systems a path of edges leads to, found in the schedule order.
use Rattle.std.proofs.Common.{ℕ, suc, ◌+◌, ◌<◌, ◌≤◌, ◌≡◌, ◌↔◌, ◌⊎◌, inl, inr, Bool, true, false, ◌||◌, ◌==◌, List, [], ◌∷◌, ◌++◌, length, take, drop, get_or, refl, sym, ap, ◌∙◌, subst, arith, eqb-true, eq-eqb, drop-cons}
use Rattle.std.proofs.Math.ListN.{set}
use Rattle.std.proofs.lemmas.Bool.{or_cases, or_left, or_right}
use Rattle.std.proofs.lemmas.Bool.Decides.{eqb_tells}
use Rattle.std.proofs.lemmas.List.{take_more, take_all, get_or-set_same, get_or-set_other, take-append-drop}
use Rattle.std.specs.List.{list_any}
use Rattle.model.specs.Lists.{has, IsIn}
use Rattle.model.specs.steps.Schedule.{Schedule, system_at, has_edge}
use Rattle.model.specs.steps.Built.{IsBuilt}
use Rattle.model.specs.steps.Ambiguity.{Reaches}
use Rattle.model.specs.steps.Ambiguity.Reaches.{Edge, Onward}
use Rattle.model.proofs.lists.Lists.{list_any-IsIn, IsIn_from_any, has-IsIn, IsIn_from_has, IsIn-append, IsIn_right}
use Rattle.ambiguity_report.specs.Paths.{AreReached}

-- ---- paths

-- the last edge of a path
last_edge : (s : Schedule) (m p : ℕ) → Reaches s m p → (has_edge s m p ≡ true) ⊎ ((q : ℕ) × Reaches s m q × (has_edge s q p ≡ true))
last_edge s m p (Edge _ _ e) = inl e
last_edge s m p (Onward _ n _ e r) = elim (last_edge s n p r) [
  | inl f ↦ inr (n, Edge m n e, f)
  | inr f ↦ inr (f.0, Onward m n f.0 e f.1, f.2)
]

-- a path and one more edge
path_more : (s : Schedule) (m q p : ℕ) → Reaches s m q → has_edge s q p ≡ true → Reaches s m p
path_more s m q p (Edge _ _ e) f = Onward m q p e (Edge q p f)
path_more s m q p (Onward _ n _ e r) f = Onward m n p e (path_more s n q p r f)

-- ---- one more system of the order

-- the marks of the systems of a list
pub record AreMarked (s : Schedule) (first : ℕ) (front : List ℕ) (reached : List Bool) : Type 0 where
  pub marked : (n : ℕ) → has n front ≡ true → (get_or reached n false ≡ true) ↔ Reaches s first n

-- whether a system is the first, or marked
abbrev pub is_marked : ℕ → List Bool → ℕ → Bool
is_marked first reached n = (n == first) || get_or reached n false

-- a system is reached where the first or one that is reached has an edge to it
reached_by : (s : Schedule) (first n : ℕ) (front : List ℕ) (reached : List Bool) → AreMarked s first front reached → ((m : ℕ) → has_edge s m n ≡ true → has m front ≡ true) →
    (list_any (is_marked first reached) (system_at s n).predecessors ≡ true) ↔ Reaches s first n
reached_by s first n front reached marks after = (found, tested)
  where
    found : list_any (is_marked first reached) (system_at s n).predecessors ≡ true → Reaches s first n
    found e =
        let one = IsIn_from_any (is_marked first reached) (system_at s n).predecessors e in
        let edge : has_edge s one.0 n ≡ true = has-IsIn one.0 (system_at s n).predecessors one.1 in
        elim (or_cases (one.0 == first) (get_or reached one.0 false) one.2) [
          | inl same ↦ Edge first n (subst (λ (m : ℕ). has_edge s m n ≡ true) (eqb-true one.0 first same) edge)
          | inr there ↦ path_more s first one.0 n ((marks.marked one.0 (after one.0 edge)).0 there) edge
        ]

    tested : Reaches s first n → list_any (is_marked first reached) (system_at s n).predecessors ≡ true
    tested path = elim (last_edge s first n path) [
      | inl edge ↦ list_any-IsIn (is_marked first reached) first (system_at s n).predecessors (IsIn_from_has first (system_at s n).predecessors edge)
          (or_left (first == first) (get_or reached first false) (eq-eqb first first refl))
      | inr more ↦ list_any-IsIn (is_marked first reached) more.0 (system_at s n).predecessors (IsIn_from_has more.0 (system_at s n).predecessors more.2)
          (or_right (more.0 == first) (get_or reached more.0 false) ((marks.marked more.0 (after more.0 more.2)).1 more.1))
    ]

-- a list of a front, an element and what is behind it
pub parted : (xs : List ℕ) (i : ℕ) → i < length xs → xs ≡ take i xs ++ get_or xs i 0 ∷ drop (suc i) xs
parted xs i low = sym (take-append-drop i xs) ∙ ap (λ (ys : List ℕ). take i xs ++ ys) (drop-cons xs i 0 low)

-- a list has the element at a place of it
pub has_at : (xs : List ℕ) (i : ℕ) → i < length xs → has (get_or xs i 0) xs ≡ true
has_at xs i low = has-IsIn (get_or xs i 0) xs
    (subst (λ (ys : List ℕ). IsIn (get_or xs i 0) ys) (sym (parted xs i low)) (IsIn_right (get_or xs i 0) (take i xs) (get_or xs i 0 ∷ drop (suc i) xs) (inl refl)))

-- the marks with one more system
pub marked_more : (s : Schedule) → IsBuilt s → (first i : ℕ) (reached : List Bool) → i < length s.order → length reached ≡ 256 →
    AreMarked s first (take i s.order) reached →
    AreMarked s first (take (i + 1) s.order) (set reached (get_or s.order i 0) (list_any (is_marked first reached) (system_at s (get_or s.order i 0)).predecessors))
marked_more s built first i reached low room marks = record { marked = each }
  where
    inside : get_or s.order i 0 < length reached
    inside = let known : get_or s.order i 0 < length s.systems = built.known (get_or s.order i 0) (has_at s.order i low) in omega (arith, built.few_systems)

    here : (list_any (is_marked first reached) (system_at s (get_or s.order i 0)).predecessors ≡ true) ↔ Reaches s first (get_or s.order i 0)
    here = reached_by s first (get_or s.order i 0) (take i s.order) reached marks (built.after (take i s.order) (drop (suc i) s.order) (get_or s.order i 0) (parted s.order i low))

    each : (n : ℕ) → has n (take (i + 1) s.order) ≡ true →
        (get_or (set reached (get_or s.order i 0) (list_any (is_marked first reached) (system_at s (get_or s.order i 0)).predecessors)) n false ≡ true) ↔ Reaches s first n
    each n h = elim (eqb_tells n (get_or s.order i 0)) [
      | inl same ↦ subst (λ (k : ℕ). (get_or (set reached (get_or s.order i 0) (list_any (is_marked first reached) (system_at s (get_or s.order i 0)).predecessors)) k false ≡ true) ↔ Reaches s first k) (sym same.1)
          (subst (λ (b : Bool). (b ≡ true) ↔ Reaches s first (get_or s.order i 0))
          (sym (get_or-set_same reached (get_or s.order i 0) (list_any (is_marked first reached) (system_at s (get_or s.order i 0)).predecessors) false inside)) here)
      | inr other ↦
          let whole : IsIn n (take i s.order ++ get_or s.order i 0 ∷ []) = subst (λ (xs : List ℕ). IsIn n xs) (take_more s.order i 0 low) (IsIn_from_has n (take (i + 1) s.order) h) in
          let before : has n (take i s.order) ≡ true = elim (IsIn-append n (take i s.order) (get_or s.order i 0 ∷ []) whole) [
            | inl front ↦ has-IsIn n (take i s.order) front
            | inr new ↦ elim new [ inl same ↦ absurd (other.1 same) | inr never ↦ absurd never ]
          ] in
          subst (λ (b : Bool). (b ≡ true) ↔ Reaches s first n)
          (sym (get_or-set_other reached (get_or s.order i 0) n (list_any (is_marked first reached) (system_at s (get_or s.order i 0)).predecessors) false other.1)) (marks.marked n before)
    ]

-- the systems of the order are known
pub order_known : (s : Schedule) → IsBuilt s → (order : List ℕ) → order ≡ s.order → (i : ℕ) → i < length order → get_or order i 0 < length s.systems
order_known s built order same i low = built.known (get_or order i 0) (subst (λ (xs : List ℕ). has (get_or order i 0) xs ≡ true) same (has_at order i low))

-- the marks with one more system, as they are read
pub marked_step : (s : Schedule) → IsBuilt s → (order : List ℕ) → order ≡ s.order → (first i : ℕ) (reached : List Bool) (predecessors : List ℕ) (next : Bool) → i < length order → length reached ≡ 256 →
    predecessors ≡ (system_at s (get_or order i 0)).predecessors → next ≡ list_any (is_marked first reached) predecessors → AreMarked s first (take i s.order) reached →
    AreMarked s first (take (i + 1) s.order) (set reached (get_or order i 0) next)
marked_step s built order same first i reached predecessors next low room read tested marks =
    let many : length order ≡ length s.order = ap (λ (xs : List ℕ). length xs) same in
    let told : next ≡ list_any (is_marked first reached) (system_at s (get_or s.order i 0)).predecessors
    = tested ∙ ap (λ (xs : List ℕ). list_any (is_marked first reached) xs) (read ∙ ap (λ (xs : List ℕ). (system_at s (get_or xs i 0)).predecessors) same) in
    subst (λ (xs : List ℕ). AreMarked s first (take (i + 1) s.order) (set reached (get_or xs i 0) next)) (sym same)
    (subst (λ (b : Bool). AreMarked s first (take (i + 1) s.order) (set reached (get_or s.order i 0) b)) (sym told)
    (marked_more s built first i reached (omega arith) room marks))

-- the marks of every system
pub marked_all : (s : Schedule) → IsBuilt s → (first i : ℕ) (reached : List Bool) → length s.order ≤ i → AreMarked s first (take i s.order) reached → AreReached s first reached
marked_all s built first i reached past marks = record {
  marked = λ n known. marks.marked n (subst (λ (xs : List ℕ). has n xs ≡ true) (sym (take_all i s.order past)) (built.listed n known));
}
