-- From which systems a path of edges leads to one, found against the schedule order.
use Rattle.std.proofs.Common.{ℕ, suc, ◌+◌, ◌<◌, ◌≡◌, ◌↔◌, inl, inr, Bool, true, false, ◌==◌, List, [], ◌∷◌, ◌++◌, length, take, drop, get_or, refl, sym, ap, ◌∙◌, subst, arith, append_assoc, eqb-true, eq-eqb, drop-cons, add-one}
use Rattle.std.proofs.Math.ListN.{set}
use Rattle.std.proofs.lemmas.Bool.{cases_lt, or_cases, or_left, or_right, both_ways}
use Rattle.std.proofs.lemmas.Bool.Decides.{eqb_tells}
use Rattle.std.proofs.lemmas.List.{get_or_past, get_or-set_same, get_or-set_other}
use Rattle.std.specs.List.{list_any}
use Rattle.model.specs.Lists.{has, IsIn}
use Rattle.model.specs.access.Access.{no_params}
use Rattle.model.specs.steps.Schedule.{Schedule, ScheduledSystem, has_edge}
use Rattle.model.specs.steps.Built.{IsBuilt}
use Rattle.model.specs.steps.Ambiguity.{Reaches}
use Rattle.model.specs.steps.Ambiguity.Reaches.{Edge, Onward}
use Rattle.model.proofs.lists.Lists.{list_any-IsIn, IsIn_from_any, has-IsIn, IsIn_from_has, IsIn-append, IsIn_left}
use Rattle.schedule_builder.specs.Counts.{IsListing, IsAfter}
use Rattle.ambiguity_report.proofs.Reaching.{is_marked, has_at, parted}

-- ---- what stands behind a system

-- an edge leads to a system
edge_known : (s : Schedule) (m n : ℕ) → has_edge s m n ≡ true → n < length s.systems
edge_known s m n e = elim (cases_lt n (length s.systems)) [
  | inl low ↦ low
  | inr past ↦ absurd (both_ways (has_edge s m n) (ap (λ (x : ScheduledSystem). has m x.predecessors) (get_or_past s.systems n (record { params = no_params; predecessors = []; level = 0 }) past)) e)
]

-- a list is what is before an element of it, the element, and what is behind it
split_at : (n : ℕ) (xs : List ℕ) → IsIn n xs → (front : List ℕ) × (rest : List ℕ) × (xs ≡ front ++ n ∷ rest)
split_at n [] h = absurd h
split_at n (x ∷ xs) (inl same) = ([], xs, ap (λ (y : ℕ). y ∷ xs) (sym same))
split_at n (x ∷ xs) (inr later) = let r = split_at n xs later in (x ∷ r.0, r.1, ap (λ (ys : List ℕ). x ∷ ys) r.2)

-- the systems with an edge from one stand behind it
behind : (s : Schedule) → IsBuilt s → (front rest : List ℕ) (n : ℕ) → s.order ≡ front ++ n ∷ rest → (m : ℕ) → has_edge s n m ≡ true → has m rest ≡ true
behind s built front rest n splits m edge =
    elim (IsIn-append m front (n ∷ rest) (subst (λ (xs : List ℕ). IsIn m xs) splits (IsIn_from_has m s.order (built.listed m (edge_known s n m edge))))) [
      | inl early ↦
          let part = split_at m front early in
          let whole : s.order ≡ part.0 ++ m ∷ (part.1 ++ n ∷ rest) = splits ∙ (ap (λ (xs : List ℕ). xs ++ n ∷ rest) part.2 ∙ append_assoc part.0 (m ∷ part.1) (n ∷ rest)) in
          let there : has n part.0 ≡ true = built.after part.0 (part.1 ++ n ∷ rest) m whole n edge in
          let twice : IsIn n front = subst (λ (xs : List ℕ). IsIn n xs) (sym part.2) (IsIn_left n part.0 (m ∷ part.1) (IsIn_from_has n part.0 there)) in
          absurd (both_ways (has n front) (built.once front rest n splits) (has-IsIn n front twice))
      | inr late ↦ elim late [
        | inl same ↦
            let loop : has_edge s n n ≡ true = subst (λ (k : ℕ). has_edge s n k ≡ true) same edge in
            absurd (both_ways (has n front) (built.once front rest n splits) (built.after front rest n splits n loop))
        | inr later ↦ has-IsIn m rest later
      ]
    ]

-- ---- one more system against the order

-- the marks of the systems of a list
pub record AreMarkedBehind (s : Schedule) (last : ℕ) (rest : List ℕ) (reaching : List Bool) : Type 0 where
  pub marked : (n : ℕ) → has n rest ≡ true → (get_or reaching n false ≡ true) ↔ Reaches s n last

-- a path leads from a system where it has an edge to the last or to one from which a path leads there
reaching_by : (s : Schedule) (last n : ℕ) (rest : List ℕ) (reaching : List Bool) (followers : List ℕ) → AreMarkedBehind s last rest reaching →
    ((m : ℕ) → has_edge s n m ≡ true → has m rest ≡ true) → IsListing (IsAfter s.systems n) followers → (list_any (is_marked last reaching) followers ≡ true) ↔ Reaches s n last
reaching_by s last n rest reaching followers marks behind_it listing = (found, tested)
  where
    listed : (m : ℕ) → has_edge s n m ≡ true → IsIn m followers
    listed m edge = IsIn_from_has m followers ((listing.names m).1 (edge_known s n m edge, edge))

    found : list_any (is_marked last reaching) followers ≡ true → Reaches s n last
    found e =
        let one = IsIn_from_any (is_marked last reaching) followers e in
        let edge : has_edge s n one.0 ≡ true = ((listing.names one.0).0 (has-IsIn one.0 followers one.1)).1 in
        elim (or_cases (one.0 == last) (get_or reaching one.0 false) one.2) [
          | inl same ↦ Edge n last (subst (λ (m : ℕ). has_edge s n m ≡ true) (eqb-true one.0 last same) edge)
          | inr there ↦ Onward n one.0 last edge ((marks.marked one.0 (behind_it one.0 edge)).0 there)
        ]

    tested : Reaches s n last → list_any (is_marked last reaching) followers ≡ true
    tested (Edge _ _ e) = list_any-IsIn (is_marked last reaching) last followers (listed last e) (or_left (last == last) (get_or reaching last false) (eq-eqb last last refl))
    tested (Onward _ m _ e r) = list_any-IsIn (is_marked last reaching) m followers (listed m e) (or_right (m == last) (get_or reaching m false) ((marks.marked m (behind_it m e)).1 r))

-- the marks with one more system
marked_more : (s : Schedule) → IsBuilt s → (last i : ℕ) (reaching : List Bool) (followers : List ℕ) → i < length s.order → length reaching ≡ 256 → IsListing (IsAfter s.systems (get_or s.order i 0)) followers →
    AreMarkedBehind s last (drop (suc i) s.order) reaching →
    AreMarkedBehind s last (drop i s.order) (set reaching (get_or s.order i 0) (list_any (is_marked last reaching) followers))
marked_more s built last i reaching followers low room listing marks = record { marked = each }
  where
    system : ℕ
    system = get_or s.order i 0

    inside : get_or s.order i 0 < length reaching
    inside = let known : get_or s.order i 0 < length s.systems = built.known (get_or s.order i 0) (has_at s.order i low) in omega (arith, built.few_systems)

    here : (list_any (is_marked last reaching) followers ≡ true) ↔ Reaches s (get_or s.order i 0) last
    here = reaching_by s last (get_or s.order i 0) (drop (suc i) s.order) reaching followers marks (behind s built (take i s.order) (drop (suc i) s.order) (get_or s.order i 0) (parted s.order i low)) listing

    each : (n : ℕ) → has n (drop i s.order) ≡ true → (get_or (set reaching (get_or s.order i 0) (list_any (is_marked last reaching) followers)) n false ≡ true) ↔ Reaches s n last
    each n h = elim (eqb_tells n (get_or s.order i 0)) [
      | inl same ↦ subst (λ (k : ℕ). (get_or (set reaching (get_or s.order i 0) (list_any (is_marked last reaching) followers)) k false ≡ true) ↔ Reaches s k last) (sym same.1)
          (subst (λ (b : Bool). (b ≡ true) ↔ Reaches s (get_or s.order i 0) last) (sym (get_or-set_same reaching (get_or s.order i 0) (list_any (is_marked last reaching) followers) false inside)) here)
      | inr other ↦
          let whole : IsIn n (get_or s.order i 0 ∷ drop (suc i) s.order) = subst (λ (xs : List ℕ). IsIn n xs) (drop-cons s.order i 0 low) (IsIn_from_has n (drop i s.order) h) in
          let later : has n (drop (suc i) s.order) ≡ true = elim whole [
            | inl same ↦ absurd (other.1 same)
            | inr rest ↦ has-IsIn n (drop (suc i) s.order) rest
          ] in
          subst (λ (b : Bool). (b ≡ true) ↔ Reaches s n last) (sym (get_or-set_other reaching (get_or s.order i 0) n (list_any (is_marked last reaching) followers) false other.1)) (marks.marked n later)
    ]

-- the same, as they are read
pub behind_step : (s : Schedule) → IsBuilt s → (order : List ℕ) → order ≡ s.order → (last i : ℕ) (reaching : List Bool) (followers : List ℕ) (next : Bool) → i < length order → length reaching ≡ 256 →
    IsListing (IsAfter s.systems (get_or order i 0)) followers → next ≡ list_any (is_marked last reaching) followers → AreMarkedBehind s last (drop (i + 1) s.order) reaching →
    AreMarkedBehind s last (drop i s.order) (set reaching (get_or order i 0) next)
behind_step s built order same last i reaching followers next low room listing tested marks =
    let many : length order ≡ length s.order = ap (λ (xs : List ℕ). length xs) same in
    subst (λ (xs : List ℕ). AreMarkedBehind s last (drop i s.order) (set reaching (get_or xs i 0) next)) (sym same)
    (subst (λ (b : Bool). AreMarkedBehind s last (drop i s.order) (set reaching (get_or s.order i 0) b)) (sym tested)
    (marked_more s built last i reaching followers (omega arith) room (subst (λ (xs : List ℕ). IsListing (IsAfter s.systems (get_or xs i 0)) followers) same listing) (rw add-one at marks)))
