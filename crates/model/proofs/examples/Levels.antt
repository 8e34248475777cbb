-- The schedule order of a schedule with two levels: a system of the lower level stands before what only waits for an edge.
use Rattle.std.proofs.Common.{◌≡◌, ℕ, zero, suc, ◌<◌, true, false, List, [], ◌∷◌, None, refl, sym, ◌∙◌, arith, true≢false}
use Rattle.model.specs.Lists.{has}
use Rattle.model.specs.access.Access.{no_params}
use Rattle.model.specs.steps.Schedule.{Schedule, ScheduledSystem, level_of}
use Rattle.model.specs.steps.Ambiguity.{Reaches, Before}
use Rattle.model.specs.steps.Ambiguity.Reaches.{Edge, Onward}
use Rattle.model.specs.steps.Ambiguity.Before.{ByPath, ByLevel}
use Rattle.model.specs.declarations.ScheduleOrder.{IsPlaceable, IsNextPlaced, IsScheduleOrder}

abbrev at_level : ℕ → List ℕ → ScheduledSystem
at_level level predecessors = record { params = no_params; predecessors = predecessors; level = level }

-- a before b, and a has commands; b before c, which ignores its commands; u stands alone
abbrev levelled : List ℕ → Schedule
levelled order = record {
  systems = at_level 0 [] ∷ at_level 1 (0 ∷ []) ∷ at_level 1 (1 ∷ []) ∷ at_level 0 [] ∷ [];
  conditions = [];
  syncs = 2;
  order = order;
  silences = [];
  sets = None;
}

-- a list that places b before u is no schedule order
by_edges_alone : IsScheduleOrder (levelled (0 ∷ 1 ∷ 2 ∷ 3 ∷ [])) → ⊥
by_edges_alone order = true≢false (sym ((order.next (0 ∷ []) (2 ∷ 3 ∷ []) 1 refl).placeable.after 3 (omega arith) (ByLevel (omega arith))))

-- so it begins with a and u
abbrev placed_order : List ℕ
placed_order = 0 ∷ 3 ∷ 1 ∷ 2 ∷ []

no_path_to_first : (m : ℕ) → Reaches (levelled placed_order) m 0 → ⊥
no_path_to_first m (Edge i j e) = true≢false (sym e)
no_path_to_first m (Onward i j p e rest) = no_path_to_first j rest

no_path_to_last : (m : ℕ) → Reaches (levelled placed_order) m 3 → ⊥
no_path_to_last m (Edge i j e) = true≢false (sym e)
no_path_to_last m (Onward i j p e rest) = no_path_to_last j rest

-- a property of each system
each_system : (P : ℕ → Type 0) → P 0 → P 1 → P 2 → P 3 → (n : ℕ) → n < 4 → P n
each_system P a b c u zero l = a
each_system P a b c u (suc zero) l = b
each_system P a b c u (suc (suc zero)) l = c
each_system P a b c u (suc (suc (suc zero))) l = u
each_system P a b c u (suc (suc (suc (suc n)))) l = absurd (omega arith)

-- nothing is before a system of the first level to which no edge leads
nothing_before : (n : ℕ) → level_of (levelled placed_order) n ≡ 0 → ((m : ℕ) → Reaches (levelled placed_order) m n → ⊥)
    → (placed : List ℕ) (m : ℕ) → m < 4 → Before (levelled placed_order) m n → has m placed ≡ true
nothing_before n low none placed m l (ByPath path) = absurd (none m path)
nothing_before n low none placed m l (ByLevel lower) = absurd (omega arith)

-- b is not placeable while u is not placed, nor is c
waits : (placed : List ℕ) (n : ℕ) → has 3 placed ≡ false → level_of (levelled placed_order) n ≡ 1 → IsPlaceable (levelled placed_order) placed n → ⊥
waits placed n missing level p = true≢false (sym (p.after 3 (omega arith) (ByLevel (omega arith))) ∙ missing)

-- a stands first; u is next, before b, whose predecessor is placed, but which is of a higher level
a_is_next : IsNextPlaced (levelled placed_order) [] 0
a_is_next = record {
  placeable = record { known = omega arith; open_yet = refl; after = nothing_before 0 refl no_path_to_first [] };
  least = λ m l p. omega arith;
}

u_is_next : IsNextPlaced (levelled placed_order) (0 ∷ []) 3
u_is_next = record {
  placeable = record { known = omega arith; open_yet = refl; after = nothing_before 3 refl no_path_to_last (0 ∷ []) };
  least = λ m l. each_system (λ k. k < 3 → IsPlaceable (levelled placed_order) (0 ∷ []) k → ⊥)
      (λ k p. true≢false p.open_yet) (λ k p. waits (0 ∷ []) 1 refl refl p) (λ k p. waits (0 ∷ []) 2 refl refl p) (λ k p. omega arith) m (omega arith) l;
}
