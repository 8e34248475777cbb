-- Which schedules are settled: a writer beside a condition that reads the same, and two systems that share nothing, run in two orders.
use Rattle.std.specs.Option.{is_some}
use Rattle.std.proofs.Common.{◌≡◌, ◌≢◌, ℕ, zero, suc, ◌<◌, pos, true, false, List, [], ◌∷◌, None, ◌⊎◌, inl, inr, refl, sym, subst, arith, true≢false}
use Rattle.std.proofs.lemmas.Bool.{both_ways}
use Rattle.model.specs.access.Access.{Params, no_params}
use Rattle.model.specs.access.Conflict.{Conflict, conflicts}
use Rattle.model.specs.access.Condition.Condition.{ResourceAtLeast}
use Rattle.model.specs.steps.Schedule.{Schedule, ScheduledSystem, params_of, access_of}
use Rattle.model.specs.steps.Ambiguity.{HasNoFilter, Reaches, Before, IsMember, AmbiguousCondition, Settled}
use Rattle.model.specs.steps.Ambiguity.Reaches.{Edge, Onward}
use Rattle.model.specs.steps.Ambiguity.Before.{ByPath, ByLevel}
use Rattle.model.proofs.serial.ConflictTests.{conflict-found, conflict-tested}
use Rattle.model.proofs.examples.Bodies.{round, system, system_after, condition}

-- accesses that the computed test keeps apart don't conflict
pub no_conflict : (a b : Params) → conflicts a b ≡ false → Conflict a b → ⊥
no_conflict a b apart conflict = both_ways _ apart (conflict-tested a b conflict)

-- a number below three is one of three
below_three : (n : ℕ) → n < 3 → (n ≡ 0) ⊎ ((n ≡ 1) ⊎ (n ≡ 2))
below_three zero l = inl refl
below_three (suc zero) l = inr (inl refl)
below_three (suc (suc zero)) l = inr (inr refl)
below_three (suc (suc (suc n))) l = absurd (omega arith)

-- a property of 0, 1 and 2 is one of each number below three
pub each_below_three : (P : ℕ → Type 0) → P 0 → P 1 → P 2 → (n : ℕ) → n < 3 → P n
each_below_three P zero_case one_case two_case n l = elim (below_three n l) [
  | inl e ↦ subst P (sym e) zero_case
  | inr other ↦ elim other [ inl e ↦ subst P (sym e) one_case | inr e ↦ subst P (sym e) two_case ]
]

-- ---- a writer of Round before one member of a condition's set, or before the whole set

abbrev writer : Params
writer = record no_params { res_mut = round ∷ [] }

-- the writer, two members; the second member may stand after the writer or not
abbrev with_set : List ℕ → Schedule
with_set predecessors = record {
  systems = system writer ∷ system_after (0 ∷ []) no_params ∷ system_after predecessors no_params ∷ [];
  conditions = condition (ResourceAtLeast round (pos 0)) (1 ∷ 2 ∷ []) ∷ [];
  syncs = 1;
  order = 0 ∷ 1 ∷ 2 ∷ [];
  silences = [];
  sets = None;
}

-- no path leads from the writer to a system without predecessors
no_path_in : (m : ℕ) → Reaches (with_set []) m 2 → ⊥
no_path_in m (Edge i j e) = true≢false (sym e)
no_path_in m (Onward i j p e rest) = no_path_in j rest

-- nothing leads to the writer
nothing_before_writer : (predecessors : List ℕ) (m : ℕ) → Reaches (with_set predecessors) m 0 → ⊥
nothing_before_writer predecessors m (Edge i j e) = true≢false (sym e)
nothing_before_writer predecessors m (Onward i j p e rest) = nothing_before_writer predecessors j rest

-- before one member alone, the writer and the condition are an ambiguous pair
before_one_member : AmbiguousCondition (with_set []) 0 0
before_one_member = record {
  condition_known = omega arith;
  system_known = omega arith;
  conflict = conflict-found writer (access_of (with_set []) 0) refl;
  no_member = λ member. true≢false (sym member.covered);
  not_before = λ each. elim (each 2 (record { known = omega arith; covered = refl })) [ ByPath path ↦ no_path_in 0 path | ByLevel l ↦ omega arith ];
  not_after = λ m member early. elim early [ ByPath path ↦ nothing_before_writer [] m path | ByLevel l ↦ below_level m l ];
}
  where
    below_level : (m : ℕ) → Rattle.model.specs.steps.Schedule.level_of (with_set []) m < 0 → ⊥
    below_level m l = omega arith

-- ---- the writer before the whole set

abbrev ordered : Schedule
ordered = with_set (0 ∷ [])

-- systems that touch nothing conflict with nobody, and the writer is not two systems
ordered_pairs : (m n : ℕ) → m < 3 → n < 3 → m ≢ n → Conflict (params_of ordered m) (params_of ordered n) → ⊥
ordered_pairs m n l k = each_below_three (λ i. i ≢ n → Conflict (params_of ordered i) (params_of ordered n) → ⊥)
    (each_below_three (λ j. 0 ≢ j → Conflict (params_of ordered 0) (params_of ordered j) → ⊥)
    (λ differ conflict. differ refl) (λ differ. no_conflict writer no_params refl) (λ differ. no_conflict writer no_params refl) n k)
    (each_below_three (λ j. 1 ≢ j → Conflict (params_of ordered 1) (params_of ordered j) → ⊥)
    (λ differ. no_conflict no_params writer refl) (λ differ. no_conflict no_params no_params refl) (λ differ. no_conflict no_params no_params refl) n k)
    (each_below_three (λ j. 2 ≢ j → Conflict (params_of ordered 2) (params_of ordered j) → ⊥)
    (λ differ. no_conflict no_params writer refl) (λ differ. no_conflict no_params no_params refl) (λ differ. no_conflict no_params no_params refl) n k)
    m l

-- the writer stands before each member
writer_first : (m : ℕ) → IsMember ordered 0 m → Before ordered 0 m
writer_first m member = each_below_three (λ j. Rattle.model.specs.steps.Schedule.covers ordered 0 j ≡ true → Before ordered 0 j)
    (λ e. absurd (true≢false (sym e))) (λ e. ByPath (Edge 0 1 refl)) (λ e. ByPath (Edge 0 2 refl)) m member.known member.covered

-- the only condition is that of the set
only_condition : (c : ℕ) → c < 1 → c ≡ 0
only_condition c l = omega arith

ordered_conditions : (n : ℕ) → AmbiguousCondition ordered 0 n → ⊥
ordered_conditions n pair = each_below_three (λ j. Conflict (params_of ordered j) (access_of ordered 0) → (((m : ℕ) → IsMember ordered 0 m → Before ordered j m) → ⊥) → ⊥)
    (λ conflict late. late writer_first)
    (λ conflict late. no_conflict no_params (access_of ordered 0) refl conflict)
    (λ conflict late. no_conflict no_params (access_of ordered 0) refl conflict)
    n pair.system_known pair.conflict pair.not_before

-- before the whole set nothing is left open
before_the_set : Settled ordered
before_the_set = record {
  systems = λ m n pair. ordered_pairs m n pair.first_known pair.second_known pair.differ pair.conflict;
  conditions = λ c n pair. ordered_conditions n (subst (λ d. AmbiguousCondition ordered d n) (only_condition c pair.condition_known) pair);
  unfiltered = each_below_three (λ n. is_some (params_of ordered n).spawns ≡ true → HasNoFilter ordered) (λ e. absurd (true≢false (sym e))) (λ e. absurd (true≢false (sym e))) (λ e. absurd (true≢false (sym e)));
}
