-- The order of lawful lists: running systems don't meet, edges and sync points are kept, starts are in order.
use Rattle.std.proofs.Common.{ℕ, ◌<◌, true, false, true≢false, ◌≡◌, ◌≢◌, ◌⊎◌, inl, inr, List, [], ◌∷◌, ◌++◌, length, refl, sym, ◌∙◌, subst}
use Rattle.std.proofs.lemmas.Bool.{or_cases, or_left, false_from_ne_true}
use Rattle.model.specs.declared.steps.Step.{Step}
use Rattle.model.specs.declared.steps.Step.TheVariants.{Cond, Start, Skip, Finish, Sync}
use Rattle.model.specs.access.Meeting.{Meet}
use Rattle.model.specs.steps.Schedule.{Schedule, level_of, params_of, has_edge}
use Rattle.model.specs.steps.Lawful.{is_skip, started, skipped, begun, ended, runs, sets_at, May, MayStart, MaySync, IsLawful}
use Rattle.model.specs.steps.Ambiguity.{Reaches, Before}
use Rattle.model.specs.steps.Ambiguity.Reaches.{Edge, Onward}
use Rattle.model.specs.steps.Ambiguity.Before.{ByPath, ByLevel}
use Rattle.model.specs.runs.Laws.{ListsKeepOrder}
use Rattle.model.proofs.serial.Conflicts.{meet_swap}
use Rattle.model.proofs.order.Histories.{any_later, lawful_before, may_at, ended_begun, started_not-skipped, HasBegun, free_found, begun_found, runs-start, runs-finish, level_ended, above_waits, idle}

-- a system that may start meets no running one
pub starts_apart : (s : Schedule) (h : List Step) (j m n : ℕ) → MayStart s h j → j ≡ m → runs h n ≡ true → Meet (sets_at s h) (params_of s n) (params_of s m) → ⊥
starts_apart s h j m n may q r c = may.apart (n, r, subst (λ k. Meet (sets_at s h) (params_of s n) (params_of s k)) (sym q) c)

-- no two systems that run together meet
pub none_meet : (s : Schedule) (h : List Step) (m n : ℕ) → IsLawful s h → runs h m ≡ true → runs h n ≡ true → m ≢ n →
    Meet (sets_at s h) (params_of s m) (params_of s n) → ⊥
none_meet s [] m n lawful p q differ c = true≢false (sym p)
none_meet s (Start j ∷ h) m n lawful p q differ c = elim (runs-start h j m p) [
  | inl u ↦ elim (runs-start h j n q) [
    | inl v ↦ differ (sym u ∙ v)
    | inr y ↦ starts_apart s h j m n lawful.0 u y (meet_swap (sets_at s h) _ _ c)
  ]
  | inr x ↦ elim (runs-start h j n q) [
    | inl v ↦ starts_apart s h j n m lawful.0 v x c
    | inr y ↦ none_meet s h m n lawful.1 x y differ c
  ]
]
none_meet s (Finish j ∷ h) m n lawful p q differ c = none_meet s h m n lawful.1 (runs-finish h j m p).1 (runs-finish h j n q).1 differ c
none_meet s (Skip j ∷ h) m n lawful p q differ c = none_meet s h m n lawful.1 p q differ c
none_meet s (Cond j a ∷ h) m n lawful p q differ c = none_meet s h m n lawful.1 p q differ c
none_meet s (Sync j ∷ h) m n lawful p q differ c = absurd (idle s h j m lawful.1 lawful.0 p)

-- the end of a system stands before what an edge leads to
pub edges_kept : (s : Schedule) (later h : List Step) (m n : ℕ) (step : Step) → IsLawful s (later ++ step ∷ h) → (step ≡ Start n) ⊎ (step ≡ Skip n) →
    has_edge s m n ≡ true → ended h m ≡ true
edges_kept s later h m n step lawful which e = elim which [
  | inl q ↦ (subst (λ x. May s h x) q (may_at s later h step lawful)).free.after m e
  | inr q ↦ (subst (λ x. May s h x) q (may_at s later h step lawful)).free.after m e
]

-- sync points stand between the levels
pub syncs_kept : (s : Schedule) (later h : List Step) (k n : ℕ) → IsLawful s (later ++ Sync k ∷ h) →
    (n < length s.systems → level_of s n ≡ k → ended h n ≡ true)
    × (k < level_of s n → begun h n ≡ false)
    × (runs h n ≡ true → ⊥)
syncs_kept s later h k n lawful = let before : IsLawful s h = (lawful_before s later (Sync k ∷ h) lawful).1 in
    let may : MaySync s h k = may_at s later h (Sync k) lawful in (
      (λ known l. may.level n known l),
      (λ l. false_from_ne_true _ (above_waits s h k n before may.fresh l)),
      (λ r. idle s h k n before may r),
    )

-- what reaches a system that found its predecessors ended has begun
pub reaches_begun : (s : Schedule) (h : List Step) (m n : ℕ) → IsLawful s h → Reaches s m n → HasBegun s h n → begun h m ≡ true
reaches_begun s h m n lawful (Edge _ _ e) found = ended_begun s h m lawful (found.after m e)
reaches_begun s h m p lawful (Onward _ n _ e r) found =
    ended_begun s h m lawful ((begun_found s h n lawful (reaches_begun s h n p lawful r found)).after m e)

-- what is before a system that found its predecessors ended has begun
pub before_begun : (s : Schedule) (h : List Step) (m n : ℕ) → IsLawful s h → m < length s.systems → Before s m n → HasBegun s h n → begun h m ≡ true
before_begun s h m n lawful known (ByPath r) found = reaches_begun s h m n lawful r found
before_begun s h m n lawful known (ByLevel l) found = ended_begun s h m lawful (level_ended s h (level_of s m) m lawful (found.over _ l) known refl)

-- the order of starts is topological
pub order_is_topological : (s : Schedule) (later h : List Step) (m n : ℕ) → IsLawful s (later ++ Start n ∷ h) → Before s m n →
    started (later ++ Start n ∷ h) m ≡ true → started h m ≡ true
order_is_topological s later h m n lawful before e = elim (or_cases (started h m) (skipped h m) (before_begun s h m n (lawful_before s later (Start n ∷ h) lawful).1
    (begun_found s (later ++ Start n ∷ h) m lawful (or_left _ _ e)).known before
    (free_found s h n n refl (may_at s later h (Start n) lawful).free))) [
      | inl p ↦ p
      | inr k ↦ absurd (started_not-skipped s (later ++ Start n ∷ h) m lawful e (any_later (is_skip m) later (Start n ∷ h) k))
    ]

-- a lawful list keeps the order that the schedule asks for
pub lists_keep_order : ListsKeepOrder
lists_keep_order s h lawful = record {
  apart = λ later front m n e. none_meet s front m n (lawful_before s later front (subst (IsLawful s) e lawful));
  edges = λ later front step m n e. edges_kept s later front m n step (subst (IsLawful s) e lawful);
  syncs = λ later front k n e. syncs_kept s later front k n (subst (IsLawful s) e lawful);
  order = λ later front m n e before start. order_is_topological s later front m n (subst (IsLawful s) e lawful) before (subst (λ l. started l m ≡ true) e start);
}
