-- A list in which two systems run at once: two writers that filters keep apart. A finish waits until both run.
use Rattle.std.proofs.Common.{ℕ, ◌<◌, ◌≡◌, true, false, List, [], ◌∷◌, Some, None, inl, inr, refl, subst, arith, true≢false}
use Rattle.std.proofs.lemmas.Bool.{both_ways}
use Rattle.model.specs.declared.steps.Step.{Step}
use Rattle.model.specs.declared.steps.Step.TheVariants.{Start, Finish, Sync}
use Rattle.model.specs.declared.steps.Ready.TheVariants as ready
use Rattle.model.specs.steps.Schedule.{level_of}
use Rattle.model.specs.steps.Lawful.{ended, IsLawful, IsComplete, MayStart, MaySync}
use Rattle.model.specs.steps.Ready.{IsReady}
use Rattle.model.specs.steps.Widths.{IsWide}
use Rattle.model.proofs.faults.Judging.{lists_are_computed}
use Rattle.model.proofs.progress.Width.{finishes_wait}
use Rattle.model.proofs.examples.Filters.{two_writers}

-- the whole list, the latest step first
abbrev whole : List Step
whole = Sync 0 ∷ Finish 0 ∷ Finish 1 ∷ Start 1 ∷ Start 0 ∷ []

lawful : IsLawful two_writers whole
lawful = (lists_are_computed two_writers whole).0 refl

complete : IsComplete two_writers whole
complete = (lists_are_computed two_writers whole).1 refl

first_may : MayStart two_writers [] 0
first_may = lawful.1.1.1.1.0

second_may : MayStart two_writers (Start 0 ∷ []) 1
second_may = lawful.1.1.1.0

sync_may : MaySync two_writers (Finish 0 ∷ Finish 1 ∷ Start 1 ∷ Start 0 ∷ []) 0
sync_may = lawful.0

-- after the first start the second is ready
second_ready : IsReady two_writers (Start 0 ∷ []) (Some (ready.Start 1))
second_ready = inr ((λ offer offers. true≢false offers.0.waits), inl (ready.Start 1, refl, (second_may.free, (refl, second_may))))

-- with one of two finished nothing is: the sync point waits for the other
nothing_ready : IsReady two_writers (Finish 1 ∷ Start 1 ∷ Start 0 ∷ []) None
nothing_ready = inr ((λ offer offers. true≢false offers.0.waits), inr ((λ offer offers. true≢false offers.0.waits), no_sync))
  where
    no_sync : (k : ℕ) → MaySync two_writers (Finish 1 ∷ Start 1 ∷ Start 0 ∷ []) k → ⊥
    no_sync k may = both_ways false refl (subst (λ j. (n : ℕ) → n < 2 → level_of two_writers n ≡ j → ended (Finish 1 ∷ Start 1 ∷ Start 0 ∷ []) n ≡ true) (let l = may.known in omega arith) may.level 0 (omega arith) refl)

two_at_once : IsWide 2 two_writers whole
two_at_once = (
  lawful.0,
  (omega arith, (ready.Sync 0, false, inr ((λ offer offers. true≢false offers.0.waits), inr ((λ offer offers. true≢false offers.0.waits), sync_may)), refl)),
  (
    lawful.1.0,
    inr nothing_ready,
    (
      lawful.1.1.0,
      inl refl,
      (
        second_may,
        (omega arith, (ready.Start 1, false, second_ready, refl)),
        (first_may, (omega arith, (ready.Start 0, false, inl (ready.Start 0, refl, (first_may.free, (refl, first_may))), refl)), tt),
      ),
    ),
  ),
)

-- while there is room and the second is ready, the first doesn't finish
no_early_finish : IsWide 2 two_writers (Finish 0 ∷ Start 0 ∷ []) → ⊥
no_early_finish wide = finishes_wait 2 two_writers [] (Start 0 ∷ []) 0 (ready.Start 1) wide (omega arith) second_ready
