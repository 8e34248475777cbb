-- Where nothing is deferred a sync point has nothing to do but its tick.
use Rattle.std.proofs.Common.{◌≡◌, ℕ, List, [], ◌∷◌, ◌++◌, get_or, set, flat_map, refl, sym, ap, ◌∙◌, subst}
use Rattle.std.proofs.lemmas.List.{set-get_or}
use Rattle.model.specs.declared.entities.Entity.{Entity}
use Rattle.model.specs.shown.Outcome.{Command}
use Rattle.model.specs.runs.RunState.{next_tick}
use Rattle.command_queue.specs.Commands.{commands_of}
use Rattle.body.specs.Steps.{StateValue, at_clock}
use Rattle.engine.specs.Deferred.{DeferredValue, IsNothingDeferred, emptied, grants_of}
use Rattle.engine.proofs.SyncPointState.{Synced, freed_none}
use Rattle.engine.proofs.SyncPoint.{without_systems}

-- nothing of any system is nothing of these
nothing_of : {A : Type 0} (lists : List (List A)) → ((n : ℕ) → get_or lists n [] ≡ []) → (ns : List ℕ) → flat_map (λ n. get_or lists n []) ns ≡ []
nothing_of lists none [] = refl
nothing_of lists none (n ∷ ns) = ap (λ xs. xs ++ flat_map (λ m. get_or lists m []) ns) (none n) ∙ nothing_of lists none ns

-- to empty an empty list changes nothing
pub set_nothing : {A : Type 0} (lists : List (List A)) (n : ℕ) (x : List A) → get_or lists n [] ≡ [] → x ≡ [] → set lists n x ≡ lists
set_nothing lists n x none e = ap (set lists n) (e ∙ sym none) ∙ set-get_or lists n []

-- nor to empty some
emptied_nothing : {A : Type 0} (ns : List ℕ) (lists : List (List A)) → ((n : ℕ) → get_or lists n [] ≡ []) → emptied ns lists ≡ lists
emptied_nothing [] lists none = refl
emptied_nothing (n ∷ ns) lists none = ap (emptied ns) (set_nothing lists n [] (none n) refl) ∙ emptied_nothing ns lists none

module _ (deferred : DeferredValue) (none : IsNothingDeferred deferred) (level : List ℕ) where
  -- the state at the next tick is that after the sync point
  pub idle_synced : (before ticked : StateValue) → ticked ≡ record { state = at_clock (next_tick before.state) before.state; layout = before.layout } →
      Synced (grants_of deferred.grants level) (commands_of deferred.commands level) before ticked
  idle_synced before ticked e =
      let still : Synced [] [] before ticked = record {
        ticked = ticked;
        applied = ticked;
        tick = next_tick before.state;
        tick_is = refl;
        ticked_is = e;
        applied_is = refl;
        freed_is = sym (freed_none ticked);
      } in
      subst (λ (ids : List Entity). Synced ids (commands_of deferred.commands level) before ticked) (sym (nothing_of deferred.grants none.no_grants level))
      (subst (λ (cs : List Command). Synced [] cs before ticked) (sym (nothing_of deferred.commands none.no_commands level)) still)

  -- and what is deferred is what was
  pub idle_gone : deferred ≡ without_systems level deferred
  idle_gone = λ i. record {
    levels = deferred.levels;
    spawners = deferred.spawners;
    commands = sym (emptied_nothing level deferred.commands none.no_commands) i;
    grants = sym (emptied_nothing level deferred.grants none.no_grants) i;
  }
