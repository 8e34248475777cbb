-- Commands and ids: spawning, insertion before a spawn, despawning twice, removal of what is absent, ids that come back.
use Rattle.std.proofs.Common.{◌≡◌, ℕ, ℤ, pos, List, [], ◌∷◌, map, Some, None, option_map, refl, length}
use Rattle.model.specs.declared.steps.Step.{Step}
use Rattle.model.specs.declared.steps.Step.TheVariants.{Start, Finish, Sync}
use Rattle.model.specs.state.State.{State, Slot, Component}
use Rattle.model.specs.state.State.Status.{Vacant, Living}
use Rattle.model.specs.access.Query.Term.{Entity, Read, With}
use Rattle.model.specs.access.Access.{Params, no_params}
use Rattle.model.specs.shown.Outcome.{BodyMeaning, Command}
use Rattle.model.specs.shown.Outcome.Command.{Spawn, Insert, Remove, Despawn}
use Rattle.model.specs.state.Rows.{new_component}
use Rattle.model.specs.shown.Input.{Shown, value_of}
use Rattle.model.specs.Lists.{head_or}
use Rattle.model.specs.steps.Schedule.{Schedule}
use Rattle.model.specs.state.Loaded.{loaded}
use Rattle.model.proofs.examples.Bodies.{health, score, frozen, total, asks, system, system_after, plain, given, zeros, adds, issues, first_granted, entities_of, serially, woven, runs_from, computed}

-- what an example compares: the slots and the count
abbrev pub seen : State → List Slot × ℕ
seen w = (w.world.slots, w.passed_over)

abbrev pub living : ℕ → List Component → Slot
living generation row = record { generation = generation; status = Living; row = row }

abbrev pub vacant : ℕ → Slot
vacant generation = record { generation = generation; status = Vacant; row = [] }

abbrev pub granting : ℕ → Params
granting n = record no_params { spawns = Some n }

abbrev alone : Params → Schedule
alone params = plain (system params ∷ []) (0 ∷ [])

abbrev pub one_run : List Step
one_run = Start 0 ∷ Finish 0 ∷ Sync 0 ∷ []

-- ---- an insert on a granted id before its spawn is passed over

abbrev inserts_first : Shown → List Command
inserts_first shown = Insert (first_granted shown) score (pos 1 ∷ []) ∷ Spawn (first_granted shown) ∷ []

insert_before_spawn : option_map seen (serially (alone (granting 1)) (issues inserts_first (granting 1) ∷ []) (loaded (alone (granting 1)) [] zeros) one_run)
    ≡ Some (living 1 [] ∷ [], 1)
unfolding computed
insert_before_spawn = refl

-- ---- spawned and despawned at one sync point: each run grants the index at its next generation

abbrev spawns_and_despawns : Shown → List Command
spawns_and_despawns shown = Spawn (first_granted shown) ∷ Despawn (first_granted shown) ∷ []

spawn_and_despawn : option_map seen (runs_from (alone (granting 1)) (issues spawns_and_despawns (granting 1) ∷ []) (loaded (alone (granting 1)) [] zeros) (one_run ∷ one_run ∷ one_run ∷ []))
    ≡ Some (vacant 4 ∷ [], 0)
unfolding computed
spawn_and_despawn = refl

-- ---- a second spawn of an id does nothing

abbrev spawns_twice : Shown → List Command
spawns_twice shown = Spawn (first_granted shown) ∷ Insert (first_granted shown) score (pos 7 ∷ []) ∷ Spawn (first_granted shown) ∷ []

spawned_once : option_map seen (serially (alone (granting 1)) (issues spawns_twice (granting 1) ∷ []) (loaded (alone (granting 1)) [] zeros) one_run)
    ≡ Some (living 1 (new_component 4 score (pos 7 ∷ []) ∷ []) ∷ [], 0)
unfolding computed
spawned_once = refl

-- ---- a component that is inserted again keeps the tick of its adding

abbrev finds_health : Params
finds_health = record (asks ((Entity ∷ Read health ∷ []) ∷ [])) { spawns = Some 0 }

abbrev rescores : Shown → List Command
rescores shown = map (λ e. Insert e score (pos 3 ∷ [])) (entities_of shown)

inserted_again : option_map seen (runs_from (alone finds_health) (issues rescores finds_health ∷ []) (loaded (alone finds_health) ((given health (pos 1 ∷ []) ∷ []) ∷ []) zeros) (one_run ∷ one_run ∷ []))
    ≡ Some (living 1 (new_component 1 health (pos 1 ∷ []) ∷ record { kind = score; cell = record { words = pos 3 ∷ []; added = 4; changed = 7 } } ∷ []) ∷ [], 0)
unfolding computed
inserted_again = refl

-- ---- two ids granted and one spawned, with a component: the other one comes back

abbrev spawns_one : Shown → List Command
spawns_one shown = Spawn (first_granted shown) ∷ Insert (first_granted shown) score (pos 7 ∷ []) ∷ []

abbrev scored : ℕ → List Component
scored tick = new_component tick score (pos 7 ∷ []) ∷ []

three_spawns : option_map seen (runs_from (alone (granting 2)) (issues spawns_one (granting 2) ∷ []) (loaded (alone (granting 2)) [] zeros) (one_run ∷ one_run ∷ one_run ∷ []))
    ≡ Some (living 1 (scored 4) ∷ living 2 (scored 7) ∷ living 2 (scored 10) ∷ vacant 2 ∷ [], 0)
unfolding computed
three_spawns = refl

-- ---- two systems despawn one entity: the second is passed over

abbrev finds : Params
finds = record (asks ((Entity ∷ Read health ∷ []) ∷ [])) { spawns = Some 0 }

abbrev despawns : Shown → List Command
despawns shown = map Despawn (entities_of shown)

despawned_twice : option_map seen (serially (plain (system finds ∷ system finds ∷ []) (0 ∷ 1 ∷ [])) (issues despawns finds ∷ issues despawns finds ∷ [])
    (loaded (plain (system finds ∷ system finds ∷ []) (0 ∷ 1 ∷ [])) ((given health (pos 1 ∷ []) ∷ []) ∷ []) zeros)
    (Start 0 ∷ Finish 0 ∷ Start 1 ∷ Finish 1 ∷ Sync 0 ∷ []))
    ≡ Some (vacant 2 ∷ [], 1)
unfolding computed
despawned_twice = refl

-- ---- removal of a kind: the entity still lives, and a second removal does nothing

abbrev finds_frozen : Params
finds_frozen = record (asks ((Entity ∷ With frozen ∷ []) ∷ [])) { spawns = Some 0 }

abbrev thaws : Shown → List Command
thaws shown = map (λ e. Remove e frozen) (entities_of shown)

thawed : option_map seen (runs_from (alone finds_frozen) (issues thaws finds_frozen ∷ []) (loaded (alone finds_frozen) ((given frozen [] ∷ []) ∷ []) zeros) (one_run ∷ one_run ∷ []))
    ≡ Some (living 1 [] ∷ [], 0)
unfolding computed
thawed = refl

-- ---- two systems that run together insert one kind: sync points apply in schedule order, whatever the list

abbrev scores : ℤ → Shown → List Command
scores n shown = map (λ e. Insert e score (n ∷ [])) (entities_of shown)

abbrev pair : Schedule
pair = plain (system finds ∷ system finds ∷ []) (0 ∷ 1 ∷ [])

abbrev scorers : List BodyMeaning
scorers = issues (scores (pos 1)) finds ∷ issues (scores (pos 2)) finds ∷ []

abbrev one_health : State
one_health = loaded pair ((given health (pos 1 ∷ []) ∷ []) ∷ []) zeros

-- the later one in schedule order is the last to write, at the tick of the sync point
abbrev last_score : List Slot × ℕ
last_score = (living 1 (new_component 1 health (pos 1 ∷ []) ∷ new_component 5 score (pos 2 ∷ []) ∷ []) ∷ [], 0)

in_order : option_map seen (woven pair scorers one_health (Start 0 ∷ Start 1 ∷ Finish 0 ∷ Finish 1 ∷ Sync 0 ∷ [])) ≡ Some last_score
unfolding computed
in_order = refl

crossed : option_map seen (woven pair scorers one_health (Start 1 ∷ Start 0 ∷ Finish 1 ∷ Finish 0 ∷ Sync 0 ∷ [])) ≡ Some last_score
unfolding computed
crossed = refl

crossed_serially : option_map seen (serially pair scorers one_health (Start 1 ∷ Start 0 ∷ Finish 1 ∷ Finish 0 ∷ Sync 0 ∷ [])) ≡ Some last_score
unfolding computed
crossed_serially = refl

-- ---- a sync point between two levels: what a system with commands spawned is seen by the system after it

abbrev pub spawner : Params
spawner = granting 1

abbrev pub counter : Params
counter = record (asks ((With score ∷ []) ∷ [])) { res_mut = total ∷ [] }

-- a body that adds to its resource how many rows its query shows
abbrev counts : BodyMeaning
counts shown = adds (pos (length (head_or [] shown.rows))) counter shown

abbrev counting : List BodyMeaning
counting = issues spawns_one spawner ∷ counts ∷ []

-- the second system stands at level 1
abbrev pub deferring : Schedule
deferring = record {
  systems = system spawner ∷ record { params = counter; predecessors = 0 ∷ []; level = 1 } ∷ [];
  conditions = [];
  syncs = 2;
  order = 0 ∷ 1 ∷ [];
  silences = [];
  sets = None;
}

seen_after_sync : option_map (λ (w : State). value_of w.world.resources total) (serially deferring counting (loaded deferring [] zeros) (Start 0 ∷ Finish 0 ∷ Sync 0 ∷ Start 1 ∷ Finish 1 ∷ Sync 1 ∷ [])) ≡ Some (pos 1)
unfolding computed
seen_after_sync = refl

-- the same order where it ignores what is deferred: one level
abbrev pub ignoring : Schedule
ignoring = plain (system spawner ∷ system_after (0 ∷ []) counter ∷ []) (0 ∷ 1 ∷ [])

not_seen_before_sync : option_map (λ (w : State). value_of w.world.resources total) (serially ignoring counting (loaded ignoring [] zeros) (Start 0 ∷ Finish 0 ∷ Start 1 ∷ Finish 1 ∷ Sync 0 ∷ [])) ≡ Some (pos 0)
unfolding computed
not_seen_before_sync = refl
