-- What the systems of a schedule have deferred for the sync points of their levels: the commands of those that finished, and the ids granted to each.
use Rattle.std.specs.Prelude.{ℕ, ◌<◌, ◌≡◌, List, [], ◌∷◌, length, map, filter, set, get_or, flat_map}
use Rattle.std.specs.Option.{is_some}
use Rattle.model.specs.Lists.{IsIn}
use Rattle.model.specs.declared.entities.Entity.{Entity}
use Rattle.model.specs.state.State.{Slot, State}
use Rattle.model.specs.shown.Outcome.{Command, AreSpawns, spawned_by}
use Rattle.model.specs.steps.Schedule.{Schedule, params_of}
use Rattle.model.specs.runs.RunState.{RunState, spawns_of, systems_of_level}
use Rattle.entity_table.specs.Ids.{IsGranted}

-- systems with commands, and how many ids each of them is granted
pub record SpawnersValue : Type 0 where
  pub systems : List ℕ
  pub counts : List ℕ

-- those of these systems that have commands
abbrev pub spawners_among : Schedule → List ℕ → SpawnersValue
spawners_among s ns = record {
  systems = filter (λ n. is_some (params_of s n).spawns) ns;
  counts = map (spawns_of s) (filter (λ n. is_some (params_of s n).spawns) ns);
}

-- none of a level past the last
abbrev pub no_spawners : SpawnersValue
no_spawners = record { systems = []; counts = [] }

-- the systems of each level in schedule order, those of them that have commands, and by system its commands and its ids
pub record DeferredValue : Type 0 where
  pub levels : List (List ℕ)
  pub spawners : List SpawnersValue
  pub commands : List (List Command)
  pub grants : List (List Entity)

-- nothing deferred, for no schedule
abbrev pub nothing_deferred : DeferredValue
nothing_deferred = record { levels = []; spawners = []; commands = []; grants = [] }

-- the commands of a system, and the ids granted to it
abbrev pub commands_at : DeferredValue → ℕ → List Command
commands_at deferred n = get_or deferred.commands n []

abbrev pub grants_at : DeferredValue → ℕ → List Entity
grants_at deferred n = get_or deferred.grants n []

-- the run state of a state with what is deferred
abbrev pub run_with : State → DeferredValue → RunState
run_with state deferred = record { state = state; buffers = commands_at deferred; grants = grants_at deferred }

-- with the commands of a system, or the ids granted to it, replaced
abbrev pub with_commands : ℕ → List Command → DeferredValue → DeferredValue
with_commands n commands deferred = record { levels = deferred.levels; spawners = deferred.spawners; commands = set deferred.commands n commands; grants = deferred.grants }

abbrev pub with_grants : ℕ → List Entity → DeferredValue → DeferredValue
with_grants n ids deferred = record { levels = deferred.levels; spawners = deferred.spawners; commands = deferred.commands; grants = set deferred.grants n ids }

-- the ids of each system, with these noted at these systems
abbrev pub noted_each : List ℕ → List (List Entity) → List (List Entity) → List (List Entity)
noted_each [] given grants = grants
noted_each (n ∷ ns) [] grants = grants
noted_each (n ∷ ns) (ids ∷ given) grants = noted_each ns given (set grants n ids)

-- with the ids granted to these systems replaced
abbrev pub with_each_grant : List ℕ → List (List Entity) → DeferredValue → DeferredValue
with_each_grant ns given deferred = record {
  levels = deferred.levels;
  spawners = deferred.spawners;
  commands = deferred.commands;
  grants = noted_each ns given deferred.grants;
}

-- the lists by system with those of these systems emptied
abbrev pub emptied : {A : Type 0} → List ℕ → List (List A) → List (List A)
emptied [] lists = lists
emptied (n ∷ ns) lists = emptied ns (set lists n [])

-- the ids granted to these systems, one system after the other
abbrev pub grants_of : List (List Entity) → List ℕ → List Entity
grants_of grants ns = flat_map (λ n. get_or grants n []) ns

-- it is for a schedule: there is a place for each system, of each level its systems in schedule order, and those of them that have commands
pub record IsDeferredFor (s : Schedule) (deferred : DeferredValue) : Type 0 where
  pub command_count : length deferred.commands ≡ length s.systems
  pub grant_count : length deferred.grants ≡ length s.systems
  pub level_count : length deferred.levels ≡ s.syncs
  pub levels_are : (k : ℕ) → k < s.syncs → get_or deferred.levels k [] ≡ systems_of_level s k
  pub spawners_are : deferred.spawners ≡ map (spawners_among s) deferred.levels

-- nothing is deferred
pub record IsNothingDeferred (deferred : DeferredValue) : Type 0 where
  pub no_commands : (n : ℕ) → commands_at deferred n ≡ []
  pub no_grants : (n : ℕ) → grants_at deferred n ≡ []

-- the ids in hand: each is granted still, none to two systems, and what the commands of a system spawn is of its own, none twice
pub record AreInHand (slots : List Slot) (deferred : DeferredValue) : Type 0 where
  pub granted : (n : ℕ) (e : Entity) → IsIn e (grants_at deferred n) → IsGranted slots e
  pub apart : (n m : ℕ) (e : Entity) → IsIn e (grants_at deferred n) → IsIn e (grants_at deferred m) → n ≡ m
  pub spawns : (n : ℕ) → AreSpawns (grants_at deferred n) (spawned_by (commands_at deferred n))
