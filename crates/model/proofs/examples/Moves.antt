-- A system that moves an entity: one run and three runs.
use Rattle.std.proofs.Common.{◌≡◌, ℕ, ℤ, pos, negsuc, ◌+ℤ◌, List, [], ◌∷◌, Option, Some, None, refl}
use Rattle.model.specs.declared.steps.Step.{Step}
use Rattle.model.specs.declared.steps.Step.TheVariants.{Start, Finish, Sync}
use Rattle.model.specs.state.State.{State}
use Rattle.model.specs.state.State.Status.{Living}
use Rattle.model.specs.access.Query.Term.{Mut, Read}
use Rattle.model.specs.access.Access.{Params}
use Rattle.model.specs.shown.Outcome.{BodyMeaning}
use Rattle.model.specs.steps.Schedule.{Schedule}
use Rattle.model.specs.state.Loaded.{loaded}
use Rattle.model.proofs.examples.Bodies.{position, velocity, asks, system, plain, given, zeros, changes, serially, woven, runs_from, computed}

-- the sum of two words at each place
abbrev sum_words : List ℤ → List ℤ → List ℤ
sum_words [] ys = []
sum_words (x ∷ xs) [] = []
sum_words (x ∷ xs) (y ∷ ys) = (x +ℤ y) ∷ sum_words xs ys

abbrev moved : List (Option (List ℤ)) → List (Option (List ℤ))
moved (Some p ∷ Some v ∷ vs) = Some (sum_words p v) ∷ None ∷ []
moved _ = []

abbrev params : Params
params = asks ((Mut position ∷ Read velocity ∷ []) ∷ [])

abbrev schedule : Schedule
schedule = plain (system params ∷ []) (0 ∷ [])

abbrev bodies : List BodyMeaning
bodies = changes moved params ∷ []

abbrev start : State
start = loaded schedule ((given velocity (pos 1 ∷ negsuc 1 ∷ []) ∷ given position (pos 0 ∷ pos 0 ∷ []) ∷ []) ∷ []) zeros

abbrev run_list : List Step
run_list = Start 0 ∷ Finish 0 ∷ Sync 0 ∷ []

-- the state where Position is x, y, last changed at a tick, and the last run and the clock are these
abbrev at : ℤ → ℤ → ℕ → ℕ → State
at x y changed clock = record {
  world = record {
    slots = record {
      generation = 1;
      status = Living;
      row =
          record { kind = position; cell = record { words = x ∷ y ∷ []; added = 1; changed = changed } }
          ∷ record { kind = velocity; cell = record { words = pos 1 ∷ negsuc 1 ∷ []; added = 1; changed = 1 } } ∷ [];
    } ∷ [];
    resources = start.world.resources;
    clock = clock;
  };
  events = start.events;
  systems = record { last_run = changed; cursors = []; registers = zeros } ∷ [];
  conditions = [];
  passed_over = 0;
}

-- one run moves the entity: opening at tick 2, start at 3, sync point at 4
one_run : serially schedule bodies start run_list ≡ Some (at (pos 1) (negsuc 1) 3 4)
unfolding computed
one_run = refl

-- three runs: clock 10, Position added at 1 and changed at 9
three_runs : runs_from schedule bodies start (run_list ∷ run_list ∷ run_list ∷ []) ≡ Some (at (pos 3) (negsuc 5) 9 10)
unfolding computed
three_runs = refl

-- the interleaved run leaves the same
woven_run : woven schedule bodies start run_list ≡ Some (at (pos 1) (negsuc 1) 3 4)
unfolding computed
woven_run = refl
