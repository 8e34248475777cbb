-- What is recorded of a run.
use Rattle.std.specs.Prelude.{ℕ, List, [], ◌∷◌, ◌++◌, get_or, Option, option_map}
use Rattle.model.specs.steps.Schedule.{Recorded}
use Rattle.model.specs.steps.Lawful.{syncs_in}

-- the kind sets recorded last, where they are recorded
abbrev pub latest_list : Recorded → Option (List ℕ)
latest_list r = option_map (λ lists. get_or lists (syncs_in r.steps) []) r.sets

-- with one more list of kind sets, where they are recorded
abbrev pub with_list : List ℕ → Option (List (List ℕ)) → Option (List (List ℕ))
with_list sets lists = option_map (λ ls. ls ++ sets ∷ []) lists
