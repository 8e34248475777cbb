-- What a system or condition may touch: its queries, and the resources and event kinds that it reads and writes.
use Rattle.std.specs.Prelude.{ℕ, Bool, ◌||◌, List, [], Option, None}
use Rattle.std.specs.List.{list_any}
use Rattle.model.specs.Lists.{has}
use Rattle.model.specs.access.Query.{Term, is_filter}

-- the parameters of a system: queries, resources read (`Res`) and written (`ResMut`), event kinds read and written, and,
-- where it has commands, how many ids it is granted in a run
pub record Params : Type 0 where
  pub queries : List (List Term)
  pub res : List ℕ
  pub res_mut : List ℕ
  pub reads : List ℕ
  pub writes : List ℕ
  pub spawns : Option ℕ

-- the parameters of nothing
abbrev pub no_params : Params
no_params = record { queries = []; res = []; res_mut = []; reads = []; writes = []; spawns = None }

-- whether a resource is named
abbrev pub names_resource : Params → ℕ → Bool
names_resource a number = has number a.res || has number a.res_mut

-- whether an event kind is named
abbrev pub names_event : Params → ℕ → Bool
names_event a kind = has kind a.reads || has kind a.writes

-- whether some query has an `added` or `changed` term
abbrev pub has_filter : Params → Bool
has_filter a = list_any (λ query. list_any is_filter query) a.queries
