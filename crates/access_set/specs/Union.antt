-- What two systems touch together.
use Rattle.std.specs.Prelude.{◌++◌}
use Rattle.model.specs.access.Access.{Params}

-- the queries, resources and event kinds of the one, then those of the other; the ids are those of the one
abbrev pub union : Params → Params → Params
union a b = record {
  queries = a.queries ++ b.queries;
  res = a.res ++ b.res;
  res_mut = a.res_mut ++ b.res_mut;
  reads = a.reads ++ b.reads;
  writes = a.writes ++ b.writes;
  spawns = a.spawns;
}
