-- What a condition asks about, added to parameters.
use Rattle.std.specs.Prelude.{◌++◌}
use Rattle.model.specs.access.Access.{Params}
use Rattle.model.specs.access.Condition.{Condition, queries_of, resources_of, events_of}

-- the parameters with what the condition asks about behind them, all of it read
abbrev pub with_access : Params → Condition → Params
with_access p c = record p { queries = p.queries ++ queries_of c; res = p.res ++ resources_of c; reads = p.reads ++ events_of c }
