use Rattle.std.proofs.Common.{◌≡◌}
use Rattle.model.specs.access.Access.{no_params}
use Rattle.program.proofs.schedule.params_of.Given as goal

-- the queries so far, the count of ids, and nothing else
abbrev pub invariant-loop-query : goal.invariant-loop-query
invariant-loop-query l = l.params ≡ record no_params { queries = l.yielded; spawns = l.fn.spawns }
