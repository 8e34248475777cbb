use Rattle.lints.specs.Collected.{Adds, Among}
use Rattle.lints.specs.Lints.{IsOfQueries}
use Rattle.lints.proofs.queries.add_of_queries.Given as goal

-- what is found of the numbers so far is added
abbrev pub invariant-loop-query : goal.invariant-loop-query
invariant-loop-query l = Adds (Among l.query (IsOfQueries l.blocks l.present l.system l.queries)) l.initial.found.items l.found.items
