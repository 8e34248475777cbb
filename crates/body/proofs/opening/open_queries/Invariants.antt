use Rattle.std.proofs.Common.{◌≡◌, ◌≤◌, length, take, vec_len}
use Rattle.std.specs.Prelude.{vec_capacity}
use Rattle.body.specs.KeptPlans.{forms_of, AreOver}
use Rattle.body.proofs.QueryOpens.{AreOpened}
use Rattle.body.proofs.opening.open_queries.Given as goal

-- the queries so far are open, and there is room for all
abbrev pub invariant-loop-query : goal.invariant-loop-query
invariant-loop-query l = record {
  opened : AreOpened l.tick l.last_run l.initial.world (take l.query-index l.queries) l.opened.items l.world;
  many : vec_len l.opened ≡ l.query-index;
  room : length l.queries ≤ vec_capacity l.opened;
  planned : AreOver (forms_of l.initial.world.layout) l.plans.items;
}
