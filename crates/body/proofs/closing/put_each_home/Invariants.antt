use Rattle.std.proofs.Common.{◌≡◌, ◌++◌, List, vec_len}
use Rattle.std.specs.List.{AllByRecursion}
use Rattle.archetype_store.specs.Lending.{CanComeHome, all_home}
use Rattle.body.specs.Lent.{lent_after}
use Rattle.body.specs.Sheet.{Sheet, WritesReach}
use Rattle.body.specs.Together.{words_of_sheet}
use Rattle.body.proofs.closing.put_each_home.Given as goal

-- what is left comes home to what is there, and what the others wrote is in their columns
abbrev pub invariant-loop-query : goal.invariant-loop-query
invariant-loop-query l = record {
  can : CanComeHome (lent_after l.queries.items) l.world;
  home : all_home (lent_after l.queries.items) l.world ≡ all_home (lent_after l.initial.queries.items) l.initial.world;
  reach : (closed : List Sheet) × (l.initial.queries.items ≡ l.queries.items ++ closed) × AllByRecursion (λ (s : Sheet). WritesReach (words_of_sheet s) s.taken) closed;
}

abbrev pub decreases-loop-query : goal.decreases-loop-query
decreases-loop-query l = vec_len l.queries
