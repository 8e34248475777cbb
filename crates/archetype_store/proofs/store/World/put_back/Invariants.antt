use Rattle.archetype_store.proofs.Common.{◌≡◌, vec_len, CanComeHome, all_home}
use Rattle.archetype_store.proofs.store.World.put_back.Given as goal

-- what is left comes home to what is there
abbrev pub invariant-loop-taken : goal.invariant-loop-taken
invariant-loop-taken l = record {
  can : CanComeHome l.columns.items l.self;
  home : all_home l.columns.items l.self ≡ all_home l.initial.columns.items l.initial.self;
}

abbrev pub decreases-loop-taken : goal.decreases-loop-taken
decreases-loop-taken l = vec_len l.columns
