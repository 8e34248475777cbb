use Rattle.std.proofs.Common.{◌≡◌, map, vec_len}
use Rattle.archetype_store.specs.Lending.{CanComeHome, all_home}
use Rattle.body.specs.HeldColumns.{held_seen}
use Rattle.body.specs.Lent.{lent_of}
use Rattle.body.proofs.closing.put_columns.Given as goal

-- what is left comes home to what is there
abbrev pub invariant-loop-held : goal.invariant-loop-held
invariant-loop-held l = record {
  can : CanComeHome (lent_of (map held_seen l.columns.items)) l.world;
  home : all_home (lent_of (map held_seen l.columns.items)) l.world ≡ all_home (lent_of (map held_seen l.initial.columns.items)) l.initial.world;
}

abbrev pub decreases-loop-held : goal.decreases-loop-held
decreases-loop-held l = vec_len l.columns
