use Rattle.std.proofs.Common.{◌≤◌, inl, inr, ℕ, get_or, arith}
use Rattle.schedule_builder.proofs.LevelSteps.{syncs_none, syncs_more, syncs_all}
use Rattle.schedule_builder.proofs.levels.syncs_of.Goals as goal

pub loop-level-init : goal.loop-level-init
loop-level-init c = record { syncs = syncs_none c.args.levels.now; few = omega arith }

pub loop-level-preserved : goal.loop-level-preserved
loop-level-preserved c =
    let i : ℕ = c.loop-level.level-index in
    let low : get_or c.args.levels.now i 0 ≤ 256 = c.requires i in
    record {
      syncs = syncs_more c.args.levels.now i 0 c.loop-level.syncs c.greater-syncs.result (omega arith) c.loop-level.invariant.syncs c.greater-syncs.ensures.first c.greater-syncs.ensures.second c.greater-syncs.ensures.either;
      few = elim c.greater-syncs.ensures.either [ inl e ↦ omega (arith, c.loop-level.invariant.few) | inr e ↦ omega (arith, e, low) ];
    }

pub returns-clause-syncs : goal.returns-clause-syncs
returns-clause-syncs c = syncs_all c.args.levels.now c.loop-level.level-index c.loop-level.syncs (omega arith) c.loop-level.invariant.syncs
