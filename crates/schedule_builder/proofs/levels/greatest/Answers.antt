use Rattle.std.proofs.Common.{◌≡◌, ◌+◌, ◌⊎◌, ℕ, get_or, subst, arith}
use Rattle.schedule_builder.proofs.LevelSteps.{greatest_none, greatest_more, greatest_all}
use Rattle.schedule_builder.proofs.levels.greatest.Goals as goal

pub loop-system-init : goal.loop-system-init
loop-system-init c = greatest_none c.args.start c.args.systems.now c.args.levels.now c.args.added

pub loop-system-preserved : goal.loop-system-preserved
loop-system-preserved c =
    let i : ℕ = c.loop-system.system-index in
    let xs = c.args.systems.now in
    let levels = c.args.levels.now in
    let read : c.level_in.result ≡ get_or levels (get_or xs i 0) 0 = c.level_in.ensures in
    greatest_more c.args.start xs levels c.args.added c.loop-system.level c.greater-level.result i 0 (omega arith) c.loop-system.invariant c.greater-level.ensures.first (omega (arith, read, c.greater-level.ensures.second))
    (subst (λ (x : ℕ). (c.greater-level.result ≡ c.loop-system.level) ⊎ (c.greater-level.result ≡ x + c.args.added)) read c.greater-level.ensures.either)

pub returns : goal.returns
returns c = greatest_all c.args.start c.args.systems.now c.args.levels.now c.args.added c.loop-system.level c.loop-system.system-index (omega arith) c.loop-system.invariant
