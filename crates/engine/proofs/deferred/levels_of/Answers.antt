use Rattle.std.proofs.Common.{◌≡◌, ◌<◌, ◌+◌, ◌++◌, ◌∷◌, ℕ, List, [], set, take, ap, subst, ◌∙◌, length, get_or, sym, arith}
use Rattle.std.proofs.lemmas.List.{length-set}
use Rattle.model.specs.Lists.{IsIn}
use Rattle.model.proofs.lists.Lists.{has-IsIn}
use Rattle.model.specs.steps.Schedule.{Schedule, level_of}
use Rattle.model.specs.steps.Built.{IsBuilt}
use Rattle.access_set.proofs.Choices.{in_at as in-get_or}
use Rattle.engine.proofs.LevelSystems.{AreLevelsOf, level_more}
use Rattle.engine.proofs.deferred.levels_of.Goals as goal

-- what stands in the order is a system
listed-known : (s : Schedule) (items : List ℕ) (i : ℕ) → IsBuilt s → items ≡ s.order → i < length items → get_or items i 0 < length s.systems
listed-known s items i built same within = built.known (get_or items i 0) (has-IsIn (get_or items i 0) s.order (subst (IsIn (get_or items i 0)) same (in-get_or items i 0 within)))

pub level-requires : goal.level-requires
level-requires c = listed-known c.args.built.now c.order-system-items.result.now c.loop-system.system-index c.prove_law.ensures c.order-system-items.ensures c.loop-system-test.true

pub index_mut-level-requires : goal.index_mut-level-requires
index_mut-level-requires c =
    let known = listed-known c.args.built.now c.order-system-items.result.now c.loop-system.system-index c.prove_law.ensures c.order-system-items.ensures c.loop-system-test.true in
    let below = c.prove_law.ensures.levels (get_or c.order-system-items.result.now c.loop-system.system-index 0) known in
    omega (arith, c.level.ensures, c.loop-system.levels.ok.0, c.loop-system.invariant.count)

pub loop-system-preserved : goal.loop-system-preserved
loop-system-preserved c =
    let s = c.args.built.now in
    let items = c.order-system-items.result.now in
    let lists = c.loop-system.levels.items in
    let i = c.loop-system.system-index in
    let known = listed-known s items i c.prove_law.ensures c.order-system-items.ensures c.loop-system-test.true in
    let below = c.prove_law.ensures.levels (get_or items i 0) known in
    let held = subst (λ (order : List ℕ). AreLevelsOf (level_of s) (take i order) lists) (sym c.order-system-items.ensures) c.loop-system.invariant.each in
    record {
      count = length-set lists c.level.result c.push.new.self.items ∙ c.loop-system.invariant.count;
      each = subst (λ (order : List ℕ). AreLevelsOf (level_of s) (take (i + 1) order) (set lists c.level.result c.push.new.self.items)) c.order-system-items.ensures
          (level_more (level_of s) items lists i 0 c.level.result c.index_mut-level.result.now c.push.new.self.items c.loop-system-test.true c.level.ensures
          (omega (arith, c.level.ensures, c.loop-system.invariant.count)) c.index_mut-level.ensures.value
          (c.in_ok-push.ensures.items ∙ ap (λ xs. xs ++ get_or items i 0 ∷ []) c.level-in-loop-system.view_is) held);
    }
