use Rattle.std.specs.Prelude.{All}
use Rattle.engine.proofs.LevelGrants.{levels_known}
use Rattle.std.proofs.Common.{◌<◌, [], sym, subst, ◌∙◌, ap, get_or, arith, length, length-append}
use Rattle.engine.proofs.EmptyLists.{nothing_more}
use Rattle.engine.proofs.deferred.Deferred.new.Goals as goal

pub spawners_of-requires : goal.spawners_of-requires
spawners_of-requires c =
    let levels = c.in_ok-levels.ensures in
    subst (λ lists. All (All (λ n. n < length c.args.built.now.systems)) lists) (sym c.deref.ensures.value) (levels_known c.args.built.now c.prove_law.ensures c.in_ok-levels.levels.items levels.count levels.each)

pub loop-system-preserved : goal.loop-system-preserved
loop-system-preserved c =
    let held = c.loop-system.invariant in
    record {
      command_count = ap length c.in_ok-push.ensures.items ∙ length-append c.loop-system.commands.items _ ∙ omega (arith, held.command_count);
      grant_count = ap length c.in_ok-push-2.ensures.items ∙ length-append c.loop-system.grants.items _ ∙ omega (arith, held.grant_count);
      no_commands = λ n. ap (λ lists. get_or lists n []) c.in_ok-push.ensures.items ∙ nothing_more c.loop-system.commands.items c.new.result c.new.ensures held.no_commands n;
      no_grants = λ n. ap (λ lists. get_or lists n []) c.in_ok-push-2.ensures.items ∙ nothing_more c.loop-system.grants.items _ c.new-in-loop-system.ensures.items held.no_grants n;
    }
