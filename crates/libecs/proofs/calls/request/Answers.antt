use Rattle.std.proofs.Common.{Option, subst}
use Rattle.live_world.specs.declared.live_world.LiveWorld.{LiveWorld}
use Rattle.live_world.specs.Sent.{HasAsked, told_in}
use Rattle.libecs.specs.Calls.{HasAnswered, HasTold}
use Rattle.libecs.specs.Handle.{world_in}
use Rattle.libecs.proofs.calls.request.Goals as goal

pub returns : goal.returns
returns c =
    subst (λ (old : Option LiveWorld). HasAnswered c.args.sent.now old (world_in c.of.result) (c.args.out.now, c.tell-status.new.out) c.tell-status.new.wanted c.tell-status.result) c.in-Some.ensures.taken (record {
      after = c.ask.new.self;
      is = c.of.ensures;
      asked = subst (λ (before : LiveWorld). HasAsked c.args.sent.now before c.ask.new.self) c.deref_mut.ensures.value c.ask.ensures;
      told = subst (λ (after : LiveWorld). HasTold (told_in after) (c.args.out.now, c.tell-status.new.out) c.tell-status.new.wanted c.tell-status.result) c.deref.ensures c.tell-status.ensures;
    })
