use Rattle.std.proofs.Common.{Err, ◌+◌, sym, ap, ◌∙◌, subst, add-one}
use Rattle.archetype_store.specs.Layout.{AreAllHome}
use Rattle.model.specs.runs.RunState.{RunState}
use Rattle.model.specs.state.KindSets.{kind_sets_of}
use Rattle.engine.proofs.SameArchetypes.{kind_sets-after_grant}
use Rattle.engine.specs.Deferred.{run_with}
use Rattle.engine.specs.Stops.{CannotSync}
use Rattle.engine.proofs.LevelGrants.{can_sync_is, fresh_after, no_ids_above, synced_is}
use Rattle.engine.proofs.Stops.{grant_stops, sync_ungranted}
use Rattle.engine.proofs.deferred.Deferred.sync.Goals as goal

pub returns-in_err-grant-clause-stopped : goal.returns-in_err-grant-clause-stopped
returns-in_err-grant-clause-stopped c =
    let s = c.args.built.now in
    let p = c.args.point in
    let run = run_with c.args.state.now.state c.args.self.now in
    let mid = run_with c.finish_level.new.state.state c.finish_level.new.self in
    let done = c.in_ok-commanded.ensures in
    grant_stops (CannotSync s p run) c.in_err-grant.field-0.0 c.from_residual-in_err-grant.result c.from_residual-in_err-grant.ensures.1
    (λ e. sync_ungranted s p run done.ticked (no_ids_above s p run mid done.synced (c.in_err-grant.ensures.spent.0 (ap Err e))))

pub returns-clause-synced : goal.returns-clause-synced
returns-clause-synced c =
    synced_is c.args.built.now c.args.point (run_with c.args.state.now.state c.args.self.now) (run_with c.finish_level.new.state.state c.finish_level.new.self) c.in_ok-commanded.ensures.synced
    (run_with c.grant.new.state.state c.grant.new.self) c.in_ok-grant.ensures.granted

pub returns-clause-can : goal.returns-clause-can
returns-clause-can c =
    can_sync_is c.args.built.now c.args.point (run_with c.args.state.now.state c.args.self.now) (run_with c.finish_level.new.state.state c.finish_level.new.self) c.in_ok-commanded.ensures.synced
    c.in_ok-commanded.ensures.ticked c.in_ok-grant.ensures.has

pub returns-clause-home : goal.returns-clause-home
returns-clause-home c =
    let before = c.in_ok-commanded.ensures.home in
    record {
      home = subst AreAllHome (sym c.in_ok-grant.ensures.layout) before.home;
      suits = c.in_ok-grant.ensures.suits;
      ids = c.in_ok-grant.ensures.in_hand before.ids
          (λ n above. fresh_after c.args.built.now c.args.point (run_with c.args.state.now.state c.args.self.now) (run_with c.finish_level.new.state.state c.finish_level.new.self) c.in_ok-commanded.ensures.synced
          n (c.requires.fresh n (above ∙ add-one c.args.point)));
    }

pub returns-clause-quiet : goal.returns-clause-quiet
returns-clause-quiet c = λ quiet.
    ap (λ (run : RunState). kind_sets_of run.state.world.slots) c.in_ok-grant.ensures.granted
    ∙ kind_sets-after_grant c.args.built.now (c.args.point + 1) (run_with c.finish_level.new.state.state c.finish_level.new.self)
    ∙ c.in_ok-commanded.ensures.quiet quiet
