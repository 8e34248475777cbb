use denote.Param.Send.{sendable}
use Rattle.std.proofs.Common.{sym, subst, ◌∙◌}
use Rattle.engine.specs.Deferred.{IsDeferredFor}
use Rattle.engine.specs.Meanings.{meanings}
use Rattle.engine.proofs.RunKept.{keep_again, suits_again, worker_there}
use Rattle.engine.proofs.engine.Engine.run_kept.Goals as goal

pub put_back-requires-clause-suits : goal.put_back-requires-clause-suits
put_back-requires-clause-suits g c κs lives =
    let value = c.args.self.now in
    let later = c.run.new.self in
    let mode = c.keeping-keeping.result in
    let bodies = meanings g.B.Body.meaning value.schedule value.bodies in
    let unspoiled = sym c.is_spoiled.ensures.value ∙ c.if-is_spoiled.false in
    suits_again value.schedule later.schedule later.bodies value.bodies c.in-Err.ensures.schedule g.B.Body.fits value.state c.in_ok-spare.spare.state c.in_ok-spare.ensures.state
    (c.in-Err.ensures.fit (λ e. c.keeping-keeping.ensures.stands ∙ worker_there (g.M.SpawnThreads.has_scope mode) (g.M.Mode.width mode) value.schedule bodies c.args.times value.state c.in-Err.fault c.in-Err.ensures.stopped e) unspoiled) (c.is_spoiled.ensures.suits unspoiled)

pub put_back-requires-clause-keep : goal.put_back-requires-clause-keep
put_back-requires-clause-keep g c κs lives =
    let value = c.args.self.now in
    let later = c.run.new.self in
    let mode = c.keeping-keeping.result in
    let bodies = meanings g.B.Body.meaning value.schedule value.bodies in
    let unspoiled = sym c.is_spoiled.ensures.value ∙ c.if-is_spoiled.false in
    keep_again value.schedule later.schedule later.bodies value.bodies c.in-Err.ensures.schedule g.B.Body.meaning
    (c.in-Err.ensures.meanings (λ e. c.keeping-keeping.ensures.stands ∙ worker_there (g.M.SpawnThreads.has_scope mode) (g.M.Mode.width mode) value.schedule bodies c.args.times value.state c.in-Err.fault c.in-Err.ensures.stopped e)) (c.is_spoiled.ensures.keep unspoiled)

pub put_back-requires-clause-deferred : goal.put_back-requires-clause-deferred
put_back-requires-clause-deferred g c κs lives =
    subst (λ s. IsDeferredFor s c.in_ok-spare.spare.deferred) (sym c.in-Err.ensures.schedule) c.in_ok-spare.ensures.deferred

pub run-requires : goal.run-requires
run-requires g c k = search sendable depth 40
