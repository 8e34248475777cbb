use Rattle.std.proofs.Common.{◌≡◌, List, [], refl, sym, subst, arith}
use Rattle.std.proofs.lemmas.Bool.{false≢true}
use Rattle.worker_pool.specs.JobOut.{JobOut}
use Rattle.engine.specs.Jobs.{AreKept}
use Rattle.engine.proofs.SystemFinish.{back_from, kept_back, job_there}
use Rattle.engine.proofs.LevelGrants.{no_elements}
use denote.Param.Send.{sendable}
use Rattle.engine.proofs.jobs.bring_home.Goals as goal

pub loop-jobs-preserved : goal.loop-jobs-preserved
loop-jobs-preserved g c = λ s bodies kept.
    let meaning = g.B.Body.meaning in
    let fits = g.B.Body.fits in
    let there = g.M.SpawnThreads.has_scope c.args.mode.now in
    let done = c.in-Some.done in
    let slots = c.loop-jobs.jobs.bodies in
    let out = c.loop-jobs.jobs.pool in
    let ran = c.in-Some.ensures.ran in
    let back = back_from meaning fits out c.bring_back.new.self done.number done.system done.body done.view.value done.answer ran.0 ran.1 ran.2 in
    subst (λ xs. AreKept meaning fits there s bodies xs c.bring_back.new.self) (sym c.put.ensures)
    (kept_back meaning fits out c.bring_back.new.self done.number done.system done.body done.view.value done.answer there s bodies slots back (c.loop-jobs.invariant s bodies kept))

pub returns-in_default-clause-lost : goal.returns-in_default-clause-lost
returns-in_default-clause-lost g c =
    let there = g.M.SpawnThreads.has_scope c.args.mode.now in
    let none = c.in_default.ensures.none in
    (refl, λ s bodies kept. false≢true (c.in_default.ensures.joins (c.prove_waits.ensures (job_there g.B.Body.meaning g.B.Body.fits there s bodies c.loop-jobs.jobs.bodies c.loop-jobs.jobs.pool (c.loop-jobs.invariant s bodies kept) none.0 none.1))))

pub returns-clause-kept : goal.returns-clause-kept
returns-clause-kept g c = λ s bodies kept.
    let out = c.loop-jobs.jobs.pool in
    let none : out ≡ [] = no_elements out (let a = c.count.ensures in let b = c.loop-jobs-test.false in omega arith) in
    subst (λ (xs : List (JobOut g.row.B.Denot)). AreKept g.B.Body.meaning g.B.Body.fits (g.M.SpawnThreads.has_scope c.args.mode.now) s bodies c.loop-jobs.jobs.bodies xs) none (c.loop-jobs.invariant s bodies kept)

pub bring_back-requires : goal.bring_back-requires
bring_back-requires g c = λ lifetimes.
    (search sendable depth 40, (search sendable depth 40, (search sendable depth 40, (search sendable depth 40, ((refl, tt), (let e = c.count.ensures in let more = c.loop-jobs-test.true in omega arith))))))
