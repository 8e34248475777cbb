use Rattle.std.proofs.Common.{◌≡◌, ◌<◌, List, length, Some, sym, subst, arith}
use Rattle.std.proofs.lemmas.Bool.{false≢true}
use Rattle.model.specs.declared.steps.Step.TheVariants.{Finish}
use Rattle.model.specs.runs.Causes.{interleaved_cause_of}
use Rattle.model.specs.Lists.{IsIn}
use Rattle.model.specs.runs.Meaning.{interleaved_step}
use Rattle.worker_pool.specs.JobOut.{JobOut}
use Rattle.engine.specs.Jobs.{woven, AreKept, InHand, Placed}
use Rattle.engine.specs.Deferred.{DeferredValue}
use Rattle.engine.specs.Stops.{IsNotLaid, StopsBy}
use Rattle.engine.proofs.JobsOut.{placed_kept}
use Rattle.engine.proofs.SystemFinish.{back_from, back_in, back_known, back_memory, back_lent, back_past, back_not_laid, back_finished, back_in_hand, back_placed, kept_back, job_there}
use Rattle.engine.proofs.Stops.{stops_among}
use Rattle.model.specs.shown.Outcome.{BodyMeaning}
use Rattle.engine.proofs.jobs.finish.Goals as goal
use Rattle.model.proofs.lists.Results.{handed_on}

pub close-requires-clause-memory : goal.close-requires-clause-memory
close-requires-clause-memory g c =
    let done = c.in-Some.done in
    let meaning = g.B.Body.meaning in
    let fits = g.B.Body.fits in
    let there = g.M.SpawnThreads.has_scope c.args.mode.now in
    let s = c.args.built.now in
    let slots = c.args.jobs.now.bodies in
    let out = c.args.jobs.now.pool in
    let w = c.args.run.now.state in
    let rest = c.bring_back.new.self in
    let ran = c.in-Some.ensures.ran in
    let seen = done.view.value in
    let back = back_from meaning fits out rest done.number done.system done.body seen done.answer ran.0 ran.1 ran.2 in
    let placed = c.requires.placed in
    back_memory meaning fits out rest done.number done.system done.body seen done.answer there s placed.0 slots w back placed.1

pub close-requires-clause-place : goal.close-requires-clause-place
close-requires-clause-place g c =
    let done = c.in-Some.done in
    let meaning = g.B.Body.meaning in
    let fits = g.B.Body.fits in
    let there = g.M.SpawnThreads.has_scope c.args.mode.now in
    let s = c.args.built.now in
    let slots = c.args.jobs.now.bodies in
    let out = c.args.jobs.now.pool in
    let w = c.args.run.now.state in
    let rest = c.bring_back.new.self in
    let ran = c.in-Some.ensures.ran in
    let seen = done.view.value in
    let back = back_from meaning fits out rest done.number done.system done.body seen done.answer ran.0 ran.1 ran.2 in
    let placed = c.requires.placed in
    let k = back_known meaning fits out rest done.number done.system done.body seen done.answer there s placed.0 slots w back placed.1 in
    let e = c.requires.suits.command_count in
    omega (arith, k, e)

pub close-requires-clause-lent : goal.close-requires-clause-lent
close-requires-clause-lent g c =
    let done = c.in-Some.done in
    let meaning = g.B.Body.meaning in
    let fits = g.B.Body.fits in
    let there = g.M.SpawnThreads.has_scope c.args.mode.now in
    let s = c.args.built.now in
    let slots = c.args.jobs.now.bodies in
    let out = c.args.jobs.now.pool in
    let w = c.args.run.now.state in
    let rest = c.bring_back.new.self in
    let ran = c.in-Some.ensures.ran in
    let seen = done.view.value in
    let back = back_from meaning fits out rest done.number done.system done.body seen done.answer ran.0 ran.1 ran.2 in
    let placed = c.requires.placed in
    back_lent meaning fits out rest done.number done.system done.body seen done.answer there s placed.0 slots w back placed.1

pub close-requires-clause-past : goal.close-requires-clause-past
close-requires-clause-past g c =
    let done = c.in-Some.done in
    let meaning = g.B.Body.meaning in
    let fits = g.B.Body.fits in
    let there = g.M.SpawnThreads.has_scope c.args.mode.now in
    let s = c.args.built.now in
    let slots = c.args.jobs.now.bodies in
    let out = c.args.jobs.now.pool in
    let w = c.args.run.now.state in
    let rest = c.bring_back.new.self in
    let ran = c.in-Some.ensures.ran in
    let seen = done.view.value in
    let back = back_from meaning fits out rest done.number done.system done.body seen done.answer ran.0 ran.1 ran.2 in
    let placed = c.requires.placed in
    back_past meaning fits out rest done.number done.system done.body seen done.answer there s placed.0 slots w back placed.1

pub returns-in_default-clause-stopped : goal.returns-in_default-clause-stopped
returns-in_default-clause-stopped g c = λ bodies placed.
    let meaning = g.B.Body.meaning in
    let fits = g.B.Body.fits in
    let there = g.M.SpawnThreads.has_scope c.args.mode.now in
    let s = c.args.built.now in
    let slots = c.args.jobs.now.bodies in
    let out = c.args.jobs.now.pool in
    let none = c.in_default.ensures.none in
    job_there meaning fits there s bodies slots out (placed_kept meaning fits there s bodies slots out c.args.run.now.state placed) none.0 none.1

-- a job that is out in a thread can be waited for
pub returns-in_default-clause-kept : goal.returns-in_default-clause-kept
returns-in_default-clause-kept g c = λ bodies placed.
    let meaning = g.B.Body.meaning in
    let fits = g.B.Body.fits in
    let there = g.M.SpawnThreads.has_scope c.args.mode.now in
    let s = c.args.built.now in
    let slots = c.args.jobs.now.bodies in
    let out = c.args.jobs.now.pool in
    let none = c.in_default.ensures.none in
    absurd (false≢true (c.in_default.ensures.joins (c.prove_waits.ensures (job_there meaning fits there s bodies slots out (placed_kept meaning fits there s bodies slots out c.args.run.now.state placed) none.0 none.1))))

pub returns-clause-running : goal.returns-clause-running
returns-clause-running g c =
    let done = c.in-Some.done in
    let meaning = g.B.Body.meaning in
    let fits = g.B.Body.fits in
    let there = g.M.SpawnThreads.has_scope c.args.mode.now in
    let s = c.args.built.now in
    let slots = c.args.jobs.now.bodies in
    let out = c.args.jobs.now.pool in
    let w = c.args.run.now.state in
    let rest = c.bring_back.new.self in
    let ran = c.in-Some.ensures.ran in
    let seen = done.view.value in
    let back = back_from meaning fits out rest done.number done.system done.body seen done.answer ran.0 ran.1 ran.2 in
    (back.job, back_in meaning fits out rest done.number done.system done.body seen done.answer there s c.requires.placed.0 slots w back c.requires.placed.1, sym back.ran.same_system)

pub returns-clause-finished : goal.returns-clause-finished
returns-clause-finished g c = λ bodies placed.
    let done = c.in-Some.done in
    let meaning = g.B.Body.meaning in
    let fits = g.B.Body.fits in
    let there = g.M.SpawnThreads.has_scope c.args.mode.now in
    let s = c.args.built.now in
    let slots = c.args.jobs.now.bodies in
    let out = c.args.jobs.now.pool in
    let w = c.args.run.now.state in
    let rest = c.bring_back.new.self in
    let ran = c.in-Some.ensures.ran in
    let seen = done.view.value in
    let back = back_from meaning fits out rest done.number done.system done.body seen done.answer ran.0 ran.1 ran.2 in
    let ok = c.in_ok-close.ensures in
    let deferred = c.args.run.now.deferred in
    let place : done.system < length deferred.commands = let k = back_known meaning fits out rest done.number done.system done.body seen done.answer there s bodies slots w back placed in let e = c.requires.suits.command_count in omega (arith, k, e) in
    subst (λ (x : DeferredValue). interleaved_step s bodies (Finish done.system) (woven w.state deferred out) ≡ Some (woven c.close.new.self.state.state x rest)) (sym ok.deferred)
    (back_finished meaning fits out rest done.number done.system done.body seen done.answer there s bodies slots w back placed c.close.new.self.state ok.answer ok.numbers ok.laid ok.held deferred place)

pub returns-clause-placed : goal.returns-clause-placed
returns-clause-placed g c = λ bodies placed.
    let done = c.in-Some.done in
    let meaning = g.B.Body.meaning in
    let fits = g.B.Body.fits in
    let there = g.M.SpawnThreads.has_scope c.args.mode.now in
    let s = c.args.built.now in
    let slots = c.args.jobs.now.bodies in
    let out = c.args.jobs.now.pool in
    let w = c.args.run.now.state in
    let rest = c.bring_back.new.self in
    let ran = c.in-Some.ensures.ran in
    let seen = done.view.value in
    let back = back_from meaning fits out rest done.number done.system done.body seen done.answer ran.0 ran.1 ran.2 in
    let ok = c.in_ok-close.ensures in
    subst (λ xs. Placed meaning fits there s bodies xs rest c.close.new.self.state) (sym c.put.ensures)
    (back_placed meaning fits out rest done.number done.system done.body seen done.answer there s bodies slots w back placed c.close.new.self.state ok.answer ok.numbers ok.laid ok.held)

pub returns-clause-hand : goal.returns-clause-hand
returns-clause-hand g c = λ bodies placed keep hand.
    let done = c.in-Some.done in
    let meaning = g.B.Body.meaning in
    let fits = g.B.Body.fits in
    let there = g.M.SpawnThreads.has_scope c.args.mode.now in
    let s = c.args.built.now in
    let slots = c.args.jobs.now.bodies in
    let out = c.args.jobs.now.pool in
    let w = c.args.run.now.state in
    let rest = c.bring_back.new.self in
    let ran = c.in-Some.ensures.ran in
    let seen = done.view.value in
    let back = back_from meaning fits out rest done.number done.system done.body seen done.answer ran.0 ran.1 ran.2 in
    let ok = c.in_ok-close.ensures in
    subst (λ (x : DeferredValue). InHand s x rest c.close.new.self.state) (sym ok.deferred)
    (back_in_hand meaning fits out rest done.number done.system done.body seen done.answer there s bodies slots w back placed c.close.new.self.state ok.answer ok.numbers ok.laid ok.held c.args.run.now.deferred keep hand)

pub returns-in_err-close-clause-stopped : goal.returns-in_err-close-clause-stopped
returns-in_err-close-clause-stopped g c =
    let done = c.in-Some.done in
    let meaning = g.B.Body.meaning in
    let fits = g.B.Body.fits in
    let there = g.M.SpawnThreads.has_scope c.args.mode.now in
    let s = c.args.built.now in
    let slots = c.args.jobs.now.bodies in
    let out = c.args.jobs.now.pool in
    let w = c.args.run.now.state in
    let rest = c.bring_back.new.self in
    let ran = c.in-Some.ensures.ran in
    let seen = done.view.value in
    let back = back_from meaning fits out rest done.number done.system done.body seen done.answer ran.0 ran.1 ran.2 in
    let deferred = c.args.run.now.deferred in
    let told = c.in_err-close.field-0.0 in
    handed_on (λ x. (bodies : List BodyMeaning) → Placed meaning fits there s bodies slots out w
    → StopsBy there (λ met. (job : JobOut g.row.B.Denot) × IsIn job out × (interleaved_cause_of s bodies (Finish job.system) (woven w.state deferred out) ≡ Some met)) x) c.from_residual.result told c.from_residual.ensures.1
    (λ bodies placed. stops_among there (IsNotLaid done.answer seen w.state) (λ met. (job : JobOut g.row.B.Denot) × IsIn job out × (interleaved_cause_of s bodies (Finish job.system) (woven w.state deferred out) ≡ Some met)) told
    (λ met e. (back.job, back_in meaning fits out rest done.number done.system done.body seen done.answer there s bodies slots w back placed, back_not_laid meaning fits out rest done.number done.system done.body seen done.answer there s bodies slots w back placed deferred met e)) c.in_err-close.ensures.stopped)

pub returns-in_err-close-clause-kept : goal.returns-in_err-close-clause-kept
returns-in_err-close-clause-kept g c =
    let done = c.in-Some.done in
    let meaning = g.B.Body.meaning in
    let fits = g.B.Body.fits in
    let there = g.M.SpawnThreads.has_scope c.args.mode.now in
    let s = c.args.built.now in
    let slots = c.args.jobs.now.bodies in
    let out = c.args.jobs.now.pool in
    let w = c.args.run.now.state in
    let rest = c.bring_back.new.self in
    let ran = c.in-Some.ensures.ran in
    let seen = done.view.value in
    let back = back_from meaning fits out rest done.number done.system done.body seen done.answer ran.0 ran.1 ran.2 in
    let told = c.in_err-close.field-0.0 in
    handed_on (λ x. (bodies : List BodyMeaning) → Placed meaning fits there s bodies slots out w → AreKept meaning fits there s bodies c.put.new.self rest) c.from_residual.result told c.from_residual.ensures.1
    (λ bodies placed. subst (λ xs. AreKept meaning fits there s bodies xs rest) (sym c.put.ensures)
    (kept_back meaning fits out rest done.number done.system done.body seen done.answer there s bodies slots back (placed_kept meaning fits there s bodies slots out w placed)))
