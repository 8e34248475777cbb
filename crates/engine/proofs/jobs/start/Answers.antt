use Rattle.std.proofs.Common.{◌≡◌, inl, inr, ◌∷◌, ◌++◌, [], List, true, false, Option, Some, Result, Err, set, refl, sym, ap, ◌∙◌, subst}
use Rattle.std.proofs.lemmas.Bool.{false≢true}
use Rattle.model.specs.declared.steps.Step.TheVariants.{Start as Begin}
use Rattle.model.specs.runs.Meaning.{interleaved_step}
use Rattle.model.specs.runs.Causes.{interleaved_cause_of}
use Rattle.model.specs.shown.Outcome.{BodyMeaning}
use Rattle.model.specs.steps.Schedule.{params_of}
use Rattle.body.specs.Seen.{Seen}
use Rattle.body.specs.Steps.{store_of}
use Rattle.body.proofs.Outs.{home-apart}
use Rattle.worker_pool.specs.JobOut.{JobOut}
use Rattle.engine.specs.Jobs.{held_by, woven, InHand, Placed}
use Rattle.engine.specs.Deferred.{DeferredValue, grants_at}
use Rattle.engine.specs.Stops.{LacksTick, StopsBy}
use Rattle.engine.specs.declared.stop.Stop.{Stop}
use Rattle.engine.specs.declared.stop.Stop.TheVariants as stop
use Rattle.worker_pool.specs.declared.fault.HandOutFault.TheVariants as hand
use Rattle.engine.proofs.JobsOut.{IsHanded, body-there, put_again, start_there, placed_start}
use Rattle.engine.proofs.SystemStart.{in_hand_start}
use Rattle.engine.proofs.Stops.{stops_among}
use denote.Param.Send.{sendable}
use Rattle.engine.proofs.jobs.start.Goals as goal
use Rattle.model.proofs.lists.Results.{handed_on}

pub show-requires : goal.show-requires
show-requires g c =
    let s = c.args.built.now in
    let n = c.args.system in
    let w = c.args.run.now.state in
    let out = c.args.jobs.now.pool in
    let allowed = c.requires.allowed in
    record {
      known = allowed.known;
      memories = c.requires.placed.1.memories;
      home = home-apart allowed.there (store_of w) (held_by out) (params_of s n) c.prove_law.ensures.laid allowed.among c.requires.placed.1.held allowed.apart;
      suits = c.requires.hand.suits;
      fresh = allowed.fresh;
      given = allowed.given;
    }

pub take-body-requires : goal.take-body-requires
take-body-requires g c =
    let s = c.args.built.now in
    let n = c.args.system in
    let meaning = g.B.Body.meaning in
    let fits = g.B.Body.fits in
    let there = g.M.SpawnThreads.has_scope c.args.mode.now in
    let w = c.args.run.now.state in
    let out = c.args.jobs.now.pool in
    let slots = c.args.jobs.now.bodies in
    record { there = body-there meaning fits there s c.requires.placed.0 slots out w c.requires.placed.1 n c.requires.allowed.known c.requires.allowed.home }

pub hand_out-requires : goal.hand_out-requires
hand_out-requires g c = λ lifetimes.
    (search sendable depth 40, (search sendable depth 40, (search sendable depth 40, (search sendable depth 40, (refl, tt)))))

pub returns-in_err-view-clause-stopped : goal.returns-in_err-view-clause-stopped
returns-in_err-view-clause-stopped g c =
    let s = c.args.built.now in
    let n = c.args.system in
    let there = g.M.SpawnThreads.has_scope c.args.mode.now in
    let w = c.args.run.now.state in
    let deferred = c.args.run.now.deferred in
    let out = c.args.jobs.now.pool in
    let told = c.in_err-view.field-0.0 in
    handed_on (StopsBy there (λ met. (bodies : List BodyMeaning) → interleaved_cause_of s bodies (Begin n) (woven w.state deferred out) ≡ Some met)) c.from_residual.result told c.from_residual.ensures.1
    (stops_among there (LacksTick w.state) (λ met. (bodies : List BodyMeaning) → interleaved_cause_of s bodies (Begin n) (woven w.state deferred out) ≡ Some met) told
    (λ met e bodies. e) c.in_err-view.ensures.stopped)

-- equal errors are of one fault
one-fault : {T F : Type 0} {fault given : F} → ◌≡◌ {A = Result T F} (Err fault) (Err given) → fault ≡ given
one-fault {T} {F} {fault} {given} e = let whole : ◌≡◌ {A = Result T F} (Err fault) (Err given) = e in cc

-- what is told of a fault is told of the one that it is
of-fault : {T F A : Type 0} (fault given : F) → ◌≡◌ {A = Result T F} (Err fault) (Err given) → (f : F → A) (x : A) → x ≡ f fault → x ≡ f given
of-fault fault given e f x is = is ∙ ap f (one-fault e)

pub returns-in-Err-clause-stopped : goal.returns-in-Err-clause-stopped
returns-in-Err-clause-stopped g c =
    let s = c.args.built.now in
    let n = c.args.system in
    let there = g.M.SpawnThreads.has_scope c.args.mode.now in
    let w = c.args.run.now.state in
    let deferred = c.args.run.now.deferred in
    let out = c.args.jobs.now.pool in
    let means : Stop → Type 0 = StopsBy there (λ met. (bodies : List BodyMeaning) → interleaved_cause_of s bodies (Begin n) (woven w.state deferred out) ≡ Some met) in
    elim c.in-Err.ensures.only as (λ x. means c.take_back.result) [
      | inl e ↦ subst means (sym (of-fault _ _ e (λ f. elim f as (λ x. Stop) [ hand.Memory job ↦ stop.Memory | hand.NoWorker job ↦ stop.NoWorker | hand.Lost ↦ stop.NoWorker ]) c.take_back.result c.take_back.ensures.told)) tt
      | inr more ↦ elim more as (λ x. means c.take_back.result) [
        | inl e ↦ subst means (sym (of-fault _ _ e.0 (λ f. elim f as (λ x. Stop) [ hand.Memory job ↦ stop.Memory | hand.NoWorker job ↦ stop.NoWorker | hand.Lost ↦ stop.NoWorker ]) c.take_back.result c.take_back.ensures.told)) e.1
        | inr e ↦ subst means (sym (of-fault _ _ e.0 (λ f. elim f as (λ x. Stop) [ hand.Memory job ↦ stop.Memory | hand.NoWorker job ↦ stop.NoWorker | hand.Lost ↦ stop.NoWorker ]) c.take_back.result c.take_back.ensures.told)) e.1
      ]
    ]

-- a job is lost only where no worker stands
pub returns-in-Err-clause-kept : goal.returns-in-Err-clause-kept
returns-in-Err-clause-kept g c = λ lost.
    let n = c.args.system in
    let slots = c.args.jobs.now.bodies in
    let again = ap (λ xs. set xs n (Some c.take-body.result)) c.take-body.ensures.taken ∙ put_again slots n c.take-body.result c.take-body.ensures.body in
    let kept = c.in-Err.ensures.err in
    elim c.in-Err.ensures.only as (λ x. (c.take_back.new.bodies ≡ slots) × (c.hand_out.new.self ≡ c.args.jobs.now.pool)) [
      | inl e ↦ (of-fault _ _ e (λ f. elim f as (λ x. List (Option g.row.B.Denot)) [ hand.Memory job ↦ set c.take-body.new.self job.system (Some job.body) | hand.NoWorker job ↦ set c.take-body.new.self job.system (Some job.body) | hand.Lost ↦ c.take-body.new.self ]) c.take_back.new.bodies c.take_back.ensures.back ∙ again, kept)
      | inr more ↦ elim more as (λ x. (c.take_back.new.bodies ≡ slots) × (c.hand_out.new.self ≡ c.args.jobs.now.pool)) [
        | inl e ↦ (of-fault _ _ e.0 (λ f. elim f as (λ x. List (Option g.row.B.Denot)) [ hand.Memory job ↦ set c.take-body.new.self job.system (Some job.body) | hand.NoWorker job ↦ set c.take-body.new.self job.system (Some job.body) | hand.Lost ↦ c.take-body.new.self ]) c.take_back.new.bodies c.take_back.ensures.back ∙ again, kept)
        | inr e ↦ absurd (false≢true (sym e.2 ∙ lost (of-fault _ _ e.0 (λ f. elim f as (λ x. Stop) [ hand.Memory job ↦ stop.Memory | hand.NoWorker job ↦ stop.NoWorker | hand.Lost ↦ stop.NoWorker ]) c.take_back.result c.take_back.ensures.told)))
      ]
    ]

pub returns-in-Ok-clause-started : goal.returns-in-Ok-clause-started
returns-in-Ok-clause-started g c = λ bodies.
    let s = c.args.built.now in
    let n = c.args.system in
    let meaning = g.B.Body.meaning in
    let fits = g.B.Body.fits in
    let there = g.M.SpawnThreads.has_scope c.args.mode.now in
    let w = c.args.run.now.state in
    let deferred = c.args.run.now.deferred in
    let out = c.args.jobs.now.pool in
    let later = c.show.new.self.state in
    let job_of = λ (v : Seen). (let x : JobOut g.row.B.Denot = record { number = c.saturating_add-number.result; system = n; body = c.take-body.result; view = v; there = there } in x) in
    let job = job_of c.in_ok-view.view.value in
    let ok = c.in_ok-view.ensures in
    let handed : IsHanded s n (grants_at deferred n) w later job = record { system = refl; params = ok.shown.params; shown_there = ok.shown.shown_there; tick = ok.shown.tick; written = ok.shown.written; held = ok.held; is_later = ok.noted } in
    subst (λ (x : DeferredValue). interleaved_step s bodies (Begin n) (woven w.state deferred out) ≡ Some (woven later.state x c.hand_out.new.self)) (sym c.show.ensures.deferred)
    (subst (λ (xs : List (JobOut g.row.B.Denot)). interleaved_step s bodies (Begin n) (woven w.state deferred out) ≡ Some (woven later.state deferred xs)) (sym c.in-Ok.ensures.ok)
    (start_there meaning fits job.there s bodies n w later deferred out job ok.has handed))

pub returns-in-Ok-clause-placed : goal.returns-in-Ok-clause-placed
returns-in-Ok-clause-placed g c = λ bodies placed.
    let s = c.args.built.now in
    let n = c.args.system in
    let meaning = g.B.Body.meaning in
    let fits = g.B.Body.fits in
    let there = g.M.SpawnThreads.has_scope c.args.mode.now in
    let w = c.args.run.now.state in
    let deferred = c.args.run.now.deferred in
    let out = c.args.jobs.now.pool in
    let slots = c.args.jobs.now.bodies in
    let later = c.show.new.self.state in
    let job_of = λ (v : Seen). (let x : JobOut g.row.B.Denot = record { number = c.saturating_add-number.result; system = n; body = c.take-body.result; view = v; there = there } in x) in
    let job = job_of c.in_ok-view.view.value in
    let ok = c.in_ok-view.ensures in
    let handed : IsHanded s n (grants_at deferred n) w later job = record { system = refl; params = ok.shown.params; shown_there = ok.shown.shown_there; tick = ok.shown.tick; written = ok.shown.written; held = ok.held; is_later = ok.noted } in
    subst (λ (xs : List (JobOut g.row.B.Denot)). Placed meaning fits there s bodies c.take-body.new.self xs later) (sym c.in-Ok.ensures.ok)
    (subst (λ xs. Placed meaning fits there s bodies xs (out ++ job ∷ []) later) (sym c.take-body.ensures.taken)
    (placed_start meaning fits there s bodies slots out w placed n later job c.requires.allowed.known c.requires.allowed.home c.take-body.ensures.body (grants_at deferred n) handed refl))

pub returns-in-Ok-clause-hand : goal.returns-in-Ok-clause-hand
returns-in-Ok-clause-hand g c =
    let s = c.args.built.now in
    let n = c.args.system in
    let there = g.M.SpawnThreads.has_scope c.args.mode.now in
    let w = c.args.run.now.state in
    let deferred = c.args.run.now.deferred in
    let out = c.args.jobs.now.pool in
    let later = c.show.new.self.state in
    let job_of = λ (v : Seen). (let x : JobOut g.row.B.Denot = record { number = c.saturating_add-number.result; system = n; body = c.take-body.result; view = v; there = there } in x) in
    let job = job_of c.in_ok-view.view.value in
    let ok = c.in_ok-view.ensures in
    let handed : IsHanded s n (grants_at deferred n) w later job = record { system = refl; params = ok.shown.params; shown_there = ok.shown.shown_there; tick = ok.shown.tick; written = ok.shown.written; held = ok.held; is_later = ok.noted } in
    subst (λ (x : DeferredValue). InHand s x c.hand_out.new.self later) (sym c.show.ensures.deferred)
    (subst (λ (xs : List (JobOut g.row.B.Denot)). InHand s deferred xs later) (sym c.in-Ok.ensures.ok)
    (in_hand_start s n w later deferred out job c.requires.allowed.known c.requires.placed.1.memories c.prove_law.ensures.memories c.requires.hand c.requires.allowed.given handed))

pub returns-in-Ok-clause-numbered : goal.returns-in-Ok-clause-numbered
returns-in-Ok-clause-numbered g c = record {
  job = _;
  handed = c.in-Ok.ensures.ok;
  number = refl;
  counted = c.saturating_add-number.ensures;
}
