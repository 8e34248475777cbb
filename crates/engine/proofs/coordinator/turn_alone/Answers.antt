use Rattle.std.proofs.Common.{ℕ, [], List, Option, Some, false, length, refl, sym, ap, ◌∙◌, subst, subst₂, arith}
use Rattle.model.specs.declared.steps.Ready.{Ready}
use Rattle.model.specs.declared.steps.Step.{Step}
use Rattle.model.specs.state.State.{State}
use Rattle.model.specs.shown.Outcome.{BodyMeaning}
use Rattle.model.specs.steps.Schedule.{recording}
use Rattle.model.specs.runs.WideRuns.{WideStops}
use Rattle.model.proofs.lists.Results.{handed_on}
use Rattle.worker_pool.specs.JobOut.{JobOut}
use Rattle.engine.specs.Alone.{IsBetweenAlone}
use Rattle.engine.specs.Next.{IsBetween}
use Rattle.engine.specs.Stage.{IsTake}
use Rattle.engine.specs.Stops.{StopsBy}
use Rattle.engine.proofs.TurnAlone.{may_at}
use Rattle.engine.proofs.RunEnd.{latest_there}
use Rattle.engine.proofs.JobsOut.{placed_kept}
use Rattle.engine.proofs.coordinator.turn_alone.Goals as goal

pub start_alone-requires-clause-next : goal.start_alone-requires-clause-next
start_alone-requires-clause-next g c κs within =
    subst (λ (r : Ready). IsTake (recording c.args.built.now c.args.trace.now.sets) c.args.trace.now.steps 0 1 r) c.in-Start.is c.requires.next

pub do_plain-requires-clause-next : goal.do_plain-requires-clause-next
do_plain-requires-clause-next g c κs within =
    (false, (let one : ℕ = 1 in one), c.args.trace.now.sets, c.requires.between.0, c.requires.between.1, c.args.trace.now.steps, c.args.bodies.now, (let none : List (JobOut g.row.B.Denot) = [] in none), record { between = c.requires.between.2.between; take = c.requires.next })

pub returns-in_err-done-clause-stopped : goal.returns-in_err-done-clause-stopped
returns-in_err-done-clause-stopped g c =
    let s = c.args.built.now in
    let w = c.args.run.now.state in
    let deferred = c.args.run.now.deferred in
    let slots = c.args.bodies.now in
    let sets = c.args.trace.now.sets in
    let h = c.args.trace.now.steps in
    handed_on (λ x. (means : List BodyMeaning) → (start : State) → IsBetweenAlone g.B.Body.meaning g.B.Body.fits s means start c.args.core.now c.args.trace.now slots deferred w → StopsBy false (WideStops 1 s means start) x) c.from_residual.result c.in_err-done.field-0.0 c.from_residual.ensures.1
    (λ means start known. c.in_err-done.ensures.stopped false 1 sets means start h slots [] (record { between = known.between; take = c.requires.next }))

pub returns-in_err-done-clause-kept : goal.returns-in_err-done-clause-kept
returns-in_err-done-clause-kept g c = λ means start known.
    let s = c.args.built.now in
    let w = c.args.run.now.state in
    let deferred = c.args.run.now.deferred in
    let slots = c.args.bodies.now in
    let sets = c.args.trace.now.sets in
    let h = c.args.trace.now.steps in
    placed_kept g.B.Body.meaning g.B.Body.fits false s means slots [] w known.between.placed

pub take-requires-clause-may : goal.take-requires-clause-may
take-requires-clause-may g c =
    let s = c.args.built.now in
    let w = c.args.run.now.state in
    let deferred = c.args.run.now.deferred in
    let slots = c.args.bodies.now in
    let sets = c.args.trace.now.sets in
    let h = c.args.trace.now.steps in
    let known = c.requires.between.2 in
    may_at s c.args.core.now.schedule sets sets h h c.in_ok-done.done.step c.in_ok-done.done.step known.schedule refl refl refl (c.in_ok-done.ensures.taken false 1 sets c.requires.between.0 c.requires.between.1 h slots [] (record { between = known.between; take = c.requires.next })).may

pub take-requires-clause-latest : goal.take-requires-clause-latest
take-requires-clause-latest g c = λ k is quiet.
    let s = c.args.built.now in
    let w = c.args.run.now.state in
    let deferred = c.args.run.now.deferred in
    let slots = c.args.bodies.now in
    let sets = c.args.trace.now.sets in
    let h = c.args.trace.now.steps in
    let known = c.requires.between.2 in
    let out : List (JobOut g.row.B.Denot) = [] in
    latest_there 1 s sets c.requires.between.0 c.requires.between.1 h w.state deferred out known.records known.between.stage
    ∙ ap (λ x. Some x) (sym (c.in_ok-done.ensures.quiet k is quiet))

pub returns-in_err-take-clause-kept : goal.returns-in_err-take-clause-kept
returns-in_err-take-clause-kept g c = λ means start known.
    let s = c.args.built.now in
    let w = c.args.run.now.state in
    let deferred = c.args.run.now.deferred in
    let slots = c.args.bodies.now in
    let sets = c.args.trace.now.sets in
    let h = c.args.trace.now.steps in
    placed_kept g.B.Body.meaning g.B.Body.fits false s means slots [] w known.between.placed

pub returns-clause-kept : goal.returns-clause-kept
returns-clause-kept g c = λ means start known.
    let s = c.args.built.now in
    let w = c.args.run.now.state in
    let deferred = c.args.run.now.deferred in
    let slots = c.args.bodies.now in
    let sets = c.args.trace.now.sets in
    let h = c.args.trace.now.steps in
    placed_kept g.B.Body.meaning g.B.Body.fits false s means slots [] w known.between.placed

pub returns-clause-longer : goal.returns-clause-longer
returns-clause-longer g c =
    let e = ap length c.in_ok-take.ensures.steps in omega (arith, e)

pub returns-clause-between : goal.returns-clause-between
returns-clause-between g c = λ means start known.
    let s = c.args.built.now in
    let w = c.args.run.now.state in
    let deferred = c.args.run.now.deferred in
    let slots = c.args.bodies.now in
    let sets = c.args.trace.now.sets in
    let h = c.args.trace.now.steps in
    let ok = c.in_ok-take.ensures in
    let taken = c.in_ok-done.ensures.taken false 1 sets means start h slots [] (record { between = known.between; take = c.requires.next }) in
    record {
      schedule = ok.schedule ∙ known.schedule;
      records = ok.records;
      stands = ok.stands;
      keeps = known.keeps;
      between = subst₂ (λ (ys : Option (List (List ℕ))) (x : List Step). IsBetween g.B.Body.meaning g.B.Body.fits false 1 s ys means start x slots c.do_plain.new.run.deferred [] c.do_plain.new.run.state) (sym ok.sets) (sym ok.steps) taken.between;
    }
