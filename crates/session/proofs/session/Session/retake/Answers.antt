use Rattle.std.proofs.Common.{List, Option, Some, Err, length, map, string_bytes, refl, sym, ap, ap₂, ◌∙◌, subst}
use Rattle.engine.specs.EngineValue.{EngineValue}
use Rattle.engine.specs.Meanings.{AreFit, HasMemories, meanings}
use Rattle.model.specs.sessions.Sessions.{AreReplayedRuns}
use Rattle.model.specs.state.State.{State}
use Rattle.model.specs.steps.Schedule.{Schedule}
use Rattle.requests.specs.Asked.{Asked as asked}
use Rattle.session.specs.Live.{Live, with_engine}
use Rattle.session.specs.Records.{HasRetaken, IsRedone}
use Rattle.session.specs.declared.reply.Reply.{Reply}
use Rattle.session.proofs.Retaken.{mended}
use Rattle.session.proofs.Lives.{has_memories, live_with, suits_fit}
use Rattle.session.proofs.session.Session.retake.Goals as goal

pub invariant_of-self : goal.invariant_of-self
invariant_of-self g c = live_with g.B.Body.fits c.self.inside.engine c.take_state-state.new.self c.self.inside.marks c.take_state-state.ensures.schedule c.take_state-state.ensures.bodies c.self.invariant

pub invariant_of-self-in-Ok : goal.invariant_of-self-in-Ok
invariant_of-self-in-Ok g c = live_with g.B.Body.fits c.self.inside.engine c.set_state.new.self c.self.inside.marks
    (ap (λ (e : EngineValue g.row.B.Denot). e.schedule) c.in-Ok.ensures.ok ∙ c.take_state-state.ensures.schedule) (ap (λ (e : EngineValue g.row.B.Denot). e.bodies) c.in-Ok.ensures.ok ∙ c.take_state-state.ensures.bodies) c.self.invariant

pub invariant_of-self-in-Err-Memory : goal.invariant_of-self-in-Err-Memory
invariant_of-self-in-Err-Memory g c = live_with g.B.Body.fits c.self.inside.engine c.set_state.new.self c.self.inside.marks
    (ap (λ (e : EngineValue g.row.B.Denot). e.schedule) c.in-Err-Memory.ensures.err ∙ c.take_state-state.ensures.schedule) (ap (λ (e : EngineValue g.row.B.Denot). e.bodies) c.in-Err-Memory.ensures.err ∙ c.take_state-state.ensures.bodies) c.self.invariant

pub unreachable-requires : goal.unreachable-requires
unreachable-requires g c =
    let state = c.in_ok-state.state in
    let built = c.take_state-state.new.self.schedule in
    has_memories built state (subst (λ (s : Schedule). HasMemories s state) c.schedule.ensures c.in_ok-state.ensures.suits.memories) (c.set_state.ensures.count.0 (c.in-Err-Count.is ∙ ap Err c.in-Err-Count.field-0-is))

pub unreachable-requires-in-Err-Bodies : goal.unreachable-requires-in-Err-Bodies
unreachable-requires-in-Err-Bodies g c =
    let live = live_with g.B.Body.fits c.self.inside.engine c.take_state-state.new.self c.self.inside.marks c.take_state-state.ensures.schedule c.take_state-state.ensures.bodies c.self.invariant in
    (c.set_state.ensures.bodies.0 (c.in-Err-Bodies.is ∙ ap Err c.in-Err-Bodies.field-0-is)).1 live.fit

pub returns-in-Ok-clause-taken : goal.returns-in-Ok-clause-taken
returns-in-Ok-clause-taken g c =
    let meaning = g.B.Body.meaning in
    let engine = c.self.inside.engine in
    let state = c.in_ok-state.state in
    let traces = c.args.traces.now in
    let bodies = map Some c.args.bodies.now in
    let old : Live g.row.B.Denot = record { engine = engine; marks = c.self.inside.marks; file = c.self.inside.file; greeting = string_bytes c.self.inside.greeting } in
    let new : Live g.row.B.Denot = with_engine c.set_state.new.self old in
    let built = c.schedule.ensures ∙ c.take_state-state.ensures.schedule in
    let from = subst (λ (w : State). AreReplayedRuns c.schedule.result.now (meanings meaning c.schedule.result.now bodies) w traces state) c.take_state-state.ensures.state c.in_ok-state.ensures.replayed in
    let runs = subst (λ (s : Schedule). AreReplayedRuns s (meanings meaning s bodies) engine.state traces state) built from in
    let set = c.in-Ok.ensures.ok ∙ ap₂ (λ (s : Schedule) (bs : List (Option g.row.B.Denot)). mended s bs state) c.take_state-state.ensures.schedule c.take_state-state.ensures.bodies in
    let again : HasRetaken (meanings meaning engine.schedule bodies) old new traces = record { there = sym c.if-is_spoiled.ensures.value; state = state; runs = runs; taken = ap (λ (e : EngineValue g.row.B.Denot). with_engine e old) set } in
    subst (λ (reply : Reply). IsRedone meaning (meanings meaning c.args.self.now.engine.schedule bodies) c.args.self.now (asked.Run (length traces)) traces reply new) (sym c.done.ensures)
    (refl, refl, subst (λ (l : Live g.row.B.Denot). HasRetaken (meanings meaning l.engine.schedule bodies) l new traces) c.self.view_is again)

pub returns-in-Ok-clause-fit : goal.returns-in-Ok-clause-fit
returns-in-Ok-clause-fit g c =
    let bodies = map Some c.replay_runs.new.bodies in
    subst (λ (s : Schedule). AreFit g.B.Body.fits s bodies) (c.schedule.ensures ∙ c.take_state-state.ensures.schedule ∙ ap (λ (l : Live g.row.B.Denot). l.engine.schedule) c.self.view_is)
    (suits_fit g.B.Body.fits c.schedule.result.now bodies c.in_ok-state.state c.in_ok-state.ensures.suits)
