use Rattle.std.proofs.Common.{◌≡◌, None, false, true, string_bytes, refl, sym, ap, ◌∙◌, subst}
use Rattle.engine.specs.EngineValue.{EngineValue, with_state}
use Rattle.model.specs.sessions.Inputs.{after_input, can_input, input_id}
use Rattle.body.specs.Inputs.{input_of}
use Rattle.requests.specs.Asked.{Asked as asked}
use Rattle.session.specs.Answers.{IsAnswer}
use Rattle.session.specs.Live.{Live, state_in, with_engine}
use Rattle.session.specs.declared.reply.Reply.{Reply}
use Rattle.session.proofs.Lives.{live_with}
use Rattle.session.proofs.session.Session.put.Goals as goal

pub invariant_of-self : goal.invariant_of-self
invariant_of-self g c = live_with g.B.Body.fits c.self.inside.engine c.input.new.self c.self.inside.marks
    (ap (λ (e : EngineValue g.row.B.Denot). e.schedule) c.in-Ok-Some.ensures.taken) (ap (λ (e : EngineValue g.row.B.Denot). e.bodies) c.in-Ok-Some.ensures.taken) c.self.invariant

pub invariant_of-self-in-Ok-None : goal.invariant_of-self-in-Ok-None
invariant_of-self-in-Ok-None g c = live_with g.B.Body.fits c.self.inside.engine c.input.new.self c.self.inside.marks
    (ap (λ (e : EngineValue g.row.B.Denot). e.schedule) c.in-Ok-None.ensures.taken) (ap (λ (e : EngineValue g.row.B.Denot). e.bodies) c.in-Ok-None.ensures.taken) c.self.invariant

pub returns-in-Ok-None : goal.returns-in-Ok-None
returns-in-Ok-None g c =
    let put = input_of c.args.input.now in
    let old : Live g.row.B.Denot = record { engine = c.self.inside.engine; marks = c.self.inside.marks; file = c.self.inside.file; greeting = string_bytes c.self.inside.greeting } in
    let new : Live g.row.B.Denot = with_engine c.input.new.self old in
    let none : input_id put (state_in c.args.self.now) ≡ None = subst (λ (l : Live g.row.B.Denot). input_id put (state_in l) ≡ None) c.self.view_is (sym c.in-Ok-None.ensures.id ∙ c.in-Ok-None.field-0-is) in
    subst (λ (reply : Reply). IsAnswer g.B.Body.meaning false 1 c.args.self.now (asked.Put put) reply new) (sym c.done-in-Ok-None.ensures) (
      refl,
      record {
        there = c.requires;
        can = subst (λ (l : Live g.row.B.Denot). can_input put (state_in l) ≡ true) c.self.view_is c.in-Ok-None.ensures.can;
        lines = c.would_change-changed.ensures none;
        taken = subst (λ (l : Live g.row.B.Denot). new ≡ with_engine (with_state (after_input put (state_in l)) l.engine) l) c.self.view_is (ap (λ (e : EngineValue g.row.B.Denot). with_engine e old) c.in-Ok-None.ensures.taken);
      },
    )
