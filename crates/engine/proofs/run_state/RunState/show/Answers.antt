use Rattle.std.proofs.Common.{◌++◌, rules, refl, sym, ap, ◌∙◌, subst, arith}
use Rattle.std.specs.List.{AllByRecursion}
use Rattle.query_plan.specs.Standing.{ArePickedHome}
use Rattle.model.specs.access.Access.{Params}
use Rattle.model.specs.access.SelfConflict.{ConflictWithin}
use Rattle.model.specs.runs.RunState.{has_tick, memory_of_system}
use Rattle.model.specs.shown.Input.{shown}
use Rattle.model.specs.shown.Outcome.{untouched}
use Rattle.body.specs.Lent.{lent_in}
use Rattle.body.specs.Out.{IsWrittenBy}
use Rattle.body.specs.Steps.{StateValue, store_of}
use Rattle.body.proofs.Outs.{out-same}
use Rattle.body.specs.Keeps.{CanBeShown}
use Rattle.model.specs.steps.Schedule.{params_of}
use Rattle.engine.specs.Deferred.{grants_at}
use Rattle.engine.proofs.Stops.{has_one, tells_no_tick, tick_met}
use Rattle.engine.proofs.SystemStart.{can_be_shown, registers_at}
use Rattle.engine.proofs.run_state.RunState.show.Goals as goal

pub open-requires-clause-apart : goal.open-requires-clause-apart
open-requires-clause-apart c = λ conflict. c.prove_apart.ensures c.args.system c.requires.known (subst ConflictWithin c.params-params.ensures conflict)

pub returns-clause-shown : goal.returns-clause-shown
returns-clause-shown c =
    let s = c.args.built.now in
    let n = c.args.system in
    let w = c.args.self.now.state in
    let p = c.params-params.result.now in
    let ok = c.in_ok-view.ensures in
    let params = ok.params ∙ c.params-params.ensures in
    let shows = ok.shown
    ∙ ap (shown p (memory_of_system w.state n) w.state) (c.granted-granted.ensures ∙ ap (λ d. grants_at d n) c.take_buffer-commands.ensures.same)
    ∙ ap (λ (q : Params). shown q (memory_of_system w.state n) w.state (grants_at c.args.self.now.deferred n)) c.params-params.ensures in
    record {
      params = params;
      shown_there = shows;
      showing = subst (λ (p : Params). CanBeShown p c.in_ok-view.view.value.shown) (sym params)
          (subst (CanBeShown (params_of s n)) (sym shows)
          (can_be_shown s n (memory_of_system w.state n) w.state (grants_at c.args.self.now.deferred n)
          (registers_at w.state.world.clock w.state.systems n (let e = c.requires.memories.systems in let k = c.requires.known in omega (arith, e, k)) c.prove_law.ensures.memories.systems_in) c.requires.given));
      untouched_there = ok.untouched ∙ ap (λ (q : Params). untouched q c.in_ok-view.view.value.shown) (sym ok.params);
      tick = search rules;
      written = subst (λ (q : Params). AllByRecursion (IsWrittenBy q.queries w.layout) (lent_in c.in_ok-view.view.value.opening.taken)) c.params-params.ensures ok.written;
    }

pub returns-clause-held : goal.returns-clause-held
returns-clause-held c = λ others held.
    out-same (store_of c.open.new.self) (store_of c.note.new.self) (others ++ c.in_ok-view.view.value.opening.taken)
    (ap (λ (s : StateValue). s.state.world.slots) (c.note.ensures) ∙ ap (λ (s : StateValue). s.state.world.slots) c.in-Ok.ensures.moved)
    (ap (λ (s : StateValue). s.layout) (c.note.ensures) ∙ ap (λ (s : StateValue). s.layout) c.in-Ok.ensures.moved)
    (c.in_ok-view.ensures.out others held)

pub open-requires-clause-home : goal.open-requires-clause-home
open-requires-clause-home c =
    subst (λ (p : Params). AllByRecursion (λ query. ArePickedHome query c.args.self.now.state.layout) p.queries) (sym c.params-params.ensures) c.requires.home

pub returns-in_err-tick-clause-told : goal.returns-in_err-tick-clause-told
returns-in_err-tick-clause-told c = tells_no_tick c.args.self.now.state.state c.from_residual.result (c.in_err-tick.ensures.spent.0 refl) c.from_residual.ensures.1

pub returns-in_err-view-clause-told : goal.returns-in_err-view-clause-told
returns-in_err-view-clause-told c = λ met m. tick_met c.args.self.now.state.state met (has_one (has_tick c.args.self.now.state.state) c.in_ok-tick.ensures.spent) m

pub returns-clause-told : goal.returns-clause-told
returns-clause-told c = λ met m. tick_met c.args.self.now.state.state met (has_one (has_tick c.args.self.now.state.state) c.in_ok-tick.ensures.spent) m
