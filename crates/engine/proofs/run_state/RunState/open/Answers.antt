use Rattle.std.proofs.Common.{◌≡◌, ◌↔◌, Bool, true, false, Err, refl, sym, ap, ◌∙◌}
use Rattle.model.specs.runs.RunState.{RunState, after_grant, between, has_ids_for_level, has_tick, opening}
use Rattle.model.specs.state.KindSets.{kind_sets_of}
use Rattle.body.specs.Steps.{StateValue}
use Rattle.engine.proofs.SameArchetypes.{kind_sets-after_grant}
use Rattle.engine.specs.Deferred.{run_with}
use Rattle.engine.specs.Stops.{CannotOpen}
use Rattle.engine.proofs.IdsInHand.{run_with_nothing}
use Rattle.engine.proofs.LevelGrants.{ids_to_open, no_ids_to_open, opened_is}
use Rattle.engine.proofs.Stops.{grant_stops, one_grant, open_met, open_ungranted, opens_no_tick, opens_ungranted}
use Rattle.engine.proofs.run_state.RunState.open.Goals as goal

-- where a begin was not refused there is a tick
ticked : (b : Bool) → (false ≡ true) ↔ (b ≡ false) → b ≡ true
ticked true spent = refl
ticked false spent = spent.1 refl

pub returns-in_err-grant-clause-stopped : goal.returns-in_err-grant-clause-stopped
returns-in_err-grant-clause-stopped c =
    let s = c.args.built.now in
    let w = c.args.self.now.state.state in
    let deferred = c.args.self.now.deferred in
    let begun : run_with c.begin.new.self.state deferred ≡ between (opening w) = ap (λ (x : StateValue). run_with x.state deferred) c.in_ok-begin.ensures.ok ∙ run_with_nothing (opening w) deferred c.requires.nothing in
    grant_stops (CannotOpen s w) c.in_err-grant.field-0.0 c.from_residual-in_err-grant.result c.from_residual-in_err-grant.ensures.1
    (λ e. open_ungranted s w (ticked (has_tick w) c.in_ok-begin.ensures.spent) (no_ids_to_open s w (ap (has_ids_for_level s 0) (sym begun) ∙ c.in_err-grant.ensures.spent.0 (ap Err e))))

pub returns-clause-opened : goal.returns-clause-opened
returns-clause-opened c =
    let s = c.args.built.now in
    let w = c.args.self.now.state.state in
    let deferred = c.args.self.now.deferred in
    let begun : run_with c.begin.new.self.state deferred ≡ between (opening w) = ap (λ (x : StateValue). run_with x.state deferred) c.in_ok-begin.ensures.ok ∙ run_with_nothing (opening w) deferred c.requires.nothing in
    let done = c.in_ok-grant.ensures in
    opened_is s w (run_with c.grant.new.state.state c.grant.new.self) (ticked (has_tick w) c.in_ok-begin.ensures.spent) (ap (has_ids_for_level s 0) (sym begun) ∙ done.has) (done.granted ∙ ap (after_grant s 0) begun)

pub returns-clause-sets : goal.returns-clause-sets
returns-clause-sets c =
    let deferred = c.args.self.now.deferred in
    ap (λ (run : RunState). kind_sets_of run.state.world.slots) c.in_ok-grant.ensures.granted
    ∙ kind_sets-after_grant c.args.built.now 0 (run_with c.begin.new.self.state deferred)
    ∙ ap (λ (x : StateValue). kind_sets_of x.state.world.slots) c.in_ok-begin.ensures.ok

pub returns-in_err-begin-clause-told : goal.returns-in_err-begin-clause-told
returns-in_err-begin-clause-told c =
    opens_no_tick c.args.built.now c.args.self.now.state.state c.from_residual.result (c.in_err-begin.ensures.spent.0 refl) c.from_residual.ensures.1

pub returns-in_err-grant-clause-told : goal.returns-in_err-grant-clause-told
returns-in_err-grant-clause-told c =
    let s = c.args.built.now in
    let w = c.args.self.now.state.state in
    let deferred = c.args.self.now.deferred in
    let begun : run_with c.begin.new.self.state deferred ≡ between (opening w) = ap (λ (x : StateValue). run_with x.state deferred) c.in_ok-begin.ensures.ok ∙ run_with_nothing (opening w) deferred c.requires.nothing in
    opens_ungranted s w c.in_err-grant.field-0.0 c.from_residual-in_err-grant.result (ticked (has_tick w) c.in_ok-begin.ensures.spent) c.from_residual-in_err-grant.ensures.1
    (λ none. one_grant (c.in_err-grant.ensures.spent.1 (ap (has_ids_for_level s 0) begun ∙ sym (ids_to_open s w) ∙ none)))

pub returns-clause-told : goal.returns-clause-told
returns-clause-told c = λ met m.
    let s = c.args.built.now in
    let w = c.args.self.now.state.state in
    let deferred = c.args.self.now.deferred in
    let begun : run_with c.begin.new.self.state deferred ≡ between (opening w) = ap (λ (x : StateValue). run_with x.state deferred) c.in_ok-begin.ensures.ok ∙ run_with_nothing (opening w) deferred c.requires.nothing in
    open_met s w met (ticked (has_tick w) c.in_ok-begin.ensures.spent) (ids_to_open s w ∙ ap (has_ids_for_level s 0) (sym begun) ∙ c.in_ok-grant.ensures.has) m
