use Rattle.std.proofs.Common.{◌≡◌, ◌≤◌, ◌-◌, suc, map, sym, ap, ◌∙◌, subst, arith}
use Rattle.std.specs.List.{AllByRecursion}
use Rattle.kinds.specs.Components.{widths}
use Rattle.model.specs.state.State.{State, World}
use Rattle.model.specs.state.Rows.{IsRising}
use Rattle.model.specs.state.Shape.{IsComponent, IsWorld}
use Rattle.model.specs.runs.RunState.{next_tick}
use Rattle.model.specs.sessions.Inputs.{row_at_tick}
use Rattle.archetype_store.specs.Row.{component_of}
use Rattle.archetype_store.specs.Changes.{with_new}
use Rattle.archetype_store.specs.Store.{StoreValue, at_clock, with_slots}
use Rattle.body.specs.Inputs.{given_by}
use Rattle.body.specs.Steps.{StateValue, counted_state, ticked}
use Rattle.body.proofs.NewEntities.{row-rising, row-components, gave_back, state_spawned}
use Rattle.body.proofs.open_state.OpenState.spawn.Goals as goal

pub spawn-requires-clause-rising : goal.spawn-requires-clause-rising
spawn-requires-clause-rising c = subst IsRising (sym c.in_ok-row.ensures) (row-rising c.args.tick (map given_by c.args.values.now))

pub spawn-requires-clause-components : goal.spawn-requires-clause-components
spawn-requires-clause-components c =
    let now = c.args.self.now.state in
    let clock : c.self-2.inside.world.state.clock ≡ next_tick now = ap (λ (v : StateValue). v.state.world.clock) (c.self-2.view_is ∙ c.in-Ok.ensures.moved) in
    let past : c.args.tick ≤ c.self-2.inside.world.state.clock = omega (arith, clock, c.requires.tick) in
    subst (AllByRecursion (IsComponent widths c.self-2.inside.world.state.clock)) (sym c.in_ok-row.ensures)
    (row-components c.self-2.inside.world.state.clock c.args.tick c.args.values.now past)

pub give_back_tick-requires : goal.give_back_tick-requires
give_back_tick-requires c =
    let old = c.self.inside.world.state in
    let is : c.spawn.new.self.state ≡ c.self-2.inside.world.state = ap (λ (v : StoreValue). v.state) c.in-Err.ensures.err in
    let middle = ap (λ (v : StateValue). v.state.world) (c.self-2.view_is ∙ c.in-Ok.ensures.moved) in
    let same : c.args.self.now.state.world ≡ old = sym (ap (λ (v : StateValue). v.state.world) c.self.view_is) in
    let ticked : c.spawn.new.self.state ≡ at_clock (suc old.clock) old = is ∙ middle ∙ ap (λ (w : World). at_clock (suc w.clock) w) same in
    subst (IsWorld widths) (sym (gave_back old c.spawn.new.self.state ticked)) c.now-now.ensures.world

pub returns-in-Ok-spawn-clause-state : goal.returns-in-Ok-spawn-clause-state
returns-in-Ok-spawn-clause-state c =
    let now = c.args.self.now.state in
    let s = c.self-2.inside in
    let given = map given_by c.args.values.now in
    let middle : State = counted_state s.world.state s.events s.systems.items s.conditions.items s.passed_over in
    let is : middle ≡ ticked now = ap (λ (v : StateValue). v.state) (c.self-2.view_is ∙ c.in-Ok.ensures.moved) in
    let row : map component_of c.in_ok-row.row.items ≡ row_at_tick (next_tick now) given = c.in_ok-row.ensures ∙ ap (λ t. row_at_tick t given) c.requires.tick in
    state_spawned given now middle c.spawn.new.self.state is (c.in-Ok-spawn.ensures.ok ∙ ap (λ r. with_slots (with_new r) s.world.state) row)
