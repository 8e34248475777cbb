use Rattle.std.proofs.Common.{◌≡◌, ◌+◌, ℕ, min, sym, ap, ap₂, subst, ◌∙◌, arith}
use Rattle.model.specs.state.State.{World, most_passed_over}
use Rattle.model.specs.state.Commands.{CommandTarget, apply_buffer}
use Rattle.command_queue.specs.Commands.{commands_of}
use Rattle.body.specs.Steps.{StateValue, counted_state, target_in, with_target}
use Rattle.body.proofs.Counts.{counted_on, buffer_on}
use Rattle.body.proofs.open_state.OpenState.apply.Goals as goal

pub returns-clause-applied : goal.returns-clause-applied
returns-clause-applied c =
    let s = c.self.inside in
    let old = s.world.state in
    let cs = commands_of c.args.buffers.now c.args.order.now in
    let none : CommandTarget = record { slots = old.slots; passed_over = 0 } in
    let counted : s.passed_over ≡ min (s.passed_over + 0) most_passed_over = (let l = c.self.invariant.counted in omega arith) in
    let start = ap (λ (n : ℕ). let t : CommandTarget = record { slots = old.slots; passed_over = n } in t) counted in
    let done = ap (λ t. apply_buffer c.args.tick t cs) start ∙ buffer_on s.passed_over c.args.tick cs none ∙ ap (counted_on s.passed_over) (sym c.in_ok-passed.ensures.applied) in
    subst (λ (v : StateValue). counted_state c.apply.new.world.state s.events s.systems.items s.conditions.items c.counted_on-self-inside.result ≡ with_target (apply_buffer c.args.tick (target_in v.state) cs) v.state) c.self.view_is
    (ap₂ (λ (w : World) (n : ℕ). counted_state w s.events s.systems.items s.conditions.items n) c.in_ok-passed.ensures.kept c.counted_on-self-inside.ensures
    ∙ sym (ap (λ t. with_target t (counted_state old s.events s.systems.items s.conditions.items s.passed_over)) done))
