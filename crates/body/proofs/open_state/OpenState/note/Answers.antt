use Rattle.std.proofs.Common.{◌≡◌, ◌≤◌, List, length, map, ap, sym, ◌∙◌, subst, arith}
use Rattle.std.proofs.lemmas.List.{with_items_is}
use Rattle.kinds.specs.Res.{event_number}
use Rattle.model.specs.Lists.{update_at}
use Rattle.model.specs.state.State.{Memory}
use Rattle.model.specs.runs.RunState.{memory_after_run}
use Rattle.model.proofs.lists.Lists.{length-update_at}
use Rattle.body.specs.Steps.{StateValue, IsInTime}
use Rattle.body.proofs.Times.{ran_in_time}
use Rattle.body.proofs.open_state.OpenState.note.Goals as goal

pub invariant_of-self : goal.invariant_of-self
invariant_of-self c =
    let n = c.args.system in
    let tick = c.args.tick in
    let before = c.self.inside.systems in
    let reads = map event_number c.reads.result.now in
    let queues = c.self.inside.events in
    let clock = c.self.inside.world.state.clock in
    let now : clock ≡ c.args.self.now.state.world.clock = ap (λ (s : StateValue). s.state.world.clock) c.self.view_is in
    let past : tick ≤ clock = let p = c.requires.past in omega arith in
    let after : c.ran_at.new.memories ≡ update_at n (memory_after_run tick reads queues) before.items
    = c.ran_at.ensures ∙ ap (λ (ms : List Memory). update_at n (memory_after_run tick reads queues) ms) c.deref_mut.ensures.value in
    let whole = with_items_is before c.ran_at.new.memories (ap length after ∙ length-update_at n (memory_after_run tick reads queues) before.items ∙ sym before.ok.0) ∙ after in
    record {
      in_time = record {
        systems_in = subst (λ (ms : List Memory). IsInTime clock ms) (sym whole) (ran_in_time clock tick n reads queues before.items c.self.invariant.in_time.systems_in past);
        conditions_in = c.self.invariant.in_time.conditions_in;
      };
      counted = c.self.invariant.counted;
      planned_is = c.self.invariant.planned_is;
    }
