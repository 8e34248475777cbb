use Rattle.std.proofs.Common.{◌≡◌, ◌++◌, List, length, sym, ap, ◌∙◌, subst}
use Rattle.std.proofs.lemmas.List.{with_items_is}
use Rattle.model.specs.Lists.{update_at}
use Rattle.model.specs.runs.RunState.{with_registers}
use Rattle.model.specs.state.State.{Memory}
use Rattle.model.proofs.lists.Lists.{length-update_at}
use Rattle.model.specs.shown.Outcome.{words_written}
use Rattle.model.specs.shown.Overlay.{slots_after}
use Rattle.archetype_store.specs.Store.{StoreValue}
use Rattle.body.specs.KeptPlans.{forms_of}
use Rattle.body.specs.Laid.{with_slots}
use Rattle.body.specs.Lent.{lent_in, with_back}
use Rattle.body.specs.Out.{AreOut}
use Rattle.body.specs.Seen.{Seen}
use Rattle.body.specs.Steps.{StateValue, IsInTime, store_of}
use Rattle.body.proofs.KeptPlans.{forms-back}
use Rattle.body.proofs.Outs.{out-closed, out-same}
use Rattle.body.proofs.Times.{kept_in_time}
use Rattle.body.proofs.open_state.OpenState.close.Goals as goal

pub invariant_of-self-2 : goal.invariant_of-self-2
invariant_of-self-2 c =
    let n = c.args.system in
    let registers = c.close-commands.result.0 in
    let before = c.self.inside.systems in
    let after : c.keep_registers.new.memories ≡ update_at n (with_registers registers) before.items
    = c.keep_registers.ensures.memories ∙ ap (λ (ms : List Memory). update_at n (with_registers registers) ms) c.deref_mut-2.ensures.value in
    let whole = with_items_is before c.keep_registers.new.memories (ap length after ∙ length-update_at n (with_registers registers) before.items ∙ sym before.ok.0) ∙ after in
    let now = c.close-commands.new.world.state.clock in
    let clock_is = ap (λ (x : StoreValue). x.state.clock) c.close-commands.ensures.home in
    record {
      in_time = record {
        systems_in = subst (λ (ms : List Memory). IsInTime now ms) (sym whole)
            (subst (λ clock. IsInTime clock (update_at n (with_registers registers) before.items)) (sym clock_is)
            (kept_in_time c.self.inside.world.state.clock n registers before.items c.keep_registers.ensures.count c.self.invariant.in_time.systems_in));
        conditions_in = subst (λ clock. IsInTime clock c.self.inside.conditions.items) (sym clock_is) c.self.invariant.in_time.conditions_in;
      };
      counted = c.self.invariant.counted;
      planned_is = c.self.invariant.planned_is ∙ sym (ap (λ (x : StoreValue). forms_of x.layout) c.close-commands.ensures.home ∙ forms-back (lent_in c.deref_mut.result.now.opening.taken) c.self.inside.world.layout);
    }

pub returns-clause-out : goal.returns-clause-out
returns-clause-out c = λ front rest held.
    let view = c.deref_mut.result.now in
    let here = subst (λ (v : Seen). AreOut (store_of c.args.self.now) (front ++ (v.opening.taken ++ rest))) (sym c.deref_mut.ensures.value) held in
    let w = c.self.inside.world in
    let words = words_written view.params.queries view.shown.rows view.outcome.cells in
    let closed : StoreValue = record { state = with_slots w.state (slots_after view.opening.tick words w.state.slots); layout = with_back (lent_in view.opening.taken) w.layout } in
    out-same closed c.close-commands.new.world (front ++ rest) (ap (λ (x : StoreValue). x.state.slots) c.close-commands.ensures.home) (ap (λ (x : StoreValue). x.layout) c.close-commands.ensures.home)
    (out-closed w view.opening.tick words front view.opening.taken rest c.prove_laid.ensures c.close-commands.ensures.reach
    (subst (λ (s : StateValue). AreOut (store_of s) (front ++ (view.opening.taken ++ rest))) (sym c.self.view_is) here))
