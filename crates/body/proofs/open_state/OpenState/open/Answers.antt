use Rattle.std.proofs.Common.{◌++◌, true, sym, ap, ◌∙◌, subst}
use Rattle.std.specs.List.{AllByRecursion}
use Rattle.model.proofs.lists.Each.{each-weaker}
use Rattle.archetype_store.specs.Store.{StoreValue}
use Rattle.query_plan.specs.Standing.{ArePickedHome}
use Rattle.body.specs.KeptPlans.{forms_of}
use Rattle.body.specs.Lent.{AreLent, lent_in}
use Rattle.body.specs.Out.{IsWrittenBy, AreOut}
use Rattle.body.specs.Steps.{StateValue, AreInTime, store_of}
use Rattle.body.proofs.KeptPlans.{forms-away}
use Rattle.body.proofs.Lendings.{IsAt}
use Rattle.body.proofs.Outs.{out-opened, written-home}
use Rattle.body.proofs.open_state.OpenState.open.Goals as goal

pub returns-clause-out : goal.returns-clause-out
returns-clause-out c = λ others held.
    let w = c.self.inside.world in
    let taken = c.open_planned-opened.new.self.opening.taken in
    let queries = c.args.params.now.queries in
    let ok = c.in_ok-opened.ensures in
    let home = subst (λ (s : StateValue). AllByRecursion (λ query. ArePickedHome query s.layout) queries) (sym c.self.view_is) c.requires.home in
    subst (λ (v : StoreValue). AreOut v (others ++ taken)) (sym ok.away)
    (out-opened w.state w.layout others taken
    (subst (λ (s : StateValue). AreOut (store_of s) others) (sym c.self.view_is) held)
    (subst (λ v. AreLent v taken) ok.away ok.lent)
    (each-weaker (IsWrittenBy queries w.layout) (IsAt true w.layout) (written-home queries w.layout home) (lent_in taken) ok.written))

pub invariant_of-self-2 : goal.invariant_of-self-2
invariant_of-self-2 c =
    let s = c.self.inside in
    let away = c.in_ok-opened.ensures.away in
    record {
      in_time = subst (λ (w : StoreValue). AreInTime w.state.clock s.systems.items s.conditions.items) (sym away) c.self.invariant.in_time;
      counted = c.self.invariant.counted;
      planned_is = c.put.ensures ∙ c.take-plans.ensures.same ∙ c.self.invariant.planned_is
          ∙ sym (ap (λ (w : StoreValue). forms_of w.layout) away ∙ forms-away (lent_in c.open_planned-opened.new.self.opening.taken) s.world.layout);
    }
