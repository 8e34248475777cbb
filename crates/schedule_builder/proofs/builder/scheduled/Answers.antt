use Rattle.std.proofs.Common.{◌≡◌, ℕ, ◌++◌, ◌∷◌, [], List, length, map, sym, subst, ap, ◌∙◌}
use Rattle.std.specs.Vec.Iter.{into_iter_items}
use Rattle.std.proofs.lemmas.List.{append_assoc, map-append}
use Rattle.model.specs.access.Access.{Params}
use Rattle.model.specs.declarations.Declarations.{DeclaredSystem}
use Rattle.model.specs.steps.Schedule.{ScheduledSystem}
use Rattle.cycle_search.specs.declared.order.Order.{Order}
use Rattle.schedule_builder.specs.ScheduleOrder.{items_before, system_with, scheduled, AreScheduled}
use Rattle.schedule_builder.proofs.Assembly.{scheduled_more}
use Rattle.schedule_builder.proofs.builder.scheduled.Goals as goal

-- a system of these parts
abbrev of_parts : Params → List ℕ → ScheduledSystem
of_parts params predecessors = record { params = params; predecessors = predecessors; level = 0 }

pub loop-touched-preserved : goal.loop-touched-preserved
loop-touched-preserved c =
    let orders : List Order = c.args.edges.now in
    let built : List ScheduledSystem = c.loop-touched.built.items in
    let touched : Params = c.in-Some.touched in
    let s : DeclaredSystem = system_with touched in
    let number : c.len.result ≡ length built = c.len.ensures ∙ c.loop-touched.built.ok.0 in
    let new : c.new.result ≡ scheduled orders (length built) s.params 0 =
    c.new.ensures ∙ ap (of_parts touched) (c.in_ok-predecessors.ensures ∙ ap (items_before orders) number) in
    let pushed : c.push.new.self.items ≡ built ++ scheduled orders (length built) s.params 0 ∷ [] = c.in_ok-push.ensures.items ∙ ap (λ (x : ScheduledSystem). built ++ x ∷ []) new in
    record {
      whole =
          append_assoc c.loop-touched.yielded (touched ∷ []) (into_iter_items c.next.new.self)
          ∙ (ap (λ (xs : List Params). c.loop-touched.yielded ++ xs) (sym c.in-Some.ensures.steps.0) ∙ c.loop-touched.invariant.whole);
      built = subst (λ (xs : List DeclaredSystem). AreScheduled orders [] xs c.push.new.self.items) (sym (map-append system_with c.loop-touched.yielded (touched ∷ [])))
          (subst (λ (xs : List ScheduledSystem). AreScheduled orders [] (map system_with c.loop-touched.yielded ++ s ∷ []) xs) (sym pushed) (scheduled_more orders (map system_with c.loop-touched.yielded) built s c.loop-touched.invariant.built));
    }
