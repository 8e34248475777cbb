use Rattle.std.proofs.Common.{◌≡◌, ℕ, ◌<◌, ◌++◌, ◌∷◌, [], List, length, get_or, sym, subst, ap, ◌∙◌}
use Rattle.std.specs.Vec.Iter.{into_iter_items}
use Rattle.std.proofs.lemmas.List.{append_assoc}
use Rattle.model.specs.access.Condition.{Condition}
use Rattle.model.specs.steps.Schedule.{ScheduledCondition}
use Rattle.schedule_builder.specs.Asked.{scheduled_condition, AreScheduledConditions}
use Rattle.schedule_builder.proofs.Askings.{scheduled_more, read_coverage, more_coverage}
use Rattle.schedule_builder.proofs.condition_faults.scheduled_conditions.Goals as goal

pub loop-cond-preserved : goal.loop-cond-preserved
loop-cond-preserved c =
    let coverage : List (List ℕ) = c.args.coverage.now in
    let built : List ScheduledCondition = c.loop-cond.conditions.items in
    let x : Condition = c.in-Some.cond in
    let whole =
    append_assoc c.loop-cond.yielded (x ∷ []) (into_iter_items c.next.new.self)
    ∙ (ap (λ (xs : List Condition). c.loop-cond.yielded ++ xs) (sym c.in-Some.ensures.steps.0) ∙ c.loop-cond.invariant.whole) in
    let number : c.len.result ≡ length built = c.len.ensures ∙ c.loop-cond.conditions.ok.0 in
    let low : length built < length coverage = more_coverage c.loop-cond.yielded c.args.asked.items x (into_iter_items c.next.new.self) built coverage (sym (append_assoc c.loop-cond.yielded (x ∷ []) (into_iter_items c.next.new.self)) ∙ whole) c.loop-cond.invariant.made c.requires in
    let covers : c.in_ok-covers.covers.items ≡ get_or coverage (length built) [] =
    c.in_ok-covers.ensures.items_if_clones_equal (λ x y e. e) ∙ (c.numbers.ensures ∙ read_coverage coverage (length built) c.index-coverage-len.result low (c.index-coverage-len.is ∙ ap (λ (k : ℕ). get_or coverage k c.index-coverage-len.result) number)) in
    let new : c.in_ok-new.field-0 ≡ scheduled_condition x (get_or coverage (length built) []) = c.in_ok-new.ensures ∙ ap (scheduled_condition x) covers in
    record {
      whole = whole;
      made = subst (λ (xs : List ScheduledCondition). AreScheduledConditions (c.loop-cond.yielded ++ x ∷ []) coverage xs) (sym c.in_ok-push.ensures.items) (scheduled_more c.loop-cond.yielded coverage built x c.in_ok-new.field-0 c.loop-cond.invariant.made new);
    }
