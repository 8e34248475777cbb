use Rattle.std.proofs.Common.{◌≡◌, ℕ, ◌++◌, ◌∷◌, [], List, length, get_or, sym, subst, ap, ◌∙◌}
use Rattle.std.specs.Vec.Iter.{into_iter_items}
use Rattle.std.proofs.lemmas.List.{append_assoc}
use Rattle.model.specs.steps.Schedule.{ScheduledSystem}
use Rattle.schedule_builder.specs.Levels.{AreLevelledBy}
use Rattle.schedule_builder.proofs.Levelling.{levelled_more}
use Rattle.schedule_builder.proofs.builder.levelled.Goals as goal

pub loop-system-preserved : goal.loop-system-preserved
loop-system-preserved c =
    let built : List ScheduledSystem = c.loop-system.built.items in
    let levels : List ℕ = c.args.levels.now in
    let s : ScheduledSystem = c.in-Some.system in
    let number : c.len.result ≡ length built = c.len.ensures ∙ c.loop-system.built.ok.0 in
    let level : c.level_in-level.result ≡ get_or levels (length built) 0 = c.level_in-level.ensures ∙ ap (λ (k : ℕ). get_or levels k 0) number in
    let new : c.at_level.result ≡ record s { level = get_or levels (length built) 0 } = c.at_level.ensures ∙ ap (λ (k : ℕ). record s { level = k }) level in
    record {
      whole =
          append_assoc c.loop-system.yielded (s ∷ []) (into_iter_items c.next.new.self)
          ∙ (ap (λ (xs : List ScheduledSystem). c.loop-system.yielded ++ xs) (sym c.in-Some.ensures.steps.0) ∙ c.loop-system.invariant.whole);
      built = subst (λ (xs : List ScheduledSystem). AreLevelledBy levels (c.loop-system.yielded ++ s ∷ []) xs) (sym c.in_ok-push.ensures.items)
          (levelled_more levels c.loop-system.yielded built s c.at_level.result c.loop-system.invariant.built new);
    }
