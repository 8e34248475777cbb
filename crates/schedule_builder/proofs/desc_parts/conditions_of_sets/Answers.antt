use Rattle.std.proofs.Common.{◌≡◌, ◌++◌, ◌∷◌, [], List, flat_map, sym, ap, ◌∙◌}
use Rattle.std.specs.Vec.Iter.{into_iter_items}
use Rattle.std.proofs.lemmas.List.{append_assoc, flat_map_more}
use Rattle.model.specs.access.Condition.{Condition}
use Rattle.model.specs.declarations.Declarations.{DeclaredItem}
use Rattle.schedule_builder.proofs.desc_parts.conditions_of_sets.Goals as goal

-- the conditions of one set more
moved_next : (sets : List DeclaredItem) (s : DeclaredItem) (old new more : List Condition) → old ≡ flat_map (λ x. x.conditions) sets → more ≡ s.conditions → new ≡ old ++ more → new ≡ flat_map (λ x. x.conditions) (sets ++ s ∷ [])
moved_next sets s old new more is has longer =
    longer ∙ (ap (λ cs. cs ++ more) is ∙ (ap (λ cs. flat_map (λ (x : DeclaredItem). x.conditions) sets ++ cs) has ∙ flat_map_more (λ (x : DeclaredItem). x.conditions) [] sets s))

pub loop-set-preserved : goal.loop-set-preserved
loop-set-preserved c =
    let yielded : List DeclaredItem = c.loop-set.yielded in
    let s : DeclaredItem = c.in-Some.set in
    record {
      whole =
          append_assoc yielded (s ∷ []) (into_iter_items c.next.new.self)
          ∙ (ap (λ (xs : List DeclaredItem). yielded ++ xs) (sym c.in-Some.ensures.steps.0) ∙ c.loop-set.invariant.whole);
      moved = moved_next yielded s c.loop-set.conditions.items c.append_conditions.new.conditions.items c.into_conditions.result.items c.loop-set.invariant.moved c.into_conditions.ensures c.in_ok-append_conditions.ensures;
    }
