use Rattle.std.proofs.Common.{◌≡◌, ◌++◌, ◌∷◌, [], List, map, flat_map, sym, ap, ◌∙◌}
use Rattle.std.specs.Vec.Iter.{into_iter_items}
use Rattle.std.proofs.lemmas.List.{append_assoc, map-append, flat_map_more}
use Rattle.model.specs.access.Access.{Params}
use Rattle.model.specs.access.Condition.{Condition}
use Rattle.model.specs.declarations.Declarations.{DeclaredItem, DeclaredSystem}
use Rattle.schedule_builder.proofs.desc_parts.parts_of_systems.Goals as goal

-- the parameters of one system more
touched_next : (systems : List DeclaredSystem) (s : DeclaredSystem) (parts : DeclaredItem × Params) (old new : List Params) → parts ≡ (s.item, s.params) → old ≡ map (λ x. x.params) systems → new ≡ old ++ parts.1 ∷ [] →
    new ≡ map (λ x. x.params) (systems ++ s ∷ [])
touched_next systems s parts old new are is more =
    more ∙ (ap (λ ps. ps ++ parts.1 ∷ []) is ∙ (ap (λ (r : DeclaredItem × Params). map (λ x. x.params) systems ++ r.1 ∷ []) are ∙ sym (map-append (λ x. x.params) systems (s ∷ []))))

-- and its conditions
moved_next : (front : List Condition) (systems : List DeclaredSystem) (s : DeclaredSystem) (parts : DeclaredItem × Params) (old new more : List Condition) → parts ≡ (s.item, s.params) →
    old ≡ front ++ flat_map (λ x. x.item.conditions) systems → more ≡ parts.0.conditions → new ≡ old ++ more → new ≡ front ++ flat_map (λ x. x.item.conditions) (systems ++ s ∷ [])
moved_next front systems s parts old new more are is has longer =
    longer
    ∙ (ap (λ cs. cs ++ more) is
    ∙ (ap (λ cs. (front ++ flat_map (λ (x : DeclaredSystem). x.item.conditions) systems) ++ cs) (has ∙ ap (λ (r : DeclaredItem × Params). r.0.conditions) are) ∙ flat_map_more (λ (x : DeclaredSystem). x.item.conditions) front systems s))

pub loop-system-preserved : goal.loop-system-preserved
loop-system-preserved c =
    let yielded : List DeclaredSystem = c.loop-system.yielded in
    let s : DeclaredSystem = c.in-Some.system in
    record {
      whole =
          append_assoc yielded (s ∷ []) (into_iter_items c.next.new.self)
          ∙ (ap (λ (xs : List DeclaredSystem). yielded ++ xs) (sym c.in-Some.ensures.steps.0) ∙ c.loop-system.invariant.whole);
      touched = touched_next yielded s c.into_parts-item.result c.loop-system.params.items c.push.new.self.items c.into_parts-item.ensures c.loop-system.invariant.touched c.in_ok-push.ensures.items;
      moved = moved_next c.args.conditions.items yielded s c.into_parts-item.result c.loop-system.moved.items c.append_conditions.new.conditions.items c.into_conditions.result.items c.into_parts-item.ensures
          c.loop-system.invariant.moved c.into_conditions.ensures c.in_ok-append_conditions.ensures;
    }
