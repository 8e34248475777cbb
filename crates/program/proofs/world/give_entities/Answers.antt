use Rattle.std.proofs.Common.{◌≡◌, List, [], length, false, Err, map, sym, ap, subst, ◌∙◌, rules}
use Rattle.std.specs.List.{AllByRecursion}
use Rattle.model.specs.declared.entities.Entity.{Entity}
use Rattle.archetype_store.specs.Changes.{changed, AreOfOtherIndices, CanChange}
use Rattle.archetype_store.specs.Store.{with_slots}
use Rattle.model.specs.state.Ids.{has_ids}
use Rattle.program.specs.Fault.{fault_of_grant}
use Rattle.program.specs.Load.{entity_given, AreGiven}
use Rattle.program.specs.Refused.{IsUngiven}
use Rattle.program.proofs.Serving.{of-given}
use Rattle.program.proofs.LoadedWorlds.{length-ids, too-many, ungiven, entities-apart, entities-can, entities-given}
use Rattle.program.proofs.world.give_entities.Goals as goal

pub changes_of-requires : goal.changes_of-requires
changes_of-requires c =
    let e : c.in-Ok.count ≡ length c.args.entities.now = search rules in
    subst (λ (es : List Entity). length es ≡ length c.args.entities.now) (sym c.deref.ensures.value)
    (length-ids c.in-Ok.count c.args.world.now.state.slots c.in_ok-ids.ids.items c.requires.empty c.in_ok-ids.ensures.ok ∙ e)

pub change-requires-clause-apart : goal.change-requires-clause-apart
change-requires-clause-apart c =
    let e : c.in-Ok.count ≡ length c.args.entities.now = search rules in
    let given = subst (λ es. AreGiven es (map entity_given c.args.entities.now) c.in_ok-changes.changes.items) c.deref.ensures.value c.in_ok-changes.ensures in
    subst AreOfOtherIndices (sym c.deref-2.ensures.value)
    (entities-apart c.args.entities.now c.in-Ok.count c.args.world.now.state c.grant.new.self.state c.in_ok-ids.ids.items c.in_ok-changes.changes.items c.requires.empty e c.in_ok-ids.ensures.ok given c.in_ok-ids.ensures.granted)

pub change-requires-clause-can : goal.change-requires-clause-can
change-requires-clause-can c =
    let e : c.in-Ok.count ≡ length c.args.entities.now = search rules in
    let given = subst (λ es. AreGiven es (map entity_given c.args.entities.now) c.in_ok-changes.changes.items) c.deref.ensures.value c.in_ok-changes.ensures in
    subst (AllByRecursion (CanChange c.grant.new.self.state)) (sym c.deref-2.ensures.value)
    (entities-can c.args.entities.now c.in-Ok.count c.args.world.now.state c.grant.new.self.state c.in_ok-ids.ids.items c.in_ok-changes.changes.items c.requires.empty e c.in_ok-ids.ensures.ok given c.in_ok-ids.ensures.granted
    c.requires.clock)

-- more entities than ids
pub returns-in_default-clause-refused : goal.returns-in_default-clause-refused
returns-in_default-clause-refused c = too-many (length c.args.entities.now) (search rules)

pub returns-in_err-ids-clause-refused : goal.returns-in_err-ids-clause-refused
returns-in_err-ids-clause-refused c =
    let e : c.in-Ok.count ≡ length c.args.entities.now = search rules in
    let error = c.in_err-ids.field-0.0 in
    let n = length c.args.entities.now in
    of-given (λ fault. fault ≡ fault_of_grant error) (IsUngiven n) c.from_residual.result c.from_residual.ensures.1
    (λ fault is. subst (IsUngiven n) (sym is) (ungiven n error
    (λ spent. subst (λ k. has_ids k [] ≡ false) e (subst (λ slots. has_ids c.in-Ok.count slots ≡ false) c.requires.empty (c.in_err-ids.ensures.spent.0 (ap Err spent))))))

pub returns-clause-given : goal.returns-clause-given
returns-clause-given c =
    let e : c.in-Ok.count ≡ length c.args.entities.now = search rules in
    let given = subst (λ es. AreGiven es (map entity_given c.args.entities.now) c.in_ok-changes.changes.items) c.deref.ensures.value c.in_ok-changes.ensures in
    c.in_ok-change.ensures.ok ∙ ap (λ cs. with_slots (changed cs) c.grant.new.self.state) c.deref-2.ensures.value
    ∙ entities-given c.args.entities.now c.in-Ok.count c.args.world.now.state c.grant.new.self.state c.in_ok-ids.ids.items c.in_ok-changes.changes.items c.requires.empty e c.in_ok-ids.ensures.ok given c.in_ok-ids.ensures.granted
