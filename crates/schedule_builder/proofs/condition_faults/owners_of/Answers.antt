use Rattle.std.proofs.Common.{ℕ, List, map, ap, ◌∙◌, arith}
use Rattle.model.specs.access.Condition.{Condition}
use Rattle.model.specs.declarations.Declarations.{DeclaredItem, items_of}
use Rattle.schedule_builder.proofs.Askings.{owners_next, owners_end}
use Rattle.schedule_builder.proofs.condition_faults.owners_of.Goals as goal

pub loop-number-preserved : goal.loop-number-preserved
loop-number-preserved c =
    let n : ℕ = c.loop-number.number in
    owners_next (items_of c.args.desc.now) n c.loop-number.owners.items c.push_owner.new.owners.items _ (omega (arith, c.count-number-end.ensures)) c.loop-number.invariant c.in_ok-push_owner.ensures
    (ap (λ (cs : List Condition). map (λ _. n) cs) (c.conditions.ensures ∙ ap (λ (i : DeclaredItem). i.conditions) c.item.ensures))

pub returns : goal.returns
returns c = owners_end c.args.desc.now c.loop-number.number _ (omega (arith, c.count-number-end.ensures)) c.loop-number.invariant
