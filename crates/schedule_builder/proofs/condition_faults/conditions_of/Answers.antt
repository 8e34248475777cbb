use Rattle.std.proofs.Common.{[], map, ap, ◌∙◌, arith}
use Rattle.model.specs.declarations.Declarations.{DeclaredItem, plain_item, items_of}
use Rattle.schedule_builder.proofs.Askings.{asked_end, flat_next}
use Rattle.schedule_builder.proofs.condition_faults.conditions_of.Goals as goal

pub loop-number-preserved : goal.loop-number-preserved
loop-number-preserved c =
    flat_next (λ (i : DeclaredItem). i.conditions) (items_of c.args.desc.now) c.loop-number.number (plain_item []) (map (λ x. x.now) c.loop-number.asked.items) (map (λ x. x.now) c.push_conditions.new.asked.items) c.conditions.result.now
    (omega (arith, c.count-number-end.ensures)) c.loop-number.invariant c.in_ok-push_conditions.ensures (c.conditions.ensures ∙ ap (λ (i : DeclaredItem). i.conditions) c.item.ensures)

pub returns : goal.returns
returns c = asked_end c.args.desc.now c.loop-number.number _ (omega (arith, c.count-number-end.ensures)) c.loop-number.invariant
