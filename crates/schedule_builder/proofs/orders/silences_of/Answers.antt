use Rattle.std.proofs.Common.{ap, ◌∙◌, arith}
use Rattle.model.specs.declarations.Declarations.{DeclaredItem, items_of, silences_in, orders_before}
use Rattle.system_set.specs.Pairs.{pairs_of}
use Rattle.schedule_builder.proofs.Lookups.{from_more, from_each-all}
use Rattle.schedule_builder.proofs.orders.silences_of.Goals as goal

pub loop-number-preserved : goal.loop-number-preserved
loop-number-preserved c =
    let d = c.args.desc.now in
    from_more (silences_in d) (items_of d) c.loop-number.number (pairs_of c.loop-number.pairs.items) (pairs_of c.push_before.new.orders.items) _ (omega (arith, c.count-number-end.ensures)) c.loop-number.invariant c.in_ok-push_before.ensures
    (ap (orders_before d c.loop-number.number) (c.ambiguous_with.ensures ∙ ap (λ (i : DeclaredItem). i.ambiguous_with) c.item-item.ensures))

pub returns : goal.returns
returns c = c.loop-number.invariant ∙ from_each-all (silences_in c.args.desc.now) (items_of c.args.desc.now) c.loop-number.number (omega (arith, c.count-number-end.ensures))
