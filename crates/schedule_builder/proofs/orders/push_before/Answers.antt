use Rattle.std.proofs.Common.{ℕ, sym, ap, arith}
use Rattle.std.proofs.lemmas.List.{append-nil}
use Rattle.cycle_search.specs.declared.order.Order.{Order}
use Rattle.system_set.specs.Pairs.{pairs_of}
use Rattle.schedule_builder.proofs.Lookups.{before_name, before_names, pushed_pair, pushed_all}
use Rattle.schedule_builder.proofs.orders.push_before.Goals as goal

pub loop-name-init : goal.loop-name-init
loop-name-init c = sym (append-nil (pairs_of c.args.orders.now.items))

pub loop-name-preserved : goal.loop-name-preserved
loop-name-preserved c =
    let d = c.args.desc.now in
    let o : Order = record { first = c.args.number; second = c.place_of-second.result } in
    pushed_pair (before_name d c.args.number) c.args.names.now c.loop-name.name-index c.name-item.result (pairs_of c.args.orders.now.items) c.loop-name.orders.items c.push.new.self.items o (omega arith) c.name-item.is c.loop-name.invariant
    (ap (λ (k : ℕ). (c.args.number, k)) c.place_of-second.ensures) c.in_ok-push.ensures.items

pub returns : goal.returns
returns c =
    pushed_all (before_name c.args.desc.now c.args.number) c.args.names.now c.loop-name.name-index (pairs_of c.args.orders.now.items) _ c.loop-name.orders.items (omega arith) (before_names c.args.desc.now c.args.number c.args.names.now) c.loop-name.invariant
