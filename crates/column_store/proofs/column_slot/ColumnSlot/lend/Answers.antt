use Rattle.column_store.proofs.Common.{sym, ap, ◌∙◌, slot_of, seen_slot}
use Rattle.column_store.proofs.Moved.{home_by_owned, left_column, left_slot}
use Rattle.column_store.proofs.column_slot.ColumnSlot.lend.Goals as goal

pub seen-requires : goal.seen-requires
seen-requires c = home_by_owned c.args.self.now c.own.new.self c.in_ok-own.ensures.ok

pub returns-clause-column : goal.returns-clause-column
returns-clause-column c = left_column c.self.inside.spot c.in-Home.column c.own.new.self c.args.self.now (sym c.replace.ensures.value ∙ c.in-Home.is) c.self.view_is c.in_ok-own.ensures.ok

pub returns-clause-away : goal.returns-clause-away
returns-clause-away c =
    ap (λ s. seen_slot (slot_of s)) c.replace.ensures.after ∙ left_slot c.of-left.result.value c.seen.result.now c.own.new.self c.args.self.now c.of-left.ensures c.seen.ensures c.in_ok-own.ensures.ok
