use Rattle.column_store.proofs.Common.{◌+◌, ◌∷◌, sym, subst, HasRoom, AreRoomier}
use Rattle.column_store.proofs.Kept.{roomier-same}
use Rattle.column_store.proofs.Turns.{none-each}
use Rattle.column_store.proofs.column_slot.+reserve_rows.Goals as goal

pub returns-in_err-reserve-clause-roomier : goal.returns-in_err-reserve-clause-roomier
returns-in_err-reserve-clause-roomier t c =
    subst (λ ps. AreRoomier ps (c.reserve.new.self ∷ c.in-Some.other_columns.now)) (sym c.in-Some.ensures.cases.0) (c.reserve.ensures.roomier, roomier-same c.in-Some.other_columns.now)

pub returns-in_default-clause-roomier : goal.returns-in_default-clause-roomier
returns-in_default-clause-roomier t c = roomier-same c.args.columns.now

pub returns-in_default-clause-ok : goal.returns-in_default-clause-ok
returns-in_default-clause-ok t c = none-each (HasRoom (c.args.count + c.args.further)) c.args.columns.now c.in_default.ensures.cases
