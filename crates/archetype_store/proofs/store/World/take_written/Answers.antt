use Rattle.archetype_store.proofs.Common.{◌≡◌, ◌+◌, get_or, take, Some, true, false, refl, sym, ap, subst, ◌∙◌, arith, get_or_default, take_all, Position, kind_number, ColumnAt, TakenColumn, archetype_at, column_home, with_home, column_cells, StoreValue, CanComeHome, AreTaken, all_away, all_home}
use Rattle.archetype_store.proofs.ColumnLoans.{back_again, can_next, can_take, away_next, taken_next}
use Rattle.archetype_store.proofs.store.World.take_written.Goals as goal

pub take_column-requires : goal.take_column-requires
take_column-requires c =
    let ps = c.args.columns.now in
    let i = c.loop-at.at-index in
    let d : ColumnAt = record { archetype = 0; kind = Position } in
    let p = get_or ps i d in
    let is : p ≡ get_or ps i p = get_or_default ps i d p c.loop-at-test.true in
    let layout = c.args.self.now.layout in
    let k = kind_number p.kind in
    subst (λ (w : StoreValue). column_home (archetype_at w.layout p.archetype) k ≡ Some true) (sym c.loop-at.invariant.away) (can_next layout ps i p c.loop-at-test.true is c.requires)

pub put_back-requires : goal.put_back-requires
put_back-requires c =
    let ps = c.args.columns.now in
    let i = c.loop-at.at-index in
    let layout = c.args.self.now.layout in
    let back = back_again c.args.self.now.state c.prove_shape.ensures layout (take i ps) c.loop-at.taken.items c.prove_laid.ensures (can_take layout ps i c.requires) c.loop-at.invariant.taken in
    subst (CanComeHome c.loop-at.taken.items) (sym (c.in-Err.ensures.err ∙ c.loop-at.invariant.away)) back.1

pub returns-in-Err-clause-err : goal.returns-in-Err-clause-err
returns-in-Err-clause-err c =
    let ps = c.args.columns.now in
    let i = c.loop-at.at-index in
    let layout = c.args.self.now.layout in
    let back = back_again c.args.self.now.state c.prove_shape.ensures layout (take i ps) c.loop-at.taken.items c.prove_laid.ensures (can_take layout ps i c.requires) c.loop-at.invariant.taken in
    c.put_back.ensures ∙ ap (all_home c.loop-at.taken.items) (c.in-Err.ensures.err ∙ c.loop-at.invariant.away) ∙ back.0

pub loop-at-preserved : goal.loop-at-preserved
loop-at-preserved c =
    let ps = c.args.columns.now in
    let i = c.loop-at.at-index in
    let d : ColumnAt = record { archetype = 0; kind = Position } in
    let p = get_or ps i d in
    let is : p ≡ get_or ps i p = get_or_default ps i d p c.loop-at-test.true in
    let slots = c.args.self.now.state.slots in
    let layout = c.args.self.now.layout in
    let k = kind_number p.kind in
    let cells = c.in-Ok.ensures.cells ∙ ap (λ (w : StoreValue). column_cells w.state.slots (archetype_at w.layout p.archetype).entities k) c.loop-at.invariant.away in
    let new : TakenColumn = record { archetype = p.archetype; column = c.in-Ok.column } in
    record {
      away = c.in-Ok.ensures.away ∙ ap (λ (w : StoreValue). let v : StoreValue = record { state = w.state; layout = with_home false p.archetype k w.layout } in v) c.loop-at.invariant.away
          ∙ ap (λ l. let v : StoreValue = record { state = c.args.self.now.state; layout = l } in v) (sym (away_next slots layout ps i p c.loop-at-test.true is));
      taken = subst (AreTaken slots layout (take (i + 1) ps)) (sym c.push_reserved.ensures.items)
          (taken_next slots layout ps i p c.loop-at-test.true is c.loop-at.taken.items new c.loop-at.invariant.taken refl c.in-Ok.ensures.kind cells);
      many = omega (arith, c.push_reserved.ensures.len, c.loop-at.invariant.many);
      room = omega (arith, c.push_reserved.ensures.capacity, c.loop-at.invariant.room);
    }

pub returns-clause-taken : goal.returns-clause-taken
returns-clause-taken c =
    let world = c.args.self.now in
    subst (λ ps. AreTaken world.state.slots world.layout ps c.loop-at.taken.items) (take_all c.loop-at.at-index c.args.columns.now c.loop-at-test.false) c.loop-at.invariant.taken

pub returns-clause-away : goal.returns-clause-away
returns-clause-away c =
    let world = c.args.self.now in
    c.loop-at.invariant.away ∙ ap (λ ps. let v : StoreValue = record { state = world.state; layout = all_away ps world.layout } in v) (take_all c.loop-at.at-index c.args.columns.now c.loop-at-test.false)
