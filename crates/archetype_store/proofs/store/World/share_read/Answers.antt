use Rattle.archetype_store.proofs.Common.{◌≡◌, ◌+◌, get_or, take, refl, sym, ap, subst, ◌∙◌, arith, get_or_default, take_all, Position, kind_number, ColumnAt, SharedColumn, archetype_at, column_cells, StoreValue, AreShared}
use Rattle.archetype_store.proofs.ColumnLoans.{shared_next}
use Rattle.archetype_store.proofs.store.World.share_read.Goals as goal

pub loop-at-preserved : goal.loop-at-preserved
loop-at-preserved c =
    let ps = c.args.columns.now in
    let i = c.loop-at.at-index in
    let d : ColumnAt = record { archetype = 0; kind = Position } in
    let p = get_or ps i d in
    let is : p ≡ get_or ps i p = get_or_default ps i d p c.loop-at-test.true in
    let slots = c.args.self.now.state.slots in
    let k = kind_number p.kind in
    let cells = c.in_ok-column.ensures.cells ∙ ap (λ (w : StoreValue). column_cells w.state.slots (archetype_at w.layout p.archetype).entities k) c.loop-at.invariant.same in
    let new : SharedColumn = record { archetype = p.archetype; column = c.in_ok-column.column } in
    record {
      same = c.in_ok-column.ensures.same ∙ c.loop-at.invariant.same;
      shared = subst (AreShared slots c.args.self.now.layout (take (i + 1) ps)) (sym c.push_reserved.ensures.items)
          (shared_next slots c.args.self.now.layout ps i p c.loop-at-test.true is c.loop-at.shared.items new c.loop-at.invariant.shared refl c.in_ok-column.ensures.kind cells);
      many = omega (arith, c.push_reserved.ensures.len, c.loop-at.invariant.many);
      room = omega (arith, c.push_reserved.ensures.capacity, c.loop-at.invariant.room);
    }

pub returns-clause-shared : goal.returns-clause-shared
returns-clause-shared c =
    let world = c.args.self.now in
    subst (λ ps. AreShared world.state.slots world.layout ps c.loop-at.shared.items) (take_all c.loop-at.at-index c.args.columns.now c.loop-at-test.false) c.loop-at.invariant.shared
