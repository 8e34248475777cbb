use Rattle.std.proofs.Common.{◌≡◌, ◌+◌, length, get_or, take, map, Some, true, false, refl, sym, ap, subst, ◌∙◌, arith}
use Rattle.std.proofs.lemmas.List.{get_or_default, take_all, map-append}
use Rattle.kinds.specs.declared.kind.Kind.TheVariants.{Position}
use Rattle.kinds.specs.Kind.{kind_number}
use Rattle.archetype_store.specs.declared.columns.ColumnAt.{ColumnAt}
use Rattle.archetype_store.specs.declared.columns.TakenColumn.{TakenColumn}
use Rattle.archetype_store.specs.Layout.{archetype_at, column_home, with_home}
use Rattle.archetype_store.specs.Lending.{all_away}
use Rattle.archetype_store.specs.Slot.{column_cells}
use Rattle.archetype_store.specs.Store.{StoreValue}
use Rattle.archetype_store.proofs.ColumnLoans.{can_next, can_take, away_next}
use Rattle.body.specs.HeldColumns.{held_seen}
use Rattle.body.specs.Picked.{AreOwnOf}
use Rattle.body.proofs.HeldPicks.{own-none, own-next, own-can, own-back}
use Rattle.body.proofs.columns.hold_own.Goals as goal

pub loop-at-init : goal.loop-at-init
loop-at-init c = record {
  away = refl;
  own = own-none c.args.world.now (map held_seen c.args.columns.items) (ap (map held_seen) c.requires.empty);
  many = let none = ap length c.requires.empty in omega (arith, none, c.args.columns.ok.0);
  capacity = refl;
}

pub take_column-requires : goal.take_column-requires
take_column-requires c =
    let ps = c.args.spots.now in
    let i = c.loop-at.at-index in
    let d : ColumnAt = record { archetype = 0; kind = Position } in
    let p = get_or ps i d in
    let is : p ≡ get_or ps i p = get_or_default ps i d p c.loop-at-test.true in
    let layout = c.args.world.now.layout in
    let k = kind_number p.kind in
    subst (λ (w : StoreValue). column_home (archetype_at w.layout p.archetype) k ≡ Some true) (sym c.loop-at.invariant.away) (can_next layout ps i p c.loop-at-test.true is c.requires.can)

pub push_reserved-requires : goal.push_reserved-requires
push_reserved-requires c = let l = c.loop-at-test.true in omega (arith, c.loop-at.invariant.many, c.loop-at.invariant.capacity, c.requires.room)

pub loop-at-preserved : goal.loop-at-preserved
loop-at-preserved c =
    let ps = c.args.spots.now in
    let i = c.loop-at.at-index in
    let d : ColumnAt = record { archetype = 0; kind = Position } in
    let p = get_or ps i d in
    let is : p ≡ get_or ps i p = get_or_default ps i d p c.loop-at-test.true in
    let w = c.args.world.now in
    let k = kind_number p.kind in
    let cells = c.in-Ok.ensures.cells ∙ ap (λ (v : StoreValue). column_cells v.state.slots (archetype_at v.layout p.archetype).entities k) c.loop-at.invariant.away in
    let new : TakenColumn = record { archetype = p.archetype; column = c.in-Ok.column } in
    let away = c.in-Ok.ensures.away ∙ ap (λ (x : StoreValue). let v : StoreValue = record { state = x.state; layout = with_home false p.archetype k x.layout } in v) c.loop-at.invariant.away
    ∙ ap (λ l. let v : StoreValue = record { state = w.state; layout = l } in v) (sym (away_next w.state.slots w.layout ps i p c.loop-at-test.true is)) in
    record {
      away = away;
      own = subst (AreOwnOf w (take (i + 1) ps)) (sym (ap (map held_seen) c.push_reserved.ensures.items ∙ map-append held_seen c.loop-at.held.items _))
          (own-next w c.of.result.value ps i p (map held_seen c.loop-at.held.items) new c.loop-at-test.true is c.loop-at.invariant.own (c.of.ensures ∙ away) refl c.in-Ok.ensures.kind cells);
      many = omega (arith, c.push_reserved.ensures.len, c.loop-at.invariant.many);
      capacity = c.push_reserved.ensures.capacity ∙ c.loop-at.invariant.capacity;
    }

pub put_columns-list-requires : goal.put_columns-list-requires
put_columns-list-requires c =
    let w = c.args.world.now in
    let ps = take c.loop-at.at-index c.args.spots.now in
    own-can w _ ps (map held_seen c.loop-at.held.items) c.prove_laid.ensures c.now-now.ensures.world (can_take w.layout c.args.spots.now c.loop-at.at-index c.requires.can) c.loop-at.invariant.own (c.in-Err.ensures.err ∙ c.loop-at.invariant.away)

pub returns-in-Err-clause-err : goal.returns-in-Err-clause-err
returns-in-Err-clause-err c =
    let w = c.args.world.now in
    let ps = take c.loop-at.at-index c.args.spots.now in
    c.put_columns-list.ensures
    ∙ own-back w _ ps (map held_seen c.loop-at.held.items) c.prove_laid.ensures c.now-now.ensures.world (can_take w.layout c.args.spots.now c.loop-at.at-index c.requires.can) c.loop-at.invariant.own (c.in-Err.ensures.err ∙ c.loop-at.invariant.away)

pub returns-clause-held : goal.returns-clause-held
returns-clause-held c = subst (λ ps. AreOwnOf c.args.world.now ps (map held_seen c.loop-at.held.items)) (take_all c.loop-at.at-index c.args.spots.now c.loop-at-test.false) c.loop-at.invariant.own

pub returns-clause-away : goal.returns-clause-away
returns-clause-away c =
    let w = c.args.world.now in
    c.loop-at.invariant.away ∙ ap (λ ps. let v : StoreValue = record { state = w.state; layout = all_away ps w.layout } in v) (take_all c.loop-at.at-index c.args.spots.now c.loop-at-test.false)
