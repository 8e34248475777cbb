use Rattle.std.proofs.Common.{◌≡◌, ◌+◌, get_or, take, map, refl, sym, ap, subst, ◌∙◌, arith}
use Rattle.std.proofs.lemmas.List.{get_or_default, take_all, map-append}
use Rattle.kinds.specs.declared.kind.Kind.TheVariants.{Position}
use Rattle.kinds.specs.Kind.{kind_number}
use Rattle.archetype_store.specs.declared.columns.ColumnAt.{ColumnAt}
use Rattle.archetype_store.specs.declared.columns.SharedColumn.{SharedColumn}
use Rattle.archetype_store.specs.Layout.{archetype_at}
use Rattle.archetype_store.specs.Lending.{CanComeHome, all_home}
use Rattle.archetype_store.specs.Slot.{column_cells}
use Rattle.archetype_store.specs.Store.{StoreValue}
use Rattle.body.specs.HeldColumns.{held_seen}
use Rattle.body.specs.Lent.{lent_of}
use Rattle.body.specs.Picked.{AreReadOf}
use Rattle.body.proofs.HeldPicks.{read-none, read-next, read-lent}
use Rattle.body.proofs.columns.hold_read.Goals as goal

pub loop-at-init : goal.loop-at-init
loop-at-init c = record {
  same = refl;
  read = read-none c.args.world.now (map held_seen c.args.columns.items) (map held_seen c.args.columns.items) refl;
  many = omega arith;
  capacity = refl;
}

pub push_reserved-requires : goal.push_reserved-requires
push_reserved-requires c = let l = c.loop-at-test.true in omega (arith, c.loop-at.invariant.many, c.loop-at.invariant.capacity, c.requires.room)

pub loop-at-preserved : goal.loop-at-preserved
loop-at-preserved c =
    let ps = c.args.spots.now in
    let i = c.loop-at.at-index in
    let d : ColumnAt = record { archetype = 0; kind = Position } in
    let p = get_or ps i d in
    let is : p ≡ get_or ps i p = get_or_default ps i d p c.loop-at-test.true in
    let w = c.args.world.now in
    let k = kind_number p.kind in
    let cells = c.in-Ok.ensures.cells ∙ ap (λ (v : StoreValue). column_cells v.state.slots (archetype_at v.layout p.archetype).entities k) c.loop-at.invariant.same in
    let new : SharedColumn = record { archetype = p.archetype; column = c.in-Ok.column } in
    let same = c.in-Ok.ensures.same ∙ c.loop-at.invariant.same in
    record {
      same = same;
      read = subst (AreReadOf w (take (i + 1) ps) (map held_seen c.args.columns.items)) (sym (ap (map held_seen) c.push_reserved.ensures.items ∙ map-append held_seen c.loop-at.held.items _))
          (read-next w c.of.result.value ps i p (map held_seen c.args.columns.items) (map held_seen c.loop-at.held.items) new c.loop-at-test.true is c.loop-at.invariant.read (c.of.ensures ∙ same) refl c.in-Ok.ensures.kind cells);
      many = omega (arith, c.push_reserved.ensures.len, c.loop-at.invariant.many);
      capacity = c.push_reserved.ensures.capacity ∙ c.loop-at.invariant.capacity;
    }

pub put_columns-list-requires : goal.put_columns-list-requires
put_columns-list-requires c =
    let w = c.args.world.now in
    let before = map held_seen c.args.columns.items in
    let columns = map held_seen c.loop-at.held.items in
    let lent = read-lent w (take c.loop-at.at-index c.args.spots.now) before columns c.loop-at.invariant.read in
    subst (CanComeHome (lent_of columns)) (sym (c.in-Err.ensures.same ∙ c.loop-at.invariant.same)) (subst (λ cs. CanComeHome cs w) (sym lent) c.requires.lent)

pub returns-in-Err-clause-err : goal.returns-in-Err-clause-err
returns-in-Err-clause-err c =
    let w = c.args.world.now in
    let before = map held_seen c.args.columns.items in
    let columns = map held_seen c.loop-at.held.items in
    let lent = read-lent w (take c.loop-at.at-index c.args.spots.now) before columns c.loop-at.invariant.read in
    c.put_columns-list.ensures ∙ ap (all_home (lent_of columns)) (c.in-Err.ensures.same ∙ c.loop-at.invariant.same) ∙ ap (λ cs. all_home cs w) lent

pub returns-clause-held : goal.returns-clause-held
returns-clause-held c =
    subst (λ ps. AreReadOf c.args.world.now ps (map held_seen c.args.columns.items) (map held_seen c.loop-at.held.items)) (take_all c.loop-at.at-index c.args.spots.now c.loop-at-test.false) c.loop-at.invariant.read

pub returns-clause-same : goal.returns-clause-same
returns-clause-same c = c.loop-at.invariant.same
