use Rattle.std.proofs.Common.{List, map, sym, ap, ◌∙◌, subst}
use Rattle.archetype_store.specs.Layout.{Archetype}
use Rattle.archetype_store.specs.Lending.{CanShare}
use Rattle.archetype_store.specs.Store.{StoreValue}
use Rattle.column_store.proofs.Turns.{on_err_from}
use Rattle.query_plan.specs.Picks.{pick_seen}
use Rattle.body.specs.HeldColumns.{held_seen}
use Rattle.body.proofs.HeldPicks.{held-of, away-of, own-can, own-back, can-share-after}
use Rattle.body.proofs.Pickings.{can_take_own}
use Rattle.body.proofs.columns.take_requested.Goals as goal

pub hold_own-requires-clause-can : goal.hold_own-requires-clause-can
hold_own-requires-clause-can c =
    rw (c.deref.ensures.value) (can_take_own c.args.world.now.layout c.args.requests.now.own.items (map pick_seen c.args._picks.now) c.requires.requests.own_are c.requires.home c.requires.others)

pub hold_own-requires-clause-empty : goal.hold_own-requires-clause-empty
hold_own-requires-clause-empty c = c.reserve.ensures.items ∙ c.requires.empty

pub hold_read-requires-clause-can : goal.hold_read-requires-clause-can
hold_read-requires-clause-can c =
    let w = c.args.world.now in
    let own = c.args.requests.now.own.items in
    let read = c.args.requests.now.read.items in
    let away = rw (c.deref.ensures.value) at c.in_ok-own.ensures.away in
    rw (c.deref-2.ensures.value) (subst (λ (v : StoreValue). CanShare v.layout read) (sym away) (can-share-after w.layout own read (map pick_seen c.args._picks.now) c.requires.requests.own_are c.requires.requests.read_are c.requires.home c.requires.others))

pub hold_read-requires-clause-lent : goal.hold_read-requires-clause-lent
hold_read-requires-clause-lent c =
    let w = c.args.world.now in
    let own = c.args.requests.now.own.items in
    let away = rw (c.deref.ensures.value) at c.in_ok-own.ensures.away in
    let held = rw (c.deref.ensures.value) at c.in_ok-own.ensures.held in
    own-can w c.hold_own.new.world own (map held_seen c.in_ok-own.own.items) c.prove_laid.ensures c.now-now.ensures.world
    (can_take_own w.layout own (map pick_seen c.args._picks.now) c.requires.requests.own_are c.requires.home c.requires.others) held away

pub returns-clause-held : goal.returns-clause-held
returns-clause-held c =
    let w = c.args.world.now in
    let away = rw (c.deref.ensures.value) at c.in_ok-own.ensures.away in
    let first = rw (c.deref.ensures.value) at c.in_ok-own.ensures.held in
    let second = rw (c.deref-2.ensures.value) at c.in_ok-held.ensures.held in
    held-of w c.hold_own.new.world c.args.requests.now.own.items c.args.requests.now.read.items (map pick_seen c.args._picks.now) (map held_seen c.in_ok-own.own.items) (map held_seen c.in_ok-held.held.items) c.requires.requests.own_are
    c.requires.requests.read_are first away second

pub returns-clause-away : goal.returns-clause-away
returns-clause-away c =
    let w = c.args.world.now in
    let away = rw (c.deref.ensures.value) at c.in_ok-own.ensures.away in
    let first = rw (c.deref.ensures.value) at c.in_ok-own.ensures.held in
    let second = rw (c.deref-2.ensures.value) at c.in_ok-held.ensures.held in
    c.in_ok-held.ensures.same ∙ away
    ∙ ap (λ (layout : List Archetype). let x : StoreValue = record { state = w.state; layout = layout } in x)
    (away-of w c.hold_own.new.world c.args.requests.now.own.items c.args.requests.now.read.items (map held_seen c.in_ok-own.own.items) (map held_seen c.in_ok-held.held.items) first second)

-- where a column can't be shared those that were taken are home again
pub returns-in_err-held-clause-err : goal.returns-in_err-held-clause-err
returns-in_err-held-clause-err c =
    let w = c.args.world.now in
    let own = c.args.requests.now.own.items in
    let away = rw (c.deref.ensures.value) at c.in_ok-own.ensures.away in
    let held = rw (c.deref.ensures.value) at c.in_ok-own.ensures.held in
    on_err_from _ _
    (c.in_err-held.ensures.err
    ∙ own-back w c.hold_own.new.world own (map held_seen c.in_ok-own.own.items) c.prove_laid.ensures c.now-now.ensures.world
    (can_take_own w.layout own (map pick_seen c.args._picks.now) c.requires.requests.own_are c.requires.home c.requires.others) held away)
