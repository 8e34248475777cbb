use Rattle.std.proofs.Common.{◌≡◌, List, ◌+◌, ◌<◌, ◌++◌, [], ◌∷◌, get_or, take, map, sym, ap, ◌∙◌, subst, arith}
use Rattle.std.proofs.lemmas.List.{get_or_default, take_more, take_all}
use Rattle.kinds.specs.Components.{widths}
use Rattle.model.specs.state.Shape.{IsWorld}
use Rattle.model.proofs.lists.Each.{each-at}
use Rattle.archetype_store.specs.declared.columns.TakenColumn.{TakenColumn}
use Rattle.archetype_store.specs.Lending.{CanComeHome, all_home}
use Rattle.archetype_store.specs.Store.{StoreValue}
use Rattle.query_plan.specs.Standing.{ArePickedHome}
use Rattle.body.specs.KeptPlans.{forms_of, AreOver}
use Rattle.body.specs.Lent.{AreLent, lent_in, lent_after, with_away}
use Rattle.body.specs.Sheet.{Sheet}
use Rattle.body.proofs.KeptPlans.{forms-away}
use Rattle.body.proofs.LendingCloses.{untouched_come, untouched_back}
use Rattle.body.proofs.QueryOpens.{AreOpened, opened-none, home-next, opened-more, opened-rows, opened-cells, opened-back, opened-written, opened-together}
use Rattle.body.proofs.opening.open_queries.Goals as goal

pub loop-query-init : goal.loop-query-init
loop-query-init c = record {
  opened = opened-none c.args.tick c.args.last_run c.args.world.now c.reserve.new.self.items (c.reserve.ensures.items ∙ c.clear_list.ensures.items);
  many = c.reserve.ensures.len ∙ c.clear_list.ensures.len;
  room = let e = c.in_ok-reserve.ensures.ok in let none = c.clear_list.ensures.len in let same = c.reserve.ensures.len in omega arith;
  planned = c.requires.planned;
}

pub open_next-requires-clause-home : goal.open_next-requires-clause-home
open_next-requires-clause-home c =
    let queries = c.args.queries.now in
    let i = c.loop-query.query-index in
    let query = c.query-item.result in
    let is : get_or queries i [] ≡ query = get_or_default queries i [] query c.loop-query-test.true ∙ sym c.query-item.is in
    home-next c.args.tick c.args.last_run c.args.world.now queries i query c.loop-query.opened.items c.loop-query.world c.loop-query.invariant.opened is c.requires.apart
    (subst (λ q. ArePickedHome q c.args.world.now.layout) is (each-at (λ q. ArePickedHome q c.args.world.now.layout) queries i [] c.loop-query-test.true c.requires.home))

pub open_next-requires-clause-coming : goal.open_next-requires-clause-coming
open_next-requires-clause-coming c = subst (λ (w : StoreValue). w.state.clock < c.args.tick) (sym c.loop-query.invariant.opened.away) c.requires.coming

-- while columns are away the forms are the same
same-forms : (w now : StoreValue) (cs : List TakenColumn) → now ≡ record { state = w.state; layout = with_away cs w.layout } → forms_of now.layout ≡ forms_of w.layout
same-forms w now cs e = ap (λ (v : StoreValue). forms_of v.layout) e ∙ forms-away cs w.layout

pub open_next-requires-clause-planned : goal.open_next-requires-clause-planned
open_next-requires-clause-planned c =
    subst (λ fs. AreOver fs c.loop-query.plans.items) (sym (same-forms c.args.world.now c.loop-query.world (lent_in (map (λ (s : Sheet). s.taken) c.loop-query.opened.items)) c.loop-query.invariant.opened.away)) c.loop-query.invariant.planned

pub loop-query-preserved : goal.loop-query-preserved
loop-query-preserved c =
    let queries = c.args.queries.now in
    let i = c.loop-query.query-index in
    let query = c.query-item.result in
    let is : get_or queries i [] ≡ query = get_or_default queries i [] query c.loop-query-test.true ∙ sym c.query-item.is in
    let ok = c.in-Ok.ensures in
    record {
      opened = subst (λ xs. AreOpened c.args.tick c.args.last_run c.args.world.now (take (i + 1) queries) xs c.open_next.new.world) (sym c.push_reserved.ensures.items)
          (opened-more c.args.tick c.args.last_run c.args.world.now queries i query c.loop-query.opened.items c.loop-query.world c.loop-query.invariant.opened is c.requires.apart
          (subst (λ q. ArePickedHome q c.args.world.now.layout) is (each-at (λ q. ArePickedHome q c.args.world.now.layout) queries i [] c.loop-query-test.true c.requires.home))
          c.in-Ok.one c.open_next.new.world ok.terms ok.rows ok.untouched ok.taken ok.tick ok.away
          (take_more queries i query c.loop-query-test.true ∙ ap (λ x. take i queries ++ x ∷ []) (sym c.query-item.is)));
      many = omega (arith, c.push_reserved.ensures.len, c.loop-query.invariant.many);
      room = omega (arith, c.push_reserved.ensures.capacity, c.loop-query.invariant.room);
      planned = subst (λ fs. AreOver fs c.open_next.new.plans.items) (same-forms c.args.world.now c.loop-query.world (lent_in (map (λ (s : Sheet). s.taken) c.loop-query.opened.items)) c.loop-query.invariant.opened.away) c.open_next.ensures.planned;
    }

pub put_home-requires : goal.put_home-requires
put_home-requires c =
    let inv = c.loop-query.invariant.opened in
    let world : IsWorld widths c.loop-query.world.state = subst (λ (w : StoreValue). IsWorld widths w.state) (sym inv.away) c.now-now.ensures.world in
    subst (CanComeHome (lent_after c.loop-query.opened.items)) (sym c.in-Err.ensures.err) (untouched_come c.loop-query.world c.loop-query.opened.items world inv.untouched inv.lent)

pub returns-in-Err-clause-err : goal.returns-in-Err-clause-err
returns-in-Err-clause-err c =
    let inv = c.loop-query.invariant.opened in
    let w = c.args.world.now in
    let opened = c.loop-query.opened.items in
    c.put_home.ensures.home ∙ ap (all_home (lent_after opened)) (c.in-Err.ensures.err ∙ inv.away)
    ∙ untouched_back w.state w.layout c.args.tick opened c.prove_laid.ensures c.now-now.ensures.world inv.untouched inv.spots (subst (λ v. AreLent v (map (λ (s : Sheet). s.taken) opened)) inv.away inv.lent)

-- all queries are open
pub returns-clause-terms : goal.returns-clause-terms
returns-clause-terms c = c.loop-query.invariant.opened.terms ∙ take_all c.loop-query.query-index c.args.queries.now c.loop-query-test.false

pub returns-clause-rows : goal.returns-clause-rows
returns-clause-rows c =
    opened-rows c.args.tick c.args.last_run c.args.world.now c.args.queries.now c.loop-query.opened.items c.loop-query.world
    (subst (λ qs. AreOpened c.args.tick c.args.last_run c.args.world.now qs c.loop-query.opened.items c.loop-query.world) (take_all c.loop-query.query-index c.args.queries.now c.loop-query-test.false) c.loop-query.invariant.opened)

pub returns-clause-untouched : goal.returns-clause-untouched
returns-clause-untouched c =
    opened-cells c.args.tick c.args.last_run c.args.world.now (take c.loop-query.query-index c.args.queries.now) c.loop-query.opened.items c.loop-query.world c.loop-query.invariant.opened

pub returns-clause-written : goal.returns-clause-written
returns-clause-written c =
    opened-written c.args.tick c.args.last_run c.args.world.now c.args.queries.now c.loop-query.opened.items c.loop-query.world
    (subst (λ qs. AreOpened c.args.tick c.args.last_run c.args.world.now qs c.loop-query.opened.items c.loop-query.world) (take_all c.loop-query.query-index c.args.queries.now c.loop-query-test.false) c.loop-query.invariant.opened)

pub returns-clause-together : goal.returns-clause-together
returns-clause-together c =
    opened-together c.args.tick c.args.last_run c.args.world.now c.args.queries.now c.loop-query.opened.items c.loop-query.world
    (subst (λ qs. AreOpened c.args.tick c.args.last_run c.args.world.now qs c.loop-query.opened.items c.loop-query.world) (take_all c.loop-query.query-index c.args.queries.now c.loop-query-test.false) c.loop-query.invariant.opened)
    c.prove_laid.ensures c.requires.apart

pub returns-clause-lent : goal.returns-clause-lent
returns-clause-lent c = c.loop-query.invariant.opened.lent

pub returns-clause-away : goal.returns-clause-away
returns-clause-away c = c.loop-query.invariant.opened.away

pub returns-clause-back : goal.returns-clause-back
returns-clause-back c =
    opened-back c.args.tick c.args.last_run c.args.world.now (take c.loop-query.query-index c.args.queries.now) c.loop-query.opened.items c.loop-query.world c.loop-query.invariant.opened

pub returns-clause-planned : goal.returns-clause-planned
returns-clause-planned c = c.loop-query.invariant.planned

pub returns-in-Err-clause-planned : goal.returns-in-Err-clause-planned
returns-in-Err-clause-planned c =
    subst (λ fs. AreOver fs c.open_next.new.plans.items) (same-forms c.args.world.now c.loop-query.world (lent_in (map (λ (s : Sheet). s.taken) c.loop-query.opened.items)) c.loop-query.invariant.opened.away) c.open_next.ensures.planned
