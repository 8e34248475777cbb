use Rattle.std.proofs.Common.{◌≡◌, ◌≤◌, List, sym, ap, ap₂, ◌∙◌, subst, arith}
use Rattle.model.specs.shown.Outcome.{words_written, value_written}
use Rattle.model.specs.shown.Overlay.{resources_after}
use Rattle.model.specs.state.State.{World}
use Rattle.archetype_store.specs.Layout.{Archetype}
use Rattle.archetype_store.specs.Overlays.{AreReached}
use Rattle.archetype_store.specs.Store.{StoreValue}
use Rattle.body.specs.Laid.{with_resources, world_after}
use Rattle.body.specs.Lent.{AreLent, lent_in, lent_after, with_back}
use Rattle.body.specs.Seen.{Seen}
use Rattle.body.specs.Sheet.{Sheet, WritesReach}
use Rattle.body.specs.Together.{words_of_sheet}
use Rattle.body.proofs.Gets.{all-get}
use Rattle.body.proofs.Lendings.{can_come, homes_layout, back_after, clock_kept as home-clock}
use Rattle.body.proofs.LendingCloses.{lent_close, lent_reach}
use Rattle.body.proofs.view.View.close.Goals as goal

pub put_home-requires : goal.put_home-requires
put_home-requires c =
    let w = c.args.world.now in
    let inside = c.self.inside in
    can_come w inside.tick inside.queries.items c.now-now.ensures.world (subst (λ (s : Seen). s.opening.tick ≤ w.state.clock) (sym c.self.view_is) c.requires.past) c.self.invariant.ticks
    (subst (λ (s : Seen). AreLent w s.opening.taken) (sym c.self.view_is) c.requires.lent)

pub lay-requires : goal.lay-requires
lay-requires c =
    let w = c.args.world.now in
    let inside = c.self.inside in
    let past : inside.tick ≤ w.state.clock = subst (λ (s : Seen). s.opening.tick ≤ w.state.clock) (sym c.self.view_is) c.requires.past in
    let clock = ap (λ (v : StoreValue). v.state.clock) c.put_home.ensures.home ∙ home-clock (lent_after inside.queries.items) w in
    omega arith

pub returns-clause-home : goal.returns-clause-home
returns-clause-home c =
    let w = c.args.world.now in
    let inside = c.self.inside in
    let queries = inside.queries.items in
    let lent = subst (λ (s : Seen). AreLent w s.opening.taken) (sym c.self.view_is) c.requires.lent in
    let state = lent_close w inside.tick queries c.prove_laid.ensures c.now-now.ensures.world c.self.invariant.ticks c.self.invariant.alone
    (λ n s e. all-get (λ (s : Sheet). WritesReach (words_of_sheet s) s.taken) queries n s c.put_home.ensures.reach e) lent in
    let layout = homes_layout (lent_after queries) w ∙ back_after queries w.layout in
    let values = inside.values in
    let put = c.put_home.new.world in
    let over = λ (v : StoreValue). (let x : StoreValue = record { state = with_resources v.state (resources_after inside.tick (value_written values.res_mut values.written) v.state.resources); layout = v.layout } in x) in
    ap₂ (λ (v : World) (l : List Archetype). let x : StoreValue = record { state = v; layout = l } in x) c.lay.ensures.state c.lay.ensures.layout
    ∙ subst (λ (s : Seen). over put ≡ (let x : StoreValue = record { state = world_after s.opening.tick s w.state; layout = with_back (lent_in s.opening.taken) w.layout } in x)) c.self.view_is
    (ap over (c.put_home.ensures.home ∙ ap₂ (λ (v : World) (l : List Archetype). let x : StoreValue = record { state = v; layout = l } in x) state layout))

pub returns-clause-reach : goal.returns-clause-reach
returns-clause-reach c =
    let w = c.args.world.now in
    let inside = c.self.inside in
    let queries = inside.queries.items in
    let lent = subst (λ (s : Seen). AreLent w s.opening.taken) (sym c.self.view_is) c.requires.lent in
    subst (λ (s : Seen). AreReached w.layout (lent_in s.opening.taken) (words_written s.params.queries s.shown.rows s.outcome.cells)) c.self.view_is
    (lent_reach w inside.tick queries c.self.invariant.ticks (λ n s e. all-get (λ (s : Sheet). WritesReach (words_of_sheet s) s.taken) queries n s c.put_home.ensures.reach e) lent)
