use Rattle.std.proofs.Common.{◌≡◌, ◌++◌, List, map, sym, ap, ◌∙◌, subst}
use Rattle.model.specs.access.Query.{Term}
use Rattle.model.specs.shown.Input.{rows_of}
use Rattle.query_plan.specs.declared.row.Row.{Row}
use Rattle.query_plan.specs.Picks.{pick_seen}
use Rattle.query_plan.specs.Standing.{ArePickedHome}
use Rattle.body.specs.HeldColumns.{held_seen, slots_seen}
use Rattle.body.specs.KeptPlans.{KeptSeen}
use Rattle.body.specs.Opened.{ArePickedOf}
use Rattle.body.specs.Picked.{AreRequestsOf, picked_own, picked_read, AreSpotsHome, AreOtherSpots, AreHeldOf}
use Rattle.body.specs.Sheet.{Sheet, IsPlan, row_of}
use Rattle.body.proofs.KeptPlans.{kept-picks, kept-taken, kept-opens}
use Rattle.body.proofs.Pickings.{picks-others}
use Rattle.body.proofs.kept_plan.KeptPlan.open.Goals as goal

pub take_requested-requires-clause-home : goal.take_requested-requires-clause-home
take_requested-requires-clause-home c =
    let w = c.args.world.now in
    let p = c.self.inside in
    let tables = map slots_seen p.parts.slots.items in
    let same = ap (λ (s : KeptSeen). s.forms) c.self.view_is ∙ c.requires.forms in
    let are = ap (map pick_seen) c.as_slice.ensures.value ∙ kept-picks p.query p.world.value w (map pick_seen p.parts.picks.items) tables p.parts.rows c.self.invariant.plan same in
    let home = subst (λ ts. ArePickedHome ts w.layout) (sym (ap (λ (s : KeptSeen). s.terms) c.self.view_is)) c.requires.home in
    subst (AreSpotsHome w.layout) (sym are) home

pub take_requested-requires-clause-others : goal.take_requested-requires-clause-others
take_requested-requires-clause-others c =
    let w = c.args.world.now in
    let p = c.self.inside in
    let tables = map slots_seen p.parts.slots.items in
    let same = ap (λ (s : KeptSeen). s.forms) c.self.view_is ∙ c.requires.forms in
    let are = ap (map pick_seen) c.as_slice.ensures.value ∙ kept-picks p.query p.world.value w (map pick_seen p.parts.picks.items) tables p.parts.rows c.self.invariant.plan same in
    subst AreOtherSpots (sym are) (picks-others w.state.slots p.query w.layout c.prove_laid.ensures)

pub open_by-query-requires : goal.open_by-query-requires
open_by-query-requires c =
    let w = c.args.world.now in
    let p = c.self.inside in
    let columns = map held_seen c.in_ok-columns.columns.items in
    let tables = map slots_seen p.parts.slots.items in
    let same = ap (λ (s : KeptSeen). s.forms) c.self.view_is ∙ c.requires.forms in
    let held = subst (λ ps. AreHeldOf w (picked_own (map pick_seen ps) ++ picked_read (map pick_seen ps)) columns) c.as_slice.ensures.value c.in_ok-columns.ensures.held in
    let slots : map slots_seen c.in_ok-slots.slots.items ≡ tables = ap (map slots_seen) (c.in_ok-slots.ensures ∙ c.deref.ensures.value) in
    let plan = (kept-opens p.query p.world.value w (map pick_seen p.parts.picks.items) tables p.parts.rows columns c.self.invariant.plan same c.prove_laid.ensures held c.args.tick 0 c.now-now.ensures.world c.prove_apart.ensures c.requires.coming).0 in
    subst (λ ts. IsPlan c.args.tick p.query ts c.in_ok-rows.rows columns) (sym slots) (subst (λ rs. IsPlan c.args.tick p.query tables rs columns) (sym c.in_ok-rows.ensures) plan)

pub returns-clause-rows : goal.returns-clause-rows
returns-clause-rows c = λ last.
    let w = c.args.world.now in
    let p = c.self.inside in
    let columns = map held_seen c.in_ok-columns.columns.items in
    let tables = map slots_seen p.parts.slots.items in
    let same = ap (λ (s : KeptSeen). s.forms) c.self.view_is ∙ c.requires.forms in
    let held = subst (λ ps. AreHeldOf w (picked_own (map pick_seen ps) ++ picked_read (map pick_seen ps)) columns) c.as_slice.ensures.value c.in_ok-columns.ensures.held in
    let slots : map slots_seen c.in_ok-slots.slots.items ≡ tables = ap (map slots_seen) (c.in_ok-slots.ensures ∙ c.deref.ensures.value) in
    let shown = (kept-opens p.query p.world.value w (map pick_seen p.parts.picks.items) tables p.parts.rows columns c.self.invariant.plan same c.prove_laid.ensures held c.args.tick last c.now-now.ensures.world c.prove_apart.ensures c.requires.coming).1 in
    ap (λ (s : Sheet). s.rows) c.marked.ensures
    ∙ c.open_by-query.ensures.rows
    ∙ ap (λ ts. map (row_of ts columns p.query) c.in_ok-rows.rows) slots
    ∙ ap (λ (rs : List Row). map (row_of tables columns p.query) rs) c.in_ok-rows.ensures
    ∙ shown
    ∙ ap (λ (ts : List Term). rows_of ts last w.state.slots) (ap (λ (s : KeptSeen). s.terms) c.self.view_is)

pub returns-clause-taken : goal.returns-clause-taken
returns-clause-taken c =
    let w = c.args.world.now in
    let p = c.self.inside in
    let columns = map held_seen c.in_ok-columns.columns.items in
    let tables = map slots_seen p.parts.slots.items in
    let same = ap (λ (s : KeptSeen). s.forms) c.self.view_is ∙ c.requires.forms in
    let held = subst (λ ps. AreHeldOf w (picked_own (map pick_seen ps) ++ picked_read (map pick_seen ps)) columns) c.as_slice.ensures.value c.in_ok-columns.ensures.held in
    let taken = kept-taken p.query p.world.value w (map pick_seen p.parts.picks.items) tables p.parts.rows columns c.self.invariant.plan same c.prove_laid.ensures held in
    subst (λ (ts : List Term). ArePickedOf ts w c.marked.result.taken) (ap (λ (s : KeptSeen). s.terms) c.self.view_is) (subst (ArePickedOf p.query w) (sym (ap (λ (s : Sheet). s.taken) c.marked.ensures ∙ c.open_by-query.ensures.taken)) taken)

pub take_requested-requires-clause-requests : goal.take_requested-requires-clause-requests
take_requested-requires-clause-requests c =
    let p = c.self.inside in
    subst (λ ps. AreRequestsOf (map pick_seen ps) p.parts.requests.own.items p.parts.requests.read.items) (sym c.as_slice.ensures.value) c.self.invariant.requests
