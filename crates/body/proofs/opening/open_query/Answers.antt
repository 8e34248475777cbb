use Rattle.std.proofs.Common.{◌≡◌, true, suc, ◌+◌, ◌<◌, ◌++◌, List, length, map, refl, sym, ap, ◌∙◌, subst, arith}
use Rattle.std.specs.List.{AllByRecursion}
use Rattle.std.proofs.lemmas.List.{length-map}
use Rattle.archetype_store.specs.Store.{StoreValue}
use Rattle.query_plan.specs.declared.row.Row.{Row}
use Rattle.query_plan.specs.Standing.{IsStanding}
use Rattle.query_plan.specs.Picks.{pick_seen}
use Rattle.body.specs.HeldColumns.{held_seen, slots_seen}
use Rattle.body.specs.declared.kept_plan.PlanParts.{PlanParts}
use Rattle.body.specs.KeptPlans.{forms_of, AreOver, IsKeptPlan}
use Rattle.body.specs.Opened.{ArePickedOf}
use Rattle.body.specs.Picked.{picked_own, picked_read, AreHeldOf}
use Rattle.body.proofs.KeptPlans.{made-plan, some-four}
use Rattle.body.proofs.Pickings.{picks-others, picked-of}
use Rattle.body.proofs.QueryOpens.{held-many, split-many, picked-within, open-over}
use Rattle.body.proofs.Tables.{length-replicated}
use Rattle.body.proofs.opening.open_query.Goals as goal

pub take_picked-requires-clause-others : goal.take_picked-requires-clause-others
take_picked-requires-clause-others c =
    rw (c.as_slice.ensures.value, c.in_ok-plan.ensures.picks) (picks-others c.args.world.now.state.slots c.args.query.now c.args.world.now.layout c.prove_laid.ensures)

pub fill_slots-requires-clause-within : goal.fill_slots-requires-clause-within
fill_slots-requires-clause-within c =
    let w = c.args.world.now in
    let query = c.args.query.now in
    let columns = map held_seen c.in_ok-columns.columns.items in
    let got : AreHeldOf w (picked_own (map pick_seen c.as_slice.result.now) ++ picked_read (map pick_seen c.as_slice.result.now)) columns = subst (λ (x : StoreValue). AreHeldOf x (picked_own (map pick_seen c.as_slice.result.now) ++ picked_read (map pick_seen c.as_slice.result.now)) columns) c.of.ensures.same c.in_ok-columns.ensures.held in
    let picks = ap (map pick_seen) c.as_slice.ensures.value ∙ c.in_ok-plan.ensures.picks in
    let held = subst (λ ps. AreHeldOf w (picked_own ps ++ picked_read ps) columns) picks got in
    let are = picked-of query w columns c.prove_laid.ensures held in
    let many : length c.in_ok-slots.slots.items ≡ c.in_ok-plan.plan.archetypes + 1 = ap length c.in_ok-slots.ensures ∙ length-replicated _ _ in
    let within : length w.layout < length c.in_ok-slots.slots.items = omega (arith, many, c.in_ok-plan.ensures.archetypes) in
    rw (c.as_slice-2.ensures.value) (picked-within query w (length c.in_ok-slots.slots.items) columns within are.each)

pub fill_slots-requires-clause-count : goal.fill_slots-requires-clause-count
fill_slots-requires-clause-count c =
    let w = c.args.world.now in
    let picks = map pick_seen c.as_slice.result.now in
    let columns = map held_seen c.in_ok-columns.columns.items in
    let got : AreHeldOf w (picked_own (map pick_seen c.as_slice.result.now) ++ picked_read (map pick_seen c.as_slice.result.now)) columns = subst (λ (x : StoreValue). AreHeldOf x (picked_own (map pick_seen c.as_slice.result.now) ++ picked_read (map pick_seen c.as_slice.result.now)) columns) c.of.ensures.same c.in_ok-columns.ensures.held in
    let many = held-many w (picked_own picks ++ picked_read picks) columns got in
    let split = split-many picks in
    let one = length-map c.as_slice.result.now pick_seen in
    let two = length-map c.in_ok-columns.columns.items held_seen in
    omega (arith, many, split, one, two, ap length c.as_slice.ensures.value, ap length c.as_slice-2.ensures.value, c.in-Ok.ensures, c.len.ensures, c.in_ok-plan.plan.picks.ok.0)

pub open-requires : goal.open-requires
open-requires c =
    let w = c.args.world.now in
    let query = c.args.query.now in
    let columns = map held_seen c.in_ok-columns.columns.items in
    let got : AreHeldOf w (picked_own (map pick_seen c.as_slice.result.now) ++ picked_read (map pick_seen c.as_slice.result.now)) columns = subst (λ (x : StoreValue). AreHeldOf x (picked_own (map pick_seen c.as_slice.result.now) ++ picked_read (map pick_seen c.as_slice.result.now)) columns) c.of.ensures.same c.in_ok-columns.ensures.held in
    let picks = ap (map pick_seen) c.as_slice.ensures.value ∙ c.in_ok-plan.ensures.picks in
    let are = picked-of query w columns c.prove_laid.ensures (subst (λ ps. AreHeldOf w (picked_own ps ++ picked_read ps) columns) picks got) in
    let many : length c.in_ok-slots.slots.items ≡ c.in_ok-plan.plan.archetypes + 1 = ap length c.in_ok-slots.ensures ∙ length-replicated _ _ in
    let count : length c.in_ok-slots.slots.items ≡ suc (length w.layout) = omega (arith, many, c.in_ok-plan.ensures.archetypes) in
    let shown = ap (map (λ (row : Row). row.entity)) (c.in_ok-rows.ensures ∙ c.in_ok-found.ensures.rows) ∙ c.in_ok-plan.ensures.rows in
    let stand = subst (AllByRecursion (IsStanding w.state.slots w.layout)) (sym (c.in_ok-rows.ensures ∙ c.in_ok-found.ensures.rows)) c.in_ok-plan.ensures.places in
    let slots = rw (c.terms.ensures, c.as_slice-2.ensures.value) at c.fill_slots.ensures in
    (open-over c.args.tick c.args.last_run query query w (length c.in_ok-slots.slots.items) (map slots_seen c.fill_slots.new.slots.items) c.in_ok-rows.rows columns
    c.prove_laid.ensures c.now-now.ensures.world c.in_ok-plan.ensures.apart c.requires.coming shown stand are slots refl count).0

pub returns-clause-rows : goal.returns-clause-rows
returns-clause-rows c =
    let w = c.args.world.now in
    let query = c.args.query.now in
    let columns = map held_seen c.in_ok-columns.columns.items in
    let got : AreHeldOf w (picked_own (map pick_seen c.as_slice.result.now) ++ picked_read (map pick_seen c.as_slice.result.now)) columns = subst (λ (x : StoreValue). AreHeldOf x (picked_own (map pick_seen c.as_slice.result.now) ++ picked_read (map pick_seen c.as_slice.result.now)) columns) c.of.ensures.same c.in_ok-columns.ensures.held in
    let picks = ap (map pick_seen) c.as_slice.ensures.value ∙ c.in_ok-plan.ensures.picks in
    let are = picked-of query w columns c.prove_laid.ensures (subst (λ ps. AreHeldOf w (picked_own ps ++ picked_read ps) columns) picks got) in
    let many : length c.in_ok-slots.slots.items ≡ c.in_ok-plan.plan.archetypes + 1 = ap length c.in_ok-slots.ensures ∙ length-replicated _ _ in
    let count : length c.in_ok-slots.slots.items ≡ suc (length w.layout) = omega (arith, many, c.in_ok-plan.ensures.archetypes) in
    let shown = ap (map (λ (row : Row). row.entity)) (c.in_ok-rows.ensures ∙ c.in_ok-found.ensures.rows) ∙ c.in_ok-plan.ensures.rows in
    let stand = subst (AllByRecursion (IsStanding w.state.slots w.layout)) (sym (c.in_ok-rows.ensures ∙ c.in_ok-found.ensures.rows)) c.in_ok-plan.ensures.places in
    let slots = rw (c.terms.ensures, c.as_slice-2.ensures.value) at c.fill_slots.ensures in
    c.open.ensures.rows
    ∙ (open-over c.args.tick c.args.last_run query query w (length c.in_ok-slots.slots.items) (map slots_seen c.fill_slots.new.slots.items) c.in_ok-rows.rows columns
    c.prove_laid.ensures c.now-now.ensures.world c.in_ok-plan.ensures.apart c.requires.coming shown stand are slots refl count).1

pub returns-clause-taken : goal.returns-clause-taken
returns-clause-taken c =
    let w = c.args.world.now in
    let query = c.args.query.now in
    let columns = map held_seen c.in_ok-columns.columns.items in
    let got : AreHeldOf w (picked_own (map pick_seen c.as_slice.result.now) ++ picked_read (map pick_seen c.as_slice.result.now)) columns = subst (λ (x : StoreValue). AreHeldOf x (picked_own (map pick_seen c.as_slice.result.now) ++ picked_read (map pick_seen c.as_slice.result.now)) columns) c.of.ensures.same c.in_ok-columns.ensures.held in
    let picks = ap (map pick_seen) c.as_slice.ensures.value ∙ c.in_ok-plan.ensures.picks in
    subst (ArePickedOf query w) (sym c.open.ensures.taken)
    (picked-of query w columns c.prove_laid.ensures (subst (λ ps. AreHeldOf w (picked_own ps ++ picked_read ps) columns) picks got))

-- the plan that is kept is that of the query
pub keep-requires-clause-plan : goal.keep-requires-clause-plan
keep-requires-clause-plan c =
    let w = c.args.world.now in
    let query = c.args.query.now in
    let columns = map held_seen c.in_ok-columns.columns.items in
    let found = c.in_ok-plan.plan.picks.items in
    let tables = map slots_seen c.fill_slots.new.slots.items in
    let got : AreHeldOf w (picked_own (map pick_seen c.as_slice.result.now) ++ picked_read (map pick_seen c.as_slice.result.now)) columns = subst (λ (x : StoreValue). AreHeldOf x (picked_own (map pick_seen c.as_slice.result.now) ++ picked_read (map pick_seen c.as_slice.result.now)) columns) c.of.ensures.same c.in_ok-columns.ensures.held in
    let held = subst (λ ps. AreHeldOf w (picked_own (map pick_seen ps) ++ picked_read (map pick_seen ps)) columns) c.as_slice.ensures.value got in
    let many : length c.in_ok-slots.slots.items ≡ c.in_ok-plan.plan.archetypes + 1 = ap length c.in_ok-slots.ensures ∙ length-replicated _ _ in
    let count : length c.in_ok-slots.slots.items ≡ suc (length w.layout) = omega (arith, many, c.in_ok-plan.ensures.archetypes) in
    let shown = ap (map (λ (row : Row). row.entity)) (c.in_ok-rows.ensures ∙ c.in_ok-found.ensures.rows) ∙ c.in_ok-plan.ensures.rows in
    let stand = subst (AllByRecursion (IsStanding w.state.slots w.layout)) (sym (c.in_ok-rows.ensures ∙ c.in_ok-found.ensures.rows)) c.in_ok-plan.ensures.places in
    let slots = rw (c.terms.ensures, c.as_slice-2.ensures.value) at c.fill_slots.ensures in
    let whole : c.is_kept-lasts.result ≡ true → IsKeptPlan query w (map pick_seen found) tables c.in_ok-rows.rows = λ lasts. made-plan query c.args.last_run (length c.in_ok-slots.slots.items) w (map pick_seen found) tables c.in_ok-rows.rows columns (c.is_kept-lasts.ensures.free lasts) (c.is_kept-lasts.ensures.kinds lasts)
    c.prove_laid.ensures shown stand c.in_ok-plan.ensures.picks held slots count in
    some-four (λ p. c.is_kept-lasts.result ≡ true) (λ (p : PlanParts). p.picks.items ≡ found) (λ (p : PlanParts). p.slots.items ≡ c.deref.result.now) (λ (p : PlanParts). p.rows ≡ c.in_ok-rows.rows)
    (λ (p : PlanParts). IsKeptPlan query c.seen_now-before.result.value (map pick_seen p.picks.items) (map slots_seen p.slots.items) p.rows) c.parts_of-parts.result
    (λ p lasts picks there rows.
    subst (λ (v : StoreValue). IsKeptPlan query v (map pick_seen p.picks.items) (map slots_seen p.slots.items) p.rows) (sym c.seen_now-before.ensures)
    (subst (λ (rs : List Row). IsKeptPlan query w (map pick_seen p.picks.items) (map slots_seen p.slots.items) rs) (sym rows)
    (subst (λ ss. IsKeptPlan query w (map pick_seen p.picks.items) (map slots_seen ss) c.in_ok-rows.rows) (sym (there ∙ c.deref.ensures.value))
    (subst (λ ps. IsKeptPlan query w (map pick_seen ps) tables c.in_ok-rows.rows) (sym picks) (whole lasts)))))
    c.parts_of-parts.ensures.kept c.parts_of-parts.ensures.picks c.parts_of-parts.ensures.slots c.parts_of-parts.ensures.rows

pub keep-requires-clause-over : goal.keep-requires-clause-over
keep-requires-clause-over c = subst (λ (v : StoreValue). AreOver (forms_of v.layout) c.args.plans.now.items) (sym c.seen_now-before.ensures) c.requires.planned

pub returns-clause-planned : goal.returns-clause-planned
returns-clause-planned c = subst (λ (v : StoreValue). AreOver (forms_of v.layout) c.keep.new.plans.items) c.seen_now-before.ensures c.keep.ensures
