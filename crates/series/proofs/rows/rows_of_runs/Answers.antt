use Rattle.std.proofs.Common.{◌≡◌, ◌≤◌, ◌+◌, List, [], ◌∷◌, ◌++◌, refl, sym, ap, ◌∙◌, subst, arith}
use Rattle.std.proofs.lemmas.List.{append-nil}
use Rattle.engine.specs.Meanings.{meanings}
use Rattle.engine.specs.declared.faults.RunFault.TheVariants as stop
use Rattle.model.proofs.lists.Results.{handed_on}
use Rattle.model.specs.state.State.{State}
use Rattle.model.specs.steps.Schedule.{Schedule}
use Rattle.series.specs.Rows.{AreRows, AreStoppedWithin, IsRowOf}
use Rattle.series.specs.declared.rows.Row.{Row}
use Rattle.series.proofs.Leading.{led_on, none_led, rows_next, same_led, spent_within, stopped_after}
use Rattle.series.proofs.rows.rows_of_runs.Goals as goal

-- memory is spent at the first row
pub returns-in_err-add_row-clause-stopped : goal.returns-in_err-add_row-clause-stopped
returns-in_err-add_row-clause-stopped g c =
    let s = c.args.engine.now.schedule in
    let bodies = meanings g.B.Body.meaning s c.args.engine.now.bodies in
    handed_on (AreStoppedWithin s bodies c.args.times c.args.engine.now.state) c.from_residual.result stop.Memory c.from_residual.ensures.1 (spent_within s bodies c.args.times c.args.engine.now.state)

-- the first row
pub loop-run-init : goal.loop-run-init
loop-run-init g c =
    let s = c.args.engine.now.schedule in
    let bodies = meanings g.B.Body.meaning s c.args.engine.now.bodies in
    let start = c.args.engine.now.state in
    let series = c.args.series.now in
    let added = c.in_ok-add_row.ensures in
    let row = added.0 in
    let grown = added.2 ∙ ap (λ (rows : List Row). rows ++ row ∷ []) c.new-rows.ensures.items in
    let is = subst (λ (state : State). IsRowOf series 0 state row) c.state.ensures added.1 in
    record {
      within = omega arith;
      schedule = refl;
      meant = refl;
      sound = c.requires.sound;
      led = none_led s bodies start;
      rest = λ more from. subst (λ (rows : List Row). AreRows s bodies series c.args.every c.args.times start (rows ++ more)) (sym grown) (is, from);
    }

-- the runs up to the next row stop
pub returns-in_err-run_on-clause-stopped : goal.returns-in_err-run_on-clause-stopped
returns-in_err-run_on-clause-stopped g c =
    let inv = c.loop-run.invariant in
    let s = c.args.engine.now.schedule in
    let now = c.loop-run.engine in
    let bodies = meanings g.B.Body.meaning s c.args.engine.now.bodies in
    let others = meanings g.B.Body.meaning now.schedule now.bodies in
    let alike = ap (λ (t : Schedule). meanings g.B.Body.meaning t now.bodies) inv.schedule ∙ inv.meant in
    let within : c.loop-run.run + c.args.every ≤ c.args.times = omega (arith, inv.within, c.loop-run-test.true) in
    let told = c.in_err-run_on.field-0.0 in
    handed_on (AreStoppedWithin s bodies c.args.times c.args.engine.now.state) c.from_residual-in_err-run_on.result told c.from_residual-in_err-run_on.ensures.1
    (stopped_after s now.schedule bodies others c.args.engine.now.state now.state c.loop-run.run c.args.every c.args.times told inv.schedule alike inv.led within c.in_err-run_on.ensures.stopped)

-- one row more
pub loop-run-preserved : goal.loop-run-preserved
loop-run-preserved g c =
    let inv = c.loop-run.invariant in
    let ok = c.in_ok-run_on.ensures in
    let s = c.args.engine.now.schedule in
    let now = c.loop-run.engine in
    let after = c.run_on.new.engine in
    let start = c.args.engine.now.state in
    let series = c.args.series.now in
    let bodies = meanings g.B.Body.meaning s c.args.engine.now.bodies in
    let others = meanings g.B.Body.meaning now.schedule now.bodies in
    let alike = ap (λ (t : Schedule). meanings g.B.Body.meaning t now.bodies) inv.schedule ∙ inv.meant in
    let within : c.loop-run.run + c.args.every ≤ c.args.times = omega (arith, inv.within, c.loop-run-test.true) in
    let more = same_led s now.schedule bodies others now.state after.state c.args.every inv.schedule alike ok.led in
    let added = c.in_ok-add_row-2.ensures in
    let is = subst (λ (state : State). IsRowOf series (c.loop-run.run + c.args.every) state added.0) c.state-in-loop-run.ensures added.1 in
    record {
      within = within;
      schedule = c.run_on.ensures.schedule ∙ inv.schedule;
      meant = subst (λ (t : Schedule). meanings g.B.Body.meaning t after.bodies ≡ meanings g.B.Body.meaning t now.bodies) inv.schedule ok.meant ∙ inv.meant;
      sound = ok.sound;
      led = led_on s bodies start now.state after.state c.loop-run.run c.args.every inv.led more;
      rest = λ rest from. rows_next s bodies series c.args.every c.args.times c.loop-run.run start now.state after.state c.loop-run.rows.items c.add_row-in-loop-run.new.rows.items rest added.0 inv.rest within more is added.2 from;
    }

-- memory is spent at a row
pub returns-in_err-add_row-2-clause-stopped : goal.returns-in_err-add_row-2-clause-stopped
returns-in_err-add_row-2-clause-stopped g c =
    let s = c.args.engine.now.schedule in
    let bodies = meanings g.B.Body.meaning s c.args.engine.now.bodies in
    handed_on (AreStoppedWithin s bodies c.args.times c.args.engine.now.state) c.from_residual-in_err-add_row-2.result stop.Memory c.from_residual-in_err-add_row-2.ensures.1 (spent_within s bodies c.args.times c.args.engine.now.state)

-- no more rows fit
pub returns-clause-rows : goal.returns-clause-rows
returns-clause-rows g c =
    let s = c.args.engine.now.schedule in
    let bodies = meanings g.B.Body.meaning s c.args.engine.now.bodies in
    subst (AreRows s bodies c.args.series.now c.args.every c.args.times c.args.engine.now.state) (append-nil c.loop-run.rows.items) (c.loop-run.invariant.rest [] (omega (arith, c.loop-run.invariant.within, c.loop-run-test.false)))
