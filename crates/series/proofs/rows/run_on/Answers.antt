use Rattle.std.proofs.Common.{rules, ◌≡◌, ◌≤◌, ◌-◌, refl, sym, ap, ◌∙◌, subst, arith}
use Rattle.std.proofs.Math.Nat.{min-le_left}
use Rattle.engine.specs.Meanings.{meanings}
use Rattle.model.specs.steps.Schedule.{Schedule}
use Rattle.series.specs.Rows.{LeadOn}
use Rattle.series.proofs.Leading.{led_more}
use Rattle.series.proofs.rows.run_on.Goals as goal

-- some runs more
pub loop-done-preserved : goal.loop-done-preserved
loop-done-preserved g c =
    let inv = c.loop-done.invariant in
    let ok = c.in_ok-run_here.ensures in
    let s = c.args.engine.now.schedule in
    let now = c.loop-done.engine in
    let bodies = meanings g.B.Body.meaning s c.args.engine.now.bodies in
    let others = meanings g.B.Body.meaning now.schedule now.bodies in
    let alike = ap (λ (t : Schedule). meanings g.B.Body.meaning t now.bodies) inv.schedule ∙ inv.meant in
    let more : LeadOn now.schedule others c.min-count.result now.state c.run_here.new.self.state = record { runs = c.in_ok-run_here.field-0.items; many = ok.ran.count; ran = ok.ran.single refl } in
    record {
      within = (let l : c.min-count.result ≤ c.args.times - c.loop-done.done = subst (λ n. n ≤ c.args.times - c.loop-done.done) (sym c.min-count.ensures) (min-le_left (c.args.times - c.loop-done.done) 256) in let b = inv.within in omega arith);
      schedule = c.run_here.ensures.schedule ∙ inv.schedule;
      meant = subst (λ (t : Schedule). meanings g.B.Body.meaning t c.run_here.new.self.bodies ≡ meanings g.B.Body.meaning t now.bodies) inv.schedule c.run_here.ensures.meanings ∙ inv.meant;
      sound = search rules;
      led = led_more s now.schedule bodies others c.args.engine.now.state now.state c.run_here.new.self.state c.loop-done.done c.min-count.result inv.schedule alike inv.led more;
    }
