use Rattle.std.proofs.Common.{◌≡◌, ◌≤◌, ◌+◌, ◌-◌, ◌++◌, true, length, None, IsSome, sym, ap, ◌∙◌, subst, refl, arith}
use Rattle.std.proofs.Math.Nat.{min-le_left}
use Rattle.model.proofs.lists.Results.{handed_on}
use Rattle.model.specs.steps.Schedule.{Schedule}
use Rattle.engine.specs.Meanings.{meanings}
use Rattle.engine.proofs.BodiesAtHome.{unlike}
use Rattle.program.specs.Recorded.{HaveKept, IsKeptOf}
use Rattle.program.specs.Setup.{script_means}
use Rattle.program.proofs.Noting.{next-noted, none-noted, noted_all, noted_long}
use Rattle.program.specs.Refused.{IsUnrun}
use Rattle.program.proofs.Serving.{of-given}
use Rattle.program.proofs.Stopping.{next-told}
use Rattle.program.proofs.serve.run_times.Goals.{then-recorded+in_ok-text, else-recorded}
use Rattle.program.proofs.serve.run_times.Goals as goal

-- nothing has run yet
pub loop-done-init : goal.loop-done-init
loop-done-init g c = record {
  within = omega arith;
  schedule = refl;
  meant = refl;
  sound = c.requires;
  noted = none-noted (g.M.Mode.width c.args.mode.now) c.args.engine.now.schedule (meanings script_means c.args.engine.now.schedule c.args.engine.now.bodies) c.args.engine.now.state c.args.recorded _ c.new.ensures.bytes;
}

-- more runs, and their record behind those of the runs before them
pub loop-done-preserved : goal.loop-done-preserved
loop-done-preserved g c =
    let inv = c.loop-done.invariant in
    let ok = c.in_ok-traces.ensures in
    let s = c.args.engine.now.schedule in
    let now = c.loop-done.engine in
    let traces = c.in_ok-traces.traces.items in
    let meant = subst (λ (t : Schedule). meanings script_means t c.run_some.new.engine.bodies ≡ meanings script_means t now.bodies) inv.schedule ok.meant in
    record {
      within = (let l : c.min-count.result ≤ c.args.times - c.loop-done.done = subst (λ n. n ≤ c.args.times - c.loop-done.done) (sym c.min-count.ensures) (min-le_left (c.args.times - c.loop-done.done) 256) in let b = inv.within in omega arith);
      schedule = c.run_some.ensures.schedule ∙ inv.schedule;
      meant = meant ∙ inv.meant;
      sound = ok.sound;
      noted = next-noted (g.M.Mode.width c.args.mode.now) s now.schedule (meanings script_means s c.args.engine.now.bodies) (meanings script_means now.schedule now.bodies)
          c.args.engine.now.state now.state c.run_some.new.engine.state c.loop-done.done (length traces) _ c.args.recorded c.loop-done.text c.if-recorded.text
          traces inv.schedule (ap (λ (t : Schedule). meanings script_means t now.bodies) inv.schedule ∙ inv.meant) refl (ap (λ n. c.loop-done.done + n) (sym ok.count)) inv.noted ok.ran
          (elim c.if-recorded.branch [
            | then-recorded+in_ok-text w ↦ λ hs many kept asked. subst (IsKeptOf (hs ++ traces)) (sym w.text-is) (subst (λ ts. IsKeptOf (hs ++ ts) w.in_ok-text.text) w.as_slice.ensures.value (w.in_ok-text.ensures hs many (kept asked)))
            | else-recorded w ↦ λ hs many kept asked. absurd (unlike c.args.recorded asked w.if-recorded.false)
          ])
          (elim c.if-recorded.branch [
            | then-recorded+in_ok-text w ↦ λ unasked. absurd (unasked w.if-recorded.true)
            | else-recorded w ↦ subst (λ text. (c.args.recorded ≡ true → ⊥) → IsSome text) (sym w.text-is) inv.noted.there
          ]);
    }

-- the runs that stop
pub returns-in_err-traces-clause-stopped : goal.returns-in_err-traces-clause-stopped
returns-in_err-traces-clause-stopped g c =
    let inv = c.loop-done.invariant in
    let s = c.args.engine.now.schedule in
    let now = c.loop-done.engine in
    let there = g.M.SpawnThreads.has_scope c.args.mode.now in
    let width = g.M.Mode.width c.args.mode.now in
    let bodies = meanings script_means s c.args.engine.now.bodies in
    let within : length inv.noted.traces + c.min-count.result ≤ c.args.times =
    let l : c.min-count.result ≤ c.args.times - c.loop-done.done = subst (λ n. n ≤ c.args.times - c.loop-done.done) (sym c.min-count.ensures) (min-le_left (c.args.times - c.loop-done.done) 256) in omega (arith, l, inv.within, inv.noted.many) in
    of-given (λ fault. fault ≡ c.in_err-traces.field-0.0) (IsUnrun there width s bodies c.args.times c.args.engine.now.state c.args.recorded) c.from_residual.result c.from_residual.ensures.1
    (λ fault is. subst (IsUnrun there width s bodies c.args.times c.args.engine.now.state c.args.recorded) (sym is)
    (next-told there width s now.schedule bodies (meanings script_means now.schedule now.bodies) c.args.engine.now.state now.state inv.noted.traces c.min-count.result c.args.times c.args.recorded c.in_err-traces.field-0.0
    inv.schedule (ap (λ (t : Schedule). meanings script_means t now.bodies) inv.schedule ∙ inv.meant) inv.noted.runs within c.in_err-traces.ensures.stopped))

-- nothing is kept of the record of all runs, as it is too long
pub returns-in_err-noted-clause-stopped : goal.returns-in_err-noted-clause-stopped
returns-in_err-noted-clause-stopped g c =
    let s = c.args.engine.now.schedule in
    let there = g.M.SpawnThreads.has_scope c.args.mode.now in
    let width = g.M.Mode.width c.args.mode.now in
    let bodies = meanings script_means s c.args.engine.now.bodies in
    let start = c.args.engine.now.state in
    let inv = c.loop-done.invariant in
    let told = c.in_err-noted.ensures.long in
    let all : c.loop-done.done ≡ c.args.times = omega (arith, inv.within, c.loop-done-test.false) in
    let kept : HaveKept width s bodies start c.loop-done.done c.args.recorded c.loop-done.engine.state None = subst (HaveKept width s bodies start c.loop-done.done c.args.recorded c.loop-done.engine.state) told.1 inv.noted in
    handed_on (IsUnrun there width s bodies c.args.times start c.args.recorded) c.from_residual-in_err-noted.result c.in_err-noted.field-0.0 c.from_residual-in_err-noted.ensures.1
    (subst (IsUnrun there width s bodies c.args.times start c.args.recorded) (sym told.0) (noted_long width s bodies start c.loop-done.engine.state c.loop-done.done c.args.times c.args.recorded all kept))

-- the record of all runs is kept
pub returns-clause-noted : goal.returns-clause-noted
returns-clause-noted g c =
    let s = c.args.engine.now.schedule in
    let width = g.M.Mode.width c.args.mode.now in
    let bodies = meanings script_means s c.args.engine.now.bodies in
    let start = c.args.engine.now.state in
    let inv = c.loop-done.invariant in
    let all : c.loop-done.done ≡ c.args.times = omega (arith, inv.within, c.loop-done-test.false) in
    noted_all width s bodies start c.loop-done.engine.state c.loop-done.done c.args.times c.args.recorded c.in_ok-noted.noted all
    (subst (HaveKept width s bodies start c.loop-done.done c.args.recorded c.loop-done.engine.state) c.in_ok-noted.ensures.kept inv.noted)
