use Rattle.std.proofs.Common.{◌≡◌, ◌<◌, ◌≤◌, ◌∙◌, List, length, slice_get, map, Some, sym, ap, subst, le_trans}
use Rattle.std.proofs.Math.Nat.{le-max_left, le-max_right}
use Rattle.engine.specs.EngineValue.{EngineValue}
use Rattle.engine.specs.Meanings.{AreFit}
use Rattle.findings.specs.Parting.{IsPartingBy}
use Rattle.findings.proofs.Partings.{IsTaken, IsTold, so-far-all, so-far-next}
use Rattle.model.specs.shown.Outcome.{BodyMeaning}
use Rattle.model.specs.steps.Schedule.{Schedule}
use Rattle.program.specs.Setup.{meanings_of_scripts, script_suits}
use Rattle.script.specs.declared.script_body.ScriptBody.{ScriptBody}
use Rattle.session.specs.Live.{state_in}
use Rattle.session_records.specs.Diverging.{IsRetaken, meant}
use Rattle.session_records.proofs.Retaken.{retaken_all, retaken_more}
use Rattle.session_records.proofs.diverging.parting_of.Goals as goal

-- an entry of each is taken again
pub loop-place-preserved : goal.loop-place-preserved
loop-place-preserved c =
    let one = c.args.one in
    let other = c.args.other in
    let inv = c.loop-place.invariant in
    let i = c.loop-place.place in
    let now = c.in_ok-take.ensures in
    let beside = c.in_ok-take-2.ensures in
    let left = c.take.new.session in
    let left_beside = c.take-in-loop-place.new.session in
    let means = ap (λ (s : Schedule). meanings_of_scripts s c.loop-place.scripts) inv.schedule ∙ inv.means in
    let means_beside = ap (λ (s : Schedule). meanings_of_scripts s c.loop-place.scripts_beside) inv.schedule_beside ∙ inv.means_beside in
    let at : c.state-left.result.now ≡ state_in left = c.state-left.ensures ∙ ap (λ (e : EngineValue ScriptBody). e.state) c.engine.ensures in
    let at_beside : c.state-beside.result.now ≡ state_in left_beside = c.state-beside.ensures ∙ ap (λ (e : EngineValue ScriptBody). e.state) c.engine-in-loop-place.ensures in
    let seen : IsTold c.min-both.result i c.state-left.result.now c.state-beside.result.now c.loop-place.told c.in-Ok.told = record {
      kept = c.in-Ok.ensures.kept;
      longer = c.in-Ok.ensures.longer;
      after = c.in-Ok.ensures.after;
    } in
    let told = subst (λ both. IsTold both i (state_in left) (state_in left_beside) c.loop-place.told c.in-Ok.told) c.min-both.ensures
    (subst (λ w. IsTold c.min-both.result i (state_in left) w c.loop-place.told c.in-Ok.told) at_beside
    (subst (λ w. IsTold c.min-both.result i w c.state-beside.result.now c.loop-place.told c.in-Ok.told) at seen)) in
    record {
      schedule = now.schedule ∙ inv.schedule;
      fit = subst (λ (s : Schedule). AreFit script_suits s (map Some c.take.new.bodies)) inv.schedule now.fit;
      means = subst (λ (s : Schedule). meanings_of_scripts s c.take.new.bodies ≡ meanings_of_scripts s c.loop-place.scripts) inv.schedule now.meanings ∙ inv.means;
      schedule_beside = beside.schedule ∙ inv.schedule_beside;
      fit_beside = subst (λ (s : Schedule). AreFit script_suits s (map Some c.take-in-loop-place.new.bodies)) inv.schedule_beside beside.fit;
      means_beside = subst (λ (s : Schedule). meanings_of_scripts s c.take-in-loop-place.new.bodies ≡ meanings_of_scripts s c.loop-place.scripts_beside) inv.schedule_beside beside.meanings ∙ inv.means_beside;
      ran = retaken_more (meant one) _ one.session c.loop-place.session left c.args.entries.now i means inv.ran now.taken;
      ran_beside = retaken_more (meant other) _ other.session c.loop-place.session_beside left_beside c.args.others.now i means_beside inv.ran_beside beside.taken;
      told = so-far-next (IsRetaken (meant one)) (IsRetaken (meant other)) state_in one.session other.session c.args.entries.now c.args.others.now i c.loop-place.session c.loop-place.session_beside left left_beside c.loop-place.told c.in-Ok.told
          (subst (λ n. i < n) c.max-place-end.ensures c.loop-place-test.true)
          (subst (λ (bs : List BodyMeaning). IsTaken (IsRetaken bs) c.loop-place.session (slice_get c.args.entries.now i) left) means now.taken)
          (subst (λ (bs : List BodyMeaning). IsTaken (IsRetaken bs) c.loop-place.session_beside (slice_get c.args.others.now i) left_beside) means_beside beside.taken)
          told inv.told;
    }

-- all entries of both are taken
pub returns-clause-parting : goal.returns-clause-parting
returns-clause-parting c =
    let one = c.args.one in
    let other = c.args.other in
    subst (IsPartingBy (IsRetaken (meant one)) (IsRetaken (meant other)) state_in 0 one.session other.session c.args.entries.now c.args.others.now) (sym c.unwrap_or.ensures)
    (so-far-all (IsRetaken (meant one)) (IsRetaken (meant other)) state_in one.session other.session c.args.entries.now c.args.others.now c.loop-place.place c.loop-place.session c.loop-place.session_beside c.loop-place.told
    (subst (λ n. n ≤ c.loop-place.place) c.max-place-end.ensures c.loop-place-test.false) c.loop-place.invariant.told)

pub returns-clause-taken : goal.returns-clause-taken
returns-clause-taken c =
    let all = subst (λ n. n ≤ c.loop-place.place) c.max-place-end.ensures c.loop-place-test.false in
    retaken_all (meant c.args.one) c.args.one.session c.loop-place.session c.args.entries.now c.loop-place.place (le_trans (le-max_left (length c.args.entries.now) (length c.args.others.now)) all) c.loop-place.invariant.ran

pub returns-clause-beside : goal.returns-clause-beside
returns-clause-beside c =
    let all = subst (λ n. n ≤ c.loop-place.place) c.max-place-end.ensures c.loop-place-test.false in
    retaken_all (meant c.args.other) c.args.other.session c.loop-place.session_beside c.args.others.now c.loop-place.place (le_trans (le-max_right (length c.args.entries.now) (length c.args.others.now)) all) c.loop-place.invariant.ran_beside
