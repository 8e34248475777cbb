use Rattle.std.proofs.Common.{◌≡◌, map, Some, ap, ◌∙◌, subst}
use Rattle.std.specs.Prelude.{IfSome}
use Rattle.engine.specs.Meanings.{AreFit}
use Rattle.model.specs.steps.Schedule.{Schedule}
use Rattle.program.specs.Setup.{meanings_of_scripts, script_suits}
use Rattle.session.specs.Records.{IsReadEntry}
use Rattle.session_records.proofs.Telling.{one_told}
use Rattle.session_records.proofs.stories.story_of_record.Goals as goal

-- an entry more is taken again and told
pub loop-before-preserved : goal.loop-before-preserved
loop-before-preserved c =
    let inv = c.loop-before.invariant in
    let now = c.in_ok-story.ensures in
    let old = c.args.session.now in
    let mid = c.loop-before.session in
    let rest = c.loop-before.rest.now in
    let behind = c.in-Some.behind.now in
    let read : IsReadEntry rest c.in-Some.entry behind = subst (λ found. IfSome found (λ r. IsReadEntry rest r.0 r.1.now)) c.in-Some.is c.in_ok-entry.ensures in
    let means = ap (λ (s : Schedule). meanings_of_scripts s c.loop-before.bodies) inv.schedule ∙ inv.meant in
    record {
      told = one_told (meanings_of_scripts old.engine.schedule c.args.bodies.now) (meanings_of_scripts mid.engine.schedule c.loop-before.bodies) c.args.asked old mid c.told_behind.new.session c.args.journal.now rest behind
          c.loop-before.before c.loop-before.story c.in_ok-story.story c.in-Some.entry means inv.told read now.told;
      schedule = now.schedule ∙ inv.schedule;
      fit = subst (λ (s : Schedule). AreFit script_suits s (map Some c.told_behind.new.bodies)) inv.schedule now.fit;
      meant = subst (λ (s : Schedule). meanings_of_scripts s c.told_behind.new.bodies ≡ meanings_of_scripts s c.loop-before.bodies) inv.schedule now.meanings ∙ inv.meant;
    }
