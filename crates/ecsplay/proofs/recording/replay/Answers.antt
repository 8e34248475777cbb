use Rattle.std.proofs.Common.{ℕ, List, subst}
use Rattle.program.specs.Setup.{meanings_of_scripts, script_means}
use Rattle.script.specs.declared.script_body.ScriptBody.{ScriptBody}
use Rattle.session.specs.Records.{IsTakenAgain}
use Rattle.ecsplay.proofs.TakenAgain.{known_is, none_left}
use Rattle.ecsplay.proofs.recording.replay.Goals as goal

pub returns : goal.returns
returns g c =
    let old = c.args.session.now in
    let new = c.replay_record.new.session in
    let scripts = c.in_ok-bodies.bodies.items in
    let text = c.in_ok-bytes.bytes.items in
    let rest = c.in_ok-taken.taken.rest.now in
    let before = g.O.Write.contents c.args.out.now in
    let after = g.O.Write.contents c.replay_record.new.out in
    let by = subst (λ (bs : List ScriptBody). IsTakenAgain script_means (meanings_of_scripts old.engine.schedule bs) old new c.as_slice.result.now rest before after) c.as_mut_slice.ensures.value c.in_ok-taken.ensures in
    let taken = subst (λ (t : List ℕ). IsTakenAgain script_means (meanings_of_scripts old.engine.schedule scripts) old new t rest before after) c.as_slice.ensures.value by in
    let none = none_left rest c.is_empty.result c.is_empty.ensures c.if-not-is_empty.false in
    record {
      text = text;
      is = known_is (g.R.Read.remaining c.args.source.now) text c.in_ok-bytes.ensures.whole;
      middle = after;
      replayed = record {
        scripts = scripts;
        are = c.in_ok-bodies.ensures.scripts;
        taken = subst (λ (r : List ℕ). IsTakenAgain script_means (meanings_of_scripts old.engine.schedule scripts) old new text r before after) none taken;
      };
      ends = c.in_ok-write_digest.ensures;
    }
