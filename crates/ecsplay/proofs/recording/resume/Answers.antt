use Rattle.std.proofs.Common.{◌-◌, ℕ, List, Option, length, take, ap, ◌∙◌, subst}
use Rattle.program.specs.Setup.{meanings_of_scripts, script_means}
use Rattle.script.specs.declared.script_body.ScriptBody.{ScriptBody}
use Rattle.session.specs.Records.{IsTakenAgain}
use Rattle.ecsplay.proofs.TakenAgain.{front_is, parted, resumed, whole}
use Rattle.ecsplay.proofs.recording.resume.Goals as goal

pub returns : goal.returns
returns g c =
    let old = c.args.session.now in
    let new = c.replay_record.new.session in
    let scripts = c.in_ok-bodies.bodies.items in
    let text = c.in_ok-bytes.bytes.items in
    let rest = c.in_ok-taken.taken.rest.now in
    let before = g.O.Write.contents c.args.out.now in
    let after = g.O.Write.contents c.replay_record.new.out in
    let by = subst (λ (bs : List ScriptBody). IsTakenAgain script_means (meanings_of_scripts old.engine.schedule bs) old new c.as_slice.result.now rest before after) c.as_mut_slice.ensures.value c.in_ok-taken.ensures in
    let taken = subst (λ (t : List ℕ). IsTakenAgain script_means (meanings_of_scripts old.engine.schedule scripts) old new t rest before after) c.as_slice.ensures.value by in
    let out : Option (List ℕ) × Option (List ℕ) = (before, after) in
    let file = c.args.file.now in
    let are = c.in_ok-bodies.ensures.scripts in
    let count = ap (λ (a : ℕ). a - length rest) (c.len.ensures ∙ c.in_ok-bytes.bytes.ok.0) in
    let front = c.truncate.ensures.items ∙ ap (λ (n : ℕ). take n text) count ∙ front_is text (whole file old new scripts are text rest out taken) rest (parted file old new scripts are text rest out taken) in
    resumed file old new scripts are text rest out taken (g.R.Read.remaining c.args.source.now) c.truncate.new.self.items front c.in_ok-bytes.ensures.whole
