use Rattle.std.proofs.Common.{◌≡◌, ℕ, List, ◌++◌, map, Some, string_bytes, refl, sym, ap, ap₂, ◌∙◌, subst}
use Rattle.std.specs.Prelude.{IfSome}
use Rattle.std.specs.Io.KnownBytes.{Appends}
use Rattle.std.proofs.lemmas.List.{take-append-drop}
use Rattle.engine.specs.Meanings.{AreFit, meanings}
use Rattle.model.specs.steps.Schedule.{Schedule}
use Rattle.session.specs.Live.{Live}
use Rattle.session.specs.Records.{IsReadEntry}
use Rattle.session.proofs.Retaken.{first_taken, taken_next, taken_none, told_same}
use Rattle.session.proofs.replaying.replay_record.Goals as goal

pub loop-entries-preserved : goal.loop-entries-preserved
loop-entries-preserved g c =
    let inv = c.loop-entries.invariant in
    let meaning = g.B.Body.meaning in
    let old = c.args.session.now in
    let was = c.loop-entries.session in
    let new = c.redo.new.session in
    let bodies = map Some c.loop-entries.bodies in
    let left = map Some c.redo.new.bodies in
    let words = string_bytes c.redo.new.told in
    let middle = g.O.Write.contents c.loop-entries.out in
    let after = g.O.Write.contents c.write_whole.new.writer in
    let behind = c.in-Some.behind.now in
    let read : IsReadEntry c.loop-entries.rest.now c.in-Some.entry behind = subst (λ found. IfSome found (λ r. IsReadEntry c.loop-entries.rest.now r.0 r.1.now)) c.in-Some.is c.in_ok-entry.ensures in
    let same = ap (λ (s : Schedule). meanings meaning s bodies) inv.schedule ∙ inv.meant in
    let first = first_taken meaning (meanings meaning was.engine.schedule bodies) was new c.loop-entries.rest.now words behind c.in-Some.entry read c.in_default-redo.ensures.taken in
    let meant = subst (λ (s : Schedule). meanings meaning s left ≡ meanings meaning s bodies) inv.schedule c.in_default-redo.ensures.meanings in
    record {
      taken = taken_next meaning (meanings meaning old.engine.schedule (map Some c.args.bodies.now)) old c.args.journal.now (g.O.Write.contents c.args.out.now) (meanings meaning was.engine.schedule bodies) was new c.loop-entries.rest.now words behind middle after same inv.taken first
          (subst (Appends middle after) c.as_str.ensures.value c.in_ok-write_whole.ensures);
      schedule = c.in_default-redo.ensures.schedule ∙ inv.schedule;
      fit = subst (λ (s : Schedule). AreFit g.B.Body.fits s left) inv.schedule c.in_default-redo.ensures.fit;
      meant = meant ∙ inv.meant;
    }

pub loop-entries-init : goal.loop-entries-init
loop-entries-init g c = record {
  taken = taken_none g.B.Body.meaning (meanings g.B.Body.meaning c.args.session.now.engine.schedule (map Some c.args.bodies.now)) c.args.session.now c.args.journal.now (g.O.Write.contents c.args.out.now) c.in_ok-rest.rest.now
      c.in_ok-rest.ensures.behind;
  schedule = refl;
  fit = c.in_ok-rest.ensures.fit;
  meant = refl;
}
