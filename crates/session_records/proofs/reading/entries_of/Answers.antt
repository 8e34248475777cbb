use Rattle.std.proofs.Common.{List, subst, sym}
use Rattle.std.specs.Prelude.{IfSome}
use Rattle.session.specs.Records.{IsReadEntry}
use Rattle.session.specs.declared.entry.Entry.{Entry as Read}
use Rattle.session_records.specs.Entries.{AreEntries}
use Rattle.session_records.proofs.Entries.{entries_more, more_count}
use Rattle.session_records.proofs.reading.entries_of.Goals as goal

pub loop-before-preserved : goal.loop-before-preserved
loop-before-preserved c =
    let inv = c.loop-before.invariant in
    let rest = c.loop-before.rest.now in
    let behind = c.in-Some.behind.now in
    let read : IsReadEntry rest c.in-Some.entry behind = subst (λ found. IfSome found (λ r. IsReadEntry rest r.0 r.1.now)) c.in-Some.is c.in_ok-entry.ensures in
    record {
      read = subst (λ (reads : List Read). AreEntries c.args.text.now reads behind) (sym c.in_ok-push.ensures) (entries_more c.args.text.now c.loop-before.items.items rest behind c.in-Some.entry inv.read read);
      count = more_count c.loop-before.items.items c.push.new.items.items c.in-Some.entry c.loop-before.before inv.count c.in_ok-push.ensures;
    }
