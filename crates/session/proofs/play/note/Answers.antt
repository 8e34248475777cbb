use Rattle.std.proofs.Common.{◌≡◌, List, ℕ, Option, sym, ◌∙◌, subst}
use Rattle.std.specs.Io.KnownBytes.{Appends}
use Rattle.session.specs.Entries.{entry_text, kept}
use Rattle.streams.specs.Writing.{AppendsFront, WritesWhole}
use Rattle.session.proofs.Noted.{filled, some_text}
use Rattle.session.proofs.play.note.Goals as goal

pub returns-in-Err : goal.returns-in-Err
returns-in-Err g c =
    let text = c.as_slice.result.now in
    let after = g.J.Write.contents c.write_bytes.new.writer in
    let front : AppendsFront (g.J.Write.contents c.in-Some.record) after text = subst (λ r. WritesWhole (g.J.Write.contents c.in-Some.record) after r text) c.in-Err.is c.write_bytes.ensures in
    let entry = c.args.entry.now.items in
    let some = filled entry c.args.entry.now.len c.is_empty.result c.args.entry.now.ok.0 c.is_empty.ensures c.if-is_empty.false in
    let whole : entry_text entry c.args.runs.now c.args.told.now ≡ text = some_text entry c.args.runs.now c.args.told.now text some (c.as_slice.ensures.value ∙ c.in_ok-complete.ensures.whole) in
    (front.0, front.1, whole ∙ front.2, subst (λ (j : Option g.row.J.Denot). Appends (kept g.J.Write.contents j) after front.0) (sym c.in-Some.is) front.3)
