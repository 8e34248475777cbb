use Rattle.std.proofs.Common.{refl, sym, subst, string_bytes}
use Rattle.ecsview.specs.Recorded.{IsRecordAnswer}
use Rattle.ecsview.specs.declared.recorded.RecordWork.{RecordWork}
use Rattle.ecsview.specs.declared.viewing.Shown.{Shown}
use Rattle.ecsview.proofs.RecordAnswers.{divergence_of, story_of}
use Rattle.ecsview.proofs.recorded.found_in.Goals as goal

-- the story of a record
pub returns-in-Steps : goal.returns-in-Steps
returns-in-Steps g c =
    let file = g.F.Read.remaining c.args.file.now in
    let trace = g.F.Read.remaining c.args.trace.now in
    let shown : Shown = record { text = c.in_ok-text-in-Steps.text; status = 0 } in
    subst (λ (w : RecordWork). IsRecordAnswer w file trace (g.F.Read.remaining c.args.other.now) shown) (sym c.in-Steps.is) (
      refl,
      story_of file trace c.in-Steps.asked c.as_slice.result.now c.in_ok-bytes.bytes.items c.as_slice-in-Steps.result.now c.in_ok-journal.journal.items (string_bytes c.in_ok-text-in-Steps.text) c.in_ok-one.one c.as_mut_slice-bodies.result.now
          c.story_of_record.new.session c.as_slice.ensures.value c.in_ok-bytes.ensures.whole c.as_slice-in-Steps.ensures.value c.in_ok-journal.ensures.whole c.in_ok-one.ensures c.as_mut_slice-bodies.ensures.value c.in_ok-text-in-Steps.ensures,
    )

-- where two records part
pub returns : goal.returns
returns g c =
    let file = g.F.Read.remaining c.args.file.now in
    let trace = g.F.Read.remaining c.args.trace.now in
    let other = g.F.Read.remaining c.args.other.now in
    let shown : Shown = record { text = c.in_ok-text-in-Diverge.text; status = c.in_ok-text-in-Diverge.status } in
    subst (λ (w : RecordWork). IsRecordAnswer w file trace other shown) (sym c.in-Diverge.is)
    (divergence_of file trace other c.in_ok-text-in-Diverge.status c.as_slice.result.now c.as_slice-in-Diverge.result.now c.in_ok-bytes.bytes.items c.as_slice-in-Diverge-2.result.now c.in_ok-journal.journal.items c.as_slice-in-Diverge-3.result.now
    c.in_ok-beside-in-Diverge.beside.items (string_bytes c.in_ok-text-in-Diverge.text) c.in_ok-one.one c.in_ok-two-in-Diverge.two c.as_slice.ensures.value c.as_slice-in-Diverge.ensures.value c.in_ok-bytes.ensures.whole c.as_slice-in-Diverge-2.ensures.value
    c.in_ok-journal.ensures.whole c.as_slice-in-Diverge-3.ensures.value c.in_ok-beside-in-Diverge.ensures.whole c.in_ok-one.ensures c.in_ok-two-in-Diverge.ensures c.in_ok-text-in-Diverge.ensures)
