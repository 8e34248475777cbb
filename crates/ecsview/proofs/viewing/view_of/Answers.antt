use Rattle.std.proofs.Common.{◌≡◌, ◌≤◌, length, None, Some, Err, ap, sym, subst, IfSome, inl, arith}
use Rattle.toml.specs.Parse.{parse_document}
use Rattle.toml.specs.View.{table_view}
use Rattle.program.specs.Refused.{IsUnread}
use Rattle.program.specs.Said.{IsShortFile, most_bytes, scripts_by}
use Rattle.program.specs.Setup.{AreScriptsOf}
use Rattle.program.proofs.Serving.{document-unread, known-read}
use Rattle.ecsview.proofs.Explanations.{answered_is, explained_is, refused_is, refused_on}
use Rattle.ecsview.proofs.viewing.view_of.Goals as goal

-- the scripts of a file that is accepted fit its systems
pub answer-requires : goal.answer-requires
answer-requires g c =
    let l = c.in-Ok-load.ensures.loaded None tt tt in
    subst (AreScriptsOf c.in-Ok-load.loaded.file.built) (sym l.scripts) (subst (λ s. AreScriptsOf s (scripts_by l.file.tables)) (sym l.schedule) l.file.fitting)

-- the bytes are no document
pub returns-in-Err-document_of-clause-answered : goal.returns-in-Err-document_of-clause-answered
returns-in-Err-document_of-clause-answered g c =
    let file = g.F.Read.remaining c.args.file.now in
    let told = c.in-Err-document_of.ensures in
    let whole = subst (λ text. IfSome file (λ all. text ≡ all)) (sym c.as_slice.ensures.value) c.in-Ok.ensures.whole in
    let within : length c.in-Ok.bytes.items ≤ most_bytes = omega (arith, c.in-Ok.bytes.ok.0, c.in-Ok.ensures.within) in
    let short = subst IsShortFile (sym c.as_slice.ensures.value) within in
    let unread = document-unread file c.as_slice.result.now c.in-Err-document_of.fault short whole told.only (λ e. told.refused (ap Err e)) in
    explained_is _ _ c.args.args.now.work file (g.F.Read.remaining c.args.trace.now) (g.F.Read.remaining c.args.other.now) c.from.result c.explained-in-Err-document_of.result
    (inl (subst (IsUnread file) (sym c.from.ensures) unread)) c.explained-in-Err-document_of.ensures.told

pub returns-in-Err-document_of-clause-refused : goal.returns-in-Err-document_of-clause-refused
returns-in-Err-document_of-clause-refused g c =
    let file = g.F.Read.remaining c.args.file.now in
    let told = c.in-Err-document_of.ensures in
    let whole = subst (λ text. IfSome file (λ all. text ≡ all)) (sym c.as_slice.ensures.value) c.in-Ok.ensures.whole in
    let within : length c.in-Ok.bytes.items ≤ most_bytes = omega (arith, c.in-Ok.bytes.ok.0, c.in-Ok.ensures.within) in
    let short = subst IsShortFile (sym c.as_slice.ensures.value) within in
    let unread = document-unread file c.as_slice.result.now c.in-Err-document_of.fault short whole told.only (λ e. told.refused (ap Err e)) in
    refused_is c.args.args.now.work file (g.F.Read.remaining c.args.trace.now) (g.F.Read.remaining c.args.other.now) c.from.result c.explained-in-Err-document_of.result
    (inl (subst (IsUnread file) (sym c.from.ensures) unread)) c.explained-in-Err-document_of.ensures.kept

-- what the document declares is refused
pub returns-clause-answered : goal.returns-clause-answered
returns-clause-answered g c =
    let file = g.F.Read.remaining c.args.file.now in
    let whole = subst (λ text. IfSome file (λ all. text ≡ all)) (sym c.as_slice.ensures.value) c.in-Ok.ensures.whole in
    let within : length c.in-Ok.bytes.items ≤ most_bytes = omega (arith, c.in-Ok.bytes.ok.0, c.in-Ok.ensures.within) in
    let short = known-read IsShortFile file c.in-Ok.bytes.items within c.in-Ok.ensures.whole in
    let read = known-read (λ text. parse_document text ≡ Some (table_view c.in-Ok-document_of.document)) file c.as_slice.result.now c.in-Ok-document_of.ensures.ok.1 whole in
    explained_is _ _ c.args.args.now.work file (g.F.Read.remaining c.args.trace.now) (g.F.Read.remaining c.args.other.now) c.in-Err-load.fault c.explained-in-Err-load.result
    (c.in-Err-load.ensures.refused file short read) c.explained-in-Err-load.ensures.told

pub returns-clause-refused : goal.returns-clause-refused
returns-clause-refused g c =
    let file = g.F.Read.remaining c.args.file.now in
    let whole = subst (λ text. IfSome file (λ all. text ≡ all)) (sym c.as_slice.ensures.value) c.in-Ok.ensures.whole in
    let within : length c.in-Ok.bytes.items ≤ most_bytes = omega (arith, c.in-Ok.bytes.ok.0, c.in-Ok.ensures.within) in
    let short = known-read IsShortFile file c.in-Ok.bytes.items within c.in-Ok.ensures.whole in
    let read = known-read (λ text. parse_document text ≡ Some (table_view c.in-Ok-document_of.document)) file c.as_slice.result.now c.in-Ok-document_of.ensures.ok.1 whole in
    refused_is c.args.args.now.work file (g.F.Read.remaining c.args.trace.now) (g.F.Read.remaining c.args.other.now) c.in-Err-load.fault c.explained-in-Err-load.result
    (c.in-Err-load.ensures.refused file short read) c.explained-in-Err-load.ensures.kept

-- what is loaded is what the file declares
pub returns-in-Ok-load-clause-answered : goal.returns-in-Ok-load-clause-answered
returns-in-Ok-load-clause-answered g c =
    let file = g.F.Read.remaining c.args.file.now in
    let whole = subst (λ text. IfSome file (λ all. text ≡ all)) (sym c.as_slice.ensures.value) c.in-Ok.ensures.whole in
    let within : length c.in-Ok.bytes.items ≤ most_bytes = omega (arith, c.in-Ok.bytes.ok.0, c.in-Ok.ensures.within) in
    let short = known-read IsShortFile file c.in-Ok.bytes.items within c.in-Ok.ensures.whole in
    let read = known-read (λ text. parse_document text ≡ Some (table_view c.in-Ok-document_of.document)) file c.as_slice.result.now c.in-Ok-document_of.ensures.ok.1 whole in
    answered_is _ _ c.args.args.now.work file (g.F.Read.remaining c.args.trace.now) (g.F.Read.remaining c.args.other.now) c.in-Ok-load.loaded (table_view c.in-Ok-document_of.document) c.answer.result (c.in-Ok-load.ensures.loaded file short read) read c.answer.ensures.answered

pub returns-in-Ok-load-clause-refused : goal.returns-in-Ok-load-clause-refused
returns-in-Ok-load-clause-refused g c =
    let file = g.F.Read.remaining c.args.file.now in
    let whole = subst (λ text. IfSome file (λ all. text ≡ all)) (sym c.as_slice.ensures.value) c.in-Ok.ensures.whole in
    let within : length c.in-Ok.bytes.items ≤ most_bytes = omega (arith, c.in-Ok.bytes.ok.0, c.in-Ok.ensures.within) in
    let short = known-read IsShortFile file c.in-Ok.bytes.items within c.in-Ok.ensures.whole in
    let read = known-read (λ text. parse_document text ≡ Some (table_view c.in-Ok-document_of.document)) file c.as_slice.result.now c.in-Ok-document_of.ensures.ok.1 whole in
    refused_on c.args.args.now.work file (g.F.Read.remaining c.args.trace.now) (g.F.Read.remaining c.args.other.now) c.in-Ok-load.loaded c.answer.result (c.in-Ok-load.ensures.loaded file short read) c.answer.ensures.refused
