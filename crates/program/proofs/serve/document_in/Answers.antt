use Rattle.std.proofs.Common.{◌≡◌, ◌≤◌, length, Err, ap, sym, subst, IfSome, arith}
use Rattle.program.specs.Fault.{fault_of_file}
use Rattle.program.specs.Refused.{IsUnread}
use Rattle.program.specs.Said.{IsShortFile, most_bytes}
use Rattle.program.proofs.Serving.{document-unread, known-read, of-given}
use Rattle.program.proofs.serve.document_in.Goals as goal

pub returns-clause-within : goal.returns-clause-within
returns-clause-within g c =
    let bytes = c.in_ok-bytes.bytes in
    let within : length bytes.items ≤ most_bytes = omega (arith, bytes.ok.0, c.in_ok-bytes.ensures.within) in
    known-read IsShortFile (g.F.Read.remaining c.args.file.now) bytes.items within c.in_ok-bytes.ensures.whole

pub returns-in_err-document_of-clause-refused : goal.returns-in_err-document_of-clause-refused
returns-in_err-document_of-clause-refused g c =
    let file = g.F.Read.remaining c.args.file.now in
    let error = c.in_err-document_of.field-0.0 in
    let told = c.in_err-document_of.ensures in
    let whole = subst (λ text. IfSome file (λ all. text ≡ all)) (sym c.as_slice.ensures.value) c.in_ok-bytes.ensures.whole in
    let bytes = c.in_ok-bytes.bytes in
    let within : length bytes.items ≤ most_bytes = omega (arith, bytes.ok.0, c.in_ok-bytes.ensures.within) in
    let short = subst IsShortFile (sym c.as_slice.ensures.value) within in
    of-given (λ fault. fault ≡ fault_of_file error) (IsUnread file) c.from_residual-in_err-document_of.result c.from_residual-in_err-document_of.ensures.1
    (λ fault is. subst (IsUnread file) (sym is) (document-unread file c.as_slice.result.now error short whole told.only (λ e. told.refused (ap Err e))))
