-- A field's word is cut at its point.
use Rattle.std.proofs.Common.{Some, None, lit<}
use Rattle.std.proofs.lemmas.Str.Pattern.{split_parts, split_once_first}
use Rattle.script.proofs.Fields.{only_field, no_kind, no_axis, no_point}
use Rattle.script.proofs.operands.Field.read.Goals as goal

pub returns : goal.returns
returns c =
    let parts = split_parts 46 c.args.word.now (Some (c.in_ok-kind.kind, c.in_ok-kind.axis)) c.in_ok-kind.ensures.cases (lit< tt) in
    let cut = split_once_first 46 c.args.word.now (Some (c.in_ok-kind.kind, c.in_ok-kind.axis)) c.in_ok-kind.ensures.cases (lit< tt) in
    only_field c.args.word.now c.in_ok-kind.kind.now c.in_ok-kind.axis.now c.in_ok-named.field-0 c.in_ok-named-2.field-0 parts.0 cut.1 cut.2 c.in_ok-named.ensures c.in_ok-named-2.ensures

pub returns-in_err-kind : goal.returns-in_err-kind
returns-in_err-kind c = rw c.from_residual.ensures (no_point c.args.word.now (split_parts 46 c.args.word.now None c.in_err-kind.ensures.cases (lit< tt)))

pub returns-in_err-named : goal.returns-in_err-named
returns-in_err-named c =
    let cut = split_once_first 46 c.args.word.now (Some (c.in_ok-kind.kind, c.in_ok-kind.axis)) c.in_ok-kind.ensures.cases (lit< tt) in
    rw c.from_residual-in_err-named.ensures (no_kind c.args.word.now c.in_ok-kind.kind.now cut.1 c.in_err-named.ensures)

pub returns-in_err-named-2 : goal.returns-in_err-named-2
returns-in_err-named-2 c =
    let cut = split_once_first 46 c.args.word.now (Some (c.in_ok-kind.kind, c.in_ok-kind.axis)) c.in_ok-kind.ensures.cases (lit< tt) in
    rw c.from_residual-in_err-named-2.ensures (no_axis c.args.word.now c.in_ok-kind.axis.now cut.2 c.in_err-named-2.ensures)
