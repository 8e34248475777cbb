use Rattle.std.proofs.Common.{◌≡◌, false, ℕ, List, Some, None, subst, sym}
use Rattle.std.specs.Prelude.{Option}
use Rattle.command_line.specs.declared.args.Work.TheVariants.{Run}
use Rattle.program.specs.Fault.{fault_of_file}
use Rattle.program.specs.Refused.{IsRefusedBy}
use Rattle.program.proofs.Serving.{accepted, is-file, load-refused, of-given, place-refused}
use Rattle.program.proofs.hosting.scripts_of.Goals as goal

pub returns-in_err-tables-clause-refused : goal.returns-in_err-tables-clause-refused
returns-in_err-tables-clause-refused c =
    let file : Option (List ℕ) = Some c.args.bytes.now in
    let error = c.in_err-tables.field-0.0 in
    of-given (λ fault. fault ≡ fault_of_file error) (IsRefusedBy false 1 file None (Run 0 0 false)) c.from_residual-in_err-tables.result c.from_residual-in_err-tables.ensures.1
    (λ fault is. subst (IsRefusedBy false 1 file None (Run 0 0 false)) (sym is) (place-refused false 1 file None (Run 0 0 false) _ error c.requires c.in_ok-document.ensures.ok.1 c.in_err-tables.ensures.fault))

pub returns-in_err-bodies-clause-refused : goal.returns-in_err-bodies-clause-refused
returns-in_err-bodies-clause-refused c =
    let file : Option (List ℕ) = Some c.args.bytes.now in
    let of = c.in_ok-tables.ensures in
    let tables = c.in_ok-tables.tables in
    let read = is-file file _ tables c.in_ok-document.ensures.ok.1 of.keys of.resources of.entities of.sets of.systems of.chains in
    let error = c.in_err-bodies.field-0.0 in
    of-given (λ fault. fault ≡ error) (IsRefusedBy false 1 file None (Run 0 0 false)) c.from_residual-in_err-bodies.result c.from_residual-in_err-bodies.ensures.1
    (λ fault is. subst (IsRefusedBy false 1 file None (Run 0 0 false)) (sym is) (load-refused false 1 file None (Run 0 0 false) tables error c.requires read c.in_err-bodies.ensures.refused))

pub returns-clause-scripts : goal.returns-clause-scripts
returns-clause-scripts c =
    let file : Option (List ℕ) = Some c.args.bytes.now in
    let of = c.in_ok-tables.ensures in
    let tables = c.in_ok-tables.tables in
    let read = is-file file _ tables c.in_ok-document.ensures.ok.1 of.keys of.resources of.entities of.sets of.systems of.chains in
    let l = c.in_ok-bodies.field-0 in
    let is = c.in_ok-bodies.ensures.loaded in
    record { file = accepted file tables l c.requires read is; are = is.scripts }
