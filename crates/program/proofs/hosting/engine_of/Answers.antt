use Rattle.std.proofs.Common.{◌≡◌, false, ℕ, List, length, map, Some, None, sym, ap, ap₂, ◌∙◌, subst}
use Rattle.std.specs.Prelude.{Option}
use Rattle.std.proofs.lemmas.Result.{IfOk-weaker}
use Rattle.command_line.specs.declared.args.Work.TheVariants.{Run}
use Rattle.engine.specs.EngineValue.{EngineValue}
use Rattle.engine.specs.FirstState.{first_state}
use Rattle.model.specs.state.State.{World}
use Rattle.script.specs.declared.script_body.ScriptBody.{ScriptBody}
use Rattle.program.specs.Fault.{fault_of_file}
use Rattle.program.specs.Hosted.{IsEngineOf}
use Rattle.program.specs.Refused.{IsRefusedBy, IsUngiven}
use Rattle.program.specs.Said.{IsOfShortText}
use Rattle.toml.specs.View.{table_view}
use Rattle.program.proofs.Serving.{accepted, enough, given-refused, is-file, load-refused, of-given, place-refused, world-loaded}
use Rattle.program.proofs.hosting.engine_of.Goals as goal

pub returns-in_err-tables-clause-refused : goal.returns-in_err-tables-clause-refused
returns-in_err-tables-clause-refused c =
    let file : Option (List ℕ) = Some c.args.bytes.now in
    let error = c.in_err-tables.field-0.0 in
    of-given (λ fault. fault ≡ fault_of_file error) (IsRefusedBy false 1 file None (Run 0 0 false)) c.from_residual-in_err-tables.result c.from_residual-in_err-tables.ensures.1
    (λ fault is. subst (IsRefusedBy false 1 file None (Run 0 0 false)) (sym is) (place-refused false 1 file None (Run 0 0 false) _ error c.requires c.in_ok-document.ensures.ok.1 c.in_err-tables.ensures.fault))

pub returns-in_err-built-clause-refused : goal.returns-in_err-built-clause-refused
returns-in_err-built-clause-refused c =
    let file : Option (List ℕ) = Some c.args.bytes.now in
    let of = c.in_ok-tables.ensures in
    let tables = c.in_ok-tables.tables in
    let read = is-file file _ tables c.in_ok-document.ensures.ok.1 of.keys of.resources of.entities of.sets of.systems of.chains in
    let error = c.in_err-built.field-0.0 in
    of-given (λ fault. fault ≡ error) (IsRefusedBy false 1 file None (Run 0 0 false)) c.from_residual-in_err-built.result c.from_residual-in_err-built.ensures.1
    (λ fault is. subst (IsRefusedBy false 1 file None (Run 0 0 false)) (sym is) (load-refused false 1 file None (Run 0 0 false) tables error c.requires read c.in_err-built.ensures.refused))

pub returns-in_err-world-clause-refused : goal.returns-in_err-world-clause-refused
returns-in_err-world-clause-refused c =
    let file : Option (List ℕ) = Some c.args.bytes.now in
    let of = c.in_ok-tables.ensures in
    let tables = c.in_ok-tables.tables in
    let read = is-file file _ tables c.in_ok-document.ensures.ok.1 of.keys of.resources of.entities of.sets of.systems of.chains in
    let l = c.in_ok-built.field-0 in
    let is = c.in_ok-built.ensures.loaded in
    let whole = accepted file tables l c.requires read is in
    let error = c.in_err-world.field-0.0 in
    let short : IsOfShortText (table_view c.in_ok-document.document) = record { text = c.args.bytes.now; short = c.requires; parsed = c.in_ok-document.ensures.ok.1 } in
    of-given (λ fault. fault ≡ error) (IsRefusedBy false 1 file None (Run 0 0 false)) c.from_residual-in_err-world.result c.from_residual-in_err-world.ensures.1
    (λ fault is-error. subst (IsRefusedBy false 1 file None (Run 0 0 false)) (sym is-error)
    (given-refused false 1 file None whole (Run 0 0 false) error (enough _ tables.entities.items short of.entities)
    (subst (λ es. IsUngiven (length es) error) (c.as_slice.ensures.value ∙ is.entities) c.in_err-world.ensures.refused)))

pub returns-clause-begun : goal.returns-clause-begun
returns-clause-begun c =
    let file : Option (List ℕ) = Some c.args.bytes.now in
    let of = c.in_ok-tables.ensures in
    let tables = c.in_ok-tables.tables in
    let read = is-file file _ tables c.in_ok-document.ensures.ok.1 of.keys of.resources of.entities of.sets of.systems of.chains in
    let l = c.in_ok-built.field-0 in
    let is = c.in_ok-built.ensures.loaded in
    let same = world-loaded tables l c.as_slice.result.now c.in_ok-world.world.state is c.as_slice.ensures.value c.in_ok-world.ensures.world in
    IfOk-weaker c.begun.result _ (IsEngineOf c.args.bytes.now) (λ engine begun. record {
      file = accepted file tables l c.requires read is;
      is = begun ∙ ap₂ (λ (scripts : List ScriptBody) (world : World). record { schedule = l.built; bodies = map Some scripts; state = first_state l.built world; spoiled = false }) is.scripts same;
    }) c.begun.ensures.begun
