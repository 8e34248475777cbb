use Rattle.std.proofs.Common.{◌≡◌, ℕ, List, Option, Some, IfSome, inl, inr, refl}
use Rattle.model.proofs.lists.Results.{handed_on}
use Rattle.program.specs.Fault.{fault_of_file}
use Rattle.program.specs.Said.{IsShortFile}
use Rattle.program.specs.declared.fault.Fault.{Fault}
use Rattle.program.proofs.Serving.{accepted, is-file, place-unread}
use Rattle.toml.specs.Parse.{parse_document}
use Rattle.toml.specs.View.{table_view}
use Rattle.findings.specs.Refusals.{IsUnloaded}
use Rattle.findings.proofs.SetsLoaded.{sets_loaded}
use Rattle.findings.proofs.loading.load.Goals as goal

-- it is that of an accepted file
pub returns-clause-loaded : goal.returns-clause-loaded
returns-clause-loaded c = λ bytes within parsed.
    let of = c.in_ok-tables.ensures in
    let l = c.in_ok-file.file in
    let is = c.in_ok-file.ensures.loaded in
    let read = is-file bytes _ c.in_ok-tables.tables parsed of.keys of.resources of.entities of.sets of.systems of.chains in
    record {
      file = accepted bytes c.in_ok-tables.tables l within read is;
      schedule = refl;
      names = is.names;
      scripts = is.scripts;
      entities = is.entities;
      resources = is.resources;
      sets = sets_loaded c.in_ok-tables.tables.sets.items c.in_ok-tables.tables.systems.items c.in_ok-tables.tables.chains.items _ _ c.in_ok-sets.sets c.as_slice.ensures.value c.as_slice-2.ensures.value is.schedule.buildable
          c.in_ok-sets.ensures;
    }

-- the document is not read
pub returns-in_err-tables-clause-refused : goal.returns-in_err-tables-clause-refused
returns-in_err-tables-clause-refused c =
    handed_on (λ (fault : Fault). (bytes : Option (List ℕ)) → IfSome bytes IsShortFile → IfSome bytes (λ text. parse_document text ≡ Some (table_view c.args.document.now)) → IsUnloaded bytes fault) c.from_residual.result
    (fault_of_file c.in_err-tables.field-0.0) c.from_residual.ensures.1
    (λ bytes within parsed. inl (place-unread bytes _ c.in_err-tables.field-0.0 within parsed c.in_err-tables.ensures.fault))

-- what it declares is refused
pub returns-in_err-file-clause-refused : goal.returns-in_err-file-clause-refused
returns-in_err-file-clause-refused c =
    let of = c.in_ok-tables.ensures in
    handed_on (λ (fault : Fault). (bytes : Option (List ℕ)) → IfSome bytes IsShortFile → IfSome bytes (λ text. parse_document text ≡ Some (table_view c.args.document.now)) → IsUnloaded bytes fault) c.from_residual-in_err-file.result
    c.in_err-file.field-0.0 c.from_residual-in_err-file.ensures.1
    (λ bytes within parsed. inr (c.in_ok-tables.tables, within, is-file bytes _ c.in_ok-tables.tables parsed of.keys of.resources of.entities of.sets of.systems of.chains, c.in_err-file.ensures.refused))
