use Rattle.std.proofs.Common.{◌≡◌, ℕ, List, length, map, refl, ap, sym, ◌∙◌, subst, string_bytes}
use denote.Param.Send.{sendable}
use Rattle.command_line.specs.declared.args.Work.{Work}
use Rattle.command_line.specs.declared.args.Work.TheVariants.{Run, Check}
use Rattle.model.specs.shown.Outcome.{BodyMeaning}
use Rattle.model.specs.state.Loaded.{loaded}
use Rattle.model.specs.state.State.{State}
use Rattle.model.proofs.lists.Results.{err_as as of-err}
use Rattle.engine.specs.FirstState.{first_state}
use Rattle.script.specs.declared.script_body.ScriptBody.{ScriptBody}
use Rattle.program_file.proofs.Mapped.{of-ok}
use Rattle.program.specs.declared.fault.Fault.TheVariants.{Memory}
use Rattle.program.specs.Checked.{IsCheckOf}
use Rattle.program.specs.Fault.{fault_of_file}
use Rattle.program.specs.Load.{entity_given}
use Rattle.program.specs.Recorded.{IsTextOfRuns}
use Rattle.program.specs.Refused.{IsRefusedBy, IsTraceUnread, IsUngiven, IsUnreplayed, IsUnrun}
use Rattle.program.specs.Replayed.{IsTextOfReplay}
use Rattle.program.specs.Served.{IsAnswerTo, IsTextOfReport}
use Rattle.program.specs.Setup.{meanings_of_scripts}
use Rattle.program.proofs.Serving.{accepted, enough, given-refused, is-file, load-refused, of-given, of-ok-two, place-refused, replay-loaded, run-refused, runs-loaded, trace-refused, unread-refused, unreplayed-refused, unrun-loaded, world-loaded}
use Rattle.program.proofs.serve.answer.Goals as goal

-- the mode may send what it sends, and there is a script for each system
pub run-requires : goal.run-requires
run-requires g c = λ lifetimes.
    (search sendable depth 40, (search sendable depth 40, (search sendable depth 40, ((refl, tt), (c.in_ok-built.ensures.loaded.fitting, c.in_ok-world.ensures.home)))))

-- ---- what is answered

-- the report names the systems as they are declared
pub returns-in-Ambiguities-clause-done : goal.returns-in-Ambiguities-clause-done
returns-in-Ambiguities-clause-done g c =
    let width = g.M.Mode.width c.args.mode.now in
    let file = g.F.Read.remaining c.args.file.now in
    let trace = g.T.Read.remaining c.args.trace.now in
    let of = c.in_ok-tables.ensures in
    let l = c.in_ok-built.field-0 in
    let is = c.in_ok-built.ensures.loaded in
    let read = is-file file _ c.in_ok-tables.tables c.in_ok-document.ensures.read of.keys of.resources of.entities of.sets of.systems of.chains in
    let names = map (λ name. name.now) c.as_slice.result.now in
    of-ok-two (λ answer. IsTextOfReport names l.built (string_bytes answer.text)) (λ answer. answer.status ≡ 0) (λ answer. IsAnswerTo width c.args.work file trace answer) c.report_of.result
    (λ answer h status. subst (λ (w : Work). IsAnswerTo width w file trace answer) (sym c.in-Ambiguities.is) (
      status,
      record {
        file = accepted file c.in_ok-tables.tables l c.in_ok-document.ensures.within read is;
        report = subst (λ ns. IsTextOfReport ns l.built (string_bytes answer.text)) (ap (map (λ name. name.now)) c.as_slice.ensures.value ∙ is.names) h;
      },
    )) c.report_of.ensures.report c.report_of.ensures.status

pub returns-in-Check-clause-done : goal.returns-in-Check-clause-done
returns-in-Check-clause-done g c =
    let width = g.M.Mode.width c.args.mode.now in
    let file = g.F.Read.remaining c.args.file.now in
    let trace = g.T.Read.remaining c.args.trace.now in
    let of = c.in_ok-tables.ensures in
    let l = c.in_ok-built.field-0 in
    let read = is-file file _ c.in_ok-tables.tables c.in_ok-document.ensures.read of.keys of.resources of.entities of.sets of.systems of.chains in
    of-ok (λ answer. IsCheckOf l.built trace answer.status (string_bytes answer.text)) (λ answer. IsAnswerTo width c.args.work file trace answer) c.check_trace.result
    (λ answer h. subst (λ (w : Work). IsAnswerTo width w file trace answer) (sym c.in-Check.is) (record { file = accepted file c.in_ok-tables.tables l c.in_ok-document.ensures.within read c.in_ok-built.ensures.loaded; check = h })) c.check_trace.ensures.done

pub returns-in-Replay-clause-done : goal.returns-in-Replay-clause-done
returns-in-Replay-clause-done g c =
    let width = g.M.Mode.width c.args.mode.now in
    let file = g.F.Read.remaining c.args.file.now in
    let trace = g.T.Read.remaining c.args.trace.now in
    let of = c.in_ok-tables.ensures in
    let l = c.in_ok-built.field-0 in
    let is = c.in_ok-built.ensures.loaded in
    let read = is-file file _ c.in_ok-tables.tables c.in_ok-document.ensures.read of.keys of.resources of.entities of.sets of.systems of.chains in
    of-ok-two (λ answer. IsTextOfReplay l.built (meanings_of_scripts l.built l.bodies.items) (loaded l.built (map entity_given c.deref.result.now) l.resources) trace (string_bytes answer.text))
    (λ answer. answer.status ≡ 0) (λ answer. IsAnswerTo width c.args.work file trace answer) c.replay_trace.result
    (λ answer h status. subst (λ (w : Work). IsAnswerTo width w file trace answer) (sym c.in-Replay.is) (
      status,
      record {
        file = accepted file c.in_ok-tables.tables l c.in_ok-document.ensures.within read is;
        runs = replay-loaded c.in_ok-tables.tables l c.deref.result.now (λ (bodies : List BodyMeaning) (start : State) (count : ℕ). IsTextOfReplay l.built bodies start trace (string_bytes answer.text)) is c.deref.ensures.value h;
      },
    )) c.replay_trace.ensures.text c.replay_trace.ensures.status

pub returns-clause-done : goal.returns-clause-done
returns-clause-done g c =
    let width = g.M.Mode.width c.args.mode.now in
    let file = g.F.Read.remaining c.args.file.now in
    let trace = g.T.Read.remaining c.args.trace.now in
    let tables = c.in_ok-tables.tables in
    let of = c.in_ok-tables.ensures in
    let l = c.in_ok-built.field-0 in
    let is = c.in_ok-built.ensures.loaded in
    let read = is-file file _ tables c.in_ok-document.ensures.read of.keys of.resources of.entities of.sets of.systems of.chains in
    let times = c.in-Run.times in
    let recorded = c.in-Run.recorded in
    let world = c.in_ok-world.world.state in
    let same = world-loaded tables l c.as_slice-2.result.now world is c.as_slice-2.ensures.value c.in_ok-world.ensures.world in
    of-ok-two (λ answer. IsTextOfRuns width l.built (meanings_of_scripts l.built l.bodies.items) (first_state l.built world) times recorded (string_bytes answer.text) (string_bytes answer.traces))
    (λ answer. answer.status ≡ 0) (λ answer. IsAnswerTo width c.args.work file trace answer) c.run.result
    (λ answer h status. subst (λ (w : Work). IsAnswerTo width w file trace answer) (sym c.in-Run.is) (
      status,
      record {
        file = accepted file tables l c.in_ok-document.ensures.within read is;
        runs = subst (λ (xs : List ScriptBody). IsTextOfRuns width l.built (meanings_of_scripts l.built xs) (loaded l.built (map entity_given tables.entities.items) tables.resources) times recorded (string_bytes answer.text) (string_bytes answer.traces)) is.scripts
            (runs-loaded width l.built l.bodies.items world (map entity_given tables.entities.items) tables.resources times recorded (string_bytes answer.text) (string_bytes answer.traces) same h);
      },
    )) c.run.ensures.runs c.run.ensures.status

-- ---- who refuses

pub returns-in_err-document-clause-refused : goal.returns-in_err-document-clause-refused
returns-in_err-document-clause-refused g c =
    let there = g.M.SpawnThreads.has_scope c.args.mode.now in
    let width = g.M.Mode.width c.args.mode.now in
    let file = g.F.Read.remaining c.args.file.now in
    let trace = g.T.Read.remaining c.args.trace.now in
    of-given (λ fault. fault ≡ c.in_err-document.field-0.0) (IsRefusedBy there width file trace c.args.work) c.from_residual.result c.from_residual.ensures.1
    (λ fault is. subst (IsRefusedBy there width file trace c.args.work) (sym is) (unread-refused there width file trace c.args.work c.in_err-document.field-0.0 c.in_err-document.ensures.refused))

pub returns-in_err-tables-clause-refused : goal.returns-in_err-tables-clause-refused
returns-in_err-tables-clause-refused g c =
    let there = g.M.SpawnThreads.has_scope c.args.mode.now in
    let width = g.M.Mode.width c.args.mode.now in
    let file = g.F.Read.remaining c.args.file.now in
    let trace = g.T.Read.remaining c.args.trace.now in
    let error = c.in_err-tables.field-0.0 in
    of-given (λ fault. fault ≡ fault_of_file error) (IsRefusedBy there width file trace c.args.work) c.from_residual-in_err-tables.result c.from_residual-in_err-tables.ensures.1
    (λ fault is. subst (IsRefusedBy there width file trace c.args.work) (sym is) (place-refused there width file trace c.args.work _ error c.in_ok-document.ensures.within c.in_ok-document.ensures.read c.in_err-tables.ensures.fault))

pub returns-in_err-built-clause-refused : goal.returns-in_err-built-clause-refused
returns-in_err-built-clause-refused g c =
    let there = g.M.SpawnThreads.has_scope c.args.mode.now in
    let width = g.M.Mode.width c.args.mode.now in
    let file = g.F.Read.remaining c.args.file.now in
    let trace = g.T.Read.remaining c.args.trace.now in
    let of = c.in_ok-tables.ensures in
    let error = c.in_err-built.field-0.0 in
    let read = is-file file _ c.in_ok-tables.tables c.in_ok-document.ensures.read of.keys of.resources of.entities of.sets of.systems of.chains in
    of-given (λ fault. fault ≡ error) (IsRefusedBy there width file trace c.args.work) c.from_residual-in_err-built.result c.from_residual-in_err-built.ensures.1
    (λ fault is. subst (IsRefusedBy there width file trace c.args.work) (sym is) (load-refused there width file trace c.args.work c.in_ok-tables.tables error c.in_ok-document.ensures.within read c.in_err-built.ensures.refused))

pub returns-in-Ambiguities-clause-refused : goal.returns-in-Ambiguities-clause-refused
returns-in-Ambiguities-clause-refused g c =
    let there = g.M.SpawnThreads.has_scope c.args.mode.now in
    let width = g.M.Mode.width c.args.mode.now in
    let file = g.F.Read.remaining c.args.file.now in
    let trace = g.T.Read.remaining c.args.trace.now in
    of-err (λ fault. fault ≡ Memory) (IsRefusedBy there width file trace c.args.work) c.report_of.result (λ fault is. subst (IsRefusedBy there width file trace c.args.work) (sym is) tt) c.report_of.ensures.memory

pub returns-in-Check-clause-refused : goal.returns-in-Check-clause-refused
returns-in-Check-clause-refused g c =
    let there = g.M.SpawnThreads.has_scope c.args.mode.now in
    let width = g.M.Mode.width c.args.mode.now in
    let file = g.F.Read.remaining c.args.file.now in
    let trace = g.T.Read.remaining c.args.trace.now in
    let of = c.in_ok-tables.ensures in
    let read = is-file file _ c.in_ok-tables.tables c.in_ok-document.ensures.read of.keys of.resources of.entities of.sets of.systems of.chains in
    let whole = accepted file c.in_ok-tables.tables c.in_ok-built.field-0 c.in_ok-document.ensures.within read c.in_ok-built.ensures.loaded in
    of-err (IsTraceUnread trace) (IsRefusedBy there width file trace c.args.work) c.check_trace.result
    (λ fault h. subst (λ (w : Work). IsRefusedBy there width file trace w fault) (sym c.in-Check.is) (trace-refused there width file trace whole Check fault tt h)) c.check_trace.ensures.refused

pub returns-in-Replay-clause-refused : goal.returns-in-Replay-clause-refused
returns-in-Replay-clause-refused g c =
    let there = g.M.SpawnThreads.has_scope c.args.mode.now in
    let width = g.M.Mode.width c.args.mode.now in
    let file = g.F.Read.remaining c.args.file.now in
    let trace = g.T.Read.remaining c.args.trace.now in
    let tables = c.in_ok-tables.tables in
    let of = c.in_ok-tables.ensures in
    let l = c.in_ok-built.field-0 in
    let is = c.in_ok-built.ensures.loaded in
    let read = is-file file _ tables c.in_ok-document.ensures.read of.keys of.resources of.entities of.sets of.systems of.chains in
    let whole = accepted file tables l c.in_ok-document.ensures.within read is in
    of-err (IsUnreplayed l.built (meanings_of_scripts l.built l.bodies.items) (loaded l.built (map entity_given c.deref.result.now) l.resources) (length c.deref.result.now) trace) (IsRefusedBy there width file trace c.args.work) c.replay_trace.result
    (λ fault h. subst (λ (w : Work). IsRefusedBy there width file trace w fault) (sym c.in-Replay.is) (unreplayed-refused there width file trace whole fault (enough _ tables.entities.items c.in_ok-document.ensures.short of.entities)
    (replay-loaded tables l c.deref.result.now (λ (bodies : List BodyMeaning) (start : State) (count : ℕ). IsUnreplayed l.built bodies start count trace fault) is c.deref.ensures.value h))) c.replay_trace.ensures.stopped

pub returns-in_err-world-clause-refused : goal.returns-in_err-world-clause-refused
returns-in_err-world-clause-refused g c =
    let there = g.M.SpawnThreads.has_scope c.args.mode.now in
    let width = g.M.Mode.width c.args.mode.now in
    let file = g.F.Read.remaining c.args.file.now in
    let trace = g.T.Read.remaining c.args.trace.now in
    let tables = c.in_ok-tables.tables in
    let of = c.in_ok-tables.ensures in
    let l = c.in_ok-built.field-0 in
    let is = c.in_ok-built.ensures.loaded in
    let read = is-file file _ tables c.in_ok-document.ensures.read of.keys of.resources of.entities of.sets of.systems of.chains in
    let whole = accepted file tables l c.in_ok-document.ensures.within read is in
    let error = c.in_err-world.field-0.0 in
    of-given (λ fault. fault ≡ error) (IsRefusedBy there width file trace c.args.work) c.from_residual-in_err-world.result c.from_residual-in_err-world.ensures.1
    (λ fault is-error. subst (IsRefusedBy there width file trace c.args.work) (sym is-error)
    (subst (λ (w : Work). IsRefusedBy there width file trace w error) (sym c.in-Run.is) (given-refused there width file trace whole (Run c.in-Run.times c.in-Run.workers c.in-Run.recorded) error (enough _ tables.entities.items c.in_ok-document.ensures.short of.entities)
    (subst (λ es. IsUngiven (length es) error) (c.as_slice-2.ensures.value ∙ is.entities) c.in_err-world.ensures.refused))))

pub returns-clause-refused : goal.returns-clause-refused
returns-clause-refused g c =
    let there = g.M.SpawnThreads.has_scope c.args.mode.now in
    let width = g.M.Mode.width c.args.mode.now in
    let file = g.F.Read.remaining c.args.file.now in
    let trace = g.T.Read.remaining c.args.trace.now in
    let tables = c.in_ok-tables.tables in
    let of = c.in_ok-tables.ensures in
    let l = c.in_ok-built.field-0 in
    let is = c.in_ok-built.ensures.loaded in
    let read = is-file file _ tables c.in_ok-document.ensures.read of.keys of.resources of.entities of.sets of.systems of.chains in
    let whole = accepted file tables l c.in_ok-document.ensures.within read is in
    let times = c.in-Run.times in
    let recorded = c.in-Run.recorded in
    let world = c.in_ok-world.world.state in
    let same = world-loaded tables l c.as_slice-2.result.now world is c.as_slice-2.ensures.value c.in_ok-world.ensures.world in
    of-err (IsUnrun there width l.built (meanings_of_scripts l.built l.bodies.items) times (first_state l.built world) recorded) (IsRefusedBy there width file trace c.args.work) c.run.result
    (λ fault h. subst (λ (w : Work). IsRefusedBy there width file trace w fault) (sym c.in-Run.is) (run-refused there width file trace whole times c.in-Run.workers recorded fault
    (subst (λ (xs : List ScriptBody). IsUnrun there width l.built (meanings_of_scripts l.built xs) times (loaded l.built (map entity_given tables.entities.items) tables.resources) recorded fault) is.scripts
    (unrun-loaded there width l.built l.bodies.items world (map entity_given tables.entities.items) tables.resources times recorded fault same h)))) c.run.ensures.stopped
