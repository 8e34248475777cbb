use Rattle.std.proofs.Common.{Err, length, ap, sym, ◌∙◌, refl, arith}
use Rattle.model.specs.access.Access.{Params}
use Rattle.script.specs.Faults.{fits, script_fault}
use Rattle.script.specs.Checked.{fault_told}
use Rattle.script.specs.declared.fault.CheckFault.{CheckFault}
use Rattle.script.specs.declared.script_body.ScriptBody.{ScriptBody}
use Rattle.program.specs.Said.{script_said}
use Rattle.program.proofs.Fitting.{fits-none, params-at, script-refusal}
use Rattle.program.proofs.schedule.body_of.Goals as goal

pub returns-in-Ok-clause-fit : goal.returns-in-Ok-clause-fit
returns-in-Ok-clause-fit c =
    let all = ap length c.systems.ensures in
    let known = c.requires in
    let here = params-at c.args.built.now c.args.system c.args.system c.systems.result.now c.index-systems-system.result c.params-params.result.now
    (omega arith) c.systems.ensures refl c.index-systems-system.is c.params-params.ensures in
    ap (λ (p : Params). fits p c.in-Ok.body) (sym here) ∙ ap (fits c.params-params.result.now) c.in-Ok.ensures.script ∙ fits-none c.params-params.result.now _ c.in-Ok.ensures.fault

pub returns-in-Err-Script-clause-refused : goal.returns-in-Err-Script-clause-refused
returns-in-Err-Script-clause-refused c =
    let all = ap length c.systems.ensures in
    let known = c.requires in
    let here = params-at c.args.built.now c.args.system c.args.system c.systems.result.now c.index-systems-system.result c.params-params.result.now
    (omega arith) c.systems.ensures refl c.index-systems-system.is c.params-params.ensures in
    let script = script_said c.args.code.blocks in
    script-refusal c.args.built.now c.args.system c.args.code.name.now c.in-Err-Script.fault script c.of_script.result c.of_script.ensures
    (ap (λ (p : Params). script_fault p script) (sym here) ∙ c.in-Err-Script.ensures.fault ∙ ap (λ (f : CheckFault). fault_told {A = ScriptBody} (Err f)) c.in-Err-Script.field-0-is)
