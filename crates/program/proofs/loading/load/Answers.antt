use Rattle.std.proofs.Common.{◌≡◌, List, map, refl, ap, sym, ◌∙◌, subst}
use Rattle.model.specs.declarations.Declarations.{Declared}
use Rattle.script.specs.declared.script_body.ScriptBody.{ScriptBody}
use Rattle.schedule_builder.specs.Answers.{IsAnswered}
use Rattle.program.specs.declared.fault.Fault.TheVariants.{Memory}
use Rattle.program.specs.declared.schedule.Code.{Code}
use Rattle.program.specs.Fault.{fault_of_build}
use Rattle.program.specs.Loaded.{IsNotLoaded}
use Rattle.program.specs.Refused.{IsUnscripted}
use Rattle.program.specs.Said.{declared_by, declared_said, script_said}
use Rattle.program.specs.Setup.{IsScheduleOf, declared_names}
use Rattle.program.proofs.Fitting.{count-declared}
use Rattle.program.proofs.Loads.{build-refused, schedule-of, script-refused, scripts-same}
use Rattle.program.proofs.Serving.{of-given}
use Rattle.program.proofs.loading.load.Goals as goal

-- there are as many codes as systems of the schedule
pub bodies_of-requires : goal.bodies_of-requires
bodies_of-requires c = c.in_ok-desc.ensures.count ∙ sym (count-declared c.in_ok-desc.desc c.in_ok-built.built c.in_ok-built.ensures.systems)

pub returns-clause-loaded : goal.returns-clause-loaded
returns-clause-loaded c =
    let tables = c.args.tables in
    let d = c.in_ok-desc.desc in
    let same : d ≡ declared_by tables = c.in_ok-desc.ensures.said ∙ ap (declared_said tables.sets.items tables.systems.items) c.as_slice.ensures.value in
    let s = c.in_ok-built.built in
    let ok = c.in_ok-built.ensures in
    record {
      schedule = subst (λ (x : Declared). IsScheduleOf x s) same (schedule-of d s ok.buildable ok.systems ok.edges ok.levels ok.order ok.conditions ok.silences);
      names = c.in_ok-names.ensures ∙ (ap (map (λ code. code.name.now)) c.as_slice-2.ensures.value ∙ (c.in_ok-desc.ensures.names ∙ ap declared_names same));
      scripts = c.in_ok-bodies.ensures.said ∙ scripts-same c.in_ok-desc.codes.items tables.systems.items c.in_ok-desc.ensures.blocks;
      fitting = c.in_ok-bodies.ensures.fitting;
      entities = refl;
      resources = refl;
    }

pub returns-in_err-desc-clause-refused : goal.returns-in_err-desc-clause-refused
returns-in_err-desc-clause-refused c = of-given (λ fault. fault ≡ Memory) (IsNotLoaded c.args.tables) c.from_residual.result c.from_residual.ensures.1 (λ fault is. subst (IsNotLoaded c.args.tables) (sym is) tt)

pub returns-in_err-names-clause-refused : goal.returns-in_err-names-clause-refused
returns-in_err-names-clause-refused c =
    of-given (λ fault. fault ≡ Memory) (IsNotLoaded c.args.tables) c.from_residual-in_err-names.result c.from_residual-in_err-names.ensures.1 (λ fault is. subst (IsNotLoaded c.args.tables) (sym is) tt)

pub returns-in_err-built-clause-refused : goal.returns-in_err-built-clause-refused
returns-in_err-built-clause-refused c =
    let tables = c.args.tables in
    let error = c.in_err-built.field-0.0 in
    let same : c.in_ok-desc.desc ≡ declared_by tables = c.in_ok-desc.ensures.said ∙ ap (declared_said tables.sets.items tables.systems.items) c.as_slice.ensures.value in
    of-given (λ fault. fault ≡ fault_of_build error) (IsNotLoaded tables) c.from_residual-in_err-built.result c.from_residual-in_err-built.ensures.1
    (λ fault is. subst (IsNotLoaded tables) (sym is) (build-refused tables error (subst (λ (x : Declared). IsAnswered x error) same c.in_err-built.ensures.refused)))

pub returns-in_err-bodies-clause-refused : goal.returns-in_err-bodies-clause-refused
returns-in_err-bodies-clause-refused c =
    let tables = c.args.tables in
    let d = c.in_ok-desc.desc in
    let same : d ≡ declared_by tables = c.in_ok-desc.ensures.said ∙ ap (declared_said tables.sets.items tables.systems.items) c.as_slice.ensures.value in
    let s = c.in_ok-built.built in
    let ok = c.in_ok-built.ensures in
    let is = subst (λ (x : Declared). IsScheduleOf x s) same (schedule-of d s ok.buildable ok.systems ok.edges ok.levels ok.order ok.conditions ok.silences) in
    let error = c.in_err-bodies.field-0.0 in
    let unscripted = subst (λ (scripts : List ScriptBody). IsUnscripted s (declared_names (declared_by tables)) scripts error) (scripts-same c.in_ok-desc.codes.items tables.systems.items c.in_ok-desc.ensures.blocks)
    (subst (λ names. IsUnscripted s names (map (λ (code : Code). script_said code.blocks) c.in_ok-desc.codes.items) error) (c.in_ok-desc.ensures.names ∙ ap declared_names same) c.in_err-bodies.ensures.refused) in
    of-given (λ fault. fault ≡ error) (IsNotLoaded tables) c.from_residual-in_err-bodies.result c.from_residual-in_err-bodies.ensures.1
    (λ fault is-error. subst (IsNotLoaded tables) (sym is-error) (script-refused tables s error is unscripted))
