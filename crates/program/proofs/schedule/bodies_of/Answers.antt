use Rattle.std.proofs.Common.{◌≡◌, ◌+◌, true, [], ◌∷◌, ◌++◌, length, map, take, drop, ap, sym, ◌∙◌, subst, arith}
use Rattle.std.proofs.lemmas.List.{length_push, map-append, map-id, take-append-drop}
use Rattle.std.proofs.lemmas.Iterator.Adapters.{YieldsList-from_vec}
use Rattle.std.proofs.lemmas.Iterator.Consumers.{YieldsList-so_far, YieldsList-turn}
use Rattle.script.specs.Faults.{fits}
use Rattle.model.specs.steps.Schedule.{params_of}
use Rattle.program.specs.Said.{script_said}
use Rattle.program.specs.declared.schedule.Code.{Code}
use Rattle.program.specs.Refused.{IsScriptRefused, IsUnscripted}
use Rattle.program.proofs.Fitting.{fits-before, fits-more, name-at, script-at, unscripted}
use Rattle.program.proofs.Serving.{of-given}
use Rattle.program.proofs.schedule.bodies_of.Goals as goal

pub loop-code-preserved : goal.loop-code-preserved
loop-code-preserved c =
    let pushed = length_push c.loop-code.bodies.items c.in_ok-body.body in
    let script_of = λ (code : Code). script_said code.blocks in
    let length_is = c.loop-code.bodies.ok.0 in
    let len = c.len-in-loop-code.ensures in
    let here : c.len-in-loop-code.result ≡ length c.loop-code.bodies.items = omega arith in
    record {
      count = ap length c.in_ok-push.ensures.items ∙ pushed ∙ ap (λ n. n + 1) c.loop-code.invariant.count ∙ sym (length_push c.loop-code.yielded c.in-Some.code);
      fit = fits-more c.args.built.now c.loop-code.bodies.items c.push.new.self.items c.in_ok-body.body c.loop-code.invariant.fit
          (subst (λ n. fits (params_of c.args.built.now n) c.in_ok-body.body ≡ true) here c.in_ok-body.ensures.fit) c.in_ok-push.ensures.items;
      said = c.in_ok-push.ensures.items ∙ (ap (λ scripts. scripts ++ c.in_ok-body.body ∷ []) c.loop-code.invariant.said
          ∙ (ap (λ script. map script_of c.loop-code.yielded ++ script ∷ []) c.in_ok-body.ensures.said ∙ sym (map-append script_of c.loop-code.yielded (c.in-Some.code ∷ []))));
    }

pub returns-in_err-body-clause-refused : goal.returns-in_err-body-clause-refused
returns-in_err-body-clause-refused c =
    let t = YieldsList-turn (YieldsList-from_vec c.args.codes.items (cc) (cc)) c.loop-code.yielded c.loop-code.code-iterator c.loop-code.yielded_by _ c.next.new.self c.in-Some.code c.in-Some.is c.next.ensures.steps in
    let s = c.args.built.now in
    let codes = c.args.codes.items in
    let code = c.in-Some.code in
    let n = length c.loop-code.yielded in
    let names = map (λ (x : Code). x.name.now) codes in
    let scripts = map (λ (x : Code). script_said x.blocks) codes in
    let inside = t.0 in
    let count = c.loop-code.invariant.count in
    let length_is = c.loop-code.bodies.ok.0 in
    let systems = c.requires in
    let len = c.len-in-loop-code.ensures in
    let here : c.len-in-loop-code.result ≡ n = omega arith in
    let yields = YieldsList-from_vec c.args.codes.items (cc) (cc) in
    let so_far : c.loop-code.yielded ≡ take n codes = sym (map-id c.loop-code.yielded) ∙ YieldsList-so_far yields c.loop-code.yielded c.loop-code.code-iterator c.loop-code.yielded_by in
    let script_of = λ (x : Code). script_said x.blocks in
    let whole : scripts ≡ c.loop-code.bodies.items ++ map script_of (drop n codes) =
    ap (map script_of) (sym (take-append-drop n codes)) ∙ (map-append script_of (take n codes) (drop n codes)
    ∙ ap (λ xs. xs ++ map script_of (drop n codes)) (ap (map script_of) (sym so_far) ∙ sym c.loop-code.invariant.said)) in
    let before = fits-before s c.loop-code.bodies.items scripts (map script_of (drop n codes)) whole c.loop-code.invariant.fit in
    let refused = subst (λ m. IsScriptRefused s m code.name.now (script_said code.blocks) c.in_err-body.field-0.0) here c.in_err-body.ensures.refused in
    of-given (λ fault. fault ≡ c.in_err-body.field-0.0) (IsUnscripted s names scripts) c.from_residual-in_err-body.result c.from_residual-in_err-body.ensures.1
    (λ fault is. unscripted s names scripts n code.name.now (script_said code.blocks) fault (omega arith) (name-at codes n code inside t.1) (script-at codes n code inside t.1)
    (subst (IsScriptRefused s n code.name.now (script_said code.blocks)) (sym is) refused) (λ m less. before m (omega (arith, less, count))))
