use Rattle.std.proofs.Common.{◌≡◌, ◌+◌, ◌≤◌, List, Some, false, get_or, length, map, reverse, refl, sym, ap, ap₂, subst, ◌∙◌, arith}
use Rattle.std.proofs.lemmas.List.{take_all}
use Rattle.model.specs.declared.steps.Step.TheVariants.{Cond}
use Rattle.model.specs.shown.Outcome.{BodyMeaning}
use Rattle.model.specs.steps.Lawful.{IsLawful}
use Rattle.model.specs.steps.Schedule.{recording}
use Rattle.model.specs.runs.Replays.{IsStepTaken}
use Rattle.model.specs.runs.RunState.{after_opening, can_open}
use Rattle.model.specs.state.State.{State}
use Rattle.model.proofs.lists.Lists.{provided-Some}
use Rattle.archetype_store.specs.Layout.{AreAllHome}
use Rattle.body.specs.Steps.{store_of}
use Rattle.body.proofs.Outs.{all-home, none-out}
use Rattle.engine.specs.Deferred.{AreInHand, DeferredValue, IsDeferredFor, run_with}
use Rattle.engine.specs.Meanings.{Suits, meanings}
use Rattle.engine.proofs.StateMemories.{memories_opened}
use Rattle.findings.specs.Worlds.{worlds_text}
use Rattle.trace_checker.proofs.StepsRecording.{known_by}
use Rattle.trace_checker.proofs.Taking.{known_at}
use Rattle.findings.proofs.Scenes.{fresh_by, given_by, meant_next, told_next, waits_by}
use Rattle.findings.proofs.worlds.worlds_in.Goals as goal

pub loop-step-init : goal.loop-step-init
loop-step-init g c =
    let s = c.args.built.now in
    let w = c.args.first.state.state in
    let later = c.open.new.self in
    let opened = c.in_ok-open.ensures in
    record {
      count = refl;
      meaning = opened.opened;
      told = c.new-text.ensures.bytes;
      stands = record {
        suits = record {
          body_count = c.requires.stands.suits.body_count;
          memories = memories_opened s w c.requires.stands.suits.memories later.deferred later.state.state
              (sym (provided-Some (can_open s w) (after_opening s w) (run_with later.state.state later.deferred) opened.opened).1);
          fit = c.requires.stands.suits.fit;
        };
        out = none-out (store_of later.state) (subst AreAllHome (sym opened.layout) (all-home (store_of c.args.first.state) c.prove_law-2.ensures.laid c.requires.stands.out));
        deferred_for = opened.suits;
        hand = opened.in_hand;
      };
      meant = refl;
    }

pub take-requires-clause-known : goal.take-requires-clause-known
take-requires-clause-known g c κs within =
    let s = c.args.built.now in
    let r = c.args.trace.now in
    let steps = c.steps-steps.result.now in
    known_by s r.sets (get_or steps c.loop-step.step-index (Cond 0 false))
    (known_at (recording s r.sets) (meanings g.B.Body.meaning s (map Some c.args.bodies.now)) c.args.first.state.state steps c.loop-step.step-index (Cond 0 false) c.loop-step-test.true
    (subst (IsLawful (recording s r.sets)) c.steps-steps.ensures c.requires.lawful))

pub take-requires-clause-fresh : goal.take-requires-clause-fresh
take-requires-clause-fresh g c κs within = λ n e.
    let s = c.args.built.now in
    let r = c.args.trace.now in
    fresh_by s r.sets (meanings g.B.Body.meaning s (map Some c.args.bodies.now)) c.args.first.state.state c.steps-steps.result.now c.loop-step.step-index (Cond 0 false) c.loop-step-test.true
    (run_with c.loop-step.run.state.state c.loop-step.run.deferred) n (subst (IsLawful (recording s r.sets)) c.steps-steps.ensures c.requires.lawful) c.loop-step.invariant.meaning e

pub take-requires-clause-given : goal.take-requires-clause-given
take-requires-clause-given g c κs within = λ n e.
    let s = c.args.built.now in
    let r = c.args.trace.now in
    given_by s r.sets (meanings g.B.Body.meaning s (map Some c.args.bodies.now)) c.args.first.state.state c.steps-steps.result.now c.loop-step.step-index (Cond 0 false) c.loop-step-test.true
    (run_with c.loop-step.run.state.state c.loop-step.run.deferred) n c.prove_law.ensures (subst (IsLawful (recording s r.sets)) c.steps-steps.ensures c.requires.lawful) c.loop-step.invariant.meaning e

pub take-requires-clause-waits : goal.take-requires-clause-waits
take-requires-clause-waits g c κs within = λ k n e above.
    let s = c.args.built.now in
    let r = c.args.trace.now in
    waits_by s r.sets (meanings g.B.Body.meaning s (map Some c.args.bodies.now)) c.args.first.state.state c.steps-steps.result.now c.loop-step.step-index (Cond 0 false) c.loop-step-test.true
    (run_with c.loop-step.run.state.state c.loop-step.run.deferred) k n (subst (IsLawful (recording s r.sets)) c.steps-steps.ensures c.requires.lawful) c.loop-step.invariant.meaning e above

pub loop-step-preserved : goal.loop-step-preserved
loop-step-preserved g c =
    let s = c.args.built.now in
    let r = c.args.trace.now in
    let ms = meanings g.B.Body.meaning s (map Some c.args.bodies.now) in
    let start = c.args.first.state.state in
    let steps = c.steps-steps.result.now in
    let i = c.loop-step.step-index in
    let inv = c.loop-step.invariant in
    let run = run_with c.loop-step.run.state.state c.loop-step.run.deferred in
    let later = c.take.new.run in
    let after = run_with later.state.state later.deferred in
    let step = get_or steps i (Cond 0 false) in
    let ok = c.in_ok-take.ensures in
    let told = c.in_ok-run.ensures in
    let number = c.loop-step.number + 1 in
    let count : number ≡ i + 1 = let e = inv.count in omega arith in
    let taken = subst (λ (bs : List BodyMeaning). IsStepTaken s bs run step after) inv.meant ok.taken in
    let now = c.in_ok-run.run' in
    record {
      count = count;
      meaning = meant_next s r.sets ms start steps i (Cond 0 false) c.loop-step-test.true run after inv.meaning taken ∙ ap Some (sym (ap₂ run_with told.state told.deferred));
      told = told.told ∙ told_next s r.sets ms start steps i (Cond 0 false) c.loop-step-test.true run after c.args.before number _ count inv.meaning taken inv.told;
      stands = record {
        suits = subst (λ (x : State). Suits g.B.Body.fits s (map Some c.take.new.bodies) x) (sym told.state) ok.stands.suits;
        out = told.out;
        deferred_for = subst (IsDeferredFor s) (sym told.deferred) ok.stands.deferred_for;
        hand = subst (λ (d : DeferredValue). AreInHand now.state.state.world.slots d) (sym told.deferred) (subst (λ (x : State). AreInHand x.world.slots later.deferred) (sym told.state) ok.stands.hand);
      };
      meant = ok.meanings ∙ inv.meant;
    }

pub returns-clause-told : goal.returns-clause-told
returns-clause-told g c =
    let s = c.args.built.now in
    let ms = meanings g.B.Body.meaning s (map Some c.args.bodies.now) in
    let steps = c.steps-steps.result.now in
    let past : length steps ≤ c.loop-step.step-index = let f = c.loop-step-test.false in omega arith in
    c.loop-step.invariant.told ∙ ap (worlds_text s ms c.args.first.state.state c.args.before) (ap reverse (take_all c.loop-step.step-index steps past) ∙ sym c.steps-steps.ensures)
