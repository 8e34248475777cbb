use Rattle.std.proofs.Common.{◌≡◌, ◌+◌, true, List, inl, inr, refl, subst, sym, rules}
use Rattle.engine.specs.Meanings.{HasMemories}
use Rattle.model.specs.runs.Replays.{IsReplayed}
use Rattle.model.specs.shown.Outcome.{BodyMeaning}
use Rattle.model.specs.state.State.{State}
use Rattle.model.specs.steps.Schedule.{recording}
use Rattle.program.specs.Replayed.{IsRefusedRun}
use Rattle.program.specs.Setup.{meanings_of_scripts}
use Rattle.findings.proofs.Fitting.{fitting_suit}
use Rattle.findings.proofs.behind.after_one.Goals as goal

-- the scripts fit, and a copy of the state has its memories
pub replay_run-requires : goal.replay_run-requires
replay_run-requires c =
    let s = c.args.built.now in
    let fits : c.are_fitting.result ≡ true = search rules in
    fitting_suit s c.loop.bodies c.in_ok-start.start (c.are_fitting.ensures fits) (subst (HasMemories s) (sym c.in_ok-start.ensures) c.requires)

-- the list leads on, by scripts that mean what they meant
pub returns-in-Ok-clause-next : goal.returns-in-Ok-clause-next
returns-in-Ok-clause-next c =
    let s = c.args.built.now in
    let list = c.in_ok-list.list in
    let left = c.in-Ok.left in
    record {
      run = list;
      replayed = subst (λ (bs : List BodyMeaning). IsReplayed (recording s list.sets) bs c.args.state list.steps left) c.loop.invariant
          (subst (λ (w : State). IsReplayed (recording s list.sets) (meanings_of_scripts s c.loop.bodies) w list.steps left) c.in_ok-start.ensures c.in-Ok.ensures.replayed);
    }

-- the list is refused, by scripts that mean what they meant
pub returns-in-Err-clause-refused : goal.returns-in-Err-clause-refused
returns-in-Err-clause-refused c =
    let s = c.args.built.now in
    let list = c.in_ok-list.list in
    inr (
      list,
      subst (λ (bs : List BodyMeaning). IsRefusedRun s bs c.args.state list (c.args.before + 1) c.in-Err.fault) c.loop.invariant
          (subst (λ (w : State). IsRefusedRun s (meanings_of_scripts s c.loop.bodies) w list (c.args.before + 1) c.in-Err.fault) c.in_ok-start.ensures c.in-Err.ensures.refused),
    )

-- scripts that do not fit, and answers that never fit, are told as a failed allocation
pub returns-then-not-are_fitting-clause-refused : goal.returns-then-not-are_fitting-clause-refused
returns-then-not-are_fitting-clause-refused c = inl refl

pub returns-clause-refused : goal.returns-clause-refused
returns-clause-refused c = inl refl
