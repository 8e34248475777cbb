use Rattle.std.proofs.Common.{◌∷◌, false, length, sym, ap, ◌∙◌, subst}
use Rattle.model.specs.declared.steps.Ready.{Ready}
use Rattle.model.specs.declared.steps.Step.TheVariants.{Cond, Sync}
use Rattle.model.specs.runs.WideRuns.{WideStops}
use Rattle.model.specs.state.KindSets.{kind_sets_of}
use Rattle.model.specs.steps.Schedule.{recording}
use Rattle.model.proofs.serial.Recording.{answer-recording, interleaved_cause-recording}
use Rattle.body.specs.Steps.{StateValue}
use Rattle.engine.specs.Deferred.{DeferredValue, run_with}
use Rattle.engine.specs.Jobs.{woven, InHand}
use Rattle.engine.specs.Next.{StopsOffered}
use Rattle.engine.specs.Stage.{Stage, IsTake}
use Rattle.engine.specs.Stops.{CannotSync, LacksTick}
use Rattle.engine.proofs.RunStages.{stage_ask, stage_skip, none_out, stops_ask, stops_sync, stops_plain}
use Rattle.engine.proofs.RunRecord.{listed_synced, stage_synced}
use Rattle.engine.proofs.StateMemories.{memories_synced}
use Rattle.engine.proofs.Stops.{stops_among}
use Rattle.engine.proofs.Turns.{ask_allowed, sync_fresh, placed_asked, placed_synced, in_hand_none, in_hand_asked, home_end}
use Rattle.engine.proofs.coordinator.do_plain.Goals as goal
use Rattle.model.proofs.lists.Results.{handed_on}

pub ask-requires-clause-known : goal.ask-requires-clause-known
ask-requires-clause-known g c =
    let width = c.requires.next.1 in
    let s = c.args.built.now in
    let out = c.requires.next.7 in
    let sets = c.requires.next.2 in
    let h = c.requires.next.5 in
    let between = c.requires.next.8.between in
    let taken = c.requires.next.8.take in
    let next = subst (λ (r : Ready). IsTake (recording s sets) h (length out) width r) c.in-Ask.is taken in
    (next.allowed false).known

pub ask-requires-clause-memories : goal.ask-requires-clause-memories
ask-requires-clause-memories g c =
    let between = c.requires.next.8.between in
    let taken = c.requires.next.8.take in
    between.placed.memories

pub ask-requires-clause-home : goal.ask-requires-clause-home
ask-requires-clause-home g c =
    let meaning = g.B.Body.meaning in
    let fits = g.B.Body.fits in
    let there = c.requires.next.0 in
    let width = c.requires.next.1 in
    let s = c.args.built.now in
    let slots = c.requires.next.6 in
    let deferred = c.args.run.now.deferred in
    let out = c.requires.next.7 in
    let w = c.args.run.now.state in
    let sets = c.requires.next.2 in
    let bodies = c.requires.next.3 in
    let start = c.requires.next.4 in
    let h = c.requires.next.5 in
    let between = c.requires.next.8.between in
    let taken = c.requires.next.8.take in
    let next = subst (λ (r : Ready). IsTake (recording s sets) h (length out) width r) c.in-Ask.is taken in
    ask_allowed meaning fits there s bodies slots out w between.placed sets c.in-Ask.condition width start h deferred between.stage c.prove_law.ensures.laid (next.allowed false)

pub sync-requires-clause-known : goal.sync-requires-clause-known
sync-requires-clause-known g c =
    let width = c.requires.next.1 in
    let s = c.args.built.now in
    let out = c.requires.next.7 in
    let sets = c.requires.next.2 in
    let h = c.requires.next.5 in
    let between = c.requires.next.8.between in
    let taken = c.requires.next.8.take in
    let next = subst (λ (r : Ready). IsTake (recording s sets) h (length out) width r) c.in-Sync.is taken in
    (next.allowed false).known

pub sync-requires-clause-fresh : goal.sync-requires-clause-fresh
sync-requires-clause-fresh g c =
    let meaning = g.B.Body.meaning in
    let fits = g.B.Body.fits in
    let there = c.requires.next.0 in
    let width = c.requires.next.1 in
    let s = c.args.built.now in
    let slots = c.requires.next.6 in
    let deferred = c.args.run.now.deferred in
    let out = c.requires.next.7 in
    let w = c.args.run.now.state in
    let sets = c.requires.next.2 in
    let bodies = c.requires.next.3 in
    let start = c.requires.next.4 in
    let h = c.requires.next.5 in
    let between = c.requires.next.8.between in
    let taken = c.requires.next.8.take in
    let next = subst (λ (r : Ready). IsTake (recording s sets) h (length out) width r) c.in-Sync.is taken in
    sync_fresh meaning fits there s bodies slots out w between.placed sets width start h deferred c.in-Sync.point between.stage (next.allowed false)

pub sync-requires-clause-home : goal.sync-requires-clause-home
sync-requires-clause-home g c =
    let meaning = g.B.Body.meaning in
    let fits = g.B.Body.fits in
    let there = c.requires.next.0 in
    let width = c.requires.next.1 in
    let s = c.args.built.now in
    let slots = c.requires.next.6 in
    let deferred = c.args.run.now.deferred in
    let out = c.requires.next.7 in
    let w = c.args.run.now.state in
    let sets = c.requires.next.2 in
    let bodies = c.requires.next.3 in
    let start = c.requires.next.4 in
    let h = c.requires.next.5 in
    let between = c.requires.next.8.between in
    let taken = c.requires.next.8.take in
    let next = subst (λ (r : Ready). IsTake (recording s sets) h (length out) width r) c.in-Sync.is taken in
    let none = none_out width (recording s sets) bodies start h w.state deferred out between.stage c.in-Sync.point (next.allowed false) in
    record {
      home = home_end meaning fits there s bodies slots out w between.placed none c.prove_law.ensures.laid;
      suits = between.hand.suits;
      ids = between.hand.ids;
    }

pub returns-in_err-answer-in-Ask-clause-stopped : goal.returns-in_err-answer-in-Ask-clause-stopped
returns-in_err-answer-in-Ask-clause-stopped g c =
    let meaning = g.B.Body.meaning in
    let fits = g.B.Body.fits in
    let s = c.args.built.now in
    let deferred = c.args.run.now.deferred in
    let w = c.args.run.now.state in
    let told = c.in_err-answer-in-Ask.field-0.0 in
    handed_on (StopsOffered meaning fits s deferred w c.args.offer) c.from_residual.result told c.from_residual.ensures.1
    (λ there width sets bodies start h slots out offered.
    let between = offered.between in
    let taken = offered.take in
    let next = subst (λ (r : Ready). IsTake (recording s sets) h (length out) width r) c.in-Ask.is taken in
    stops_among there (LacksTick w.state) (WideStops width s bodies start) told (λ met e. stops_plain width s sets bodies start met (stops_ask width (recording s sets) bodies start h w.state deferred out between.stage c.in-Ask.condition met next e)) c.in_err-answer-in-Ask.ensures.stopped)

pub returns-in_err-commanded-in-Sync-clause-stopped : goal.returns-in_err-commanded-in-Sync-clause-stopped
returns-in_err-commanded-in-Sync-clause-stopped g c =
    let meaning = g.B.Body.meaning in
    let fits = g.B.Body.fits in
    let s = c.args.built.now in
    let deferred = c.args.run.now.deferred in
    let w = c.args.run.now.state in
    let told = c.in_err-commanded-in-Sync.field-0.0 in
    handed_on (StopsOffered meaning fits s deferred w c.args.offer) c.from_residual-in_err-commanded-in-Sync.result told c.from_residual-in_err-commanded-in-Sync.ensures.1
    (λ there width sets bodies start h slots out offered.
    let between = offered.between in
    let taken = offered.take in
    let next = subst (λ (r : Ready). IsTake (recording s sets) h (length out) width r) c.in-Sync.is taken in
    stops_among there (CannotSync s c.in-Sync.point (run_with w.state deferred)) (WideStops width s bodies start) told (λ met e. stops_plain width s sets bodies start met (stops_sync width (recording s sets) bodies start h w.state deferred out between.stage c.in-Sync.point met next
    (interleaved_cause-recording s sets bodies (Sync c.in-Sync.point) (woven w.state deferred out) ∙ e))) c.in_err-commanded-in-Sync.ensures.stopped)

pub returns-in_ok-answer-in-Ask-clause-taken : goal.returns-in_ok-answer-in-Ask-clause-taken
returns-in_ok-answer-in-Ask-clause-taken g c = rw c.plain.ensures (λ there width sets bodies start h slots out offered.
    let between = offered.between in
    let taken = offered.take in
    let meaning = g.B.Body.meaning in
    let fits = g.B.Body.fits in
    let s = c.args.built.now in
    let deferred = c.args.run.now.deferred in
    let w = c.args.run.now.state in
    let next = subst (λ (r : Ready). IsTake (recording s sets) h (length out) width r) c.in-Ask.is taken in
    let answer = c.in_ok-answer-in-Ask.answer in
    let told = c.in_ok-answer-in-Ask.ensures in
    let later = c.ask.new.self.state in
    record {
      may = next.allowed answer;
      between = record {
        listed = between.listed;
        stage = subst (λ (x : DeferredValue). Stage width (recording s sets) bodies start (Cond c.in-Ask.condition answer ∷ h) later.state x out) (sym c.ask.ensures.deferred)
            (stage_ask width (recording s sets) bodies start h w.state deferred out between.stage c.in-Ask.condition answer later.state next
            (told.answer ∙ sym (answer-recording s sets c.in-Ask.condition (run_with w.state deferred))) told.ticked (ap (λ (x : StateValue). x.state) told.asked));
        placed = placed_asked meaning fits there s bodies slots out w between.placed c.in-Ask.condition later told.asked;
        hand = subst (λ (x : DeferredValue). InHand s x out later) (sym c.ask.ensures.deferred)
            (in_hand_asked meaning fits there s bodies slots out w between.placed deferred c.in-Ask.condition later told.asked between.hand);
      };
    })

pub returns-in-Skip-clause-taken : goal.returns-in-Skip-clause-taken
returns-in-Skip-clause-taken g c = rw c.plain-in-Skip.ensures (λ there width sets bodies start h slots out offered.
    let between = offered.between in
    let taken = offered.take in
    let s = c.args.built.now in
    let deferred = c.args.run.now.deferred in
    let w = c.args.run.now.state in
    let next = subst (λ (r : Ready). IsTake (recording s sets) h (length out) width r) c.in-Skip.is taken in
    record {
      may = next.allowed false;
      between = record {
        listed = between.listed;
        stage = stage_skip width (recording s sets) bodies start h w.state deferred out between.stage c.in-Skip.system next;
        placed = between.placed;
        hand = between.hand;
      };
    })

pub returns-in_ok-commanded-in-Sync-clause-taken : goal.returns-in_ok-commanded-in-Sync-clause-taken
returns-in_ok-commanded-in-Sync-clause-taken g c = λ there width sets bodies start h slots out offered.
    let between = offered.between in
    let taken = offered.take in
    let meaning = g.B.Body.meaning in
    let fits = g.B.Body.fits in
    let s = c.args.built.now in
    let deferred = c.args.run.now.deferred in
    let w = c.args.run.now.state in
    let next = subst (λ (r : Ready). IsTake (recording s sets) h (length out) width r) c.in-Sync.is taken in
    let none = none_out width (recording s sets) bodies start h w.state deferred out between.stage c.in-Sync.point (next.allowed false) in
    let done = c.in_ok-commanded-in-Sync.ensures in
    let later = c.sync.new.self.state in
    let left = c.sync.new.self.deferred in
    record {
      may = next.allowed false;
      between = record {
        listed = listed_synced sets (kind_sets_of later.state.world.slots) h c.in-Sync.point between.listed;
        stage = stage_synced width s sets bodies start h w.state deferred out between.listed between.stage c.in-Sync.point later.state left next done.can done.synced;
        placed = placed_synced meaning fits there s bodies slots out w between.placed later none
            (memories_synced s w.state between.placed.memories c.in-Sync.point deferred left later.state done.synced) done.home.home;
        hand = in_hand_none s left out later none done.home.suits done.home.ids;
      };
    }

pub returns-in_ok-answer-in-Ask-clause-quiet : goal.returns-in_ok-answer-in-Ask-clause-quiet
returns-in_ok-answer-in-Ask-clause-quiet g c = rw c.plain.ensures (λ k is none. absurd (let clash = is in cc))

pub returns-in-Skip-clause-quiet : goal.returns-in-Skip-clause-quiet
returns-in-Skip-clause-quiet g c = rw c.plain-in-Skip.ensures (λ k is none. absurd (let clash = is in cc))

pub returns-in_ok-commanded-in-Sync-clause-quiet : goal.returns-in_ok-commanded-in-Sync-clause-quiet
returns-in_ok-commanded-in-Sync-clause-quiet g c = λ k is none. c.in_ok-commanded-in-Sync.ensures.quiet none
