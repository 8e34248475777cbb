-- What a replay comes to is one: it ends in one state, or has one first wrong answer or first wrong kind sets, or stops for one cause. And
-- how it goes on.
use Rattle.std.proofs.Common.{◌≡◌, ◌≢◌, ◌⊎◌, inl, inr, ℕ, ◌+◌, Bool, true, false, List, [], ◌∷◌, ◌++◌, length, drop, Option, Some, None, IsSome, option_map, option_and_then, refl, sym, ap, subst, subst₂, ◌∙◌, add-one}
use Rattle.std.proofs.lemmas.Bool.{false_from_ne_true}
use Rattle.model.specs.declared.steps.Step.{Step}
use Rattle.model.specs.declared.steps.Step.TheVariants.{Cond, Start, Skip, Finish, Sync}
use Rattle.model.specs.Lists.{provided, first_some}
use Rattle.model.specs.state.State.{State}
use Rattle.model.specs.state.KindSets.{kind_sets_of}
use Rattle.model.specs.shown.Outcome.{BodyMeaning}
use Rattle.model.specs.steps.Schedule.{Schedule, condition_of}
use Rattle.model.specs.steps.Lawful.{runs, NoneRuns, sets_at, IsLawful, IsComplete}
use Rattle.model.specs.access.Condition.{means}
use Rattle.model.specs.runs.RunState.{RunState, answer_of, asked_of, begin_run, can_ask, can_sync, after_condition, after_sync}
use Rattle.model.specs.runs.Meaning.{Interleaved, with_running_systems, interleaved, interleaved_step, serial, serial_step, HasTrueAnswers, IsTrueAnswer, AreSetsOf, HasTrueSets}
use Rattle.model.specs.runs.Causes.{Cause, unless, cause_of_opening, serial_cause, serial_cause_at, serial_cause_of}
use Rattle.model.specs.runs.Causes.Cause.{NoTick}
use Rattle.model.specs.runs.Runs.{IsSoundRun}
use Rattle.model.proofs.order.Histories.{lawful_before, idle}
use Rattle.model.proofs.faults.Causes.{then-parts, lacks-serial, lacks-serial_step}
use Rattle.model.proofs.serial.There.{sets_before, sets_front}
use Rattle.model.proofs.serial.Interleaving.{interleaved_serial, idle_same, same_shown}
use Rattle.model.proofs.serial.Soundness.{runs_are_sound}
use Rattle.model.proofs.faults.Answers.{answer_of-means}
use Rattle.model.specs.runs.Laws.{ReplaysAreOne}
use Rattle.model.specs.runs.Replays.{Leaves, AnswersWrong, SetsWrong, Stops, IsAnswerOf, HasSerialAnswers, IsListOf, HasSerialSets, HasSetsBefore, IsPlaceOfSets, IsReplayed, IsWrongAnswer, AreWrongSets, IsReplayStopped, IsReached, IsStepTaken, IsWrongHere, IsListAfter}

-- ---- fronts of a history

-- of two ends of one list the one is an end of the other
pub ends : {A : Type 0} (later other : List A) (front back : List A) → later ++ front ≡ other ++ back → ((m : List A) × (front ≡ m ++ back)) ⊎ ((m : List A) × (back ≡ m ++ front))
ends [] other front back e = inl (other, e)
ends (x ∷ later) [] front back e = inr (x ∷ later, sym e)
ends (x ∷ later) (y ∷ other) front back e = ends later other front back (ap (drop 1) e)

-- ---- kind sets, interleaved and serial

-- the sets of a run state are those of the run that it is with no running systems
woven-sets : (sets : Option (List ℕ)) (o : Option RunState) → IsListOf sets o → AreSetsOf sets (with_running_systems [] o)
woven-sets None o is = tt
woven-sets (Some numbers) None is = tt
woven-sets (Some numbers) (Some run) is = is

-- nothing recorded is true of a run without systems that run
plain-sets : (sets : Option (List ℕ)) (o : Option RunState) → AreSetsOf sets (with_running_systems [] o) → IsListOf sets o
plain-sets None o is = tt
plain-sets (Some numbers) None is = tt
plain-sets (Some numbers) (Some run) is = is

-- where there is no meaning nothing is compared
none-listed : (sets : Option (List ℕ)) → IsListOf sets None
none-listed None = tt
none-listed (Some numbers) = tt

-- what is provided with no running systems
with-provided : (b : Bool) (run : RunState) → provided b (record { run = run; running_systems = [] }) ≡ with_running_systems [] (provided b run)
with-provided true run = refl
with-provided false run = refl

module _ (s : Schedule) (bodies : List BodyMeaning) (start : State) where
  answers-before : (later front : List Step) → HasSerialAnswers s bodies start (later ++ front) → HasSerialAnswers s bodies start front
  answers-before [] front true_ones = true_ones
  answers-before (step ∷ later) front true_ones = answers-before later front true_ones.1

  true-before : (later front : List Step) → HasTrueAnswers s bodies start (later ++ front) → HasTrueAnswers s bodies start front
  true-before [] front true_ones = true_ones
  true-before (step ∷ later) front true_ones = true-before later front true_ones.1

  lists-before : (step : Step) (h : List Step) → HasSerialSets s bodies start (step ∷ h) → HasSerialSets s bodies start h
  lists-before (Cond c answer) h sets = sets
  lists-before (Start n) h sets = sets
  lists-before (Skip n) h sets = sets
  lists-before (Finish n) h sets = sets
  lists-before (Sync k) h sets = sets.1

  lists-front : (later front : List Step) → HasSerialSets s bodies start (later ++ front) → HasSerialSets s bodies start front
  lists-front [] front sets = sets
  lists-front (step ∷ later) front sets = lists-front later front (lists-before step (later ++ front) sets)

  woven-before : (later front : List Step) (w : Interleaved) → interleaved s bodies start (later ++ front) ≡ Some w → (v : Interleaved) × (interleaved s bodies start front ≡ Some v)
  woven-before [] front w e = (w, e)
  woven-before (step ∷ later) front w e =
      let p = then-parts (interleaved s bodies start (later ++ front)) (interleaved_step s bodies step) w e in
      woven-before later front p.0 p.1

  -- the cause that a front meets is that of what goes on from it
  cause-later : (later front : List Step) (cause : Cause) → serial_cause s bodies start front ≡ Some cause → serial_cause s bodies start (later ++ front) ≡ Some cause
  cause-later [] front cause e = e
  cause-later (step ∷ later) front cause e =
      ap (λ o. first_some o (serial_cause_at s bodies step (serial s bodies start (later ++ front)))) (cause-later later front cause e)

  -- where it meets a cause there is no meaning
  no-meaning : (later front : List Step) (cause : Cause) (run : RunState) → serial_cause s bodies start front ≡ Some cause → serial s bodies start (later ++ front) ≡ Some run → ⊥
  no-meaning later front cause run e meaning =
      let h = later ++ front in
      let none : serial s bodies start h ≡ None = (lacks-serial s bodies start h).1 (subst IsSome (sym (cause-later later front cause e)) refl) in
      absurd (let clash : Some run ≡ None = sym meaning ∙ none in cc)

  -- where there is a meaning it meets no cause
  no-cause : (h : List Step) (run : RunState) → serial s bodies start h ≡ Some run → serial_cause s bodies start h ≡ None
  no-cause h run meaning = go (serial_cause s bodies start h) refl
    where
      go : (o : Option Cause) → serial_cause s bodies start h ≡ o → o ≡ None
      go None e = refl
      go (Some cause) e = absurd (no-meaning [] h cause run e meaning)

  -- ---- answers, interleaved and serial

  -- after a lawful front a condition that may be asked means the same
  same-answer : (h : List Step) (c : ℕ) (answer : Bool) (w : Interleaved) (run : RunState) → IsLawful s (Cond c answer ∷ h) → HasTrueSets s bodies start h → interleaved s bodies start h ≡ Some w → serial s bodies start h ≡ Some run
      → answer_of s c w.run ≡ answer_of s c run
  same-answer h c answer w run lawful sets woven meaning =
      let about : asked_of s c w.run ≡ asked_of s c run = (same_shown s bodies start h w run lawful.1 sets woven meaning).1 c answer lawful.0 in
      answer_of-means s c w.run ∙ ap (means (condition_of s c)) about ∙ sym (answer_of-means s c run)

  -- a condition that was asked could be asked
  could-ask : (h : List Step) (c : ℕ) (answer : Bool) (run end : RunState) → serial s bodies start h ≡ Some run → serial s bodies start (Cond c answer ∷ h) ≡ Some end → can_ask run ≡ true
  could-ask h c answer run end meaning e = go (can_ask run) (sym (ap (λ o. option_and_then (serial_step s bodies (Cond c answer)) o) meaning) ∙ e)
    where
      go : (b : Bool) → provided b (after_condition s c run) ≡ Some end → b ≡ true
      go true h = refl
      go false h = absurd (let clash = h in cc)

  true-one : (step : Step) (h : List Step) (w : Interleaved) (run end : RunState) → IsLawful s (step ∷ h) → HasTrueSets s bodies start h → interleaved s bodies start h ≡ Some w → serial s bodies start h ≡ Some run
      → serial s bodies start (step ∷ h) ≡ Some end → IsAnswerOf s step (serial s bodies start h) → IsTrueAnswer s step (interleaved s bodies start h)
  true-one (Cond c answer) h w run end lawful sets woven meaning e is =
      let said : answer ≡ answer_of s c run = subst (IsAnswerOf s (Cond c answer)) meaning is (could-ask h c answer run end meaning e) in
      subst (IsTrueAnswer s (Cond c answer)) (sym woven) (said ∙ sym (same-answer h c answer w run lawful sets woven meaning))
  true-one (Start n) h w run end lawful sets woven meaning e is = subst (IsTrueAnswer s (Start n)) (sym woven) tt
  true-one (Skip n) h w run end lawful sets woven meaning e is = subst (IsTrueAnswer s (Skip n)) (sym woven) tt
  true-one (Finish n) h w run end lawful sets woven meaning e is = subst (IsTrueAnswer s (Finish n)) (sym woven) tt
  true-one (Sync k) h w run end lawful sets woven meaning e is = subst (IsTrueAnswer s (Sync k)) (sym woven) tt

  -- answers that are those of the serial run are true
  all-true : (h : List Step) (w : Interleaved) (end : RunState) → IsLawful s h → HasTrueSets s bodies start h → interleaved s bodies start h ≡ Some w → serial s bodies start h ≡ Some end → HasSerialAnswers s bodies start h → HasTrueAnswers s bodies start h
  all-true [] w end lawful sets woven meaning is = tt
  all-true (step ∷ h) w end lawful sets woven meaning is =
      let p = then-parts (interleaved s bodies start h) (interleaved_step s bodies step) w woven in
      let q = then-parts (serial s bodies start h) (serial_step s bodies step) end meaning in
      let before = sets_before s bodies start step h sets in
      (true-one step h p.0 q.0 end lawful before p.1 q.1 meaning is.0, all-true h p.0 q.0 lawful.1 before p.1 q.1 is.1)

  -- ---- kind sets, interleaved and serial

  -- after a sync point that may come nothing runs, whatever is recorded there
  sync-same : (h : List Step) (k : ℕ) → IsLawful s (Sync k ∷ h) → HasTrueSets s bodies start h → interleaved s bodies start (Sync k ∷ h) ≡ with_running_systems [] (serial s bodies start (Sync k ∷ h))
  sync-same h k lawful sets = ap (option_and_then (interleaved_step s bodies (Sync k))) (idle_same s bodies start h lawful.1 sets none) ∙ go (serial s bodies start h)
    where
      none : NoneRuns h
      none n = false_from_ne_true (runs h n) (idle s h k n lawful.1 lawful.0)

      go : (o : Option RunState) → option_and_then (interleaved_step s bodies (Sync k)) (with_running_systems [] o) ≡ with_running_systems [] (option_and_then (serial_step s bodies (Sync k)) o)
      go None = refl
      go (Some run) = with-provided (can_sync s k run) (after_sync s k run)

  -- what is right on one thread is true
  true-sets : (h : List Step) → IsLawful s h → HasSerialSets s bodies start h → HasTrueSets s bodies start h
  true-sets [] lawful sets = woven-sets (sets_at s []) (begin_run s start) sets
  true-sets (Cond c answer ∷ h) lawful sets = true-sets h lawful.1 sets
  true-sets (Start n ∷ h) lawful sets = true-sets h lawful.1 sets
  true-sets (Skip n ∷ h) lawful sets = true-sets h lawful.1 sets
  true-sets (Finish n ∷ h) lawful sets = true-sets h lawful.1 sets
  true-sets (Sync k ∷ h) lawful sets =
      let before = true-sets h lawful.1 sets.1 in (
        subst (AreSetsOf (sets_at s (Sync k ∷ h))) (sym (sync-same h k lawful before)) (woven-sets (sets_at s (Sync k ∷ h)) (serial s bodies start (Sync k ∷ h)) sets.0),
        before,
      )

  -- what is true is right on one thread
  serial-sets : (h : List Step) → IsLawful s h → HasTrueSets s bodies start h → HasSerialSets s bodies start h
  serial-sets [] lawful sets = plain-sets (sets_at s []) (begin_run s start) sets
  serial-sets (Cond c answer ∷ h) lawful sets = serial-sets h lawful.1 sets
  serial-sets (Start n ∷ h) lawful sets = serial-sets h lawful.1 sets
  serial-sets (Skip n ∷ h) lawful sets = serial-sets h lawful.1 sets
  serial-sets (Finish n ∷ h) lawful sets = serial-sets h lawful.1 sets
  serial-sets (Sync k ∷ h) lawful sets = (
    plain-sets (sets_at s (Sync k ∷ h)) (serial s bodies start (Sync k ∷ h)) (subst (AreSetsOf (sets_at s (Sync k ∷ h))) (sync-same h k lawful sets.1) sets.0),
    serial-sets h lawful.1 sets.1,
  )

  -- ---- one of four

  -- a wrong answer isn't the serial meaning
  refuted : (later : List Step) (c : ℕ) (answer : Bool) (front : List Step) (run : RunState) → serial s bodies start front ≡ Some run → can_ask run ≡ true → answer ≢ answer_of s c run
      → HasSerialAnswers s bodies start (later ++ Cond c answer ∷ front) → ⊥
  refuted later c answer front run meaning asked wrong is =
      wrong (subst (IsAnswerOf s (Cond c answer)) meaning (answers-before later (Cond c answer ∷ front) is).0 asked)

  -- right kind sets are those of the run state at their place
  list-at : (front : List Step) → IsPlaceOfSets front → HasSerialSets s bodies start front → IsListOf (sets_at s front) (serial s bodies start front)
  list-at [] there sets = sets
  list-at (Cond c answer ∷ h) there sets = absurd there
  list-at (Start n ∷ h) there sets = absurd there
  list-at (Skip n ∷ h) there sets = absurd there
  list-at (Finish n ∷ h) there sets = absurd there
  list-at (Sync k ∷ h) there sets = sets.0

  -- wrong kind sets aren't right
  wrong-list : (later front : List Step) (numbers : List ℕ) (run : RunState) → IsPlaceOfSets front → sets_at s front ≡ Some numbers → serial s bodies start front ≡ Some run
      → numbers ≢ kind_sets_of run.state.world.slots → HasSerialSets s bodies start (later ++ front) → ⊥
  wrong-list later front numbers run there recorded meaning wrong sets =
      wrong (subst₂ IsListOf recorded meaning (list-at front there (lists-front later front sets)))

  -- a condition that can be asked has a meaning
  asked-meaning : (c : ℕ) (answer : Bool) (front : List Step) (run : RunState) → serial s bodies start front ≡ Some run → can_ask run ≡ true → serial s bodies start (Cond c answer ∷ front) ≡ Some (after_condition s c run)
  asked-meaning c answer front run meaning asked =
      ap (λ o. option_and_then (serial_step s bodies (Cond c answer)) o) meaning ∙ ap (λ b. provided b (after_condition s c run)) asked

  module _ (h : List Step) where
    pub replayed_stopped : (w : State) (cause : Cause) → IsReplayed s bodies start h w → IsReplayStopped s bodies start h cause → ⊥
    replayed_stopped w cause is stopped =
        no-meaning stopped.later stopped.front cause is.sound.whole stopped.stops (subst (λ x. serial s bodies start x ≡ Some is.sound.whole) stopped.whole is.sound.serial_meaning)

    pub replayed_wrong : (w : State) (n : ℕ) → IsReplayed s bodies start h w → IsWrongAnswer s bodies start h n → ⊥
    replayed_wrong w n is wrong =
        let here = Cond wrong.condition wrong.answer ∷ wrong.front in
        let true_ones = true-before wrong.later here (subst (HasTrueAnswers s bodies start) wrong.whole is.run.answers) in
        let lawful = lawful_before s wrong.later here (subst (IsLawful s) wrong.whole is.run.lawful) in
        let there = woven-before wrong.later here is.sound.woven (subst (λ x. interleaved s bodies start x ≡ Some is.sound.woven) wrong.whole is.sound.woven_meaning) in
        let before = then-parts (interleaved s bodies start wrong.front) (interleaved_step s bodies (Cond wrong.condition wrong.answer)) there.0 there.1 in
        let sets = sets_front s bodies start wrong.later here (subst (HasTrueSets s bodies start) wrong.whole is.run.sets) in
        wrong.wrong (subst (IsTrueAnswer s (Cond wrong.condition wrong.answer)) before.1 true_ones.0 ∙ same-answer wrong.front wrong.condition wrong.answer before.0 wrong.run lawful sets before.1 wrong.meaning)

    pub replayed_sets : (w : State) (n : ℕ) → IsReplayed s bodies start h w → AreWrongSets s bodies start h n → ⊥
    replayed_sets w n is x =
        let lawful = lawful_before s x.later x.front (subst (IsLawful s) x.whole is.run.lawful) in
        let sets = sets_front s bodies start x.later x.front (subst (HasTrueSets s bodies start) x.whole is.run.sets) in
        wrong-list [] x.front x.numbers x.run x.are_there x.recorded x.meaning x.wrong (serial-sets x.front lawful sets)

    pub replayed_replayed : (w v : State) → IsReplayed s bodies start h w → IsReplayed s bodies start h v → w ≡ v
    replayed_replayed w v is other =
        let same : Some is.sound.whole ≡ Some other.sound.whole = sym is.sound.serial_meaning ∙ other.sound.serial_meaning in
        let whole : is.sound.whole ≡ other.sound.whole = cc in
        sym is.sound.serial_leaves ∙ ap (λ (r : RunState). r.state) whole ∙ other.sound.serial_leaves

    pub stopped_stopped : (cause other : Cause) → IsReplayStopped s bodies start h cause → IsReplayStopped s bodies start h other → cause ≡ other
    stopped_stopped cause other a b = go (ends a.later b.later a.front b.front (sym a.whole ∙ b.whole))
      where
        joined : (o : Option Cause) → o ≡ Some cause → o ≡ Some other → cause ≡ other
        joined o e f = let same : Some cause ≡ Some other = sym e ∙ f in cc

        go : ((m : List Step) × (a.front ≡ m ++ b.front)) ⊎ ((m : List Step) × (b.front ≡ m ++ a.front)) → cause ≡ other
        go (inl (m, e)) = joined (serial_cause s bodies start a.front) a.stops (ap (serial_cause s bodies start) e ∙ cause-later m b.front other b.stops)
        go (inr (m, e)) = joined (serial_cause s bodies start b.front) (ap (serial_cause s bodies start) e ∙ cause-later m a.front cause a.stops) b.stops

    pub wrong_stopped : (n : ℕ) (cause : Cause) → IsWrongAnswer s bodies start h n → IsReplayStopped s bodies start h cause → ⊥
    wrong_stopped n cause a b = go (ends a.later b.later here b.front (sym a.whole ∙ b.whole))
      where
        here : List Step
        here = Cond a.condition a.answer ∷ a.front

        go : ((m : List Step) × (here ≡ m ++ b.front)) ⊎ ((m : List Step) × (b.front ≡ m ++ here)) → ⊥
        go (inl (m, e)) =
            no-meaning m b.front cause (after_condition s a.condition a.run) b.stops
            (subst (λ x. serial s bodies start x ≡ Some (after_condition s a.condition a.run)) e (asked-meaning a.condition a.answer a.front a.run a.meaning a.asked))
        go (inr (m, e)) = refuted m a.condition a.answer a.front a.run a.meaning a.asked a.wrong (subst (HasSerialAnswers s bodies start) e b.answers)

    pub wrong_wrong : (n m : ℕ) → IsWrongAnswer s bodies start h n → IsWrongAnswer s bodies start h m → n ≡ m
    wrong_wrong n m a b = go (ends a.later b.later (here a) (here b) (sym a.whole ∙ b.whole))
      where
        here : {k : ℕ} → IsWrongAnswer s bodies start h k → List Step
        here x = Cond x.condition x.answer ∷ x.front

        -- the one of the longer front has the other's answer before it
        one : {k j : ℕ} (x : IsWrongAnswer s bodies start h k) (y : IsWrongAnswer s bodies start h j) (l : List Step) → here x ≡ l ++ here y → k ≡ j
        one x y [] e = x.place ∙ ap (λ f. length f + 1) (ap (drop 1) e) ∙ sym y.place
        one x y (z ∷ l) e = absurd (refuted l y.condition y.answer y.front y.run y.meaning y.asked y.wrong (subst (HasSerialAnswers s bodies start) (ap (drop 1) e) x.answers))

        go : ((l : List Step) × (here a ≡ l ++ here b)) ⊎ ((l : List Step) × (here b ≡ l ++ here a)) → n ≡ m
        go (inl (l, e)) = one a b l e
        go (inr (l, e)) = sym (one b a l e)

    pub sets_stopped : (n : ℕ) (cause : Cause) → AreWrongSets s bodies start h n → IsReplayStopped s bodies start h cause → ⊥
    sets_stopped n cause x b = go (ends x.later b.later x.front b.front (sym x.whole ∙ b.whole))
      where
        go : ((m : List Step) × (x.front ≡ m ++ b.front)) ⊎ ((m : List Step) × (b.front ≡ m ++ x.front)) → ⊥
        go (inl (m, e)) = no-meaning m b.front cause x.run b.stops (subst (λ y. serial s bodies start y ≡ Some x.run) e x.meaning)
        go (inr (m, e)) = wrong-list m x.front x.numbers x.run x.are_there x.recorded x.meaning x.wrong (subst (HasSerialSets s bodies start) e b.sets)

    pub sets_wrong : (n m : ℕ) → AreWrongSets s bodies start h n → IsWrongAnswer s bodies start h m → ⊥
    sets_wrong n m x b = go (ends x.later b.later x.front here (sym x.whole ∙ b.whole))
      where
        here : List Step
        here = Cond b.condition b.answer ∷ b.front

        -- the wrong answer stands after the kind sets, since no kind sets are recorded at it
        after : (l : List Step) → here ≡ l ++ x.front → ⊥
        after [] e = subst IsPlaceOfSets (sym e) x.are_there
        after (y ∷ l) e = wrong-list l x.front x.numbers x.run x.are_there x.recorded x.meaning x.wrong (subst (HasSerialSets s bodies start) (ap (drop 1) e) b.sets)

        go : ((l : List Step) × (x.front ≡ l ++ here)) ⊎ ((l : List Step) × (here ≡ l ++ x.front)) → ⊥
        go (inl (l, e)) = refuted l b.condition b.answer b.front b.run b.meaning b.asked b.wrong (subst (HasSerialAnswers s bodies start) e x.answers)
        go (inr (l, e)) = after l e

    pub sets_sets : (n m : ℕ) → AreWrongSets s bodies start h n → AreWrongSets s bodies start h m → n ≡ m
    sets_sets n m a b = go (ends a.later b.later a.front b.front (sym a.whole ∙ b.whole))
      where
        -- the longer front has the other's kind sets before it
        one : {k j : ℕ} (x : AreWrongSets s bodies start h k) (y : AreWrongSets s bodies start h j) (l : List Step) → x.front ≡ l ++ y.front → k ≡ j
        one x y [] e = x.place ∙ ap length e ∙ sym y.place
        one x y (z ∷ l) e = absurd (wrong-list l y.front y.numbers y.run y.are_there y.recorded y.meaning y.wrong (subst (HasSetsBefore s bodies start) e x.sets))

        go : ((l : List Step) × (a.front ≡ l ++ b.front)) ⊎ ((l : List Step) × (b.front ≡ l ++ a.front)) → n ≡ m
        go (inl (l, e)) = one a b l e
        go (inr (l, e)) = sym (one b a l e)

  -- ---- how it goes on

  -- after the opening, where its kind sets are right
  pub reached_open : (run : RunState) → begin_run s start ≡ Some run → IsListOf (sets_at s []) (Some run) → IsReached s bodies start [] run
  reached_open run e list = record { answers = tt; sets = subst (IsListOf (sets_at s [])) (sym e) list; meaning = e }

  -- kind sets that are right after a step
  more-sets : (h : List Step) (step : Step) (later : RunState) → serial s bodies start (step ∷ h) ≡ Some later → IsListAfter s h step later → HasSerialSets s bodies start h
      → HasSerialSets s bodies start (step ∷ h)
  more-sets h (Cond c answer) later e list sets = sets
  more-sets h (Start n) later e list sets = sets
  more-sets h (Skip n) later e list sets = sets
  more-sets h (Finish n) later e list sets = sets
  more-sets h (Sync k) later e list sets = (subst (IsListOf (sets_at s (Sync k ∷ h))) (sym e) list, sets)

  -- after one more step, where its answer and its kind sets are right
  pub reached_more : (h : List Step) (step : Step) (run later : RunState) → IsReached s bodies start h run → IsStepTaken s bodies run step later → IsListAfter s h step later
      → IsReached s bodies start (step ∷ h) later
  reached_more h step run later is taken list =
      let meaning : serial s bodies start (step ∷ h) ≡ Some later = ap (λ o. option_and_then (serial_step s bodies step) o) is.meaning ∙ taken.meaning in
      record {
        answers = (subst (IsAnswerOf s step) (sym is.meaning) taken.answer, is.answers);
        sets = more-sets h step later meaning list is.sets;
        meaning = meaning;
      }

  -- a complete lawful list that was gone through
  pub reached_end : (h : List Step) (run : RunState) → IsLawful s h → IsComplete s h → IsReached s bodies start h run → IsReplayed s bodies start h run.state
  reached_end h run lawful complete is = go (interleaved s bodies start h) refl
    where
      sets : HasTrueSets s bodies start h
      sets = true-sets h lawful is.sets

      go : (o : Option Interleaved) → interleaved s bodies start h ≡ o → IsReplayed s bodies start h run.state
      go None e = absurd (let clash : option_map (λ (x : Interleaved). x.run) None ≡ Some run = sym (ap (option_map (λ (x : Interleaved). x.run)) e) ∙ interleaved_serial s bodies start h lawful complete sets ∙ is.meaning in cc)
      go (Some end) e =
          let both : Some end.run ≡ Some run = sym (ap (option_map (λ (x : Interleaved). x.run)) e) ∙ interleaved_serial s bodies start h lawful complete sets ∙ is.meaning in
          let same : end.run ≡ run = cc in
          record {
            run = record { lawful = lawful; complete = complete; answers = all-true h end run lawful sets e is.meaning is.answers; sets = sets };
            sound = subst (IsSoundRun s bodies start h) (ap (λ (r : RunState). r.state) same) (runs_are_sound s bodies start h end lawful complete sets e);
          }

  -- a wrong answer at a step
  pub wrong_at : (h later : List Step) (step : Step) (run : RunState) (n : ℕ) → IsReached s bodies start h run → IsWrongHere s run step → n ≡ length h + 1 → IsWrongAnswer s bodies start (later ++ step ∷ h) n
  wrong_at h later (Cond c answer) run n is wrong place = record {
    later = later;
    condition = c;
    answer = answer;
    front = h;
    whole = refl;
    place = place;
    answers = is.answers;
    sets = is.sets;
    run = run;
    meaning = is.meaning;
    asked = wrong.0;
    wrong = wrong.1;
  }
  wrong_at h later (Start m) run n is wrong place = absurd wrong
  wrong_at h later (Skip m) run n is wrong place = absurd wrong
  wrong_at h later (Finish m) run n is wrong place = absurd wrong
  wrong_at h later (Sync k) run n is wrong place = absurd wrong

  -- wrong kind sets at the opening
  pub wrong_open : (h : List Step) (run : RunState) (numbers : List ℕ) → begin_run s start ≡ Some run → sets_at s [] ≡ Some numbers
      → numbers ≢ kind_sets_of run.state.world.slots → AreWrongSets s bodies start (h ++ []) 0
  wrong_open h run numbers e recorded wrong = record {
    later = h;
    front = [];
    whole = refl;
    place = refl;
    answers = tt;
    sets = tt;
    are_there = tt;
    numbers = numbers;
    recorded = recorded;
    run = run;
    meaning = e;
    wrong = wrong;
  }

  -- wrong kind sets after a sync point
  pub wrong_sets_at : (h later : List Step) (k : ℕ) (run after : RunState) (numbers : List ℕ) (n : ℕ) → IsReached s bodies start h run → serial_step s bodies (Sync k) run ≡ Some after
      → sets_at s (Sync k ∷ h) ≡ Some numbers → numbers ≢ kind_sets_of after.state.world.slots → n ≡ length h + 1 → AreWrongSets s bodies start (later ++ Sync k ∷ h) n
  wrong_sets_at h later k run after numbers n is e recorded wrong place = record {
    later = later;
    front = Sync k ∷ h;
    whole = refl;
    place = place ∙ add-one (length h);
    answers = (subst (IsAnswerOf s (Sync k)) (sym is.meaning) tt, is.answers);
    sets = is.sets;
    are_there = tt;
    numbers = numbers;
    recorded = recorded;
    run = after;
    meaning = ap (λ o. option_and_then (serial_step s bodies (Sync k)) o) is.meaning ∙ e;
    wrong = wrong;
  }

  -- what stops a step that isn't taken: its answer isn't asked
  unasked : (step : Step) (run : RunState) (cause : Cause) → serial_cause_of s bodies step run ≡ Some cause → IsAnswerOf s step (Some run)
  unasked (Cond c answer) run cause e = λ asked. absurd (let clash : unless true NoTick ≡ Some cause = ap (λ b. unless b NoTick) (sym asked) ∙ e in cc)
  unasked (Start n) run cause e = tt
  unasked (Skip n) run cause e = tt
  unasked (Finish n) run cause e = tt
  unasked (Sync k) run cause e = tt

  -- a step that stops records nothing that is told
  stopped-sets : (h : List Step) (step : Step) → serial s bodies start (step ∷ h) ≡ None → HasSerialSets s bodies start h → HasSerialSets s bodies start (step ∷ h)
  stopped-sets h (Cond c answer) e sets = sets
  stopped-sets h (Start n) e sets = sets
  stopped-sets h (Skip n) e sets = sets
  stopped-sets h (Finish n) e sets = sets
  stopped-sets h (Sync k) e sets = (subst (IsListOf (sets_at s (Sync k ∷ h))) (sym e) (none-listed (sets_at s (Sync k ∷ h))), sets)

  pub stopped_at : (h later : List Step) (step : Step) (run : RunState) (cause : Cause) → IsReached s bodies start h run → serial_cause_of s bodies step run ≡ Some cause → IsReplayStopped s bodies start (later ++ step ∷ h) cause
  stopped_at h later step run cause is e = record {
    later = later;
    front = step ∷ h;
    whole = refl;
    answers = (subst (IsAnswerOf s step) (sym is.meaning) (unasked step run cause e), is.answers);
    sets = stopped-sets h step
        (ap (λ o. option_and_then (serial_step s bodies step) o) is.meaning ∙ (lacks-serial_step s bodies step run).1 (subst IsSome (sym e) refl)) is.sets;
    stops = ap (λ o. first_some o (serial_cause_at s bodies step (serial s bodies start h))) (no-cause h run is.meaning)
        ∙ ap (serial_cause_at s bodies step) is.meaning ∙ e;
  }

  -- what stops the opening
  pub stopped_open : (h : List Step) (cause : Cause) → cause_of_opening s start ≡ Some cause → IsReplayStopped s bodies start (h ++ []) cause
  stopped_open h cause e = record {
    later = h;
    front = [];
    whole = refl;
    answers = tt;
    sets = subst (IsListOf (sets_at s [])) (sym ((lacks-serial s bodies start []).1 (subst IsSome (sym e) refl))) (none-listed (sets_at s []));
    stops = e;
  }

-- ---- the law

pub replays_are_one : ReplaysAreOne
replays_are_one s bodies w h (Leaves v) (Leaves v') one other = ap Leaves (replayed_replayed s bodies w h v v' one other)
replays_are_one s bodies w h (Leaves v) (AnswersWrong m) one other = absurd (replayed_wrong s bodies w h v m one other)
replays_are_one s bodies w h (Leaves v) (SetsWrong m) one other = absurd (replayed_sets s bodies w h v m one other)
replays_are_one s bodies w h (Leaves v) (Stops cause) one other = absurd (replayed_stopped s bodies w h v cause one other)
replays_are_one s bodies w h (AnswersWrong n) (Leaves v) one other = absurd (replayed_wrong s bodies w h v n other one)
replays_are_one s bodies w h (AnswersWrong n) (AnswersWrong m) one other = ap AnswersWrong (wrong_wrong s bodies w h n m one other)
replays_are_one s bodies w h (AnswersWrong n) (SetsWrong m) one other = absurd (sets_wrong s bodies w h m n other one)
replays_are_one s bodies w h (AnswersWrong n) (Stops cause) one other = absurd (wrong_stopped s bodies w h n cause one other)
replays_are_one s bodies w h (SetsWrong n) (Leaves v) one other = absurd (replayed_sets s bodies w h v n other one)
replays_are_one s bodies w h (SetsWrong n) (AnswersWrong m) one other = absurd (sets_wrong s bodies w h n m one other)
replays_are_one s bodies w h (SetsWrong n) (SetsWrong m) one other = ap SetsWrong (sets_sets s bodies w h n m one other)
replays_are_one s bodies w h (SetsWrong n) (Stops cause) one other = absurd (sets_stopped s bodies w h n cause one other)
replays_are_one s bodies w h (Stops cause) (Leaves v) one other = absurd (replayed_stopped s bodies w h v cause other one)
replays_are_one s bodies w h (Stops cause) (AnswersWrong n) one other = absurd (wrong_stopped s bodies w h n cause other one)
replays_are_one s bodies w h (Stops cause) (SetsWrong m) one other = absurd (sets_stopped s bodies w h m cause other one)
replays_are_one s bodies w h (Stops cause) (Stops other_cause) one other = ap Stops (stopped_stopped s bodies w h cause other_cause one other)
