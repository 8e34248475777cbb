-- Runs one after the other, and rows behind them.
use Rattle.std.proofs.Common.{◌≡◌, ◌+◌, ◌≤◌, ℕ, false, List, [], ◌∷◌, ◌++◌, refl, sym, ap, ap₂, ◌∙◌, subst, arith, length-append, append_assoc}
use Rattle.model.specs.runs.Runs.{AreSingleRuns}
use Rattle.model.specs.shown.Outcome.{BodyMeaning}
use Rattle.model.specs.state.State.{State}
use Rattle.model.specs.steps.Schedule.{Schedule, Recorded}
use Rattle.engine.specs.Stops.{StopsAs}
use Rattle.engine.specs.declared.faults.RunFault.{RunFault}
use Rattle.engine.specs.declared.faults.RunFault.TheVariants as stop
use Rattle.series.specs.Rows.{AreRows, AreRowsFrom, AreStoppedWithin, IsRowOf, LeadOn}
use Rattle.series.specs.declared.rows.Row.{Row}
use Rattle.series.specs.declared.series.Series.{Series}

-- no run leaves the state
pub none_led : (s : Schedule) (bodies : List BodyMeaning) (w : State) → LeadOn s bodies 0 w w
none_led s bodies w = record { runs = []; many = refl; ran = refl }

-- runs, and runs after them
single_after : (s : Schedule) (bodies : List BodyMeaning) (w : State) (hs gs : List Recorded) (middle w' : State)
    → AreSingleRuns s bodies w hs middle → AreSingleRuns s bodies middle gs w' → AreSingleRuns s bodies w (hs ++ gs) w'
single_after s bodies w [] gs middle w' ran more = subst (λ v. AreSingleRuns s bodies v gs w') (sym ran) more
single_after s bodies w (h ∷ hs) gs middle w' ran more = (ran.0, ran.1, single_after s bodies ran.0 hs gs middle w' ran.2 more)

pub led_on : (s : Schedule) (bodies : List BodyMeaning) (w middle w' : State) (m n : ℕ) → LeadOn s bodies m w middle → LeadOn s bodies n middle w' → LeadOn s bodies (m + n) w w'
led_on s bodies w middle w' m n first more = record {
  runs = first.runs ++ more.runs;
  many = length-append first.runs more.runs ∙ ap₂ ◌+◌ first.many more.many;
  ran = single_after s bodies w first.runs more.runs middle w' first.ran more.ran;
}

-- more runs of the same schedule, with bodies that mean the same
pub led_more : (s z : Schedule) (bodies others : List BodyMeaning) (w middle w' : State) (m n : ℕ) → z ≡ s → others ≡ bodies → LeadOn s bodies m w middle → LeadOn z others n middle w' → LeadOn s bodies (m + n) w w'
led_more s z bodies others w middle w' m n same alike first more =
    led_on s bodies w middle w' m n first (subst (λ (bs : List BodyMeaning). LeadOn s bs n middle w') alike (subst (λ (t : Schedule). LeadOn t others n middle w') same more))

pub same_led : (s z : Schedule) (bodies others : List BodyMeaning) (middle w' : State) (n : ℕ) → z ≡ s → others ≡ bodies → LeadOn z others n middle w' → LeadOn s bodies n middle w'
same_led s z bodies others middle w' n same alike more = subst (λ (bs : List BodyMeaning). LeadOn s bs n middle w') alike (subst (λ (t : Schedule). LeadOn t others n middle w') same more)

-- an allocation may fail at any time
pub spent_within : (s : Schedule) (bodies : List BodyMeaning) (times : ℕ) (w : State) → AreStoppedWithin s bodies times w stop.Memory
spent_within s bodies times w = record { done = 0; middle = w; led = none_led s bodies w; count = 0; within = omega arith; stopped = tt }

-- runs that stop after others
pub stopped_after : (s z : Schedule) (bodies others : List BodyMeaning) (w middle : State) (m n times : ℕ) (fault : RunFault) → z ≡ s → others ≡ bodies → LeadOn s bodies m w middle → m + n ≤ times
    → AreStoppedWithin z others n middle fault → AreStoppedWithin s bodies times w fault
stopped_after s z bodies others w middle m n times fault same alike first within later =
    let h = subst (λ (bs : List BodyMeaning). AreStoppedWithin s bs n middle fault) alike (subst (λ (t : Schedule). AreStoppedWithin t others n middle fault) same later) in
    record { done = m + h.done; middle = h.middle; led = led_on s bodies w middle h.middle m h.done first h.led; count = h.count; within = omega (arith, within, h.within); stopped = h.stopped }

-- the next runs stop, so many of them
pub stopped_next : (s z : Schedule) (bodies others : List BodyMeaning) (w middle : State) (m n times : ℕ) (fault : RunFault) → z ≡ s → others ≡ bodies → LeadOn s bodies m w middle → m + n ≤ times
    → StopsAs false 1 z others n middle fault → AreStoppedWithin s bodies times w fault
stopped_next s z bodies others w middle m n times fault same alike first within stops = record {
  done = m;
  middle = middle;
  led = first;
  count = n;
  within = within;
  stopped = subst (λ (bs : List BodyMeaning). StopsAs false 1 s bs n middle fault) alike (subst (λ (t : Schedule). StopsAs false 1 t others n middle fault) same stops);
}

-- one row more
pub rows_next : (s : Schedule) (bodies : List BodyMeaning) (series : List Series) (every times run : ℕ) (start state next : State) (rows later more : List Row) (row : Row)
    → ((rest : List Row) → AreRowsFrom s bodies series every times run state rest → AreRows s bodies series every times start (rows ++ rest))
    → run + every ≤ times → LeadOn s bodies every state next → IsRowOf series (run + every) next row → later ≡ rows ++ row ∷ []
    → AreRowsFrom s bodies series every times (run + every) next more → AreRows s bodies series every times start (later ++ more)
rows_next s bodies series every times run start state next rows later more row before within led is grown rest =
    subst (λ (xs : List Row). AreRows s bodies series every times start xs) (sym (ap (λ (xs : List Row). xs ++ more) grown ∙ append_assoc rows (row ∷ []) more))
    (before (row ∷ more) (within, next, led, is, rest))
