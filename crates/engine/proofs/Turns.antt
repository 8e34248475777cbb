-- A turn of the loop: what is next, and what is known once it is done.
use Rattle.std.proofs.Common.{ℕ, suc, ◌<◌, ◌≤◌, Bool, ◌≡◌, List, [], length, Option, Some, sym, ap, subst, arith}
use Rattle.std.proofs.lemmas.Bool.{false_from_ne_true}
use Rattle.std.specs.List.{AllByRecursion}
use Rattle.model.specs.declared.steps.Step.{Step}
use Rattle.model.specs.Lists.{has}
use Rattle.model.specs.access.Access.{Params}
use Rattle.model.specs.state.State.{State}
use Rattle.model.specs.shown.Outcome.{BodyMeaning}
use Rattle.model.specs.steps.Schedule.{Schedule, recording, params_of, access_of, level_of}
use Rattle.model.specs.steps.Built.{IsBuilt}
use Rattle.model.specs.steps.Lawful.{MayAsk, MayStart, MaySync, begun, sets_at}
use Rattle.model.specs.runs.RunState.{after_opening, begin_run, body_of, can_open, next_tick}
use Rattle.model.proofs.lists.Lists.{provided-Some}
use Rattle.model.proofs.order.Histories.{above_waits}
use Rattle.model.proofs.shape.GivenIds.{ids-free, ids-interleaved}
use Rattle.model.proofs.serial.Recording.{built-recording, given-recording}
use Rattle.model.proofs.serial.There.{all_among}
use Rattle.archetype_store.specs.Layout.{Archetype, AreAllHome, IsLayoutOf}
use Rattle.body.specs.Lent.{lent_in}
use Rattle.body.specs.Out.{IsWrittenBy}
use Rattle.query_plan.specs.Standing.{ArePickedHome}
use Rattle.body.specs.Steps.{StateValue, asked_at, store_of, ticked}
use Rattle.body.proofs.Outs.{out-same, all-home, home-apart, none-out}
use Rattle.executor_core.specs.Stands.{Stand, Stands}
use Rattle.worker_pool.specs.JobOut.{JobOut}
use Rattle.engine.specs.declared.turn.Turn.{Turn}
use Rattle.engine.specs.Jobs.{systems_of, held_by, woven, CanBegin, InHand, IsPlaced, Placed}
use Rattle.engine.specs.Deferred.{DeferredValue, AreInHand, IsDeferredFor, commands_at, grants_at, run_with}
use Rattle.engine.specs.Meanings.{body_at, meanings, AllKeepWithin, HasMemories, Suits}
use Rattle.engine.specs.Next.{IsAtRest}
use Rattle.engine.specs.Stage.{Stage, IsTurn}
use Rattle.model.proofs.progress.Single.{wide_lawful}
use Rattle.engine.proofs.BeforeStart.{interleaved_fresh}
use Rattle.engine.proofs.LevelGrants.{no_elements}
use Rattle.engine.proofs.JobsOut.{start-free, apart-held, placed_first, suits_last, means_last}
use Rattle.engine.proofs.RunStages.{holds_there}
use Rattle.engine.proofs.StateMemories.{memories_at, memories_opened, memories_asked}

-- ---- what is next, told of a core

module _ (core : Stand) (s : Schedule) (sets : Option (List (List ℕ))) (h : List Step) (running width : ℕ) (next : Turn) (same : core.schedule ≡ s) (stands : Stands core sets h)
    (told : (lists : Option (List (List ℕ))) (x : List Step) → Stands core lists x → IsTurn (recording core.schedule lists) x running width (Some next)) where
  there : IsTurn (recording s sets) h running width (Some next)
  there = subst (λ (x : Schedule). IsTurn (recording x sets) h running width (Some next)) same (told sets h stands)

  -- with as many running as jobs are out, and room for so many
  pub turn_next : (many room : ℕ) → running ≡ many → width ≡ room → IsTurn (recording s sets) h many room (Some next)
  turn_next many room e f = subst (λ (r : ℕ). IsTurn (recording s sets) h many r (Some next)) f (subst (λ (r : ℕ). IsTurn (recording s sets) h r width (Some next)) e there)

-- ---- what a start asks

module _ {B : Type 0} (meaning : B → Params → BodyMeaning) (fits : B → Params → Bool) (where_is : Bool) (s : Schedule) (bodies : List BodyMeaning) (slots : List (Option B)) (out : List (JobOut B)) (w : StateValue) (placed : Placed meaning fits where_is s bodies slots out w) where
  pub start_allowed : (sets : Option (List (List ℕ))) (width : ℕ) (start : State) (h : List Step) (deferred : DeferredValue) (n : ℕ) → IsBuilt s → Stage width (recording s sets) bodies start h w.state deferred out →
      MayStart (recording s sets) h n → CanBegin s n deferred out w
  start_allowed sets width start h deferred n built stage may =
      let r : Schedule = recording s sets in
      let holds = holds_there width r bodies start h w.state deferred out stage in
      let lawful = wide_lawful width r h stage.wide in
      record {
        known = may.free.known;
        fresh = interleaved_fresh r bodies start h (woven w.state deferred out) lawful stage.sets stage.meaning n may.free.waits;
        given = given-recording r s.sets n (grants_at deferred n)
            (ids-free r h n (run_with w.state deferred) lawful may.free (ids-interleaved r bodies start h (woven w.state deferred out) (built-recording s sets built) lawful stage.meaning));
        home = start-free meaning fits where_is s bodies slots out w placed sets deferred h holds n may;
        there = sets_at r h;
        among = all_among r bodies start h (woven w.state deferred out) stage.sets stage.meaning;
        apart = apart-held meaning fits where_is s bodies slots out w placed sets deferred h holds (params_of s n) may.apart;
      }

  -- a condition may be asked
  pub ask_allowed : (sets : Option (List (List ℕ))) (c : ℕ) (width : ℕ) (start : State) (h : List Step) (deferred : DeferredValue) → Stage width (recording s sets) bodies start h w.state deferred out →
      IsLayoutOf w.state.world.slots w.layout → MayAsk (recording s sets) h c → AllByRecursion (λ query. ArePickedHome query w.layout) (access_of s c).queries
  ask_allowed sets c width start h deferred stage laid may =
      let r : Schedule = recording s sets in
      home-apart (sets_at r h) (store_of w) (held_by out) (access_of s c) laid (all_among r bodies start h (woven w.state deferred out) stage.sets stage.meaning) placed.held
      (apart-held meaning fits where_is s bodies slots out w placed sets deferred h (holds_there width r bodies start h w.state deferred out stage) (access_of s c) may.apart)

  -- at a later tick, with other memories, which are those of the schedule too
  pub placed_moved : (later : StateValue) → HasMemories s later.state → w.state.world.clock ≤ later.state.world.clock → later.state.world.slots ≡ w.state.world.slots → later.layout ≡ w.layout →
      Placed meaning fits where_is s bodies slots out later
  placed_moved later memories clock same layout = record {
    body_count = placed.body_count;
    memories = memories;
    home = placed.home;
    jobs = λ job i. (let h = placed.jobs job i in record {
      known = h.known;
      params = h.params;
      means = h.means;
      fit = h.fit;
      where_is = h.where_is;
      past = (let p = h.past in omega arith);
      written = subst (λ (x : List Archetype). AllByRecursion (IsWrittenBy (params_of s job.system).queries x) (lent_in job.view.opening.taken)) (sym layout) h.written;
    });
    distinct = placed.distinct;
    held = out-same (store_of w) (store_of later) (held_by out) same layout placed.held;
  }

  -- the jobs stay what they are where the slots stay
  pub in_hand_moved : (deferred : DeferredValue) (later : StateValue) → later.state.world.slots ≡ w.state.world.slots → InHand s deferred out w → InHand s deferred out later
  in_hand_moved deferred later same hand = record {
    suits = hand.suits;
    ids = subst (λ xs. AreInHand xs deferred) (sym same) hand.ids;
    granted = hand.granted;
    showing = hand.showing;
  }

  -- after a condition was asked
  pub in_hand_asked : (deferred : DeferredValue) (c : ℕ) (later : StateValue) → later ≡ record { state = asked_at c (access_of s c).reads (next_tick w.state) (ticked w.state); layout = w.layout } → InHand s deferred out w → InHand s deferred out later
  in_hand_asked deferred c later is hand = in_hand_moved deferred later (ap (λ (x : StateValue). x.state.world.slots) is) hand

  pub placed_asked : (c : ℕ) (later : StateValue) → later ≡ record { state = asked_at c (access_of s c).reads (next_tick w.state) (ticked w.state); layout = w.layout } → Placed meaning fits where_is s bodies slots out later
  placed_asked c later is = placed_moved later
      (subst (λ (x : StateValue). HasMemories s x.state) (sym is) (memories_asked s (ticked w.state) (memories_at s w.state placed.memories (next_tick w.state)) c (next_tick w.state)))
      (let e = ap (λ (x : StateValue). x.state.world.clock) is in omega arith)
      (ap (λ (x : StateValue). x.state.world.slots) is) (ap (λ (x : StateValue). x.layout) is)

  -- before a sync point the systems of the level above it have left nothing
  pub sync_fresh : (sets : Option (List (List ℕ))) (width : ℕ) (start : State) (h : List Step) (deferred : DeferredValue) (k : ℕ) → Stage width (recording s sets) bodies start h w.state deferred out →
      MaySync (recording s sets) h k → (n : ℕ) → level_of s n ≡ suc k → commands_at deferred n ≡ []
  sync_fresh sets width start h deferred k stage may n above =
      let r : Schedule = recording s sets in
      let lawful = wide_lawful width r h stage.wide in
      interleaved_fresh r bodies start h (woven w.state deferred out) lawful stage.sets stage.meaning n (false_from_ne_true (begun h n) (above_waits r h k n lawful may.fresh (omega (arith, above))))

  -- after a sync point, where none is out
  pub placed_synced : (later : StateValue) → length out ≡ 0 → HasMemories s later.state → AreAllHome later.layout → Placed meaning fits where_is s bodies slots out later
  placed_synced later none memories all = subst (λ xs. Placed meaning fits where_is s bodies slots xs later) (sym (no_elements out none)) (record {
    body_count = placed.body_count;
    memories = memories;
    home = subst (λ xs. (n : ℕ) → n < length s.systems → IsPlaced meaning fits (params_of s n) (body_of bodies n) (has n (systems_of xs)) (body_at slots n)) (no_elements out none) placed.home;
    jobs = λ job i. absurd i;
    distinct = tt;
    held = none-out (store_of later) all;
  })

  -- where none is out
  placed-none : length out ≡ 0 → Placed meaning fits where_is s bodies slots [] w
  placed-none none = subst (λ xs. Placed meaning fits where_is s bodies slots xs w) (no_elements out none) placed

  pub suits_end : length out ≡ 0 → Suits fits s slots w.state
  suits_end none = suits_last meaning fits where_is s bodies slots w (placed-none none)

  pub means_end : length out ≡ 0 → length bodies ≡ length s.systems → meanings meaning s slots ≡ bodies
  means_end none count = means_last meaning fits where_is s bodies slots w (placed-none none) count

  pub home_end : length out ≡ 0 → IsLayoutOf w.state.world.slots w.layout → AreAllHome w.layout
  home_end none laid = all-home (store_of w) laid (placed-none none).held

  -- so nothing is on
  pub rest_end : (deferred : DeferredValue) → length out ≡ 0 → length bodies ≡ length s.systems → IsLayoutOf w.state.world.slots w.layout → AllKeepWithin s bodies → InHand s deferred out w → IsAtRest meaning fits s slots deferred w
  rest_end deferred none count laid keeps hand = record {
    suits = suits_end none;
    keeps = subst (AllKeepWithin s) (sym (means_end none count)) keeps;
    home = home_end none laid;
    deferred_for = hand.suits;
  }

-- at the opening
pub placed_open : {B : Type 0} (meaning : B → Params → BodyMeaning) (fits : B → Params → Bool) (where_is : Bool) (s : Schedule) (slots : List (Option B)) (out : List (JobOut B)) (w later : StateValue) (deferred : DeferredValue) → out ≡ [] →
    begin_run s w.state ≡ Some (run_with later.state deferred) → later.layout ≡ w.layout → Suits fits s slots w.state → AreAllHome w.layout → Placed meaning fits where_is s (meanings meaning s slots) slots out later
placed_open meaning fits where_is s slots out w later deferred none opened same suits home =
    let began : after_opening s w.state ≡ run_with later.state deferred = (provided-Some (can_open s w.state) (after_opening s w.state) (run_with later.state deferred) opened).1 in
    subst (λ xs. Placed meaning fits where_is s (meanings meaning s slots) slots xs later) (sym none)
    (placed_first meaning fits where_is s slots later
    (record { body_count = suits.body_count; memories = memories_opened s w.state suits.memories deferred later.state (sym began); fit = suits.fit })
    (subst AreAllHome (sym same) home))

-- what is in hand where none is out
pub in_hand_none : {B : Type 0} (s : Schedule) (deferred : DeferredValue) (out : List (JobOut B)) (w : StateValue) → length out ≡ 0 → IsDeferredFor s deferred → AreInHand w.state.world.slots deferred → InHand s deferred out w
in_hand_none {B} s deferred out w none suits ids = subst (λ (xs : List (JobOut B)). InHand s deferred xs w) (sym (no_elements out none)) (record {
  suits = suits;
  ids = ids;
  granted = λ job i. absurd i;
  showing = λ job i. absurd i;
})
