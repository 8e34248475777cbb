-- The bodies at home and the jobs out, as a system starts and as one ends.
use Rattle.std.proofs.Common.{ℕ, zero, suc, ◌<◌, ◌≤◌, Bool, true, false, ◌≡◌, ◌==◌, ◌||◌, nat_lt, ◌⊎◌, inl, inr, List, [], ◌∷◌, ◌++◌, length, map, set, remove, get_or, slice_get, Option, Some, None, is_some, Ok, Err, refl, sym, ◌∙◌, ap, ap₂, cond, subst, append-nil, arith}
use Rattle.std.specs.List.{AllByRecursion}
use Rattle.std.proofs.lemmas.Bool.{eq-eqb, ne_eqb, eqb-true, or_left, or_right, false≢true, false_from_ne_true, ltb-true, ltb-false}
use Rattle.std.proofs.lemmas.Option.{slice_get-get_or, slice_get_past}
use Rattle.std.proofs.lemmas.Grind.{flat_map-append}
use Rattle.std.proofs.lemmas.List.{map-append, length-set, get_or-set_same, get_or-set_other}
use Rattle.model.specs.declared.steps.Step.TheVariants.{Start, Finish}
use Rattle.model.specs.Lists.{has, IsIn}
use Rattle.model.specs.access.Access.{Params, no_params}
use Rattle.model.specs.declared.entities.Entity.{Entity}
use Rattle.model.specs.state.State.{State}
use Rattle.model.specs.shown.Input.{shown}
use Rattle.model.specs.shown.Outcome.{BodyMeaning}
use Rattle.model.specs.steps.Schedule.{ScheduledSystem, Schedule, params_of, recording}
use Rattle.model.specs.runs.RunState.{RunningSystem, has_tick, next_tick, memory_of_system, body_of}
use Rattle.model.specs.runs.Meaning.{running_system, without_system, interleaved_step}
use Rattle.model.specs.runs.Causes.{cause_of_answer, cause_of_running, interleaved_cause_of}
use Rattle.model.specs.runs.Causes.Cause.{Refused, NoEventNumber}
use Rattle.model.proofs.lists.Each.{each-weaker}
use Rattle.model.specs.declared.steps.Step.{Step}
use Rattle.model.specs.steps.Lawful.{MayStart, MeetsRunning, sets_at}
use Rattle.model.proofs.serial.Holding.{Holds, apart_start}
use Rattle.model.proofs.lists.Lists.{IsIn-append, IsIn_left, IsIn_right, IsIn_from_has}
use Rattle.model.proofs.lists.Members.{in-map}
use Rattle.archetype_store.specs.declared.columns.TakenColumn.{TakenColumn}
use Rattle.archetype_store.specs.Layout.{Archetype, AreAllHome}
use Rattle.body.specs.Columns.{Column}
use Rattle.body.specs.Lent.{AreLent, lent_in, with_away, with_back}
use Rattle.body.specs.Out.{IsWrittenBy, AreOut, IsApartFrom}
use Rattle.body.specs.Seen.{Opening, Seen}
use Rattle.body.specs.Steps.{StateValue, laid, noted, store_of, ticked}
use Rattle.body.proofs.Lendings.{lent_in-append}
use Rattle.body.proofs.Outs.{written-away, written-back, lent-part, none-out}
use Rattle.body.proofs.Gets.{same-by-get, each-in}
use Rattle.worker_pool.specs.JobOut.{JobOut}
use Rattle.engine.specs.Deferred.{DeferredValue, grants_at, run_with, with_commands}
use Rattle.engine.specs.Meanings.{meaning_of, meanings_of, meanings, body_at, body_fits, AreFit, HasMemories, Suits}
use Rattle.engine.specs.Jobs.{running_of, systems_of, held_by, woven, AreDistinct, AreKept, HasBody, IsJob, IsPlaced, Placed}
use Rattle.engine.proofs.StateMemories.{memories_at, memories_noted, memories_laid}
use Rattle.engine.proofs.InterleavedSteps.{IsAnswered, numbers_of, start_woven, finish_woven, unsent_woven}
use Rattle.model.proofs.lists.Places.{has-append, each-where}

-- ---- one of a list

-- a list around one of its elements
pub record IsAround {A : Type 0} (xs : List A) (i : ℕ) (x : A) : Type 0 where
  pub front : List A
  pub rest : List A
  pub whole : xs ≡ front ++ (x ∷ rest)
  pub remaining : remove xs i ≡ front ++ rest

pub around : {A : Type 0} (xs : List A) (i : ℕ) (x : A) → slice_get xs i ≡ Some x → IsAround xs i x
around [] i x h = absurd (cc)
around (y ∷ ys) zero x h = record { front = []; rest = ys; whole = ap (λ z. z ∷ ys) (let same : y ≡ x = cc in same); remaining = refl }
around (y ∷ ys) (suc i) x h =
    let more = around ys i x h in
    record { front = y ∷ more.front; rest = more.rest; whole = ap (λ zs. y ∷ zs) more.whole; remaining = ap (λ zs. y ∷ zs) more.remaining }

-- of distinct numbers one stands neither before nor after itself
pub record IsOnceIn (xs ys : List ℕ) (n : ℕ) : Type 0 where
  pub before : has n xs ≡ false
  pub after : has n ys ≡ false
  pub others : AreDistinct (xs ++ ys)

once-in : (xs ys : List ℕ) (n : ℕ) → AreDistinct (xs ++ (n ∷ ys)) → IsOnceIn xs ys n
once-in [] ys n h = record { before = refl; after = h.0; others = h.1 }
once-in (x ∷ xs) ys n h =
    let more = once-in xs ys n h.1 in
    let none : has x xs ≡ false = parts-left (has x xs) (has x (n ∷ ys)) (sym (has-append x xs (n ∷ ys)) ∙ h.0) in
    let rest : has x (n ∷ ys) ≡ false = parts-right (has x xs) (has x (n ∷ ys)) (sym (has-append x xs (n ∷ ys)) ∙ h.0) in
    let differ : (n == x) ≡ false = parts-left (n == x) (has x ys) rest in
    record {
      before = ap (λ b. b || has n xs) (turned x n differ) ∙ more.before;
      after = more.after;
      others = (has-append x xs ys ∙ ap₂ ◌||◌ none (parts-right (n == x) (has x ys) rest), more.others);
    }
  where
    parts-left : (a b : Bool) → (a || b) ≡ false → a ≡ false
    parts-left true b e = e
    parts-left false b e = refl

    parts-right : (a b : Bool) → (a || b) ≡ false → b ≡ false
    parts-right true b e = absurd (let f : true ≡ false = e in cc)
    parts-right false b e = e

    turned : (a b : ℕ) → (b == a) ≡ false → (a == b) ≡ false
    turned a b e = ne_eqb a b (λ same. false≢true (sym e ∙ eq-eqb b a (sym same)))

distinct-more : (xs : List ℕ) (n : ℕ) → AreDistinct xs → has n xs ≡ false → AreDistinct (xs ++ n ∷ [])
distinct-more [] n h e = (refl, tt)
distinct-more (x ∷ xs) n h e = (has-append x xs (n ∷ []) ∙ ap₂ ◌||◌ h.0 (ap (λ b. b || false) (first (x == n) refl)), distinct-more xs n h.1 (second (x == n) e))
  where
    first : (b : Bool) → (x == n) ≡ b → (n == x) ≡ false
    first true s = absurd (false≢true (sym e ∙ or_left (x == n) (has n xs) s))
    first false s = ne_eqb n x (λ same. false≢true (sym s ∙ eq-eqb x n (sym same)))

    second : (b : Bool) → (b || has n xs) ≡ false → has n xs ≡ false
    second true s = absurd (let f : true ≡ false = s in cc)
    second false s = s

-- ---- jobs in a list

module _ {B : Type 0} where
  held-more : (out : List (JobOut B)) (job : JobOut B) → held_by (out ++ job ∷ []) ≡ held_by out ++ job.view.opening.taken
  held-more out job = flat_map-append (λ (j : JobOut B). j.view.opening.taken) out (job ∷ []) ∙ ap (λ cs. held_by out ++ cs) (append-nil job.view.opening.taken)

  held-around : (front rest : List (JobOut B)) (job : JobOut B) → held_by (front ++ (job ∷ rest)) ≡ held_by front ++ (job.view.opening.taken ++ held_by rest)
  held-around front rest job = flat_map-append (λ (j : JobOut B). j.view.opening.taken) front (job ∷ rest)

  held-left : (front rest : List (JobOut B)) → held_by (front ++ rest) ≡ held_by front ++ held_by rest
  held-left front rest = flat_map-append (λ (j : JobOut B). j.view.opening.taken) front rest

  running-found : (n : ℕ) (front rest : List (JobOut B)) (job : JobOut B) → job.system ≡ n → has n (systems_of front) ≡ false →
      running_system n (map running_of (front ++ (job ∷ rest))) ≡ Some (running_of job)
  running-found n [] rest job same none = ap (λ b. cond b (Some (running_of job)) (running_system n (map running_of rest))) (eq-eqb job.system n same)
  running-found n (j ∷ front) rest job same none = go (j.system == n) none (running-found n front rest job same)
    where
      go : (b : Bool) → (b || has n (systems_of front)) ≡ false → (has n (systems_of front) ≡ false → running_system n (map running_of (front ++ (job ∷ rest))) ≡ Some (running_of job)) →
          cond b (Some (running_of j)) (running_system n (map running_of (front ++ (job ∷ rest)))) ≡ Some (running_of job)
      go true e more = absurd (let f : true ≡ false = e in cc)
      go false e more = more e

  running-left : (n : ℕ) (front rest : List (JobOut B)) (job : JobOut B) → job.system ≡ n → has n (systems_of front) ≡ false →
      without_system n (map running_of (front ++ (job ∷ rest))) ≡ map running_of (front ++ rest)
  running-left n [] rest job same none = ap (λ b. cond b (map running_of rest) (running_of job ∷ without_system n (map running_of rest))) (eq-eqb job.system n same)
  running-left n (j ∷ front) rest job same none = go (j.system == n) none (running-left n front rest job same)
    where
      go : (b : Bool) → (b || has n (systems_of front)) ≡ false → (has n (systems_of front) ≡ false → without_system n (map running_of (front ++ (job ∷ rest))) ≡ map running_of (front ++ rest)) →
          cond b (map running_of (front ++ (job ∷ rest))) (running_of j ∷ without_system n (map running_of (front ++ (job ∷ rest)))) ≡ running_of j ∷ map running_of (front ++ rest)
      go true e more = absurd (let f : true ≡ false = e in cc)
      go false e more = ap (λ xs. running_of j ∷ xs) (more e)

-- ---- a start

-- a job that was just handed out, of a system at a state
pub record IsHanded {B : Type 0} (s : Schedule) (n : ℕ) (ids : List Entity) (w : StateValue) (later : StateValue) (job : JobOut B) : Type 0 where
  pub system : job.system ≡ n
  pub params : job.view.params ≡ params_of s n
  pub shown_there : job.view.shown ≡ shown (params_of s n) (memory_of_system w.state n) w.state ids
  pub tick : job.view.opening.tick ≡ next_tick w.state
  pub written : AllByRecursion (IsWrittenBy (params_of s n).queries w.layout) (lent_in job.view.opening.taken)
  pub held : (others : List (List Column)) → AreOut (store_of w) others → AreOut (store_of later) (others ++ job.view.opening.taken)
  pub is_later : later ≡ record { state = noted n (params_of s n).reads (next_tick w.state) (ticked w.state); layout = with_away (lent_in job.view.opening.taken) w.layout }

module _ {B : Type 0} (meaning : B → Params → BodyMeaning) (fits : B → Params → Bool) (there : Bool) (s : Schedule) where
  -- the interleaved step
  pub start_there : (bodies : List BodyMeaning) (n : ℕ) (w later : StateValue) (deferred : DeferredValue) (out : List (JobOut B)) (job : JobOut B) → has_tick w.state ≡ true →
      IsHanded s n (grants_at deferred n) w later job → interleaved_step s bodies (Start n) (woven w.state deferred out) ≡ Some (woven later.state deferred (out ++ job ∷ []))
  start_there bodies n w later deferred out job tick handed =
      start_woven s bodies n w.state deferred (map running_of out) tick
      ∙ ap₂ (λ state running. Some (record { run = run_with state deferred; running_systems = running }))
      (sym (ap (λ (x : StateValue). x.state) handed.is_later))
      (ap (λ (p : RunningSystem). map running_of out ++ p ∷ []) (λ i. record { system = sym handed.system i; tick = sym handed.tick i; shown = sym handed.shown_there i })
      ∙ sym (map-append running_of out (job ∷ [])))

  module _ (bodies : List BodyMeaning) (slots : List (Option B)) (out : List (JobOut B)) (w : StateValue) (placed : Placed meaning fits there s bodies slots out w) where
    -- the body of a system that isn't out is at home
    pub body-there : (n : ℕ) → n < length s.systems → has n (systems_of out) ≡ false → is_some (body_at slots n) ≡ true
    body-there n known home = go (body_at slots n) (placed.home n known)
      where
        go : (o : Option B) → IsPlaced meaning fits (params_of s n) (body_of bodies n) (has n (systems_of out)) o → is_some o ≡ true
        go None h = sym home ∙ h
        go (Some body) h = refl

    -- and fits
    pub body-fits : (n : ℕ) (body : B) → n < length s.systems → body_at slots n ≡ Some body → (meaning body (params_of s n) ≡ body_of bodies n) × (fits body (params_of s n) ≡ true)
    body-fits n body known is =
        let h = subst (IsPlaced meaning fits (params_of s n) (body_of bodies n) (has n (systems_of out))) is (placed.home n known) in (h.1, h.2)

    module _ (n : ℕ) (later : StateValue) (job : JobOut B) (known : n < length s.systems) (home : has n (systems_of out) ≡ false) (body_is : body_at slots n ≡ Some job.body) (ids : List Entity) (handed : IsHanded s n ids w later job) (where_is : job.there ≡ there) where
      later-clock : w.state.world.clock ≤ later.state.world.clock
      later-clock = let e = ap (λ (x : StateValue). x.state.world.clock) handed.is_later in omega arith

      later-written : (queries : _) (c : TakenColumn) → IsWrittenBy queries w.layout c → IsWrittenBy queries later.layout c
      later-written queries c h = subst (λ (layout : List Archetype). IsWrittenBy queries layout c) (ap (λ (x : StateValue). x.layout) (sym handed.is_later)) (written-away queries (lent_in job.view.opening.taken) w.layout c h)

      job-later : (j : JobOut B) → IsJob meaning fits there s bodies w j → IsJob meaning fits there s bodies later j
      job-later j h = record {
        known = h.known;
        params = h.params;
        means = h.means;
        fit = h.fit;
        where_is = h.where_is;
        past = let a = h.past in let b = later-clock in omega arith;
        written = each-weaker (IsWrittenBy (params_of s j.system).queries w.layout) (IsWrittenBy (params_of s j.system).queries later.layout) (later-written (params_of s j.system).queries) (lent_in j.view.opening.taken) h.written;
      }

      job-new : IsJob meaning fits there s bodies later job
      job-new =
          let facts = body-fits n job.body known body_is in
          let n-is = sym handed.system in
          record {
            known = subst (λ m. m < length s.systems) n-is known;
            params = handed.params ∙ ap (params_of s) n-is;
            means = subst (λ m. meaning job.body (params_of s m) ≡ body_of bodies m) n-is facts.0;
            fit = subst (λ m. fits job.body (params_of s m) ≡ true) n-is facts.1;
            where_is = where_is;
            past = let a = handed.tick in let e = ap (λ (x : StateValue). x.state.world.clock) handed.is_later in omega arith;
            written = subst (λ m. AllByRecursion (IsWrittenBy (params_of s m).queries later.layout) (lent_in job.view.opening.taken)) n-is
                (each-weaker (IsWrittenBy (params_of s n).queries w.layout) (IsWrittenBy (params_of s n).queries later.layout) (later-written (params_of s n).queries) (lent_in job.view.opening.taken) handed.written);
          }

      systems-more : systems_of (out ++ job ∷ []) ≡ systems_of out ++ n ∷ []
      systems-more = map-append (λ (j : JobOut B). j.system) out (job ∷ []) ∙ ap (λ m. systems_of out ++ m ∷ []) handed.system

      or-false : (b : Bool) → (b || false) ≡ b
      or-false true = refl
      or-false false = refl

      home-more : (m : ℕ) → m < length s.systems → IsPlaced meaning fits (params_of s m) (body_of bodies m) (has m (systems_of (out ++ job ∷ []))) (body_at (set slots n None) m)
      home-more m within = go (n == m) refl
        where
          go : (b : Bool) → (n == m) ≡ b → IsPlaced meaning fits (params_of s m) (body_of bodies m) (has m (systems_of (out ++ job ∷ []))) (body_at (set slots n None) m)
          go true e =
              let same = eqb-true n m e in
              subst (IsPlaced meaning fits (params_of s m) (body_of bodies m) (has m (systems_of (out ++ job ∷ []))))
              (sym (ap (λ k. body_at (set slots k None) m) same ∙ get_or-set_same slots m None None (let a = placed.body_count in omega arith)))
              (ap (has m) systems-more ∙ has-append m (systems_of out) (n ∷ []) ∙ or_right (has m (systems_of out)) ((n == m) || false) (or_left (n == m) false e))
          go false e =
              subst (λ b. IsPlaced meaning fits (params_of s m) (body_of bodies m) b (body_at (set slots n None) m))
              (sym (ap (has m) systems-more ∙ has-append m (systems_of out) (n ∷ []) ∙ ap (λ b. has m (systems_of out) || (b || false)) e ∙ or-false (has m (systems_of out))))
              (subst (IsPlaced meaning fits (params_of s m) (body_of bodies m) (has m (systems_of out))) (sym (get_or-set_other slots n m None None (λ same. false≢true (sym e ∙ eq-eqb n m (sym same))))) (placed.home m within))

      pub placed_start : Placed meaning fits there s bodies (set slots n None) (out ++ job ∷ []) later
      placed_start = record {
        body_count = length-set slots n None ∙ placed.body_count;
        memories = subst (λ (x : StateValue). HasMemories s x.state) (sym handed.is_later) (memories_noted s (ticked w.state) (memories_at s w.state placed.memories (next_tick w.state)) n (next_tick w.state));
        home = home-more;
        jobs = λ j i. of-job j (IsIn-append j out (job ∷ []) i);
        distinct = subst AreDistinct (sym systems-more) (distinct-more (systems_of out) n placed.distinct home);
        held = subst (AreOut (store_of later)) (sym (held-more out job)) (handed.held (held_by out) placed.held);
      }
        where
          of-job : (j : JobOut B) → IsIn j out ⊎ IsIn j (job ∷ []) → IsJob meaning fits there s bodies later j
          of-job j (inl i) = job-later j (placed.jobs j i)
          of-job j (inr (inl same)) = subst (IsJob meaning fits there s bodies later) (sym same) job-new
          of-job j (inr (inr none)) = absurd none

-- ---- who may start, and what may be asked

module _ {B : Type 0} (meaning : B → Params → BodyMeaning) (fits : B → Params → Bool) (there : Bool) (s : Schedule) (bodies : List BodyMeaning) (slots : List (Option B)) (out : List (JobOut B)) (w : StateValue) (placed : Placed meaning fits there s bodies slots out w)
    (sets : Option (List (List ℕ))) (deferred : DeferredValue) (h : List Step) (holds : Holds (recording s sets) h (woven w.state deferred out)) where
  -- a system that may start isn't out
  pub start-free : (n : ℕ) → MayStart (recording s sets) h n → has n (systems_of out) ≡ false
  start-free n may = false_from_ne_true (has n (systems_of out)) (λ e. none out (λ j i. i) (IsIn_from_has n (systems_of out) e))
    where
      none : (jobs : List (JobOut B)) → ((j : JobOut B) → IsIn j jobs → IsIn j out) → IsIn n (systems_of jobs) → ⊥
      none [] within i = i
      none (j ∷ jobs) within (inl same) = (apart_start (recording s sets) h n (woven w.state deferred out) may holds (running_of j) (in-map running_of out j (within j (inl refl)))).0 (sym same)
      none (j ∷ jobs) within (inr i) = none jobs (λ k m. within k (inr m)) i

  -- where no running system meets an access, none that is out and holds columns meets it
  pub apart-held : (access : Params) → (MeetsRunning (recording s sets) h access → ⊥) → AllByRecursion (IsApartFrom (sets_at (recording s sets) h) access w.layout) (lent_in (held_by out))
  apart-held access apart = each-where (IsApartFrom (sets_at (recording s sets) h) access w.layout) (lent_in (held_by out)) (λ c i. one out (λ j k. k) c i)
    where
      one : (jobs : List (JobOut B)) → ((j : JobOut B) → IsIn j jobs → IsIn j out) → (c : TakenColumn) → IsIn c (lent_in (held_by jobs)) → IsApartFrom (sets_at (recording s sets) h) access w.layout c
      one [] within c i = absurd i
      one (j ∷ jobs) within c i = go (IsIn-append c (lent_in j.view.opening.taken) (lent_in (held_by jobs)) (subst (IsIn c) (lent_in-append j.view.opening.taken (held_by jobs)) i)) (one jobs (λ k m. within k (inr m)) c)
        where
          go : IsIn c (lent_in j.view.opening.taken) ⊎ IsIn c (lent_in (held_by jobs)) → (IsIn c (lent_in (held_by jobs)) → IsApartFrom (sets_at (recording s sets) h) access w.layout c) → IsApartFrom (sets_at (recording s sets) h) access w.layout c
          go (inl mine) later = record {
            other = params_of s j.system;
            written = each-in (IsWrittenBy (params_of s j.system).queries w.layout) (lent_in j.view.opening.taken) (placed.jobs j (within j (inl refl))).written c mine;
            apart = λ meets. apart (j.system, holds.alive (running_of j) (in-map running_of out j (within j (inl refl))), meets);
          }
          go (inr others) later = later others

-- ---- a finish

-- where a run stands no body is lost
pub placed_kept : {B : Type 0} (meaning : B → Params → BodyMeaning) (fits : B → Params → Bool) (there : Bool) (s : Schedule) (bodies : List BodyMeaning) (slots : List (Option B)) (out : List (JobOut B)) (w : StateValue) →
    Placed meaning fits there s bodies slots out w → AreKept meaning fits there s bodies slots out
placed_kept meaning fits there s bodies slots out w placed = record {
  body_count = placed.body_count;
  home = placed.home;
  jobs = λ job i. (let h = placed.jobs job i in record { known = h.known; means = h.means; fit = h.fit; where_is = h.where_is });
  distinct = placed.distinct;
}

-- nor once a body came back to its place
module _ {B : Type 0} (meaning : B → Params → BodyMeaning) (fits : B → Params → Bool) (there : Bool) (s : Schedule) (bodies : List BodyMeaning) (slots : List (Option B)) (front rest : List (JobOut B)) (job : JobOut B)
    (kept : AreKept meaning fits there s bodies slots (front ++ (job ∷ rest))) where
  has-body : HasBody meaning fits there s bodies job
  has-body = kept.jobs job (IsIn_right job front (job ∷ rest) (inl refl))

  systems-around : systems_of (front ++ (job ∷ rest)) ≡ systems_of front ++ (job.system ∷ systems_of rest)
  systems-around = map-append (λ (j : JobOut B). j.system) front (job ∷ rest)

  systems-left : systems_of (front ++ rest) ≡ systems_of front ++ systems_of rest
  systems-left = map-append (λ (j : JobOut B). j.system) front rest

  pub once : IsOnceIn (systems_of front) (systems_of rest) job.system
  once = once-in (systems_of front) (systems_of rest) job.system (subst AreDistinct systems-around kept.distinct)

  module _ (body : B) (same_meaning : meaning body ≡ meaning job.body) (same_fit : fits body ≡ fits job.body) where
    home-back : (m : ℕ) → m < length s.systems → IsPlaced meaning fits (params_of s m) (body_of bodies m) (has m (systems_of (front ++ rest))) (body_at (set slots job.system (Some body)) m)
    home-back m within = go (job.system == m) refl
      where
        go : (b : Bool) → (job.system == m) ≡ b → IsPlaced meaning fits (params_of s m) (body_of bodies m) (has m (systems_of (front ++ rest))) (body_at (set slots job.system (Some body)) m)
        go true e =
            let same = eqb-true job.system m e in
            subst (IsPlaced meaning fits (params_of s m) (body_of bodies m) (has m (systems_of (front ++ rest))))
            (sym (ap (λ k. body_at (set slots k (Some body)) m) same ∙ get_or-set_same slots m (Some body) None (let a = kept.body_count in omega arith))) (
              ap (has m) systems-left ∙ has-append m (systems_of front) (systems_of rest) ∙ ap (λ k. has k (systems_of front) || has k (systems_of rest)) (sym same) ∙ ap₂ ◌||◌ once.before once.after,
              ap (λ (g : Params → BodyMeaning). g (params_of s m)) same_meaning ∙ subst (λ k. meaning job.body (params_of s k) ≡ body_of bodies k) same has-body.means,
              ap (λ (g : Params → Bool). g (params_of s m)) same_fit ∙ subst (λ k. fits job.body (params_of s k) ≡ true) same has-body.fit,
            )
        go false e =
            subst (λ b. IsPlaced meaning fits (params_of s m) (body_of bodies m) b (body_at (set slots job.system (Some body)) m))
            (ap (has m) systems-around ∙ has-append m (systems_of front) (job.system ∷ systems_of rest) ∙ ap (λ b. has m (systems_of front) || (b || has m (systems_of rest))) e
            ∙ sym (has-append m (systems_of front) (systems_of rest)) ∙ ap (has m) (sym systems-left))
            (subst (IsPlaced meaning fits (params_of s m) (body_of bodies m) (has m (systems_of (front ++ (job ∷ rest)))))
            (sym (get_or-set_other slots job.system m (Some body) None (λ same. false≢true (sym e ∙ eq-eqb job.system m (sym same))))) (kept.home m within))

    pub kept_finish : AreKept meaning fits there s bodies (set slots job.system (Some body)) (front ++ rest)
    kept_finish = record {
      body_count = length-set slots job.system (Some body) ∙ kept.body_count;
      home = home-back;
      jobs = λ j i. kept.jobs j (within j (IsIn-append j front rest i));
      distinct = subst AreDistinct (sym systems-left) once.others;
    }
      where
        within : (j : JobOut B) → IsIn j front ⊎ IsIn j rest → IsIn j (front ++ (job ∷ rest))
        within j (inl i) = IsIn_left j front (job ∷ rest) i
        within j (inr i) = IsIn_right j front (job ∷ rest) (inr i)

-- a body that was taken from its place and put back is at home as before
pub put_again : {B : Type 0} (slots : List (Option B)) (n : ℕ) (body : B) → body_at slots n ≡ Some body → set (set slots n None) n (Some body) ≡ slots
put_again [] n body e = refl
put_again (x ∷ slots) zero body e = ap (λ o. o ∷ slots) (sym e)
put_again (x ∷ slots) (suc n) body e = ap (λ xs. x ∷ xs) (put_again slots n body e)

-- a job that came back with the outcome that its body means
pub record IsOutcomeOf {B : Type 0} (meaning : B → Params → BodyMeaning) (job : JobOut B) (seen : Seen) : Type 0 where
  pub params : seen.params ≡ job.view.params
  pub shown_is : seen.shown ≡ job.view.shown
  pub opening : seen.opening ≡ job.view.opening
  pub answered : meaning job.body job.view.params job.view.shown ≡ Ok seen.outcome

-- and the state over which this is laid
pub record IsReturned {B : Type 0} (meaning : B → Params → BodyMeaning) (fits : B → Params → Bool) (w later : StateValue) (job : JobOut B) (body : B) (seen : Seen) : Type 0 where
  pub same_meaning : meaning body ≡ meaning job.body
  pub same_fit : fits body ≡ fits job.body
  pub outcome_is : IsOutcomeOf meaning job seen
  pub numbers : numbers_of seen w.state ≡ true
  pub is_later : later ≡ record { state = laid job.system seen.opening.tick seen w.state; layout = with_back (lent_in seen.opening.taken) w.layout }
  pub held : (front rest : List (List Column)) → AreOut (store_of w) (front ++ (seen.opening.taken ++ rest)) → AreOut (store_of later) (front ++ rest)

module _ {B : Type 0} (meaning : B → Params → BodyMeaning) (fits : B → Params → Bool) (there : Bool) (s : Schedule) (bodies : List BodyMeaning) (slots : List (Option B)) (front rest : List (JobOut B)) (job : JobOut B) (w : StateValue)
    (placed : Placed meaning fits there s bodies slots (front ++ (job ∷ rest)) w) where
  is-job : IsJob meaning fits there s bodies w job
  is-job = placed.jobs job (IsIn_right job front (job ∷ rest) (inl refl))

  once-there : IsOnceIn (systems_of front) (systems_of rest) job.system
  once-there = once meaning fits there s bodies slots front rest job (placed_kept meaning fits there s bodies slots (front ++ (job ∷ rest)) w placed)

  -- what the world lends to it
  pub lent-there : AreLent (store_of w) job.view.opening.taken
  lent-there = lent-part (store_of w) (held_by front) job.view.opening.taken (held_by rest) (subst (AreOut (store_of w)) (held-around front rest job) placed.held)

  -- where it is refused, so is the finish
  pub refused_there : (deferred : DeferredValue) (k : ℕ) → meaning job.body job.view.params job.view.shown ≡ Err k → interleaved_cause_of s bodies (Finish job.system) (woven w.state deferred (front ++ (job ∷ rest))) ≡ Some (Refused k)
  refused_there deferred k e =
      ap (λ o. cause_of_running s bodies o (run_with w.state deferred)) (running-found job.system front rest job refl once-there.before)
      ∙ ap (λ answer. cause_of_answer s (running_of job) answer (run_with w.state deferred))
      (ap (λ (m : BodyMeaning). m job.view.shown) (sym is-job.means) ∙ ap (λ p. meaning job.body p job.view.shown) (sym is-job.params) ∙ e)

  module _ (seen : Seen) (is : IsOutcomeOf meaning job seen) where
    answered-there : IsAnswered s bodies job.system seen
    answered-there = record {
      params = is.params ∙ is-job.params;
      answered = ap (body_of bodies job.system) is.shown_is ∙ ap (λ (m : BodyMeaning). m job.view.shown) (sym is-job.means) ∙ ap (λ p. meaning job.body p job.view.shown) (sym is-job.params) ∙ is.answered;
    }

    -- it runs
    found-there : running_system job.system (map running_of (front ++ (job ∷ rest))) ≡ Some (record { system = job.system; tick = seen.opening.tick; shown = seen.shown })
    found-there =
        running-found job.system front rest job refl once-there.before
        ∙ ap₂ (λ tick x. Some (record { system = job.system; tick = tick; shown = x })) (ap (λ (o : Opening). o.tick) (sym is.opening)) (sym is.shown_is)

    -- where an event of its gets no number, the finish stops
    pub unsent_there : (deferred : DeferredValue) → numbers_of seen w.state ≡ false → interleaved_cause_of s bodies (Finish job.system) (woven w.state deferred (front ++ (job ∷ rest))) ≡ Some NoEventNumber
    unsent_there deferred none = unsent_woven s bodies job.system seen.opening.tick w.state deferred (map running_of (front ++ (job ∷ rest))) seen answered-there none found-there

  module _ (later : StateValue) (body : B) (seen : Seen) (is : IsReturned meaning fits w later job body seen) where
    -- the interleaved step
    pub finish_there : (deferred : DeferredValue) → job.system < length deferred.commands → interleaved_step s bodies (Finish job.system) (woven w.state deferred (front ++ (job ∷ rest)))
        ≡ Some (woven later.state (with_commands job.system seen.outcome.commands deferred) (front ++ rest))
    finish_there deferred known =
        finish_woven s bodies job.system seen.opening.tick w.state deferred (map running_of (front ++ (job ∷ rest))) seen known (answered-there seen is.outcome_is) is.numbers (found-there seen is.outcome_is)
        ∙ ap₂ (λ (state : State) running. Some (record { run = run_with state (with_commands job.system seen.outcome.commands deferred); running_systems = running })) (sym (ap (λ (x : StateValue). x.state) is.is_later)) (running-left job.system front rest job refl once-there.before)

    kept-job : (j : JobOut B) → IsJob meaning fits there s bodies w j → IsJob meaning fits there s bodies later j
    kept-job j h = record {
      known = h.known;
      params = h.params;
      means = h.means;
      fit = h.fit;
      where_is = h.where_is;
      past = let a = h.past in let e = ap (λ (x : StateValue). x.state.world.clock) is.is_later in omega arith;
      written = each-weaker (IsWrittenBy (params_of s j.system).queries w.layout) (IsWrittenBy (params_of s j.system).queries later.layout)
          (λ c k. subst (λ (layout : List Archetype). IsWrittenBy (params_of s j.system).queries layout c) (ap (λ (x : StateValue). x.layout) (sym is.is_later)) (written-back (params_of s j.system).queries (lent_in seen.opening.taken) w.layout c k))
          (lent_in j.view.opening.taken) h.written;
    }

    pub placed_finish : Placed meaning fits there s bodies (set slots job.system (Some body)) (front ++ rest) later
    placed_finish = record {
      body_count = kept.body_count;
      memories = subst (λ (x : StateValue). HasMemories s x.state) (sym is.is_later) (memories_laid s w.state placed.memories job.system seen.opening.tick seen);
      home = kept.home;
      jobs = λ j i. kept-job j (placed.jobs j (within j (IsIn-append j front rest i)));
      distinct = kept.distinct;
      held = subst (AreOut (store_of later)) (sym (held-left front rest))
          (is.held (held_by front) (held_by rest) (subst (λ taken. AreOut (store_of w) (held_by front ++ (taken ++ held_by rest))) (ap (λ (o : Opening). o.taken) (sym is.outcome_is.opening)) (subst (AreOut (store_of w)) (held-around front rest job) placed.held)));
    }
      where
        kept : AreKept meaning fits there s bodies (set slots job.system (Some body)) (front ++ rest)
        kept = kept_finish meaning fits there s bodies slots front rest job (placed_kept meaning fits there s bodies slots (front ++ (job ∷ rest)) w placed) body is.same_meaning is.same_fit

        within : (j : JobOut B) → IsIn j front ⊎ IsIn j rest → IsIn j (front ++ (job ∷ rest))
        within j (inl i) = IsIn_left j front (job ∷ rest) i
        within j (inr i) = IsIn_right j front (job ∷ rest) (inr i)

-- ---- between runs

module _ {B : Type 0} (meaning : B → Params → BodyMeaning) (fits : B → Params → Bool) (there : Bool) (s : Schedule) where
  -- what the bodies of a schedule mean, one by one
  meaning-among : (systems : List ScheduledSystem) (slots : List (Option B)) (n : ℕ) (x : ScheduledSystem) → length slots ≡ length systems → n < length systems →
      get_or (meanings_of meaning systems slots) n (λ shown. Err 0) ≡ meaning_of meaning (get_or systems n x).params (body_at slots n)
  meaning-among [] slots n x same known = absurd (omega arith)
  meaning-among (y ∷ systems) [] n x same known = absurd (omega (arith, same))
  meaning-among (y ∷ systems) (b ∷ slots) zero x same known = refl
  meaning-among (y ∷ systems) (b ∷ slots) (suc n) x same known = meaning-among systems slots n x (let e : suc (length slots) ≡ suc (length systems) = same in omega arith) (omega arith)

  pub meaning-there : (slots : List (Option B)) (n : ℕ) → length slots ≡ length s.systems → n < length s.systems → body_of (meanings meaning s slots) n ≡ meaning_of meaning (params_of s n) (body_at slots n)
  meaning-there slots n same known = meaning-among s.systems slots n (record { params = no_params; predecessors = []; level = 0 }) same known

  -- there are as many meanings as systems
  pub meanings_count : (slots : List (Option B)) → length slots ≡ length s.systems → length (meanings meaning s slots) ≡ length s.systems
  meanings_count slots same = go s.systems slots same
    where
      go : (systems : List ScheduledSystem) (xs : List (Option B)) → length xs ≡ length systems → length (meanings_of meaning systems xs) ≡ length systems
      go [] xs e = refl
      go (y ∷ systems) [] e = absurd (omega (arith, e))
      go (y ∷ systems) (x ∷ xs) e = ap suc (go systems xs (let f : suc (length xs) ≡ suc (length systems) = e in omega arith))

  -- with no job out all bodies are at home
  pub placed_first : (slots : List (Option B)) (w : StateValue) → Suits fits s slots w.state → AreAllHome w.layout → Placed meaning fits there s (meanings meaning s slots) slots [] w
  placed_first slots w suits home = record {
    body_count = suits.body_count;
    memories = suits.memories;
    home = λ n known. placed-one n known (body_at slots n) refl (suits.fit n known);
    jobs = λ job i. absurd i;
    distinct = tt;
    held = none-out (store_of w) home;
  }
    where
      placed-one : (n : ℕ) → n < length s.systems → (o : Option B) → body_at slots n ≡ o → body_fits fits o (params_of s n) ≡ true →
          IsPlaced meaning fits (params_of s n) (body_of (meanings meaning s slots) n) false o
      placed-one n known None e fit = absurd (let f : false ≡ true = fit in cc)
      placed-one n known (Some body) e fit = (refl, sym (meaning-there slots n suits.body_count known ∙ ap (meaning_of meaning (params_of s n)) e), fit)

  module _ (bodies : List BodyMeaning) (slots : List (Option B)) (w : StateValue) (placed : Placed meaning fits there s bodies slots [] w) where
    pub suits_last : Suits fits s slots w.state
    suits_last = record {
      body_count = placed.body_count;
      memories = placed.memories;
      fit = λ n known. one n (body_at slots n) (placed.home n known);
    }
      where
        one : (n : ℕ) (o : Option B) → IsPlaced meaning fits (params_of s n) (body_of bodies n) false o → body_fits fits o (params_of s n) ≡ true
        one n None h = h
        one n (Some body) h = h.2

  -- where no body is lost, each means what it meant
  module _ (bodies : List BodyMeaning) (slots : List (Option B)) (kept : AreKept meaning fits there s bodies slots []) where
    pub kept_last : length bodies ≡ length s.systems → meanings meaning s slots ≡ bodies
    kept_last count = same-by-get (meanings meaning s slots) bodies (λ n. at n (le_total n))
      where
        le_total : (n : ℕ) → (n < length s.systems) ⊎ (length s.systems ≤ n)
        le_total n = go (nat_lt n (length s.systems)) refl
          where
            go : (b : Bool) → nat_lt n (length s.systems) ≡ b → (n < length s.systems) ⊎ (length s.systems ≤ n)
            go true e = inl (ltb-true n (length s.systems) e)
            go false e = inr (ltb-false n (length s.systems) e)

        one : (n : ℕ) (o : Option B) → IsPlaced meaning fits (params_of s n) (body_of bodies n) false o → meaning_of meaning (params_of s n) o ≡ body_of bodies n
        one n None h = absurd (let f : false ≡ true = h in cc)
        one n (Some body) h = h.1

        at : (n : ℕ) → (n < length s.systems) ⊎ (length s.systems ≤ n) → slice_get (meanings meaning s slots) n ≡ slice_get bodies n
        at n (inl known) =
            slice_get-get_or (meanings meaning s slots) n (λ shown. Err 0) (let c = meanings_count slots kept.body_count in omega arith)
            ∙ ap (λ m. Some m) (meaning-there slots n kept.body_count known ∙ one n (body_at slots n) (kept.home n known))
            ∙ sym (slice_get-get_or bodies n (λ shown. Err 0) (omega arith))
        at n (inr past) =
            slice_get_past (meanings meaning s slots) n (let c = meanings_count slots kept.body_count in omega arith) ∙ sym (slice_get_past bodies n (omega arith))

    -- and each fits
    pub kept_fits : AreFit fits s slots
    kept_fits = record { body_count = kept.body_count; fit = λ n known. fits-one n (body_at slots n) (kept.home n known) }
      where
        fits-one : (n : ℕ) (o : Option B) → IsPlaced meaning fits (params_of s n) (body_of bodies n) false o → body_fits fits o (params_of s n) ≡ true
        fits-one n None h = h
        fits-one n (Some body) h = h.2

  pub means_last : (bodies : List BodyMeaning) (slots : List (Option B)) (w : StateValue) → Placed meaning fits there s bodies slots [] w → length bodies ≡ length s.systems → meanings meaning s slots ≡ bodies
  means_last bodies slots w placed count = kept_last bodies slots (placed_kept meaning fits there s bodies slots [] w placed) count
