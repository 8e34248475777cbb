-- What the public calls say of each history for which a core stands.
use Rattle.std.proofs.Common.{ℕ, zero, suc, ◌+◌, ◌<◌, ◌≤◌, Bool, true, false, ◌≡◌, ◌↔◌, inl, inr, List, [], length, drop, get_or, Option, Some, None, Result, Ok, Err, IsOk, IfErr, IfSome, IfNone, refl, sym, ◌∙◌, subst, arith}
use Rattle.std.specs.Bool.{OnFalse}
use Rattle.std.proofs.lemmas.List.{drop_more, drop_all}
use Rattle.std.proofs.lemmas.Bool.{both_ways, true_from_ne_false, false≢true, cases_lt}
use Rattle.number_set.specs.Members.{contains}
use Rattle.model.specs.declared.steps.Step.{Step}
use Rattle.model.specs.declared.steps.StepFault.{StepFault}
use Rattle.model.specs.declared.steps.Ready.{Ready}
use Rattle.model.specs.declared.steps.Ready.TheVariants as ready
use Rattle.model.specs.steps.Schedule.{Schedule, recording, level_of}
use Rattle.model.specs.steps.Built.{IsBuilt}
use Rattle.model.specs.steps.Lawful.{IsFree, IsLawful, IsComplete, NoneRuns, May, MayStart, MaySkip}
use Rattle.model.specs.steps.Faults.{IsFirstFault}
use Rattle.model.specs.steps.Ready.{IsAskable, IsReady, IsReadyAmong, Offers, OffersNothing, OnlyFinish, step_of}
use Rattle.model.proofs.order.Histories.{level_ended, answered_asked}
use Rattle.model.proofs.progress.Offers.{ready_is_accepted, lists_complete}
use Rattle.model.proofs.progress.Progress.{lists_go_on}
use Rattle.model.proofs.faults.ExactFaults.{faults_are_exact}
use Rattle.executor_core.specs.Stands.{Stand, Stands}
use Rattle.executor_core.specs.Judges.{Judges, NoneMeets, IsWaiting, HasUnasked, HasRefusing, CanAsk, IsLeastAskable}
use Rattle.executor_core.proofs.Judging.{done_below, due_is, next_fresh, runs_of_sets, free_waiting, waiting_free, no_clash, meeting, unasked_from, refusing_from, skip_may, start_may}

-- ---- judgements

-- a step with a fault may not come
pub refused : (s : Schedule) (h : List Step) (step : Step) (fault : StepFault) → IsLawful s h → IsFirstFault s h step fault → May s h step → ⊥
refused s h step fault lawful first may = (faults_are_exact s h step lawful).1 fault first may

-- a judgement tells whether the step may come
pub tells_may : (s : Schedule) (h : List Step) (step : Step) (r : Result (Unit {0}) StepFault) → IsLawful s h → Judges s h step r → IsOk r ↔ May s h step
tells_may s h step (Ok done) lawful judged = ((λ ok. judged), (λ may. refl))
tells_may s h step (Err fault) lawful judged = ((λ ok. absurd (false≢true ok)), (λ may. absurd (refused s h step fault lawful judged may)))

-- and its fault
pub tells_fault : (s : Schedule) (h : List Step) (step : Step) (r : Result (Unit {0}) StepFault) → Judges s h step r → IfErr r (λ fault. IsFirstFault s h step fault)
tells_fault s h step (Ok done) judged = tt
tells_fault s h step (Err fault) judged = judged

-- ---- what is ready

-- nor does one that doesn't wait
pub busy_offers-nothing : (core : Stand) (sets : Option (List (List ℕ))) (h : List Step) (n : ℕ) → Stands core sets h → (IsWaiting core n → ⊥) → OffersNothing (recording core.schedule sets) h n
busy_offers-nothing core sets h n stands none r offers = none (waiting_free core sets h n stands offers.0)

-- what can be asked of the core can be asked after the history, and the other way round
askable_from : (core : Stand) (sets : Option (List (List ℕ))) (h : List Step) (n c : ℕ) → Stands core sets h → CanAsk core n c → IsAskable (recording core.schedule sets) h n c
askable_from core sets h n c stands can = (can.0, stands.asks c ∙ can.1.fresh, no_clash core sets h c stands can.1.clear)

can_from : (core : Stand) (sets : Option (List (List ℕ))) (h : List Step) (n c : ℕ) → Stands core sets h → IsAskable (recording core.schedule sets) h n c → CanAsk core n c
can_from core sets h n c stands askable = (
  askable.0,
  record {
    fresh = sym (stands.asks c) ∙ askable.1;
    clear = λ m clash b. elim (due_is core.due) [
      | inl rows ↦ true_from_ne_false (contains core.over m) (λ o. askable.2 (m, runs_of_sets core sets h stands m b o, ((stands.clashes c m rows).0 clash).1))
      | inr due ↦ (stands.due due.0 due.1).0 m b
    ];
  },
)

-- a waiting system offers to ask its least condition that can be asked
pub offers_ask : (core : Stand) (sets : Option (List (List ℕ))) (h : List Step) (n c : ℕ) → Stands core sets h → n < length core.schedule.systems → IsWaiting core n → IsLeastAskable core n c → Offers (recording core.schedule sets) h n (ready.Ask c)
offers_ask core sets h n c stands known waiting least =
    (free_waiting core sets h n stands known waiting, (askable_from core sets h n c stands least.0, λ j below askable. least.1 j below (can_from core sets h n j stands askable)))

-- one with an open condition of which none can be asked offers nothing
pub open_offers-nothing : (core : Stand) (sets : Option (List (List ℕ))) (h : List Step) (n : ℕ) → Stands core sets h → ((c : ℕ) → CanAsk core n c → ⊥) → HasUnasked core n → OffersNothing (recording core.schedule sets) h n
open_offers-nothing core sets h n stands none one (ready.Ask c) offers = none c (can_from core sets h n c stands offers.1.0)
open_offers-nothing core sets h n stands none one (ready.Skip m) offers = let may : MaySkip (recording core.schedule sets) h n = offers.1.1 in
    both_ways _ (stands.asks one.0 ∙ one.2) (may.asked one.0 one.1)
open_offers-nothing core sets h n stands none one (ready.Start m) offers = let may : MayStart (recording core.schedule sets) h n = offers.1.1 in
    both_ways _ (stands.asks one.0 ∙ one.2) (answered_asked h one.0 true (may.answers one.0 one.1))
open_offers-nothing core sets h n stands none one (ready.Sync k) offers = offers.1

-- one of which a condition refuses offers to be skipped
pub offers_skip : (core : Stand) (sets : Option (List (List ℕ))) (h : List Step) (n : ℕ) → Stands core sets h → n < length core.schedule.systems → IsWaiting core n → (HasUnasked core n → ⊥) → HasRefusing core n → Offers (recording core.schedule sets) h n (ready.Skip n)
offers_skip core sets h n stands known waiting none one =
    (free_waiting core sets h n stands known waiting, (refl, skip_may core sets h n stands known waiting.fresh waiting.released none one))

-- else one that meets no running system offers to start
pub offers_start : (core : Stand) (sets : Option (List (List ℕ))) (h : List Step) (n : ℕ) → Stands core sets h → n < length core.schedule.systems → IsWaiting core n → (HasUnasked core n → ⊥) → (HasRefusing core n → ⊥) → NoneMeets core n →
    Offers (recording core.schedule sets) h n (ready.Start n)
offers_start core sets h n stands known waiting none agreed clear =
    (free_waiting core sets h n stands known waiting, (refl, start_may core sets h n stands known waiting.fresh waiting.released none agreed clear))

-- and one that meets one offers nothing
pub meeting_offers-nothing : (core : Stand) (sets : Option (List (List ℕ))) (h : List Step) (n : ℕ) → Stands core sets h → (HasUnasked core n → ⊥) → (HasRefusing core n → ⊥) → (NoneMeets core n → ⊥) → OffersNothing (recording core.schedule sets) h n
meeting_offers-nothing core sets h n stands none agreed some (ready.Ask c) offers = none (unasked_from core sets h n stands (c, offers.1.0.0, offers.1.0.1))
meeting_offers-nothing core sets h n stands none agreed some (ready.Skip m) offers = let may : MaySkip (recording core.schedule sets) h n = offers.1.1 in agreed (refusing_from core sets h n stands may.refused)
meeting_offers-nothing core sets h n stands none agreed some (ready.Start m) offers = let may : MayStart (recording core.schedule sets) h n = offers.1.1 in may.apart (meeting core sets h n stands some)
meeting_offers-nothing core sets h n stands none agreed some (ready.Sync k) offers = offers.1

-- a system that has begun offers nothing
pub begun_offers-nothing : (core : Stand) (sets : Option (List (List ℕ))) (h : List Step) (n : ℕ) → Stands core sets h → contains core.begun n ≡ true → OffersNothing (recording core.schedule sets) h n
begun_offers-nothing core sets h n stands b r offers = let free : IsFree (recording core.schedule sets) h n = offers.0 in both_ways _ free.waits (stands.begins n ∙ b)

-- a system that offers nothing is passed over
pub passed_over : (s : Schedule) (h : List Step) (order : List ℕ) (place next : ℕ) (r : Option Ready) → next ≡ place + 1 → place < length order → OffersNothing s h (get_or order place 0) →
    IsReadyAmong s h (drop next order) r → IsReadyAmong s h (drop place order) r
passed_over s h order place next r same low nothing rest =
    subst (λ (xs : List ℕ). IsReadyAmong s h xs r) (sym (drop_more order place 0 low)) (inr (nothing, subst (λ (k : ℕ). IsReadyAmong s h (drop k order) r) same rest))

-- so what is ready among the systems from a place on is ready, where those before it offer nothing
pub ready_from : (core : Stand) (sets : Option (List (List ℕ))) (h : List Step) (r : Option Ready) → Stands core sets h → (place : ℕ) → place ≤ core.from →
    IsReadyAmong (recording core.schedule sets) h (drop place core.schedule.order) r → IsReady (recording core.schedule sets) h r
ready_from core sets h r stands zero low rest = rest
ready_from core sets h r stands (suc place) low rest =
    ready_from core sets h r stands place (omega arith) (elim (cases_lt place (length core.schedule.order)) [
      | inl inside ↦ passed_over (recording core.schedule sets) h core.schedule.order place (suc place) r (omega arith) inside
          (begun_offers-nothing core sets h (get_or core.schedule.order place 0) stands (stands.passed place (omega arith))) rest
      | inr past ↦ subst (λ (xs : List ℕ). IsReadyAmong (recording core.schedule sets) h xs r) (drop_all (suc place) core.schedule.order (omega arith) ∙ sym (drop_all place core.schedule.order past)) rest
    ])

-- what is ready is accepted
pub ready_may : (s : Schedule) (h : List Step) (r : Option Ready) → IsBuilt s → IsLawful s h → IsReady s h r → IfSome r (λ offer. (answer : Bool) → May s h (step_of offer answer))
ready_may s h None built lawful is = tt
ready_may s h (Some offer) built lawful is = λ answer. (ready_is_accepted s h built lawful).0 offer answer is

-- where nothing is ready only a finish may come
pub ready_nothing : (s : Schedule) (h : List Step) (r : Option Ready) → IsBuilt s → IsLawful s h → IsReady s h r → IfNone r (OnlyFinish s h)
ready_nothing s h None built lawful is = (ready_is_accepted s h built lawful).1 is
ready_nothing s h (Some offer) built lawful is = tt

-- where nothing runs and nothing is ready the history is complete
pub ready_complete : (s : Schedule) (h : List Step) (r : Option Ready) → IsBuilt s → IsLawful s h → IsReady s h r → NoneRuns h → IfNone r (IsComplete s h)
ready_complete s h None built lawful is none = lists_complete s h built lawful none is
ready_complete s h (Some offer) built lawful is none = tt

-- ---- completion

-- with every sync point done the history is complete: each system has ended before the sync point of its level
complete_from : (core : Stand) (sets : Option (List (List ℕ))) (h : List Step) → IsBuilt core.schedule → Stands core sets h → core.schedule.syncs ≤ core.done → IsComplete (recording core.schedule sets) h
complete_from core sets h built stands all = record {
  ends = λ n known.
      let level : level_of core.schedule n < core.schedule.syncs = built.levels n known in
      level_ended (recording core.schedule sets) h (level_of core.schedule n) n stands.lawful (done_below core sets h stands (level_of core.schedule n) (omega arith)) known refl;
  syncs = λ k known. done_below core sets h stands k (omega arith);
}

-- and the other way round
complete_syncs : (core : Stand) (sets : Option (List (List ℕ))) (h : List Step) → Stands core sets h → IsComplete (recording core.schedule sets) h → core.schedule.syncs ≤ core.done
complete_syncs core sets h stands complete = elim (cases_lt core.done core.schedule.syncs) [
  | inl wanting ↦ absurd (both_ways _ (next_fresh core sets h stands core.done (omega arith)) (complete.syncs core.done wanting))
  | inr all ↦ all
]

pub tells_complete : (core : Stand) (sets : Option (List (List ℕ))) (h : List Step) (told : Bool) → (told ≡ true → core.schedule.syncs ≤ core.done) → (core.schedule.syncs ≤ core.done → told ≡ true) → IsBuilt core.schedule → Stands core sets h →
    (told ≡ true) ↔ IsComplete (recording core.schedule sets) h
tells_complete core sets h told all wanting built stands = ((λ e. complete_from core sets h built stands (all e)), (λ complete. wanting (complete_syncs core sets h stands complete)))

-- a lawful history that is told not to be complete goes on
pub goes_on : (s : Schedule) (h : List Step) (told : Bool) → IsBuilt s → IsLawful s h → (told ≡ true) ↔ IsComplete s h → OnFalse told ((step : Step) × May s h step)
goes_on s h true built lawful tells = tt
goes_on s h false built lawful tells = lists_go_on s h built lawful (λ complete. false≢true (tells.1 complete))
