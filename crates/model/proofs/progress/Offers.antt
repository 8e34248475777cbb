-- What is ready is accepted; where nothing is ready no step but a finish is, and where nothing runs the list is complete.
use Rattle.std.proofs.Common.{ℕ, zero, suc, ◌<◌, Bool, true, false, ◌≡◌, inl, inr, List, [], ◌∷◌, Some, None, refl, sym, subst, arith}
use Rattle.std.proofs.lemmas.Bool.{both_ways}
use Rattle.model.specs.declared.steps.Step.{Step}
use Rattle.model.specs.declared.steps.Step.TheVariants.{Cond, Start, Skip, Finish, Sync}
use Rattle.model.specs.declared.steps.Ready.{Ready}
use Rattle.model.specs.declared.steps.Ready.TheVariants as ready
use Rattle.model.specs.Lists.{has}
use Rattle.model.specs.steps.Schedule.{Schedule}
use Rattle.model.specs.steps.Built.{IsBuilt}
use Rattle.model.specs.steps.Lawful.{IsFree, MayStart, MaySkip, MaySync, May, NoneRuns}
use Rattle.model.specs.steps.Ready.{IsAskable, Offers, OffersNothing, IsReadySync, IsReadyAmong, IsReady, step_of, OnlyFinish}
use Rattle.model.specs.runs.Laws.{ListsComplete, ReadyIsAccepted}
use Rattle.model.proofs.progress.Progress.{GoesOn, continues, covered_known}
use Rattle.model.proofs.order.Histories.{same_or}

-- ---- what is ready

-- an offer of a free system is accepted
pub offer_accepted : (s : Schedule) (h : List Step) (n : ℕ) (x : Ready) → Offers s h n x → (answer : Bool) → May s h (step_of x answer)
offer_accepted s h n (ready.Ask c) offer answer = let askable : IsAskable s h n c = offer.1.0 in record {
  known = covered_known s c n askable.0;
  fresh = askable.1;
  member = (n, askable.0, offer.0);
  apart = askable.2;
}
offer_accepted s h n (ready.Skip m) offer answer = subst (λ k. MaySkip s h k) (sym offer.1.0) offer.1.1
offer_accepted s h n (ready.Start m) offer answer = subst (λ k. MayStart s h k) (sym offer.1.0) offer.1.1
offer_accepted s h n (ready.Sync k) offer answer = absurd offer.1

-- the sync point that is ready is accepted
pub sync_accepted : (s : Schedule) (h : List Step) (x : Ready) → IsReadySync s h (Some x) → (answer : Bool) → May s h (step_of x answer)
sync_accepted s h (ready.Ask c) is answer = absurd is
sync_accepted s h (ready.Skip n) is answer = absurd is
sync_accepted s h (ready.Start n) is answer = absurd is
sync_accepted s h (ready.Sync k) is answer = is

-- what is ready among some systems is accepted
pub ready_among_accepted : (s : Schedule) (h : List Step) (ns : List ℕ) (r : Ready) → IsReadyAmong s h ns (Some r) → (answer : Bool) → May s h (step_of r answer)
ready_among_accepted s h [] r is answer = sync_accepted s h r is answer
ready_among_accepted s h (n ∷ ns) r (inl x) answer = let same : r ≡ x.0 = cc (x.1) in
    subst (λ (y : Ready). May s h (step_of y answer)) (sym same) (offer_accepted s h n x.0 x.2 answer)
ready_among_accepted s h (n ∷ ns) r (inr rest) answer = ready_among_accepted s h ns r rest.1 answer

-- ---- where nothing is ready

-- nothing is not something
pub none_not-some : (x : Ready) → None ≡ Some x → ⊥
none_not-some x e = cc e

-- where nothing is ready among some systems each of them offers nothing
pub none_offers : (s : Schedule) (h : List Step) (ns : List ℕ) → IsReadyAmong s h ns None → (n : ℕ) → has n ns ≡ true → OffersNothing s h n
none_offers s h [] is n e = absurd (both_ways false refl e)
none_offers s h (m ∷ ns) (inl x) n e = absurd (none_not-some x.0 x.1)
none_offers s h (m ∷ ns) (inr rest) n e = elim (same_or m n (has n ns) e) [
  | inl q ↦ subst (λ k. OffersNothing s h k) q rest.0
  | inr r ↦ none_offers s h ns rest.1 n r
]

-- and no sync point is accepted
pub no_sync : (s : Schedule) (h : List Step) (ns : List ℕ) → IsReadyAmong s h ns None → (k : ℕ) → MaySync s h k → ⊥
no_sync s h [] is k may = is k may
no_sync s h (m ∷ ns) (inl x) k may = absurd (none_not-some x.0 x.1)
no_sync s h (m ∷ ns) (inr rest) k may = no_sync s h ns rest.1 k may

-- a free system that offers nothing has no condition to ask below a bound
pub none_askable_below : (s : Schedule) (h : List Step) (n : ℕ) → IsFree s h n → OffersNothing s h n → (bound c : ℕ) → c < bound → IsAskable s h n c → ⊥
none_askable_below s h n free nothing zero c l askable = omega arith
none_askable_below s h n free nothing (suc bound) c l askable =
    nothing (ready.Ask c) (free, (askable, (λ j below. none_askable_below s h n free nothing bound j (omega arith))))

-- nor any
pub none_askable : (s : Schedule) (h : List Step) (n c : ℕ) → IsFree s h n → OffersNothing s h n → IsAskable s h n c → ⊥
none_askable s h n c free nothing askable = none_askable_below s h n free nothing (suc c) c (omega arith) askable

-- where nothing is ready no step but a finish is accepted
pub only_finish : (s : Schedule) (h : List Step) → IsBuilt s → IsReady s h None → OnlyFinish s h
only_finish s h built nothing (ready.Ask c) answer may = let member = may.member in
    none_askable s h member.0 c member.2 (none_offers s h s.order nothing member.0 (built.listed member.0 member.2.known)) (member.1, may.fresh, may.apart)
only_finish s h built nothing (ready.Skip n) answer may =
    none_offers s h s.order nothing n (built.listed n may.free.known) (ready.Skip n) (may.free, (refl, may))
only_finish s h built nothing (ready.Start n) answer may =
    none_offers s h s.order nothing n (built.listed n may.free.known) (ready.Start n) (may.free, (refl, may))
only_finish s h built nothing (ready.Sync k) answer may = no_sync s h s.order nothing k may

-- what is ready is accepted, and where nothing is ready no step but a finish is
pub ready_is_accepted : ReadyIsAccepted
ready_is_accepted s h built lawful = ((λ r answer is. ready_among_accepted s h s.order r is answer), only_finish s h built)

-- where nothing runs and only a finish may come there is no next step
pub no_next : (s : Schedule) (h : List Step) → NoneRuns h → OnlyFinish s h → GoesOn s h → ⊥
no_next s h none only next = go next.0 next.1
  where
    go : (step : Step) → May s h step → ⊥
    go (Cond c answer) may = only (ready.Ask c) answer may
    go (Start n) may = only (ready.Start n) true may
    go (Skip n) may = only (ready.Skip n) true may
    go (Finish n) may = both_ways _ (none n) may.running
    go (Sync k) may = only (ready.Sync k) true may

-- where nothing runs and nothing is ready the list is complete
pub lists_complete : ListsComplete
lists_complete s h built lawful none nothing = elim (continues s h built lawful) [
  | inl complete ↦ complete
  | inr next ↦ absurd (no_next s h none (only_finish s h built nothing) next)
]
