-- Each front of the single-threaded list is a list in which at most one system runs.
use Rattle.std.proofs.Common.{ℕ, ◌<◌, ◌==◌, Bool, true, ◌≡◌, inl, List, [], ◌∷◌, length, Option, Some, None, refl, sym, ap, ◌∙◌, subst, eq-eqb, arith}
use Rattle.std.proofs.lemmas.Bool.{cond-true}
use Rattle.model.specs.declared.steps.Step.{Step}
use Rattle.model.specs.declared.steps.Step.TheVariants.{Cond, Start, Skip, Finish, Sync}
use Rattle.model.specs.declared.steps.Ready.{Ready}
use Rattle.model.specs.declared.steps.Ready.TheVariants as ready
use Rattle.model.specs.steps.Schedule.{Schedule}
use Rattle.model.specs.steps.Lawful.{runs, May, IsLawful}
use Rattle.model.specs.steps.Ready.{IsReady, step_of}
use Rattle.model.specs.steps.Widths.{just_started, IsNextSingle, IsSingle, without, running_after, IsNextWide, IsWide}
use Rattle.model.specs.runs.Laws.{SingleIsWide}
use Rattle.model.proofs.order.Histories.{start_runs}
use Rattle.model.proofs.progress.Offers.{ready_among_accepted}

-- a list in which at most so many run is lawful
pub wide_lawful : (width : ℕ) (s : Schedule) (h : List Step) → IsWide width s h → IsLawful s h
wide_lawful width s [] wide = tt
wide_lawful width s (step ∷ h) wide = (wide.0, wide_lawful width s h wide.2)

-- the list of the one number that an option names
abbrev pub alone : Option ℕ → List ℕ
alone None = []
alone (Some n) = n ∷ []

-- what was just started is what runs, after the step of what is ready
pub chosen_alone : (h : List Step) (r : Ready) (answer : Bool) → running_after h ≡ [] →
    running_after (step_of r answer ∷ h) ≡ alone (just_started (step_of r answer ∷ h))
chosen_alone h (ready.Ask c) answer e = e
chosen_alone h (ready.Skip n) answer e = e
chosen_alone h (ready.Start n) answer e = ap (λ ns. n ∷ ns) e
chosen_alone h (ready.Sync k) answer e = e

-- a list of one number without it is empty
pub without-alone : (n : ℕ) (ns : List ℕ) → ns ≡ n ∷ [] → without n ns ≡ []
without-alone n ns e = ap (without n) e ∙ cond-true (n == n) [] (n ∷ []) (eq-eqb n n refl)

-- on one thread what was just started is what runs
pub running_alone : (s : Schedule) (h : List Step) → IsSingle s h → running_after h ≡ alone (just_started h)
running_alone s [] single = refl
running_alone s (step ∷ h) single = go (just_started h) single.0 (running_alone s h single.1)
  where
    go : (o : Option ℕ) → IsNextSingle s h step o → running_after h ≡ alone o → running_after (step ∷ h) ≡ alone (just_started (step ∷ h))
    go None next e = subst (λ (x : Step). running_after (x ∷ h) ≡ alone (just_started (x ∷ h))) (sym next.3) (chosen_alone h next.0 next.1 e)
    go (Some n) next e = subst (λ (x : Step). running_after (x ∷ h) ≡ alone (just_started (x ∷ h))) (sym next) (without-alone n (running_after h) e)

-- what was just started runs
pub just_runs : (s : Schedule) (h : List Step) (n : ℕ) → IsLawful s h → just_started h ≡ Some n → runs h n ≡ true
just_runs s [] n lawful e = cc e
just_runs s (Start m ∷ h) n lawful e = let same : m ≡ n = cc e in
    subst (λ k. runs (Start m ∷ h) k ≡ true) same (start_runs s h m lawful.1 lawful.0.free)
just_runs s (Skip m ∷ h) n lawful e = cc e
just_runs s (Finish m ∷ h) n lawful e = cc e
just_runs s (Cond c a ∷ h) n lawful e = cc e
just_runs s (Sync k ∷ h) n lawful e = cc e

-- what is ready is a next step where fewer run than may
pub chosen_wide : (width : ℕ) (s : Schedule) (h : List Step) (r : Ready) (answer : Bool) → length (running_after h) < width →
    IsReady s h (Some r) → IsNextWide width s h (step_of r answer)
chosen_wide width s h (ready.Ask c) answer l is = (l, (ready.Ask c, answer, is, refl))
chosen_wide width s h (ready.Skip n) answer l is = (l, (ready.Skip n, answer, is, refl))
chosen_wide width s h (ready.Start n) answer l is = (l, (ready.Start n, answer, is, refl))
chosen_wide width s h (ready.Sync k) answer l is = (l, (ready.Sync k, answer, is, refl))

-- the next step of one thread is allowed, and is one with room for one
pub next_wide : (s : Schedule) (h : List Step) (step : Step) (o : Option ℕ) → IsLawful s h → running_after h ≡ alone o → just_started h ≡ o →
    IsNextSingle s h step o → May s h step × IsNextWide 1 s h step
next_wide s h step None lawful e j next = subst (λ (x : Step). May s h x × IsNextWide 1 s h x) (sym next.3)
    (ready_among_accepted s h s.order next.0 next.2 next.1, chosen_wide 1 s h next.0 next.1 (subst (λ (ns : List ℕ). length ns < 1) (sym e) (omega arith)) next.2)
next_wide s h step (Some n) lawful e j next = subst (λ (x : Step). May s h x × IsNextWide 1 s h x) (sym next)
    (record { running = just_runs s h n lawful j }, inl (ap length e))

-- each front of the single-threaded list is a list in which at most one system runs
pub single_is_wide : SingleIsWide
single_is_wide s [] single = tt
single_is_wide s (step ∷ h) single = let wide : IsWide 1 s h = single_is_wide s h single.1 in
    let next = next_wide s h step (just_started h) (wide_lawful 1 s h wide) (running_alone s h single.1) refl single.0 in
    (next.0, next.1, wide)
