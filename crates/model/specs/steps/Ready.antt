-- What `ready` is to give: of the free systems in schedule order the first for which something is accepted, else the sync
-- point that is accepted.
use Rattle.std.specs.Prelude.{ℕ, ◌<◌, Bool, true, false, ◌≡◌, ◌⊎◌, List, [], ◌∷◌, Option, Some, None}
use Rattle.model.specs.declared.steps.Step.{Step}
use Rattle.model.specs.declared.steps.Step.TheVariants.{Cond, Start, Skip, Sync}
use Rattle.model.specs.declared.steps.Ready.{Ready}
use Rattle.model.specs.declared.steps.Ready.TheVariants as ready
use Rattle.model.specs.steps.Schedule.{Schedule, access_of, covers}
use Rattle.model.specs.steps.Lawful.{IsFree, MayStart, MaySkip, MaySync, May, MeetsRunning, was_asked}

-- a condition of the system can be asked: it wasn't, and no running system meets its access
abbrev pub IsAskable : Schedule → List Step → ℕ → ℕ → Type 0
IsAskable s h n c = (covers s c n ≡ true) × (was_asked h c ≡ false) × (MeetsRunning s h (access_of s c) → ⊥)

-- what a free system offers: to ask its least condition that can be asked, or with all answered to skip or to start it
abbrev pub IsOffer : Schedule → List Step → ℕ → Ready → Type 0
IsOffer s h n (ready.Ask c) = IsAskable s h n c × ((j : ℕ) → j < c → IsAskable s h n j → ⊥)
IsOffer s h n (ready.Skip m) = (m ≡ n) × MaySkip s h n
IsOffer s h n (ready.Start m) = (m ≡ n) × MayStart s h n
IsOffer s h n (ready.Sync k) = ⊥

-- a system that is free offers this
abbrev pub Offers : Schedule → List Step → ℕ → Ready → Type 0
Offers s h n r = IsFree s h n × IsOffer s h n r

-- a system offers nothing
abbrev pub OffersNothing : Schedule → List Step → ℕ → Type 0
OffersNothing s h n = (r : Ready) → Offers s h n r → ⊥

-- where no system offers anything: the sync point that is accepted, and nothing where none is
abbrev pub IsReadySync : Schedule → List Step → Option Ready → Type 0
IsReadySync s h None = (k : ℕ) → MaySync s h k → ⊥
IsReadySync s h (Some (ready.Sync k)) = MaySync s h k
IsReadySync s h (Some (ready.Ask c)) = ⊥
IsReadySync s h (Some (ready.Skip n)) = ⊥
IsReadySync s h (Some (ready.Start n)) = ⊥

-- what is ready among these systems, in order
abbrev pub IsReadyAmong : Schedule → List Step → List ℕ → Option Ready → Type 0
IsReadyAmong s h [] r = IsReadySync s h r
IsReadyAmong s h (n ∷ ns) r = ((x : Ready) × (r ≡ Some x) × Offers s h n x) ⊎ (OffersNothing s h n × IsReadyAmong s h ns r)

-- what `ready` is to give
abbrev pub IsReady : Schedule → List Step → Option Ready → Type 0
IsReady s h r = IsReadyAmong s h s.order r

-- the step of what is ready, with the answer where it asks
abbrev pub step_of : Ready → Bool → Step
step_of (ready.Ask c) answer = Cond c answer
step_of (ready.Skip n) answer = Skip n
step_of (ready.Start n) answer = Start n
step_of (ready.Sync k) answer = Sync k

-- no condition, start, skip or sync point is accepted
abbrev pub OnlyFinish : Schedule → List Step → Type 0
OnlyFinish s h = (r : Ready) (answer : Bool) → May s h (step_of r answer) → ⊥
