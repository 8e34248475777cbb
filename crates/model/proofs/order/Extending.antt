-- What lawful lists say of other records of kind sets: only those recorded last matter to a step, so one more list at the end changes nothing
-- before it.
use Rattle.std.proofs.Common.{ℕ, zero, suc, ◌<◌, ◌≡◌, List, [], ◌∷◌, ◌++◌, length, get_or, Option, Some, refl, sym, ap, subst, arith}
use Rattle.model.specs.declared.steps.Step.{Step}
use Rattle.model.specs.declared.steps.Step.TheVariants.{Cond, Start, Skip, Finish, Sync}
use Rattle.model.specs.access.Access.{Params}
use Rattle.model.specs.access.Meeting.{Meet}
use Rattle.model.specs.steps.Schedule.{Schedule, recording, params_of, access_of}
use Rattle.model.specs.steps.Lawful.{syncs_in, sets_at, IsFree, MeetsRunning, May, IsLawful}

-- a free system
pub free-recording : (s : Schedule) (sets : Option (List (List ℕ))) (h : List Step) (n : ℕ) → IsFree s h n → IsFree (recording s sets) h n
free-recording s sets h n free = record { known = free.known; waits = free.waits; after = free.after; over = free.over }

-- a running system that an access meets
pub meets-recording : (s : Schedule) (sets : Option (List (List ℕ))) (h : List Step) (access : Params) → sets_at s h ≡ sets_at (recording s sets) h →
    MeetsRunning (recording s sets) h access → MeetsRunning s h access
meets-recording s sets h access e meets = (meets.0, meets.1, subst (λ there. Meet there (params_of s meets.0) access) (sym e) meets.2)

-- a step that may come
pub may-recording : (s : Schedule) (sets : Option (List (List ℕ))) (h : List Step) (step : Step) → sets_at s h ≡ sets_at (recording s sets) h →
    May s h step → May (recording s sets) h step
may-recording s sets h (Cond c answer) e may = record {
  known = may.known;
  fresh = may.fresh;
  member = ((may.member).0, (may.member).1, free-recording s sets h (may.member).0 (may.member).2);
  apart = λ meets. may.apart (meets-recording s sets h (access_of s c) e meets);
}
may-recording s sets h (Start n) e may = record {
  free = free-recording s sets h n may.free;
  answers = may.answers;
  apart = λ meets. may.apart (meets-recording s sets h (params_of s n) e meets);
}
may-recording s sets h (Skip n) e may = record { free = free-recording s sets h n may.free; asked = may.asked; refused = may.refused }
may-recording s sets h (Finish n) e may = record { running = may.running }
may-recording s sets h (Sync k) e may = record { known = may.known; fresh = may.fresh; lower = may.lower; level = may.level }

-- ---- one more list

-- an element of a list with one more
pub get_or-more : {A : Type 0} (xs : List A) (x d : A) (i : ℕ) → i < length xs → get_or (xs ++ x ∷ []) i d ≡ get_or xs i d
get_or-more [] x d i below = absurd (omega arith)
get_or-more (y ∷ ys) x d zero below = refl
get_or-more (y ∷ ys) x d (suc i) below = get_or-more ys x d i (omega arith)

-- what was recorded last, before the end of the lists
pub sets-extended : (s : Schedule) (lists : List (List ℕ)) (more : List ℕ) (h : List Step) → syncs_in h < length lists →
    sets_at (recording s (Some lists)) h ≡ sets_at (recording s (Some (lists ++ more ∷ []))) h
sets-extended s lists more h below = ap Some (sym (get_or-more lists more [] (syncs_in h) below))

-- a step that may come, with one more list at the end
pub may_extended : (s : Schedule) (lists : List (List ℕ)) (more : List ℕ) (h : List Step) (step : Step) → syncs_in h < length lists →
    May (recording s (Some lists)) h step → May (recording s (Some (lists ++ more ∷ []))) h step
may_extended s lists more h step below may =
    may-recording (recording s (Some lists)) (Some (lists ++ more ∷ [])) h step (sets-extended s lists more h below) may

-- a shorter history has no more sync points
pub syncs-before : (step : Step) (h : List Step) (n : ℕ) → syncs_in (step ∷ h) < n → syncs_in h < n
syncs-before (Cond c answer) h n below = below
syncs-before (Start m) h n below = below
syncs-before (Skip m) h n below = below
syncs-before (Finish m) h n below = below
syncs-before (Sync k) h n below = omega arith

-- a lawful history, with one more list at the end
pub lawful_extended : (s : Schedule) (lists : List (List ℕ)) (more : List ℕ) (h : List Step) → syncs_in h < length lists →
    IsLawful (recording s (Some lists)) h → IsLawful (recording s (Some (lists ++ more ∷ []))) h
lawful_extended s lists more [] below lawful = tt
lawful_extended s lists more (step ∷ h) below lawful =
    let shorter = syncs-before step h (length lists) below in
    (may_extended s lists more h step shorter lawful.0, lawful_extended s lists more h shorter lawful.1)
