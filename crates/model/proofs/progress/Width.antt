-- In a list with room for so many running systems no more run, and a finish waits while there is room and something is ready.
use Rattle.std.proofs.Common.{ℕ, ◌≤◌, ◌==◌, Bool, true, false, not, cond, ◌&&◌, ◌||◌, ◌≡◌, List, [], ◌∷◌, ◌++◌, length, Some, None, refl, sym, ap, ◌∙◌, subst, inl, inr, arith}
use Rattle.std.proofs.lemmas.Bool.{eqb-true, eq-eqb, ne_eqb, both_ways, or_parts, and_parts}
use Rattle.model.specs.declared.steps.Step.{Step}
use Rattle.model.specs.declared.steps.Step.TheVariants.{Cond, Start, Skip, Finish, Sync}
use Rattle.model.specs.declared.steps.Ready.{Ready}
use Rattle.model.specs.declared.steps.Ready.TheVariants as ready
use Rattle.model.specs.Lists.{has}
use Rattle.model.specs.steps.Schedule.{Schedule}
use Rattle.model.specs.steps.Lawful.{started, finished, runs, IsFree, IsLawful}
use Rattle.model.specs.steps.Ready.{IsReadyAmong}
use Rattle.model.specs.steps.Widths.{without, running_after, IsWide}
use Rattle.model.specs.runs.Laws.{AtMostRun, FinishesWait}
use Rattle.model.proofs.order.Histories.{start_runs}
use Rattle.model.proofs.progress.Single.{wide_lawful}

-- ---- a list without a number

-- each number stands once
abbrev pub IsOnce : List ℕ → Type 0
IsOnce [] = Unit {0}
IsOnce (x ∷ xs) = (has x xs ≡ false) × IsOnce xs

-- the other numbers stay
has-without_other : (m n : ℕ) (xs : List ℕ) → (m == n) ≡ false → has n (without m xs) ≡ has n xs
has-without_other m n [] e = refl
has-without_other m n (x ∷ xs) e = go (x == m) refl (has-without_other m n xs e)
  where
    go : (b : Bool) → (x == m) ≡ b → has n (without m xs) ≡ has n xs → has n (cond b xs (x ∷ without m xs)) ≡ has n (x ∷ xs)
    go true same rest = sym (ap (λ b. b || has n xs) (ap (λ y. y == n) (eqb-true x m same) ∙ e))
    go false other rest = ap (λ b. (x == n) || b) rest

-- the number itself is gone, where it stood once
has-without_same : (m : ℕ) (xs : List ℕ) → IsOnce xs → has m (without m xs) ≡ false
has-without_same m [] once = refl
has-without_same m (x ∷ xs) once = go (x == m) refl (has-without_same m xs once.1)
  where
    go : (b : Bool) → (x == m) ≡ b → has m (without m xs) ≡ false → has m (cond b xs (x ∷ without m xs)) ≡ false
    go true same rest = subst (λ y. has y xs ≡ false) (eqb-true x m same) once.0
    go false other rest = ap (λ b. b || has m (without m xs)) other ∙ rest

-- each still stands once
once-without : (m : ℕ) (xs : List ℕ) → IsOnce xs → IsOnce (without m xs)
once-without m [] once = tt
once-without m (x ∷ xs) once = go (x == m) refl (once-without m xs once.1)
  where
    go : (b : Bool) → (x == m) ≡ b → IsOnce (without m xs) → IsOnce (cond b xs (x ∷ without m xs))
    go true same rest = once.1
    go false other rest = (has-without_other m x xs (ne_eqb m x (λ same. both_ways (x == m) other (eq-eqb x m (sym same)))) ∙ once.0, rest)

-- there are no more
length-without : (m : ℕ) (xs : List ℕ) → length (without m xs) ≤ length xs
length-without m [] = omega arith
length-without m (x ∷ xs) = go (x == m) (length-without m xs)
  where
    go : (b : Bool) → length (without m xs) ≤ length xs → length (cond b xs (x ∷ without m xs)) ≤ length (x ∷ xs)
    go true rest = omega arith
    go false rest = omega (arith, rest)

-- ---- who runs

-- nothing and a test
pub and_false : (b : Bool) → (b && false) ≡ false
and_false true = refl
and_false false = refl

-- the systems of a list are those that run in a history, each once
pub record AreRunning (h : List Step) (ns : List ℕ) : Type 0 where
  pub same : (n : ℕ) → has n ns ≡ runs h n
  pub once : IsOnce ns

-- a start adds its system
running_start : (s : Schedule) (h : List Step) (m : ℕ) (ns : List ℕ) → IsLawful s h → IsFree s h m → AreRunning h ns → AreRunning (Start m ∷ h) (m ∷ ns)
running_start s h m ns lawful free before = record {
  same = λ n. go n (m == n) refl;
  once = (before.same m ∙ ap (λ b. b && not (finished h m)) (or_parts _ _ free.waits).0, before.once);
}
  where
    go : (n : ℕ) (b : Bool) → (m == n) ≡ b → (b || has n ns) ≡ ((b || started h n) && not (finished h n))
    go n true same = sym (subst (λ k. not (finished h k) ≡ true) (eqb-true m n same) (and_parts _ _ (start_runs s h m lawful free)).1)
    go n false other = before.same n

-- a finish takes its system away
running_finish : (h : List Step) (m : ℕ) (ns : List ℕ) → AreRunning h ns → AreRunning (Finish m ∷ h) (without m ns)
running_finish h m ns before = record { same = λ n. go n (m == n) refl; once = once-without m ns before.once }
  where
    go : (n : ℕ) (b : Bool) → (m == n) ≡ b → has n (without m ns) ≡ (started h n && not (b || finished h n))
    go n true same = subst (λ k. has k (without m ns) ≡ false) (eqb-true m n same) (has-without_same m ns before.once) ∙ sym (and_false (started h n))
    go n false other = has-without_other m n ns other ∙ before.same n

-- the systems that run after a lawful list are those that were started and not finished, each once
pub running_is : (s : Schedule) (h : List Step) → IsLawful s h → AreRunning h (running_after h)
running_is s [] lawful = record { same = λ n. refl; once = tt }
running_is s (Start m ∷ h) lawful = running_start s h m (running_after h) lawful.1 lawful.0.free (running_is s h lawful.1)
running_is s (Finish m ∷ h) lawful = running_finish h m (running_after h) (running_is s h lawful.1)
running_is s (Skip m ∷ h) lawful = record { same = (running_is s h lawful.1).same; once = (running_is s h lawful.1).once }
running_is s (Cond c answer ∷ h) lawful = record { same = (running_is s h lawful.1).same; once = (running_is s h lawful.1).once }
running_is s (Sync k ∷ h) lawful = record { same = (running_is s h lawful.1).same; once = (running_is s h lawful.1).once }

-- ---- lists with room for so many

-- a front of such a list is one
wide_before : (width : ℕ) (s : Schedule) (later h : List Step) → IsWide width s (later ++ h) → IsWide width s h
wide_before width s [] h wide = wide
wide_before width s (step ∷ later) h wide = wide_before width s later h wide.2

-- no more run than there is room for
fewer_run : (width : ℕ) (s : Schedule) (h : List Step) → IsWide width s h → length (running_after h) ≤ width
fewer_run width s [] wide = omega arith
fewer_run width s (Start n ∷ h) wide = omega (arith, wide.1.0)
fewer_run width s (Finish n ∷ h) wide = omega (arith, length-without n (running_after h), fewer_run width s h wide.2)
fewer_run width s (Skip n ∷ h) wide = fewer_run width s h wide.2
fewer_run width s (Cond c answer ∷ h) wide = fewer_run width s h wide.2
fewer_run width s (Sync k ∷ h) wide = fewer_run width s h wide.2

pub at_most_run : AtMostRun
at_most_run width s later front wide =
    let before = wide_before width s later front wide in
    (fewer_run width s front before, (running_is s front (wide_lawful width s front before)).same)

-- nothing and something are not ready at once
nothing_ready : (s : Schedule) (h : List Step) (ns : List ℕ) (r : Ready) → IsReadyAmong s h ns None → IsReadyAmong s h ns (Some r) → ⊥
nothing_ready s h [] (ready.Sync k) none some = none k some
nothing_ready s h [] (ready.Ask c) none some = some
nothing_ready s h [] (ready.Skip n) none some = some
nothing_ready s h [] (ready.Start n) none some = some
nothing_ready s h (n ∷ ns) r (inl p) some = let bad : None ≡ Some p.0 = p.1 in cc
nothing_ready s h (n ∷ ns) r (inr p) (inl q) = p.0 q.0 q.2
nothing_ready s h (n ∷ ns) r (inr p) (inr q) = nothing_ready s h ns r p.1 q.1

pub finishes_wait : FinishesWait
finishes_wait width s later front n r wide few is = elim (wide_before width s later (Finish n ∷ front) wide).1 [
  | inl full ↦ omega (arith, full, few)
  | inr none ↦ nothing_ready s front s.order r none is
]
