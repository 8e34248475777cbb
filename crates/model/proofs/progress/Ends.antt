-- A lawful list is no longer than its conditions, twice its systems and its sync points: each step sets one more flag.
use Rattle.std.proofs.Common.{ℕ, zero, suc, ◌+◌, ◌*◌, ◌<◌, ◌≤◌, Bool, true, false, ◌≡◌, cond, inl, inr, List, [], ◌∷◌, length, refl, sym, subst, eq-eqb, arith, le_trans, true≢false}
use Rattle.std.proofs.lemmas.Bool.{or_left, or_right, cases_order}
use Rattle.model.specs.declared.steps.Step.{Step}
use Rattle.model.specs.declared.steps.Step.TheVariants.{Cond, Start, Skip, Finish, Sync}
use Rattle.model.specs.Counts.{count_below}
use Rattle.model.specs.steps.Schedule.{Schedule}
use Rattle.model.specs.steps.Lawful.{was_asked, begun, started, finished, synced, IsLawful}
use Rattle.model.specs.runs.Laws.{ListsEnd}
use Rattle.model.proofs.order.Histories.{runs_parts, runs_known, begun_later, synced_later}

-- ---- counting

-- no more pass than there are
pub count_at_most : (f : ℕ → Bool) (n : ℕ) → count_below f n ≤ n
count_at_most f zero = omega arith
count_at_most f (suc n) = go (f n) (count_at_most f n)
  where
    go : (b : Bool) → count_below f n ≤ n → cond b (suc (count_below f n)) (count_below f n) ≤ suc n
    go true l = omega arith
    go false l = omega arith

-- what passes one test passes the other
abbrev pub IsKept : (ℕ → Bool) → (ℕ → Bool) → Type 0
IsKept f g = (n : ℕ) → f n ≡ true → g n ≡ true

-- of a weaker test no fewer pass
pub count_kept : (f g : ℕ → Bool) → IsKept f g → (n : ℕ) → count_below f n ≤ count_below g n
count_kept f g kept zero = omega arith
count_kept f g kept (suc n) = go (f n) (g n) (kept n) (count_kept f g kept n)
  where
    go : (b c : Bool) → (b ≡ true → c ≡ true) → count_below f n ≤ count_below g n →
        cond b (suc (count_below f n)) (count_below f n) ≤ cond c (suc (count_below g n)) (count_below g n)
    go true true k l = omega arith
    go true false k l = absurd (true≢false (sym (k refl)))
    go false true k l = omega arith
    go false false k l = l

-- of a weaker test that one more number passes, more pass
pub count_more : (f g : ℕ → Bool) → IsKept f g → (m : ℕ) → f m ≡ false → g m ≡ true → (n : ℕ) → m < n → count_below f n < count_below g n
count_more f g kept m fresh set zero l = omega arith
count_more f g kept m fresh set (suc n) l = elim (cases_order m n) [
  | inl q ↦ here (f n) (g n) (subst (λ k. f k ≡ false) q fresh) (subst (λ k. g k ≡ true) q set) (count_kept f g kept n)
  | inr other ↦ elim other [
    | inl below ↦ there (f n) (g n) (kept n) (count_more f g kept m fresh set n below)
    | inr above ↦ omega arith
  ]
]
  where
    here : (b c : Bool) → b ≡ false → c ≡ true → count_below f n ≤ count_below g n →
        cond b (suc (count_below f n)) (count_below f n) < cond c (suc (count_below g n)) (count_below g n)
    here true c p q k = absurd (true≢false p)
    here false true p q k = omega arith
    here false false p q k = absurd (true≢false (sym q))

    there : (b c : Bool) → (b ≡ true → c ≡ true) → count_below f n < count_below g n →
        cond b (suc (count_below f n)) (count_below f n) < cond c (suc (count_below g n)) (count_below g n)
    there true true k l = omega arith
    there true false k l = absurd (true≢false (sym (k refl)))
    there false true k l = omega arith
    there false false k l = l

-- ---- the flags of a history

-- how many conditions were asked, systems begun, systems finished and sync points done
abbrev pub flags : Schedule → List Step → ℕ
flags s h = count_below (was_asked h) (length s.conditions) + count_below (begun h) (length s.systems)
    + count_below (finished h) (length s.systems) + count_below (synced h) s.syncs

-- what was asked stays asked
pub asked_kept : (step : Step) (h : List Step) → IsKept (was_asked h) (was_asked (step ∷ h))
asked_kept step h n e = or_right _ _ e

-- what has begun stays begun
pub begun_kept : (step : Step) (h : List Step) → IsKept (begun h) (begun (step ∷ h))
begun_kept step h n e = begun_later step h n e

-- what was finished stays finished
pub finished_kept : (step : Step) (h : List Step) → IsKept (finished h) (finished (step ∷ h))
finished_kept step h n e = or_right _ _ e

-- what was synced stays synced
pub synced_kept : (step : Step) (h : List Step) → IsKept (synced h) (synced (step ∷ h))
synced_kept step h n e = synced_later step h n e

-- a sum of four where the first grows
pub first_grows : (l a b c d a' b' c' d' : ℕ) → l ≤ a + b + c + d → a < a' → b ≤ b' → c ≤ c' → d ≤ d' → suc l ≤ a' + b' + c' + d'
first_grows l a b c d a' b' c' d' h p q r t = omega arith

-- where the second grows
pub second_grows : (l a b c d a' b' c' d' : ℕ) → l ≤ a + b + c + d → a ≤ a' → b < b' → c ≤ c' → d ≤ d' → suc l ≤ a' + b' + c' + d'
second_grows l a b c d a' b' c' d' h p q r t = omega arith

-- where the third grows
pub third_grows : (l a b c d a' b' c' d' : ℕ) → l ≤ a + b + c + d → a ≤ a' → b ≤ b' → c < c' → d ≤ d' → suc l ≤ a' + b' + c' + d'
third_grows l a b c d a' b' c' d' h p q r t = omega arith

-- where the fourth grows
pub fourth_grows : (l a b c d a' b' c' d' : ℕ) → l ≤ a + b + c + d → a ≤ a' → b ≤ b' → c ≤ c' → d < d' → suc l ≤ a' + b' + c' + d'
fourth_grows l a b c d a' b' c' d' h p q r t = omega arith

-- a lawful list has a flag for each step
pub length_flags : (s : Schedule) (h : List Step) → IsLawful s h → length h ≤ flags s h
length_flags s [] lawful = omega arith
length_flags s (Cond c a ∷ h) lawful = let step : Step = Cond c a in first_grows _ _ _ _ _ _ _ _ _ (length_flags s h lawful.1)
    (count_more (was_asked h) (was_asked (step ∷ h)) (asked_kept step h) c lawful.0.fresh (or_left _ _ (eq-eqb c c refl)) _ lawful.0.known)
    (count_kept (begun h) (begun (step ∷ h)) (begun_kept step h) _)
    (count_kept (finished h) (finished (step ∷ h)) (finished_kept step h) _)
    (count_kept (synced h) (synced (step ∷ h)) (synced_kept step h) _)
length_flags s (Start n ∷ h) lawful = let step : Step = Start n in second_grows _ _ _ _ _ _ _ _ _ (length_flags s h lawful.1)
    (count_kept (was_asked h) (was_asked (step ∷ h)) (asked_kept step h) _)
    (count_more (begun h) (begun (step ∷ h)) (begun_kept step h) n lawful.0.free.waits (or_left _ _ (or_left _ _ (eq-eqb n n refl))) _ lawful.0.free.known)
    (count_kept (finished h) (finished (step ∷ h)) (finished_kept step h) _)
    (count_kept (synced h) (synced (step ∷ h)) (synced_kept step h) _)
length_flags s (Skip n ∷ h) lawful = let step : Step = Skip n in second_grows _ _ _ _ _ _ _ _ _ (length_flags s h lawful.1)
    (count_kept (was_asked h) (was_asked (step ∷ h)) (asked_kept step h) _)
    (count_more (begun h) (begun (step ∷ h)) (begun_kept step h) n lawful.0.free.waits (or_right (started h n) _ (or_left _ _ (eq-eqb n n refl))) _ lawful.0.free.known)
    (count_kept (finished h) (finished (step ∷ h)) (finished_kept step h) _)
    (count_kept (synced h) (synced (step ∷ h)) (synced_kept step h) _)
length_flags s (Finish n ∷ h) lawful = let step : Step = Finish n in third_grows _ _ _ _ _ _ _ _ _ (length_flags s h lawful.1)
    (count_kept (was_asked h) (was_asked (step ∷ h)) (asked_kept step h) _)
    (count_kept (begun h) (begun (step ∷ h)) (begun_kept step h) _)
    (count_more (finished h) (finished (step ∷ h)) (finished_kept step h) n (runs_parts h n lawful.0.running).1 (or_left _ _ (eq-eqb n n refl)) _ (runs_known s h n lawful.1 lawful.0.running))
    (count_kept (synced h) (synced (step ∷ h)) (synced_kept step h) _)
length_flags s (Sync k ∷ h) lawful = let step : Step = Sync k in fourth_grows _ _ _ _ _ _ _ _ _ (length_flags s h lawful.1)
    (count_kept (was_asked h) (was_asked (step ∷ h)) (asked_kept step h) _)
    (count_kept (begun h) (begun (step ∷ h)) (begun_kept step h) _)
    (count_kept (finished h) (finished (step ∷ h)) (finished_kept step h) _)
    (count_more (synced h) (synced (step ∷ h)) (synced_kept step h) k lawful.0.fresh (or_left _ _ (eq-eqb k k refl)) _ lawful.0.known)

-- the flags are no more than conditions, twice the systems, sync points
pub flags_at_most : (s : Schedule) (h : List Step) → flags s h ≤ length s.conditions + 2 * length s.systems + s.syncs
flags_at_most s h = omega (
  arith,
  count_at_most (was_asked h) (length s.conditions),
  count_at_most (begun h) (length s.systems),
  count_at_most (finished h) (length s.systems),
  count_at_most (synced h) s.syncs,
)

-- a lawful list is no longer than its conditions, twice its systems and its sync points
pub lists_end : ListsEnd
lists_end s h lawful = le_trans (length_flags s h lawful) (flags_at_most s h)
