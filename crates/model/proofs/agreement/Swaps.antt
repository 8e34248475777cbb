-- Two steps that are both allowed by the marks of a settled schedule are one step, or either is allowed after the other
-- and they touch nothing in common.
use Rattle.std.proofs.Common.{ℕ, ◌<◌, Bool, true, false, ◌≡◌, ◌≢◌, ◌⊎◌, inl, inr, List, length, None, refl, sym, ap, subst}
use Rattle.std.proofs.lemmas.Bool.{or_right, or_from, both_ways, cases_eq, cases_order, ne_eqb}
use Rattle.model.specs.declared.steps.Step.{Step}
use Rattle.model.specs.declared.steps.Step.TheVariants.{Cond, Start, Skip, Finish, Sync}
use Rattle.model.specs.Lists.{IsIn}
use Rattle.model.specs.access.Query.{Term, writes}
use Rattle.model.specs.access.Conflict.Datum.{OfKind, OfResource, OfEvent}
use Rattle.model.specs.steps.Schedule.{Schedule, params_of, access_of, level_of, covers}
use Rattle.model.specs.steps.Lawful.{is_cond}
use Rattle.model.specs.steps.Ambiguity.{Settled, Reaches, Before}
use Rattle.model.specs.steps.Ambiguity.Reaches.{Edge, Onward}
use Rattle.model.specs.steps.Ambiguity.Before.{ByPath, ByLevel}
use Rattle.model.specs.state.Agreement.{Observer, access_of_observer}
use Rattle.model.specs.state.Agreement.Observer.{OfSystem, OfCondition}
use Rattle.model.proofs.serial.Conflicts.{ApartBy, conflict_from_meet, apart_swap}
use Rattle.model.proofs.agreement.Marks.{Marks, mark, begins, IsOpen, CanStart, CanSkip, CanAsk, CanSync, Can, IsOrderly}

-- every condition only reads
abbrev pub ConditionsRead : Schedule → Type 0
ConditionsRead s = (c : ℕ) (query : List Term) → IsIn query (access_of s c).queries → (kind : ℕ) → writes query kind ≡ false

-- two observers are two, and their accesses don't conflict
pub record AreApart (s : Schedule) (a b : Observer) : Type 0 where
  pub differ : a ≡ b → ⊥
  pub apart : ApartBy None (access_of_observer s a) (access_of_observer s b)

-- two steps touch nothing in common. A sync point is apart from nothing
abbrev pub StepsApart : Schedule → Step → Step → Type 0
StepsApart s (Start i) (Start j) = AreApart s (OfSystem i) (OfSystem j)
StepsApart s (Start i) (Cond d b) = AreApart s (OfSystem i) (OfCondition d)
StepsApart s (Start i) (Skip j) = Unit {0}
StepsApart s (Start i) (Finish j) = ⊥
StepsApart s (Start i) (Sync j) = ⊥
StepsApart s (Cond c a) (Start j) = AreApart s (OfCondition c) (OfSystem j)
StepsApart s (Cond c a) (Cond d b) = AreApart s (OfCondition c) (OfCondition d)
StepsApart s (Cond c a) (Skip j) = Unit {0}
StepsApart s (Cond c a) (Finish j) = ⊥
StepsApart s (Cond c a) (Sync j) = ⊥
StepsApart s (Skip i) (Start j) = Unit {0}
StepsApart s (Skip i) (Cond d b) = Unit {0}
StepsApart s (Skip i) (Skip j) = Unit {0}
StepsApart s (Skip i) (Finish j) = ⊥
StepsApart s (Skip i) (Sync j) = ⊥
StepsApart s (Finish i) y = ⊥
StepsApart s (Sync i) y = ⊥

-- each of two steps is allowed after the other, and they are apart
pub record CanSwap (s : Schedule) (m : Marks) (x y : Step) : Type 0 where
  pub second_after : Can s (mark x m) y
  pub first_after : Can s (mark y m) x
  pub apart : StepsApart s x y

-- ---- what stays allowed

-- a system stays open beside a step that doesn't begin it
pub open_stays : (s : Schedule) (m : Marks) (x : Step) (n : ℕ) → begins n x ≡ false → IsOpen s m n → IsOpen s (mark x m) n
open_stays s m x n b free = record {
  known = free.known;
  waits = or_from _ _ b free.waits;
  after = λ p e. or_right _ _ (free.after p e);
  over = λ k l. or_right _ _ (free.over k l);
}

-- so does a start
pub start_stays : (s : Schedule) (m : Marks) (x : Step) (n : ℕ) → begins n x ≡ false → CanStart s m n → CanStart s (mark x m) n
start_stays s m x n b can = record { free = open_stays s m x n b can.free; answers = λ c e. or_right _ _ (can.answers c e) }

-- so does a skip
pub skip_stays : (s : Schedule) (m : Marks) (x : Step) (n : ℕ) → begins n x ≡ false → CanSkip s m n → CanSkip s (mark x m) n
skip_stays s m x n b can = record {
  free = open_stays s m x n b can.free;
  asked = λ c e. or_right _ _ (can.asked c e);
  refusing = can.refusing;
  covering = can.covering;
  refused = or_right _ _ can.refused;
}

-- so does a question, beside a step that neither asks it nor begins its member
pub ask_stays : (s : Schedule) (m : Marks) (x : Step) (c : ℕ) (can : CanAsk s m c) → is_cond c x ≡ false → begins can.member x ≡ false → CanAsk s (mark x m) c
ask_stays s m x c can a b = record {
  known = can.known;
  fresh = or_from _ _ a can.fresh;
  member = can.member;
  covering = can.covering;
  free = open_stays s m x can.member b can.free;
}

-- ---- what can't be allowed together

-- where a system is open what reaches it has begun
pub reaches-begun : (s : Schedule) (m : Marks) (p n : ℕ) → IsOrderly s m → IsOpen s m n → Reaches s p n → m.begun p ≡ true
reaches-begun s m p n ord free (Edge p1 n1 e) = free.after p e
reaches-begun s m p n ord free (Onward p1 q1 n1 e r) = ord.edges p q1 (reaches-begun s m q1 n ord free r) e

-- where a system is open all that are before it have begun
pub before-begun : (s : Schedule) (m : Marks) (p n : ℕ) → IsOrderly s m → p < length s.systems → IsOpen s m n → Before s p n → m.begun p ≡ true
before-begun s m p n ord known free (ByPath r) = reaches-begun s m p n ord free r
before-begun s m p n ord known free (ByLevel l) = ord.levels p (level_of s p) (free.over (level_of s p) l) known refl

-- of two open systems none is before the other
pub open-unordered : (s : Schedule) (m : Marks) (p n : ℕ) → IsOrderly s m → IsOpen s m p → IsOpen s m n → Before s p n → ⊥
open-unordered s m p n ord first free b = both_ways (m.begun p) first.waits (before-begun s m p n ord first.known free b)

-- two open systems don't conflict
pub open-apart : (s : Schedule) (m : Marks) (i j : ℕ) → Settled s → IsOrderly s m → IsOpen s m i → IsOpen s m j → i ≢ j → ApartBy None (params_of s i) (params_of s j)
open-apart s m i j settled ord first free differ meeting = settled.systems i j (record {
  first_known = first.known;
  second_known = free.known;
  differ = differ;
  conflict = conflict_from_meet None _ _ meeting;
  not_before = open-unordered s m i j ord first free;
  not_after = open-unordered s m j i ord free first;
})

-- a system that is open, no member of a condition that can be asked, doesn't conflict with the condition
pub ask-apart : (s : Schedule) (m : Marks) (n c : ℕ) → Settled s → IsOrderly s m → IsOpen s m n → CanAsk s m c → (covers s c n ≡ true → ⊥) → ApartBy None (params_of s n) (access_of s c)
ask-apart s m n c settled ord free can outside meeting = settled.conditions c n (record {
  condition_known = can.known;
  system_known = free.known;
  conflict = conflict_from_meet None _ _ meeting;
  no_member = λ member. outside member.covered;
  not_before = λ all. open-unordered s m n can.member ord free can.free
      (all can.member (record { known = can.free.known; covered = can.covering }));
  not_after = λ p member b. both_ways (m.asked c) can.fresh
      (ord.questions c p (before-begun s m p n ord member.known free b) member.covered);
})

-- a system whose conditions have answered is no member of one that can be asked
pub answered-outside : (s : Schedule) (m : Marks) (n c : ℕ) → CanAsk s m c → (covers s c n ≡ true → m.asked c ≡ true) → covers s c n ≡ true → ⊥
answered-outside s m n c can asked e = both_ways (m.asked c) can.fresh (asked e)

-- no system is open where a sync point may be done
pub sync-closed : (s : Schedule) (m : Marks) (k n : ℕ) → IsOrderly s m → CanSync s m k → IsOpen s m n → ⊥
sync-closed s m k n ord can free = go (cases_order (level_of s n) k)
  where
    go : (level_of s n ≡ k) ⊎ ((level_of s n < k) ⊎ (k < level_of s n)) → ⊥
    go (inl e) = both_ways (m.begun n) free.waits (can.level n free.known e)
    go (inr (inl l)) = both_ways (m.begun n) free.waits (ord.levels n (level_of s n) (can.lower (level_of s n) l) free.known refl)
    go (inr (inr l)) = both_ways (m.synced k) can.fresh (free.over k l)

-- at most one sync point may be done
pub one-sync : (s : Schedule) (m : Marks) (j k : ℕ) → CanSync s m j → CanSync s m k → j ≡ k
one-sync s m j k first second = go (cases_order j k)
  where
    go : (j ≡ k) ⊎ ((j < k) ⊎ (k < j)) → j ≡ k
    go (inl e) = e
    go (inr (inl l)) = absurd (both_ways (m.synced j) first.fresh (second.lower j l))
    go (inr (inr l)) = absurd (both_ways (m.synced k) second.fresh (first.lower k l))

-- a system isn't both started and skipped
pub start-or-skip : (s : Schedule) (m : Marks) (n : ℕ) → IsOrderly s m → CanStart s m n → CanSkip s m n → ⊥
start-or-skip s m n ord start skip = ord.one_answer skip.refusing (start.answers skip.refusing skip.covering) skip.refused

-- two conditions don't conflict
pub conditions-apart : (s : Schedule) → ConditionsRead s → (c d : ℕ) → ApartBy None (access_of s c) (access_of s d)
conditions-apart s read c d (OfKind kind, (q, r, i, j, at, among)) =
    both_ways _ (or_from _ _ (read c q i kind) (read d r j kind)) at.one_writes
conditions-apart s read c d (OfResource number, at) = both_ways false refl at.one_writes
conditions-apart s read c d (OfEvent kind, at) = both_ways false refl at.one_writes

-- ---- the table

-- a start begins nothing else
start-begins : (i n : ℕ) → i ≢ n → begins n (Start i) ≡ false
start-begins i n differ = or_from _ _ (ne_eqb i n differ) refl

-- nor does a skip
skip-begins : (i n : ℕ) → i ≢ n → begins n (Skip i) ≡ false
skip-begins i n differ = ne_eqb i n differ

-- two starts
starts-swap : (s : Schedule) (m : Marks) (i j : ℕ) → Settled s → IsOrderly s m → CanStart s m i → CanStart s m j → i ≢ j → CanSwap s m (Start i) (Start j)
starts-swap s m i j settled ord can could differ = record {
  second_after = start_stays s m (Start i) j (start-begins i j differ) could;
  first_after = start_stays s m (Start j) i (start-begins j i (λ e. differ (sym e))) can;
  apart = record { differ = λ e. differ (cc); apart = open-apart s m i j settled ord can.free could.free differ };
}

-- a start and a question
start-ask : (s : Schedule) (m : Marks) (i c : ℕ) (a : Bool) → Settled s → IsOrderly s m → CanStart s m i → CanAsk s m c → CanSwap s m (Start i) (Cond c a)
start-ask s m i c a settled ord can could =
    let outside : covers s c i ≡ true → ⊥ = answered-outside s m i c could (λ e. ord.answers c true (can.answers c e)) in
    record {
      second_after = ask_stays s m (Start i) c could refl
          (start-begins i could.member (λ e. outside (subst (λ n. covers s c n ≡ true) (sym e) could.covering)));
      first_after = start_stays s m (Cond c a) i refl can;
      apart = record { differ = λ e. cc; apart = ask-apart s m i c settled ord can.free could outside };
    }

-- a start and a skip
start-skip : (s : Schedule) (m : Marks) (i j : ℕ) → CanStart s m i → CanSkip s m j → i ≢ j → CanSwap s m (Start i) (Skip j)
start-skip s m i j can could differ = record {
  second_after = skip_stays s m (Start i) j (start-begins i j differ) could;
  first_after = start_stays s m (Skip j) i (skip-begins j i (λ e. differ (sym e))) can;
  apart = tt;
}

-- two questions
asks-swap : (s : Schedule) (m : Marks) (c d : ℕ) (a b : Bool) → ConditionsRead s → CanAsk s m c → CanAsk s m d → c ≢ d → CanSwap s m (Cond c a) (Cond d b)
asks-swap s m c d a b read can could differ = record {
  second_after = ask_stays s m (Cond c a) d could (ne_eqb c d differ) refl;
  first_after = ask_stays s m (Cond d b) c can (ne_eqb d c (λ e. differ (sym e))) refl;
  apart = record { differ = λ e. differ (cc); apart = conditions-apart s read c d };
}

-- a question and a skip
ask-skip : (s : Schedule) (m : Marks) (c j : ℕ) (a : Bool) → CanAsk s m c → CanSkip s m j → CanSwap s m (Cond c a) (Skip j)
ask-skip s m c j a can could = record {
  second_after = skip_stays s m (Cond c a) j refl could;
  first_after = ask_stays s m (Skip j) c can refl (skip-begins j can.member (λ e.
      answered-outside s m j c can (could.asked c) (subst (λ n. covers s c n ≡ true) (sym e) can.covering)));
  apart = tt;
}

-- two skips
skips-swap : (s : Schedule) (m : Marks) (i j : ℕ) → CanSkip s m i → CanSkip s m j → i ≢ j → CanSwap s m (Skip i) (Skip j)
skips-swap s m i j can could differ = record {
  second_after = skip_stays s m (Skip i) j (skip-begins i j differ) could;
  first_after = skip_stays s m (Skip j) i (skip-begins j i (λ e. differ (sym e))) can;
  apart = tt;
}

-- observers are apart from either side
pub are_apart_swap : (s : Schedule) (a b : Observer) → AreApart s a b → AreApart s b a
are_apart_swap s a b h = record { differ = λ e. h.differ (sym e); apart = apart_swap None _ _ h.apart }

-- so are steps
pub steps_apart_swap : (s : Schedule) (x y : Step) → StepsApart s x y → StepsApart s y x
steps_apart_swap s (Start i) (Start j) h = are_apart_swap s (OfSystem i) (OfSystem j) h
steps_apart_swap s (Start i) (Cond d b) h = are_apart_swap s (OfSystem i) (OfCondition d) h
steps_apart_swap s (Start i) (Skip j) h = tt
steps_apart_swap s (Start i) (Finish j) h = absurd h
steps_apart_swap s (Start i) (Sync j) h = absurd h
steps_apart_swap s (Cond c a) (Start j) h = are_apart_swap s (OfCondition c) (OfSystem j) h
steps_apart_swap s (Cond c a) (Cond d b) h = are_apart_swap s (OfCondition c) (OfCondition d) h
steps_apart_swap s (Cond c a) (Skip j) h = tt
steps_apart_swap s (Cond c a) (Finish j) h = absurd h
steps_apart_swap s (Cond c a) (Sync j) h = absurd h
steps_apart_swap s (Skip i) (Start j) h = tt
steps_apart_swap s (Skip i) (Cond d b) h = tt
steps_apart_swap s (Skip i) (Skip j) h = tt
steps_apart_swap s (Skip i) (Finish j) h = absurd h
steps_apart_swap s (Skip i) (Sync j) h = absurd h
steps_apart_swap s (Finish i) y h = absurd h
steps_apart_swap s (Sync k) y h = absurd h

-- one step or a swap, where the numbers are equal or not
by_number : (P : Type 0) (i j : ℕ) → (i ≡ j → P) → (i ≢ j → P) → P
by_number P i j same other = go (cases_eq i j)
  where
    go : (i ≡ j) ⊎ (i ≡ j → ⊥) → P
    go (inl e) = same e
    go (inr d) = other d

-- two steps that are allowed, with one answer to one condition, are one step or can be swapped
pub same_or_swap : (s : Schedule) (m : Marks) (x y : Step) → Settled s → ConditionsRead s → IsOrderly s m → Can s m x → Can s m y
    → ((c : ℕ) (a b : Bool) → x ≡ Cond c a → y ≡ Cond c b → a ≡ b) → (x ≡ y) ⊎ CanSwap s m x y
same_or_swap s m (Start i) (Start j) settled read ord can could one =
    by_number _ i j (λ e. inl (ap Start e)) (λ d. inr (starts-swap s m i j settled ord can could d))
same_or_swap s m (Start i) (Cond d b) settled read ord can could one = inr (start-ask s m i d b settled ord can could)
same_or_swap s m (Start i) (Skip j) settled read ord can could one =
    by_number _ i j (λ e. absurd (start-or-skip s m j ord (subst (λ n. CanStart s m n) e can) could)) (λ d. inr (start-skip s m i j can could d))
same_or_swap s m (Start i) (Finish j) settled read ord can could one = absurd could
same_or_swap s m (Start i) (Sync k) settled read ord can could one = absurd (sync-closed s m k i ord could can.free)
same_or_swap s m (Cond c a) (Start j) settled read ord can could one =
    let w : CanSwap s m (Start j) (Cond c a) = start-ask s m j c a settled ord could can in
    inr (record { second_after = w.first_after; first_after = w.second_after; apart = are_apart_swap s (OfSystem j) (OfCondition c) w.apart })
same_or_swap s m (Cond c a) (Cond d b) settled read ord can could one =
    by_number _ c d (λ e. inl (let f : a ≡ b = one c a b refl (ap (λ i. Cond i b) (sym e)) in cc)) (λ n. inr (asks-swap s m c d a b read can could n))
same_or_swap s m (Cond c a) (Skip j) settled read ord can could one = inr (ask-skip s m c j a can could)
same_or_swap s m (Cond c a) (Finish j) settled read ord can could one = absurd could
same_or_swap s m (Cond c a) (Sync k) settled read ord can could one = absurd (sync-closed s m k can.member ord could can.free)
same_or_swap s m (Skip i) (Start j) settled read ord can could one =
    by_number _ i j (λ e. absurd (start-or-skip s m j ord could (subst (λ n. CanSkip s m n) e can)))
    (λ d. let w : CanSwap s m (Start j) (Skip i) = start-skip s m j i could can (λ e. d (sym e)) in
    inr (record { second_after = w.first_after; first_after = w.second_after; apart = tt }))
same_or_swap s m (Skip i) (Cond d b) settled read ord can could one =
    let w : CanSwap s m (Cond d b) (Skip i) = ask-skip s m d i b could can in
    inr (record { second_after = w.first_after; first_after = w.second_after; apart = tt })
same_or_swap s m (Skip i) (Skip j) settled read ord can could one =
    by_number _ i j (λ e. inl (ap Skip e)) (λ d. inr (skips-swap s m i j can could d))
same_or_swap s m (Skip i) (Finish j) settled read ord can could one = absurd could
same_or_swap s m (Skip i) (Sync k) settled read ord can could one = absurd (sync-closed s m k i ord could can.free)
same_or_swap s m (Finish i) y settled read ord can could one = absurd can
same_or_swap s m (Sync k) (Start j) settled read ord can could one = absurd (sync-closed s m k j ord can could.free)
same_or_swap s m (Sync k) (Cond d b) settled read ord can could one = absurd (sync-closed s m k could.member ord can could.free)
same_or_swap s m (Sync k) (Skip j) settled read ord can could one = absurd (sync-closed s m k j ord can could.free)
same_or_swap s m (Sync k) (Finish j) settled read ord can could one = absurd could
same_or_swap s m (Sync j) (Sync k) settled read ord can could one = inl (ap Sync (one-sync s m j k can could))
