-- What a run has done so far, without the order of its steps and without its finishes: which systems have begun, which
-- conditions were asked and answered, which sync points are done; and what is allowed by it.
use Rattle.std.proofs.Common.{ℕ, ◌<◌, Bool, true, false, not, ◌||◌, ◌==◌, ◌≡◌, ◌⊎◌, inl, inr, length, refl, sym, subst}
use Rattle.std.proofs.lemmas.Bool.{or_cases, or_right, or_left, and_parts, eqb-true, both_ways}
use Rattle.model.specs.declared.steps.Step.{Step}
use Rattle.model.specs.declared.steps.Step.TheVariants.{Cond, Start, Skip, Finish, Sync}
use Rattle.model.specs.steps.Schedule.{Schedule, level_of, has_edge, covers}
use Rattle.model.specs.steps.Lawful.{is_start, is_skip, is_sync, is_cond, is_answer}
use Rattle.model.proofs.order.Histories.{answer_asks}

-- what was done
pub record Marks : Type 0 where
  pub begun : ℕ → Bool
  pub asked : ℕ → Bool
  pub answered : ℕ → Bool → Bool
  pub synced : ℕ → Bool

-- whether a step begins the system
abbrev pub begins : ℕ → Step → Bool
begins n step = is_start n step || is_skip n step

-- the marks after a step
abbrev pub mark : Step → Marks → Marks
mark x m = record {
  begun = λ n. begins n x || m.begun n;
  asked = λ c. is_cond c x || m.asked c;
  answered = λ c a. is_answer c a x || m.answered c a;
  synced = λ k. is_sync k x || m.synced k;
}

-- a system is open: it has not begun, all before it by an edge have, and lower sync points are done
pub record IsOpen (s : Schedule) (m : Marks) (n : ℕ) : Type 0 where
  pub known : n < length s.systems
  pub waits : m.begun n ≡ false
  pub after : (p : ℕ) → has_edge s p n ≡ true → m.begun p ≡ true
  pub over : (k : ℕ) → k < level_of s n → m.synced k ≡ true

-- a start needs the answer yes of each condition that covers the system
pub record CanStart (s : Schedule) (m : Marks) (n : ℕ) : Type 0 where
  pub free : IsOpen s m n
  pub answers : (c : ℕ) → covers s c n ≡ true → m.answered c true ≡ true

-- a skip needs all conditions asked, and one answer no
pub record CanSkip (s : Schedule) (m : Marks) (n : ℕ) : Type 0 where
  pub free : IsOpen s m n
  pub asked : (c : ℕ) → covers s c n ≡ true → m.asked c ≡ true
  pub refusing : ℕ
  pub covering : covers s refusing n ≡ true
  pub refused : m.answered refusing false ≡ true

-- a condition is asked once, for a member that is open
pub record CanAsk (s : Schedule) (m : Marks) (c : ℕ) : Type 0 where
  pub known : c < length s.conditions
  pub fresh : m.asked c ≡ false
  pub member : ℕ
  pub covering : covers s c member ≡ true
  pub free : IsOpen s m member

-- a sync point needs the lower ones, and that each system of its level has begun
pub record CanSync (s : Schedule) (m : Marks) (k : ℕ) : Type 0 where
  pub known : k < s.syncs
  pub fresh : m.synced k ≡ false
  pub lower : (j : ℕ) → j < k → m.synced j ≡ true
  pub level : (n : ℕ) → n < length s.systems → level_of s n ≡ k → m.begun n ≡ true

-- whether a step is allowed by the marks. A finish is none
abbrev pub Can : Schedule → Marks → Step → Type 0
Can s m (Cond c answer) = CanAsk s m c
Can s m (Start n) = CanStart s m n
Can s m (Skip n) = CanSkip s m n
Can s m (Finish n) = ⊥
Can s m (Sync k) = CanSync s m k

-- marks that steps can have made
pub record IsOrderly (s : Schedule) (m : Marks) : Type 0 where
  pub edges : (p n : ℕ) → m.begun n ≡ true → has_edge s p n ≡ true → m.begun p ≡ true
  pub over : (n k : ℕ) → m.begun n ≡ true → k < level_of s n → m.synced k ≡ true
  pub levels : (n k : ℕ) → m.synced k ≡ true → n < length s.systems → level_of s n ≡ k → m.begun n ≡ true
  pub questions : (c n : ℕ) → m.begun n ≡ true → covers s c n ≡ true → m.asked c ≡ true
  pub answers : (c : ℕ) (a : Bool) → m.answered c a ≡ true → m.asked c ≡ true
  pub one_answer : (c : ℕ) → m.answered c true ≡ true → m.answered c false ≡ true → ⊥

-- everything is done
pub record IsOver (s : Schedule) (m : Marks) : Type 0 where
  pub ends : (n : ℕ) → n < length s.systems → m.begun n ≡ true
  pub syncs : (k : ℕ) → k < s.syncs → m.synced k ≡ true

-- nothing is done
abbrev pub no_marks : Marks
no_marks = record { begun = λ n. false; asked = λ c. false; answered = λ c a. false; synced = λ k. false }

-- at the start the marks are orderly
pub orderly_at_start : (s : Schedule) → IsOrderly s no_marks
orderly_at_start s = record {
  edges = λ p n b e. absurd (both_ways false refl b);
  over = λ n k b l. absurd (both_ways false refl b);
  levels = λ n k b l e. absurd (both_ways false refl b);
  questions = λ c n b e. absurd (both_ways false refl b);
  answers = λ c a b. absurd (both_ways false refl b);
  one_answer = λ c a b. both_ways false refl a;
}

-- ---- what a step marks

-- a step that is allowed begins an open system
pub begins-open : (s : Schedule) (m : Marks) (x : Step) (n : ℕ) → Can s m x → begins n x ≡ true → IsOpen s m n
begins-open s m (Cond c a) n can b = absurd (both_ways false refl b)
begins-open s m (Start i) n can b = go (or_cases (i == n) false b)
  where
    go : ((i == n) ≡ true) ⊎ (false ≡ true) → IsOpen s m n
    go (inl e) = subst (λ j. IsOpen s m j) (eqb-true i n e) can.free
    go (inr e) = absurd (both_ways false refl e)
begins-open s m (Skip i) n can b = subst (λ j. IsOpen s m j) (eqb-true i n b) can.free
begins-open s m (Finish i) n can b = absurd can
begins-open s m (Sync k) n can b = absurd (both_ways false refl b)

-- what a step begins has all its conditions asked
pub begins-asked : (s : Schedule) (m : Marks) (x : Step) (c n : ℕ) → IsOrderly s m → Can s m x → begins n x ≡ true → covers s c n ≡ true → m.asked c ≡ true
begins-asked s m (Cond d a) c n ord can b cov = absurd (both_ways false refl b)
begins-asked s m (Start i) c n ord can b cov = go (or_cases (i == n) false b)
  where
    go : ((i == n) ≡ true) ⊎ (false ≡ true) → m.asked c ≡ true
    go (inl e) = ord.answers c true (can.answers c (subst (λ j. covers s c j ≡ true) (sym (eqb-true i n e)) cov))
    go (inr e) = absurd (both_ways false refl e)
begins-asked s m (Skip i) c n ord can b cov = can.asked c (subst (λ j. covers s c j ≡ true) (sym (eqb-true i n b)) cov)
begins-asked s m (Finish i) c n ord can b cov = absurd can
begins-asked s m (Sync k) c n ord can b cov = absurd (both_ways false refl b)

-- a step that is allowed does a sync point that may be done
pub syncs-can : (s : Schedule) (m : Marks) (x : Step) (k : ℕ) → Can s m x → is_sync k x ≡ true → CanSync s m k
syncs-can s m (Cond c a) k can b = absurd (both_ways false refl b)
syncs-can s m (Start i) k can b = absurd (both_ways false refl b)
syncs-can s m (Skip i) k can b = absurd (both_ways false refl b)
syncs-can s m (Finish i) k can b = absurd can
syncs-can s m (Sync j) k can b = subst (λ i. CanSync s m i) (eqb-true j k b) can

-- a step that asks a condition asks a fresh one
pub asks-fresh : (s : Schedule) (m : Marks) (x : Step) (c : ℕ) → Can s m x → is_cond c x ≡ true → m.asked c ≡ false
asks-fresh s m (Cond d a) c can e = subst (λ i. m.asked i ≡ false) (eqb-true d c e) can.fresh
asks-fresh s m (Start i) c can b = absurd (both_ways false refl b)
asks-fresh s m (Skip i) c can b = absurd (both_ways false refl b)
asks-fresh s m (Finish i) c can b = absurd can
asks-fresh s m (Sync k) c can b = absurd (both_ways false refl b)

-- a step gives one answer
pub one-answer : (x : Step) (c : ℕ) → is_answer c true x ≡ true → is_answer c false x ≡ true → ⊥
one-answer (Cond d b) c e f = go b (and_parts (d == c) b e).1 (and_parts (d == c) (not b) f).1
  where
    go : (t : Bool) → t ≡ true → not t ≡ true → ⊥
    go true p q = both_ways false refl q
    go false p q = both_ways false refl p
one-answer (Start i) c e f = both_ways false refl e
one-answer (Skip i) c e f = both_ways false refl e
one-answer (Finish i) c e f = both_ways false refl e
one-answer (Sync i) c e f = both_ways false refl e

-- ---- a step keeps marks orderly

-- of a mark after a step: the step made it, or it was there
mark_cases : (P : Type 0) (new old : Bool) → (new || old) ≡ true → (new ≡ true → P) → (old ≡ true → P) → P
mark_cases P new old e f g = go (or_cases new old e)
  where
    go : (new ≡ true) ⊎ (old ≡ true) → P
    go (inl p) = f p
    go (inr p) = g p

-- no step gives a second answer
second_answer : (s : Schedule) (m : Marks) (x : Step) (c : ℕ) (a b : Bool) → IsOrderly s m → Can s m x → is_answer c a x ≡ true → m.answered c b ≡ true → ⊥
second_answer s m x c a b ord can e f = both_ways (m.asked c) (asks-fresh s m x c can (answer_asks c a x e)) (ord.answers c b f)

-- the marks after a step are orderly
pub orderly-mark : (s : Schedule) (m : Marks) (x : Step) → IsOrderly s m → Can s m x → IsOrderly s (mark x m)
orderly-mark s m x ord can = record {
  edges = λ p n b e. mark_cases _ (begins n x) (m.begun n) b
      (λ new. or_right _ _ ((begins-open s m x n can new).after p e))
      (λ old. or_right _ _ (ord.edges p n old e));
  over = λ n k b l. mark_cases _ (begins n x) (m.begun n) b
      (λ new. or_right _ _ ((begins-open s m x n can new).over k l))
      (λ old. or_right _ _ (ord.over n k old l));
  levels = λ n k b l e. mark_cases _ (is_sync k x) (m.synced k) b
      (λ new. or_right _ _ ((syncs-can s m x k can new).level n l e))
      (λ old. or_right _ _ (ord.levels n k old l e));
  questions = λ c n b e. mark_cases _ (begins n x) (m.begun n) b
      (λ new. or_right _ _ (begins-asked s m x c n ord can new e))
      (λ old. or_right _ _ (ord.questions c n old e));
  answers = λ c a b. mark_cases _ (is_answer c a x) (m.answered c a) b
      (λ new. or_left _ _ (answer_asks c a x new))
      (λ old. or_right _ _ (ord.answers c a old));
  one_answer = λ c p q. mark_cases ⊥ (is_answer c true x) (m.answered c true) p
      (λ new. mark_cases ⊥ (is_answer c false x) (m.answered c false) q
      (one-answer x c new) (second_answer s m x c true false ord can new))
      (λ old. mark_cases ⊥ (is_answer c false x) (m.answered c false) q
      (λ new. second_answer s m x c false true ord can new old) (ord.one_answer c old));
}

-- where everything is done nothing is allowed
pub none_can : (s : Schedule) (m : Marks) (x : Step) → IsOver s m → Can s m x → ⊥
none_can s m (Cond c a) done can = both_ways _ can.free.waits (done.ends can.member can.free.known)
none_can s m (Start n) done can = both_ways _ can.free.waits (done.ends n can.free.known)
none_can s m (Skip n) done can = both_ways _ can.free.waits (done.ends n can.free.known)
none_can s m (Finish n) done can = can
none_can s m (Sync k) done can = both_ways _ can.fresh (done.syncs k can.known)
