-- What holds of every session stays so.
use Rattle.std.proofs.Common.{◌≡◌, ℕ, zero, suc, Bool, true, false, List, [], ◌∷◌, ◌++◌, set, Option, Some, None, Result, Ok, Err, option_map, inl, inr, refl, sym, ◌∙◌, subst, cond, is_some}
use Rattle.std.specs.List.{AllByRecursion, find, position, remove}
use Rattle.std.specs.Option.{option_map_or}
use Rattle.model.specs.access.Access.{Params}
use Rattle.model.specs.state.State.{State}
use Rattle.model.specs.steps.Schedule.{Schedule}
use Rattle.engine.specs.EngineValue.{EngineValue}
use Rattle.engine.specs.Meanings.{AreFit, HasMemories, LacksMemories, Suits}
use Rattle.session.specs.Live.{IsLive}
use Rattle.session.specs.Marks.{is_kept, is_named, kept_at, with_mark, without}
use Rattle.session.proofs.Kept.{found_first}

-- the bodies of an engine that isn't spoiled are home and fit
pub suits_fit : {B : Type 0} (fits : B → Params → Bool) (s : Schedule) (bodies : List (Option B)) (state : State) → Suits fits s bodies state → AreFit fits s bodies
suits_fit fits s bodies state suits = record { body_count = suits.body_count; fit = suits.fit }

-- other bodies that fit change nothing of it
pub fitting : {B : Type 0} (fits : B → Params → Bool) (old new : EngineValue B) (marks : List (List ℕ × State)) → new.schedule ≡ old.schedule → AreFit fits new.schedule new.bodies → IsLive fits old marks → IsLive fits new marks
fitting fits old new marks schedule fit live = record {
  fit = fit;
  kept = subst (λ (s : Schedule). AllByRecursion (λ (m : List ℕ × State). LacksMemories s m.1 → ⊥) marks) (sym schedule) live.kept;
}

-- nor does another state
pub live_with : {B : Type 0} (fits : B → Params → Bool) (old new : EngineValue B) (marks : List (List ℕ × State)) → new.schedule ≡ old.schedule → new.bodies ≡ old.bodies → IsLive fits old marks → IsLive fits new marks
live_with fits old new marks schedule bodies live = fitting fits old new marks schedule (subst (λ (s : Schedule). AreFit fits s new.bodies) (sym schedule) (subst (λ bs. AreFit fits old.schedule bs) (sym bodies) live.fit)) live

-- what has memories doesn't lack them
pub has_memories : (s : Schedule) (state : State) → HasMemories s state → LacksMemories s state → ⊥
has_memories s state has (inl h) = h has.systems
has_memories s state has (inr (inl h)) = h has.conditions
has_memories s state has (inr (inr (inl h))) = h.2 (has.system_readers h.0 h.1)
has_memories s state has (inr (inr (inr h))) = h.2 (has.condition_readers h.0 h.1)

-- ---- what holds of all states that are kept

all_set : {X : Type 0} (P : X → Type 0) (xs : List X) (i : ℕ) (x : X) → AllByRecursion P xs → P x → AllByRecursion P (set xs i x)
all_set P [] i x all is = tt
all_set P (y ∷ ys) zero x all is = (is, all.1)
all_set P (y ∷ ys) (suc i) x all is = (all.0, all_set P ys i x all.1 is)

all_append : {X : Type 0} (P : X → Type 0) (xs ys : List X) → AllByRecursion P xs → AllByRecursion P ys → AllByRecursion P (xs ++ ys)
all_append P [] ys all others = others
all_append P (x ∷ xs) ys all others = (all.0, all_append P xs ys all.1 others)

all_removed : {X : Type 0} (P : X → Type 0) (xs : List X) (i : ℕ) → AllByRecursion P xs → AllByRecursion P (remove xs i)
all_removed P [] zero all = tt
all_removed P [] (suc i) all = tt
all_removed P (x ∷ xs) zero all = all.1
all_removed P (x ∷ xs) (suc i) all = (all.0, all_removed P xs i all.1)

pub all_marked : (P : List ℕ × State → Type 0) (name : List ℕ) (state : State) (marks : List (List ℕ × State)) → AllByRecursion P marks → P (name, state) → AllByRecursion P (with_mark name state marks)
all_marked P name state marks all is = go (position (is_named name) marks)
  where
    go : (place : Option ℕ) → AllByRecursion P (option_map_or (λ p. set marks p (name, state)) place (marks ++ (name, state) ∷ []))
    go None = all_append P marks ((name, state) ∷ []) all (is, tt)
    go (Some place) = all_set P marks place (name, state) all is

pub all_without : (P : List ℕ × State → Type 0) (name : List ℕ) (marks : List (List ℕ × State)) → AllByRecursion P marks → AllByRecursion P (without name marks)
all_without P name marks all = go (position (is_named name) marks)
  where
    go : (place : Option ℕ) → AllByRecursion P (option_map_or (remove marks) place marks)
    go None = all
    go (Some place) = all_removed P marks place all

-- ---- what is kept under a name

all_found : {X : Type 0} (P : X → Type 0) (p : X → Bool) (xs : List X) (x : X) → AllByRecursion P xs → find p xs ≡ Some x → P x
all_found P p [] x all h = let none : None ≡ Some x = h in absurd (cc)
all_found P p (y ∷ ys) x all h = go (λ found. all_found P p ys x all.1 found) (p y) h
  where
    go : (find p ys ≡ Some x → P x) → (b : Bool) → cond b (Some y) (find p ys) ≡ Some x → P x
    go rest true same = let is : y ≡ x = cc in subst P is all.0
    go rest false same = rest same

-- what holds of all that are kept holds of the one under a name
pub all_kept : (P : State → Type 0) (name : List ℕ) (marks : List (List ℕ × State)) (state : State) → AllByRecursion (λ (m : List ℕ × State). P m.1) marks → kept_at name marks ≡ Some state → P state
all_kept P name marks state all kept = go (find (is_named name) marks) refl kept
  where
    go : (found : Option (List ℕ × State)) → find (is_named name) marks ≡ found → option_map (λ (m : List ℕ × State). m.1) found ≡ Some state → P state
    go None is none = absurd (cc)
    go (Some m) is some =
        let same : m.1 ≡ state = cc in
        subst P same (all_found (λ (n : List ℕ × State). P n.1) (is_named name) marks m all is)

-- where nothing is kept under a name the name has no place
pub unkept : (name : List ℕ) (marks : List (List ℕ × State)) → kept_at name marks ≡ None → is_kept name marks ≡ false
unkept name marks none = go (position (is_named name) marks) refl
  where
    go : (place : Option ℕ) → position (is_named name) marks ≡ place → is_some place ≡ false
    go None is = refl
    go (Some i) is =
        let found = found_first name marks i is in
        absurd (cc)

-- a result is one of the two
pub ok_err : {T E : Type 0} (r : Result T E) (t : T) (e : E) → r ≡ Ok t → r ≡ Err e → ⊥
ok_err r t e p q = let same : Ok t ≡ Err e = sym p ∙ q in absurd (cc)
