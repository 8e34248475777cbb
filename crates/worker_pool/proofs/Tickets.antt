-- Tickets of jobs that are out, as jobs are posted and outcomes collected.
use Rattle.std.proofs.Common.{◌≡◌, ◌≢◌, ℕ, zero, suc, ◌+◌, ◌<◌, ◌≤◌, List, [], ◌∷◌, ◌++◌, length, remove, slice_get, slice_index_or, IsSomeAnd, IfSome, IfNone, IfErr, MatchOption, OnOk, Result, Ok, Err, Option, Some, None, map, length-append, sym, refl, ap, ◌∙◌, subst, ⊎_elim, arith}
use mathlib.Core.Option.{some, some-injective, some-ne-none}
use lib.ListN.{get_elem?}
use Rattle.std.proofs.lemmas.List.{length-map, map-append}
use Rattle.std.proofs.lemmas.List.Edits.{length-remove}
use Rattle.atomic_table.proofs.Lists.{at_longer, at_last, at_map}
use Rattle.job_board.specs.declared.view.View.{View}
use Rattle.job_board.specs.Views.{having_read, after_post, after_collect, after_take, FoundJob, HasJob, HasPosted, MissedAll, Uncollected, IsTally}
use Rattle.job_board.proofs.Places.{within, at_end}
use Rattle.column_store.proofs.Lists.{map-remove as map_remove}
use Rattle.worker_pool.specs.declared.desk.Ticket.{Ticket}
use Rattle.worker_pool.specs.AreOut.{AreOut, HasAllOut}

-- where an entry of a list without its p-th stands in the whole
abbrev skip : ℕ → ℕ → ℕ
skip zero at = suc at
skip (suc p) zero = zero
skip (suc p) (suc at) = suc (skip p at)

skip_apart : (p at : ℕ) → skip p at ≢ p
skip_apart zero at e = absurd (omega arith)
skip_apart (suc p) zero e = absurd (omega arith)
skip_apart (suc p) (suc at) e = skip_apart p at (let r : skip p at ≡ p = omega arith in r)

skip_once : (p at at' : ℕ) → skip p at ≡ skip p at' → at ≡ at'
skip_once zero at at' e = omega arith
skip_once (suc p) zero zero e = refl
skip_once (suc p) zero (suc at') e = absurd (omega arith)
skip_once (suc p) (suc at) zero e = absurd (omega arith)
skip_once (suc p) (suc at) (suc at') e = ap suc (skip_once p at at' (let r : skip p at ≡ skip p at' = omega arith in r))

module _ {A : Type 0} where
  was_at : (l : List A) (p at : ℕ) (a : A) → p < length l → get_elem? (remove l p) at ≡ some a → get_elem? l (skip p at) ≡ some a
  was_at [] p at a inside e = absurd (omega arith)
  was_at (x ∷ xs) zero at a inside e = e
  was_at (x ∷ xs) (suc p) zero a inside e = e
  was_at (x ∷ xs) (suc p) (suc at) a inside e = was_at xs p at a (omega arith) e

  -- what stands elsewhere stays
  kept_at : (l : List A) (p q : ℕ) (a : A) → q ≢ p → get_elem? l q ≡ some a → (at : ℕ) × (get_elem? (remove l p) at ≡ some a)
  kept_at [] p q a other e = absurd (some-ne-none a (sym e))
  kept_at (x ∷ xs) zero zero a other e = absurd (other refl)
  kept_at (x ∷ xs) zero (suc q) a other e = (q, e)
  kept_at (x ∷ xs) (suc p) zero a other e = (0, e)
  kept_at (x ∷ xs) (suc p) (suc q) a other e = let r = kept_at xs p q a (λ same. other (ap suc same)) e in (suc r.0, r.1)

  pub of_index : (l : List A) (i : ℕ) (a : A) (P : A → Type 0) → get_elem? l i ≡ some a → P a → IsSomeAnd (slice_get l i) P
  of_index [] i a P e p = absurd (some-ne-none a (sym e))
  of_index (x ∷ xs) zero a P e p = subst P (sym (some-injective x a e)) p
  of_index (x ∷ xs) (suc i) a P e p = of_index xs i a P e p

module _ {J O : Type 0} (tickets : List (Ticket J)) (v : View J O) (out : AreOut tickets v) where
  -- an outcome was collected that no ticket waits for
  pub other_out : (gained : List (ℕ × ℕ)) (n slot : ℕ) (o : O) → ((at : ℕ) (t : Ticket J) → get_elem? tickets at ≡ some t → t.number ≢ n) → AreOut tickets (after_collect (having_read v gained) n o slot)
  other_out gained n slot o none = (
    (λ at t e. let w = out.0 at t e in (w.0, λ at' o' d. ⊎_elim (λ old. w.1 at' o' old) (λ p. none at t e (sym (ap (λ (z : ℕ × O). z.0) p.1))) (at_end v.collected (n, o) (t.number, o') at' d))),
    out.1,
  )

  -- an outcome was collected, and the ticket of its job is taken away
  pub less_out : (gained : List (ℕ × ℕ)) (n slot p : ℕ) (o : O) (t : Ticket J) → get_elem? tickets p ≡ some t → t.number ≡ n → AreOut (remove tickets p) (after_collect (having_read v gained) n o slot)
  less_out gained n slot p o t here is = let inside : p < length tickets = within tickets p t here in (
    (λ at s e. let old = was_at tickets p at s inside e in let w = out.0 (skip p at) s old in (
      w.0,
      λ at' o' d. ⊎_elim (λ before. w.1 at' o' before)
          (λ r. skip_apart p at (out.1 (skip p at) p s t old here (sym (ap (λ (z : ℕ × O). z.0) r.1) ∙ sym is))) (at_end v.collected (n, o) (s.number, o') at' d),
    )),
    λ at at' s s' e d same. skip_once p at at' (out.1 (skip p at) (skip p at') s s' (was_at tickets p at s inside e) (was_at tickets p at' s' inside d) same),
  )

  -- the first job is given up
  pub first_out : 0 < length tickets → AreOut (remove tickets 0) v
  first_out inside = (
    (λ at s e. out.0 (skip 0 at) s (was_at tickets 0 at s inside e)),
    λ at at' s s' e d same. skip_once 0 at at' (out.1 (skip 0 at) (skip 0 at') s s' (was_at tickets 0 at s inside e) (was_at tickets 0 at' s' inside d) same),
  )

  -- a job was posted
  pub more_out : (n : ℕ) (j : J) (t : Ticket J) → IsTally v → n ≡ length v.posted + 1 → t.number ≡ n → t.job.value ≡ j → AreOut (tickets ++ t ∷ []) (after_post v n j)
  more_out n j t tally next is its = (
    (λ at s e. ⊎_elim
        (λ old. let w = out.0 at s old in ((w.0.0, w.0.1, at_longer v.posted ((n, j) ∷ []) w.0.0 (s.number, s.job.value) w.0.2), w.1))
        (λ p. subst (λ (u : Ticket J). ((before : ℕ) × (u.number ≡ suc before) × (get_elem? (v.posted ++ (n, j) ∷ []) before ≡ some (u.number, u.job.value))) × Uncollected (after_post v n j) u.number) p.1 (
          (
            length v.posted,
            (let r : t.number ≡ suc (length v.posted) = omega arith in r),
            at_last v.posted (n, j) (length v.posted) refl ∙ ap (λ (z : ℕ). some (z, j)) (sym is) ∙ ap (λ (z : J). some (t.number, z)) (sym its),
          ),
          λ at' o d. let m : t.number ≤ length v.posted = tally.1 at' t.number o d in absurd (omega arith),
        )) (at_end tickets t s at e)),
    λ at at' s s' e d same. ⊎_elim
        (λ old. ⊎_elim (λ old'. out.1 at at' s s' old old' same)
        (λ p'. let w = out.0 at s old in let b : w.0.0 < length v.posted = within v.posted w.0.0 (s.number, s.job.value) w.0.2 in let c : s.number ≡ suc w.0.0 = w.0.1 in
        let f : t.number ≡ s'.number = ap (λ (u : Ticket J). u.number) p'.1 in absurd (omega arith)) (at_end tickets t s' at' d))
        (λ p. ⊎_elim
        (λ old'. let w = out.0 at' s' old' in let b : w.0.0 < length v.posted = within v.posted w.0.0 (s'.number, s'.job.value) w.0.2 in let c : s'.number ≡ suc w.0.0 = w.0.1 in
        let f : t.number ≡ s.number = ap (λ (u : Ticket J). u.number) p.1 in absurd (omega arith))
        (λ p'. p.0 ∙ sym p'.0) (at_end tickets t s' at' d))
        (at_end tickets t s at e),
  )

  -- an outcome that answers the job of a number answers that of its ticket
  pub its_own : (answers : J → O → Type 0) (n p : ℕ) (o : O) (t : Ticket J) → IsTally v → get_elem? tickets p ≡ some t → t.number ≡ n → ((j : J) × HasPosted v n j × answers j o) → answers t.job.value o
  its_own answers n p o t tally here is has = let w = out.0 p t here in let at : ℕ = has.1.0 in
      let a : n ≡ at + 1 = tally.0 at n has.0 has.1.1 in let b : t.number ≡ suc w.0.0 = w.0.1 in let same : at ≡ w.0.0 = omega arith in
      let both : some (n, has.0) ≡ some (t.number, t.job.value) = sym has.1.1 ∙ ap (λ (z : ℕ). get_elem? v.posted z) same ∙ w.0.2 in
      subst (λ (j : J). answers j o) (ap (λ (z : ℕ × J). z.1) (some-injective (n, has.0) (t.number, t.job.value) both)) has.2

module _ {J O : Type 0} (tickets : List (Ticket J)) (v : View J O) (all : HasAllOut tickets v) where
  abbrev Ticketed : List (Ticket J) → ℕ → Type 0
  Ticketed l n = (place : ℕ) × (t : Ticket J) × (get_elem? l place ≡ some t) × (t.number ≡ n)

  pub all_more : (n : ℕ) (j : J) (t : Ticket J) → t.number ≡ n → HasAllOut (tickets ++ t ∷ []) (after_post v n j)
  all_more n j t is at m i e new = ⊎_elim
      (λ old. let w = all at m i old new in (w.0, w.1, at_longer tickets (t ∷ []) w.0 w.1 w.2, w.3))
      (λ p. (length tickets, t, at_last tickets t (length tickets) refl, is ∙ ap (λ (z : ℕ × J). z.0) p.1)) (at_end v.posted (n, j) (m, i) at e)

  module _ (gained : List (ℕ × ℕ)) (n slot : ℕ) (o : O) where
    was_new : (m : ℕ) → Uncollected (after_collect (having_read v gained) n o slot) m → Uncollected v m
    was_new m new at y e = new at y (at_longer v.collected ((n, o) ∷ []) at (m, y) e)

    pub all_other : HasAllOut tickets (after_collect (having_read v gained) n o slot)
    all_other at m i e new = all at m i e (was_new m new)

    pub all_less : (p : ℕ) (t : Ticket J) → get_elem? tickets p ≡ some t → t.number ≡ n → HasAllOut (remove tickets p) (after_collect (having_read v gained) n o slot)
    all_less p t here is at m i e new = let w = all at m i e (was_new m new) in
        let other : n ≢ m = λ same. new (length v.collected) o (at_last v.collected (n, o) (length v.collected) refl ∙ ap (λ (z : ℕ). some (z, o)) same) in
        let apart : w.0 ≢ p = λ same. other (sym is ∙ ap (λ (u : Ticket J). u.number) (some-injective t w.1 (sym here ∙ ap (get_elem? tickets) (sym same) ∙ w.2)) ∙ w.3) in
        let k = kept_at tickets p w.0 w.1 apart w.2 in (k.0, w.1, k.1, w.3)

pub if_none : {A : Type 0} (o : Option A) (P : Type 0) → P → IfNone o P
if_none None P p = p
if_none (Some a) P p = tt

if_some : {A : Type 0} (o : Option A) (P Q : A → Type 0) → ((a : A) → P a → Q a) → IfSome o P → IfSome o Q
if_some None P Q f p = tt
if_some (Some a) P Q f p = f a p

first_of_map : {A B : Type 0} (f : A → B) (P : B → Type 0) → ((a : A) → P (f a)) → (l : List A) → 0 < length (map f l) → IsSomeAnd (slice_get (map f l) 0) P
first_of_map f P p [] there = absurd (omega arith)
first_of_map f P p (x ∷ xs) there = p x

-- the jobs of tickets, as they are seen from outside
module _ {J X D : Type 0} (f : J → X) (tickets after : List (Ticket J)) (v : List X) (is : map (λ (t : Ticket J). f t.job.value) tickets ≡ v) (o : Option D) (answers : J → D → Type 0) where
  -- an outcome came back, of a job whose ticket is gone
  abbrev pub Came : Type 0
  Came = IfSome o (λ d. (i : ℕ) × (t : Ticket J) × (get_elem? tickets i ≡ some t) × answers t.job.value d × (after ≡ remove tickets i))

  pub comes_back : (P : D → X → Type 0) → ((j : J) (d : D) → answers j d → P d (f j)) → Came → IfSome o (λ d. (i : ℕ) × IsSomeAnd (slice_get v i) (P d) × (map (λ (t : Ticket J). f t.job.value) after ≡ remove v i))
  comes_back P told came = if_some o _ _ (λ d h. (
    h.0,
    subst (λ (l : List X). IsSomeAnd (slice_get l h.0) (P d)) is
        (of_index (map (λ (t : Ticket J). f t.job.value) tickets) h.0 (f h.1.job.value) (P d) (at_map (λ (t : Ticket J). f t.job.value) tickets h.0 h.1 h.2) (told h.1.job.value d h.3)),
    ap (map (λ (t : Ticket J). f t.job.value)) h.4 ∙ map_remove (λ (t : Ticket J). f t.job.value) tickets h.0 ∙ ap (λ (l : List X). remove l h.0) is,
  )) came

  pub first_lost : (P : X → Type 0) → ((j : J) → P (f j)) → 0 < length v → IfNone o ((i : ℕ) × IsSomeAnd (slice_get v i) P)
  first_lost P told there = if_none o _ (
    0,
    subst (λ (l : List X). IsSomeAnd (slice_get l 0) P) is
        (first_of_map (λ (t : Ticket J). f t.job.value) P (λ t. told t.job.value) tickets (subst (λ (l : List X). 0 < length l) (sym is) there)),
  )

-- a job more is out
pub handed_on : {J X A E : Type 0} (f : J → X) (tickets after : List (Ticket J)) (v : List X) (job : J) (r : Result A E) → map (λ (t : Ticket J). f t.job.value) tickets ≡ v
    → OnOk r ((t : Ticket J) × (t.job.value ≡ job) × (after ≡ tickets ++ t ∷ [])) → OnOk r (map (λ (t : Ticket J). f t.job.value) after ≡ v ++ f job ∷ [])
handed_on f tickets after v job (Err e) is h = tt
handed_on {J} {X} f tickets after v job (Ok a) is h =
    ap (map (λ (t : Ticket J). f t.job.value)) h.2 ∙ map-append (λ (t : Ticket J). f t.job.value) tickets (h.0 ∷ []) ∙ ap (λ (l : List X). l ++ f h.0.job.value ∷ []) is ∙ ap (λ (j : J). v ++ f j ∷ []) h.1

-- there is a worker for it
pub served_more : {J A : Type 0} (tickets after : List (Ticket J)) (job : J) (workers : ℕ) (r : Result A J) → length tickets < workers
    → OnOk r ((t : Ticket J) × (t.job.value ≡ job) × (after ≡ tickets ++ t ∷ [])) → IfErr r (λ back. (back ≡ job) × (after ≡ tickets)) → length after ≤ workers
served_more {J} tickets after job workers (Ok a) free h k =
    let n : length after ≡ length (tickets ++ h.0 ∷ []) = ap (length {A = Ticket J}) h.2 in let m : length (tickets ++ h.0 ∷ []) ≡ length tickets + 1 = length-append tickets (h.0 ∷ []) in omega arith
served_more {J} tickets after job workers (Err e) free h k = let n : length after ≡ length tickets = ap (length {A = Ticket J}) k.1 in omega arith

less_by : {J X : Type 0} (f : J → X) (tickets after : List (Ticket J)) (v : List X) (i : ℕ) → map (λ (t : Ticket J). f t.job.value) tickets ≡ v → i < length tickets → after ≡ remove tickets i → length (map (λ (t : Ticket J). f t.job.value) after) + 1 ≡ length v
less_by {J} {X} f tickets after v i is inside gone =
    let a : length (map (λ (t : Ticket J). f t.job.value) after) ≡ length after = length-map after (λ (t : Ticket J). f t.job.value) in
    let b : length after ≡ length (remove tickets i) = ap (λ (l : List (Ticket J)). length l) gone in
    let c : length (remove tickets i) + 1 ≡ length tickets = length-remove tickets i inside in
    let d : length (map (λ (t : Ticket J). f t.job.value) tickets) ≡ length tickets = length-map tickets (λ (t : Ticket J). f t.job.value) in
    let e : length (map (λ (t : Ticket J). f t.job.value) tickets) ≡ length v = ap (λ (l : List X). length l) is in
    omega arith

-- one ticket less is one job less
pub one_less : {J X D : Type 0} (f : J → X) (tickets after : List (Ticket J)) (v : List X) (is : map (λ (t : Ticket J). f t.job.value) tickets ≡ v) (o : Option D) (answers : J → D → Type 0) → 0 < length v → Came f tickets after v is o answers → IfNone o (after ≡ remove tickets 0) → length (map (λ (t : Ticket J). f t.job.value) after) + 1 ≡ length v
one_less {J} {X} f tickets after v is None answers there came lost =
    let d : length (map (λ (t : Ticket J). f t.job.value) tickets) ≡ length tickets = length-map tickets (λ (t : Ticket J). f t.job.value) in
    let e : length (map (λ (t : Ticket J). f t.job.value) tickets) ≡ length v = ap (λ (l : List X). length l) is in
    less_by f tickets after v 0 is (omega arith) lost
one_less f tickets after v is (Some d) answers there came lost = less_by f tickets after v came.0 is (within tickets came.0 came.1 came.2) came.4

-- and there is a worker for each that is left
pub still_served : {J D : Type 0} (tickets after : List (Ticket J)) (workers : ℕ) (o : Option D) (answers : J → D → Type 0) → length tickets ≤ workers → 0 < length tickets
    → Came (λ (j : J). j) tickets after (map (λ (t : Ticket J). t.job.value) tickets) refl o answers → IfNone o (after ≡ remove tickets 0) → length after ≤ workers
still_served {J} tickets after workers o answers few one_is came lost =
    let d : length (map (λ (t : Ticket J). t.job.value) tickets) ≡ length tickets = length-map tickets (λ (t : Ticket J). t.job.value) in
    let e : length (map (λ (t : Ticket J). t.job.value) after) ≡ length after = length-map after (λ (t : Ticket J). t.job.value) in
    let one : length (map (λ (t : Ticket J). t.job.value) after) + 1 ≡ length (map (λ (t : Ticket J). t.job.value) tickets) =
    one_less (λ (j : J). j) tickets after (map (λ (t : Ticket J). t.job.value) tickets) refl o answers (omega arith) came lost in omega arith

-- how many tickets there are
pub as_many : {J X : Type 0} (f : J → X) (tickets : List (Ticket J)) (v : List X) → map (λ (t : Ticket J). f t.job.value) tickets ≡ v → length tickets ≡ length v
as_many {J} {X} f tickets v is = sym (length-map tickets (λ (t : Ticket J). f t.job.value)) ∙ ap (length {A = X}) is

-- it was read that the board is closed
pub saw_closed : {J O : Type 0} (v w : View J O) (last slots found : ℕ) → w ≡ having_read v ((last, found) ∷ []) → last ≡ slots → found ≡ 1 → (at : ℕ) × (get_elem? w.read at ≡ some (slots, 1))
saw_closed {J} {O} v w last slots found e is one = (
  length v.read,
  ap (λ (u : View J O). get_elem? u.read (length v.read)) e ∙ at_last v.read (last, found) (length v.read) refl ∙ ap (λ (z : ℕ). some (z, found)) is ∙ ap (λ (z : ℕ). some (slots, z)) one,
)

-- what was taken out of a list stood there
module _ {A : Type 0} (after : List A) where
  pub stood : (l : List A) (i : ℕ) (a : A) (P : A → Type 0) → i < length l → a ≡ slice_index_or l i a → P a → IsSomeAnd (slice_get l i) P
  stood [] i a P near is p = absurd (omega arith)
  stood (x ∷ xs) zero a P near is p = subst P is p
  stood (x ∷ xs) (suc i) a P near is p = stood xs i a P (omega arith) is p

  module _ {D : Type 0} (l : List A) (i : ℕ) (a : A) (near : i < length l) (is : a ≡ slice_index_or l i a) where
    pub came_of : (F : A → D → Type 0) (o : Option D) → after ≡ remove l i → IfSome o (F a) → IfSome o (λ d. (i : ℕ) × IsSomeAnd (slice_get l i) (λ x. F x d) × (after ≡ remove l i))
    came_of F None items h = tt
    came_of F (Some d) items h = (i, stood l i a (λ x. F x d) near is h, items)

    pub lost_of : (P : A → Type 0) (o : Option D) → IfNone o (P a) → IfNone o ((i : ℕ) × IsSomeAnd (slice_get l i) P)
    lost_of P None h = (i, stood l i a P near is h)
    lost_of P (Some d) h = tt

-- a hand that took a job holds it
module _ {J O : Type 0} (was v : View J O) (slots : ℕ) where
  pub taken_one : (o : Option (ℕ × J)) →
      MatchOption o ((gained : List (ℕ × ℕ)) × (v ≡ having_read was gained) × MissedAll slots gained)
      (λ t. (gained : List (ℕ × ℕ)) × (slot : ℕ) × (v ≡ after_take (having_read was gained) t.0 slot t.1) × HasJob v t.0 slot t.1 × FoundJob slot t.0 gained) →
      IfSome o (λ t. (slot : ℕ) × HasJob v t.0 slot t.1)
  taken_one None h = tt
  taken_one (Some t) (gained, slot, is, has, found) = (slot, has)
