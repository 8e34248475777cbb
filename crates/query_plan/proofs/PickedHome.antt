-- Where the columns that a query picks are at home, so are those that its filters read.
use Rattle.std.proofs.Common.{◌≡◌, ℕ, zero, suc, ◌+◌, Bool, true, false, cond, ◌==◌, ◌⊎◌, inl, inr, List, [], ◌∷◌, ◌++◌, map, Some, refl, ap, ◌∙◌, subst, arith}
use Rattle.std.specs.List.{AllByRecursion}
use Rattle.std.proofs.lemmas.Bool.{and_parts, or_cases, or_left, or_right, eqb-true, eq-eqb}
use Rattle.model.specs.Lists.{has, is_number}
use Rattle.model.proofs.lists.Each.{each-append}
use Rattle.archetype_store.proofs.ColumnsAtHome.{prove_kinds_home}
use Rattle.model.specs.access.Query.{Term, matches, admits, touches, touched, writes}
use Rattle.model.specs.access.Query.Term.{Entity, Read, Mut, Opt, With, Without, Added, Changed, AnyOf}
use Rattle.archetype_store.specs.Layout.{Archetype, archetype_at, column_home}
use Rattle.query_plan.specs.Picks.{Picked, picked_in, picked_of, picked_from}
use Rattle.query_plan.specs.Standing.{IsFilterHome, ArePickedHome, PicksTellFilters, HomeTellsPicks}

-- what holds of all holds of the second part
each_right : (P : Picked → Type 0) (xs ys : List Picked) → AllByRecursion P (xs ++ ys) → AllByRecursion P ys
each_right P [] ys h = h
each_right P (x ∷ xs) ys h = each_right P xs ys h.1

each_left : (P : Picked → Type 0) (xs ys : List Picked) → AllByRecursion P (xs ++ ys) → AllByRecursion P xs
each_left P [] ys h = tt
each_left P (x ∷ xs) ys h = (h.0, each_left P xs ys h.1)

module _ (query : List Term) (H : ℕ → ℕ → Type 0) (k : ℕ) (touching : touches query k ≡ true) where
  -- a column that is picked of kinds
  in_picked : (n : ℕ) (kinds : List ℕ) → AllByRecursion (λ p. H p.archetype p.kind) (picked_in query n kinds) → has k kinds ≡ true → H n k
  in_picked n [] home there = absurd (cc)
  in_picked n (m ∷ ms) home there = go (or_cases (m == k) (has k ms) there) (in_picked n ms)
    where
      rest : (b : Bool) → AllByRecursion (λ (p : Picked). H p.archetype p.kind) (cond b (record { archetype = n; kind = m; is_written = writes query m } ∷ picked_in query n ms) (picked_in query n ms)) →
          AllByRecursion (λ (p : Picked). H p.archetype p.kind) (picked_in query n ms)
      rest true h = h.1
      rest false h = h

      first : (b : Bool) → b ≡ true → AllByRecursion (λ (p : Picked). H p.archetype p.kind) (cond b (record { archetype = n; kind = m; is_written = writes query m } ∷ picked_in query n ms) (picked_in query n ms)) → H n m
      first true e h = h.0
      first false e h = absurd (cc)

      go : ((m == k) ≡ true) ⊎ (has k ms ≡ true) → (AllByRecursion (λ (p : Picked). H p.archetype p.kind) (picked_in query n ms) → has k ms ≡ true → H n k) → H n k
      go (inl same) later = let e = eqb-true m k same in subst (λ j. H n j) e (first (touches query m) (ap (touches query) e ∙ touching) home)
      go (inr more) later = later (rest (touches query m) home) more

  of_picked : (n : ℕ) (kinds : List ℕ) → AllByRecursion (λ p. H p.archetype p.kind) (picked_of query n kinds) → matches query (λ kind. has kind kinds) ≡ true → has k kinds ≡ true → H n k
  of_picked n kinds home match there = in_picked n kinds (go (matches query (λ kind. has kind kinds)) match home) there
    where
      go : (b : Bool) → b ≡ true → AllByRecursion (λ (p : Picked). H p.archetype p.kind) (cond b (picked_in query n kinds) []) → AllByRecursion (λ (p : Picked). H p.archetype p.kind) (picked_in query n kinds)
      go true e h = h
      go false e h = absurd (cc)

  pub from_picked : (m n : ℕ) (layout : List Archetype) → AllByRecursion (λ p. H p.archetype p.kind) (picked_from query m (map (λ (a : Archetype). a.kinds) layout)) →
      matches query (λ kind. has kind (archetype_at layout n).kinds) ≡ true → has k (archetype_at layout n).kinds ≡ true → H (m + n) k
  from_picked m n [] home match there = absurd (cc)
  from_picked m zero (a ∷ others) home match there =
      subst (λ j. H j k) (let e : m ≡ m + zero = omega arith in e)
      (of_picked m a.kinds (each_left (λ p. H p.archetype p.kind) (picked_of query m a.kinds) (picked_from query (suc m) (map (λ (b : Archetype). b.kinds) others)) home) match there)
  from_picked m (suc n) (a ∷ others) home match there =
      subst (λ j. H j k) (let e : suc m + n ≡ m + suc n = omega arith in e)
      (from_picked (suc m) n others (each_right (λ p. H p.archetype p.kind) (picked_of query m a.kinds) (picked_from query (suc m) (map (λ (b : Archetype). b.kinds) others)) home) match there)

module _ (query : List Term) (layout : List Archetype) (home : ArePickedHome query layout) (n : ℕ) (match : matches query (λ kind. has kind (archetype_at layout n).kinds) ≡ true) where
  one : (k : ℕ) → touches query k ≡ true → has k (archetype_at layout n).kinds ≡ true → column_home (archetype_at layout n) k ≡ Some true
  one k touching there =
      subst (λ j. column_home (archetype_at layout j) k ≡ Some true) (let e : 0 + n ≡ n = omega arith in e)
      (from_picked query (λ m j. column_home (archetype_at layout m) j ≡ Some true) k touching 0 n layout home match there)

  same_number : (k : ℕ) → (k == k) ≡ true
  same_number k = eq-eqb k k refl

  each_filter : (ts : List Term) → ((k : ℕ) → touches ts k ≡ true → touches query k ≡ true) → matches ts (λ kind. has kind (archetype_at layout n).kinds) ≡ true →
      AllByRecursion (IsFilterHome (archetype_at layout n)) ts
  each_filter [] within m = tt
  each_filter (t ∷ ts) within m =
      let parts = and_parts (admits (λ kind. has kind (archetype_at layout n).kinds) t) (matches ts (λ kind. has kind (archetype_at layout n).kinds)) m in
      (go t parts.0 (λ k h. within k (or_left (is_number k (touched t)) (touches ts k) h)), each_filter ts (λ k h. within k (or_right (is_number k (touched t)) (touches ts k) h)) parts.1)
    where
      go : (u : Term) → admits (λ kind. has kind (archetype_at layout n).kinds) u ≡ true → ((k : ℕ) → is_number k (touched u) ≡ true → touches query k ≡ true) → IsFilterHome (archetype_at layout n) u
      go Entity a w = tt
      go (Read k) a w = tt
      go (Mut k) a w = tt
      go (Opt k) a w = tt
      go (With k) a w = tt
      go (Without k) a w = tt
      go (Added k) a w = one k (w k (same_number k)) a
      go (Changed k) a w = one k (w k (same_number k)) a
      go (AnyOf alternatives) a w = tt

pub picks_tell_filters : PicksTellFilters
picks_tell_filters query layout home n match = each_filter query layout home n match query (λ k h. h) match

-- ---- where all columns are at home

module _ (query : List Term) (H : ℕ → ℕ → Type 0) where
  each_in : (n : ℕ) (kinds : List ℕ) → ((k : ℕ) → has k kinds ≡ true → H n k) → AllByRecursion (λ p. H p.archetype p.kind) (picked_in query n kinds)
  each_in n [] h = tt
  each_in n (m ∷ ms) h = go (touches query m) (each_in n ms (λ k there. h k (or_right (m == k) (has k ms) there)))
    where
      go : (b : Bool) → AllByRecursion (λ (p : Picked). H p.archetype p.kind) (picked_in query n ms) →
          AllByRecursion (λ (p : Picked). H p.archetype p.kind) (cond b (record { archetype = n; kind = m; is_written = writes query m } ∷ picked_in query n ms) (picked_in query n ms))
      go true rest = (h m (or_left (m == m) (has m ms) (eq-eqb m m refl)), rest)
      go false rest = rest

  each_of : (n : ℕ) (kinds : List ℕ) → ((k : ℕ) → has k kinds ≡ true → H n k) → AllByRecursion (λ p. H p.archetype p.kind) (picked_of query n kinds)
  each_of n kinds h = go (matches query (λ kind. has kind kinds))
    where
      go : (b : Bool) → AllByRecursion (λ (p : Picked). H p.archetype p.kind) (cond b (picked_in query n kinds) [])
      go true = each_in n kinds h
      go false = tt

  each_from : (m : ℕ) (layout : List Archetype) → ((n k : ℕ) → has k (archetype_at layout n).kinds ≡ true → H (m + n) k) →
      AllByRecursion (λ p. H p.archetype p.kind) (picked_from query m (map (λ (a : Archetype). a.kinds) layout))
  each_from m [] h = tt
  each_from m (a ∷ others) h =
      each-append (λ p. H p.archetype p.kind) (picked_of query m a.kinds) (picked_from query (suc m) (map (λ (b : Archetype). b.kinds) others))
      (each_of m a.kinds (λ k there. subst (λ j. H j k) (let e : m + zero ≡ m = omega arith in e) (h zero k there)))
      (each_from (suc m) others (λ n k there. subst (λ j. H j k) (let e : m + suc n ≡ suc m + n = omega arith in e) (h (suc n) k there)))

pub prove_picks_home : HomeTellsPicks
prove_picks_home slots layout query laid home =
    each_from query (λ m j. column_home (archetype_at layout m) j ≡ Some true) 0 layout
    (λ n k there. subst (λ j. column_home (archetype_at layout j) k ≡ Some true) (let e : n ≡ 0 + n = omega arith in e) (prove_kinds_home slots layout n k laid home there))
