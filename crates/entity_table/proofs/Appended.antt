-- What an index behind the last one makes of an id book and its vacant indices.
use Rattle.std.proofs.Common.{◌≡◌, ℕ, suc, ◌+◌, ◌<◌, ◌≤◌, Bool, true, false, cond, nat_le, List, [], ◌∷◌, ◌++◌, length, refl, ap, sym, ◌∙◌, arith}
use Rattle.std.specs.List.{AllByRecursion}
use Rattle.std.proofs.lemmas.Bool.{cond-true, cond-false, cond_both, lt-leb}
use Rattle.std.proofs.lemmas.List.{length-append, append-nil}
use Rattle.model.specs.state.State.{Slot, is_vacant, is_living, most_indices}
use Rattle.model.specs.state.Ids.{vacant_from, vacant_indices}
use Rattle.model.specs.state.Shape.{IsSlot}
use Rattle.model.proofs.lists.Each.{each-weaker, each-append}
use Rattle.entity_table.specs.Rising.{Numbers, insert_rising}
use Rattle.entity_table.specs.Ids.{living_count, IsBook, IsKept}
use Rattle.entity_table.proofs.Grants.{vacant_from-append}

-- a number above all others stands last
insert_last : (n : ℕ) (ms : List ℕ) → AllByRecursion (λ m. m < n) ms → insert_rising n ms ≡ ms ++ n ∷ []
insert_last n [] h = refl
insert_last n (m ∷ ms) h = cond-false (nat_le n m) (n ∷ m ∷ ms) (m ∷ insert_rising n ms) (lt-leb n m h.0) ∙ ap (◌∷◌ m) (insert_last n ms h.1)

-- no vacant index is past the end
vacant-below : (b : ℕ) (xs : List Slot) → AllByRecursion (λ m. m < b + length xs) (vacant_from b xs)
vacant-below b [] = tt
vacant-below b (x ∷ xs) =
    let later : AllByRecursion (λ m. m < b + suc (length xs)) (vacant_from (suc b) xs) =
    each-weaker (λ m. m < suc b + length xs) (λ m. m < b + suc (length xs)) (λ m l. omega arith) (vacant_from (suc b) xs) (vacant-below (suc b) xs) in
    cond_both (is_vacant x.status) (b ∷ vacant_from (suc b) xs) (vacant_from (suc b) xs) (AllByRecursion (λ m. m < b + suc (length xs))) (λ e. (omega arith, later)) (λ e. later)

-- how many live
pub count-append : (xs : List Slot) (s : Slot) → living_count (xs ++ s ∷ []) ≡ cond (is_living s.status) (suc (living_count xs)) (living_count xs)
count-append [] s = refl
count-append (x ∷ xs) s = ap (λ n. cond (is_living x.status) (suc n) n) (count-append xs s) ∙ go (is_living x.status) (is_living s.status)
  where
    go : (b c : Bool) → cond b (suc (cond c (suc (living_count xs)) (living_count xs))) (cond c (suc (living_count xs)) (living_count xs))
        ≡ cond c (suc (cond b (suc (living_count xs)) (living_count xs))) (cond b (suc (living_count xs)) (living_count xs))
    go true true = refl
    go true false = refl
    go false true = refl
    go false false = refl

book-append : (xs : List Slot) (s : Slot) → IsSlot (λ kind. 0) 0 s → length xs < most_indices → IsBook xs → IsBook (xs ++ s ∷ [])
book-append xs s here l h = let few = h.few in record {
  slots = each-append (IsSlot (λ kind. 0) 0) xs (s ∷ []) h.slots (here, tt);
  few = omega (arith, length-append xs (s ∷ []));
}

-- which are vacant
vacant-append : (xs : List Slot) (s : Slot) → vacant_indices (xs ++ s ∷ []) ≡ vacant_indices xs ++ cond (is_vacant s.status) (length xs ∷ []) []
vacant-append xs s =
    vacant_from-append 0 xs (s ∷ [])
    ∙ ap (λ n. vacant_indices xs ++ cond (is_vacant s.status) (n ∷ []) []) (let z : 0 + length xs ≡ length xs = omega arith in z)

-- it is vacant
pub kept-vacant : (xs : List Slot) (s : Slot) (numbers more : Numbers) → IsSlot (λ kind. 0) 0 s → length xs < most_indices → is_vacant s.status ≡ true →
    more.rising ≡ insert_rising (length xs) numbers.rising → suc (length xs) ≤ more.room → IsKept xs numbers → IsKept (xs ++ s ∷ []) more
kept-vacant xs s numbers more here l vacant e room h = record {
  whole = book-append xs s here l h.whole;
  vacant = e ∙ ap (insert_rising (length xs)) h.vacant
      ∙ insert_last (length xs) (vacant_indices xs) (each-weaker (λ m. m < 0 + length xs) (λ m. m < length xs) (λ m k. omega arith) (vacant_indices xs) (vacant-below 0 xs))
      ∙ ap (λ last. vacant_indices xs ++ last) (sym (cond-true (is_vacant s.status) (length xs ∷ []) [] vacant))
      ∙ sym (vacant-append xs s);
  room = omega (arith, length-append xs (s ∷ []));
}

-- it isn't
pub kept-held : (xs : List Slot) (s : Slot) (numbers more : Numbers) → IsSlot (λ kind. 0) 0 s → length xs < most_indices → is_vacant s.status ≡ false →
    more.rising ≡ numbers.rising → suc (length xs) ≤ more.room → IsKept xs numbers → IsKept (xs ++ s ∷ []) more
kept-held xs s numbers more here l held e room h = record {
  whole = book-append xs s here l h.whole;
  vacant = e ∙ h.vacant ∙ sym (append-nil (vacant_indices xs))
      ∙ ap (λ last. vacant_indices xs ++ last) (sym (cond-false (is_vacant s.status) (length xs ∷ []) [] held))
      ∙ sym (vacant-append xs s);
  room = omega (arith, length-append xs (s ∷ []));
}
