-- One row after the other, of several that move.
use Rattle.archetype_store.proofs.Common.{◌≡◌, ℕ, zero, suc, ◌+◌, ◌<◌, false, ◌==◌, List, [], ◌∷◌, ◌++◌, length, get_or, take, drop, map, Option, sym, ap, subst, ◌∙◌, arith, take_more, drop_more, length-map, AllByRecursion, TableValue, EntityChange, EntityLocation, RowMove, AreOfOtherIndices, change_of, HaveRoom, HasLeft, IsPlanned}
use Rattle.std.proofs.lemmas.List.{get_or-map}
use Rattle.archetype_store.proofs.BookChanges.{before-other}
use Rattle.archetype_store.proofs.RowMoves.{map_drop}

others_later : (cs : List EntityChange) (n : ℕ) (d : EntityChange) → n < length cs → AreOfOtherIndices cs →
    AllByRecursion (λ (x : EntityChange). (x.entity.index == (get_or cs n d).entity.index) ≡ false) (drop (suc n) cs)
others_later [] n d l h = absurd (omega arith)
others_later (c ∷ cs) zero d l h = h.0
others_later (c ∷ cs) (suc n) d l h = others_later cs n d (omega arith) h.1

module _ (rows : List RowMove) (n : ℕ) (m : RowMove) (l : n < length rows) (is : get_or rows n m ≡ m) where
  rest_is : drop n rows ≡ m ∷ drop (n + 1) rows
  rest_is = drop_more rows n m l ∙ ap (λ x. x ∷ drop (n + 1) rows) is

  pub change_is : get_or (map change_of rows) n (change_of m) ≡ change_of m
  change_is = get_or-map change_of rows n m (change_of m) l ∙ ap change_of is

  pub within : n < length (map change_of rows)
  within = omega (arith, l, length-map rows change_of)

  more : (k : ℕ) → k + 1 ≡ suc k
  more k = omega arith

  pub later_apart : AreOfOtherIndices (map change_of rows) → AllByRecursion (λ (x : EntityChange). (x.entity.index == m.change.now.entity.index) ≡ false) (map change_of (drop (n + 1) rows))
  later_apart h = subst (λ xs. AllByRecursion (λ (x : EntityChange). (x.entity.index == m.change.now.entity.index) ≡ false) xs) (ap (λ k. drop k (map change_of rows)) (sym (more n)) ∙ sym (map_drop change_of (n + 1) rows))
      (subst (λ (c : EntityChange). AllByRecursion (λ (x : EntityChange). (x.entity.index == c.entity.index) ≡ false) (drop (suc n) (map change_of rows))) change_is (others_later (map change_of rows) n (change_of m) within h))

  pub earlier_apart : AreOfOtherIndices (map change_of rows) → AllByRecursion (λ (x : EntityChange). (x.entity.index == m.change.now.entity.index) ≡ false) (take n (map change_of rows))
  earlier_apart h = subst (λ (c : EntityChange). AllByRecursion (λ (x : EntityChange). (x.entity.index == c.entity.index) ≡ false) (take n (map change_of rows))) change_is (before-other (map change_of rows) n (change_of m) within h)

  pub planned_here : (T : List TableValue) (P : List (Option EntityLocation)) → AllByRecursion (IsPlanned T P) (drop n rows) → AllByRecursion (IsPlanned T P) (m ∷ drop (n + 1) rows)
  planned_here T P h = subst (AllByRecursion (IsPlanned T P)) rest_is h

  pub gone_here : (P : List (Option EntityLocation)) → AllByRecursion (HasLeft P) (drop n rows) → AllByRecursion (HasLeft P) (m ∷ drop (n + 1) rows)
  gone_here P h = subst (AllByRecursion (HasLeft P)) rest_is h

  -- one more has left, before those that have
  pub gone_more : (P : List (Option EntityLocation)) → HasLeft P m → AllByRecursion (HasLeft P) (drop (n + 1) rows) → AllByRecursion (HasLeft P) (drop n rows)
  gone_more P h all = subst (AllByRecursion (HasLeft P)) (sym rest_is) (h, all)

  pub room_here : (T : List TableValue) (P : List (Option EntityLocation)) → HaveRoom T P (drop n rows) → HaveRoom T P (m ∷ drop (n + 1) rows)
  room_here T P h = subst (HaveRoom T P) rest_is h

  pub taken_next : take (n + 1) (map change_of rows) ≡ take n (map change_of rows) ++ change_of m ∷ []
  taken_next = take_more (map change_of rows) n (change_of m) within ∙ ap (λ c. take n (map change_of rows) ++ c ∷ []) change_is

  pub rows_taken : take (n + 1) rows ≡ take n rows ++ m ∷ []
  rows_taken = take_more rows n m l ∙ ap (λ x. take n rows ++ x ∷ []) is

-- none is behind the last
pub none_behind : (P : List (Option EntityLocation)) (rows : List RowMove) → AllByRecursion (HasLeft P) (drop (length rows) rows)
none_behind P [] = tt
none_behind P (m ∷ rows) = none_behind P rows
