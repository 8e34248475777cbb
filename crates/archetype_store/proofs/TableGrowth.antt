-- Tables that grow, and rows from alike ones.
use Rattle.archetype_store.proofs.Common.{◌≡◌, ℕ, ◌<◌, ◌≤◌, List, [], ◌∷◌, ◌++◌, length, Option, Result, Ok, Err, IfOk, OnOk, sym, ap, subst, ◌∙◌, arith, TableValue, empty_table, EntityChange, EntityLocation, RowMove, kinds_at, AreShaped, AreUnlike, IsGrown, StorageValue, archetypes_of, place_of, holder_in, IsHolder, AreAlike, HaveRows, row_changed, holder_changed, IsPlanned}
use Rattle.std.proofs.lemmas.List.{length_push, get_or_push}
use Rattle.archetype_store.proofs.SingleRowMove.{alike_trans, grown_alike, reached_alike}

-- tables as they are
pub grown_self : (A : List TableValue) → AreShaped A → AreUnlike A → IsGrown A A
grown_self A shaped unlike = grind arith

-- a table that was added is the last one
pub table_added : {E : Type 0} (r : Result ℕ E) (T T' : List TableValue) (made : TableValue) → IfOk r (λ t. t ≡ length T) → OnOk r (T' ≡ T ++ made ∷ []) → IfOk r (λ t. t < length T')
table_added (Ok t) T T' made is more = omega (arith, is, ap length more, length_push T made)
table_added (Err e) T T' made is more = tt

pub kinds_added : {E : Type 0} (r : Result ℕ E) (T T' : List TableValue) (made : TableValue) (ns : List ℕ) → made.kinds ≡ ns → IfOk r (λ t. t ≡ length T) → OnOk r (T' ≡ T ++ made ∷ []) → IfOk r (λ t. kinds_at T' t ≡ ns)
kinds_added (Ok t) T T' made ns kinds is more = ap (λ ts. kinds_at ts t) more ∙ ap (λ (u : TableValue). u.kinds) (get_or_push T made (empty_table []) t (sym is)) ∙ kinds
kinds_added (Err e) T T' made ns kinds is more = tt

pub grown_trans : (A B C : List TableValue) → IsGrown A B → IsGrown B C → IsGrown A C
grown_trans A B C g h = record {
  held = λ t x. h.held t x ∙ g.held t x;
  entities = λ t. h.entities t ∙ g.entities t;
  rooms = λ t. h.rooms t ∙ g.rooms t;
  kinds = λ t l. h.kinds t (let m = g.longer in omega arith) ∙ g.kinds t l;
  longer = let m = g.longer in let n = h.longer in omega arith;
  shaped = h.shaped;
  unlike = h.unlike;
  owned = λ o. h.owned (g.owned o);
  layout = h.layout ∙ g.layout;
}

pub planned_kept : (T T' : List TableValue) (P P' : List (Option EntityLocation)) (m : RowMove) → IsGrown T T' → ((i : ℕ) → place_of P' i ≡ place_of P i) → length P ≤ length P' → IsPlanned T P m → IsPlanned T' P' m
planned_kept T T' P P' m g same longer plan = record {
  within = (let l = plan.within in omega arith);
  holder = subst (λ o. IsHolder m.change.now.entity.generation (holder_in o)) (sym (same m.change.now.entity.index)) plan.holder;
  to = λ t is. (let to = plan.to t is in record { within = (let l = to.within in let m = g.longer in omega arith); kinds = g.kinds t to.within ∙ to.kinds; there = to.there });
  none = plan.none;
}

-- what is done from alike rows
pub rows_from_alike : (A B C : StorageValue) (cs : List EntityChange) → AreAlike A B → HaveRows B cs C → HaveRows A cs C
rows_from_alike A B C cs alike h = record { rows = λ i. h.rows i ∙ ap (row_changed cs i) (alike.rows i); holders = λ i. h.holders i ∙ ap (holder_changed cs i) (alike.holders i) }

-- tables that grew, and places that are alike
pub planned_alike : (T T' : List TableValue) (P P' : List (Option EntityLocation)) → IsGrown T T' → ((i : ℕ) → place_of P' i ≡ place_of P i) → AreAlike (archetypes_of T P) (archetypes_of T' P')
planned_alike T T' P P' grown same =
    alike_trans (archetypes_of T P) (archetypes_of T' P) (archetypes_of T' P') (grown_alike T T' P grown) (reached_alike T' P P' same)
