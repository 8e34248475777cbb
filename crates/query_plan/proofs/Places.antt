-- Rows stand where they say.
use Rattle.std.proofs.Common.{◌≡◌, ℕ, suc, ◌+◌, ◌<◌, Bool, true, false, cond, not, inl, inr, List, [], ◌∷◌, length, get_or, refl, sym, ap, subst, ◌∙◌, arith}
use Rattle.std.specs.List.{AllByRecursion}
use Rattle.std.proofs.lemmas.Bool.{and_parts, not-true}
use Rattle.model.specs.declared.entities.Entity.{Entity}
use Rattle.model.specs.Lists.{is_there}
use Rattle.model.specs.state.State.{Slot, fresh_slot}
use Rattle.model.specs.access.Query.{Term}
use Rattle.model.specs.shown.Input.{is_row}
use Rattle.std.proofs.lemmas.Option.{slice_get-get_or}
use Rattle.column_store.specs.RowOrder.{entity_at, IsOrderOf}
use Rattle.archetype_store.specs.Layout.{Archetype, archetype_at}
use Rattle.query_plan.specs.declared.row.Row.{Row}
use Rattle.query_plan.specs.Standing.{is_row_at, rows_among, is_bare_row, bare_from, IsStanding}

-- a row that may be there, before others
each_cond : (P : Row → Type 0) (b : Bool) (x : Row) (xs : List Row) → (b ≡ true → P x) → AllByRecursion P xs → AllByRecursion P (cond b (x ∷ xs) xs)
each_cond P true x xs px pxs = (px refl, pxs)
each_cond P false x xs px pxs = pxs

module _ (query : List Term) (last : ℕ) (slots : List Slot) (layout : List Archetype) where
  bare_stand : (i : ℕ) (ss : List Slot) → ((k : ℕ) → get_or ss k fresh_slot ≡ get_or slots (i + k) fresh_slot) → AllByRecursion (IsStanding slots layout) (bare_from query last (length layout) i ss)
  bare_stand i [] f = tt
  bare_stand i (s ∷ ss) f =
      each_cond (IsStanding slots layout) (is_bare_row query last s) (record { entity = record { index = i; generation = s.generation }; archetype = length layout; place = i })
      (bare_from query last (length layout) (suc i) ss)
      (λ bare. inr (
        refl,
        refl,
        ap (λ (x : Slot). is_there x.row) (sym (f 0 ∙ ap (λ m. get_or slots m fresh_slot) (let e : i + 0 ≡ i = omega arith in e)))
            ∙ not-true (is_there s.row) (and_parts (is_row query last s) (not (is_there s.row)) bare).1,
      ))
      (bare_stand (suc i) ss (λ k. f (suc k) ∙ ap (λ m. get_or slots m fresh_slot) (let e : i + suc k ≡ suc i + k = omega arith in e)))

  among_stand : (n : ℕ) (places : List ℕ) → AllByRecursion (λ place. place < length (archetype_at layout n).entities) places →
      AllByRecursion (IsStanding slots layout) (rows_among query last slots n (archetype_at layout n).entities places)
  among_stand n [] h = tt
  among_stand n (place ∷ places) h =
      let es = (archetype_at layout n).entities in
      each_cond (IsStanding slots layout) (is_row_at query last slots (entity_at es place).index) (record { entity = entity_at es place; archetype = n; place = place })
      (rows_among query last slots n es places) (λ is. inl (slice_get-get_or es place (record { index = 0; generation = 0 }) h.0)) (among_stand n places h.1)

  -- those without components
  pub all_bare_stand : (n : ℕ) (rows : List Row) → n ≡ length layout → rows ≡ bare_from query last n 0 slots → AllByRecursion (IsStanding slots layout) rows
  all_bare_stand n rows count is =
      subst (AllByRecursion (IsStanding slots layout)) (sym (is ∙ ap (λ m. bare_from query last m 0 slots) count))
      (bare_stand 0 slots (λ k. ap (λ m. get_or slots m fresh_slot) (let e : k ≡ 0 + k = omega arith in e)))

  -- those of an archetype
  pub theirs_stand : (n : ℕ) (es : List Entity) (places : List ℕ) (rows : List Row) → es ≡ (archetype_at layout n).entities → IsOrderOf es places → rows ≡ rows_among query last slots n es places →
      AllByRecursion (IsStanding slots layout) rows
  theirs_stand n es places rows same order is =
      let within = subst (λ (xs : List Entity). AllByRecursion (λ place. place < length xs) places) same order.within in
      subst (AllByRecursion (IsStanding slots layout)) (sym (is ∙ ap (λ xs. rows_among query last slots n xs places) same)) (among_stand n places within)
