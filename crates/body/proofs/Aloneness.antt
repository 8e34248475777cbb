-- Queries of one system that don't conflict leave each other's columns alone.
use Rattle.std.proofs.Common.{◌≡◌, ℕ, zero, suc, ◌+◌, Bool, true, false, cond, ◌||◌, ◌&&◌, ◌==◌, List, [], ◌∷◌, get_or, map, slice_get, Some, is_some, refl, sym, ap, ◌∙◌, subst, arith}
use mathlib.Core.Path.{fun_ext}
use Rattle.std.specs.List.{list_all}
use Rattle.model.specs.Lists.{has}
use Rattle.model.specs.state.State.{Slot, Component, fresh_slot, is_living}
use Rattle.model.specs.state.Rows.{cell_at, kinds_of, row_at}
use Rattle.model.specs.access.Query.{Term, matches, writes}
use Rattle.model.specs.shown.Input.{ShownRow, is_row, passes, shown_row, rows_from}
use Rattle.archetype_store.specs.Layout.{archetype_at}
use Rattle.std.proofs.lemmas.Bool.{and_parts as and-parts, or_right as or-right}
use Rattle.model.proofs.serial.Conflicts.{touches_from_writes as writes-touches}
use Rattle.body.specs.Sheet.{Sheet}
use Rattle.body.specs.Apart.{IsPicked, ApartAreAlone}
use Rattle.body.proofs.Gets.{same-some, all-get}
use Rattle.body.proofs.Plannings.{is-in}

-- a row of a query, at the slot of its index
pub record IsRowAt (query : List Term) (last first : ℕ) (slots : List Slot) (row : ShownRow) : Type 0 where
  pub at : ℕ
  pub index_is : row.entity.index ≡ first + at
  pub shown_is : row ≡ shown_row query (first + at) (get_or slots at fresh_slot)
  pub passed : is_row query last (get_or slots at fresh_slot) ≡ true

later-row : (query : List Term) (last first : ℕ) (x : Slot) (slots : List Slot) (row : ShownRow) → IsRowAt query last (suc first) slots row → IsRowAt query last first (x ∷ slots) row
later-row query last first x slots row h = let i = h.index_is in record {
  at = suc h.at;
  index_is = (let e : row.entity.index ≡ first + suc h.at = omega arith in e);
  shown_is = h.shown_is ∙ ap (λ n. shown_row query n (get_or slots h.at fresh_slot)) (let e : suc first + h.at ≡ first + suc h.at = omega arith in e);
  passed = h.passed;
}

pub row-at-slot : (query : List Term) (last first : ℕ) (slots : List Slot) (r : ℕ) (row : ShownRow) → slice_get (rows_from query last first slots) r ≡ Some row → IsRowAt query last first slots row
unfolding rows_from
row-at-slot query last first [] r row h = absurd (cc)
row-at-slot query last first (x ∷ slots) r row h = at (is_row query last x) refl r h (λ k e. row-at-slot query last (suc first) slots k row e)
  where
    here : shown_row query first x ≡ row → is_row query last x ≡ true → IsRowAt query last first (x ∷ slots) row
    here e p = record {
      at = zero;
      index_is = (let f = ap (λ (s : ShownRow). s.entity.index) e in (let z : row.entity.index ≡ first + 0 = omega arith in z));
      shown_is = sym e ∙ ap (λ n. shown_row query n x) (let z : first ≡ first + 0 = omega arith in z);
      passed = p;
    }

    at : (b : Bool) → is_row query last x ≡ b → (k : ℕ) → slice_get (cond b (shown_row query first x ∷ rows_from query last (suc first) slots) (rows_from query last (suc first) slots)) k ≡ Some row →
        ((k : ℕ) → slice_get (rows_from query last (suc first) slots) k ≡ Some row → IsRowAt query last (suc first) slots row) → IsRowAt query last first (x ∷ slots) row
    at true e zero g more = here (same-some (shown_row query first x) row g) e
    at true e (suc k) g more = later-row query last first x slots row (more k g)
    at false e k g more = later-row query last first x slots row (more k g)

-- the kinds of a row are those of its components
kinds-are : (row : List Component) (kind : ℕ) → kinds_of row kind ≡ has kind (map (λ c. c.kind) row)
kinds-are [] kind = refl
kinds-are (c ∷ cs) kind = at (c.kind == kind) (kinds-are cs kind)
  where
    at : (b : Bool) → is_some (cell_at cs kind) ≡ has kind (map (λ c. c.kind) cs) → is_some (cond b (Some c.cell) (cell_at cs kind)) ≡ (b || has kind (map (λ c. c.kind) cs))
    at true h = refl
    at false h = h

rest-of : (a b c : Bool) → ((a && b) && c) ≡ true → (b && c) ≡ true
rest-of true b c h = h
rest-of false b c h = absurd (cc)

second : (slot : Slot) (t : Sheet) (last : ℕ) → is_row t.terms last slot ≡ true → (matches t.terms (kinds_of slot.row) && list_all (passes last slot.row) t.terms) ≡ true
second slot t last h = rest-of (is_living slot.status) (matches t.terms (kinds_of slot.row)) (list_all (passes last slot.row) t.terms) h

pub apart-alone : ApartAreAlone
apart-alone slots layout last sheets n s laid there over apart j column e place x g m t f d w r row h i =
    let mine = over n s there in
    let theirs = over m t f in
    let picked = all-get (IsPicked s.terms layout) s.taken j column mine.columns_are e in
    let a = archetype_at layout column.archetype in
    let lives = laid.theirs column.archetype x (is-in a.entities place x (ap (λ es. slice_get es place) (sym picked.entities_are) ∙ g)) in
    let at = row-at-slot t.terms last 0 slots r row (ap (λ rs. slice_get rs r) (sym theirs.rows_are) ∙ h) in
    let index : at.at ≡ x.index = (let a = at.index_is in omega arith) in
    let slot = get_or slots at.at fresh_slot in
    let passed = and-parts (matches t.terms (kinds_of slot.row)) (list_all (passes last slot.row) t.terms) (second slot t last at.passed) in
    let kinds : kinds_of slot.row ≡ (λ kind. has kind a.kinds) = fun_ext (λ kind. kinds-are slot.row kind ∙ ap (has kind) (ap (λ k. map (λ c. c.kind) (row_at slots k)) index ∙ lives.1)) in
    apart m t f d column.kind (record {
      kinds = λ kind. has kind a.kinds;
      first_matches = picked.matched;
      second_matches = subst (λ ks. matches t.terms ks ≡ true) kinds passed.0;
      holds = picked.held;
      first_touches = picked.touched;
      second_touches = writes-touches t.terms column.kind w;
      one_writes = or-right (writes s.terms column.kind) (writes t.terms column.kind) w;
    })
