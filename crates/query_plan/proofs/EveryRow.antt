-- A row for each entity of an archetype.
use Rattle.std.proofs.Common.{◌≡◌, ℕ, zero, suc, ◌+◌, ◌<◌, ◌≤◌, true, cond, not, ◌==◌, List, [], ◌∷◌, ◌++◌, length, get_or, slice_get, Some, drop, refl, sym, ap, ◌∙◌, append_assoc, append-nil, arith}
use Rattle.std.proofs.lemmas.List.{drop_more, drop_all, get_or_past}
use Rattle.std.proofs.lemmas.Bool.{ne_eqb}
use Rattle.model.specs.declared.entities.Entity.{Entity}
use Rattle.model.specs.Lists.{is_there}
use Rattle.model.specs.state.State.{Slot}
use Rattle.column_store.specs.RowOrder.{numbers_from, entity_at}
use Rattle.archetype_store.specs.Layout.{Archetype, archetype_at}
use Rattle.query_plan.specs.declared.row.Row.{Row}
use Rattle.model.specs.access.Query.{Term}
use Rattle.query_plan.specs.Places.{every_row, AreEvery}
use Rattle.query_plan.specs.Standing.{is_row_at, rows_among}

-- as many as entities
pub length-every : (n place : ℕ) (es : List Entity) → length (every_row n place es) ≡ length es
length-every n place [] = refl
length-every n place (e ∷ es) = ap suc (length-every n (suc place) es)

-- the row of a place
pub every-at : (n place i : ℕ) (es : List Entity) (d : Row) (x : Entity) → i < length es → get_or (every_row n place es) i d ≡ record { entity = get_or es i x; archetype = n; place = place + i }
every-at n place i [] d x l = absurd (omega arith)
every-at n place zero (e ∷ es) d x l = ap (λ p. (let r : Row = record { entity = e; archetype = n; place = p } in r)) (let h : place ≡ place + 0 = omega arith in h)
every-at n place (suc i) (e ∷ es) d x l =
    every-at n (suc place) i es d x (omega arith)
    ∙ ap (λ p. (let r : Row = record { entity = get_or es i x; archetype = n; place = p } in r)) (let h : suc place + i ≡ place + suc i = omega arith in h)

-- the same, counted from the first
pub every-first : (n i : ℕ) (es : List Entity) (d : Row) (x : Entity) → i < length es → get_or (every_row n 0 es) i d ≡ record { entity = get_or es i x; archetype = n; place = i }
every-first n i es d x l =
    every-at n 0 i es d x l ∙ ap (λ p. (let r : Row = record { entity = get_or es i x; archetype = n; place = p } in r)) (let h : 0 + i ≡ i = omega arith in h)

-- each is of the archetype, at its own place
every-placed : (n place i : ℕ) (es : List Entity) (row : Row) → slice_get (every_row n place es) i ≡ Some row → (row.archetype ≡ n) × (row.place ≡ place + i)
every-placed n place i [] row h = absurd (cc)
every-placed n place zero (e ∷ es) row h =
    let made : Row = record { entity = e; archetype = n; place = place } in
    let same : made ≡ row = cc in
    (sym (ap (λ (r : Row). r.archetype) same), sym (ap (λ (r : Row). r.place) same) ∙ (let p : place ≡ place + 0 = omega arith in p))
every-placed n place (suc i) (e ∷ es) row h =
    let more = every-placed n (suc place) i es row h in
    (more.0, more.1 ∙ (let p : suc place + i ≡ place + suc i = omega arith in p))

pub are-every : (n : ℕ) (es : List Entity) → AreEvery n (every_row n 0 es)
are-every n es = λ i row h.
    let p = every-placed n 0 i es row h in
    (p.0, p.1 ∙ (let e : 0 + i ≡ i = omega arith in e))

-- there is none just where the count is 0
pub none-every : (n count : ℕ) (es : List Entity) → length es ≡ count → (count == 0) ≡ not (is_there (every_row n 0 es))
none-every n count [] h = ap (λ k. k == 0) (sym h)
none-every n count (e ∷ es) h = ne_eqb count 0 (λ z. absurd (omega arith))

-- past the end of a layout nobody is
pub nobody-past : (layout : List Archetype) (n : ℕ) → length layout ≤ n → (archetype_at layout n).entities ≡ []
nobody-past layout n l = ap (λ (a : Archetype). a.entities) (get_or_past layout n (record { kinds = []; entities = []; homes = [] }) l)

-- ---- places, one by one

module _ (n place : ℕ) (es : List Entity) (d : Entity) (rows all : List Row) (l : place < length es) (so_far : rows ++ every_row n place (drop place es) ≡ all) where
  here : every_row n place (drop place es) ≡ record { entity = get_or es place d; archetype = n; place = place } ∷ every_row n (place + 1) (drop (place + 1) es)
  here =
      ap (every_row n place) (drop_more es place d l)
      ∙ ap (λ p. (let r : Row = record { entity = get_or es place d; archetype = n; place = place } in r) ∷ every_row n p (drop (place + 1) es)) (let e : suc place ≡ place + 1 = omega arith in e)

  pub every_taken : (rows ++ record { entity = get_or es place d; archetype = n; place = place } ∷ []) ++ every_row n (place + 1) (drop (place + 1) es) ≡ all
  every_taken =
      append_assoc rows (record { entity = get_or es place d; archetype = n; place = place } ∷ []) (every_row n (place + 1) (drop (place + 1) es))
      ∙ ap (λ rs. rows ++ rs) (sym here) ∙ so_far

pub every_done : (n place : ℕ) (es : List Entity) (rows all : List Row) → length es ≤ place → rows ++ every_row n place (drop place es) ≡ all → rows ≡ all
every_done n place es rows all l h = sym (append-nil rows) ∙ ap (λ rs. rows ++ rs) (sym (ap (every_row n place) (drop_all place es l))) ∙ h

-- where each is a row they are all
module _ (query : List Term) (last : ℕ) (slots : List Slot) (n : ℕ) (es : List Entity) (all : (i : ℕ) → i < length es → is_row_at query last slots (entity_at es i).index ≡ true) where
  every_from : (place count : ℕ) → place + count ≡ length es → every_row n place (drop place es) ≡ rows_among query last slots n es (numbers_from place count)
  every_from place zero h = ap (every_row n place) (drop_all place es (omega arith))
  every_from place (suc count) h =
      let d : Entity = record { index = 0; generation = 0 } in
      let r : Row = record { entity = entity_at es place; archetype = n; place = place } in
      let next : place + 1 ≡ suc place = omega arith in
      ap (every_row n place) (drop_more es place d (omega arith))
      ∙ ap (λ p. r ∷ every_row n (suc place) (drop p es)) next
      ∙ ap (λ rs. r ∷ rs) (every_from (suc place) count (omega arith))
      ∙ sym (ap (λ b. cond b (r ∷ rows_among query last slots n es (numbers_from (suc place) count)) (rows_among query last slots n es (numbers_from (suc place) count))) (all place (omega arith)))

  pub every_is : every_row n 0 es ≡ rows_among query last slots n es (numbers_from 0 (length es))
  every_is = every_from 0 (length es) (omega arith)

-- of which none is there
pub none_there : {A : Type 0} (xs : List A) → not (is_there xs) ≡ true → xs ≡ []
none_there [] h = refl
none_there (x ∷ xs) h = absurd (cc)
