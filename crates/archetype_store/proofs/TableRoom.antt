-- Tables of which one has other room.
use Rattle.archetype_store.proofs.Common.{◌≡◌, ℕ, ◌<◌, List, [], ◌∷◌, length, set, map, ◌⊎◌, inl, inr, Result, Ok, Err, OnOk, OnErr, refl, sym, ap, ◌∙◌, cases_eq, get_or-set_same, get_or-set_other, TableRow, TableValue, empty_table, table_at, entities_at, with_room, AreAllAlike}
use Rattle.archetype_store.proofs.ColumnStandings.{alike_set, alike_same}

pub roomed_alike : (T : List TableValue) (t room : ℕ) → AreAllAlike T (set T t (with_room room (table_at T t)))
roomed_alike T t room = alike_set T t (with_room room (table_at T t)) (record { kinds = refl; homes = refl; rows = refl })

pub alike_entities : (T U : List TableValue) → AreAllAlike T U → (t : ℕ) → entities_at U t ≡ entities_at T t
alike_entities T U h t = ap (map (λ (row : TableRow). row.entity)) ((alike_same T U h).rows t)

-- one after the other
pub alike_twice : (T U V : List TableValue) → AreAllAlike T U → AreAllAlike U V → AreAllAlike T V
alike_twice [] [] [] h k = k
alike_twice [] [] (v ∷ vs) h k = absurd k
alike_twice [] (u ∷ us) V h k = absurd h
alike_twice (t ∷ ts) [] V h k = absurd h
alike_twice (t ∷ ts) (u ∷ us) [] h k = absurd k
alike_twice (t ∷ ts) (u ∷ us) (v ∷ vs) h k = (
  record { kinds = k.0.kinds ∙ h.0.kinds; homes = k.0.homes ∙ h.0.homes; rows = k.0.rows ∙ h.0.rows },
  alike_twice ts us vs h.1 k.1,
)

-- another table in one's place, of the same entities
pub set_entities : (T : List TableValue) (t : ℕ) (new : TableValue) → t < length T → map (λ (row : TableRow). row.entity) new.rows ≡ entities_at T t → (u : ℕ) → entities_at (set T t new) u ≡ entities_at T u
set_entities T t new within same u = go (cases_eq u t)
  where
    go : (u ≡ t) ⊎ (u ≡ t → ⊥) → entities_at (set T t new) u ≡ entities_at T u
    go (inl here) = ap (entities_at (set T t new)) here ∙ ap (λ (v : TableValue). map (λ (row : TableRow). row.entity) v.rows) (get_or-set_same T t new (empty_table []) within) ∙ same ∙ ap (entities_at T) (sym here)
    go (inr other) = ap (λ (v : TableValue). map (λ (row : TableRow). row.entity) v.rows) (get_or-set_other T t u new (empty_table []) other)

pub set_entities_if : {A E : Type 0} (r : Result A E) (T T' : List TableValue) (t : ℕ) (new : TableValue) → t < length T → map (λ (row : TableRow). row.entity) new.rows ≡ entities_at T t →
    OnOk r (T' ≡ set T t new) → OnErr r (T' ≡ T) → (u : ℕ) → entities_at T' u ≡ entities_at T u
set_entities_if (Ok a) T T' t new within same ok err u = ap (λ ts. entities_at ts u) ok ∙ set_entities T t new within same u
set_entities_if (Err e) T T' t new within same ok err u = ap (λ ts. entities_at ts u) err
