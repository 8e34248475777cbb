-- Whose columns are at home.
use Rattle.archetype_store.proofs.Common.{◌≡◌, ℕ, zero, suc, Bool, true, false, cond, ◌==◌, List, [], ◌∷◌, Option, Some, None, option_map, refl, sym, ap, ◌∙◌, slice_get, list_all, false≢true, or_left, Entity, ==-same, at_kind, Standing, TableValue, is_home, is_not_away, standing_of, Owned, Shared, Away, Archetype, archetype_at, has_index, layout_of, AreAllHome, IsCellHome, IsRowHome, table_at, number_of, entity_in_row, IsTableOf}
use Rattle.std.proofs.lemmas.Bool.{or_right, and_parts as both}
use Rattle.archetype_store.proofs.ArchetypeColumns.{numbered, standing_seen}
use Rattle.archetype_store.proofs.RowsOfArchetypes.{peopled, peopled_within, stands_there}
use Rattle.archetype_store.proofs.ColumnStandings.{homes_seen}

-- ---- where all columns are at home

homes_at : (layout : List Archetype) (n : ℕ) → AreAllHome layout → list_all (λ home. home) (archetype_at layout n).homes ≡ true
homes_at [] n h = refl
homes_at (a ∷ layout) zero h = h.0
homes_at (a ∷ layout) (suc n) h = homes_at layout n h.1

none_away : (ks : List ℕ) (k : ℕ) (homes : List Bool) → list_all (λ home. home) homes ≡ true → at_kind ks k homes ≡ Some false → ⊥
none_away [] k homes h e = cc
none_away (n ∷ ks) k [] h e = cc
none_away (n ∷ ks) k (b ∷ homes) h e = let p = both b (list_all (λ home. home) homes) h in go (n == k) p.0 (none_away ks k homes p.1) e
  where
    go : (m : Bool) → b ≡ true → (at_kind ks k homes ≡ Some false → ⊥) → cond m (Some b) (at_kind ks k homes) ≡ Some false → ⊥
    go true home rest e = let no : b ≡ false = cc in false≢true (sym no ∙ home)
    go false home rest e = rest e

pub cells_home : (layout : List Archetype) → AreAllHome layout → (index kind : ℕ) → IsCellHome layout index kind
cells_home layout h index kind = λ n there e. none_away (archetype_at layout n).kinds kind (archetype_at layout n).homes (homes_at layout n h) e

pub rows_home : (layout : List Archetype) → AreAllHome layout → (index : ℕ) → IsRowHome layout index
rows_home layout h index = λ n there. homes_at layout n h

-- ---- the table of an entity

index_there : (es : List Entity) (row : ℕ) (e : Entity) → slice_get es row ≡ Some e → has_index e.index es ≡ true
index_there [] row e h = absurd (cc)
index_there (x ∷ es) zero e h =
    let same : x ≡ e = cc in
    or_left (x.index == e.index) (has_index e.index es) (ap (λ (y : Entity). y.index == e.index) same ∙ ==-same e.index)
index_there (x ∷ es) (suc row) e h = or_right (x.index == e.index) (has_index e.index es) (index_there es row e h)

not_away : (o : Option Standing) → (option_map is_home o ≡ Some false → ⊥) → is_not_away o ≡ true
not_away None h = refl
not_away (Some Owned) h = refl
not_away (Some Shared) h = refl
not_away (Some Away) h = absurd (h refl)

module _ (T : List TableValue) (t row : ℕ) (e : Entity) (there : entity_in_row T t row ≡ Some e) where
  here : IsTableOf T (number_of T t) t
  here = record { within = peopled_within T t (peopled T t row e there); peopled = peopled T t row e there; number = refl }

  inside : has_index e.index (archetype_at (layout_of T) (number_of T t)).entities ≡ true
  inside = index_there (archetype_at (layout_of T) (number_of T t)).entities row e (stands_there T t row e there)

  -- what is at home for the entity is at home in the table
  pub cell_there : (kind : ℕ) → IsCellHome (layout_of T) e.index kind → is_not_away (standing_of (table_at T t) kind) ≡ true
  cell_there kind h = not_away (standing_of (table_at T t) kind) (λ away. h (number_of T t) inside (standing_seen T (number_of T t) t here kind ∙ away))

  pub row_home : IsRowHome (layout_of T) e.index → list_all is_home (table_at T t).standings ≡ true
  row_home h = sym (homes_seen (table_at T t).standings) ∙ ap (λ (a : Archetype). list_all (λ home. home) a.homes) (sym (numbered T (number_of T t) t here)) ∙ h (number_of T t) inside
