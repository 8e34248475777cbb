-- What a row more or less leaves.
use Rattle.column_store.proofs.Common.{◌≡◌, ℕ, ◌<◌, Bool, true, false, cond, ◌&&◌, List, [], ◌∷◌, ◌++◌, length, map, option_map, Option, Some, None, Result, Ok, Err, IfOk, refl, sym, ap, ap₂, subst, ◌∙◌, arith, length-map, IsNone, slice_get, list_all, AllByRecursion, update_at, Entity, StampedValue, stamped_number, stamped_cell, is_same, IsNowhere, swap_removed, Standing, ColumnSlotValue, TableRow, TableValue, is_home, is_owned, row_of, new_row, renewed_row, Owned, Shared, Away, standing_in, kind_in, tail_in, cell_at, swap_out_in, push_all, replace_all, rows_of, table_of, HasRoom, IsOfLength, IsAtHome, IsOwned, HoldsRow, OwnsRow, AllTake, AllRenew, IsTable}
use Rattle.std.proofs.lemmas.Bool.{and_parts as both}
use Rattle.column_store.proofs.Tables.{length-of_kinds, get-rows_of, table-push, table-swap, table-renew}
use Rattle.column_store.proofs.Kept.{all_take, all_renew, kept-push, kept-swap, kept-replace}

-- ---- columns that are at home, or the table's alone

-- where all stand at home, each is at home
pub all_home : (ps : List ColumnSlotValue) → list_all is_home (map standing_in ps) ≡ true → AllByRecursion IsAtHome ps
all_home [] h = tt
all_home (p ∷ ps) h = let k = both (is_home p.standing) (list_all is_home (map standing_in ps)) h in (k.0, all_home ps k.1)

pub all_owned : (ps : List ColumnSlotValue) → list_all is_owned (map standing_in ps) ≡ true → AllByRecursion IsOwned ps
all_owned [] h = tt
all_owned (p ∷ ps) h = let k = both (is_owned p.standing) (list_all is_owned (map standing_in ps)) h in (k.0, all_owned ps k.1)

own_home : (s : Standing) → is_owned s ≡ true → is_home s ≡ true
own_home Owned h = refl
own_home Shared h = absurd (cc)
own_home Away h = absurd (cc)

-- columns that are the table's alone are at home
pub owned_home : (ss : List Standing) → list_all is_owned ss ≡ true → list_all is_home ss ≡ true
owned_home [] h = refl
owned_home (s ∷ ss) h = let k = both (is_owned s) (list_all is_owned ss) h in ap₂ ◌&&◌ (own_home s k.0) (owned_home ss k.1)

-- they take a row of components of their kinds, where there is room
pub takes_row : (ns : List ℕ) (es : List Entity) (ps : List ColumnSlotValue) (m : ℕ) (ss : List StampedValue) → IsTable ns es ps → list_all is_owned (map standing_in ps) ≡ true → length es < m →
    AllByRecursion (HasRoom m) ps → map stamped_number ss ≡ ns → AllTake ps ss
takes_row ns es ps m ss h owned l r k = all_take ns ps (length es) m ss h.of_kinds h.of_length (all_owned ps owned) l r k

-- each holds the rows of the table
pub held_rows : (n i : ℕ) (ps : List ColumnSlotValue) → i < n → AllByRecursion (IsOfLength n) ps → AllByRecursion IsAtHome ps → AllByRecursion (HoldsRow i) ps
held_rows n i [] l h o = tt
held_rows n i (p ∷ ps) l h o = let k : length p.column.cells ≡ n = h.0 in (record { home = o.0; within = omega arith }, held_rows n i ps l h.1 o.1)

pub owned_rows : (n i : ℕ) (ps : List ColumnSlotValue) → i < n → AllByRecursion (IsOfLength n) ps → AllByRecursion IsOwned ps → AllByRecursion (OwnsRow i) ps
owned_rows n i [] l h o = tt
owned_rows n i (p ∷ ps) l h o = let k : length p.column.cells ≡ n = h.0 in (record { owned = o.0; within = omega arith }, owned_rows n i ps l h.1 o.1)

-- ---- entities

pub none_is : {A : Type 0} (o : Option A) → IsNone o → o ≡ None
none_is None h = refl
none_is (Some x) h = absurd (cc)

pub head_none : (b : Bool) (r : TableRow) (o : Option TableRow) → cond b (Some r) o ≡ None → (b ≡ false) × (o ≡ None)
head_none true r o h = absurd (cc)
head_none false r o h = (refl, h)

-- an entity without a row isn't there
nowhere_from_rows : (e : Entity) (es : List Entity) (ps : List ColumnSlotValue) → row_of e (rows_of es ps) ≡ None → IsNowhere (λ x. is_same x e) es
nowhere_from_rows e [] ps h = tt
nowhere_from_rows e (x ∷ es) ps h =
    let p = head_none (is_same x e) _ (row_of e (rows_of es (map tail_in ps))) h in (p.0, nowhere_from_rows e es (map tail_in ps) p.1)

pub absent_nowhere : (e : Entity) (es : List Entity) (ps : List ColumnSlotValue) → IsNone (row_of e (rows_of es ps)) → IsNowhere (λ x. is_same x e) es
absent_nowhere e es ps h = nowhere_from_rows e es ps (none_is _ h)

-- ---- a row more

as_many : (ns : List ℕ) (ps : List ColumnSlotValue) (ss : List StampedValue) → map kind_in ps ≡ ns → map stamped_number ss ≡ ns → length ps ≡ length (map stamped_cell ss)
as_many ns ps ss h k = sym (length-of_kinds ns ps h) ∙ sym (ap length k) ∙ length-map ss stamped_number ∙ sym (length-map ss stamped_cell)

some_cells : (ss : List StampedValue) → map (λ c. Some c) (map stamped_cell ss) ≡ map (λ s. Some (stamped_cell s)) ss
some_cells [] = refl
some_cells (s ∷ ss) = ap (λ cs. Some (stamped_cell s) ∷ cs) (some_cells ss)

module _ (ns : List ℕ) (es es' : List Entity) (ps ps' : List ColumnSlotValue) (table : IsTable ns es ps) where
  module _ (e : Entity) (ss : List StampedValue) (kinds : map stamped_number ss ≡ ns) (entities : es' ≡ es ++ e ∷ []) (columns : ps' ≡ push_all ps (map stamped_cell ss)) where
    pub pushed_table : table_of ns es' ps' ≡ record { kinds = ns; standings = map standing_in ps; rows = rows_of es ps ++ new_row e ss ∷ []; room = 0 }
    pushed_table =
        ap₂ (table_of ns) entities columns
        ∙ table-push ns es ps e (map stamped_cell ss) (as_many ns ps ss table.of_kinds kinds) table.of_length
        ∙ ap (λ cells. let t : TableValue = record { kinds = ns; standings = map standing_in ps; rows = rows_of es ps ++ record { entity = e; cells = cells } ∷ []; room = 0 } in t) (some_cells ss)

    pub pushed_kept : IsNowhere (λ x. is_same x e) es → IsTable ns es' ps'
    pushed_kept absent =
        subst (IsTable ns es') (sym columns) (subst (λ xs. IsTable ns xs (push_all ps (map stamped_cell ss))) (sym entities)
        (kept-push ns es ps (map stamped_cell ss) e (as_many ns ps ss table.of_kinds kinds) absent table))

  -- ---- a row less

  module _ (i : ℕ) (within : i < length es) (entities : es' ≡ swap_removed es i) (columns : ps' ≡ map (swap_out_in i) ps) where
    pub swapped_table : table_of ns es' ps' ≡ record { kinds = ns; standings = map standing_in ps; rows = swap_removed (rows_of es ps) i; room = 0 }
    swapped_table = ap₂ (table_of ns) entities columns ∙ table-swap ns es ps i table.of_length within

    pub swapped_kept : IsTable ns es' ps'
    swapped_kept = subst (IsTable ns es') (sym columns) (subst (λ xs. IsTable ns xs (map (swap_out_in i) ps)) (sym entities) (kept-swap ns es ps i within table))

-- ---- a row whose components are replaced

-- the columns take components of their kinds
pub renews_row : (ns : List ℕ) (es : List Entity) (ps : List ColumnSlotValue) (ss : List StampedValue) → IsTable ns es ps → list_all is_owned (map standing_in ps) ≡ true → map stamped_number ss ≡ ns →
    (i : ℕ) → i < length es → AllRenew i ps ss
renews_row ns es ps ss h owned k i l = all_renew ns ps (length es) i ss h.of_kinds h.of_length (all_owned ps owned) l k

module _ (ns : List ℕ) (es : List Entity) (ps ps' : List ColumnSlotValue) (i : ℕ) (ss : List StampedValue) (columns : ps' ≡ replace_all i ps (map stamped_cell ss)) where
  pub renewed_table : IsTable ns es ps → map stamped_number ss ≡ ns →
      table_of ns es ps' ≡ record { kinds = ns; standings = map standing_in ps; rows = update_at i (renewed_row ss) (rows_of es ps); room = 0 }
  renewed_table h k =
      ap (table_of ns es) columns
      ∙ table-renew ns es ps i (map stamped_cell ss) (as_many ns ps ss h.of_kinds k) h.of_length
      ∙ ap (λ cells. let t : TableValue = record { kinds = ns; standings = map standing_in ps; rows = update_at i (λ (r : TableRow). let s : TableRow = record { entity = r.entity; cells = cells } in s) (rows_of es ps); room = 0 } in t) (some_cells ss)

  pub renewed_kept : IsTable ns es ps → IsTable ns es ps'
  renewed_kept h = subst (IsTable ns es) (sym columns) (kept-replace ns es ps (map stamped_cell ss) i h)

-- ---- a row that is read

pub read_row_is : (ns : List ℕ) (es : List Entity) (ps : List ColumnSlotValue) (i : ℕ) (ss : List StampedValue) → i < length es → map (λ s. Some (stamped_cell s)) ss ≡ map (cell_at i) ps →
    option_map (λ (row : TableRow). row.cells) (slice_get (rows_of es ps) i) ≡ Some (map (λ s. Some (stamped_cell s)) ss)
read_row_is ns es ps i ss l h =
    ap (option_map (λ (row : TableRow). row.cells)) (get-rows_of es ps i (record { index = 0; generation = 0 }) l) ∙ ap (λ cells. Some cells) (sym h)

-- what holds of a result holds of what follows
pub if_ok : {A E : Type 0} (r : Result A E) (P Q : A → Type 0) → ((x : A) → P x → Q x) → IfOk r P → IfOk r Q
if_ok (Ok a) P Q f h = f a h
if_ok (Err e) P Q f h = tt
