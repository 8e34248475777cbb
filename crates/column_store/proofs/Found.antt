-- Where a column is in the inside of a table.
use Rattle.column_store.proofs.Common.{◌≡◌, ◌⊎◌, inl, inr, ⊎_elim, ℕ, ◌<◌, ◌==◌, true, List, length, get_or, set, Result, Ok, Err, OnOk, OnErr, Option, Some, option_map, refl, sym, ap, subst, ◌∙◌, arith, map, MatchOption, None, position, map-set, Kind, kind_number, each-at, Entity, ColumnCells, IsPlace, standing_at, seen_column, seen_slot, table_of, IsOfLength, IsTable, IsKindPlace, IsKindPlaced, IsNoKind, Standing, ColumnSlotValue, is_home, lent, shared, IsHome, IsAlike, Shared, Away, get-there}
use Rattle.std.proofs.Math.Seq.{map-set_same}
use Rattle.column_store.proofs.Lists.{set-changed, set-same}
use Rattle.column_store.proofs.Rows.{place_from_position, nowhere_from_position}
use Rattle.column_store.proofs.Tables.{place-within, length-of_kinds, cell_in-no_kind, table-seen, standing-place, standing-nowhere, kind_cells-place, table-move, table-home, table-alike}
use Rattle.column_store.proofs.Kept.{kind-place, kept-move, kept-home, kept-columns}

-- ---- a column

kind-found : (ns : List ℕ) (k j : ℕ) → IsPlace (λ n. n == k) ns j → (es : List Entity) (ps : List ColumnSlotValue) → IsTable ns es ps → IsKindPlace ns es ps k j
kind-found ns k j of es ps h =
    let column : j < length ns = place-within (λ n. n == k) ns j of in
    let same : length ns ≡ length ps = length-of_kinds ns ps h.of_kinds in
    let within : j < length ps = omega arith in
    record {
      within = within;
      standing = λ d. standing-place ns es ps k j (get_or ps j d) of same (get-there ps j d within);
      of_kind = λ d. kind-place k j ns ps (get_or ps j d) of h.of_kinds (get-there ps j d within);
      cells = λ d. sym (kind_cells-place ns es ps k j (get_or ps j d) of same (get-there ps j d within)
          (each-at (IsOfLength (length es)) ps j d within h.of_length));
      moves = λ s. table-move ns es ps k j s of;
      moves_table = λ s. kept-move ns es ps j s h;
      homes = λ c e l. table-home ns es ps j c (subst (λ m. IsPlace (λ n. n == m) ns j) (sym e) of) l;
      homes_table = λ c e l. kept-home ns es ps j c (subst (λ m. IsPlace (λ n. n == m) ns j) (sym e) of) l h;
    }

-- the column that a search by the kind's number gives
pub kind-answer : (ks : List Kind) (n : ℕ) (o : Option ℕ) → o ≡ position (λ kind. kind_number kind == n) ks → MatchOption o (IsNoKind (map kind_number ks) n) (IsKindPlaced (map kind_number ks) n)
kind-answer ks n None h =
    let nowhere = nowhere_from_position kind_number (λ m. m == n) ks (sym h) in
    record { standing = λ es ps. standing-nowhere (map kind_number ks) es ps n 0 nowhere; cell = λ es ps i. cell_in-no_kind (map kind_number ks) es ps n i nowhere }
kind-answer ks n (Some j) h = kind-found (map kind_number ks) n j (place_from_position kind_number (λ m. m == n) ks j (sym h))

-- ---- where a column that was found stands

pub home_found : (s : Standing) (o : Option Standing) → o ≡ Some s → IsHome o → is_home s ≡ true
home_found s o at h = let e : option_map is_home (Some s) ≡ Some true = subst IsHome at h in cc

-- one that isn't there isn't at home
pub home_there : (o : Option Standing) → o ≡ None → IsHome o → ⊥
home_there o none h = let e : option_map is_home None ≡ Some true = subst IsHome none h in cc

-- ---- a slot that was changed

-- a slot in place of one that is seen as another
seen-set : (ps : List ColumnSlotValue) (j : ℕ) (q p : ColumnSlotValue) → seen_slot q ≡ seen_slot p → map seen_slot (set ps j q) ≡ map seen_slot (set ps j p)
seen-set ps j q p h = map-set seen_slot ps j q ∙ ap (set (map seen_slot ps) j) h ∙ sym (map-set seen_slot ps j p)

module _ (ns : List ℕ) (es : List Entity) (ps : List ColumnSlotValue) (k j : ℕ) (at : IsKindPlace ns es ps k j) (d q : ColumnSlotValue) where
  -- as it was
  pub slots_same : q ≡ get_or ps j d → set ps j q ≡ ps
  slots_same h = ap (set ps j) h ∙ set-same ps j d at.within

  -- a column that left
  pub lent_table : seen_slot q ≡ standing_at Away (seen_slot (get_or ps j d)) → table_of ns es (set ps j q) ≡ lent (table_of ns es ps) k
  lent_table h =
      table-seen ns es (set ps j (standing_at Away (get_or ps j d))) (set ps j q) (seen-set ps j q (standing_at Away (get_or ps j d)) h)
      ∙ ap (table_of ns es) (set-changed (standing_at Away) ps j d (standing_at Away (get_or ps j d)) at.within refl) ∙ at.moves Away

  pub lent_kept : seen_slot q ≡ standing_at Away (seen_slot (get_or ps j d)) → IsTable ns es ps → IsTable ns es (set ps j q)
  lent_kept h table = kept-columns ns es ps (set ps j q) (map-set_same seen_column ps j q d (ap (λ (x : ColumnSlotValue). x.column) h)) table

  -- one that is read elsewhere too
  pub shared_table : q ≡ standing_at Shared (get_or ps j d) → table_of ns es (set ps j q) ≡ shared (table_of ns es ps) k
  shared_table h = ap (λ (z : ColumnSlotValue). table_of ns es (set ps j z)) h
      ∙ ap (table_of ns es) (set-changed (standing_at Shared) ps j d (standing_at Shared (get_or ps j d)) at.within refl) ∙ at.moves Shared

  module _ {A E : Type 0} where
    pub shared_there : (r : Result A E) → OnOk r (q ≡ standing_at Shared (get_or ps j d)) → OnOk r (table_of ns es (set ps j q) ≡ shared (table_of ns es ps) k)
    shared_there (Ok a) h = shared_table h
    shared_there (Err e) h = tt

    pub shared_err : (r : Result A E) → OnErr r ((q ≡ get_or ps j d) ⊎ (q ≡ standing_at Shared (get_or ps j d))) → OnErr r ((set ps j q ≡ ps) ⊎ (table_of ns es (set ps j q) ≡ shared (table_of ns es ps) k))
    shared_err (Ok a) h = tt
    shared_err (Err e) h = ⊎_elim (λ same. inl (slots_same same)) (λ other. inr (shared_table other)) h

    -- the column stays, and stays at home
    pub shared_column : (r : Result A E) → OnOk r (q ≡ standing_at Shared (get_or ps j d)) → OnErr r ((q ≡ get_or ps j d) ⊎ (q ≡ standing_at Shared (get_or ps j d))) → is_home (get_or ps j d).standing ≡ true
        → (q.column ≡ (get_or ps j d).column) × (is_home q.standing ≡ true)
    shared_column (Ok a) h e home = (ap (λ (x : ColumnSlotValue). x.column) h, ap (λ (x : ColumnSlotValue). is_home x.standing) h)
    shared_column (Err e) h k home = ⊎_elim (λ same. (ap (λ (x : ColumnSlotValue). x.column) same, ap (λ (x : ColumnSlotValue). is_home x.standing) same ∙ home))
        (λ other. (ap (λ (x : ColumnSlotValue). x.column) other, ap (λ (x : ColumnSlotValue). is_home x.standing) other)) k

  pub shared_alike : q.column ≡ (get_or ps j d).column → is_home q.standing ≡ true → is_home (get_or ps j d).standing ≡ true → IsAlike (table_of ns es ps) (table_of ns es (set ps j q))
  shared_alike column home old = table-alike ns es ps (set ps j q) (record {
    columns = map-set_same seen_column ps j q d (ap (λ (c : ColumnCells). let v : ColumnCells = record { kind = c.kind; cells = c.cells; room = 0 } in v) column);
    homes = map-set_same (λ (p : ColumnSlotValue). is_home p.standing) ps j q d (home ∙ sym old);
  })

  pub shared_kept : q.column ≡ (get_or ps j d).column → IsTable ns es ps → IsTable ns es (set ps j q)
  shared_kept column table = kept-columns ns es ps (set ps j q) (map-set_same seen_column ps j q d (ap (λ (c : ColumnCells). let v : ColumnCells = record { kind = c.kind; cells = c.cells; room = 0 } in v) column)) table
