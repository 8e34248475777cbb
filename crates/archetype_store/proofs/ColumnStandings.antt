-- Where columns stand: at home, the tables' alone, read elsewhere too.
use Rattle.archetype_store.proofs.Common.{◌≡◌, ℕ, zero, suc, ◌<◌, Bool, true, false, cond, ◌&&◌, List, [], ◌∷◌, length, get_or, set, map, Option, Some, None, is_some, refl, sym, ap, ap₂, subst, ◌∙◌, arith, list_all, AllByRecursion, length-map, is_there, Entity, map_index-same, AreBelow, Standing, TableRow, TableValue, is_home, is_owned, IsAlike, Owned, Shared, Away, EntityLocation, Archetype, archetype_of, layout_of, AreAllHome, table_at, kinds_at, held_in, held_at, row_or_none, shape_of, is_unshared, AreShaped, AreUnlike, AreHome, AreOwned, AreUnshared, AreEmptyHome, AreAllAlike, StorageValue, archetypes_of, row_in, holder_in, IsOfKinds, IsStored, AreAlike, AreArchetypes}
use Rattle.column_store.proofs.Edited.{owned_home}
use Rattle.std.proofs.lemmas.Bool.{and_parts as both}

-- ---- all columns of a table

own_unshared : (s : Standing) → is_owned s ≡ true → is_unshared s ≡ true
own_unshared Owned h = refl
own_unshared Shared h = absurd (cc)
own_unshared Away h = absurd (cc)

owned_unshared : (ss : List Standing) → list_all is_owned ss ≡ true → list_all is_unshared ss ≡ true
owned_unshared [] h = refl
owned_unshared (s ∷ ss) h = let k = both (is_owned s) (list_all is_owned ss) h in ap₂ ◌&&◌ (own_unshared s k.0) (owned_unshared ss k.1)

home_unshared : (s : Standing) → is_home s ≡ true → is_unshared s ≡ true → is_owned s ≡ true
home_unshared Owned h k = refl
home_unshared Shared h k = absurd (cc)
home_unshared Away h k = absurd (cc)

homes_unshared : (ss : List Standing) → list_all is_home ss ≡ true → list_all is_unshared ss ≡ true → list_all is_owned ss ≡ true
homes_unshared [] h k = refl
homes_unshared (s ∷ ss) h k =
    let a = both (is_home s) (list_all is_home ss) h in let b = both (is_unshared s) (list_all is_unshared ss) k in
    ap₂ ◌&&◌ (home_unshared s a.0 b.0) (homes_unshared ss a.1 b.1)

pub owned_all : (ss : List Standing) → list_all is_owned (map (λ _. Owned) ss) ≡ true
owned_all [] = refl
owned_all (s ∷ ss) = owned_all ss

-- ---- all tables

at_of : (P : TableValue → Type 0) (tables : List TableValue) (t : ℕ) → t < length tables → AllByRecursion P tables → P (table_at tables t)
at_of P [] t l h = absurd (omega arith)
at_of P (u ∷ us) zero l h = h.0
at_of P (u ∷ us) (suc t) l h = at_of P us t (omega arith) h.1

pub owned_at : (tables : List TableValue) (t : ℕ) → t < length tables → AreOwned tables → list_all is_owned (table_at tables t).standings ≡ true
owned_at tables t l h = at_of (λ u. list_all is_owned u.standings ≡ true) tables t l h

pub owned_are_home : (tables : List TableValue) → AreOwned tables → AreHome tables
owned_are_home [] h = tt
owned_are_home (t ∷ ts) h = (owned_home t.standings h.0, owned_are_home ts h.1)

pub home_empty : (tables : List TableValue) → AreHome tables → AreEmptyHome tables
home_empty [] h = tt
home_empty (t ∷ ts) h = (λ none. h.0, home_empty ts h.1)

pub owned_are_unshared : (tables : List TableValue) → AreOwned tables → AreUnshared tables
owned_are_unshared [] h = tt
owned_are_unshared (t ∷ ts) h = (owned_unshared t.standings h.0, owned_are_unshared ts h.1)

pub unshared_are_owned : (tables : List TableValue) → AreHome tables → AreUnshared tables → AreOwned tables
unshared_are_owned [] h k = tt
unshared_are_owned (t ∷ ts) h k = (homes_unshared t.standings h.0 k.0, unshared_are_owned ts h.1 k.1)

owned_of : (ts : List TableValue) → AreOwned ts → AreOwned (map shape_of ts)
owned_of [] h = tt
owned_of (t ∷ ts) h = (h.0, owned_of ts h.1)

owned_from : (ts : List TableValue) → AreOwned (map shape_of ts) → AreOwned ts
owned_from [] h = tt
owned_from (t ∷ ts) h = (h.0, owned_from ts h.1)

-- tables of the same shapes are as well owned
pub owned_kept : (ts us : List TableValue) → map shape_of us ≡ map shape_of ts → AreOwned ts → AreOwned us
owned_kept ts us e h = owned_from us (subst AreOwned (sym e) (owned_of ts h))

-- ---- the layout

pub homes_seen : (ss : List Standing) → list_all (λ home. home) (map is_home ss) ≡ list_all is_home ss
homes_seen [] = refl
homes_seen (s ∷ ss) = ap (λ b. is_home s && b) (homes_seen ss)

home_step : (b : Bool) (t : TableValue) (others : List Archetype) → list_all is_home t.standings ≡ true → AreAllHome others → AreAllHome (cond b (archetype_of t ∷ others) others)
home_step true t others h k = (homes_seen t.standings ∙ h, k)
home_step false t others h k = k

pub home_layout : (tables : List TableValue) → AreHome tables → AreAllHome (layout_of tables)
home_layout [] h = tt
home_layout (t ∷ ts) h = home_step (is_there t.rows) t (layout_of ts) h.0 (home_layout ts h.1)

empty_step : (b : Bool) (t : TableValue) (others : List Archetype) → (b ≡ false → list_all is_home t.standings ≡ true) → AreAllHome (cond b (archetype_of t ∷ others) others) →
    (list_all is_home t.standings ≡ true) × AreAllHome others
empty_step true t others h k = (sym (homes_seen t.standings) ∙ k.0, k.1)
empty_step false t others h k = (h refl, k)

-- where the layout's are all at home, all are
pub home_tables : (tables : List TableValue) → AreEmptyHome tables → AreAllHome (layout_of tables) → AreHome tables
home_tables [] h k = tt
home_tables (t ∷ ts) h k = let s = empty_step (is_there t.rows) t (layout_of ts) h.0 k in (s.0, home_tables ts h.1 s.1)

-- ---- tables that differ in what is read elsewhere too

homes_alike : (t u : TableValue) → IsAlike t u → list_all is_home t.standings ≡ true → list_all is_home u.standings ≡ true
homes_alike t u h k = sym (homes_seen u.standings) ∙ ap (list_all (λ home. home)) h.homes ∙ homes_seen t.standings ∙ k

pub alike_self : (ts : List TableValue) → AreAllAlike ts ts
alike_self [] = tt
alike_self (t ∷ ts) = (record { kinds = refl; homes = refl; rows = refl }, alike_self ts)

pub alike_empty : (ts us : List TableValue) → AreAllAlike ts us → AreEmptyHome ts → AreEmptyHome us
alike_empty [] [] h k = tt
alike_empty [] (u ∷ us) h k = absurd h
alike_empty (t ∷ ts) [] h k = absurd h
alike_empty (t ∷ ts) (u ∷ us) h k = (λ none. homes_alike t u h.0 (k.0 (ap is_there (sym h.0.rows) ∙ none)), alike_empty ts us h.1 k.1)

-- another table in the place of one that is alike
pub alike_set : (ts : List TableValue) (t : ℕ) (u : TableValue) → IsAlike (table_at ts t) u → AreAllAlike ts (set ts t u)
alike_set [] zero u h = tt
alike_set [] (suc t) u h = tt
alike_set (x ∷ xs) zero u h = (h, alike_self xs)
alike_set (x ∷ xs) (suc t) u h = (record { kinds = refl; homes = refl; rows = refl }, alike_set xs t u h)

alike_at : (ts us : List TableValue) (t : ℕ) → AreAllAlike ts us → IsAlike (table_at ts t) (table_at us t)
alike_at [] [] t h = record { kinds = refl; homes = refl; rows = refl }
alike_at [] (u ∷ us) t h = absurd h
alike_at (t ∷ ts) [] n h = absurd h
alike_at (t ∷ ts) (u ∷ us) zero h = h.0
alike_at (t ∷ ts) (u ∷ us) (suc n) h = alike_at ts us n h.1

made_archetype : (t u : TableValue) → IsAlike t u → archetype_of u ≡ archetype_of t
made_archetype t u h = λ i. record { kinds = h.kinds i; entities = map (λ (row : TableRow). row.entity) (h.rows i); homes = h.homes i }

alike_layout : (ts us : List TableValue) → AreAllAlike ts us → layout_of us ≡ layout_of ts
alike_layout [] [] h = refl
alike_layout [] (u ∷ us) h = absurd h
alike_layout (t ∷ ts) [] h = absurd h
alike_layout (t ∷ ts) (u ∷ us) h =
    ap (λ rows. cond (is_there rows) (archetype_of u ∷ layout_of us) (layout_of us)) h.0.rows
    ∙ ap₂ (λ a xs. cond (is_there t.rows) (a ∷ xs) xs) (made_archetype t u h.0) (alike_layout ts us h.1)

-- tables of the same kinds and rows
pub record AreSame (ts us : List TableValue) : Type 0 where
  pub kinds : (t : ℕ) → kinds_at us t ≡ kinds_at ts t
  pub rows : (t : ℕ) → (table_at us t).rows ≡ (table_at ts t).rows
  pub all_kinds : map (λ (t : TableValue). t.kinds) us ≡ map (λ (t : TableValue). t.kinds) ts
  pub many : map (λ (t : TableValue). length t.standings) us ≡ map (λ (t : TableValue). length t.standings) ts

alike_kinds : (ts us : List TableValue) → AreAllAlike ts us → map (λ (t : TableValue). t.kinds) us ≡ map (λ (t : TableValue). t.kinds) ts
alike_kinds [] [] h = refl
alike_kinds [] (u ∷ us) h = absurd h
alike_kinds (t ∷ ts) [] h = absurd h
alike_kinds (t ∷ ts) (u ∷ us) h = ap₂ ◌∷◌ h.0.kinds (alike_kinds ts us h.1)

alike_many : (ts us : List TableValue) → AreAllAlike ts us → map (λ (t : TableValue). length t.standings) us ≡ map (λ (t : TableValue). length t.standings) ts
alike_many [] [] h = refl
alike_many [] (u ∷ us) h = absurd h
alike_many (t ∷ ts) [] h = absurd h
alike_many (t ∷ ts) (u ∷ us) h = ap₂ ◌∷◌ (sym (length-map u.standings is_home) ∙ ap length h.0.homes ∙ length-map t.standings is_home) (alike_many ts us h.1)

pub alike_same : (ts us : List TableValue) → AreAllAlike ts us → AreSame ts us
alike_same ts us h = record { kinds = λ t. (alike_at ts us t h).kinds; rows = λ t. (alike_at ts us t h).rows; all_kinds = alike_kinds ts us h; many = alike_many ts us h }

pub shaped_kinds : (ts us : List TableValue) → map (λ (t : TableValue). t.kinds) us ≡ map (λ (t : TableValue). t.kinds) ts →
    map (λ (t : TableValue). length t.standings) us ≡ map (λ (t : TableValue). length t.standings) ts → AreShaped ts → AreShaped us
shaped_kinds ts [] e l h = tt
shaped_kinds [] (u ∷ us) e l h = absurd (cc)
shaped_kinds (t ∷ ts) (u ∷ us) e l h =
    let many : length u.standings ≡ length t.standings = cc in
    let others : map (λ (t : TableValue). length t.standings) us ≡ map (λ (t : TableValue). length t.standings) ts = cc in
    let first : u.kinds ≡ t.kinds = cc in let rest : map (λ (t : TableValue). t.kinds) us ≡ map (λ (t : TableValue). t.kinds) ts = cc in
    (record { below = subst (λ ks. AreBelow ks) (sym first) h.0.below; some = λ none. h.0.some (sym first ∙ none); each = many ∙ h.0.each ∙ ap length (sym first) }, shaped_kinds ts us rest others h.1)

unlike_each : (ks : List ℕ) (ts us : List TableValue) → map (λ (t : TableValue). t.kinds) us ≡ map (λ (t : TableValue). t.kinds) ts →
    AllByRecursion (λ (t : TableValue). ks ≡ t.kinds → ⊥) ts → AllByRecursion (λ (t : TableValue). ks ≡ t.kinds → ⊥) us
unlike_each ks ts [] e h = tt
unlike_each ks [] (u ∷ us) e h = absurd (cc)
unlike_each ks (t ∷ ts) (u ∷ us) e h =
    let first : u.kinds ≡ t.kinds = cc in let rest : map (λ (t : TableValue). t.kinds) us ≡ map (λ (t : TableValue). t.kinds) ts = cc in
    (λ same. h.0 (same ∙ first), unlike_each ks ts us rest h.1)

pub unlike_kinds : (ts us : List TableValue) → map (λ (t : TableValue). t.kinds) us ≡ map (λ (t : TableValue). t.kinds) ts → AreUnlike ts → AreUnlike us
unlike_kinds ts [] e h = tt
unlike_kinds [] (u ∷ us) e h = absurd (cc)
unlike_kinds (t ∷ ts) (u ∷ us) e h =
    let first : u.kinds ≡ t.kinds = cc in let rest : map (λ (t : TableValue). t.kinds) us ≡ map (λ (t : TableValue). t.kinds) ts = cc in
    (unlike_each u.kinds ts us rest (subst (λ ks. AllByRecursion (λ (x : TableValue). ks ≡ x.kinds → ⊥) ts) (sym first) h.0), unlike_kinds ts us rest h.1)

module _ (ts us : List TableValue) (same : AreSame ts us) where
  pub same_held : (t : ℕ) (e : Entity) → held_at us t e ≡ held_at ts t e
  same_held t e = ap₂ (λ ks rows. let u : TableValue = record { kinds = ks; standings = []; rows = rows; room = 0 } in held_in u e) (same.kinds t) (same.rows t)

  same_row : (i : ℕ) (o : Option EntityLocation) → row_in us i o ≡ row_in ts i o
  same_row i None = refl
  same_row i (Some p) = ap row_or_none (same_held p.table (record { index = i; generation = p.generation }))

  pub same_rows : (P : List (Option EntityLocation)) → (archetypes_of us P).rows ≡ (archetypes_of ts P).rows
  same_rows P = map_index-same (row_in us) (row_in ts) None P (λ i. same_row i (get_or P i None))

  -- they are as whole
  pub same_whole : (P : List (Option EntityLocation)) → AreArchetypes ts P → AreArchetypes us P
  same_whole P h = record {
    agree = λ t e. ap is_some (same_held t e) ∙ h.agree t e;
    of_kinds = λ t e. subst (λ ks. IsOfKinds ks (held_at us t e)) (sym (same.kinds t)) (subst (IsOfKinds (kinds_at ts t)) (sym (same_held t e)) (h.of_kinds t e));
    shaped = shaped_kinds ts us same.all_kinds same.many h.shaped;
    unlike = unlike_kinds ts us same.all_kinds h.unlike;
  }

-- what contracts see of alike tables is one
pub alike_value : (ts us : List TableValue) (P : List (Option EntityLocation)) → AreAllAlike ts us → archetypes_of us P ≡ archetypes_of ts P
alike_value ts us P h =
    ap₂ (λ rows layout. let a : StorageValue = record { rows = rows; holders = map holder_in P; layout = layout } in a) (same_rows ts us (alike_same ts us h) P) (alike_layout ts us h)

pub value_alike : (a b : StorageValue) → b ≡ a → AreAlike a b
value_alike a b h = subst (AreAlike a) (sym h) (record { rows = λ i. refl; holders = λ i. refl; layout = refl })

module _ (T : List TableValue) (P : List (Option EntityLocation)) (s : Bool) where
  -- where all columns are the tables' alone, the note can be any
  pub owned_stored : AreArchetypes T P → AreOwned T → IsStored T P s
  owned_stored whole owned = record { whole = whole; empty = home_empty T (owned_are_home T owned); unshared = λ _. owned_are_unshared T owned }

  pub owned_layout : AreOwned T → AreAllHome (layout_of T)
  owned_layout owned = home_layout T (owned_are_home T owned)

module _ (T T' : List TableValue) (P : List (Option EntityLocation)) (s s' : Bool) (alike : AreAllAlike T T') where
  pub alike_stored : AreArchetypes T P → AreEmptyHome T → (s' ≡ false → AreUnshared T') → IsStored T' P s'
  alike_stored whole empty unshared = record { whole = same_whole T T' (alike_same T T' alike) P whole; empty = alike_empty T T' alike empty; unshared = unshared }

  pub alike_whole : AreArchetypes T P → AreArchetypes T' P
  alike_whole whole = same_whole T T' (alike_same T T' alike) P whole
