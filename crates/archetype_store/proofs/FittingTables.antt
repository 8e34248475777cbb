-- The tables that fit a shape, and the archetypes that they are.
use Rattle.archetype_store.proofs.Common.{◌≡◌, ℕ, zero, suc, ◌+◌, ◌<◌, ◌≤◌, Bool, true, false, cond, List, [], ◌∷◌, ◌++◌, length, get_or, set, drop, map, Option, Some, None, refl, sym, ap, ap₂, subst, ◌∙◌, arith, append_assoc, drop_more, drop_all, append-nil, get_or-append_seam, is_there, TableValue, KeptShape, archetype_of, layout_of, set_number, fits, fitting_from, fitting_tables, numbers_from, with_some, numbered, Fitting, noted, kept_seen, AreListed, table_at, kinds_at, number_of, AreAllAlike}
use Rattle.std.proofs.lemmas.List.{length-append}

-- ---- tables of the same kinds

tables_kept : (s n : ℕ) (T U : List TableValue) → length U ≡ length T → ((t : ℕ) → kinds_at U t ≡ kinds_at T t) → fitting_tables s n U ≡ fitting_tables s n T
tables_kept s n [] [] many kinds = refl
tables_kept s n [] (u ∷ us) many kinds = absurd (omega arith)
tables_kept s n (t ∷ ts) [] many kinds = absurd (omega arith)
tables_kept s n (t ∷ ts) (u ∷ us) many kinds =
    ap₂ (λ (b : Bool) rest. cond b (n ∷ rest) rest) (ap (λ ks. fits s (set_number ks)) (kinds zero)) (tables_kept s (suc n) ts us (omega arith) (λ t. kinds (suc t)))

pub listed_kept : (T U : List TableValue) (shapes : List Fitting) → length U ≡ length T → ((t : ℕ) → kinds_at U t ≡ kinds_at T t) → AreListed T shapes → AreListed U shapes
listed_kept T U [] many kinds h = tt
listed_kept T U (s ∷ ss) many kinds h = (h.0 ∙ sym (tables_kept s.shape 0 T U many kinds), listed_kept T U ss many kinds h.1)

-- ---- a table more

last_cond : (b : Bool) (n m : ℕ) → m ≡ n → cond b (n ∷ []) [] ≡ cond b (m ∷ []) []
last_cond b n m e = ap (λ k. cond b (k ∷ []) []) (sym e)

front_cond : (b : Bool) (n : ℕ) (xs ys : List ℕ) → cond b (n ∷ (xs ++ ys)) (xs ++ ys) ≡ cond b (n ∷ xs) xs ++ ys
front_cond true n xs ys = refl
front_cond false n xs ys = refl

tables_more : (s n : ℕ) (T : List TableValue) (made : TableValue) → fitting_tables s n (T ++ made ∷ []) ≡ fitting_tables s n T ++ cond (fits s (set_number made.kinds)) ((n + length T) ∷ []) []
tables_more s n [] made = last_cond (fits s (set_number made.kinds)) n (n + 0) (omega arith)
tables_more s n (t ∷ ts) made =
    let more = cond (fits s (set_number made.kinds)) ((suc n + length ts) ∷ []) [] in
    ap (λ rest. cond (fits s (set_number t.kinds)) (n ∷ rest) rest) (tables_more s (suc n) ts made)
    ∙ front_cond (fits s (set_number t.kinds)) n (fitting_tables s (suc n) ts) more
    ∙ ap (λ xs. cond (fits s (set_number t.kinds)) (n ∷ fitting_tables s (suc n) ts) (fitting_tables s (suc n) ts) ++ xs)
    (last_cond (fits s (set_number made.kinds)) (suc n + length ts) (n + suc (length ts)) (omega arith))

pub listed_more : (T : List TableValue) (made : TableValue) (word table : ℕ) (shapes : List Fitting) → word ≡ set_number made.kinds → table ≡ length T → AreListed T shapes →
    AreListed (T ++ made ∷ []) (map (noted word table) shapes)
listed_more T made word table [] is at h = tt
listed_more T made word table (s ∷ ss) is at h =
    let last : 0 + length T ≡ table = omega arith in (
      ap₂ (λ (xs : List ℕ) w. xs ++ cond (fits s.shape w) (table ∷ []) []) h.0 is
          ∙ ap (λ k. fitting_tables s.shape 0 T ++ cond (fits s.shape (set_number made.kinds)) (k ∷ []) []) (sym last)
          ∙ sym (tables_more s.shape 0 T made),
      listed_more T made word table ss is at h.1,
    )

-- ---- a shape more

pub listed_pushed : (T : List TableValue) (shapes : List Fitting) (s : Fitting) → s.tables ≡ fitting_tables s.shape 0 T → AreListed T shapes → AreListed T (shapes ++ s ∷ [])
listed_pushed T [] s is h = (is, tt)
listed_pushed T (x ∷ xs) s is h = (h.0, listed_pushed T xs s is h.1)

-- that of a place
pub listed_there : (T : List TableValue) (shapes : List KeptShape) (n : ℕ) (kept : KeptShape) → n < length shapes → kept ≡ get_or shapes n kept → AreListed T (map kept_seen shapes) →
    kept.tables.items ≡ fitting_tables kept.shape 0 T
listed_there T [] n kept l at h = absurd (omega arith)
listed_there T (s ∷ ss) zero kept l at h = subst (λ (k : KeptShape). k.tables.items ≡ fitting_tables k.shape 0 T) (sym at) h.0
listed_there T (s ∷ ss) (suc n) kept l at h = listed_there T ss n kept (omega arith) at h.1

-- ---- the archetypes of tables

numbers_step : (b : Bool) (m : ℕ) (T : List TableValue) → cond b (Some m ∷ numbers_from (suc m) T) (None ∷ numbers_from m T) ≡ cond b (Some m) None ∷ numbers_from (cond b (suc m) m) T
numbers_step true m T = refl
numbers_step false m T = refl

layout_step : (s m : ℕ) (b c : Bool) (t : TableValue) (T : List TableValue) → b ≡ is_there t.rows → c ≡ fits s (set_number t.kinds) →
    cond c (with_some (cond b (Some m) None) (fitting_from s (cond b (suc m) m) (layout_of T))) (fitting_from s (cond b (suc m) m) (layout_of T)) ≡ fitting_from s m (cond b (archetype_of t ∷ layout_of T) (layout_of T))
layout_step s m true c t T there fit = ap (λ (d : Bool). cond d (m ∷ fitting_from s (suc m) (layout_of T)) (fitting_from s (suc m) (layout_of T))) fit
layout_step s m false true t T there fit = refl
layout_step s m false false t T there fit = refl

numbered_cond : (numbers : List (Option ℕ)) (b : Bool) (n : ℕ) (ts : List ℕ) → numbered numbers (cond b (n ∷ ts) ts) ≡ cond b (with_some (get_or numbers n None) (numbered numbers ts)) (numbered numbers ts)
numbered_cond numbers true n ts = refl
numbered_cond numbers false n ts = refl

-- where so many tables come before, whose numbers these are
archetypes_from : (s m : ℕ) (before : List (Option ℕ)) (T : List TableValue) → numbered (before ++ numbers_from m T) (fitting_tables s (length before) T) ≡ fitting_from s m (layout_of T)
archetypes_from s m before [] = refl
archetypes_from s m before (t ∷ ts) =
    let b = is_there t.rows in
    let c = fits s (set_number t.kinds) in
    let o = cond b (Some m) None in
    let next = cond b (suc m) m in
    let numbers = before ++ o ∷ numbers_from next ts in
    let longer : (before ++ o ∷ []) ++ numbers_from next ts ≡ numbers = append_assoc before (o ∷ []) (numbers_from next ts) in
    let many : length (before ++ o ∷ []) ≡ suc (length before) = length-append before (o ∷ []) ∙ omega arith in
    let rest : numbered numbers (fitting_tables s (suc (length before)) ts) ≡ fitting_from s next (layout_of ts) =
    ap₂ (λ (ns : List (Option ℕ)) k. numbered ns (fitting_tables s k ts)) (sym longer) (sym many) ∙ archetypes_from s next (before ++ o ∷ []) ts in
    ap (λ (ns : List (Option ℕ)). numbered (before ++ ns) (fitting_tables s (length before) (t ∷ ts))) (numbers_step b m ts)
    ∙ numbered_cond numbers c (length before) (fitting_tables s (suc (length before)) ts)
    ∙ ap₂ (λ (x : Option ℕ) (xs : List ℕ). cond c (with_some x xs) xs) (get_or-append_seam before o (numbers_from next ts) None) rest
    ∙ layout_step s m b c t ts refl refl

pub archetypes_fitting : (s : ℕ) (T : List TableValue) → numbered (numbers_from 0 T) (fitting_tables s 0 T) ≡ fitting_from s 0 (layout_of T)
archetypes_fitting s T = archetypes_from s 0 [] T

-- the number of a table with rows
number_step : (b : Bool) (m n : ℕ) → cond b (suc m) m + n ≡ m + cond b (suc n) n
number_step true m n = omega arith
number_step false m n = refl

pub number_at : (m : ℕ) (T : List TableValue) (t : ℕ) → is_there (table_at T t).rows ≡ true → get_or (numbers_from m T) t None ≡ Some (m + number_of T t)
number_at m [] t h = absurd (cc)
number_at m (u ∷ us) zero h = ap (λ b. get_or (cond b (Some m ∷ numbers_from (suc m) us) (None ∷ numbers_from m us)) 0 None) h ∙ ap (λ k. Some k) (let e : m ≡ m + 0 = omega arith in e)
number_at m (u ∷ us) (suc t) h =
    ap (λ (ns : List (Option ℕ)). get_or ns (suc t) None) (numbers_step (is_there u.rows) m us) ∙ number_at (cond (is_there u.rows) (suc m) m) us t h
    ∙ ap (λ k. Some k) (number_step (is_there u.rows) m (number_of us t))

-- ---- numbers of tables that differ in where their columns stand, or in one table

pub alike_numbers : (n : ℕ) (T U : List TableValue) → AreAllAlike T U → numbers_from n U ≡ numbers_from n T
alike_numbers n [] [] h = refl
alike_numbers n [] (u ∷ us) h = absurd h
alike_numbers n (t ∷ ts) [] h = absurd h
alike_numbers n (t ∷ ts) (u ∷ us) h =
    numbers_step (is_there u.rows) n us
    ∙ ap (λ (b : Bool). cond b (Some n) None ∷ numbers_from (cond b (suc n) n) us) (ap is_there h.0.rows)
    ∙ ap (λ rest. cond (is_there t.rows) (Some n) None ∷ rest) (alike_numbers (cond (is_there t.rows) (suc n) n) ts us h.1)
    ∙ sym (numbers_step (is_there t.rows) n ts)

pub set_numbers : (m : ℕ) (T : List TableValue) (t : ℕ) (new : TableValue) → is_there new.rows ≡ is_there (table_at T t).rows → numbers_from m (set T t new) ≡ numbers_from m T
set_numbers m [] zero new e = refl
set_numbers m [] (suc t) new e = refl
set_numbers m (u ∷ us) zero new e = ap (λ (b : Bool). cond b (Some m ∷ numbers_from (suc m) us) (None ∷ numbers_from m us)) e
set_numbers m (u ∷ us) (suc t) new e =
    numbers_step (is_there u.rows) m (set us t new)
    ∙ ap (λ rest. cond (is_there u.rows) (Some m) None ∷ rest) (set_numbers (cond (is_there u.rows) (suc m) m) us t new e)
    ∙ sym (numbers_step (is_there u.rows) m us)

-- ---- table by table

-- the tables from one on
next : (T : List TableValue) (n m : ℕ) (u : TableValue) (so_far : List (Option ℕ)) → n < length T → u ≡ get_or T n u →
    so_far ++ cond (is_there u.rows) (Some m ∷ numbers_from (suc m) (drop (n + 1) T)) (None ∷ numbers_from m (drop (n + 1) T)) ≡ so_far ++ numbers_from m (drop n T)
next T n m u so_far l is = ap (λ (v : TableValue). so_far ++ numbers_from m (v ∷ drop (n + 1) T)) is ∙ ap (λ rest. so_far ++ numbers_from m rest) (sym (drop_more T n u l))

pub number_none : (T : List TableValue) (n m : ℕ) (u : TableValue) (so_far : List (Option ℕ)) → n < length T → u ≡ get_or T n u → is_there u.rows ≡ false →
    so_far ++ numbers_from m (drop n T) ≡ numbers_from 0 T → (so_far ++ None ∷ []) ++ numbers_from m (drop (n + 1) T) ≡ numbers_from 0 T
number_none T n m u so_far l is none h =
    append_assoc so_far (None ∷ []) (numbers_from m (drop (n + 1) T))
    ∙ ap (λ (b : Bool). so_far ++ cond b (Some m ∷ numbers_from (suc m) (drop (n + 1) T)) (None ∷ numbers_from m (drop (n + 1) T))) (sym none) ∙ next T n m u so_far l is ∙ h

pub number_some : (T : List TableValue) (n m k : ℕ) (u : TableValue) (so_far : List (Option ℕ)) → k ≡ suc m → n < length T → u ≡ get_or T n u → is_there u.rows ≡ true →
    so_far ++ numbers_from m (drop n T) ≡ numbers_from 0 T → (so_far ++ Some m ∷ []) ++ numbers_from k (drop (n + 1) T) ≡ numbers_from 0 T
number_some T n m k u so_far more l is some h =
    ap (λ j. (so_far ++ Some m ∷ []) ++ numbers_from j (drop (n + 1) T)) more
    ∙ append_assoc so_far (Some m ∷ []) (numbers_from (suc m) (drop (n + 1) T))
    ∙ ap (λ (b : Bool). so_far ++ cond b (Some m ∷ numbers_from (suc m) (drop (n + 1) T)) (None ∷ numbers_from m (drop (n + 1) T))) (sym some) ∙ next T n m u so_far l is ∙ h

pub numbers_all : (T : List TableValue) (n m : ℕ) (so_far : List (Option ℕ)) → length T ≤ n → so_far ++ numbers_from m (drop n T) ≡ numbers_from 0 T → so_far ≡ numbers_from 0 T
numbers_all T n m so_far l h = sym (append-nil so_far) ∙ ap (λ rest. so_far ++ numbers_from m rest) (sym (drop_all n T l)) ∙ h
