-- Shapes: the kinds that are required and those that are excluded, as words of bits, and which tables and archetypes fit one.
use Rattle.std.specs.Prelude.{ℕ, suc, ◌+◌, ◌*◌, ◌/◌, ◌%◌, ◌<◌, ◌≡◌, ◌==◌, ◌&&◌, bit_and, Bool, cond, List, [], ◌∷◌, ◌++◌, length, get_or, Option, Some, None, vec_capacity}
use Rattle.std.specs.List.{AllByRecursion}
use Rattle.model.specs.Lists.{is_there}
use Rattle.column_store.specs.Table.{TableValue}
use Rattle.archetype_store.specs.declared.shapes.Shape.{Shape}
use Rattle.archetype_store.specs.declared.shapes.KeptShape.{KeptShape}
use Rattle.archetype_store.specs.Layout.{Archetype}
use Rattle.archetype_store.specs.LivingSets.{set_number}

-- the number of a shape: of its words of 32 bits the first is the lower one
abbrev pub shape_number : Shape → ℕ
shape_number shape = shape.required + shape.excluded * 4294967296

-- whether the kinds of a word fit the shape of a number: all that it requires are there, and none that it excludes
abbrev pub fits : ℕ → ℕ → Bool
fits number word = (bit_and word (number % 4294967296) == number % 4294967296) && (bit_and word (number / 4294967296) == 0)

-- the numbers of the archetypes that fit the shape of a number, where the first of them has number n
abbrev pub fitting_from : ℕ → ℕ → List Archetype → List ℕ
fitting_from shape n [] = []
fitting_from shape n (a ∷ others) = cond (fits shape (set_number a.kinds)) (n ∷ fitting_from shape (suc n) others) (fitting_from shape (suc n) others)

-- the numbers of the tables that fit the shape of a number, where the first of them has number n
abbrev pub fitting_tables : ℕ → ℕ → List TableValue → List ℕ
fitting_tables shape n [] = []
fitting_tables shape n (t ∷ ts) = cond (fits shape (set_number t.kinds)) (n ∷ fitting_tables shape (suc n) ts) (fitting_tables shape (suc n) ts)

-- of each table the number of its archetype, none where it has no rows; so many archetypes come before
abbrev pub numbers_from : ℕ → List TableValue → List (Option ℕ)
numbers_from n [] = []
numbers_from n (t ∷ ts) = cond (is_there t.rows) (Some n ∷ numbers_from (suc n) ts) (None ∷ numbers_from n ts)

-- a number that may be there, before others
abbrev pub with_some : Option ℕ → List ℕ → List ℕ
with_some None ns = ns
with_some (Some n) ns = n ∷ ns

-- the archetypes of tables
abbrev pub numbered : List (Option ℕ) → List ℕ → List ℕ
numbered numbers [] = []
numbered numbers (t ∷ ts) = with_some (get_or numbers t None) (numbered numbers ts)

-- ---- what is kept

-- what is kept of a shape: its number, and tables
pub record Fitting : Type 0 where
  pub shape : ℕ
  pub tables : List ℕ

abbrev pub kept_seen : KeptShape → Fitting
kept_seen kept = record { shape = kept.shape; tables = kept.tables.items }

-- there is room for a table more
abbrev pub HasRoom : KeptShape → Type 0
HasRoom kept = length kept.tables.items < vec_capacity kept.tables

-- the same with a table of the kinds of a word, where they fit
abbrev pub noted : ℕ → ℕ → Fitting → Fitting
noted word table kept = record { shape = kept.shape; tables = kept.tables ++ cond (fits kept.shape word) (table ∷ []) [] }

-- of each shape just the tables that fit it are kept
abbrev pub AreListed : List TableValue → List Fitting → Type 0
AreListed tables shapes = AllByRecursion (λ kept. kept.tables ≡ fitting_tables kept.shape 0 tables) shapes
