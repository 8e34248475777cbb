-- Where tables are found: by their kinds, and by the numbers of archetypes.
use Rattle.std.specs.Prelude.{◌≡◌, ℕ, suc, ◌<◌, ◌≤◌, ◌==◌, Bool, cond, List, [], ◌∷◌, length, map, Some, vec_capacity}
use Rattle.std.specs.Int.{bit_at}
use Rattle.model.specs.Lists.{has, is_there}
use Rattle.column_store.specs.Table.{TableValue}
use Rattle.archetype_store.specs.declared.table_index.TableIndex.{TableIndex}
use Rattle.archetype_store.specs.Shapes.{numbers_from, kept_seen, AreListed}
use Rattle.archetype_store.specs.TableWords.{told_table}
use Rattle.archetype_store.specs.Tables.{kinds_at}

-- whether a bit of a word is set
abbrev pub has_bit : ℕ → ℕ → Bool
has_bit word number = bit_at word number == 1

-- the bits of a word are these kinds
abbrev pub IsWord : ℕ → List ℕ → Type 0
IsWord word kinds = (k : ℕ) → has_bit word k ≡ has k kinds

-- the numbers of the tables that have rows, where the first of them has this number
abbrev pub peopled_from : ℕ → List TableValue → List ℕ
peopled_from n [] = []
peopled_from n (t ∷ ts) = cond (is_there t.rows) (n ∷ peopled_from (suc n) ts) (peopled_from (suc n) ts)

-- each table is found by the word of its kinds, and no other is; there is room to name all tables; and of each shape that is kept just the
-- tables that fit it are listed
pub record IsFound (tables : List TableValue) (index : TableIndex) : Type 0 where
  pub known : (t word : ℕ) → t < length tables → IsWord word (kinds_at tables t) → told_table index.by_word word ≡ Some t
  pub within : (t word : ℕ) → told_table index.by_word word ≡ Some t → t < length tables
  pub theirs : (t word : ℕ) → told_table index.by_word word ≡ Some t → IsWord word (kinds_at tables t)
  pub room : length tables ≤ vec_capacity index.peopled
  pub room_numbers : length tables ≤ vec_capacity index.numbers
  pub listed : AreListed tables (map kept_seen index.shapes.items)

-- the same, the tables that have rows are named, and of each table it is known which archetype it is
pub record IsIndexed (tables : List TableValue) (index : TableIndex) : Type 0 where
  pub found : IsFound tables index
  pub peopled : index.peopled.items ≡ peopled_from 0 tables
  pub numbers : index.numbers.items ≡ numbers_from 0 tables
