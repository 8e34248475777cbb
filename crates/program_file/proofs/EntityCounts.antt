-- A text declares no more entities than it has bytes.
use Rattle.std.proofs.Common.{◌≡◌, ℕ, suc, ◌≤◌, List, [], ◌∷◌, length, map, codes, Option, Some, None, IfSome, Vec, refl, sym, subst, arith}
use Rattle.std.specs.List.{AllZip}
use Rattle.std.specs.declared.alloc.Global.{Global}
use Rattle.std.proofs.lemmas.Option.{none-some, same_Some}
use Rattle.toml.specs.Data.{Data, string, integer, float, boolean, datetime, array, table, Items, no_items, Members, get_member}
use Rattle.toml.specs.Parse.{parse_document}
use Rattle.toml.specs.View.{items_of}
use Rattle.kinds.specs.declared.value.Value.{Value}
use Rattle.program_file.specs.Keys.{items_in}
use Rattle.program_file.specs.Tables.{AreEntitiesIn}
use Rattle.program_file.proofs.Counts.{count-document, item_count, value_count}

count-items_of : (ds : List Data) → item_count (items_of ds) ≡ length ds
count-items_of [] = refl
count-items_of (d ∷ ds) = let more = count-items_of ds in omega arith

zip-length : {A B : Type 0} (R : A → B → Type 0) (xs : List A) (ys : List B) → AllZip R xs ys → length xs ≡ length ys
zip-length R [] [] h = refl
zip-length R [] (y ∷ ys) h = absurd h
zip-length R (x ∷ xs) [] h = absurd h
zip-length R (x ∷ xs) (y ∷ ys) h = let more = zip-length R xs ys h.1 in omega arith

-- the items at a key are those of the array there
count-items_in : (n : ℕ) (o : Option Data) (ds : Items) → items_in o ≡ Some ds → IfSome o (λ d. value_count d ≤ n) → item_count ds ≤ n
count-items_in n None ds is h = subst (λ found. item_count found ≤ n) (same_Some no_items ds is) (omega arith)
count-items_in n (Some (array found)) ds is h = subst (λ items. item_count items ≤ n) (same_Some found ds is) h
count-items_in n (Some (string text)) ds is h = absurd (none-some ds is)
count-items_in n (Some (integer z)) ds is h = absurd (none-some ds is)
count-items_in n (Some (float x)) ds is h = absurd (none-some ds is)
count-items_in n (Some (boolean b)) ds is h = absurd (none-some ds is)
count-items_in n (Some (datetime d)) ds is h = absurd (none-some ds is)
count-items_in n (Some (table ms)) ds is h = absurd (none-some ds is)

count-tables : (tables : List Members) → length (map table tables) ≡ length tables
count-tables [] = refl
count-tables (t ∷ ts) = let more = count-tables ts in omega arith

pub count-entities : (text : List ℕ) (document : Members) (entities : List (Vec Value Global)) → parse_document text ≡ Some document → AreEntitiesIn document entities → length entities ≤ length text
count-entities text document entities is h =
    let ds = map table h.tables in
    let within : item_count (items_of ds) ≤ length text =
    count-items_in (length text) (get_member (codes "entity") document) (items_of ds) h.there (count-document text document (codes "entity") is) in
    let listed = count-items_of ds in
    let mapped = count-tables h.tables in
    let each = zip-length _ h.tables entities h.each in
    omega (arith, within)
