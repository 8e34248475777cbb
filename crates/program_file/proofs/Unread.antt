-- Tables that are refused: no entity, item, chain or system has them.
use Rattle.std.proofs.Common.{◌≡◌, ◌∙◌, ℕ, ℤ, ◌<◌, List, [], ◌∷◌, ◌++◌, Bor, BTreeMap, String, Global, codes, length, map, get_or, ap, sym, subst, string_bytes}
use Rattle.std.proofs.lemmas.List.{get_or-map}
use Rattle.std.proofs.lemmas.List.Elements.{recursion_from_All}
use Rattle.std.specs.List.{AllZip, AllByRecursion}
use Rattle.parsing.specs.Reads.{SpellsOnly}
use Rattle.toml.specs.Data.{Data, Members, integer, array}
use Rattle.toml.specs.View.{view, items_of, members_view, table_view}
use Rattle.toml.specs.declared.value.Value.{Value as TomlValue}
use Rattle.toml.proofs.Views.{Entry}
use Rattle.kinds.specs.Components.{widths}
use Rattle.kinds.specs.Kind.{IsKind, kind_number}
use Rattle.kinds.specs.Res.{every_res, res_name}
use Rattle.kinds.specs.Value.{value_words}
use Rattle.kinds.specs.declared.kind.Kind.{Kind}
use Rattle.kinds.specs.declared.res.Res.{Res}
use Rattle.kinds.specs.declared.value.Value.{Value}
use Rattle.kinds.proofs.Wide.{value_width}
use Rattle.run_condition.specs.Grammar.{IsCondition}
use Rattle.run_condition.specs.declared.cond.Cond.{Cond}
use Rattle.script.specs.Instruction.{IsInstruction}
use Rattle.script.specs.declared.instruction.Instruction.{Instruction}
use Rattle.script.specs.declared.script_body.Block.{Block}
use Rattle.program_file.specs.Keys.{HasInteger, HasTables, HasTexts, HasItemNames, AreIntegers}
use Rattle.tokens.specs.Name.{IsName}
use Rattle.program_file.specs.PlaceFault.{NoneIs, NoneIsAt}
use Rattle.program_file.specs.Readings.{AreSpelled}
use Rattle.program_file.specs.Tables.{AreValuesIn, IsComponentIn, IsEntityIn, AreConditionsIn, IsItemTextsIn, IsBlockIn, AreBlocksIn, IsBlockTextsIn, AreBlockTextsIn, IsCodeOf}
use Rattle.program_file.specs.declared.fault.FileFault.{FileFault}
use Rattle.program_file.specs.declared.place_fault.PlaceFault.{PlaceFault}
use Rattle.program_file.specs.declared.program_file.BlockTexts.{BlockTexts}
use Rattle.program_file.specs.declared.program_file.ItemTexts.{ItemTexts}
use Rattle.program_file.proofs.Refusals.{NoneIs-part, NoneIsAt-part, mapped-one, zip-at, zip-seen, items_of-one, one-tables, spelled-one}

-- ---- the world

-- no value of a resource
pub value-refused : (table : Members) (number : ℕ) (d : Res) (key : List ℕ) (fault : PlaceFault) → number < length every_res → key ≡ get_or (map res_name every_res) number []
    → NoneIs (λ (n : ℤ). HasInteger key n table) fault → NoneIs (AreValuesIn table) fault
value-refused table number d key fault below is =
    let at : key ≡ res_name (get_or every_res number d) = is ∙ get_or-map res_name every_res number d [] below in
    NoneIs-part (λ (n : ℤ). HasInteger key n table) (AreValuesIn table) fault
    (λ values h.
    let (n, has) = zip-at (λ (res : Res) (n : ℤ). HasInteger (res_name res) n table) every_res values number d h.each below in
    (n, subst (λ (k : List ℕ). HasInteger k n table) (sym at) has))

-- an array of the integers of another kind
pub width-refused : (name : List ℕ) (value : Data) (kind : Kind) (fields : List ℤ) → SpellsOnly IsKind name kind → AreIntegers fields value → (length fields ≡ widths (kind_number kind) → ⊥)
    → (component : Value) → IsComponentIn name value component → ⊥
width-refused name value kind fields named there differ component h =
    let same : h.kind ≡ kind = named.1 h.kind h.named in
    let both : array (items_of (map integer fields)) ≡ array (items_of (map integer (value_words component))) = sym there ∙ h.fields in
    let words : fields ≡ value_words component =
    mapped-one integer (λ x y e. let equal : integer x ≡ integer y = e in cc) fields (value_words component) (items_of-one (map integer fields) (map integer (value_words component)) (cc)) in
    differ (ap (λ (ns : List ℤ). length ns) words ∙ value_width component ∙ ap widths (h.number ∙ ap kind_number same))

component-at : (done : List Entry) (e : Entry) (rest : List Entry) (components : List Value) → IsEntityIn (members_view (done ++ e ∷ rest)) components → (component : Value) × IsComponentIn (string_bytes e.0) (view e.1) component
component-at [] e rest [] h = absurd h
component-at [] e rest (c ∷ cs) h = (c, h.0)
component-at (d ∷ done) e rest [] h = absurd h
component-at (d ∷ done) e rest (c ∷ cs) h = component-at done e rest cs h.1

-- a member that is no component
pub entity-refused : (entries done : List Entry) (e : Entry) (rest : List Entry) (fault : PlaceFault) → entries ≡ done ++ e ∷ rest → NoneIs (IsComponentIn (string_bytes e.0) (view e.1)) fault → NoneIs (IsEntityIn (members_view entries)) fault
entity-refused entries done e rest fault is =
    NoneIs-part (IsComponentIn (string_bytes e.0) (view e.1)) (IsEntityIn (members_view entries)) fault
    (λ components h. component-at done e rest components (subst (λ (es : List Entry). IsEntityIn (members_view es) components) is h))

-- ---- items

pub all-seen : {A B : Type 0} (P : B → Type 0) (f : A → B) (xs : List A) → AllByRecursion (λ x. P (f x)) xs → AllByRecursion P (map f xs)
all-seen P f [] h = tt
all-seen P f (x ∷ xs) h = (h.0, all-seen P f xs h.1)

-- what has names at a key where none are
pub names-part : {Y : Type 0} (Q : Y → Type 0) (key : List ℕ) (table : Members) (names_of : Y → List (Bor (List ℕ))) (fault : PlaceFault) → ((y : Y) → Q y → HasItemNames key (names_of y) table)
    → NoneIs (λ (texts : List (List ℕ)). HasTexts key texts table × AllByRecursion IsName texts) fault → NoneIs Q fault
names-part Q key table names_of fault part =
    NoneIs-part (λ (texts : List (List ℕ)). HasTexts key texts table × AllByRecursion IsName texts) Q fault
    (λ y q.
    let names = names_of y in
    let (there, named) = part y q in
    (map (λ (name : Bor (List ℕ)). name.now) names, (there, all-seen IsName (λ (name : Bor (List ℕ)). name.now) names (recursion_from_All (λ (name : Bor (List ℕ)). IsName name.now) names named))))

-- the conditions of an item whose keys were looked at
pub conditions-of : (table : Members) (item : ItemTexts) (conditions : List Cond) → IsItemTextsIn table item → AreConditionsIn table conditions → AreSpelled IsCondition conditions (map (λ text. text.now) item.conditions.items)
conditions-of table item conditions there given = spelled-one IsCondition (codes "if") table item.conditions.items given.texts conditions there.conditions given.there given.spelled

-- ---- tables at a key

-- ---- blocks

code-of : (table : Members) (texts : BlockTexts) (block : Block) → IsBlockTextsIn table texts → IsBlockIn table block → IsCodeOf texts block.code.items
code-of table texts block there given = spelled-one IsInstruction (codes "code") table texts.code.items given.texts block.code.items there.code given.there given.spelled

codes-of : (tables : List Members) (texts : List BlockTexts) (blocks : List Block) → AllZip IsBlockTextsIn tables texts → AllZip IsBlockIn tables blocks → (code : List (List Instruction)) × AllZip IsCodeOf texts code
codes-of [] [] blocks there given = ([], tt)
codes-of [] (t ∷ ts) blocks there given = absurd there
codes-of (m ∷ ms) [] blocks there given = absurd there
codes-of (m ∷ ms) (t ∷ ts) [] there given = absurd given
codes-of (m ∷ ms) (t ∷ ts) (b ∷ bs) there given =
    let (code, more) = codes-of ms ts bs there.1 given.1 in (b.code.items ∷ code, (code-of m t b there.0 given.0, more))

-- the code of blocks whose keys were looked at
pub blocks-code : (table : Members) (texts : List BlockTexts) (blocks : List Block) → AreBlockTextsIn table texts → AreBlocksIn table blocks → (code : List (List Instruction)) × AllZip IsCodeOf texts code
blocks-code table texts blocks there given =
    codes-of there.tables texts blocks there.each (subst (λ (tables : List Members). AllZip IsBlockIn tables blocks) (one-tables (codes "do") table given.tables there.tables given.there there.there) given.each)
