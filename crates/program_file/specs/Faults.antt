-- Which place of a program file is told where it is refused, and whether for the value of a key or for a text: the first place that is
-- wrong, and its keys before its texts.
use Rattle.std.specs.Prelude.{◌≡◌, ℕ, ℤ, List, take, codes, Option, Some, slice_get}
use Rattle.std.specs.List.{AllByRecursion}
use Rattle.toml.specs.Data.{Members}
use Rattle.kinds.specs.declared.res.Res.{Res}
use Rattle.kinds.specs.declared.res.Event.{Event}
use Rattle.kinds.specs.declared.value.Value.{Value as Component}
use Rattle.script.specs.declared.script_body.Rounds.{Rounds}
use Rattle.program_file.specs.Keys.{HasOnly, HasTable, HasTables, HasTexts, HasKey, HasResources, HasEvents, HasText, HasNumber}
use Rattle.tokens.specs.Name.{IsName}
use Rattle.program_file.specs.Rounds.{SaysRounds, block_keys}
use Rattle.program_file.specs.Tables.{keys_of_document, keys_of_set, keys_of_system, keys_of_block, AreValuesIn, IsEntityIn, IsItemIn, IsSetIn, IsSystemIn, IsChainIn}
use Rattle.program_file.specs.declared.place.Place.{Place}
use Rattle.program_file.specs.declared.place.Place.TheVariants.{Top, Resources, Entity, Set, System, Chain}
use Rattle.program_file.specs.declared.fault.FileFault.{FileFault}
use Rattle.program_file.specs.declared.fault.FileFault.TheVariants as file
use Rattle.program_file.specs.declared.place_fault.PlaceFault.{PlaceFault}
use Rattle.program_file.specs.declared.program_file.ChainTable.{ChainTable}
use Rattle.program_file.specs.declared.program_file.ItemTable.{ItemTable}
use Rattle.program_file.specs.declared.program_file.SystemTable.{SystemTable}
use Rattle.program_file.specs.declared.place_fault.PlaceFault.TheVariants.{Value, Text, Memory}

-- ---- all keys of a table have values of their form, whatever its texts spell

-- an array of names, or none
abbrev pub HasNameList : List ℕ → Members → Type 0
HasNameList key table = (texts : List (List ℕ)) × HasTexts key texts table × AllByRecursion IsName texts

-- an array of texts, or none
abbrev pub HasTextList : List ℕ → Members → Type 0
HasTextList key table = (texts : List (List ℕ)) × HasTexts key texts table

-- what a set and a system both have
pub record HasItemKeys (table : Members) : Type 0 where
  pub name : (text : List ℕ) × HasText (codes "name") text table × IsName text
  pub inside : HasNameList (codes "in") table
  pub before : HasNameList (codes "before") table
  pub after : HasNameList (codes "after") table
  pub before_ignore_deferred : HasNameList (codes "before_ignore_deferred") table
  pub after_ignore_deferred : HasNameList (codes "after_ignore_deferred") table
  pub ambiguous_with : HasNameList (codes "ambiguous_with") table
  pub conditions : HasTextList (codes "if") table

-- a set
pub record HasSetKeys (table : Members) : Type 0 where
  pub only : HasOnly keys_of_set table
  pub item : HasItemKeys table

-- a block
pub record HasBlockKeys (table : Members) : Type 0 where
  pub only : HasOnly keys_of_block table
  pub given : HasKey (codes "code") table
  pub rounds : (rounds : Rounds) × SaysRounds rounds (block_keys table)
  pub code : HasTextList (codes "code") table

-- an array of blocks, or none
abbrev pub HasBlocks : Members → Type 0
HasBlocks table = (blocks : List Members) × HasTables (codes "do") blocks table × AllByRecursion HasBlockKeys blocks

-- a system
pub record HasSystemKeys (table : Members) : Type 0 where
  pub only : HasOnly keys_of_system table
  pub item : HasItemKeys table
  pub queries : HasTextList (codes "query") table
  pub res : (resources : List Res) × HasResources (codes "res") resources table
  pub res_mut : (resources : List Res) × HasResources (codes "res_mut") resources table
  pub reads : (events : List Event) × HasEvents (codes "reads") events table
  pub writes : (events : List Event) × HasEvents (codes "writes") events table
  pub spawns : (number : Option ℕ) × HasNumber (codes "spawns") number table
  pub blocks : HasBlocks table

-- what a system touches besides the columns of its queries
pub record HasTouchedKeys (table : Members) : Type 0 where
  pub res : (resources : List Res) × HasResources (codes "res") resources table
  pub res_mut : (resources : List Res) × HasResources (codes "res_mut") resources table
  pub reads : (events : List Event) × HasEvents (codes "reads") events table
  pub writes : (events : List Event) × HasEvents (codes "writes") events table
  pub spawns : (number : Option ℕ) × HasNumber (codes "spawns") number table

-- ---- what is wrong with one table

-- its keys have no such values, or an allocation failed
abbrev pub IsUnkeyed : Type 0 → PlaceFault → Type 0
IsUnkeyed Keys Value = Keys → ⊥
IsUnkeyed Keys Text = ⊥
IsUnkeyed Keys Memory = Unit {0}

-- a text is told only where all keys have such values, and yet the table is none of those that are looked for
abbrev pub IsWrong : Type 0 → Type 0 → PlaceFault → Type 0
IsWrong Keys Whole Value = Keys → ⊥
IsWrong Keys Whole Text = Keys × (Whole → ⊥)
IsWrong Keys Whole Memory = Unit {0}

-- ---- tables in a row

-- each is one of those that are looked for
abbrev pub AreFine : {X : Type 0} → (Members → X → Type 0) → List Members → Type 0
AreFine {X} Is tables = AllByRecursion (λ (table : Members). (x : X) × Is table x) tables

-- the one of this number is the first that is wrong
pub record IsFirstWrong {X : Type 0} (HasKeys : Members → Type 0) (Is : Members → X → Type 0) (tables : List Members) (number : ℕ) (fault : PlaceFault) : Type 0 where
  pub before : AreFine Is (take number tables)
  pub table : Members
  pub there : slice_get tables number ≡ Some table
  pub wrong : IsWrong (HasKeys table) ((x : X) × Is table x) fault

-- ---- the places of a document, in order

-- the tables at the top
pub record TopTables : Type 0 where
  pub resources : Members
  pub entities : List Members
  pub sets : List Members
  pub systems : List Members
  pub chains : List Members

-- a document has these, and no other key
pub record IsTop (document : Members) (top : TopTables) : Type 0 where
  pub only : HasOnly keys_of_document document
  pub resources : HasTable (codes "resources") top.resources document
  pub entities : HasTables (codes "entity") top.entities document
  pub sets : HasTables (codes "set") top.sets document
  pub systems : HasTables (codes "system") top.systems document
  pub chains : HasTables (codes "chain") top.chains document

abbrev pub HasTop : Members → Type 0
HasTop document = (top : TopTables) × IsTop document top

abbrev pub HasValues : Members → Type 0
HasValues table = (values : List ℤ) × AreValuesIn table values

-- an entity and a chain have no texts: all that they are is in their keys
abbrev pub HasEntity : Members → Type 0
HasEntity table = (components : List Component) × IsEntityIn table components

abbrev pub HasChain : Members → Type 0
HasChain table = (chain : ChainTable) × IsChainIn table chain

abbrev pub HasItem : Members → Type 0
HasItem table = (item : ItemTable) × IsItemIn table item

abbrev pub HasSet : Members → Type 0
HasSet table = (set : ItemTable) × IsSetIn table set

abbrev pub HasSystem : Members → Type 0
HasSystem table = (system : SystemTable) × IsSystemIn table system

-- what is wrong with a place below the top, where those before it are fine
abbrev pub IsWrongAt : TopTables → Place → PlaceFault → Type 0
IsWrongAt top Top fault = ⊥
IsWrongAt top Resources fault = IsWrong (HasValues top.resources) (HasValues top.resources) fault
IsWrongAt top (Entity number) fault = HasValues top.resources × IsFirstWrong HasEntity IsEntityIn top.entities number fault
IsWrongAt top (Set number) fault = HasValues top.resources × AreFine IsEntityIn top.entities × IsFirstWrong HasSetKeys IsSetIn top.sets number fault
IsWrongAt top (System number) fault =
    HasValues top.resources × AreFine IsEntityIn top.entities × AreFine IsSetIn top.sets × IsFirstWrong HasSystemKeys IsSystemIn top.systems number fault
IsWrongAt top (Chain number) fault =
    HasValues top.resources × AreFine IsEntityIn top.entities × AreFine IsSetIn top.sets × AreFine IsSystemIn top.systems × IsFirstWrong HasChain IsChainIn top.chains number fault

-- a place is the first of a document that is wrong
abbrev pub IsFirstPlace : Members → Place → PlaceFault → Type 0
IsFirstPlace document Top fault = IsWrong (HasTop document) (HasTop document) fault
IsFirstPlace document Resources fault = (top : TopTables) × IsTop document top × IsWrongAt top Resources fault
IsFirstPlace document (Entity number) fault = (top : TopTables) × IsTop document top × IsWrongAt top (Entity number) fault
IsFirstPlace document (Set number) fault = (top : TopTables) × IsTop document top × IsWrongAt top (Set number) fault
IsFirstPlace document (System number) fault = (top : TopTables) × IsTop document top × IsWrongAt top (System number) fault
IsFirstPlace document (Chain number) fault = (top : TopTables) × IsTop document top × IsWrongAt top (Chain number) fault

-- a fault is the one that is told of a document
abbrev pub IsFaultOf : Members → FileFault → Type 0
IsFaultOf document file.Document = ⊥
IsFaultOf document (file.Value place) = IsFirstPlace document place Value
IsFaultOf document (file.Text place) = IsFirstPlace document place Text
IsFaultOf document file.Memory = Unit {0}

-- ---- on the way: the same of tables in a row, each told by its number

-- a fault of the first of these tables that is wrong, which is told as this place
abbrev pub IsListFault : {X : Type 0} → (ℕ → Place) → (Members → Type 0) → (Members → X → Type 0) → List Members → FileFault → Type 0
IsListFault {X} place_of HasKeys Is tables file.Document = ⊥
IsListFault {X} place_of HasKeys Is tables (file.Value place) = (number : ℕ) × (place ≡ place_of number) × IsFirstWrong HasKeys Is tables number Value
IsListFault {X} place_of HasKeys Is tables (file.Text place) = (number : ℕ) × (place ≡ place_of number) × IsFirstWrong HasKeys Is tables number Text
IsListFault {X} place_of HasKeys Is tables file.Memory = Unit {0}
