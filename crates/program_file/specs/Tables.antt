-- What the tables of a document say of resources, entities, items, chains and systems.
use Rattle.std.specs.Prelude.{◌≡◌, ℕ, ℤ, List, [], ◌∷◌, ◌++◌, map, codes, Vec}
use Rattle.std.specs.List.{AllZip}
use Rattle.std.specs.declared.alloc.Global.{Global}
use Rattle.toml.specs.Data.{Data, Members, no_members, member}
use Rattle.kinds.specs.Kind.{IsKind, kind_number}
use Rattle.kinds.specs.Res.{every_res, res_name}
use Rattle.kinds.specs.Value.{value_number, value_words}
use Rattle.kinds.specs.declared.kind.Kind.{Kind}
use Rattle.kinds.specs.declared.value.Value.{Value}
use Rattle.query.specs.Grammar.{IsQuery}
use Rattle.query.specs.declared.query.Query.{Query}
use Rattle.run_condition.specs.Grammar.{IsCondition}
use Rattle.run_condition.specs.declared.cond.Cond.{Cond}
use Rattle.script.specs.Instruction.{IsInstruction}
use Rattle.script.specs.declared.instruction.Instruction.{Instruction}
use Rattle.script.specs.declared.script_body.Block.{Block}
use Rattle.program_file.specs.Keys.{HasOnly, HasTable, HasTables, HasTexts, HasNames, HasItemNames, HasKey, HasResources, HasEvents, HasText, HasInteger, HasNumber, HasFlag, AreIntegers}
use Rattle.tokens.specs.Name.{IsName}
use Rattle.program_file.specs.Readings.{AreSpelled}
use Rattle.program_file.specs.Rounds.{SaysRounds, block_keys}
use Rattle.program_file.specs.declared.program_file.BlockTexts.{BlockTexts}
use Rattle.program_file.specs.declared.program_file.ChainTable.{ChainTable}
use Rattle.program_file.specs.declared.program_file.ItemTable.{ItemTable}
use Rattle.program_file.specs.declared.program_file.ItemTexts.{ItemTexts}
use Rattle.program_file.specs.declared.program_file.ProgramFile.{ProgramFile}
use Rattle.program_file.specs.declared.program_file.SystemTable.{SystemTable}
use Rattle.program_file.specs.declared.program_file.SystemTexts.{SystemTexts}
use Rattle.program_file.specs.declared.program_file.Touched.{Touched}

-- ---- the keys that a table may have

abbrev pub keys_of_document : List (List ℕ)
keys_of_document = codes "resources" ∷ codes "entity" ∷ codes "set" ∷ codes "system" ∷ codes "chain" ∷ []

abbrev pub keys_of_set : List (List ℕ)
keys_of_set = codes "name" ∷ codes "in" ∷ codes "before" ∷ codes "after" ∷ codes "before_ignore_deferred" ∷ codes "after_ignore_deferred" ∷ codes "ambiguous_with" ∷ codes "if" ∷ []

abbrev pub keys_of_system : List (List ℕ)
keys_of_system = keys_of_set ++ codes "query" ∷ codes "res" ∷ codes "res_mut" ∷ codes "reads" ∷ codes "writes" ∷ codes "spawns" ∷ codes "do" ∷ []

abbrev pub keys_of_chain : List (List ℕ)
keys_of_chain = codes "items" ∷ codes "ignore_deferred" ∷ []

abbrev pub keys_of_block : List (List ℕ)
keys_of_block = codes "each" ∷ codes "events" ∷ codes "code" ∷ []

-- ---- the world

-- the values of the resources, by number: each is the integer at its name, 0 where that is no key, and no key is another
pub record AreValuesIn (table : Members) (values : List ℤ) : Type 0 where
  pub only : HasOnly (map res_name every_res) table
  pub each : AllZip (λ res n. HasInteger (res_name res) n table) every_res values

pub record AreResourcesIn (document : Members) (values : List ℤ) : Type 0 where
  pub table : Members
  pub there : HasTable (codes "resources") table document
  pub given : AreValuesIn table values

-- a member of the table of an entity is this component: its key is the name of the kind, its value the array of the fields
pub record IsComponentIn (key : List ℕ) (value : Data) (component : Value) : Type 0 where
  pub kind : Kind
  pub named : IsKind kind key
  pub number : value_number component ≡ kind_number kind
  pub fields : AreIntegers (value_words component) value

-- the members of the table of an entity are these components, in the order of the keys
abbrev pub IsEntityIn : Members → List Value → Type 0
IsEntityIn no_members [] = Unit {0}
IsEntityIn no_members (component ∷ components) = ⊥
IsEntityIn (member key value rest) [] = ⊥
IsEntityIn (member key value rest) (component ∷ components) = IsComponentIn key value component × IsEntityIn rest components

-- the same of components that are kept
abbrev pub IsEntityOf : Members → Vec Value Global → Type 0
IsEntityOf table components = IsEntityIn table components.items

-- entities, each by its own table
pub record AreEntitiesIn (document : Members) (entities : List (Vec Value Global)) : Type 0 where
  pub tables : List Members
  pub there : HasTables (codes "entity") tables document
  pub each : AllZip IsEntityOf tables entities

-- ---- what is declared

-- conditions, each the only one that its text spells
pub record AreConditionsIn (table : Members) (conditions : List Cond) : Type 0 where
  pub texts : List (List ℕ)
  pub there : HasTexts (codes "if") texts table
  pub spelled : AreSpelled IsCondition conditions texts

-- a set, or what a system has besides its queries and blocks: it has a name, and each list is that of its key, in order, of names
pub record IsItemIn (table : Members) (item : ItemTable) : Type 0 where
  pub name : HasText (codes "name") item.name.now table
  pub named : IsName item.name.now
  pub inside : HasItemNames (codes "in") item.inside.items table
  pub before : HasItemNames (codes "before") item.before.items table
  pub after : HasItemNames (codes "after") item.after.items table
  pub before_ignore_deferred : HasItemNames (codes "before_ignore_deferred") item.before_ignore_deferred.items table
  pub after_ignore_deferred : HasItemNames (codes "after_ignore_deferred") item.after_ignore_deferred.items table
  pub ambiguous_with : HasItemNames (codes "ambiguous_with") item.ambiguous_with.items table
  pub conditions : AreConditionsIn table item.conditions.items

-- a set
pub record IsSetIn (table : Members) (set : ItemTable) : Type 0 where
  pub only : HasOnly keys_of_set table
  pub item : IsItemIn table set

-- a chain: its items are there, and are names
pub record IsChainIn (table : Members) (chain : ChainTable) : Type 0 where
  pub only : HasOnly keys_of_chain table
  pub there : HasKey (codes "items") table
  pub items : HasItemNames (codes "items") chain.items.items table
  pub ignores_deferred : HasFlag (codes "ignore_deferred") chain.ignores_deferred table

-- the resources and the event kinds of a system, and how many ids it is granted at a start, where it has Commands
pub record IsTouchedIn (table : Members) (system : SystemTable) : Type 0 where
  pub res : HasResources (codes "res") system.res.items table
  pub res_mut : HasResources (codes "res_mut") system.res_mut.items table
  pub reads : HasEvents (codes "reads") system.reads.items table
  pub writes : HasEvents (codes "writes") system.writes.items table
  pub spawns : HasNumber (codes "spawns") system.spawns table

-- queries, each the only one that its text spells
pub record AreQueriesIn (table : Members) (queries : List Query) : Type 0 where
  pub texts : List (List ℕ)
  pub there : HasTexts (codes "query") texts table
  pub spelled : AreSpelled IsQuery queries texts

-- a block: how often it runs, and its code, which is there, each instruction the only one that its text spells
pub record IsBlockIn (table : Members) (block : Block) : Type 0 where
  pub only : HasOnly keys_of_block table
  pub given : HasKey (codes "code") table
  pub rounds : SaysRounds block.rounds (block_keys table)
  pub texts : List (List ℕ)
  pub there : HasTexts (codes "code") texts table
  pub spelled : AreSpelled IsInstruction block.code.items texts

-- blocks, each by its own table
pub record AreBlocksIn (table : Members) (blocks : List Block) : Type 0 where
  pub tables : List Members
  pub there : HasTables (codes "do") tables table
  pub each : AllZip IsBlockIn tables blocks

-- a system
pub record IsSystemIn (table : Members) (system : SystemTable) : Type 0 where
  pub only : HasOnly keys_of_system table
  pub item : IsItemIn table system.item
  pub queries : AreQueriesIn table system.queries.items
  pub touched : IsTouchedIn table system
  pub blocks : AreBlocksIn table system.blocks.items

-- sets, systems and chains, each by its own table
pub record AreSetsIn (document : Members) (sets : List ItemTable) : Type 0 where
  pub tables : List Members
  pub there : HasTables (codes "set") tables document
  pub each : AllZip IsSetIn tables sets

pub record AreSystemsIn (document : Members) (systems : List SystemTable) : Type 0 where
  pub tables : List Members
  pub there : HasTables (codes "system") tables document
  pub each : AllZip IsSystemIn tables systems

pub record AreChainsIn (document : Members) (chains : List ChainTable) : Type 0 where
  pub tables : List Members
  pub there : HasTables (codes "chain") tables document
  pub each : AllZip IsChainIn tables chains

-- a file: what its document has, and no other key
pub record IsFileIn (document : Members) (file : ProgramFile) : Type 0 where
  pub only : HasOnly keys_of_document document
  pub resources : AreResourcesIn document file.resources
  pub entities : AreEntitiesIn document file.entities.items
  pub sets : AreSetsIn document file.sets.items
  pub systems : AreSystemsIn document file.systems.items
  pub chains : AreChainsIn document file.chains.items

-- ---- on the way: all keys are looked at before a text is read

-- an item whose conditions are texts
pub record IsItemTextsIn (table : Members) (item : ItemTexts) : Type 0 where
  pub name : HasText (codes "name") item.name.now table
  pub named : IsName item.name.now
  pub inside : HasItemNames (codes "in") item.inside.items table
  pub before : HasItemNames (codes "before") item.before.items table
  pub after : HasItemNames (codes "after") item.after.items table
  pub before_ignore_deferred : HasItemNames (codes "before_ignore_deferred") item.before_ignore_deferred.items table
  pub after_ignore_deferred : HasItemNames (codes "after_ignore_deferred") item.after_ignore_deferred.items table
  pub ambiguous_with : HasItemNames (codes "ambiguous_with") item.ambiguous_with.items table
  pub conditions : HasNames (codes "if") item.conditions.items table

-- the same item with its conditions read
pub record IsItemRead (texts : ItemTexts) (item : ItemTable) : Type 0 where
  pub name : item.name ≡ texts.name
  pub inside : item.inside ≡ texts.inside
  pub before : item.before ≡ texts.before
  pub after : item.after ≡ texts.after
  pub before_ignore_deferred : item.before_ignore_deferred ≡ texts.before_ignore_deferred
  pub after_ignore_deferred : item.after_ignore_deferred ≡ texts.after_ignore_deferred
  pub ambiguous_with : item.ambiguous_with ≡ texts.ambiguous_with
  pub conditions : AreSpelled IsCondition item.conditions.items (map (λ text. text.now) texts.conditions.items)

-- a block whose code is texts
pub record IsBlockTextsIn (table : Members) (block : BlockTexts) : Type 0 where
  pub only : HasOnly keys_of_block table
  pub given : HasKey (codes "code") table
  pub rounds : SaysRounds block.rounds (block_keys table)
  pub code : HasNames (codes "code") block.code.items table

pub record AreBlockTextsIn (table : Members) (blocks : List BlockTexts) : Type 0 where
  pub tables : List Members
  pub there : HasTables (codes "do") tables table
  pub each : AllZip IsBlockTextsIn tables blocks

-- the code of a block whose code is texts
abbrev pub IsCodeOf : BlockTexts → List Instruction → Type 0
IsCodeOf texts code = AreSpelled IsInstruction code (map (λ text. text.now) texts.code.items)

-- the same block with its code read
pub record IsRead (texts : BlockTexts) (block : Block) : Type 0 where
  pub rounds : block.rounds ≡ texts.rounds
  pub code : AreSpelled IsInstruction block.code.items (map (λ text. text.now) texts.code.items)

-- what a system touches besides the columns of its queries
pub record AreTouchedIn (table : Members) (touched : Touched) : Type 0 where
  pub res : HasResources (codes "res") touched.res.items table
  pub res_mut : HasResources (codes "res_mut") touched.res_mut.items table
  pub reads : HasEvents (codes "reads") touched.reads.items table
  pub writes : HasEvents (codes "writes") touched.writes.items table
  pub spawns : HasNumber (codes "spawns") touched.spawns table

-- a system whose conditions, queries and code are texts
pub record IsSystemTextsIn (table : Members) (texts : SystemTexts) : Type 0 where
  pub only : HasOnly keys_of_system table
  pub item : IsItemTextsIn table texts.item
  pub queries : HasNames (codes "query") texts.queries.items table
  pub touched : AreTouchedIn table texts.touched
  pub blocks : AreBlockTextsIn table texts.blocks.items

-- the same system with its texts read
pub record IsSystemRead (texts : SystemTexts) (system : SystemTable) : Type 0 where
  pub item : IsItemRead texts.item system.item
  pub queries : AreSpelled IsQuery system.queries.items (map (λ text. text.now) texts.queries.items)
  pub res : system.res ≡ texts.touched.res
  pub res_mut : system.res_mut ≡ texts.touched.res_mut
  pub reads : system.reads ≡ texts.touched.reads
  pub writes : system.writes ≡ texts.touched.writes
  pub spawns : system.spawns ≡ texts.touched.spawns
  pub blocks : AllZip IsRead texts.blocks.items system.blocks.items

-- conditions, queries and code that the texts of a system spell
pub record AreTextsOf (texts : SystemTexts) (spelled : List Cond × List Query × List (List Instruction)) : Type 0 where
  pub conditions : AreSpelled IsCondition spelled.0 (map (λ text. text.now) texts.item.conditions.items)
  pub queries : AreSpelled IsQuery spelled.1 (map (λ text. text.now) texts.queries.items)
  pub code : AllZip IsCodeOf texts.blocks.items spelled.2
