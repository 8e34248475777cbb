-- What the tables of a program file say: what is declared, and what the systems do.
use Rattle.std.specs.Prelude.{ℕ, ◌≡◌, ◌≤◌, List, length, map, Some, Vec}
use Rattle.std.specs.Borrow.{Bor}
use Rattle.std.specs.declared.alloc.Global.{Global}
use Rattle.toml.specs.Data.{Members}
use Rattle.toml.specs.Parse.{parse_document}
use Rattle.kinds.specs.Res.{res_number, event_number}
use Rattle.model.specs.access.Access.{Params}
use Rattle.model.specs.declarations.Declarations.{Declared, DeclaredItem, DeclaredSystem, DeclaredChain}
use Rattle.program_file.specs.Keys.{HasOnly}
use Rattle.program_file.specs.Tables.{keys_of_document, AreResourcesIn, AreEntitiesIn, AreSetsIn, AreSystemsIn, AreChainsIn}
use Rattle.program_file.specs.declared.program_file.ChainTable.{ChainTable}
use Rattle.program_file.specs.declared.program_file.ItemTable.{ItemTable}
use Rattle.program_file.specs.declared.program_file.ProgramFile.{ProgramFile}
use Rattle.program_file.specs.declared.program_file.SystemTable.{SystemTable}
use Rattle.script.specs.Block.{block_of}
use Rattle.script.specs.declared.script_body.Block.{Block}
use Rattle.script.specs.declared.script_body.ScriptBody.{ScriptBody}

-- the names of a list, by their bytes
abbrev pub names_said : List (Bor (List ℕ)) → List (List ℕ)
names_said names = map (λ name. name.now) names

-- a set, or what a system has besides its parameters
abbrev pub item_said : ItemTable → DeclaredItem
item_said t = record {
  name = t.name.now;
  inside = names_said t.inside.items;
  before = names_said t.before.items;
  after = names_said t.after.items;
  before_ignore_deferred = names_said t.before_ignore_deferred.items;
  after_ignore_deferred = names_said t.after_ignore_deferred.items;
  ambiguous_with = names_said t.ambiguous_with.items;
  conditions = t.conditions.items;
}

-- the parameters of a system
abbrev pub params_said : SystemTable → Params
params_said t = record {
  queries = t.queries.items;
  res = map res_number t.res.items;
  res_mut = map res_number t.res_mut.items;
  reads = map event_number t.reads.items;
  writes = map event_number t.writes.items;
  spawns = t.spawns;
}

-- a system
abbrev pub system_said : SystemTable → DeclaredSystem
system_said t = record { item = item_said t.item; params = params_said t }

-- a chain
abbrev pub chain_said : ChainTable → DeclaredChain
chain_said t = record { items = names_said t.items.items; ignores_deferred = t.ignores_deferred }

-- all that is declared, in the order of the tables
abbrev pub declared_said : List ItemTable → List SystemTable → List ChainTable → Declared
declared_said sets systems chains = record { sets = map item_said sets; systems = map system_said systems; chains = map chain_said chains }

-- the script of these blocks
abbrev pub script_said : Vec Block Global → ScriptBody
script_said blocks = map block_of blocks.items

-- all that a program file declares
abbrev pub declared_by : ProgramFile → Declared
declared_by file = declared_said file.sets.items file.systems.items file.chains.items

-- the scripts of its systems
abbrev pub scripts_by : ProgramFile → List ScriptBody
scripts_by file = map (λ (t : SystemTable). script_said t.blocks) file.systems.items

-- the longest program file
abbrev pub most_bytes : ℕ
most_bytes = 1048576

-- a text is no longer than that
abbrev pub IsShortFile : List ℕ → Type 0
IsShortFile text = length text ≤ most_bytes

-- the longest text of traces
abbrev pub most_trace_bytes : ℕ
most_trace_bytes = 67108864

-- a text is no longer than that
abbrev pub IsShortTrace : List ℕ → Type 0
IsShortTrace text = length text ≤ most_trace_bytes

-- some text, no longer than a program file may be, is this document
pub record IsOfShortText (document : Members) : Type 0 where
  pub text : List ℕ
  pub short : IsShortFile text
  pub parsed : parse_document text ≡ Some document

-- a text is a document that has these tables, its resources, its entities, its sets, its systems and its chains, and no other key
pub record IsFileOf (tables : ProgramFile) (text : List ℕ) : Type 0 where
  pub document : Members
  pub parsed : parse_document text ≡ Some document
  pub only : HasOnly keys_of_document document
  pub resources : AreResourcesIn document tables.resources
  pub entities : AreEntitiesIn document tables.entities.items
  pub sets : AreSetsIn document tables.sets.items
  pub systems : AreSystemsIn document tables.systems.items
  pub chains : AreChainsIn document tables.chains.items
