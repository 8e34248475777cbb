-- A fault that is told of a document: no program file is what the document says.
use Rattle.std.proofs.Common.{◌≡◌, ◌∙◌, ℕ, zero, suc, Bor, Some, None, List, [], ◌∷◌, map, codes, slice_get, refl, sym, ap, subst}
use Rattle.std.specs.List.{AllZip, AllByRecursion}
use Rattle.toml.specs.Data.{Members}
use Rattle.script.specs.declared.script_body.Block.{Block}
use Rattle.program_file.specs.Keys.{HasTables}
use Rattle.program_file.specs.PlaceFault.{NoneIsAt}
use Rattle.program_file.specs.Tables.{AreValuesIn, AreBlocksIn, IsBlockIn, IsEntityIn, IsEntityOf, IsItemIn, IsSetIn, IsSystemIn, IsChainIn, IsFileIn}
use Rattle.program_file.specs.Faults.{TopTables, HasItemKeys, HasSetKeys, HasBlockKeys, HasBlocks, HasSystemKeys, HasTop, HasEntity, HasChain, IsTop, IsWrong, IsFirstWrong, IsWrongAt, IsFaultOf}
use Rattle.program_file.specs.declared.place.Place.TheVariants.{Top, Resources, Entity, Set, System, Chain}
use Rattle.program_file.specs.declared.fault.FileFault.{FileFault}
use Rattle.program_file.specs.declared.fault.FileFault.TheVariants as file
use Rattle.program_file.specs.declared.place_fault.PlaceFault.{PlaceFault}
use Rattle.program_file.specs.declared.place_fault.PlaceFault.TheVariants.{Value, Text, Memory}
use Rattle.program_file.specs.declared.program_file.ChainTable.{ChainTable}
use Rattle.program_file.specs.declared.program_file.ItemTable.{ItemTable}
use Rattle.program_file.specs.declared.program_file.ProgramFile.{ProgramFile}
use Rattle.program_file.specs.declared.program_file.SystemTable.{SystemTable}
use Rattle.program_file.proofs.Refusals.{one-table, one-tables}
use Rattle.program_file.proofs.Items.{names-list}

-- ---- what is one has the keys of one

pub item-keys : (table : Members) (item : ItemTable) → IsItemIn table item → HasItemKeys table
item-keys table item h = record {
  name = (item.name.now, h.name, h.named);
  inside = names-list (codes "in") item.inside.items table h.inside;
  before = names-list (codes "before") item.before.items table h.before;
  after = names-list (codes "after") item.after.items table h.after;
  before_ignore_deferred = names-list (codes "before_ignore_deferred") item.before_ignore_deferred.items table h.before_ignore_deferred;
  after_ignore_deferred = names-list (codes "after_ignore_deferred") item.after_ignore_deferred.items table h.after_ignore_deferred;
  ambiguous_with = names-list (codes "ambiguous_with") item.ambiguous_with.items table h.ambiguous_with;
  conditions = (h.conditions.texts, h.conditions.there);
}

set-keys : (table : Members) (set : ItemTable) → IsSetIn table set → HasSetKeys table
set-keys table set h = record { only = h.only; item = item-keys table set h.item }

block-keys : (table : Members) (block : Block) → IsBlockIn table block → HasBlockKeys table
block-keys table block h = record { only = h.only; given = h.given; rounds = (block.rounds, h.rounds); code = (h.texts, h.there) }

blocks-keys : (tables : List Members) (blocks : List Block) → AllZip IsBlockIn tables blocks → AllByRecursion HasBlockKeys tables
blocks-keys [] blocks h = tt
blocks-keys (t ∷ ts) [] h = absurd h
blocks-keys (t ∷ ts) (b ∷ bs) h = (block-keys t b h.0, blocks-keys ts bs h.1)

system-keys : (table : Members) (system : SystemTable) → IsSystemIn table system → HasSystemKeys table
system-keys table system h = record {
  only = h.only;
  item = item-keys table system.item h.item;
  queries = (h.queries.texts, h.queries.there);
  res = (system.res.items, h.touched.res);
  res_mut = (system.res_mut.items, h.touched.res_mut);
  reads = (system.reads.items, h.touched.reads);
  writes = (system.writes.items, h.touched.writes);
  spawns = (system.spawns, h.touched.spawns);
  blocks = (h.blocks.tables, h.blocks.there, blocks-keys h.blocks.tables system.blocks.items h.blocks.each);
}

-- ---- a table that is wrong among several that are read

read-at : {X : Type 0} (Is : Members → X → Type 0) (tables : List Members) (xs : List X) (i : ℕ) (table : Members) → AllZip Is tables xs → slice_get tables i ≡ Some table → (x : X) × Is table x
read-at Is [] xs i table h there = absurd (let no : None ≡ Some table = there in cc)
read-at Is (t ∷ ts) [] i table h there = absurd h
read-at Is (t ∷ ts) (x ∷ xs) zero table h there = (x, subst (λ (m : Members). Is m x) (let same : Some t ≡ Some table = there in cc) h.0)
read-at Is (t ∷ ts) (x ∷ xs) (suc i) table h there = read-at Is ts xs i table h.1 there

wrong-not : (Keys Whole : Type 0) (fault : PlaceFault) → IsWrong Keys Whole fault → (Whole → Keys) → Whole → (fault ≡ Memory → ⊥) → ⊥
wrong-not Keys Whole Value wrong keys whole real = wrong (keys whole)
wrong-not Keys Whole Text wrong keys whole real = wrong.1 whole
wrong-not Keys Whole Memory wrong keys whole real = real refl

first-not : {X : Type 0} (HasKeys : Members → Type 0) (Is : Members → X → Type 0) (tables : List Members) (xs : List X) (number : ℕ) (fault : PlaceFault) → IsFirstWrong HasKeys Is tables number fault
    → ((table : Members) (x : X) → Is table x → HasKeys table) → AllZip Is tables xs → (fault ≡ Memory → ⊥) → ⊥
first-not {X} HasKeys Is tables xs number fault wrong keys read =
    wrong-not (HasKeys wrong.table) ((x : X) × Is wrong.table x) fault wrong.wrong (λ whole. keys wrong.table whole.0 whole.1) (read-at Is tables xs number wrong.table read wrong.there)

-- entities as lists of components
entities-as : (tables : List Members) (file : ProgramFile) → (same : AllZip IsEntityOf tables file.entities.items) → AllZip IsEntityIn tables (map (λ components. components.items) file.entities.items)
entities-as tables file h = go tables file.entities.items h
  where
    go : (ts : List Members) (es : List _) → AllZip IsEntityOf ts es → AllZip IsEntityIn ts (map (λ components. components.items) es)
    go [] [] h = tt
    go [] (e ∷ es) h = absurd h
    go (t ∷ ts) [] h = absurd h
    go (t ∷ ts) (e ∷ es) h = (h.0, go ts es h.1)

-- ---- a file

top-of : (document : Members) (tables : ProgramFile) → IsFileIn document tables → HasTop document
top-of document tables h = (
  record {
    resources = h.resources.table;
    entities = h.entities.tables;
    sets = h.sets.tables;
    systems = h.systems.tables;
    chains = h.chains.tables;
  },
  record {
    only = h.only;
    resources = h.resources.there;
    entities = h.entities.there;
    sets = h.sets.there;
    systems = h.systems.there;
    chains = h.chains.there;
  },
)

module _ (document : Members) (tables : ProgramFile) (h : IsFileIn document tables) (top : TopTables) (there : IsTop document top) (fault : PlaceFault) (real : fault ≡ Memory → ⊥) where
  zipped : {X : Type 0} (Is : Members → X → Type 0) (key : List ℕ) (ts us : List Members) (xs : List X) → HasTables key ts document → HasTables key us document → AllZip Is ts xs → AllZip Is us xs
  zipped Is key ts us xs a b each = subst (λ (ms : List Members). AllZip Is ms xs) (one-tables key document ts us a b) each

  not-resources : IsWrongAt top Resources fault → ⊥
  not-resources wrong =
      let at : AreValuesIn top.resources tables.resources = subst (λ (t : Members). AreValuesIn t tables.resources) (one-table (codes "resources") document h.resources.table top.resources h.resources.there there.resources) h.resources.given in
      wrong-not ((values : List _) × AreValuesIn top.resources values) ((values : List _) × AreValuesIn top.resources values) fault wrong (λ values. values) (tables.resources, at) real

  not-entity : (number : ℕ) → IsWrongAt top (Entity number) fault → ⊥
  not-entity number (values, wrong) =
      first-not HasEntity IsEntityIn top.entities (map (λ components. components.items) tables.entities.items) number fault wrong (λ table components is. (components, is))
      (zipped IsEntityIn (codes "entity") h.entities.tables top.entities (map (λ components. components.items) tables.entities.items) h.entities.there there.entities (entities-as h.entities.tables tables h.entities.each)) real

  not-set : (number : ℕ) → IsWrongAt top (Set number) fault → ⊥
  not-set number (values, entities, wrong) =
      first-not HasSetKeys IsSetIn top.sets tables.sets.items number fault wrong set-keys (zipped IsSetIn (codes "set") h.sets.tables top.sets tables.sets.items h.sets.there there.sets h.sets.each) real

  not-system : (number : ℕ) → IsWrongAt top (System number) fault → ⊥
  not-system number (values, entities, sets, wrong) =
      first-not HasSystemKeys IsSystemIn top.systems tables.systems.items number fault wrong system-keys (zipped IsSystemIn (codes "system") h.systems.tables top.systems tables.systems.items h.systems.there there.systems h.systems.each) real

  not-chain : (number : ℕ) → IsWrongAt top (Chain number) fault → ⊥
  not-chain number (values, entities, sets, systems, wrong) =
      first-not HasChain IsChainIn top.chains tables.chains.items number fault wrong (λ table chain is. (chain, is)) (zipped IsChainIn (codes "chain") h.chains.tables top.chains tables.chains.items h.chains.there there.chains h.chains.each) real

value_real : Value ≡ Memory → ⊥
value_real e = absurd (cc)

text_real : Text ≡ Memory → ⊥
text_real e = absurd (cc)

-- where a fault is told of a document, there is no file of it
pub fault-none : (document : Members) (fault : FileFault) → IsFaultOf document fault → NoneIsAt (IsFileIn document) fault
fault-none document file.Document told = absurd told
fault-none document (file.Value Top) told = λ tables h. told (top-of document tables h)
fault-none document (file.Value Resources) (top, there, wrong) = λ tables h. not-resources document tables h top there Value value_real wrong
fault-none document (file.Value (Entity number)) (top, there, wrong) = λ tables h. not-entity document tables h top there Value value_real number wrong
fault-none document (file.Value (Set number)) (top, there, wrong) = λ tables h. not-set document tables h top there Value value_real number wrong
fault-none document (file.Value (System number)) (top, there, wrong) = λ tables h. not-system document tables h top there Value value_real number wrong
fault-none document (file.Value (Chain number)) (top, there, wrong) = λ tables h. not-chain document tables h top there Value value_real number wrong
fault-none document (file.Text Top) told = λ tables h. told.1 (top-of document tables h)
fault-none document (file.Text Resources) (top, there, wrong) = λ tables h. not-resources document tables h top there Text text_real wrong
fault-none document (file.Text (Entity number)) (top, there, wrong) = λ tables h. not-entity document tables h top there Text text_real number wrong
fault-none document (file.Text (Set number)) (top, there, wrong) = λ tables h. not-set document tables h top there Text text_real number wrong
fault-none document (file.Text (System number)) (top, there, wrong) = λ tables h. not-system document tables h top there Text text_real number wrong
fault-none document (file.Text (Chain number)) (top, there, wrong) = λ tables h. not-chain document tables h top there Text text_real number wrong
fault-none document file.Memory told = tt
