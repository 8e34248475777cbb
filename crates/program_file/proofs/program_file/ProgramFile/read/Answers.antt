use Rattle.std.proofs.Common.{◌≡◌, ◌∙◌, ℕ, ℤ, true, false, List, Bor, BTreeMap, String, Global, Result, Ok, Err, IfOk, MatchResult, is_ok, ap, sym, codes, map, rules, subst}
use Rattle.std.specs.List.{AllZip}
use Rattle.toml.specs.Data.{Members}
use Rattle.toml.specs.View.{table_view}
use Rattle.toml.specs.declared.value.Value.{Value}
use Rattle.program_file.specs.Faults.{TopTables, AreFine, HasChain, HasEntity, HasSetKeys, HasSystemKeys, HasTop, HasValues, IsFaultOf, IsListFault, IsTop, IsUnkeyed}
use Rattle.program_file.specs.Keys.{HasOnly, HasTable, HasTables, lent_members}
use Rattle.program_file.specs.PlaceFault.{IsNoText, NoneIs}
use Rattle.program_file.specs.Tables.{keys_of_document, AreValuesIn, IsEntityIn, IsSetIn, IsSystemIn, IsChainIn}
use Rattle.program_file.specs.declared.fault.FileFault.{FileFault}
use Rattle.program_file.specs.declared.place.Place.{Place}
use Rattle.program_file.specs.declared.place.Place.TheVariants.{Top as AtTop, Resources, Entity, Set, System, Chain}
use Rattle.program_file.specs.declared.place_fault.PlaceFault.{PlaceFault}
use Rattle.program_file.specs.declared.program_file.Top.{Top}
use Rattle.program_file.proofs.Blocks.{zip-map}
use Rattle.program_file.proofs.Mapped.{of-mapped}
use Rattle.program_file.proofs.Wrong.{err-both, told-at, top-told, resources-told, entities-told, sets-told, systems-told, chains-told, fine-all}
use Rattle.program_file.proofs.program_file.ProgramFile.read.Goals as goal
use Rattle.model.proofs.lists.Results.{handed_on}
use Rattle.std.proofs.lemmas.Result.{IfOk-from_err}
use Rattle.program_file.specs.PlaceFault.{IsOfPlace}

-- the tables at the top, as they were read
abbrev tables_of : Top → TopTables
tables_of top = record {
  resources = lent_members top.resources;
  entities = map (λ inner. table_view inner.now) top.entities.items;
  sets = map (λ inner. table_view inner.now) top.sets.items;
  systems = map (λ inner. table_view inner.now) top.systems.items;
  chains = map (λ inner. table_view inner.now) top.chains.items;
}

top-read : (document : Members) (r : Result Top PlaceFault) (told : Result Top FileFault) (top : Top) (Q : PlaceFault → Type 0) → MatchResult r (λ y. told ≡ Ok y) Q → is_ok told ≡ is_ok r → told ≡ Ok top
    → IfOk r (λ t. HasOnly keys_of_document document) → IfOk r (λ t. HasTable (codes "resources") (lent_members t.resources) document)
    → IfOk r (λ t. HasTables (codes "entity") (map (λ inner. table_view inner.now) t.entities.items) document) → IfOk r (λ t. HasTables (codes "set") (map (λ inner. table_view inner.now) t.sets.items) document)
    → IfOk r (λ t. HasTables (codes "system") (map (λ inner. table_view inner.now) t.systems.items) document) → IfOk r (λ t. HasTables (codes "chain") (map (λ inner. table_view inner.now) t.chains.items) document)
    → IsTop document (tables_of top)
top-read document (Ok y) told top Q cases variant is only resources entities sets systems chains =
    let both : Ok y ≡ Ok top = sym cases ∙ is in
    let same : y ≡ top = cc in
    subst (λ (t : Top). IsTop document (tables_of t)) same (record { only = only; resources = resources; entities = entities; sets = sets; systems = systems; chains = chains })
top-read document (Err e) told top Q cases variant is only resources entities sets systems chains = absurd (let same : true ≡ false = sym (ap is_ok is) ∙ variant in cc)

values-read : (table : Members) (r : Result (List ℤ) PlaceFault) (told : Result (List ℤ) FileFault) (values : List ℤ) (Q : PlaceFault → Type 0) → MatchResult r (λ y. told ≡ Ok y) Q → is_ok told ≡ is_ok r → told ≡ Ok values → IfOk r (AreValuesIn table)
    → HasValues table
values-read table r told values Q cases variant is read = (values, of-mapped (AreValuesIn table) Q r told values cases variant is read)

-- tables that are lent, which a slice shows
abbrev Lent : Type 0
Lent = List (Bor (BTreeMap (String Global) Value))

shown : {X : Type 0} (place_of : ℕ → Place) (HasKeys : Members → Type 0) (Is : Members → X → Type 0) (slice tables : Lent) (fault : FileFault) → slice ≡ tables
    → IsListFault place_of HasKeys Is (map (λ inner. table_view inner.now) slice) fault → IsListFault place_of HasKeys Is (map (λ inner. table_view inner.now) tables) fault
shown place_of HasKeys Is slice tables fault same told = subst (λ (ts : Lent). IsListFault place_of HasKeys Is (map (λ inner. table_view inner.now) ts) fault) same told

fine : {X Y : Type 0} (Is : Members → X → Type 0) (g : Y → X) (slice tables : Lent) (ys : List Y) → slice ≡ tables → AllZip (λ inner y. Is (table_view inner.now) (g y)) slice ys → AreFine Is (map (λ inner. table_view inner.now) tables)
fine Is g slice tables ys same read =
    subst (λ (ts : Lent). AreFine Is (map (λ inner. table_view inner.now) ts)) same (fine-all Is (λ (inner : Bor (BTreeMap (String Global) Value)). table_view inner.now) g slice ys read)

-- each of what was read is that of its tables
zipped : {X Y : Type 0} (Is : Members → X → Type 0) (g : Y → X) (slice tables : Lent) (ys : List Y) → slice ≡ tables → AllZip (λ inner y. Is (table_view inner.now) (g y)) slice ys
    → AllZip (λ members y. Is members (g y)) (map (λ inner. table_view inner.now) tables) ys
zipped Is g slice tables ys same read =
    zip-map (λ members y. Is members (g y)) (λ (inner : Bor (BTreeMap (String Global) Value)). table_view inner.now) tables ys (subst (λ (ts : Lent). AllZip (λ inner y. Is (table_view inner.now) (g y)) ts ys) same read)

-- the resources have their table, if there is one
pub returns-clause-resources : goal.returns-clause-resources
returns-clause-resources c = record {
  table = lent_members c.in_ok-top.top.resources;
  there = (top-read (table_view c.args.document.now) c.read.result c.map_err.result c.in_ok-top.top _ c.map_err.ensures.cases c.map_err.ensures.variant c.in_ok-top.was c.read.ensures.keys c.read.ensures.resources c.read.ensures.entities c.read.ensures.sets c.read.ensures.systems c.read.ensures.chains).resources;
  given = of-mapped (AreValuesIn (lent_members c.in_ok-top.top.resources)) _ c.resources_of.result c.map_err-2.result c.in_ok-resources.resources c.map_err-2.ensures.cases c.map_err-2.ensures.variant c.in_ok-resources.was c.resources_of.ensures.ok;
}

-- each entity has its table
pub returns-clause-entities : goal.returns-clause-entities
returns-clause-entities c = record {
  tables = map (λ inner. table_view inner.now) c.in_ok-top.top.entities.items;
  there = (top-read (table_view c.args.document.now) c.read.result c.map_err.result c.in_ok-top.top _ c.map_err.ensures.cases c.map_err.ensures.variant c.in_ok-top.was c.read.ensures.keys c.read.ensures.resources c.read.ensures.entities c.read.ensures.sets c.read.ensures.systems c.read.ensures.chains).entities;
  each = zipped IsEntityIn (λ components. components.items) c.as_slice.result.now c.in_ok-top.top.entities.items c.in_ok-entities.entities.items c.as_slice.ensures.value c.in_ok-entities.ensures.ok;
}

-- each set has its table
pub returns-clause-sets : goal.returns-clause-sets
returns-clause-sets c = record {
  tables = map (λ inner. table_view inner.now) c.in_ok-top.top.sets.items;
  there = (top-read (table_view c.args.document.now) c.read.result c.map_err.result c.in_ok-top.top _ c.map_err.ensures.cases c.map_err.ensures.variant c.in_ok-top.was c.read.ensures.keys c.read.ensures.resources c.read.ensures.entities c.read.ensures.sets c.read.ensures.systems c.read.ensures.chains).sets;
  each = zipped IsSetIn (λ set. set) c.as_slice-2.result.now c.in_ok-top.top.sets.items c.in_ok-sets.sets.items c.as_slice-2.ensures.value c.in_ok-sets.ensures.ok;
}

-- each system has its table
pub returns-clause-systems : goal.returns-clause-systems
returns-clause-systems c = record {
  tables = map (λ inner. table_view inner.now) c.in_ok-top.top.systems.items;
  there = (top-read (table_view c.args.document.now) c.read.result c.map_err.result c.in_ok-top.top _ c.map_err.ensures.cases c.map_err.ensures.variant c.in_ok-top.was c.read.ensures.keys c.read.ensures.resources c.read.ensures.entities c.read.ensures.sets c.read.ensures.systems c.read.ensures.chains).systems;
  each = zipped IsSystemIn (λ system. system) c.as_slice-3.result.now c.in_ok-top.top.systems.items c.in_ok-systems.systems.items c.as_slice-3.ensures.value c.in_ok-systems.ensures.ok;
}

-- each chain has its table
pub returns-clause-chains : goal.returns-clause-chains
returns-clause-chains c = record {
  tables = map (λ inner. table_view inner.now) c.in_ok-top.top.chains.items;
  there = (top-read (table_view c.args.document.now) c.read.result c.map_err.result c.in_ok-top.top _ c.map_err.ensures.cases c.map_err.ensures.variant c.in_ok-top.was c.read.ensures.keys c.read.ensures.resources c.read.ensures.entities c.read.ensures.sets c.read.ensures.systems c.read.ensures.chains).chains;
  each = zipped IsChainIn (λ chain. chain) c.as_slice-4.result.now c.in_ok-top.top.chains.items c.in_ok-chains.chains.items c.as_slice-4.ensures.value c.in_ok-chains.ensures.ok;
}

-- the top is wrong
pub returns-in_err-top-clause-fault : goal.returns-in_err-top-clause-fault
returns-in_err-top-clause-fault c =
    let document = table_view c.args.document.now in
    handed_on (IsFaultOf document) c.from_residual.result c.in_err-top.field-0.0 c.from_residual.ensures.1
    (told-at (IsUnkeyed (HasTop document)) (IsFaultOf document) AtTop c.read.result c.map_err.result c.in_err-top.field-0.0 _ c.map_err.ensures.cases c.in_err-top.was c.read.ensures.unkeyed (λ e f q. search rules) (top-told document))

-- or the resources
pub returns-in_err-resources-clause-fault : goal.returns-in_err-resources-clause-fault
returns-in_err-resources-clause-fault c =
    let document = table_view c.args.document.now in
    let top = c.in_ok-top.top in
    let there = top-read document c.read.result c.map_err.result top _ c.map_err.ensures.cases c.map_err.ensures.variant c.in_ok-top.was c.read.ensures.keys c.read.ensures.resources c.read.ensures.entities c.read.ensures.sets c.read.ensures.systems c.read.ensures.chains in
    let table = lent_members top.resources in
    handed_on (IsFaultOf document) c.from_residual-in_err-resources.result c.in_err-resources.field-0.0 c.from_residual-in_err-resources.ensures.1
    (told-at (λ e. NoneIs (AreValuesIn table) e × IsNoText e) (IsFaultOf document) Resources c.resources_of.result c.map_err-2.result c.in_err-resources.field-0.0 _ c.map_err-2.ensures.cases c.in_err-resources.was
    (err-both (NoneIs (AreValuesIn table)) IsNoText c.resources_of.result c.resources_of.ensures.refused c.resources_of.ensures.only) (λ e f q. search rules) (resources-told document (tables_of top) there))

-- or an entity, and what is before it is fine
pub returns-in_err-entities-clause-fault : goal.returns-in_err-entities-clause-fault
returns-in_err-entities-clause-fault c =
    let document = table_view c.args.document.now in
    let top = c.in_ok-top.top in
    let there = top-read document c.read.result c.map_err.result top _ c.map_err.ensures.cases c.map_err.ensures.variant c.in_ok-top.was c.read.ensures.keys c.read.ensures.resources c.read.ensures.entities c.read.ensures.sets c.read.ensures.systems c.read.ensures.chains in
    let values = values-read (lent_members top.resources) c.resources_of.result c.map_err-2.result c.in_ok-resources.resources _ c.map_err-2.ensures.cases c.map_err-2.ensures.variant c.in_ok-resources.was c.resources_of.ensures.ok in
    let fault = c.in_err-entities.field-0.0 in
    handed_on (IsFaultOf document) c.from_residual-in_err-entities.result fault c.from_residual-in_err-entities.ensures.1
    (entities-told document (tables_of top) there fault values (shown (λ number. Entity number) HasEntity IsEntityIn c.as_slice.result.now top.entities.items fault c.as_slice.ensures.value c.in_err-entities.ensures.fault))

-- or a set, and what is before it is fine
pub returns-in_err-sets-clause-fault : goal.returns-in_err-sets-clause-fault
returns-in_err-sets-clause-fault c =
    let document = table_view c.args.document.now in
    let top = c.in_ok-top.top in
    let there = top-read document c.read.result c.map_err.result top _ c.map_err.ensures.cases c.map_err.ensures.variant c.in_ok-top.was c.read.ensures.keys c.read.ensures.resources c.read.ensures.entities c.read.ensures.sets c.read.ensures.systems c.read.ensures.chains in
    let values = values-read (lent_members top.resources) c.resources_of.result c.map_err-2.result c.in_ok-resources.resources _ c.map_err-2.ensures.cases c.map_err-2.ensures.variant c.in_ok-resources.was c.resources_of.ensures.ok in
    let entities = fine IsEntityIn (λ components. components.items) c.as_slice.result.now top.entities.items c.in_ok-entities.entities.items c.as_slice.ensures.value c.in_ok-entities.ensures.ok in
    let fault = c.in_err-sets.field-0.0 in
    handed_on (IsFaultOf document) c.from_residual-in_err-sets.result fault c.from_residual-in_err-sets.ensures.1
    (sets-told document (tables_of top) there fault values entities (shown (λ number. Set number) HasSetKeys IsSetIn c.as_slice-2.result.now top.sets.items fault c.as_slice-2.ensures.value c.in_err-sets.ensures.fault))

-- or a system, and what is before it is fine
pub returns-in_err-systems-clause-fault : goal.returns-in_err-systems-clause-fault
returns-in_err-systems-clause-fault c =
    let document = table_view c.args.document.now in
    let top = c.in_ok-top.top in
    let there = top-read document c.read.result c.map_err.result top _ c.map_err.ensures.cases c.map_err.ensures.variant c.in_ok-top.was c.read.ensures.keys c.read.ensures.resources c.read.ensures.entities c.read.ensures.sets c.read.ensures.systems c.read.ensures.chains in
    let values = values-read (lent_members top.resources) c.resources_of.result c.map_err-2.result c.in_ok-resources.resources _ c.map_err-2.ensures.cases c.map_err-2.ensures.variant c.in_ok-resources.was c.resources_of.ensures.ok in
    let entities = fine IsEntityIn (λ components. components.items) c.as_slice.result.now top.entities.items c.in_ok-entities.entities.items c.as_slice.ensures.value c.in_ok-entities.ensures.ok in
    let sets = fine IsSetIn (λ set. set) c.as_slice-2.result.now top.sets.items c.in_ok-sets.sets.items c.as_slice-2.ensures.value c.in_ok-sets.ensures.ok in
    let fault = c.in_err-systems.field-0.0 in
    handed_on (IsFaultOf document) c.from_residual-in_err-systems.result fault c.from_residual-in_err-systems.ensures.1
    (systems-told document (tables_of top) there fault values entities sets (shown (λ number. System number) HasSystemKeys IsSystemIn c.as_slice-3.result.now top.systems.items fault c.as_slice-3.ensures.value c.in_err-systems.ensures.fault))

-- or a chain, and what is before it is fine
pub returns-in_err-chains-clause-fault : goal.returns-in_err-chains-clause-fault
returns-in_err-chains-clause-fault c =
    let document = table_view c.args.document.now in
    let top = c.in_ok-top.top in
    let there = top-read document c.read.result c.map_err.result top _ c.map_err.ensures.cases c.map_err.ensures.variant c.in_ok-top.was c.read.ensures.keys c.read.ensures.resources c.read.ensures.entities c.read.ensures.sets c.read.ensures.systems c.read.ensures.chains in
    let values = values-read (lent_members top.resources) c.resources_of.result c.map_err-2.result c.in_ok-resources.resources _ c.map_err-2.ensures.cases c.map_err-2.ensures.variant c.in_ok-resources.was c.resources_of.ensures.ok in
    let entities = fine IsEntityIn (λ components. components.items) c.as_slice.result.now top.entities.items c.in_ok-entities.entities.items c.as_slice.ensures.value c.in_ok-entities.ensures.ok in
    let sets = fine IsSetIn (λ set. set) c.as_slice-2.result.now top.sets.items c.in_ok-sets.sets.items c.as_slice-2.ensures.value c.in_ok-sets.ensures.ok in
    let systems = fine IsSystemIn (λ system. system) c.as_slice-3.result.now top.systems.items c.in_ok-systems.systems.items c.as_slice-3.ensures.value c.in_ok-systems.ensures.ok in
    let fault = c.in_err-chains.field-0.0 in
    handed_on (IsFaultOf document) c.from_residual-in_err-chains.result fault c.from_residual-in_err-chains.ensures.1
    (chains-told document (tables_of top) there fault values entities sets systems (shown (λ number. Chain number) HasChain IsChainIn c.as_slice-4.result.now top.chains.items fault c.as_slice-4.ensures.value c.in_err-chains.ensures.fault))

-- at an error there is no file, and the fault of a list is of a place
pub returns-in_err-top-clause-keys : goal.returns-in_err-top-clause-keys
returns-in_err-top-clause-keys c = IfOk-from_err c.from_residual.result _ c.from_residual.ensures.0

pub returns-in_err-top-clause-resources : goal.returns-in_err-top-clause-resources
returns-in_err-top-clause-resources c = IfOk-from_err c.from_residual.result _ c.from_residual.ensures.0

pub returns-in_err-top-clause-entities : goal.returns-in_err-top-clause-entities
returns-in_err-top-clause-entities c = IfOk-from_err c.from_residual.result _ c.from_residual.ensures.0

pub returns-in_err-top-clause-sets : goal.returns-in_err-top-clause-sets
returns-in_err-top-clause-sets c = IfOk-from_err c.from_residual.result _ c.from_residual.ensures.0

pub returns-in_err-top-clause-systems : goal.returns-in_err-top-clause-systems
returns-in_err-top-clause-systems c = IfOk-from_err c.from_residual.result _ c.from_residual.ensures.0

pub returns-in_err-top-clause-chains : goal.returns-in_err-top-clause-chains
returns-in_err-top-clause-chains c = IfOk-from_err c.from_residual.result _ c.from_residual.ensures.0

pub returns-in_err-resources-clause-keys : goal.returns-in_err-resources-clause-keys
returns-in_err-resources-clause-keys c = IfOk-from_err c.from_residual-in_err-resources.result _ c.from_residual-in_err-resources.ensures.0

pub returns-in_err-resources-clause-resources : goal.returns-in_err-resources-clause-resources
returns-in_err-resources-clause-resources c = IfOk-from_err c.from_residual-in_err-resources.result _ c.from_residual-in_err-resources.ensures.0

pub returns-in_err-resources-clause-entities : goal.returns-in_err-resources-clause-entities
returns-in_err-resources-clause-entities c = IfOk-from_err c.from_residual-in_err-resources.result _ c.from_residual-in_err-resources.ensures.0

pub returns-in_err-resources-clause-sets : goal.returns-in_err-resources-clause-sets
returns-in_err-resources-clause-sets c = IfOk-from_err c.from_residual-in_err-resources.result _ c.from_residual-in_err-resources.ensures.0

pub returns-in_err-resources-clause-systems : goal.returns-in_err-resources-clause-systems
returns-in_err-resources-clause-systems c = IfOk-from_err c.from_residual-in_err-resources.result _ c.from_residual-in_err-resources.ensures.0

pub returns-in_err-resources-clause-chains : goal.returns-in_err-resources-clause-chains
returns-in_err-resources-clause-chains c = IfOk-from_err c.from_residual-in_err-resources.result _ c.from_residual-in_err-resources.ensures.0

pub returns-in_err-entities-clause-keys : goal.returns-in_err-entities-clause-keys
returns-in_err-entities-clause-keys c = IfOk-from_err c.from_residual-in_err-entities.result _ c.from_residual-in_err-entities.ensures.0

pub returns-in_err-entities-clause-resources : goal.returns-in_err-entities-clause-resources
returns-in_err-entities-clause-resources c = IfOk-from_err c.from_residual-in_err-entities.result _ c.from_residual-in_err-entities.ensures.0

pub returns-in_err-entities-clause-entities : goal.returns-in_err-entities-clause-entities
returns-in_err-entities-clause-entities c = IfOk-from_err c.from_residual-in_err-entities.result _ c.from_residual-in_err-entities.ensures.0

pub returns-in_err-entities-clause-sets : goal.returns-in_err-entities-clause-sets
returns-in_err-entities-clause-sets c = IfOk-from_err c.from_residual-in_err-entities.result _ c.from_residual-in_err-entities.ensures.0

pub returns-in_err-entities-clause-systems : goal.returns-in_err-entities-clause-systems
returns-in_err-entities-clause-systems c = IfOk-from_err c.from_residual-in_err-entities.result _ c.from_residual-in_err-entities.ensures.0

pub returns-in_err-entities-clause-chains : goal.returns-in_err-entities-clause-chains
returns-in_err-entities-clause-chains c = IfOk-from_err c.from_residual-in_err-entities.result _ c.from_residual-in_err-entities.ensures.0

pub returns-in_err-entities-clause-err : goal.returns-in_err-entities-clause-err
returns-in_err-entities-clause-err c = handed_on IsOfPlace c.from_residual-in_err-entities.result c.in_err-entities.field-0.0 c.from_residual-in_err-entities.ensures.1 c.in_err-entities.ensures.err

pub returns-in_err-sets-clause-keys : goal.returns-in_err-sets-clause-keys
returns-in_err-sets-clause-keys c = IfOk-from_err c.from_residual-in_err-sets.result _ c.from_residual-in_err-sets.ensures.0

pub returns-in_err-sets-clause-resources : goal.returns-in_err-sets-clause-resources
returns-in_err-sets-clause-resources c = IfOk-from_err c.from_residual-in_err-sets.result _ c.from_residual-in_err-sets.ensures.0

pub returns-in_err-sets-clause-entities : goal.returns-in_err-sets-clause-entities
returns-in_err-sets-clause-entities c = IfOk-from_err c.from_residual-in_err-sets.result _ c.from_residual-in_err-sets.ensures.0

pub returns-in_err-sets-clause-sets : goal.returns-in_err-sets-clause-sets
returns-in_err-sets-clause-sets c = IfOk-from_err c.from_residual-in_err-sets.result _ c.from_residual-in_err-sets.ensures.0

pub returns-in_err-sets-clause-systems : goal.returns-in_err-sets-clause-systems
returns-in_err-sets-clause-systems c = IfOk-from_err c.from_residual-in_err-sets.result _ c.from_residual-in_err-sets.ensures.0

pub returns-in_err-sets-clause-chains : goal.returns-in_err-sets-clause-chains
returns-in_err-sets-clause-chains c = IfOk-from_err c.from_residual-in_err-sets.result _ c.from_residual-in_err-sets.ensures.0

pub returns-in_err-sets-clause-err : goal.returns-in_err-sets-clause-err
returns-in_err-sets-clause-err c = handed_on IsOfPlace c.from_residual-in_err-sets.result c.in_err-sets.field-0.0 c.from_residual-in_err-sets.ensures.1 c.in_err-sets.ensures.err

pub returns-in_err-systems-clause-keys : goal.returns-in_err-systems-clause-keys
returns-in_err-systems-clause-keys c = IfOk-from_err c.from_residual-in_err-systems.result _ c.from_residual-in_err-systems.ensures.0

pub returns-in_err-systems-clause-resources : goal.returns-in_err-systems-clause-resources
returns-in_err-systems-clause-resources c = IfOk-from_err c.from_residual-in_err-systems.result _ c.from_residual-in_err-systems.ensures.0

pub returns-in_err-systems-clause-entities : goal.returns-in_err-systems-clause-entities
returns-in_err-systems-clause-entities c = IfOk-from_err c.from_residual-in_err-systems.result _ c.from_residual-in_err-systems.ensures.0

pub returns-in_err-systems-clause-sets : goal.returns-in_err-systems-clause-sets
returns-in_err-systems-clause-sets c = IfOk-from_err c.from_residual-in_err-systems.result _ c.from_residual-in_err-systems.ensures.0

pub returns-in_err-systems-clause-systems : goal.returns-in_err-systems-clause-systems
returns-in_err-systems-clause-systems c = IfOk-from_err c.from_residual-in_err-systems.result _ c.from_residual-in_err-systems.ensures.0

pub returns-in_err-systems-clause-chains : goal.returns-in_err-systems-clause-chains
returns-in_err-systems-clause-chains c = IfOk-from_err c.from_residual-in_err-systems.result _ c.from_residual-in_err-systems.ensures.0

pub returns-in_err-systems-clause-err : goal.returns-in_err-systems-clause-err
returns-in_err-systems-clause-err c = handed_on IsOfPlace c.from_residual-in_err-systems.result c.in_err-systems.field-0.0 c.from_residual-in_err-systems.ensures.1 c.in_err-systems.ensures.err

pub returns-in_err-chains-clause-keys : goal.returns-in_err-chains-clause-keys
returns-in_err-chains-clause-keys c = IfOk-from_err c.from_residual-in_err-chains.result _ c.from_residual-in_err-chains.ensures.0

pub returns-in_err-chains-clause-resources : goal.returns-in_err-chains-clause-resources
returns-in_err-chains-clause-resources c = IfOk-from_err c.from_residual-in_err-chains.result _ c.from_residual-in_err-chains.ensures.0

pub returns-in_err-chains-clause-entities : goal.returns-in_err-chains-clause-entities
returns-in_err-chains-clause-entities c = IfOk-from_err c.from_residual-in_err-chains.result _ c.from_residual-in_err-chains.ensures.0

pub returns-in_err-chains-clause-sets : goal.returns-in_err-chains-clause-sets
returns-in_err-chains-clause-sets c = IfOk-from_err c.from_residual-in_err-chains.result _ c.from_residual-in_err-chains.ensures.0

pub returns-in_err-chains-clause-systems : goal.returns-in_err-chains-clause-systems
returns-in_err-chains-clause-systems c = IfOk-from_err c.from_residual-in_err-chains.result _ c.from_residual-in_err-chains.ensures.0

pub returns-in_err-chains-clause-chains : goal.returns-in_err-chains-clause-chains
returns-in_err-chains-clause-chains c = IfOk-from_err c.from_residual-in_err-chains.result _ c.from_residual-in_err-chains.ensures.0

pub returns-in_err-chains-clause-err : goal.returns-in_err-chains-clause-err
returns-in_err-chains-clause-err c = handed_on IsOfPlace c.from_residual-in_err-chains.result c.in_err-chains.field-0.0 c.from_residual-in_err-chains.ensures.1 c.in_err-chains.ensures.err
