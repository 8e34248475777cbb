-- Items whose keys were looked at, and whose conditions then were read.
use Rattle.std.proofs.Common.{◌≡◌, ℕ, Bor, List, map, codes, subst, sym}
use Rattle.std.specs.Prelude.{Vec}
use Rattle.std.specs.declared.alloc.Global.{Global}
use Rattle.toml.specs.Data.{Members}
use Rattle.program_file.specs.Keys.{HasItemNames, HasText}
use Rattle.tokens.specs.Name.{IsName}
use Rattle.program_file.specs.Tables.{IsItemIn, IsItemTextsIn, IsItemRead}
use Rattle.program_file.specs.declared.program_file.ItemTable.{ItemTable}
use Rattle.program_file.specs.declared.program_file.ItemTexts.{ItemTexts}
use Rattle.program_file.specs.Faults.{HasNameList, HasItemKeys}
use Rattle.program_file.proofs.Unread.{all-seen}
use Rattle.std.proofs.lemmas.List.Elements.{recursion_from_All}

-- names that are moved are those of the same key
names-moved : (key : List ℕ) (table : Members) (old new : Vec (Bor (List ℕ)) Global) → new ≡ old → HasItemNames key old.items table → HasItemNames key new.items table
names-moved key table old new is h = subst (λ (names : Vec (Bor (List ℕ)) Global). HasItemNames key names.items table) (sym is) h

-- an item whose keys were looked at, and whose conditions then were read
pub item-read : (table : Members) (texts : ItemTexts) (item : ItemTable) → IsItemTextsIn table texts → IsItemRead texts item → IsItemIn table item
item-read table texts item there read = record {
  name = subst (λ (name : Bor (List ℕ)). HasText (codes "name") name.now table) (sym read.name) there.name;
  named = subst (λ (name : Bor (List ℕ)). IsName name.now) (sym read.name) there.named;
  inside = names-moved (codes "in") table texts.inside item.inside read.inside there.inside;
  before = names-moved (codes "before") table texts.before item.before read.before there.before;
  after = names-moved (codes "after") table texts.after item.after read.after there.after;
  before_ignore_deferred = names-moved (codes "before_ignore_deferred") table texts.before_ignore_deferred item.before_ignore_deferred read.before_ignore_deferred there.before_ignore_deferred;
  after_ignore_deferred = names-moved (codes "after_ignore_deferred") table texts.after_ignore_deferred item.after_ignore_deferred read.after_ignore_deferred there.after_ignore_deferred;
  ambiguous_with = names-moved (codes "ambiguous_with") table texts.ambiguous_with item.ambiguous_with read.ambiguous_with there.ambiguous_with;
  conditions = record { texts = map (λ text. text.now) texts.conditions.items; there = there.conditions; spelled = read.conditions };
}

-- names at a key, as texts
pub names-list : (key : List ℕ) (names : List (Bor (List ℕ))) (table : Members) → HasItemNames key names table → HasNameList key table
names-list key names table (there, named) =
    (map (λ (name : Bor (List ℕ)). name.now) names, there, all-seen IsName (λ (name : Bor (List ℕ)). name.now) names (recursion_from_All (λ (name : Bor (List ℕ)). IsName name.now) names named))

-- the keys of an item that were looked at
pub texts-keys : (table : Members) (texts : ItemTexts) → IsItemTextsIn table texts → HasItemKeys table
texts-keys table texts h = record {
  name = (texts.name.now, h.name, h.named);
  inside = names-list (codes "in") texts.inside.items table h.inside;
  before = names-list (codes "before") texts.before.items table h.before;
  after = names-list (codes "after") texts.after.items table h.after;
  before_ignore_deferred = names-list (codes "before_ignore_deferred") texts.before_ignore_deferred.items table h.before_ignore_deferred;
  after_ignore_deferred = names-list (codes "after_ignore_deferred") texts.after_ignore_deferred.items table h.after_ignore_deferred;
  ambiguous_with = names-list (codes "ambiguous_with") texts.ambiguous_with.items table h.ambiguous_with;
  conditions = (map (λ text. text.now) texts.conditions.items, h.conditions);
}
