-- Systems whose keys were looked at, and whose texts then were read.
use Rattle.std.proofs.Common.{◌≡◌, ℕ, Bor, List, Option, map, codes, subst, sym}
use Rattle.std.specs.Prelude.{Vec}
use Rattle.std.specs.declared.alloc.Global.{Global}
use Rattle.toml.specs.Data.{Members}
use Rattle.kinds.specs.declared.res.Res.{Res}
use Rattle.kinds.specs.declared.res.Event.{Event}
use Rattle.query.specs.Grammar.{IsQuery}
use Rattle.query.specs.declared.query.Query.{Query}
use Rattle.run_condition.specs.declared.cond.Cond.{Cond}
use Rattle.script.specs.declared.instruction.Instruction.{Instruction}
use Rattle.program_file.specs.Faults.{HasSystem, HasSystemKeys, HasTouchedKeys}
use Rattle.program_file.specs.Keys.{HasEvents, HasNumber, HasResources}
use Rattle.program_file.specs.Tables.{AreTextsOf, IsSystemIn, IsSystemRead, IsSystemTextsIn}
use Rattle.program_file.specs.declared.program_file.SystemTable.{SystemTable}
use Rattle.program_file.specs.declared.program_file.SystemTexts.{SystemTexts}
use Rattle.program_file.proofs.Blocks.{blocks-keys, blocks-read}
use Rattle.program_file.proofs.Items.{item-read, texts-keys}
use Rattle.program_file.proofs.Refusals.{spelled-one}
use Rattle.program_file.proofs.Unread.{blocks-code, conditions-of}

-- lists that are moved are those of the same key
res-moved : (key : List ℕ) (table : Members) (old new : Vec Res Global) → new ≡ old → HasResources key old.items table → HasResources key new.items table
res-moved key table old new is h = subst (λ (res : Vec Res Global). HasResources key res.items table) (sym is) h

events-moved : (key : List ℕ) (table : Members) (old new : Vec Event Global) → new ≡ old → HasEvents key old.items table → HasEvents key new.items table
events-moved key table old new is h = subst (λ (events : Vec Event Global). HasEvents key events.items table) (sym is) h

-- a system whose keys were looked at, and whose texts then were read
pub system-read : (table : Members) (texts : SystemTexts) (system : SystemTable) → IsSystemTextsIn table texts → IsSystemRead texts system → IsSystemIn table system
system-read table texts system there read = record {
  only = there.only;
  item = item-read table texts.item system.item there.item read.item;
  queries = record { texts = map (λ text. text.now) texts.queries.items; there = there.queries; spelled = read.queries };
  touched = record {
    res = res-moved (codes "res") table texts.touched.res system.res read.res there.touched.res;
    res_mut = res-moved (codes "res_mut") table texts.touched.res_mut system.res_mut read.res_mut there.touched.res_mut;
    reads = events-moved (codes "reads") table texts.touched.reads system.reads read.reads there.touched.reads;
    writes = events-moved (codes "writes") table texts.touched.writes system.writes read.writes there.touched.writes;
    spawns = subst (λ (spawns : Option ℕ). HasNumber (codes "spawns") spawns table) (sym read.spawns) there.touched.spawns;
  };
  blocks = blocks-read table texts.blocks.items system.blocks.items there.blocks read.blocks;
}

-- the keys of a system that were looked at
pub system-keys : (table : Members) (texts : SystemTexts) → IsSystemTextsIn table texts → HasSystemKeys table
system-keys table texts h = record {
  only = h.only;
  item = texts-keys table texts.item h.item;
  queries = (map (λ (text : Bor (List ℕ)). text.now) texts.queries.items, h.queries);
  res = (texts.touched.res.items, h.touched.res);
  res_mut = (texts.touched.res_mut.items, h.touched.res_mut);
  reads = (texts.touched.reads.items, h.touched.reads);
  writes = (texts.touched.writes.items, h.touched.writes);
  spawns = (texts.touched.spawns, h.touched.spawns);
  blocks = blocks-keys table texts.blocks.items h.blocks;
}

-- what it touches is a part of its keys
pub touched-keys : (table : Members) → HasSystemKeys table → HasTouchedKeys table
touched-keys table keys = record { res = keys.res; res_mut = keys.res_mut; reads = keys.reads; writes = keys.writes; spawns = keys.spawns }

-- what its texts spell, where a system has this table
pub texts-of : (table : Members) (texts : SystemTexts) → IsSystemTextsIn table texts → HasSystem table → (spelled : List Cond × List Query × List (List Instruction)) × AreTextsOf texts spelled
texts-of table texts there (system, is) =
    let (code, each) = blocks-code table texts.blocks.items system.blocks.items there.blocks is.blocks in (
      (system.item.conditions.items, system.queries.items, code),
      record {
        conditions = conditions-of table texts.item system.item.conditions.items there.item is.item.conditions;
        queries = spelled-one IsQuery (codes "query") table texts.queries.items is.queries.texts system.queries.items there.queries is.queries.there is.queries.spelled;
        code = each;
      },
    )
