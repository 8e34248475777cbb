use Rattle.std.proofs.Common.{ℕ, List, Vec, subst}
use Rattle.std.specs.declared.alloc.Global.{Global}
use Rattle.ambiguity_report.specs.declared.report.Pair.{Pair}
use Rattle.lints.specs.Lints.{AreLints}
use Rattle.ecsview.proofs.explained.found_of.Goals as goal

-- by the tables, the schedule, the members of the sets and the report
pub returns : goal.returns
returns c = record {
  tables = c.in-Ok.tables;
  read = record {
    resources = c.in-Ok.ensures.resources;
    entities = c.in-Ok.ensures.entities;
    sets = c.in-Ok.ensures.sets;
    systems = c.in-Ok.ensures.systems;
    chains = c.in-Ok.ensures.chains;
  };
  pairs = c.in_ok-pairs.pairs.items;
  report = c.in_ok-pairs.ensures;
  lints =
      subst (λ (members : List (Vec ℕ Global)). AreLints c.in-Ok.tables c.args.loaded.now.file.built members c.in_ok-pairs.pairs.items c.in_ok-found.found.items) c.as_slice-members.ensures.value
      (subst (λ (pairs : List Pair). AreLints c.in-Ok.tables c.args.loaded.now.file.built c.as_slice-members.result.now pairs c.in_ok-found.found.items) c.as_slice.ensures.value c.in_ok-found.ensures);
}
