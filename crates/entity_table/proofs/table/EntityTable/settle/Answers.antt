use Rattle.std.proofs.Common.{◌≢◌, get_or, ap, sym, ◌∙◌, subst, arith}
use Rattle.std.proofs.lemmas.List.{get_or_default}
use Rattle.std.proofs.lemmas.List.Sums.{fold_more}
use Rattle.model.specs.declared.entities.Entity.{Entity}
use Rattle.model.specs.Lists.{update_at}
use Rattle.model.specs.state.Commands.{spawned}
use Rattle.entity_table.proofs.Releases.{indices_apart, apart_left, granted-other}
use Rattle.entity_table.proofs.table.EntityTable.settle.Goals as goal

pub loop-e-preserved : goal.loop-e-preserved
loop-e-preserved c =
    let used = c.args.used.now in
    let none : Entity = record { index = 0; generation = 0 } in
    let e : Entity = get_or used c.loop-e.e-index none in
    let i = c.loop-e.invariant in
    let at = c.loop-e-test.true in
    record {
      spawns = c.spawn_at.ensures ∙ ap (update_at e.index (spawned e.generation)) i.spawns
          ∙ sym (fold_more (λ book (x : Entity). update_at x.index (spawned x.generation) book) c.args.self.now used c.loop-e.e-index none at);
      granted = λ k d le l.
          let other : (get_or used c.loop-e.e-index d).index ≢ (get_or used k d).index =
          indices_apart c.args.self.now used c.loop-e.e-index k d c.requires.used (apart_left used c.args.unused.now c.requires.apart) (omega arith) l in
          let here : e.index ≢ (get_or used k d).index = subst (λ (x : Entity). x.index ≢ (get_or used k d).index) (get_or_default used c.loop-e.e-index d none at) other in
          rw c.spawn_at.ensures (granted-other (spawned e.generation) e.index c.loop-e.self (get_or used k d) here (i.granted k d (omega arith) l));
    }
