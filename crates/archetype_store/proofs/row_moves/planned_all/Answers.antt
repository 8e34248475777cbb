use Rattle.archetype_store.proofs.Common.{◌++◌, [], ◌∷◌, map, sym, ap, ap₂, subst, ◌∙◌, map-append, take_more, AllByRecursion, each-append, each-weaker, change_of, IsPlanned}
use Rattle.archetype_store.proofs.TableGrowth.{grown_trans, planned_kept}
use Rattle.archetype_store.proofs.row_moves.planned_all.Goals as goal

pub loop-change-preserved : goal.loop-change-preserved
loop-change-preserved c =
    let v = c.loop-change.rows in
    let w = c.planned.new.rows in
    let i = c.loop-change.invariant in
    record {
      found = c.planned.ensures.found;
      grown = grown_trans c.args.rows.now.tables v.tables w.tables i.grown c.planned.ensures.grown;
      same = λ k. c.planned.ensures.same k ∙ i.same k;
      changes = ap (map change_of) c.in_ok-push.ensures.items ∙ map-append change_of c.loop-change.moves.items _
          ∙ ap₂ (λ xs x. xs ++ x ∷ []) i.changes (c.in_ok-planned.ensures.change ∙ c.change-item.is) ∙ sym (take_more c.args.changes.now c.loop-change.change-index c.change-item.result c.loop-change-test.true);
      planned = subst (AllByRecursion (IsPlanned w.tables w.places)) (sym c.in_ok-push.ensures.items)
          (each-append (IsPlanned w.tables w.places) c.loop-change.moves.items _
          (each-weaker (IsPlanned v.tables v.places) (IsPlanned w.tables w.places)
          (λ m plan. planned_kept v.tables w.tables v.places w.places m c.planned.ensures.grown c.planned.ensures.same c.planned.ensures.longer plan) c.loop-change.moves.items i.planned)
          (c.in_ok-planned.ensures.planned, tt));
    }
