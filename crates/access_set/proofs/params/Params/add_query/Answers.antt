use Rattle.std.proofs.Common.{List, [], ◌∷◌, ◌++◌, subst, sym}
use Rattle.model.specs.access.Query.{Term}
use Rattle.access_set.specs.declared.footprint.Footprint.{Footprint}
use Rattle.access_set.specs.Footprints.{AreFootprints}
use Rattle.access_set.proofs.Footprints.{footprints_more}
use Rattle.access_set.proofs.ParamParts.{on_error, queries_kept, query_added}
use Rattle.access_set.proofs.params.Params.add_query.Goals as goal

pub invariant_of-self-in_default : goal.invariant_of-self-in_default
invariant_of-self-in_default c =
    let queries : List (List Term) = c.self.inside.queries.items in
    let query : List Term = c.args.query in
    subst (λ (qs : List (List Term)). AreFootprints qs c.push.new.self.items) (sym c.in_default.ensures.items)
    (subst (λ (fs : List Footprint). AreFootprints (queries ++ query ∷ []) fs) (sym c.in_ok-push.ensures.items)
    (footprints_more queries c.self.inside.footprints.items query c.in_ok-of_query.field-0 c.self.invariant c.in_ok-of_query.ensures))

pub returns-in_err-of_query-clause-err : goal.returns-in_err-of_query-clause-err
returns-in_err-of_query-clause-err c = on_error _ c.from_residual.result c.self.view_is

pub invariant_of-self-in_err-push : goal.invariant_of-self-in_err-push
invariant_of-self-in_err-push c = subst (λ (fs : List Footprint). AreFootprints c.self.inside.queries.items fs) (sym c.in_err-push.ensures.items) c.self.invariant

pub returns-in_err-push-clause-err : goal.returns-in_err-push-clause-err
returns-in_err-push-clause-err c = on_error _ c.from_residual-in_err-push.result c.self.view_is

pub returns-in-Err-clause-err : goal.returns-in-Err-clause-err
returns-in-Err-clause-err c =
    queries_kept c.self.inside.queries.items c.push-2.new.self.items c.self.inside.res.items c.self.inside.res_mut.items c.self.inside.reads.items c.self.inside.writes.items
    c.self.inside.spawns c.args.self.now c.self.view_is c.in-Err.ensures.items

pub returns-clause-ok : goal.returns-clause-ok
returns-clause-ok c =
    query_added c.self.inside.queries.items c.push-2.new.self.items c.args.query c.self.inside.res.items c.self.inside.res_mut.items c.self.inside.reads.items c.self.inside.writes.items
    c.self.inside.spawns c.args.self.now c.self.view_is c.in_default.ensures.items
