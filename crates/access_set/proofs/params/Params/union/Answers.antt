use Rattle.std.proofs.Common.{List, ◌++◌, subst, sym}
use Rattle.std.proofs.lemmas.Result.{IfOk-from_err}
use Rattle.model.specs.access.Query.{Term}
use Rattle.access_set.specs.declared.footprint.Footprint.{Footprint}
use Rattle.access_set.specs.Footprints.{AreFootprints}
use Rattle.access_set.proofs.Footprints.{footprints_both}
use Rattle.access_set.proofs.ParamParts.{union_seen}
use Rattle.access_set.proofs.params.Params.union.Goals as goal

pub invariant_of-result : goal.invariant_of-result
invariant_of-result c =
    let queries : List (List Term) = c.self.inside.queries.items in
    let others : List (List Term) = c.other.inside.queries.items in
    subst (λ (qs : List (List Term)). AreFootprints qs c.append-2.new.self.items) (sym c.in_ok-append.ensures.items)
    (subst (λ (fs : List Footprint). AreFootprints (queries ++ others) fs) (sym c.in_ok-append-2.ensures.items)
    (footprints_both queries others c.self.inside.footprints.items c.other.inside.footprints.items c.self.invariant c.other.invariant))

pub returns-in_err-append : goal.returns-in_err-append
returns-in_err-append c = IfOk-from_err c.from_residual.result _ c.from_residual.ensures.0

pub returns-in_err-append-2 : goal.returns-in_err-append-2
returns-in_err-append-2 c = IfOk-from_err c.from_residual-in_err-append-2.result _ c.from_residual-in_err-append-2.ensures.0

pub returns-in_err-append-3 : goal.returns-in_err-append-3
returns-in_err-append-3 c = IfOk-from_err c.from_residual-in_err-append-3.result _ c.from_residual-in_err-append-3.ensures.0

pub returns-in_err-append-4 : goal.returns-in_err-append-4
returns-in_err-append-4 c = IfOk-from_err c.from_residual-in_err-append-4.result _ c.from_residual-in_err-append-4.ensures.0

pub returns-in_err-append-5 : goal.returns-in_err-append-5
returns-in_err-append-5 c = IfOk-from_err c.from_residual-in_err-append-5.result _ c.from_residual-in_err-append-5.ensures.0

pub returns-in_err-append-6 : goal.returns-in_err-append-6
returns-in_err-append-6 c = IfOk-from_err c.from_residual-in_err-append-6.result _ c.from_residual-in_err-append-6.ensures.0

pub returns : goal.returns
returns c =
    union_seen c.args.self c.args.other c.self.inside.queries.items c.other.inside.queries.items c.append.new.self.items
    c.self.inside.res.items c.other.inside.res.items c.append-3.new.self.items c.self.inside.res_mut.items c.other.inside.res_mut.items c.append-4.new.self.items
    c.self.inside.reads.items c.other.inside.reads.items c.append-5.new.self.items c.self.inside.writes.items c.other.inside.writes.items c.append-6.new.self.items
    c.self.inside.spawns c.other.inside.spawns c.self.view_is c.other.view_is
    c.in_ok-append.ensures.items c.in_ok-append-3.ensures.items c.in_ok-append-4.ensures.items c.in_ok-append-5.ensures.items c.in_ok-append-6.ensures.items
