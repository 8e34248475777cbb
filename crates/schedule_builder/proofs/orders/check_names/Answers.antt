use Rattle.std.proofs.Common.{◌<◌, ◌≤◌, string_bytes, sym, subst, arith}
use Rattle.model.specs.declarations.Declarations.{number_of}
use Rattle.model.specs.declarations.Walks.{EachIs}
use Rattle.model.specs.declarations.Refusals.{IsKnown}
use Rattle.model.proofs.lists.Firsts.{each_more, each_all}
use Rattle.schedule_builder.proofs.Lookups.{with_bound, bounded-names, is_known, lacks_here}
use Rattle.schedule_builder.proofs.orders.check_names.Goals as goal

pub returns-then-place_of-bound-clause-lacking : goal.returns-then-place_of-bound-clause-lacking
returns-then-place_of-bound-clause-lacking c =
    let d = c.args.desc.now in
    let high : c.args.bound ≤ number_of d (string_bytes c.name-item.result) = omega (arith, c.place_of.ensures) in
    lacks_here d c.args.bound c.args.names.now c.loop-name.name-index c.name-item.result c.in_ok-clone.field-0 c.requires.few (omega arith) c.name-item.is c.loop-name.invariant high c.in_ok-clone.ensures.cases

pub loop-name-preserved : goal.loop-name-preserved
loop-name-preserved c =
    let d = c.args.desc.now in
    let low : number_of d (string_bytes c.name-item.result) < c.args.bound = omega (arith, c.place_of.ensures) in
    each_more (IsKnown d) (with_bound c.args.bound) c.args.names.now c.loop-name.name-index c.name-item.result (omega arith) c.name-item.is c.loop-name.invariant
    (is_known d c.args.bound (string_bytes c.name-item.result) c.requires.few low)

pub returns-clause-known : goal.returns-clause-known
returns-clause-known c =
    let d = c.args.desc.now in
    subst (λ ys. EachIs (IsKnown d) ys) (sym (bounded-names c.args.bound c.args.names.now))
    (each_all (IsKnown d) (with_bound c.args.bound) c.args.names.now c.loop-name.name-index (omega arith) c.loop-name.invariant)
