-- A system of which no query is at fault.
use Rattle.std.proofs.Common.{◌≡◌, List, [], None, get_or, ◌∙◌, ap, subst, below_more}
use Rattle.model.specs.access.Query.{Term}
use Rattle.model.specs.declarations.Declarations.{DeclaredSystem}
use Rattle.model.specs.access.QueryFaults.{query_fault}
use Rattle.model.specs.declarations.Refusals.{query_of}
use Rattle.schedule_builder.proofs.Faults.{good_at}
use Rattle.schedule_builder.proofs.query_faults.first_bad.Goals as goal

pub loop-system-preserved : goal.loop-system-preserved
loop-system-preserved c = λ m k l.
    let d = c.args.desc.now in
    let read = c.queries.ensures.queries ∙ (ap (λ params. params.queries) c.params.ensures ∙ ap (λ (s : DeclaredSystem). s.params.queries) c.system.ensures) in
    below_more (λ n. query_fault (query_of d n k) ≡ None) c.loop-system.system (λ n b. c.loop-system.invariant n k b)
    (subst (λ (qs : List (List Term)). query_fault (get_or qs k []) ≡ None) read (good_at c.queries.result.now c.in-None.ensures k)) m l
