use Rattle.std.proofs.Common.{List, take, inl, inr, subst, sym, ◌∙◌}
use Rattle.std.proofs.lemmas.List.{take_more}
use Rattle.model.specs.Lists.{IsIn}
use Rattle.model.specs.access.Query.{Term}
use Rattle.model.proofs.lists.Lists.{IsIn-append}
use Rattle.access_set.specs.Datum.{AreKnownKinds}
use Rattle.access_set.proofs.datum.are_known_kinds.Goals as goal

pub loop-query-preserved : goal.loop-query-preserved
loop-query-preserved c = λ query i.
    let queries : List (List Term) = c.args.queries.now in
    let one : List Term = c.query-item.result in
    let n = c.loop-query.query-index in
    elim (IsIn-append query (take n queries) _ (subst (λ (xs : List (List Term)). IsIn query xs) (take_more queries n one c.loop-query-test.true) i)) [
      | inl old ↦ c.loop-query.invariant query old
      | inr new ↦ elim new [
        | inl same ↦ subst AreKnownKinds (c.query-item.is ∙ sym same) c.are_known_kinds_of.ensures
        | inr never ↦ absurd never
      ]
    ]
