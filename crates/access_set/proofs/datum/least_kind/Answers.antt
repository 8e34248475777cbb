use Rattle.std.proofs.Common.{ℕ, ◌≡◌, ◌≤◌, List, get_or, subst, sym, ◌∙◌, arith}
use Rattle.std.proofs.lemmas.Bool.{false≢true}
use Rattle.kinds.specs.declared.kind.Kind.{Kind}
use Rattle.kinds.specs.declared.kind.Kind.TheVariants.{Position}
use Rattle.kinds.specs.Kind.{kind_count, kind_number}
use Rattle.model.specs.Lists.{IsIn}
use Rattle.model.specs.access.Query.{Term}
use Rattle.model.specs.access.Conflict.{ConflictAt}
use Rattle.model.specs.access.Conflict.Datum.{OfKind}
use Rattle.model.proofs.serial.ConflictTests.{conflict-from_test, test-from_conflict}
use Rattle.kinds.proofs.Names.{listed_number, listed_many}
use Rattle.access_set.proofs.Least.{kind_within, none_more, first_is_least, none_is_least}
use Rattle.access_set.proofs.datum.least_kind.Goals as goal

pub returns-then-conflict_at_kind : goal.returns-then-conflict_at_kind
returns-then-conflict_at_kind c =
    let kinds : List Kind = c.every-kind-items.result.now in
    let i : ℕ = c.loop-kind.kind-index in
    let n : ℕ = kind_number (get_or kinds i Position) in
    let same : n ≡ i = omega (arith, listed_number kind_number kinds 0 kind_count i Position c.every-kind-items.ensures c.loop-kind-test.true) in
    first_is_least (λ k. ConflictAt c.args.a.now c.args.b.now (OfKind k)) i n same c.loop-kind.invariant
    (conflict-from_test c.args.a.now c.args.b.now (OfKind n) (sym c.conflict_at_kind.ensures ∙ c.if-conflict_at_kind.true))

pub loop-kind-preserved : goal.loop-kind-preserved
loop-kind-preserved c =
    let kinds : List Kind = c.every-kind-items.result.now in
    let i : ℕ = c.loop-kind.kind-index in
    let n : ℕ = kind_number (get_or kinds i Position) in
    let same : n ≡ i = omega (arith, listed_number kind_number kinds 0 kind_count i Position c.every-kind-items.ensures c.loop-kind-test.true) in
    none_more (λ k. ConflictAt c.args.a.now c.args.b.now (OfKind k)) i n same c.loop-kind.invariant
    (λ p. false≢true (sym c.if-conflict_at_kind.false ∙ (c.conflict_at_kind.ensures ∙ test-from_conflict c.args.a.now c.args.b.now (OfKind n) p)))

pub returns : goal.returns
returns c =
    let past : kind_count ≤ c.loop-kind.kind-index = omega (arith, listed_many kind_number c.every-kind-items.result.now 0 kind_count c.every-kind-items.ensures, c.loop-kind-test.false) in
    none_is_least (λ k. ConflictAt c.args.a.now c.args.b.now (OfKind k)) kind_count c.loop-kind.kind-index past
    (kind_within c.args.a.now c.args.b.now (λ query i. c.are_known_kinds.ensures query (subst (λ (xs : List (List Term)). IsIn query xs) (sym c.queries.ensures.queries) i)))
    c.loop-kind.invariant
