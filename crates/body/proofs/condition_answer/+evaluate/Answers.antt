use Rattle.std.proofs.Common.{List}
use Rattle.model.specs.access.Query.{Term}
use Rattle.query_plan.specs.Standing.{ArePickedHome}
use Rattle.run_condition.specs.Tree.{condition_of}
use Rattle.body.proofs.Readers.{within_is, inner_of_not, first_of_and, second_of_and, first_of_or, second_of_or}
use Rattle.body.proofs.condition_answer.+evaluate.Goals as goal

pub evaluate-requires : goal.evaluate-requires
evaluate-requires t c =
    let P : List Term → Type 0 = λ query. ArePickedHome query c.args.world.now.layout in
    within_is P t _ _ _ _ (inner_of_not P (condition_of c.in-Not.inner.value)) c.deref.ensures c.in-Not.is c.decreases c.requires.home

pub evaluate-requires-in-And : goal.evaluate-requires-in-And
evaluate-requires-in-And t c =
    let P : List Term → Type 0 = λ query. ArePickedHome query c.args.world.now.layout in
    within_is P t _ _ _ _ (first_of_and P (condition_of c.in-And.left.value) (condition_of c.in-And.right.value)) c.deref-in-And.ensures c.in-And.is c.decreases c.requires.home

pub evaluate-requires-in-And-2 : goal.evaluate-requires-in-And-2
evaluate-requires-in-And-2 t c =
    let P : List Term → Type 0 = λ query. ArePickedHome query c.args.world.now.layout in
    within_is P t _ _ _ _ (second_of_and P (condition_of c.in-And.left.value) (condition_of c.in-And.right.value)) c.deref-in-And-2.ensures c.in-And.is c.decreases c.requires.home

pub evaluate-requires-in-Or : goal.evaluate-requires-in-Or
evaluate-requires-in-Or t c =
    let P : List Term → Type 0 = λ query. ArePickedHome query c.args.world.now.layout in
    within_is P t _ _ _ _ (first_of_or P (condition_of c.in-Or.left.value) (condition_of c.in-Or.right.value)) c.deref-in-Or.ensures c.in-Or.is c.decreases c.requires.home

pub evaluate-requires-in-Or-2 : goal.evaluate-requires-in-Or-2
evaluate-requires-in-Or-2 t c =
    let P : List Term → Type 0 = λ query. ArePickedHome query c.args.world.now.layout in
    within_is P t _ _ _ _ (second_of_or P (condition_of c.in-Or.left.value) (condition_of c.in-Or.right.value)) c.deref-in-Or-2.ensures c.in-Or.is c.decreases c.requires.home
