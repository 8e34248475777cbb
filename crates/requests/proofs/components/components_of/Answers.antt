-- What is behind the components that were read is read on.
use Rattle.std.proofs.Common.{ℕ, ◌+◌, List, [], ◌∷◌, map, drop, sym, ap, subst, ◌∙◌, arith}
use Rattle.std.proofs.lemmas.List.{length-map, map-append}
use Rattle.parsing.specs.Reads.{SpellsOnly, SpellsNone}
use Rattle.body.specs.Inputs.{given_by}
use Rattle.requests.specs.Parts.{BeginsWithComponent}
use Rattle.requests.proofs.ComponentTexts.{HasRead, read_more, read_none, read_all, slice_behind}
use Rattle.requests.proofs.components.components_of.Goals as goal

pub returns-in_default-clause-err : goal.returns-in_default-clause-err
returns-in_default-clause-err c =
    let long = length-map c.args.words.now (λ word. word.now) in
    read_none (map (λ word. word.now) c.args.words.now) c.loop-taken.taken _ c.loop-taken.invariant (omega (arith, long, c.loop-taken-test.true))
    (subst (λ rest. SpellsNone BeginsWithComponent rest) (slice_behind (λ word. word.now) c.args.words.now c.loop-taken.taken) c.in_default.ensures)

pub loop-taken-preserved : goal.loop-taken-preserved
loop-taken-preserved c =
    let ws : List (List ℕ) = map (λ word. word.now) c.args.words.now in
    let long = length-map c.args.words.now (λ word. word.now) in
    let value = c.in-Some.value in
    let one : SpellsOnly BeginsWithComponent (drop c.loop-taken.taken ws) (given_by value, c.in-Some.count) =
    subst (λ rest. SpellsOnly BeginsWithComponent rest (given_by value, c.in-Some.count)) (slice_behind (λ word. word.now) c.args.words.now c.loop-taken.taken) c.in-Some.ensures in
    subst (λ xs. HasRead ws (c.loop-taken.taken + c.in-Some.count) xs) (sym (ap (map given_by) c.in_ok-push.ensures.items ∙ map-append given_by c.loop-taken.values.items (value ∷ [])))
    (read_more ws c.loop-taken.taken (map given_by c.loop-taken.values.items) c.loop-taken.invariant (given_by value) c.in-Some.count (omega (arith, long, c.loop-taken-test.true)) one)

pub returns-clause-ok : goal.returns-clause-ok
returns-clause-ok c =
    let long = length-map c.args.words.now (λ word. word.now) in
    read_all (map (λ word. word.now) c.args.words.now) c.loop-taken.taken _ c.loop-taken.invariant (omega (arith, long, c.loop-taken-test.false))
