-- What is inside ends at the next closing bracket.
use Rattle.std.proofs.Common.{lit<}
use Rattle.std.proofs.lemmas.Str.Pattern.{split_parts}
use Rattle.parsing.specs.Words.{Lacks}
use Rattle.run_condition.specs.Grammar.{IsLeaf}
use Rattle.run_condition.specs.Fronts.{InBrackets}
use Rattle.run_condition.proofs.Readers.{rest_refused}
use Rattle.run_condition.proofs.Leaves.{held_open, held_not_closed, held_only, held_refuses}
use Rattle.run_condition.proofs.reading.read_held.Goals as goal

pub returns-in-None : goal.returns-in-None
returns-in-None c = held_open (λ x. IsLeaf x c.args.word) c.args.text.now (rw c.in-None.is at (split_parts 41 c.args.text.now c.split_once.result c.split_once.ensures.cases (lit< tt)))

pub returns-in-None-closed : goal.returns-in-None-closed
returns-in-None-closed c =
    let parts = rw c.in-Some.is at (split_parts 41 c.args.text.now c.split_once.result c.split_once.ensures.cases (lit< tt)) in
    held_not_closed (λ x. IsLeaf x c.args.word) c.args.text.now c.in-Some.inside.now c.in-Some.after.now parts.0 parts.1 c.in-None-closed.ensures

pub returns-in_err-read_leaf-in-Some-closed : goal.returns-in_err-read_leaf-in-Some-closed
returns-in_err-read_leaf-in-Some-closed c =
    let parts = rw c.in-Some.is at (split_parts 41 c.args.text.now c.split_once.result c.split_once.ensures.cases (lit< tt)) in
    rest_refused (InBrackets (λ x inside. Lacks 41 inside × IsLeaf x c.args.word inside)) c.args.text.now c.from_residual.result _ c.from_residual.ensures.1
    (held_refuses (λ x. IsLeaf x c.args.word) c.args.text.now c.in-Some.inside.now c.in-Some.after.now parts.0 parts.1 _ c.in_err-read_leaf-in-Some-closed.ensures)

pub returns-in_ok-read_leaf-in-Some-closed : goal.returns-in_ok-read_leaf-in-Some-closed
returns-in_ok-read_leaf-in-Some-closed c =
    let parts = rw c.in-Some.is at (split_parts 41 c.args.text.now c.split_once.result c.split_once.ensures.cases (lit< tt)) in
    held_only (λ x. IsLeaf x c.args.word) c.args.text.now c.in-Some.inside.now c.in-Some.after.now parts.0 parts.1 _ _ c.in-Some-closed.ensures c.in_ok-read_leaf-in-Some-closed.ensures
