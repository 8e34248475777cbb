-- An id and a component are needed.
use Rattle.std.proofs.Common.{sym, subst}
use Rattle.parsing.specs.Reads.{SpellsNone, SpellsOnly}
use Rattle.model.specs.sessions.Inputs.Input.{Insert}
use Rattle.kinds.specs.Value.{value_number, value_words}
use Rattle.body.specs.Inputs.{given_by}
use Rattle.requests.specs.declared.command.Command.TheVariants as command
use Rattle.requests.specs.Asked.Asked.{Put}
use Rattle.requests.specs.Grammar.{AreArguments}
use Rattle.requests.proofs.ArgumentTexts.{of_two_up, no_insert, only_insert}
use Rattle.requests.proofs.arguments.insert.Goals as goal

pub returns-in_err-read_id-in-len2-up : goal.returns-in_err-read_id-in-len2-up
returns-in_err-read_id-in-len2-up c =
    rw c.from_residual-in_err-read_id-in-len2-up.ensures (subst (λ ws. SpellsNone (AreArguments command.Insert) ws) (sym (of_two_up (λ word. word.now) c.args.words.now _ c.in-len2-up.len_at_least))
    (no_insert _ _ _ c.in_err-read_id-in-len2-up.ensures))

pub returns-in_ok-read_id-in-len2-up : goal.returns-in_ok-read_id-in-len2-up
returns-in_ok-read_id-in-len2-up c =
    let e = c.in_ok-read_id-in-len2-up.field-0 in
    let value = c.in_ok-value-in-len2-up.value in
    subst (λ ws. SpellsOnly (AreArguments command.Insert) ws (Put (Insert e (value_number value) (value_words value)))) (sym (of_two_up (λ word. word.now) c.args.words.now _ c.in-len2-up.len_at_least))
    (only_insert _ _ _ e c.in_ok-named-in-len2-up.field-0 (given_by value) c.in_ok-value-in-len2-up.ensures.kind c.in_ok-read_id-in-len2-up.ensures c.in_ok-named-in-len2-up.ensures c.in_ok-value-in-len2-up.ensures.fields)
