-- Two words are needed.
use Rattle.std.proofs.Common.{map, refl, sym, subst, ◌∙◌}
use Rattle.model.specs.sessions.Inputs.Input.{Remove}
use Rattle.kinds.specs.Kind.{kind_number}
use Rattle.parsing.specs.Reads.{SpellsNone, SpellsOnly}
use Rattle.requests.specs.declared.command.Command.TheVariants as command
use Rattle.requests.specs.Asked.Asked.{Put}
use Rattle.requests.specs.Grammar.{AreArguments}
use Rattle.requests.proofs.ArgumentTexts.{not_pair}
use Rattle.requests.proofs.arguments.remove.Goals as goal

pub returns-in_err-id : goal.returns-in_err-id
returns-in_err-id c =
    rw c.from_residual.ensures (λ v h. not_pair (λ ws. AreArguments command.Remove v ws) (map (λ word. word.now) c.args.words.now) (λ k. k) (λ w k. k) (λ w x y more k. k) c.in_err-id.ensures h)

pub returns-in_err-read_id : goal.returns-in_err-read_id
returns-in_err-read_id c =
    rw c.from_residual-in_err-read_id.ensures (subst (λ ws. SpellsNone (AreArguments command.Remove) ws) (sym c.in_ok-id.ensures.0) (λ v h. c.in_err-read_id.ensures h.0 h.2))

pub returns : goal.returns
returns c =
    let e = c.in_ok-read_id.field-0 in
    let kind = c.in_ok-named.field-0 in
    let one = c.in_ok-read_id.ensures in
    let named = c.in_ok-named.ensures in
    subst (λ ws. SpellsOnly (AreArguments command.Remove) ws (Put (Remove e (kind_number kind)))) (sym c.in_ok-id.ensures.0) (
      (e, kind, one.0, named.0, refl),
      λ v h. h.4 ∙ (λ i. Put (Remove (one.1 h.0 h.2 i) (kind_number (named.1 h.1 h.3 i)))),
    )
