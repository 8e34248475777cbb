-- Two words are needed.
use Rattle.std.proofs.Common.{map, sym, subst}
use Rattle.parsing.specs.Reads.{SpellsNone}
use Rattle.requests.specs.declared.command.Command.TheVariants as command
use Rattle.requests.specs.Grammar.{AreArguments}
use Rattle.requests.proofs.ArgumentTexts.{not_pair}
use Rattle.requests.proofs.arguments.set.Goals as goal

pub returns-in_err-name : goal.returns-in_err-name
returns-in_err-name c =
    rw c.from_residual.ensures (λ v h. not_pair (λ ws. AreArguments command.Set v ws) (map (λ word. word.now) c.args.words.now) (λ k. k) (λ w k. k) (λ w x y more k. k) c.in_err-name.ensures h)

pub returns-in_err-read_integer : goal.returns-in_err-read_integer
returns-in_err-read_integer c =
    rw c.from_residual-in_err-read_integer.ensures (subst (λ ws. SpellsNone (AreArguments command.Set) ws) (sym c.in_ok-name.ensures.0) (λ v h. c.in_err-read_integer.ensures h.1 h.3))
