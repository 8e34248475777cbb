-- Two words are needed.
use Rattle.std.proofs.Common.{map}
use Rattle.requests.specs.declared.command.Command.TheVariants as command
use Rattle.requests.specs.Grammar.{AreArguments}
use Rattle.requests.proofs.ArgumentTexts.{not_pair}
use Rattle.requests.proofs.arguments.events.Goals as goal

pub returns-in_err-name : goal.returns-in_err-name
returns-in_err-name c =
    rw c.from_residual.ensures (λ v h. not_pair (λ ws. AreArguments command.Events v ws) (map (λ word. word.now) c.args.words.now) (λ k. k) (λ w k. k) (λ w x y more k. k) c.in_err-name.ensures h)
